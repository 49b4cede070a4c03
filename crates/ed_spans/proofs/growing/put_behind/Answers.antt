-- The last span is made longer, or there is one more that nothing touches.
use Rattle.std.proofs.Common.{◌≡◌, ◌≢◌, ℕ, ◌-◌, ◌+◌, ◌≤◌, ◌||◌, List, length, set, slice_index_or, arith, sym, subst, ap, ◌∙◌}
use Rattle.std.proofs.lemmas.List.{get_or_default}
use Rattle.ed_base.specs.declared.edit.Span.{Span}
use Rattle.ed_base.specs.Spans.{end_of, holds_place}
use Rattle.ed_spans.specs.SpanSets.{AreApartFrom, in_spans}
use Rattle.ed_spans.proofs.EndLemmas.{apart_at, join_last_apart, join_last_holds, push_apart, longer}
use Rattle.ed_spans.proofs.growing.put_behind.Goals as goal
use Rattle.ed_spans.proofs.growing.put_behind.Goals.{then-count-gt0+else-last-span, else-count-gt0}

-- `t` is the last span, as it was read
module _ (ss : List Span) (s t : Span) (k : ℕ) (is : length ss ≡ k + 1) (read : t ≡ slice_index_or ss k t) where
  last_within : AreApartFrom 0 s.start ss → end_of t ≤ s.start
  last_within apart = rw read (apart_at 0 s.start k ss t apart (omega (arith, is))).1

  longer_apart : AreApartFrom 0 s.start ss → end_of t ≡ s.start → AreApartFrom 0 (end_of s) (set ss k (longer t s))
  longer_apart apart meet = subst (λ (u : Span). AreApartFrom 0 (end_of s) (set ss k (longer u s))) (sym read) (join_last_apart 0 s.start k ss s t is apart (omega arith) (ap end_of (sym read) ∙ meet))

  longer_holds : (q : ℕ) → end_of t ≡ s.start → in_spans (set ss k (longer t s)) q ≡ (in_spans ss q || holds_place s q)
  longer_holds q meet = ap (λ u. in_spans (set ss k (longer u s)) q) read ∙ join_last_holds q k ss s t is (ap end_of (sym read) ∙ meet)

pub overflow_add-last : goal.overflow_add-last
overflow_add-last c =
    let within : end_of c.index-last.result.now ≤ c.args.span.start = last_within c.args.list.now.items c.args.span c.index-last.result.now (c.len-count.result - 1) (omega arith) c.index-last.ensures c.requires.apart in
    omega arith

pub returns-then-last-span-clause-apart : goal.returns-then-last-span-clause-apart
returns-then-last-span-clause-apart c = longer_apart c.args.list.now.items c.args.span c.index-last.result.now (c.len-count.result - 1) (omega arith) c.index-last.ensures c.requires.apart c.if-last-span.true

pub returns-then-last-span-clause-holds : goal.returns-then-last-span-clause-holds
returns-then-last-span-clause-holds c q = longer_holds c.args.list.now.items c.args.span c.index-last.result.now (c.len-count.result - 1) (omega arith) c.index-last.ensures q c.if-last-span.true

apart_last : (ss : List Span) (s t : Span) (j k : ℕ) → length ss ≡ j + 1 → t ≡ slice_index_or ss j t → end_of t ≢ s.start → length ss ≡ k + 1 → end_of (slice_index_or ss k s) ≢ s.start
apart_last ss s t j k is read apart is' meet =
    let same : k ≡ j = omega arith in
    apart (ap end_of (read ∙ get_or_default ss j t s (omega (arith, is))) ∙ ap (λ i. end_of (slice_index_or ss i s)) (sym same) ∙ meet)

pub returns-clause-apart : goal.returns-clause-apart
returns-clause-apart c = elim c.if-count-gt0.branch [
  | then-count-gt0+else-last-span w ↦ rw c.in_ok-push.ensures.items (push_apart 0 c.args.span.start c.args.list.now.items c.args.span c.args.span c.requires.apart (omega arith) (omega arith) (omega arith)
      (λ k is. apart_last c.args.list.now.items c.args.span w.index-last.result.now (c.len-count.result - 1) k (omega arith) w.index-last.ensures (λ e. w.if-last-span.false e) is))
  | else-count-gt0 w ↦ rw c.in_ok-push.ensures.items (push_apart 0 c.args.span.start c.args.list.now.items c.args.span c.args.span c.requires.apart (omega arith) (omega arith) (omega arith) (λ k is. absurd (omega arith)))
]
