-- The pass is that of the definition.
use Rattle.std.proofs.Common.{◌≡◌, ◌∙◌, ◌^◌, ◌-◌, ◌+◌, drop, slice_index_or, rules, arith, []}
use Rattle.std.proofs.lemmas.List.{nil_from_length}
use Rattle.ed_base.specs.declared.edit.Span.{Span}
use Rattle.ed_spans.specs.SpanSets.{joined}
use Rattle.ed_spans.proofs.JoinLemmas.{joined_apart, joined_holds, joined_runs, join_meets, join_parts, join_last, rising_open, rising_within, rising_earlier}
use Rattle.ed_spans.proofs.joining.join_rising.Goals as goal
use Rattle.ed_spans.proofs.joining.join_rising.Goals.{then-span-open, else-span-open+in_ok-push}

abbrev no_span : Span
no_span = record { start = 0; len = 0 }

pub returns-then-is_empty-clause-runs : goal.returns-then-is_empty-clause-runs
returns-then-is_empty-clause-runs c n within =
    let none : c.args.spans.now ≡ [] = nil_from_length c.args.spans.now (search (rules, c.if-is_empty.ensures)) in rw (c.new-list.ensures.items, none) (joined_runs n [] tt)

pub loop-at-preserved : goal.loop-at-preserved
loop-at-preserved c =
    let inv = c.loop-at.invariant in
    let next = rising_open c.loop-at.at (2 ^ 32 - 1) c.args.spans.now c.loop-at.open no_span c.loop-at-test.true inv.rising in
    elim c.if-span-open.branch [
      | then-span-open w ↦ rw (w.list-is, w.open-is, w.over_both-open.ensures) (record {
        within = omega (arith, inv.within, next.0, next.1.0);
        rising = rising_earlier c.loop-at.open.start (slice_index_or c.args.spans.now c.loop-at.at no_span).start (2 ^ 32 - 1) (drop (c.loop-at.at + 1) c.args.spans.now) next.0 next.1.1;
        done = join_meets c.loop-at.at c.args.spans.now c.loop-at.list.items (joined c.args.spans.now) c.loop-at.open no_span c.loop-at-test.true w.if-span-open.true inv.done;
      })
      | else-span-open+in_ok-push w ↦ rw (w.list-is, w.open-is, w.in_ok-push.ensures.items) (record {
        within = omega (arith, next.1.0);
        rising = next.1.1;
        done = join_parts c.loop-at.at c.args.spans.now c.loop-at.list.items (joined c.args.spans.now) c.loop-at.open no_span c.loop-at-test.true w.if-span-open.false inv.done;
      })
    ]

pub returns-clause-holds : goal.returns-clause-holds
returns-clause-holds c q =
    let is : c.push-2.new.self.items ≡ joined c.args.spans.now = c.in_ok-push-2.ensures.items ∙ join_last c.loop-at.at c.args.spans.now c.loop-at.list.items (joined c.args.spans.now) c.loop-at.open c.loop-at-test.false c.loop-at.invariant.done in rw is (joined_holds (2 ^ 32 - 1) q c.args.spans.now c.requires.rising)

pub returns-clause-apart : goal.returns-clause-apart
returns-clause-apart c n within =
    let is : c.push-2.new.self.items ≡ joined c.args.spans.now = c.in_ok-push-2.ensures.items ∙ join_last c.loop-at.at c.args.spans.now c.loop-at.list.items (joined c.args.spans.now) c.loop-at.open c.loop-at-test.false c.loop-at.invariant.done in rw is (joined_apart n c.args.spans.now (rising_within 0 (2 ^ 32 - 1) n c.args.spans.now c.requires.rising within))

pub returns-clause-runs : goal.returns-clause-runs
returns-clause-runs c n within =
    let is : c.push-2.new.self.items ≡ joined c.args.spans.now = c.in_ok-push-2.ensures.items ∙ join_last c.loop-at.at c.args.spans.now c.loop-at.list.items (joined c.args.spans.now) c.loop-at.open c.loop-at-test.false c.loop-at.invariant.done in rw is (joined_runs n c.args.spans.now (rising_within 0 (2 ^ 32 - 1) n c.args.spans.now c.requires.rising within))
