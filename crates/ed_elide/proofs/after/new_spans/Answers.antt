use Rattle.std.proofs.Common.{◌≡◌, ℕ, ◌+◌, ◌-◌, ◌<◌, ◌≤◌, ◌^◌, List, [], ◌++◌, length, drop, slice_index_or, refl, sym, ap, subst, ◌∙◌, arith, append_assoc}
use Rattle.std.proofs.lemmas.List.{drop_more}
use Rattle.std.proofs.lemmas.Bool.{le-ltb}
use Rattle.ed_base.specs.declared.edit.Span.{Span}
use Rattle.ed_kept.specs.declared.kept.KeptRun.{KeptRun}
use Rattle.ed_kept.specs.Kept.{ArePairsRising, kept_run, pairs_of, run_pairs}
use Rattle.ed_kept.proofs.Rising.{Behind, rising_weak, rising_within, run_behind}
use Rattle.ed_spans.specs.SpanSets.{before}
use Rattle.ed_elide.specs.AfterStep.{new_spans}
use Rattle.ed_elide.proofs.PutLemmas.{before_front}
use Rattle.ed_elide.proofs.after.new_spans.Goals as goal
use Rattle.ed_elide.proofs.after.new_spans.Goals.{then-run-gt0+in_ok-put, else-run-gt0}

abbrev no_run : KeptRun
no_run = kept_run 0 0 0

module _ (runs : List KeptRun) (at n : ℕ) (below : at < length runs) (rising : ArePairsRising 0 0 n n (pairs_of (drop at runs))) where
  abbrev r : KeptRun
  r = slice_index_or runs at no_run

  behind : 0 < r.len → Behind 0 0 n n r.old r.new r.len (pairs_of (drop (at + 1) runs))
  behind some = run_behind 0 0 n n r (drop (at + 1) runs) (drop at runs) (drop_more runs at no_run below) some rising

  fits : 0 < r.len → r.new + r.len ≤ n
  fits some = (rising_within (r.old + r.len) (r.new + r.len) n n (pairs_of (drop (at + 1) runs)) (behind some).rest).1

  rest : 0 < r.len → ArePairsRising 0 0 n n (pairs_of (drop (at + 1) runs))
  rest some = rising_weak 0 0 (r.old + r.len) (r.new + r.len) n n (pairs_of (drop (at + 1) runs)) (omega arith) (omega arith) (behind some).rest

  rest_empty : r.len ≡ 0 → ArePairsRising 0 0 n n (pairs_of (drop (at + 1) runs))
  rest_empty none = subst (λ ps. ArePairsRising 0 0 n n ps) (ap pairs_of (drop_more runs at no_run below) ∙ ap (λ l. run_pairs r.old r.new l ++ pairs_of (drop (at + 1) runs)) none) rising

  done : (list more whole : List Span) → more ≡ list ++ before r.new (r.new + r.len) [] → list ++ new_spans (drop at runs) ≡ whole → more ++ new_spans (drop (at + 1) runs) ≡ whole
  done list more whole is all =
      ap (λ u. u ++ new_spans (drop (at + 1) runs)) is ∙ append_assoc list (before r.new (r.new + r.len) []) (new_spans (drop (at + 1) runs))
      ∙ ap (λ u. list ++ u) (sym (before_front r.new (r.new + r.len) (new_spans (drop (at + 1) runs)))) ∙ ap (λ rs. list ++ new_spans rs) (sym (drop_more runs at no_run below)) ∙ all

  done_empty : r.len ≡ 0 → (list whole : List Span) → list ++ new_spans (drop at runs) ≡ whole → list ++ new_spans (drop (at + 1) runs) ≡ whole
  done_empty none list whole all = ap (λ u. list ++ u) (sym (ap new_spans (drop_more runs at no_run below) ∙ skip)) ∙ all
    where
      skip : before r.new (r.new + r.len) (new_spans (drop (at + 1) runs)) ≡ new_spans (drop (at + 1) runs)
      skip = rw (le-ltb r.new (r.new + r.len) (omega (arith, none))) refl

pub overflow_add-run : goal.overflow_add-run
overflow_add-run c = omega (arith, fits c.args.runs.now c.loop-run.run-index (2 ^ 32 - 1) c.loop-run-test.true c.loop-run.invariant.rising c.if-run-gt0.true)

pub loop-run-preserved : goal.loop-run-preserved
loop-run-preserved c = elim c.if-run-gt0.branch [
  | then-run-gt0+in_ok-put w ↦ record {
    rising = rest c.args.runs.now c.loop-run.run-index (2 ^ 32 - 1) c.loop-run-test.true c.loop-run.invariant.rising w.if-run-gt0.true;
    done = done c.args.runs.now c.loop-run.run-index (2 ^ 32 - 1) c.loop-run-test.true c.loop-run.invariant.rising c.loop-run.list.items c.if-run-gt0.list.items (new_spans c.args.runs.now) (ap (λ v. v.items) w.list-is ∙ w.in_ok-put.ensures) c.loop-run.invariant.done;
  }
  | else-run-gt0 w ↦ (
      let none : (slice_index_or c.args.runs.now c.loop-run.run-index no_run).len ≡ 0 = omega (arith, w.if-run-gt0.false) in
      record {
        rising = rest_empty c.args.runs.now c.loop-run.run-index (2 ^ 32 - 1) c.loop-run-test.true c.loop-run.invariant.rising none;
        done = ap (λ v. v.items ++ new_spans (drop (c.loop-run.run-index + 1) c.args.runs.now)) w.list-is ∙ done_empty c.args.runs.now c.loop-run.run-index (2 ^ 32 - 1) c.loop-run-test.true c.loop-run.invariant.rising none c.loop-run.list.items (new_spans c.args.runs.now) c.loop-run.invariant.done;
      })
]
