-- Each round finds what is reached by one step more.
use Rattle.std.proofs.Common.{◌≡◌, ◌+◌, ◌∙◌, suc, ap, arith}
use Rattle.ed_graph.specs.Rounds.{rows_over}
use Rattle.ed_graph.proofs.RoundLemmas.{rows_before, rows_round}
use Rattle.ed_graph.proofs.reaching.reaching.Goals as goal

pub loop-done-preserved : goal.loop-done-preserved
loop-done-preserved c =
    c.in_ok-rows.ensures ∙ (ap (rows_over c.args.lists.now) (c.deref.ensures.value ∙ c.loop-done.invariant)
    ∙ (rows_round c.loop-done.done c.args.lists.now c.requires.within
    ∙ ap (λ k. rows_before k c.args.lists.now) (let e : suc c.loop-done.done ≡ c.loop-done.done + 1 = omega arith in e)))
