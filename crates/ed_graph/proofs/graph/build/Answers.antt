-- What is found by rounds is what the definitions say.
use Rattle.std.proofs.Common.{◌∙◌, ap}
use Rattle.ed_graph.specs.Rounds.{rows_after, up_to_height}
use Rattle.ed_graph.proofs.Shown.{heights_few, top_is, top_fits, kept}
use Rattle.ed_graph.proofs.graph.build.Goals as goal

pub reaching-requires-clause-within : goal.reaching-requires-clause-within
reaching-requires-clause-within c = rw c.deref-2.ensures.value c.requires.levelled.within

pub reaching-requires-clause-steps : goal.reaching-requires-clause-steps
reaching-requires-clause-steps c =
    top_fits c.args.lists.items c.greatest-top.result c.requires.levelled
    (top_is c.args.lists.items c.args.heights.items c.deref.result.now c.greatest-top.result c.greatest-top.ensures c.deref.ensures.value c.requires.heights)

pub ordered-requires-clause-top : goal.ordered-requires-clause-top
ordered-requires-clause-top c =
    top_fits c.args.lists.items c.greatest-top.result c.requires.levelled
    (top_is c.args.lists.items c.args.heights.items c.deref.result.now c.greatest-top.result c.greatest-top.ensures c.deref.ensures.value c.requires.heights)

pub ordered-requires-clause-few : goal.ordered-requires-clause-few
ordered-requires-clause-few c = heights_few c.args.lists.items c.deref-3.result.now c.requires.few (c.deref-3.ensures.value ∙ c.requires.heights)

pub invariant_of-result : goal.invariant_of-result
invariant_of-result c =
    rw (c.in_ok-of.ensures, c.in_ok-of-2.ensures)
    (kept c.args.lists.items c.args.heights.items c.in_ok-rows.rows c.in_ok-order.order c.greatest-top.result c.requires.few c.requires.levelled c.requires.heights
    (top_is c.args.lists.items c.args.heights.items c.deref.result.now c.greatest-top.result c.greatest-top.ensures c.deref.ensures.value c.requires.heights)
    (c.in_ok-rows.ensures ∙ ap (λ g. rows_after g c.greatest-top.result) c.deref-2.ensures.value)
    (c.in_ok-order.ensures ∙ (c.in_ok-ordered.ensures ∙ ap (λ hs. up_to_height hs c.greatest-top.result) c.deref-3.ensures.value)))
