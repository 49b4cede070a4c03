-- Sources that don't reach the buffer let nothing stand on itself.
use Rattle.std.proofs.Common.{◌≡◌, ◌∙◌, None, ap, subst, arith, rules, inr}
use Rattle.std.proofs.lemmas.List.{length-set}
use Rattle.ed_graph.specs.Standing.{IsLevelled, AreWithin, first_cycle, linked, greatest_in, heights_in}
use Rattle.ed_graph.proofs.Shown.{within-linked, levelled-linked, depth_fault, top_is}
use Rattle.ed_graph.proofs.graph.Graph.link.Goals as goal

pub heights-requires-clause-few : goal.heights-requires-clause-few
heights-requires-clause-few c =
    rw (c.deref.ensures.value, c.in_ok-lists.ensures, length-set, ← c.self.view_is) c.self.invariant.few

pub heights-requires-clause-within : goal.heights-requires-clause-within
heights-requires-clause-within c =
    rw (c.deref.ensures.value, c.in_ok-lists.ensures)
    (within-linked c.args.self.now c.args.buffer c.args.sources.now (subst AreWithin c.self.view_is c.self.invariant.levelled.within) c.requires.sources_there)

pub returns-then-height-gt-MOST_HEIGHT-clause-fault : goal.returns-then-height-gt-MOST_HEIGHT-clause-fault
returns-then-height-gt-MOST_HEIGHT-clause-fault c =
    let acyclic : first_cycle c.args.self.now c.args.buffer c.args.sources.now ≡ None = search rules in
    inr (depth_fault c.args.self.now c.args.buffer c.args.sources.now c.greatest-height.result acyclic
    (top_is (linked c.args.self.now c.args.buffer c.args.sources.now) c.in_ok-heights.heights.items c.deref-2.result.now c.greatest-height.result c.greatest-height.ensures c.deref-2.ensures.value
    (c.in_ok-heights.ensures ∙ ap heights_in (c.deref.ensures.value ∙ c.in_ok-lists.ensures)))
    c.if-height-gt-MOST_HEIGHT.true)

pub build-requires-clause-few : goal.build-requires-clause-few
build-requires-clause-few c = rw (c.in_ok-lists.ensures, length-set, ← c.self.view_is) c.self.invariant.few

pub build-requires-clause-levelled : goal.build-requires-clause-levelled
build-requires-clause-levelled c =
    let acyclic : first_cycle c.args.self.now c.args.buffer c.args.sources.now ≡ None = search rules in
    let top : c.greatest-height.result ≡ greatest_in (linked c.args.self.now c.args.buffer c.args.sources.now) =
    top_is (linked c.args.self.now c.args.buffer c.args.sources.now) c.in_ok-heights.heights.items c.deref-2.result.now c.greatest-height.result c.greatest-height.ensures c.deref-2.ensures.value
    (c.in_ok-heights.ensures ∙ ap heights_in (c.deref.ensures.value ∙ c.in_ok-lists.ensures)) in
    rw c.in_ok-lists.ensures
    (levelled-linked c.args.self.now c.args.buffer c.args.sources.now (subst IsLevelled c.self.view_is c.self.invariant.levelled) c.requires.there c.requires.sources_there acyclic (omega arith))
