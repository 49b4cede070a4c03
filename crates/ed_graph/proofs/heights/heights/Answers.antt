-- Each round finds the heights after one round more; a round that changes nothing is the last.
use Rattle.std.proofs.Common.{◌≡◌, ◌-◌, ◌+◌, suc, map, arith, rules, ap, sym, ◌∙◌, length}
use Rattle.std.proofs.lemmas.Bool.Decides.{Decides-eqb}
use Rattle.std.proofs.lemmas.Slice.Eq.{slice_eq-Decides}
use Rattle.ed_graph.specs.Rounds.{height_over}
use Rattle.ed_graph.proofs.RoundLemmas.{heights_at_start, heights_round, heights_settled, heights_short, length-heights_after, heights_after}
use Rattle.ed_graph.proofs.heights.heights.Goals as goal

pub loop-done-init : goal.loop-done-init
loop-done-init c = c.in_ok-heights.ensures.items_if_clones_equal (λ y h. search rules) ∙ heights_at_start c.args.lists.now

pub round-requires-clause-within : goal.round-requires-clause-within
round-requires-clause-within c = rw (c.deref.ensures.value, c.loop-done.invariant, length-heights_after) c.requires.within

pub round-requires-clause-short : goal.round-requires-clause-short
round-requires-clause-short c = rw (c.deref.ensures.value, c.loop-done.invariant) (heights_short _ _ (omega arith) c.requires.few)

pub loop-done-preserved : goal.loop-done-preserved
loop-done-preserved c =
    c.in_ok-next.ensures ∙ (ap (λ hs. map (height_over hs) c.args.lists.now) (c.deref.ensures.value ∙ c.loop-done.invariant)
    ∙ (heights_round c.loop-done.done c.args.lists.now c.requires.within
    ∙ ap (λ k. heights_after k c.args.lists.now) (let e : suc c.loop-done.done ≡ c.loop-done.done + 1 = omega arith in e)))

pub returns-then-eq : goal.returns-then-eq
returns-then-eq c =
    let next_same : c.in_ok-next.next.items ≡ c.loop-done.heights.items =
    sym c.as_slice.ensures.value ∙ ((slice_eq-Decides Decides-eqb _ _ _ c.eq.ensures).0 c.if-eq.true ∙ c.as_slice-in-loop-done.ensures.value) in
    let next_found : c.in_ok-next.next.items ≡ heights_after (suc c.loop-done.done) c.args.lists.now =
    c.in_ok-next.ensures ∙ (ap (λ hs. map (height_over hs) c.args.lists.now) (c.deref.ensures.value ∙ c.loop-done.invariant)
    ∙ heights_round c.loop-done.done c.args.lists.now c.requires.within) in
    c.loop-done.invariant
    ∙ (sym (heights_settled c.loop-done.done c.args.lists.now c.requires.within (sym next_found ∙ (next_same ∙ c.loop-done.invariant)) (length c.args.lists.now - c.loop-done.done))
    ∙ ap (λ k. heights_after k c.args.lists.now) (let e : (length c.args.lists.now - c.loop-done.done) + c.loop-done.done ≡ length c.args.lists.now = omega arith in e))
