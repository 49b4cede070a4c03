-- One component more.
use Rattle.std.proofs.Common.{◌≡◌, ℕ, ◌+◌, ◌-◌, ◌<◌, ◌^◌, ◌++◌, ◌∷◌, [], List, length, map, ap, sym, ◌∙◌, subst, arith}
use Rattle.std.specs.Vec.Iter.{into_iter_items}
use Rattle.std.proofs.lemmas.List.{append-nil, length-map}
use Rattle.ed_layers.specs.Pieces.{Component}
use Rattle.ed_pieces.specs.Ways.{ways_from}
use Rattle.ed_pieces.proofs.Laying.{Laying, laying_begun, laying_next, laying_fits, none_left}
use Rattle.ed_pieces.proofs.Marking.{all_rising}
use Rattle.ed_pieces.proofs.arrived.Arrived.landed.Goals as goal
use Rattle.ed_pieces.proofs.arrived.Arrived.landed.Goals.{After-old_len-old_len}

abbrev Marked : Type 0
Marked = ℕ × List (ℕ × ℕ)

-- what is left begins with the component of this turn
left : (c : After-old_len-old_len) → Laying c.args.self.old_len c.args.self.components c.loop-part.old_end c.loop-part.new_end c.loop-part.changes.items c.loop-part.ways.items (c.in-Some.part ∷ into_iter_items c.next.new.self)
left c = subst (λ (rest : List Component). Laying c.args.self.old_len c.args.self.components c.loop-part.old_end c.loop-part.new_end c.loop-part.changes.items c.loop-part.ways.items rest) c.in-Some.ensures.steps.0 c.loop-part.invariant

fits : (c : After-old_len-old_len) → c.loop-part.new_end + (c.in-Some.part.start - c.loop-part.old_end) + length c.in-Some.part.text < 2 ^ 32
fits c = laying_fits _ _ _ _ _ _ _ _ (left c)

pub loop-part-init : goal.loop-part-init
loop-part-init c =
    let is = c.into_parts-len.ensures in
    let parts : into_iter_items c.into_iter-part-iterator.result ≡ c.args.self.components = c.into_iter-part-iterator.ensures.into_iter_gives.0 ∙ is.components in
    rw (parts, c.new-changes.ensures.items, c.new-ways.ensures.items) (laying_begun c.args.self.old_len c.args.self.components is.arrival.normal is.arrival.short is.arrival.few)

pub overflow_add-at : goal.overflow_add-at
overflow_add-at c = omega (arith, fits c, c.start-start.ensures)

pub put_in-requires : goal.put_in-requires
put_in-requires c = rw (c.into_runs.ensures.text, c.start-start.ensures) (fits (goal.at.put_in-requires c).After-old_len-old_len)

pub overflow_add-new_end : goal.overflow_add-new_end
overflow_add-new_end c =
    let len : length c.as_slice.result.now ≡ length c.in-Some.part.text = ap length (c.as_slice.ensures ∙ c.in_ok-text.ensures.text ∙ ap (map (λ (u : Marked). u.0)) c.into_runs.ensures.text) ∙ length-map c.in-Some.part.text (λ u. u.0) in
    omega (arith, fits (goal.at.overflow_add-new_end c).After-old_len-old_len, len, c.start-start.ensures)

pub loop-part-preserved : goal.loop-part-preserved
loop-part-preserved c =
    let text : c.in_ok-text.text ≡ map (λ (u : Marked). u.0) c.in-Some.part.text = c.in_ok-text.ensures.text ∙ ap (map (λ (u : Marked). u.0)) c.into_runs.ensures.text in
    let len : length c.as_slice.result.now ≡ length c.in-Some.part.text = ap length (c.as_slice.ensures ∙ text) ∙ length-map c.in-Some.part.text (λ u. u.0) in
    let next = laying_next _ _ _ _ _ _ _ _ (left (goal.at.loop-part-preserved c).After-old_len-old_len) in
    rw (c.in_ok-push.ensures.items, c.in_ok-text.ensures.ways, c.into_runs.ensures.runs, text, len, c.start-start.ensures, c.old_len-old_len.ensures) next

pub of-requires-2 : goal.of-requires-2
of-requires-2 c =
    let none : into_iter_items c.loop-part.part-iterator ≡ [] = none_left (into_iter_items c.loop-part.part-iterator) c.loop-part.part-iterator.rest.len c.loop-part.part-iterator.rest.ok.0 c.in-None.ensures.steps.0 in
    let all : c.loop-part.ways.items ++ ways_from c.loop-part.old_end c.loop-part.new_end (into_iter_items c.loop-part.part-iterator) ≡ ways_from 0 0 c.args.self.components = c.loop-part.invariant.ways in
    let is : c.loop-part.ways.items ≡ ways_from 0 0 c.args.self.components = sym (append-nil c.loop-part.ways.items) ∙ (rw none at all) in
    rw is (all_rising c.args.self.components)
