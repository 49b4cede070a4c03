use Rattle.std.proofs.Common.{◌≡◌, ◌-◌, true, false, length, map, Ok, Err, sym, ap, ◌∙◌, subst}
use Rattle.ed_held.proofs.ElisionLemmas.{elision_last}
use Rattle.ed_layers.specs.Records.{is_carrier, is_elision}
use Rattle.ed_held.specs.Respanning.{HasRespanned, IsPart, held_members}
use Rattle.ed_held.specs.Seen.{base_record, known, last_of}
use Rattle.ed_held.specs.declared.held.Held.{Held}
use Rattle.ed_held.specs.declared.moves.Planned.{Planned}
use Rattle.ed_held.proofs.KindLemmas.{base_last, part_shown, respans_err, respans_ok}
use Rattle.ed_held.proofs.respans.respan.Goals as goal

pub unreachable-requires : goal.unreachable-requires
unreachable-requires c =
    let vs = c.in-Base.field-0.chain.versions in
    let bare : is_carrier (last_of (known c.args.held.now).buffer) ≡ false = ap (λ (h : Held). is_carrier (last_of (known h).buffer)) c.in-Base.is ∙ base_last vs (length (map base_record vs) - 1) in
    absurd (let e : true ≡ false = sym c.requires.part.carrier ∙ bare in cc)

pub respanned-requires-clause-part : goal.respanned-requires-clause-part
respanned-requires-clause-part c =
    part_shown c.in-Projection.projection c.in-Projection.turns c.now-now.ensures.some c.args.sources.now c.args.first c.args.removed c.args.members c.in-Projection.projection
    (subst (λ (h : Held). IsPart (held_members h) c.args.first c.args.removed c.args.members) c.in-Projection.is c.requires.part.part)

pub returns-in-Ok : goal.returns-in-Ok
returns-in-Ok c =
    let q = c.respanned.new.projection in
    subst (λ (h : Held). HasRespanned c.args.sources.now h (Held.Projection q c.in-Projection.turns) c.args.first c.args.removed c.args.members (Ok (Planned.Projection c.in-Ok.next))) (sym c.in-Projection.is)
    (respans_ok c.in-Projection.projection c.in-Projection.turns c.now-now.ensures.some c.args.sources.now c.args.first c.args.removed c.args.members q c.in-Ok.next c.in-Ok.ensures)

pub returns-in-Err : goal.returns-in-Err
returns-in-Err c =
    let q = c.respanned.new.projection in
    subst (λ (h : Held). HasRespanned c.args.sources.now h (Held.Projection q c.in-Projection.turns) c.args.first c.args.removed c.args.members (Err c.in-Err.fault)) (sym c.in-Projection.is)
    (respans_err c.in-Projection.projection c.in-Projection.turns c.now-now.ensures.some c.args.sources.now c.args.first c.args.removed c.args.members q c.in-Err.fault c.in-Err.ensures)

pub unreachable-requires-in-Elision : goal.unreachable-requires-in-Elision
unreachable-requires-in-Elision c =
    let hides : is_elision (last_of (known c.args.held.now).buffer) ≡ true = ap (λ (h : Held). is_elision (last_of (known h).buffer)) c.in-Elision.is ∙ ap is_elision (elision_last c.in-Elision.elision c.in-Elision.turns c.now-now-in-Elision.ensures.some) in
    absurd (let e : true ≡ false = sym hides ∙ c.requires.part.plain in cc)
