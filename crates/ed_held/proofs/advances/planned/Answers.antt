use Rattle.std.proofs.Common.{◌-◌, length, map, Ok, Err, sym, subst}
use Rattle.ed_elide.specs.Records.{record_of, shown_now}
use Rattle.ed_members.specs.Steps.{steps_seen}
use Rattle.ed_layers.specs.Records.{Record}
use Rattle.ed_held.specs.Advancing.{Advances, CanGoOn}
use Rattle.ed_held.specs.Seen.{base_record, known, last_of}
use Rattle.ed_held.specs.declared.held.Held.{Held}
use Rattle.ed_held.specs.declared.moves.Planned.{Planned}
use Rattle.ed_held.proofs.ElisionLemmas.{advances_along, elision_last}
use Rattle.ed_held.proofs.KindLemmas.{advances_err, advances_ok, base_idle, projection_last}
use Rattle.ed_held.proofs.advances.planned.Goals as goal

pub unreachable-requires : goal.unreachable-requires
unreachable-requires c =
    let vs = c.in-Base.field-0.chain.versions in
    base_idle (known c.args.held.now).number (steps_seen c.args.steps.now) c.args.sources.now vs (length (map base_record vs) - 1)
    (subst (λ (h : Held). CanGoOn (known c.args.held.now).number (steps_seen c.args.steps.now) c.args.sources.now (last_of (known h).buffer)) c.in-Base.is c.requires)

pub advanced-requires : goal.advanced-requires
advanced-requires c = record {
  can = subst (λ (r : Record). CanGoOn c.in-Projection.projection.buffer (steps_seen c.args.steps.now) c.args.sources.now r) (projection_last c.in-Projection.projection c.in-Projection.turns c.now-now.ensures.some)
      (subst (λ (h : Held). CanGoOn (known h).number (steps_seen c.args.steps.now) c.args.sources.now (last_of (known h).buffer)) c.in-Projection.is c.requires);
}

pub returns-in-Ok : goal.returns-in-Ok
returns-in-Ok c =
    let q = c.advanced.new.projection in
    subst (λ (h : Held). Advances (steps_seen c.args.steps.now) c.args.sources.now h (Held.Projection q c.in-Projection.turns) (Ok (Planned.Projection c.in-Ok.next))) (sym c.in-Projection.is)
    (advances_ok c.in-Projection.projection c.in-Projection.turns c.now-now.ensures.some (steps_seen c.args.steps.now) c.args.sources.now q c.in-Ok.next c.in-Ok.ensures)

pub returns-in-Err : goal.returns-in-Err
returns-in-Err c =
    let q = c.advanced.new.projection in
    subst (λ (h : Held). Advances (steps_seen c.args.steps.now) c.args.sources.now h (Held.Projection q c.in-Projection.turns) (Err c.in-Err.fault)) (sym c.in-Projection.is)
    (advances_err c.in-Projection.projection c.in-Projection.turns c.now-now.ensures.some (steps_seen c.args.steps.now) c.args.sources.now q c.in-Err.fault c.in-Err.ensures)

pub advanced-requires-in-Elision : goal.advanced-requires-in-Elision
advanced-requires-in-Elision c = record {
  can = subst (λ (r : Record). CanGoOn c.in-Elision.elision.buffer (steps_seen c.args.steps.now) c.args.sources.now r) (elision_last c.in-Elision.elision c.in-Elision.turns c.now-now-in-Elision.ensures.some)
      (subst (λ (h : Held). CanGoOn (known h).number (steps_seen c.args.steps.now) c.args.sources.now (last_of (known h).buffer)) c.in-Elision.is c.requires);
}

pub returns-in-Ok-advanced : goal.returns-in-Ok-advanced
returns-in-Ok-advanced c =
    let e = c.in-Elision.elision in
    let f = c.advanced-in-Elision.new.elision in
    let can : CanGoOn e.buffer (steps_seen c.args.steps.now) c.args.sources.now (record_of e.source (shown_now e)) =
    subst (λ (r : Record). CanGoOn e.buffer (steps_seen c.args.steps.now) c.args.sources.now r) (elision_last e c.in-Elision.turns c.now-now-in-Elision.ensures.some)
    (subst (λ (h : Held). CanGoOn (known h).number (steps_seen c.args.steps.now) c.args.sources.now (last_of (known h).buffer)) c.in-Elision.is c.requires) in
    subst (λ (h : Held). Advances (steps_seen c.args.steps.now) c.args.sources.now h (Held.Elision f c.in-Elision.turns) (Ok (Planned.Elision c.in-Ok-advanced.next))) (sym c.in-Elision.is)
    (advances_along e c.in-Elision.turns c.now-now-in-Elision.ensures.some (steps_seen c.args.steps.now) c.args.sources.now f c.in-Ok-advanced.next can c.in-Ok-advanced.ensures)
