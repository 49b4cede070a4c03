use Rattle.std.proofs.Common.{◌≡◌, ◌-◌, length, map, true, false, Ok, sym, ap, ◌∙◌, subst}
use Rattle.ed_layers.specs.Records.{Record, is_elision}
use Rattle.ed_project.specs.Texts.{no_steps}
use Rattle.ed_stock.specs.Making.{flags_of}
use Rattle.ed_held.specs.Advancing.{CanGoOn}
use Rattle.ed_held.specs.Rehiding.{HasRehidden}
use Rattle.ed_held.specs.Seen.{base_record, known, last_of}
use Rattle.ed_held.specs.declared.held.Held.{Held}
use Rattle.ed_held.specs.declared.moves.Planned.{Planned}
use Rattle.ed_held.proofs.ElisionLemmas.{elision_last, rehides_ok}
use Rattle.ed_held.proofs.KindLemmas.{base_bare, projection_last}
use Rattle.ed_held.proofs.elides.rehide.Goals as goal

pub unreachable-requires : goal.unreachable-requires
unreachable-requires c =
    let vs = c.in-Base.field-0.chain.versions in
    let none : false ≡ true = sym (base_bare vs (length (map base_record vs) - 1)) ∙ sym (ap (λ (h : Held). is_elision (last_of (known h).buffer)) c.in-Base.is) ∙ c.requires.hides in
    cc

pub unreachable-requires-in-Projection : goal.unreachable-requires-in-Projection
unreachable-requires-in-Projection c =
    let none : false ≡ true = sym (ap is_elision (projection_last c.in-Projection.projection c.in-Projection.turns c.now-now.ensures.some)) ∙ sym (ap (λ (h : Held). is_elision (last_of (known h).buffer)) c.in-Projection.is) ∙ c.requires.hides in
    cc

pub rehidden-requires-clause-size : goal.rehidden-requires-clause-size
rehidden-requires-clause-size c =
    c.requires.size ∙ ap (λ (h : Held). length (flags_of (last_of (known h).buffer))) c.in-Elision.is
    ∙ ap (λ r. length (flags_of r)) (elision_last c.in-Elision.elision c.in-Elision.turns c.now-now-in-Elision.ensures.some)

pub rehidden-requires-clause-can : goal.rehidden-requires-clause-can
rehidden-requires-clause-can c =
    subst (λ (r : Record). CanGoOn c.in-Elision.elision.buffer no_steps c.args.sources.now r) (elision_last c.in-Elision.elision c.in-Elision.turns c.now-now-in-Elision.ensures.some)
    (subst (λ (h : Held). CanGoOn (known h).number no_steps c.args.sources.now (last_of (known h).buffer)) c.in-Elision.is c.requires.there)

pub returns-in-Ok : goal.returns-in-Ok
returns-in-Ok c =
    let f = c.rehidden.new.elision in
    subst (λ (h : Held). HasRehidden c.args.sources.now h (Held.Elision f c.in-Elision.turns) c.args.hidden (Ok (Planned.Elision c.in-Ok.next))) (sym c.in-Elision.is)
    (rehides_ok c.in-Elision.elision c.in-Elision.turns c.now-now-in-Elision.ensures.some c.args.sources.now f c.args.hidden c.in-Ok.next c.in-Ok.ensures)
