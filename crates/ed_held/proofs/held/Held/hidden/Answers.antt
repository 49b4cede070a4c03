use Rattle.std.proofs.Common.{◌-◌, length, sym, ap, ◌∙◌}
use Rattle.ed_layers.specs.Records.{is_elision}
use Rattle.ed_stock.specs.Making.{flags_of}
use Rattle.ed_held.specs.declared.held.Held.{Held}
use Rattle.ed_held.specs.Seen.{known, last_of}
use Rattle.ed_held.proofs.ElisionLemmas.{elision_last, shows_flags}
use Rattle.ed_held.proofs.KindLemmas.{base_bare, projection_last}
use Rattle.ed_held.proofs.held.Held.hidden.Goals as goal

pub returns-in-Base-clause-elision : goal.returns-in-Base-clause-elision
returns-in-Base-clause-elision c =
    sym (ap (λ (h : Held). is_elision (last_of (known h).buffer)) c.in-Base.is
    ∙ base_bare c.in-Base.field-0.chain.versions (length (known (Held.Base c.in-Base.field-0)).buffer.records - 1))

pub returns-in-Projection-clause-elision : goal.returns-in-Projection-clause-elision
returns-in-Projection-clause-elision c =
    sym (ap (λ (h : Held). is_elision (last_of (known h).buffer)) c.in-Projection.is
    ∙ ap is_elision (projection_last c.in-Projection.projection c.in-Projection.turns c.now-now.ensures.some))

pub returns-in-Elision-clause-elision : goal.returns-in-Elision-clause-elision
returns-in-Elision-clause-elision c =
    sym (ap (λ (h : Held). is_elision (last_of (known h).buffer)) c.in-Elision.is
    ∙ ap is_elision (elision_last c.in-Elision.elision c.in-Elision.turns c.now.ensures.some))

pub returns-in-Elision-clause-hidden : goal.returns-in-Elision-clause-hidden
returns-in-Elision-clause-hidden c =
    shows_flags c.in-Elision.elision c.in-Elision.turns c.now.result c.hidden.result.now c.now.ensures.some c.now.ensures.version c.hidden.ensures
    ∙ sym (ap (λ (h : Held). flags_of (last_of (known h).buffer)) c.in-Elision.is)
