use Rattle.std.proofs.Common.{sym, ap, ◌∙◌, length, ◌-◌}
use Rattle.std.specs.Prelude.{not}
use Rattle.ed_layers.specs.Records.{is_carrier}
use Rattle.ed_held.proofs.ElisionLemmas.{elision_last}
use Rattle.ed_held.specs.declared.held.Held.{Held}
use Rattle.ed_held.specs.Seen.{known, last_of}
use Rattle.ed_held.proofs.KindLemmas.{base_last, projection_last}
use Rattle.ed_held.proofs.held.Held.is_base.Goals as goal

pub returns-in-Base : goal.returns-in-Base
returns-in-Base c =
    sym (ap (λ (h : Held). not (is_carrier (last_of (known h).buffer))) c.in-Base.is
    ∙ ap not (base_last c.in-Base.field-0.chain.versions (length (known (Held.Base c.in-Base.field-0)).buffer.records - 1)))

pub returns-in-Projection : goal.returns-in-Projection
returns-in-Projection c =
    sym (ap (λ (h : Held). not (is_carrier (last_of (known h).buffer))) c.in-Projection.is
    ∙ ap (λ r. not (is_carrier r)) (projection_last c.in-Projection.projection c.in-Projection.turns c.now-now.ensures.some))

pub returns-in-Elision : goal.returns-in-Elision
returns-in-Elision c =
    sym (ap (λ (h : Held). not (is_carrier (last_of (known h).buffer))) c.in-Elision.is
    ∙ ap (λ r. not (is_carrier r)) (elision_last c.in-Elision.elision c.in-Elision.turns c.now-now-in-Elision.ensures.some))
