use Rattle.std.proofs.Common.{◌-◌, ◌∙◌, ap, length, sym}
use Rattle.ed_layers.specs.Records.{is_carrier, members_of}
use Rattle.ed_project.specs.Records.{version_at}
use Rattle.ed_held.specs.declared.held.Held.{Held}
use Rattle.ed_held.specs.Seen.{known, last_of}
use Rattle.ed_held.proofs.KindLemmas.{base_last, projection_last}
use Rattle.ed_held.proofs.held.Held.members.Goals as goal

pub returns-in-Base-clause-carrier : goal.returns-in-Base-clause-carrier
returns-in-Base-clause-carrier c =
    sym (ap (λ (h : Held). is_carrier (last_of (known h).buffer)) c.in-Base.is
    ∙ base_last c.in-Base.field-0.chain.versions (length (known (Held.Base c.in-Base.field-0)).buffer.records - 1))

pub returns-in-Projection-clause-carrier : goal.returns-in-Projection-clause-carrier
returns-in-Projection-clause-carrier c =
    sym (ap (λ (h : Held). is_carrier (last_of (known h).buffer)) c.in-Projection.is
    ∙ ap is_carrier (projection_last c.in-Projection.projection c.in-Projection.turns c.now.ensures.some))

pub returns-in-Projection-clause-members : goal.returns-in-Projection-clause-members
returns-in-Projection-clause-members c =
    c.members.ensures ∙ ap (λ v. (version_at c.in-Projection.projection.versions v).members) c.now.ensures.version
    ∙ sym (ap (λ (h : Held). members_of (last_of (known h).buffer)) c.in-Projection.is
    ∙ ap members_of (projection_last c.in-Projection.projection c.in-Projection.turns c.now.ensures.some))
