use Rattle.std.proofs.Common.{sym, ap, ◌∙◌, length, ◌-◌}
use Rattle.ed_layers.specs.Records.{members_of}
use Rattle.ed_project.specs.Records.{version_at}
use Rattle.ed_held.proofs.ElisionLemmas.{shows_members}
use Rattle.ed_held.specs.declared.held.Held.{Held}
use Rattle.ed_held.specs.Seen.{known, last_of}
use Rattle.ed_held.proofs.KindLemmas.{base_members, projection_last}
use Rattle.ed_held.proofs.held.Held.member_count.Goals as goal

pub returns-in-Base : goal.returns-in-Base
returns-in-Base c =
    sym (ap (λ (h : Held). length (members_of (last_of (known h).buffer))) c.in-Base.is
    ∙ ap length (base_members c.in-Base.field-0.chain.versions (length (known (Held.Base c.in-Base.field-0)).buffer.records - 1)))

pub returns-in-Projection : goal.returns-in-Projection
returns-in-Projection c =
    c.count.ensures.count ∙ ap length (c.members.ensures ∙ ap (λ v. (version_at c.in-Projection.projection.versions v).members) c.now.ensures.version)
    ∙ sym (ap (λ (h : Held). length (members_of (last_of (known h).buffer))) c.in-Projection.is
    ∙ ap (λ r. length (members_of r)) (projection_last c.in-Projection.projection c.in-Projection.turns c.now.ensures.some))

pub returns-in-Elision : goal.returns-in-Elision
returns-in-Elision c =
    c.count-in-Elision.ensures.count ∙ ap length (shows_members c.in-Elision.elision c.in-Elision.turns c.now-in-Elision.result c.members-in-Elision.result.now c.now-in-Elision.ensures.some c.now-in-Elision.ensures.version c.members-in-Elision.ensures.members c.members-in-Elision.ensures.shown)
    ∙ sym (ap (λ (h : Held). length (members_of (last_of (known h).buffer))) c.in-Elision.is)
