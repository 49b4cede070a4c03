use Rattle.std.proofs.Common.{◌≡◌, ◌≤◌, ◌+◌, ◌-◌, true, false, List, length, map, sym, ap, ◌∙◌, subst}
use Rattle.std.specs.Prelude.{IfOk}
use Rattle.ed_base.specs.declared.Member.{Member}
use Rattle.ed_held.proofs.ElisionLemmas.{elision_last}
use Rattle.ed_layers.specs.Records.{is_carrier, is_elision, members_of}
use Rattle.ed_project.specs.Records.{version_at}
use Rattle.ed_stock.specs.Making.{spans_replaced}
use Rattle.ed_held.specs.Respanning.{held_members}
use Rattle.ed_held.specs.Seen.{base_record, known, last_of}
use Rattle.ed_held.specs.declared.held.Held.{Held}
use Rattle.ed_held.proofs.KindLemmas.{base_last, projection_last}
use Rattle.ed_held.proofs.respans.members_with.Goals as goal

pub unreachable-requires : goal.unreachable-requires
unreachable-requires c =
    let vs = c.in-Base.field-0.chain.versions in
    let bare : is_carrier (last_of (known c.args.held.now).buffer) ≡ false = ap (λ (h : Held). is_carrier (last_of (known h).buffer)) c.in-Base.is ∙ base_last vs (length (map base_record vs) - 1) in
    absurd (let e : true ≡ false = sym c.requires.carrier ∙ bare in cc)

pub joined-requires : goal.joined-requires
joined-requires c =
    let are : held_members c.args.held.now ≡ c.members.result.now =
    ap held_members c.in-Projection.is ∙ ap members_of (projection_last c.in-Projection.projection c.in-Projection.turns c.now.ensures.some) ∙ sym (c.members.ensures ∙ ap (λ v. (version_at c.in-Projection.projection.versions v).members) c.now.ensures.version) in
    subst (λ (ms : List Member). c.args.first + c.args.removed ≤ length ms) are c.requires.part

pub returns : goal.returns
returns c =
    let are : held_members c.args.held.now ≡ c.members.result.now =
    ap held_members c.in-Projection.is ∙ ap members_of (projection_last c.in-Projection.projection c.in-Projection.turns c.now.ensures.some) ∙ sym (c.members.ensures ∙ ap (λ v. (version_at c.in-Projection.projection.versions v).members) c.now.ensures.version) in
    subst (λ (ms : List Member). IfOk c.joined.result (λ v. v.items ≡ spans_replaced ms c.args.first c.args.removed c.args.members.items)) (sym are) c.joined.ensures

pub unreachable-requires-in-Elision : goal.unreachable-requires-in-Elision
unreachable-requires-in-Elision c =
    let hides : is_elision (last_of (known c.args.held.now).buffer) ≡ true = ap (λ (h : Held). is_elision (last_of (known h).buffer)) c.in-Elision.is ∙ ap is_elision (elision_last c.in-Elision.elision c.in-Elision.turns c.now-now.ensures.some) in
    absurd (let e : true ≡ false = sym hides ∙ c.requires.plain in cc)
