use Rattle.std.proofs.Common.{◌≡◌, true, false, ◌+◌, ◌<◌, ◌≤◌, ◌^◌, ℕ, All, List, [], length, map, Some, Ok, Err, refl, sym, ap, ◌∙◌, subst, arith, slice_get}
use Rattle.ed_base.specs.declared.Member.{Member}
use Rattle.ed_base.specs.declared.Which.{Which}
use Rattle.ed_graph.specs.Standing.{IsLevelled, linked}
use Rattle.ed_layers.specs.Records.{Record, is_carrier, is_elision, members_len}
use Rattle.ed_members.specs.Faults.{first_fault, len_in}
use Rattle.ed_project.specs.Texts.{HasSource, no_steps}
use Rattle.ed_stock.specs.Limits.{stock_limits}
use Rattle.ed_stock.specs.Making.{sources_in, spans_replaced, spans_set}
use Rattle.ed_stock.specs.Stock.{count, now}
use Rattle.ed_base.specs.Numbers.{first_some}
use Rattle.ed_version.specs.declared.Snapshot.{Snapshot}
use Rattle.ed_group.specs.Answers.{LiesIn, members_now, spans_fault}
use Rattle.ed_climb.specs.Refusals.{Refuses}
use Rattle.ed_climb.specs.declared.fault.PlanFault.{PlanFault}
use Rattle.ed_climb.specs.Kept.{IsKept}
use Rattle.ed_held.specs.Seen.{known, stock}
use Rattle.ed_held.specs.Respanning.{held_members}
use Rattle.ed_group.specs.Spanning.{standing_fault}
use Rattle.ed_climb.proofs.Asked.{got}
use Rattle.ed_climb.proofs.KeptNumbers.{held_len, not_passed}
use Rattle.ed_group.proofs.Begins.{can_respan, handed_on, has_begun, long_refused, members_are, there}
use Rattle.ed_group.proofs.Projected.{have_all, snaps_held, sources_within}
use Rattle.ed_group.proofs.Refusing.{refuses_memory}
use Rattle.ed_group.proofs.Respanned.{all_lie, limits_left, members_refused, shown_apart, shown_cover, sources_refused}
use Rattle.ed_climb.proofs.Snapshots.{held_record, snaps}
use Rattle.ed_group.proofs.spanning.begun.Goals as goal

pub members_with-requires-clause-carrier : goal.members_with-requires-clause-carrier
members_with-requires-clause-carrier c =
    let kept : IsKept (map known c.args.buffers.now) c.args.graph.now c.requires.kept.0 = c.requires.kept.1 in
    let in_stock : c.args.buffer < count (stock c.args.buffers.now) = there c.args.buffers.now c.args.graph.now c.requires.kept.0 kept c.args.buffer c.requires.there c.requires.carrier in
    let held : slice_get c.args.buffers.now c.args.buffer ≡ Some c.index-all-buffer.result = got c.args.buffers.now c.args.buffers.now c.args.buffer c.buffer.inside.0 c.index-all-buffer.result refl c.buffer.view_is in_stock c.index-all-buffer.is in
    subst (λ (x : Record). is_carrier x ≡ true) (held_record c.args.buffers.now c.args.buffer c.index-all-buffer.result held) c.requires.carrier

pub members_with-requires-clause-plain : goal.members_with-requires-clause-plain
members_with-requires-clause-plain c =
    let kept : IsKept (map known c.args.buffers.now) c.args.graph.now c.requires.kept.0 = c.requires.kept.1 in
    let in_stock : c.args.buffer < count (stock c.args.buffers.now) = there c.args.buffers.now c.args.graph.now c.requires.kept.0 kept c.args.buffer c.requires.there c.requires.carrier in
    let held : slice_get c.args.buffers.now c.args.buffer ≡ Some c.index-all-buffer.result = got c.args.buffers.now c.args.buffers.now c.args.buffer c.buffer.inside.0 c.index-all-buffer.result refl c.buffer.view_is in_stock c.index-all-buffer.is in
    subst (λ (x : Record). is_elision x ≡ false) (held_record c.args.buffers.now c.args.buffer c.index-all-buffer.result held) c.requires.plain

pub members_with-requires-clause-part : goal.members_with-requires-clause-part
members_with-requires-clause-part c =
    let kept : IsKept (map known c.args.buffers.now) c.args.graph.now c.requires.kept.0 = c.requires.kept.1 in
    let in_stock : c.args.buffer < count (stock c.args.buffers.now) = there c.args.buffers.now c.args.graph.now c.requires.kept.0 kept c.args.buffer c.requires.there c.requires.carrier in
    let held : slice_get c.args.buffers.now c.args.buffer ≡ Some c.index-all-buffer.result = got c.args.buffers.now c.args.buffers.now c.args.buffer c.buffer.inside.0 c.index-all-buffer.result refl c.buffer.view_is in_stock c.index-all-buffer.is in
    let same : members_now (stock c.args.buffers.now) c.args.buffer ≡ held_members c.index-all-buffer.result = members_are c.args.buffers.now c.args.graph.now c.requires.kept.0 kept c.args.buffer c.requires.there c.requires.carrier c.index-all-buffer.result held in
    subst (λ xs. c.args.first + c.args.removed ≤ length xs) same c.requires.part

pub newest_all-requires : goal.newest_all-requires
newest_all-requires c =
    let kept : IsKept (map known c.args.buffers.now) c.args.graph.now c.requires.kept.0 = c.requires.kept.1 in
    let in_stock : c.args.buffer < count (stock c.args.buffers.now) = there c.args.buffers.now c.args.graph.now c.requires.kept.0 kept c.args.buffer c.requires.there c.requires.carrier in
    let held : slice_get c.args.buffers.now c.args.buffer ≡ Some c.index-all-buffer.result = got c.args.buffers.now c.args.buffers.now c.args.buffer c.buffer.inside.0 c.index-all-buffer.result refl c.buffer.view_is in_stock c.index-all-buffer.is in
    let same : members_now (stock c.args.buffers.now) c.args.buffer ≡ held_members c.index-all-buffer.result = members_are c.args.buffers.now c.args.graph.now c.requires.kept.0 kept c.args.buffer c.requires.there c.requires.carrier c.index-all-buffer.result held in
    let shown : List Member = (spans_replaced (members_now (stock c.args.buffers.now) c.args.buffer) c.args.first c.args.removed c.args.added.items) in
    let list_is : c.in_ok-list.list.items ≡ shown = c.in_ok-list.ensures ∙ ap (λ ms. spans_replaced ms c.args.first c.args.removed c.args.added.items) (sym same) in
    let lie : All (LiesIn (stock c.args.buffers.now)) (spans_replaced (members_now (stock c.args.buffers.now) c.args.buffer) c.args.first c.args.removed c.args.added.items) = all_lie c.args.buffers.now c.args.graph.now c.requires.kept.0 kept c.order-order.ensures.levelled c.args.buffer in_stock c.args.first c.args.removed c.args.added.items c.requires.inside in
    let are : c.in_ok-sources.sources.items ≡ sources_in [] (spans_replaced (members_now (stock c.args.buffers.now) c.args.buffer) c.args.first c.args.removed c.args.added.items) = c.in_ok-sources.ensures ∙ ap (sources_in []) (c.deref.ensures.value ∙ list_is) in
    sources_within c.args.buffers.now c.args.graph.now c.requires.kept.0 kept (spans_replaced (members_now (stock c.args.buffers.now) c.args.buffer) c.args.first c.args.removed c.args.added.items) lie c.deref-2.result.now (length c.args.buffers.now) (c.deref-2.ensures.value ∙ are) refl

pub returns-in_err-members-clause-fault : goal.returns-in_err-members-clause-fault
returns-in_err-members-clause-fault c =
    let kept : IsKept (map known c.args.buffers.now) c.args.graph.now c.requires.kept.0 = c.requires.kept.1 in
    let in_stock : c.args.buffer < count (stock c.args.buffers.now) = there c.args.buffers.now c.args.graph.now c.requires.kept.0 kept c.args.buffer c.requires.there c.requires.carrier in
    let held : slice_get c.args.buffers.now c.args.buffer ≡ Some c.index-all-buffer.result = got c.args.buffers.now c.args.buffers.now c.args.buffer c.buffer.inside.0 c.index-all-buffer.result refl c.buffer.view_is in_stock c.index-all-buffer.is in
    let same : members_now (stock c.args.buffers.now) c.args.buffer ≡ held_members c.index-all-buffer.result = members_are c.args.buffers.now c.args.graph.now c.requires.kept.0 kept c.args.buffer c.requires.there c.requires.carrier c.index-all-buffer.result held in
    let shown : List Member = (spans_replaced (members_now (stock c.args.buffers.now) c.args.buffer) c.args.first c.args.removed c.args.added.items) in
    let list_is : c.in_ok-list.list.items ≡ shown = c.in_ok-list.ensures ∙ ap (λ ms. spans_replaced ms c.args.first c.args.removed c.args.added.items) (sym same) in
    let lie : All (LiesIn (stock c.args.buffers.now)) (spans_replaced (members_now (stock c.args.buffers.now) c.args.buffer) c.args.first c.args.removed c.args.added.items) = all_lie c.args.buffers.now c.args.graph.now c.requires.kept.0 kept c.order-order.ensures.levelled c.args.buffer in_stock c.args.first c.args.removed c.args.added.items c.requires.inside in
    let are : c.in_ok-sources.sources.items ≡ sources_in [] (spans_replaced (members_now (stock c.args.buffers.now) c.args.buffer) c.args.first c.args.removed c.args.added.items) = c.in_ok-sources.ensures ∙ ap (sources_in []) (c.deref.ensures.value ∙ list_is) in
    let found : c.in_ok-snapshots.snapshots.items ≡ snaps (stock c.args.buffers.now) (map (λ b. (b, now (stock c.args.buffers.now) b)) (sources_in [] (spans_replaced (members_now (stock c.args.buffers.now) c.args.buffer) c.args.first c.args.removed c.args.added.items))) = snaps_held c.args.buffers.now c.args.graph.now c.requires.kept.0 kept (spans_replaced (members_now (stock c.args.buffers.now) c.args.buffer) c.args.first c.args.removed c.args.added.items) lie c.deref-2.result.now c.in_ok-snapshots.snapshots.items (c.deref-2.ensures.value ∙ are) c.in_ok-snapshots.ensures in
    let long : c.deref-4.result.now ≡ map {B = ℕ × ℕ} (λ (x : Snapshot). (x.buffer, length x.text)) c.in_ok-snapshots.snapshots.items = c.deref-4.ensures.value ∙ c.in_ok-lengths.ensures ∙ ap (map {B = ℕ × ℕ} (λ (x : Snapshot). (x.buffer, length x.text))) c.deref-3.ensures.value in
    handed_on _ _ c.from_residual-in_err-members.result c.in_err-members.field-0.0 c.from_residual-in_err-members.ensures (members_refused c.args.buffers.now c.args.graph.now c.requires.kept.0 kept c.order-order.ensures.levelled c.args.buffer in_stock c.args.first c.args.removed c.args.added.items c.requires.inside c.in_ok-snapshots.snapshots.items found c.deref-4.result.now long _ (Unit {0}) c.in_err-members.field-0.0 (subst (λ ms. Refuses (first_fault (len_in c.deref-4.result.now) ms) (Err c.in_err-members.field-0.0)) list_is c.in_err-members.ensures.fault))

pub relinked-requires-clause-there : goal.relinked-requires-clause-there
relinked-requires-clause-there c =
    let kept : IsKept (map known c.args.buffers.now) c.args.graph.now c.requires.kept.0 = c.requires.kept.1 in
    omega (arith, held_len c.args.buffers.now c.args.graph.now c.requires.kept.0 kept, c.requires.there)

pub relinked-requires-clause-sources_there : goal.relinked-requires-clause-sources_there
relinked-requires-clause-sources_there c =
    let kept : IsKept (map known c.args.buffers.now) c.args.graph.now c.requires.kept.0 = c.requires.kept.1 in
    let in_stock : c.args.buffer < count (stock c.args.buffers.now) = there c.args.buffers.now c.args.graph.now c.requires.kept.0 kept c.args.buffer c.requires.there c.requires.carrier in
    let held : slice_get c.args.buffers.now c.args.buffer ≡ Some c.index-all-buffer.result = got c.args.buffers.now c.args.buffers.now c.args.buffer c.buffer.inside.0 c.index-all-buffer.result refl c.buffer.view_is in_stock c.index-all-buffer.is in
    let same : members_now (stock c.args.buffers.now) c.args.buffer ≡ held_members c.index-all-buffer.result = members_are c.args.buffers.now c.args.graph.now c.requires.kept.0 kept c.args.buffer c.requires.there c.requires.carrier c.index-all-buffer.result held in
    let shown : List Member = (spans_replaced (members_now (stock c.args.buffers.now) c.args.buffer) c.args.first c.args.removed c.args.added.items) in
    let list_is : c.in_ok-list.list.items ≡ shown = c.in_ok-list.ensures ∙ ap (λ ms. spans_replaced ms c.args.first c.args.removed c.args.added.items) (sym same) in
    let lie : All (LiesIn (stock c.args.buffers.now)) (spans_replaced (members_now (stock c.args.buffers.now) c.args.buffer) c.args.first c.args.removed c.args.added.items) = all_lie c.args.buffers.now c.args.graph.now c.requires.kept.0 kept c.order-order.ensures.levelled c.args.buffer in_stock c.args.first c.args.removed c.args.added.items c.requires.inside in
    let are : c.in_ok-sources.sources.items ≡ sources_in [] (spans_replaced (members_now (stock c.args.buffers.now) c.args.buffer) c.args.first c.args.removed c.args.added.items) = c.in_ok-sources.ensures ∙ ap (sources_in []) (c.deref.ensures.value ∙ list_is) in
    sources_within c.args.buffers.now c.args.graph.now c.requires.kept.0 kept (spans_replaced (members_now (stock c.args.buffers.now) c.args.buffer) c.args.first c.args.removed c.args.added.items) lie c.deref-5.result.now (length c.args.graph.now) (c.deref-5.ensures.value ∙ are) (held_len c.args.buffers.now c.args.graph.now c.requires.kept.0 kept)

pub returns-in_err-linked-clause-fault : goal.returns-in_err-linked-clause-fault
returns-in_err-linked-clause-fault c =
    let kept : IsKept (map known c.args.buffers.now) c.args.graph.now c.requires.kept.0 = c.requires.kept.1 in
    let in_stock : c.args.buffer < count (stock c.args.buffers.now) = there c.args.buffers.now c.args.graph.now c.requires.kept.0 kept c.args.buffer c.requires.there c.requires.carrier in
    let held : slice_get c.args.buffers.now c.args.buffer ≡ Some c.index-all-buffer.result = got c.args.buffers.now c.args.buffers.now c.args.buffer c.buffer.inside.0 c.index-all-buffer.result refl c.buffer.view_is in_stock c.index-all-buffer.is in
    let same : members_now (stock c.args.buffers.now) c.args.buffer ≡ held_members c.index-all-buffer.result = members_are c.args.buffers.now c.args.graph.now c.requires.kept.0 kept c.args.buffer c.requires.there c.requires.carrier c.index-all-buffer.result held in
    let shown : List Member = (spans_replaced (members_now (stock c.args.buffers.now) c.args.buffer) c.args.first c.args.removed c.args.added.items) in
    let list_is : c.in_ok-list.list.items ≡ shown = c.in_ok-list.ensures ∙ ap (λ ms. spans_replaced ms c.args.first c.args.removed c.args.added.items) (sym same) in
    let lie : All (LiesIn (stock c.args.buffers.now)) (spans_replaced (members_now (stock c.args.buffers.now) c.args.buffer) c.args.first c.args.removed c.args.added.items) = all_lie c.args.buffers.now c.args.graph.now c.requires.kept.0 kept c.order-order.ensures.levelled c.args.buffer in_stock c.args.first c.args.removed c.args.added.items c.requires.inside in
    let are : c.in_ok-sources.sources.items ≡ sources_in [] (spans_replaced (members_now (stock c.args.buffers.now) c.args.buffer) c.args.first c.args.removed c.args.added.items) = c.in_ok-sources.ensures ∙ ap (sources_in []) (c.deref.ensures.value ∙ list_is) in
    let found : c.in_ok-snapshots.snapshots.items ≡ snaps (stock c.args.buffers.now) (map (λ b. (b, now (stock c.args.buffers.now) b)) (sources_in [] (spans_replaced (members_now (stock c.args.buffers.now) c.args.buffer) c.args.first c.args.removed c.args.added.items))) = snaps_held c.args.buffers.now c.args.graph.now c.requires.kept.0 kept (spans_replaced (members_now (stock c.args.buffers.now) c.args.buffer) c.args.first c.args.removed c.args.added.items) lie c.deref-2.result.now c.in_ok-snapshots.snapshots.items (c.deref-2.ensures.value ∙ are) c.in_ok-snapshots.ensures in
    let long : c.deref-4.result.now ≡ map {B = ℕ × ℕ} (λ (x : Snapshot). (x.buffer, length x.text)) c.in_ok-snapshots.snapshots.items = c.deref-4.ensures.value ∙ c.in_ok-lengths.ensures ∙ ap (map {B = ℕ × ℕ} (λ (x : Snapshot). (x.buffer, length x.text))) c.deref-3.ensures.value in
    let apart : Refuses (first_fault (len_in c.deref-4.result.now) (spans_replaced (members_now (stock c.args.buffers.now) c.args.buffer) c.args.first c.args.removed c.args.added.items)) (Ok c.in_ok-members.members) = subst (λ ms. Refuses (first_fault (len_in c.deref-4.result.now) ms) (Ok c.in_ok-members.members)) list_is c.in_ok-members.ensures.fault in
    let members_shown : c.in_ok-members.members ≡ (spans_replaced (members_now (stock c.args.buffers.now) c.args.buffer) c.args.first c.args.removed c.args.added.items) = c.in_ok-members.ensures.members ∙ list_is in
    handed_on _ _ c.from_residual-in_err-linked.result c.in_err-linked.field-0.0 c.from_residual-in_err-linked.ensures (sources_refused c.args.buffers.now c.args.graph.now c.requires.kept.0 kept c.order-order.ensures.levelled c.args.buffer in_stock c.args.first c.args.removed c.args.added.items c.requires.inside c.in_ok-snapshots.snapshots.items found c.deref-4.result.now long _ c.in_ok-members.members apart _ (Unit {0}) c.in_err-linked.field-0.0 (subst (λ xs. Refuses (standing_fault c.args.graph.now c.args.buffer xs) (Err c.in_err-linked.field-0.0)) (c.deref-5.ensures.value ∙ are) c.in_err-linked.ensures.fault))

pub returns-in-Some-clause-fault : goal.returns-in-Some-clause-fault
returns-in-Some-clause-fault c =
    let kept : IsKept (map known c.args.buffers.now) c.args.graph.now c.requires.kept.0 = c.requires.kept.1 in
    let in_stock : c.args.buffer < count (stock c.args.buffers.now) = there c.args.buffers.now c.args.graph.now c.requires.kept.0 kept c.args.buffer c.requires.there c.requires.carrier in
    let held : slice_get c.args.buffers.now c.args.buffer ≡ Some c.index-all-buffer.result = got c.args.buffers.now c.args.buffers.now c.args.buffer c.buffer.inside.0 c.index-all-buffer.result refl c.buffer.view_is in_stock c.index-all-buffer.is in
    let same : members_now (stock c.args.buffers.now) c.args.buffer ≡ held_members c.index-all-buffer.result = members_are c.args.buffers.now c.args.graph.now c.requires.kept.0 kept c.args.buffer c.requires.there c.requires.carrier c.index-all-buffer.result held in
    let shown : List Member = (spans_replaced (members_now (stock c.args.buffers.now) c.args.buffer) c.args.first c.args.removed c.args.added.items) in
    let list_is : c.in_ok-list.list.items ≡ shown = c.in_ok-list.ensures ∙ ap (λ ms. spans_replaced ms c.args.first c.args.removed c.args.added.items) (sym same) in
    let lie : All (LiesIn (stock c.args.buffers.now)) (spans_replaced (members_now (stock c.args.buffers.now) c.args.buffer) c.args.first c.args.removed c.args.added.items) = all_lie c.args.buffers.now c.args.graph.now c.requires.kept.0 kept c.order-order.ensures.levelled c.args.buffer in_stock c.args.first c.args.removed c.args.added.items c.requires.inside in
    let are : c.in_ok-sources.sources.items ≡ sources_in [] (spans_replaced (members_now (stock c.args.buffers.now) c.args.buffer) c.args.first c.args.removed c.args.added.items) = c.in_ok-sources.ensures ∙ ap (sources_in []) (c.deref.ensures.value ∙ list_is) in
    let found : c.in_ok-snapshots.snapshots.items ≡ snaps (stock c.args.buffers.now) (map (λ b. (b, now (stock c.args.buffers.now) b)) (sources_in [] (spans_replaced (members_now (stock c.args.buffers.now) c.args.buffer) c.args.first c.args.removed c.args.added.items))) = snaps_held c.args.buffers.now c.args.graph.now c.requires.kept.0 kept (spans_replaced (members_now (stock c.args.buffers.now) c.args.buffer) c.args.first c.args.removed c.args.added.items) lie c.deref-2.result.now c.in_ok-snapshots.snapshots.items (c.deref-2.ensures.value ∙ are) c.in_ok-snapshots.ensures in
    let long : c.deref-4.result.now ≡ map {B = ℕ × ℕ} (λ (x : Snapshot). (x.buffer, length x.text)) c.in_ok-snapshots.snapshots.items = c.deref-4.ensures.value ∙ c.in_ok-lengths.ensures ∙ ap (map {B = ℕ × ℕ} (λ (x : Snapshot). (x.buffer, length x.text))) c.deref-3.ensures.value in
    let apart : Refuses (first_fault (len_in c.deref-4.result.now) (spans_replaced (members_now (stock c.args.buffers.now) c.args.buffer) c.args.first c.args.removed c.args.added.items)) (Ok c.in_ok-members.members) = subst (λ ms. Refuses (first_fault (len_in c.deref-4.result.now) ms) (Ok c.in_ok-members.members)) list_is c.in_ok-members.ensures.fault in
    let members_shown : c.in_ok-members.members ≡ (spans_replaced (members_now (stock c.args.buffers.now) c.args.buffer) c.args.first c.args.removed c.args.added.items) = c.in_ok-members.ensures.members ∙ list_is in
    let stands : Refuses (standing_fault c.args.graph.now c.args.buffer (sources_in [] (spans_replaced (members_now (stock c.args.buffers.now) c.args.buffer) c.args.first c.args.removed c.args.added.items))) (Ok c.in_ok-linked.linked) = subst (λ xs. Refuses (standing_fault c.args.graph.now c.args.buffer xs) (Ok c.in_ok-linked.linked)) (c.deref-5.ensures.value ∙ are) c.in_ok-linked.ensures.fault in
    let graph_is : c.in_ok-linked.linked ≡ linked c.args.graph.now c.args.buffer (sources_in [] (spans_replaced (members_now (stock c.args.buffers.now) c.args.buffer) c.args.first c.args.removed c.args.added.items)) = c.in_ok-linked.ensures.graph ∙ ap (linked c.args.graph.now c.args.buffer) (c.deref-5.ensures.value ∙ are) in
    let limits : spans_fault (stock c.args.buffers.now) c.args.buffer c.args.first c.args.removed c.args.added.items ≡ first_some (stock_limits (spans_set (stock c.args.buffers.now) c.args.buffer c.args.first c.args.removed c.args.added.items).stock) = limits_left c.args.buffers.now c.args.graph.now c.requires.kept.0 kept c.order-order.ensures.levelled c.args.buffer in_stock c.args.first c.args.removed c.args.added.items c.requires.inside c.in_ok-snapshots.snapshots.items found c.deref-4.result.now long _ c.in_ok-members.members apart _ c.in_ok-linked.linked stands in
    let long_is : c.from.result ≡ members_len (spans_replaced (members_now (stock c.args.buffers.now) c.args.buffer) c.args.first c.args.removed c.args.added.items) = c.from.ensures ∙ c.len.ensures ∙ ap members_len members_shown in
    long_refused c.args.buffers.now c.args.graph.now c.requires.kept.0 kept c.args.buffer c.requires.there c.requires.carrier c.requires.plain c.args.first c.args.removed c.requires.part c.args.added.items c.order-order.ensures.levelled c.requires.inside (subst IsLevelled graph_is c.in_ok-linked.ensures.levelled) limits c.in-Some.refusal c.from.result long_is (sym c.units_limit.ensures ∙ c.in-Some.is)

pub reshown-requires-clause-part : goal.reshown-requires-clause-part
reshown-requires-clause-part c = λ h is.
    let kept : IsKept (map known c.args.buffers.now) c.args.graph.now c.requires.kept.0 = c.requires.kept.1 in
    let in_stock : c.args.buffer < count (stock c.args.buffers.now) = there c.args.buffers.now c.args.graph.now c.requires.kept.0 kept c.args.buffer c.requires.there c.requires.carrier in
    let held : slice_get c.args.buffers.now c.args.buffer ≡ Some c.index-all-buffer.result = got c.args.buffers.now c.args.buffers.now c.args.buffer c.buffer.inside.0 c.index-all-buffer.result refl c.buffer.view_is in_stock c.index-all-buffer.is in
    let same : members_now (stock c.args.buffers.now) c.args.buffer ≡ held_members c.index-all-buffer.result = members_are c.args.buffers.now c.args.graph.now c.requires.kept.0 kept c.args.buffer c.requires.there c.requires.carrier c.index-all-buffer.result held in
    let shown : List Member = (spans_replaced (members_now (stock c.args.buffers.now) c.args.buffer) c.args.first c.args.removed c.args.added.items) in
    let list_is : c.in_ok-list.list.items ≡ shown = c.in_ok-list.ensures ∙ ap (λ ms. spans_replaced ms c.args.first c.args.removed c.args.added.items) (sym same) in
    let lie : All (LiesIn (stock c.args.buffers.now)) (spans_replaced (members_now (stock c.args.buffers.now) c.args.buffer) c.args.first c.args.removed c.args.added.items) = all_lie c.args.buffers.now c.args.graph.now c.requires.kept.0 kept c.order-order.ensures.levelled c.args.buffer in_stock c.args.first c.args.removed c.args.added.items c.requires.inside in
    let are : c.in_ok-sources.sources.items ≡ sources_in [] (spans_replaced (members_now (stock c.args.buffers.now) c.args.buffer) c.args.first c.args.removed c.args.added.items) = c.in_ok-sources.ensures ∙ ap (sources_in []) (c.deref.ensures.value ∙ list_is) in
    let found : c.in_ok-snapshots.snapshots.items ≡ snaps (stock c.args.buffers.now) (map (λ b. (b, now (stock c.args.buffers.now) b)) (sources_in [] (spans_replaced (members_now (stock c.args.buffers.now) c.args.buffer) c.args.first c.args.removed c.args.added.items))) = snaps_held c.args.buffers.now c.args.graph.now c.requires.kept.0 kept (spans_replaced (members_now (stock c.args.buffers.now) c.args.buffer) c.args.first c.args.removed c.args.added.items) lie c.deref-2.result.now c.in_ok-snapshots.snapshots.items (c.deref-2.ensures.value ∙ are) c.in_ok-snapshots.ensures in
    let long : c.deref-4.result.now ≡ map {B = ℕ × ℕ} (λ (x : Snapshot). (x.buffer, length x.text)) c.in_ok-snapshots.snapshots.items = c.deref-4.ensures.value ∙ c.in_ok-lengths.ensures ∙ ap (map {B = ℕ × ℕ} (λ (x : Snapshot). (x.buffer, length x.text))) c.deref-3.ensures.value in
    let apart : Refuses (first_fault (len_in c.deref-4.result.now) (spans_replaced (members_now (stock c.args.buffers.now) c.args.buffer) c.args.first c.args.removed c.args.added.items)) (Ok c.in_ok-members.members) = subst (λ ms. Refuses (first_fault (len_in c.deref-4.result.now) ms) (Ok c.in_ok-members.members)) list_is c.in_ok-members.ensures.fault in
    let members_shown : c.in_ok-members.members ≡ (spans_replaced (members_now (stock c.args.buffers.now) c.args.buffer) c.args.first c.args.removed c.args.added.items) = c.in_ok-members.ensures.members ∙ list_is in
    can_respan c.args.buffers.now c.args.graph.now c.requires.kept.0 kept c.args.buffer c.requires.there c.requires.carrier c.requires.plain c.args.first c.args.removed c.requires.part c.args.added.items h is c.in_ok-members.members members_shown

pub reshown-requires-clause-sources_there : goal.reshown-requires-clause-sources_there
reshown-requires-clause-sources_there c =
    let kept : IsKept (map known c.args.buffers.now) c.args.graph.now c.requires.kept.0 = c.requires.kept.1 in
    let in_stock : c.args.buffer < count (stock c.args.buffers.now) = there c.args.buffers.now c.args.graph.now c.requires.kept.0 kept c.args.buffer c.requires.there c.requires.carrier in
    let held : slice_get c.args.buffers.now c.args.buffer ≡ Some c.index-all-buffer.result = got c.args.buffers.now c.args.buffers.now c.args.buffer c.buffer.inside.0 c.index-all-buffer.result refl c.buffer.view_is in_stock c.index-all-buffer.is in
    let same : members_now (stock c.args.buffers.now) c.args.buffer ≡ held_members c.index-all-buffer.result = members_are c.args.buffers.now c.args.graph.now c.requires.kept.0 kept c.args.buffer c.requires.there c.requires.carrier c.index-all-buffer.result held in
    let shown : List Member = (spans_replaced (members_now (stock c.args.buffers.now) c.args.buffer) c.args.first c.args.removed c.args.added.items) in
    let list_is : c.in_ok-list.list.items ≡ shown = c.in_ok-list.ensures ∙ ap (λ ms. spans_replaced ms c.args.first c.args.removed c.args.added.items) (sym same) in
    let lie : All (LiesIn (stock c.args.buffers.now)) (spans_replaced (members_now (stock c.args.buffers.now) c.args.buffer) c.args.first c.args.removed c.args.added.items) = all_lie c.args.buffers.now c.args.graph.now c.requires.kept.0 kept c.order-order.ensures.levelled c.args.buffer in_stock c.args.first c.args.removed c.args.added.items c.requires.inside in
    let are : c.in_ok-sources.sources.items ≡ sources_in [] (spans_replaced (members_now (stock c.args.buffers.now) c.args.buffer) c.args.first c.args.removed c.args.added.items) = c.in_ok-sources.ensures ∙ ap (sources_in []) (c.deref.ensures.value ∙ list_is) in
    let found : c.in_ok-snapshots.snapshots.items ≡ snaps (stock c.args.buffers.now) (map (λ b. (b, now (stock c.args.buffers.now) b)) (sources_in [] (spans_replaced (members_now (stock c.args.buffers.now) c.args.buffer) c.args.first c.args.removed c.args.added.items))) = snaps_held c.args.buffers.now c.args.graph.now c.requires.kept.0 kept (spans_replaced (members_now (stock c.args.buffers.now) c.args.buffer) c.args.first c.args.removed c.args.added.items) lie c.deref-2.result.now c.in_ok-snapshots.snapshots.items (c.deref-2.ensures.value ∙ are) c.in_ok-snapshots.ensures in
    let long : c.deref-4.result.now ≡ map {B = ℕ × ℕ} (λ (x : Snapshot). (x.buffer, length x.text)) c.in_ok-snapshots.snapshots.items = c.deref-4.ensures.value ∙ c.in_ok-lengths.ensures ∙ ap (map {B = ℕ × ℕ} (λ (x : Snapshot). (x.buffer, length x.text))) c.deref-3.ensures.value in
    let apart : Refuses (first_fault (len_in c.deref-4.result.now) (spans_replaced (members_now (stock c.args.buffers.now) c.args.buffer) c.args.first c.args.removed c.args.added.items)) (Ok c.in_ok-members.members) = subst (λ ms. Refuses (first_fault (len_in c.deref-4.result.now) ms) (Ok c.in_ok-members.members)) list_is c.in_ok-members.ensures.fault in
    let members_shown : c.in_ok-members.members ≡ (spans_replaced (members_now (stock c.args.buffers.now) c.args.buffer) c.args.first c.args.removed c.args.added.items) = c.in_ok-members.ensures.members ∙ list_is in
    subst (λ xs. All (HasSource no_steps c.deref-6.result.now) xs) (sym members_shown) (have_all c.args.buffers.now c.args.graph.now c.requires.kept.0 kept (spans_replaced (members_now (stock c.args.buffers.now) c.args.buffer) c.args.first c.args.removed c.args.added.items) lie c.deref-6.result.now (c.deref-6.ensures.value ∙ found))

pub returns-in_err-next-clause-fault : goal.returns-in_err-next-clause-fault
returns-in_err-next-clause-fault c =
    handed_on _ _ c.from_residual-in_err-next.result PlanFault.OutOfMemory c.from_residual-in_err-next.ensures (refuses_memory (Unit {0}) _)

pub returns-clause-begun : goal.returns-clause-begun
returns-clause-begun c =
    let kept : IsKept (map known c.args.buffers.now) c.args.graph.now c.requires.kept.0 = c.requires.kept.1 in
    let in_stock : c.args.buffer < count (stock c.args.buffers.now) = there c.args.buffers.now c.args.graph.now c.requires.kept.0 kept c.args.buffer c.requires.there c.requires.carrier in
    let held : slice_get c.args.buffers.now c.args.buffer ≡ Some c.index-all-buffer.result = got c.args.buffers.now c.args.buffers.now c.args.buffer c.buffer.inside.0 c.index-all-buffer.result refl c.buffer.view_is in_stock c.index-all-buffer.is in
    let same : members_now (stock c.args.buffers.now) c.args.buffer ≡ held_members c.index-all-buffer.result = members_are c.args.buffers.now c.args.graph.now c.requires.kept.0 kept c.args.buffer c.requires.there c.requires.carrier c.index-all-buffer.result held in
    let shown : List Member = (spans_replaced (members_now (stock c.args.buffers.now) c.args.buffer) c.args.first c.args.removed c.args.added.items) in
    let list_is : c.in_ok-list.list.items ≡ shown = c.in_ok-list.ensures ∙ ap (λ ms. spans_replaced ms c.args.first c.args.removed c.args.added.items) (sym same) in
    let lie : All (LiesIn (stock c.args.buffers.now)) (spans_replaced (members_now (stock c.args.buffers.now) c.args.buffer) c.args.first c.args.removed c.args.added.items) = all_lie c.args.buffers.now c.args.graph.now c.requires.kept.0 kept c.order-order.ensures.levelled c.args.buffer in_stock c.args.first c.args.removed c.args.added.items c.requires.inside in
    let are : c.in_ok-sources.sources.items ≡ sources_in [] (spans_replaced (members_now (stock c.args.buffers.now) c.args.buffer) c.args.first c.args.removed c.args.added.items) = c.in_ok-sources.ensures ∙ ap (sources_in []) (c.deref.ensures.value ∙ list_is) in
    let found : c.in_ok-snapshots.snapshots.items ≡ snaps (stock c.args.buffers.now) (map (λ b. (b, now (stock c.args.buffers.now) b)) (sources_in [] (spans_replaced (members_now (stock c.args.buffers.now) c.args.buffer) c.args.first c.args.removed c.args.added.items))) = snaps_held c.args.buffers.now c.args.graph.now c.requires.kept.0 kept (spans_replaced (members_now (stock c.args.buffers.now) c.args.buffer) c.args.first c.args.removed c.args.added.items) lie c.deref-2.result.now c.in_ok-snapshots.snapshots.items (c.deref-2.ensures.value ∙ are) c.in_ok-snapshots.ensures in
    let long : c.deref-4.result.now ≡ map {B = ℕ × ℕ} (λ (x : Snapshot). (x.buffer, length x.text)) c.in_ok-snapshots.snapshots.items = c.deref-4.ensures.value ∙ c.in_ok-lengths.ensures ∙ ap (map {B = ℕ × ℕ} (λ (x : Snapshot). (x.buffer, length x.text))) c.deref-3.ensures.value in
    let apart : Refuses (first_fault (len_in c.deref-4.result.now) (spans_replaced (members_now (stock c.args.buffers.now) c.args.buffer) c.args.first c.args.removed c.args.added.items)) (Ok c.in_ok-members.members) = subst (λ ms. Refuses (first_fault (len_in c.deref-4.result.now) ms) (Ok c.in_ok-members.members)) list_is c.in_ok-members.ensures.fault in
    let members_shown : c.in_ok-members.members ≡ (spans_replaced (members_now (stock c.args.buffers.now) c.args.buffer) c.args.first c.args.removed c.args.added.items) = c.in_ok-members.ensures.members ∙ list_is in
    let stands : Refuses (standing_fault c.args.graph.now c.args.buffer (sources_in [] (spans_replaced (members_now (stock c.args.buffers.now) c.args.buffer) c.args.first c.args.removed c.args.added.items))) (Ok c.in_ok-linked.linked) = subst (λ xs. Refuses (standing_fault c.args.graph.now c.args.buffer xs) (Ok c.in_ok-linked.linked)) (c.deref-5.ensures.value ∙ are) c.in_ok-linked.ensures.fault in
    let graph_is : c.in_ok-linked.linked ≡ linked c.args.graph.now c.args.buffer (sources_in [] (spans_replaced (members_now (stock c.args.buffers.now) c.args.buffer) c.args.first c.args.removed c.args.added.items)) = c.in_ok-linked.ensures.graph ∙ ap (linked c.args.graph.now c.args.buffer) (c.deref-5.ensures.value ∙ are) in
    let limits : spans_fault (stock c.args.buffers.now) c.args.buffer c.args.first c.args.removed c.args.added.items ≡ first_some (stock_limits (spans_set (stock c.args.buffers.now) c.args.buffer c.args.first c.args.removed c.args.added.items).stock) = limits_left c.args.buffers.now c.args.graph.now c.requires.kept.0 kept c.order-order.ensures.levelled c.args.buffer in_stock c.args.first c.args.removed c.args.added.items c.requires.inside c.in_ok-snapshots.snapshots.items found c.deref-4.result.now long _ c.in_ok-members.members apart _ c.in_ok-linked.linked stands in
    let long_is : c.from.result ≡ members_len (spans_replaced (members_now (stock c.args.buffers.now) c.args.buffer) c.args.first c.args.removed c.args.added.items) = c.from.ensures ∙ c.len.ensures ∙ ap members_len members_shown in
    has_begun c.args.buffers.now c.args.graph.now c.requires.kept.0 kept c.args.buffer c.requires.there c.requires.carrier c.requires.plain c.args.first c.args.removed c.requires.part c.args.added.items c.order-order.ensures.levelled c.requires.inside c.in_ok-linked.linked graph_is c.in_ok-linked.ensures.levelled limits (shown_apart c.args.buffers.now c.args.graph.now c.requires.kept.0 kept c.order-order.ensures.levelled c.args.buffer in_stock c.args.first c.args.removed c.args.added.items c.requires.inside c.in_ok-snapshots.snapshots.items found c.deref-4.result.now long _ c.in_ok-members.members apart) (shown_cover c.args.buffers.now c.args.graph.now c.requires.kept.0 kept c.order-order.ensures.levelled c.args.buffer in_stock c.args.first c.args.removed c.args.added.items c.requires.inside c.in_ok-snapshots.snapshots.items found c.deref-4.result.now long _ c.in_ok-members.members apart) c.reshown.new.buffers c.index-all-buffer.result held c.in_ok-members.members members_shown (subst (λ k. k ≤ 2 ^ 22) (long_is ∙ ap members_len (sym members_shown)) (not_passed Which.Units (2 ^ 22) c.from.result (sym c.units_limit.ensures ∙ c.in_default.is))) c.deref-6.result.now (c.deref-6.ensures.value ∙ found) c.in_ok-next.next (c.in_ok-next.ensures.reshown c.index-all-buffer.result held)
