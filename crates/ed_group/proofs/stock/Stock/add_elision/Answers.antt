use Rattle.std.specs.Prelude.{All}
use Rattle.std.proofs.Common.{◌≡◌, ◌∙◌, ◌+◌, ◌<◌, map, length, ap, sym, subst, arith}
use Rattle.ed_climb.specs.Kept.{IsKept}
use Rattle.ed_climb.specs.Limited.{new_limit}
use Rattle.ed_climb.proofs.KeptNumbers.{held_count, held_few, held_len, refuses_none, refuses_this}
use Rattle.ed_held.specs.Moves.{snapshot_now}
use Rattle.ed_held.specs.Seen.{known, stock}
use Rattle.ed_layers.specs.Records.{members_len, members_of}
use Rattle.ed_risen.specs.Counting.{tracked_in}
use Rattle.ed_spans.specs.SpanSets.{EndsWithin}
use Rattle.ed_stock.specs.Making.{elision_of}
use Rattle.ed_group.specs.Hiding.{IsOpened}
use Rattle.ed_group.proofs.Current.{is_held}
use Rattle.ed_group.proofs.Elided.{elision_put, elision_stock, fault_deep, fault_limit, hide_within, members_are, source_linked, tracked_are}
use Rattle.ed_group.proofs.Lasting.{others_stay}
use Rattle.ed_group.proofs.NewCarrier.{held_placements, same_args}
use Rattle.ed_group.proofs.Refusing.{passed_on}
use Rattle.ed_group.proofs.stock.Stock.add_elision.Goals as goal

pub placed-requires-clause-few : goal.placed-requires-clause-few
placed-requires-clause-few c =
    let kept : IsKept (map known c.args.self.now) c.self.inside.graph c.self.inside.counts = subst (λ hs. IsKept (map known hs) c.self.inside.graph c.self.inside.counts) c.self.view_is c.self.invariant in
    omega (arith, held_few c.args.self.now c.self.inside.graph c.self.inside.counts kept)

pub placed-requires-clause-there : goal.placed-requires-clause-there
placed-requires-clause-there c =
    let kept : IsKept (map known c.args.self.now) c.self.inside.graph c.self.inside.counts = subst (λ hs. IsKept (map known hs) c.self.inside.graph c.self.inside.counts) c.self.view_is c.self.invariant in
    source_linked c.args.self.now c.self.inside.graph c.self.inside.counts kept c.args.source c.requires.there c.args.hide.now

pub opened-requires-clause-there : goal.opened-requires-clause-there
opened-requires-clause-there c =
    let kept : IsKept (map known c.args.self.now) c.self.inside.graph c.self.inside.counts = subst (λ hs. IsKept (map known hs) c.self.inside.graph c.self.inside.counts) c.self.view_is c.self.invariant in
    let buffers : c.deref.result.now ≡ c.args.self.now = c.deref.ensures.value ∙ c.self.view_is in
    subst (λ xs. c.args.source < length xs) (sym buffers) (is_held c.args.self.now c.self.inside.graph c.self.inside.counts kept c.args.source c.requires.there)

pub opened-requires-clause-within : goal.opened-requires-clause-within
opened-requires-clause-within c =
    let kept : IsKept (map known c.args.self.now) c.self.inside.graph c.self.inside.counts = subst (λ hs. IsKept (map known hs) c.self.inside.graph c.self.inside.counts) c.self.view_is c.self.invariant in
    let buffers : c.deref.result.now ≡ c.args.self.now = c.deref.ensures.value ∙ c.self.view_is in
    subst (λ xs. All (EndsWithin (length (snapshot_now xs c.args.source).text)) c.args.hide.now) (sym buffers) (hide_within c.args.self.now c.self.inside.graph c.self.inside.counts kept c.args.source c.requires.there c.args.hide.now c.requires.within)

pub returns-in_err-graph-clause-fault : goal.returns-in_err-graph-clause-fault
returns-in_err-graph-clause-fault c =
    let kept : IsKept (map known c.args.self.now) c.self.inside.graph c.self.inside.counts = subst (λ hs. IsKept (map known hs) c.self.inside.graph c.self.inside.counts) c.self.view_is c.self.invariant in
    passed_on _ _ c.from_residual.result c.in_err-graph.field-0.0 c.from_residual.ensures (fault_deep c.args.self.now c.self.inside.graph c.self.inside.counts kept c.args.source c.requires.there c.args.hide.now _ _ c.in_err-graph.field-0.0 c.in_err-graph.ensures.fault)

pub with_buffer-counts-requires-clause-tracked : goal.with_buffer-counts-requires-clause-tracked
with_buffer-counts-requires-clause-tracked c =
    let kept : IsKept (map known c.args.self.now) c.self.inside.graph c.self.inside.counts = subst (λ hs. IsKept (map known hs) c.self.inside.graph c.self.inside.counts) c.self.view_is c.self.invariant in
    omega (arith, held_placements c.args.self.now c.self.inside.graph c.self.inside.counts kept)

pub returns-in-Some-clause-fault : goal.returns-in-Some-clause-fault
returns-in-Some-clause-fault c =
    let kept : IsKept (map known c.args.self.now) c.self.inside.graph c.self.inside.counts = subst (λ hs. IsKept (map known hs) c.self.inside.graph c.self.inside.counts) c.self.view_is c.self.invariant in
    let buffers : c.deref.result.now ≡ c.args.self.now = c.deref.ensures.value ∙ c.self.view_is in
    let opened : IsOpened (length c.args.self.now) (snapshot_now c.args.self.now c.args.source) c.args.hide.now c.args.resolver c.in_ok-elision.elision =
    subst (λ xs. IsOpened (length c.args.self.now) (snapshot_now xs c.args.source) c.args.hide.now c.args.resolver c.in_ok-elision.elision) buffers
    (subst (λ b. IsOpened b (snapshot_now c.deref.result.now c.args.source) c.args.hide.now c.args.resolver c.in_ok-elision.elision) (c.in_ok-graph.ensures.number ∙ held_len c.args.self.now c.self.inside.graph c.self.inside.counts kept) c.in_ok-elision.ensures) in
    let members : c.members-members.result.now ≡ members_of (elision_of (stock c.args.self.now) c.args.source c.args.hide.now) = members_are c.args.self.now c.self.inside.graph c.self.inside.counts kept c.args.source c.requires.there c.args.hide.now c.args.resolver c.in_ok-elision.elision opened c.now.result c.members-members.result.now c.now.ensures.version c.members-members.ensures.members in
    let follow : c.from-most.result ≡ tracked_in (elision_of (stock c.args.self.now) c.args.source c.args.hide.now) = c.from-most.ensures ∙ c.count.ensures.count ∙ tracked_are c.args.self.now c.self.inside.graph c.self.inside.counts kept c.args.source c.requires.there c.args.hide.now c.args.resolver c.in_ok-elision.elision opened c.now.result c.members-members.result.now c.now.ensures.version c.members-members.ensures.members in
    let limit : c.new_limit.result ≡ new_limit (c.from-buffers.result + 1) (members_len (members_of (elision_of (stock c.args.self.now) c.args.source c.args.hide.now))) c.with_buffer-counts.result (length (members_of (elision_of (stock c.args.self.now) c.args.source c.args.hide.now))) =
    c.new_limit.ensures ∙ same_args (c.from-buffers.result + 1) c.from-units.result (members_len (members_of (elision_of (stock c.args.self.now) c.args.source c.args.hide.now))) c.with_buffer-counts.result c.from-most.result (length (members_of (elision_of (stock c.args.self.now) c.args.source c.args.hide.now))) (c.from-units.ensures ∙ c.len.ensures ∙ ap members_len members) (c.from-most.ensures ∙ c.count.ensures.count ∙ ap length members) in
    refuses_this _ _ c.in-Some.refusal (fault_limit c.args.self.now c.self.inside.graph c.self.inside.counts kept c.args.source c.requires.there c.args.hide.now c.in_ok-graph.graph c.in_ok-graph.ensures.graph c.in_ok-graph.ensures.levelled c.from-buffers.result (c.from-buffers.ensures ∙ c.count-2.ensures ∙ held_len c.args.self.now c.self.inside.graph c.self.inside.counts kept) c.from-most.result follow c.with_buffer-counts.result c.with_buffer-counts.ensures _ (c.in_ok-graph.graph, c.in_ok-graph.buffer) c.in_ok-graph.ensures.fault c.new_limit.result limit ∙ c.in-Some.is)

pub put-requires : goal.put-requires
put-requires c =
    let kept : IsKept (map known c.args.self.now) c.self.inside.graph c.self.inside.counts = subst (λ hs. IsKept (map known hs) c.self.inside.graph c.self.inside.counts) c.self.view_is c.self.invariant in
    let buffers : c.deref.result.now ≡ c.args.self.now = c.deref.ensures.value ∙ c.self.view_is in
    let opened : IsOpened (length c.args.self.now) (snapshot_now c.args.self.now c.args.source) c.args.hide.now c.args.resolver c.in_ok-elision.elision =
    subst (λ xs. IsOpened (length c.args.self.now) (snapshot_now xs c.args.source) c.args.hide.now c.args.resolver c.in_ok-elision.elision) buffers
    (subst (λ b. IsOpened b (snapshot_now c.deref.result.now c.args.source) c.args.hide.now c.args.resolver c.in_ok-elision.elision) (c.in_ok-graph.ensures.number ∙ held_len c.args.self.now c.self.inside.graph c.self.inside.counts kept) c.in_ok-elision.ensures) in
    let members : c.members-members.result.now ≡ members_of (elision_of (stock c.args.self.now) c.args.source c.args.hide.now) = members_are c.args.self.now c.self.inside.graph c.self.inside.counts kept c.args.source c.requires.there c.args.hide.now c.args.resolver c.in_ok-elision.elision opened c.now.result c.members-members.result.now c.now.ensures.version c.members-members.ensures.members in
    let follow : c.from-most.result ≡ tracked_in (elision_of (stock c.args.self.now) c.args.source c.args.hide.now) = c.from-most.ensures ∙ c.count.ensures.count ∙ tracked_are c.args.self.now c.self.inside.graph c.self.inside.counts kept c.args.source c.requires.there c.args.hide.now c.args.resolver c.in_ok-elision.elision opened c.now.result c.members-members.result.now c.now.ensures.version c.members-members.ensures.members in
    let limit : c.new_limit.result ≡ new_limit (c.from-buffers.result + 1) (members_len (members_of (elision_of (stock c.args.self.now) c.args.source c.args.hide.now))) c.with_buffer-counts.result (length (members_of (elision_of (stock c.args.self.now) c.args.source c.args.hide.now))) =
    c.new_limit.ensures ∙ same_args (c.from-buffers.result + 1) c.from-units.result (members_len (members_of (elision_of (stock c.args.self.now) c.args.source c.args.hide.now))) c.with_buffer-counts.result c.from-most.result (length (members_of (elision_of (stock c.args.self.now) c.args.source c.args.hide.now))) (c.from-units.ensures ∙ c.len.ensures ∙ ap members_len members) (c.from-most.ensures ∙ c.count.ensures.count ∙ ap length members) in
    record { kept = elision_put c.args.self.now c.self.inside.graph c.self.inside.counts kept c.args.source c.requires.there c.args.hide.now c.in_ok-graph.graph c.in_ok-graph.ensures.graph c.in_ok-graph.ensures.levelled c.from-buffers.result (c.from-buffers.ensures ∙ c.count-2.ensures ∙ held_len c.args.self.now c.self.inside.graph c.self.inside.counts kept) c.from-most.result follow c.with_buffer-counts.result c.with_buffer-counts.ensures c.args.resolver c.in_ok-elision.elision opened (sym limit ∙ c.in_default.is) }

pub returns-clause-fault : goal.returns-clause-fault
returns-clause-fault c =
    let kept : IsKept (map known c.args.self.now) c.self.inside.graph c.self.inside.counts = subst (λ hs. IsKept (map known hs) c.self.inside.graph c.self.inside.counts) c.self.view_is c.self.invariant in
    let buffers : c.deref.result.now ≡ c.args.self.now = c.deref.ensures.value ∙ c.self.view_is in
    let opened : IsOpened (length c.args.self.now) (snapshot_now c.args.self.now c.args.source) c.args.hide.now c.args.resolver c.in_ok-elision.elision =
    subst (λ xs. IsOpened (length c.args.self.now) (snapshot_now xs c.args.source) c.args.hide.now c.args.resolver c.in_ok-elision.elision) buffers
    (subst (λ b. IsOpened b (snapshot_now c.deref.result.now c.args.source) c.args.hide.now c.args.resolver c.in_ok-elision.elision) (c.in_ok-graph.ensures.number ∙ held_len c.args.self.now c.self.inside.graph c.self.inside.counts kept) c.in_ok-elision.ensures) in
    let members : c.members-members.result.now ≡ members_of (elision_of (stock c.args.self.now) c.args.source c.args.hide.now) = members_are c.args.self.now c.self.inside.graph c.self.inside.counts kept c.args.source c.requires.there c.args.hide.now c.args.resolver c.in_ok-elision.elision opened c.now.result c.members-members.result.now c.now.ensures.version c.members-members.ensures.members in
    let follow : c.from-most.result ≡ tracked_in (elision_of (stock c.args.self.now) c.args.source c.args.hide.now) = c.from-most.ensures ∙ c.count.ensures.count ∙ tracked_are c.args.self.now c.self.inside.graph c.self.inside.counts kept c.args.source c.requires.there c.args.hide.now c.args.resolver c.in_ok-elision.elision opened c.now.result c.members-members.result.now c.now.ensures.version c.members-members.ensures.members in
    let limit : c.new_limit.result ≡ new_limit (c.from-buffers.result + 1) (members_len (members_of (elision_of (stock c.args.self.now) c.args.source c.args.hide.now))) c.with_buffer-counts.result (length (members_of (elision_of (stock c.args.self.now) c.args.source c.args.hide.now))) =
    c.new_limit.ensures ∙ same_args (c.from-buffers.result + 1) c.from-units.result (members_len (members_of (elision_of (stock c.args.self.now) c.args.source c.args.hide.now))) c.with_buffer-counts.result c.from-most.result (length (members_of (elision_of (stock c.args.self.now) c.args.source c.args.hide.now))) (c.from-units.ensures ∙ c.len.ensures ∙ ap members_len members) (c.from-most.ensures ∙ c.count.ensures.count ∙ ap length members) in
    refuses_none _ c.in_ok-graph.buffer (fault_limit c.args.self.now c.self.inside.graph c.self.inside.counts kept c.args.source c.requires.there c.args.hide.now c.in_ok-graph.graph c.in_ok-graph.ensures.graph c.in_ok-graph.ensures.levelled c.from-buffers.result (c.from-buffers.ensures ∙ c.count-2.ensures ∙ held_len c.args.self.now c.self.inside.graph c.self.inside.counts kept) c.from-most.result follow c.with_buffer-counts.result c.with_buffer-counts.ensures _ (c.in_ok-graph.graph, c.in_ok-graph.buffer) c.in_ok-graph.ensures.fault c.new_limit.result limit ∙ c.in_default.is)

pub returns-clause-number : goal.returns-clause-number
returns-clause-number c =
    let kept : IsKept (map known c.args.self.now) c.self.inside.graph c.self.inside.counts = subst (λ hs. IsKept (map known hs) c.self.inside.graph c.self.inside.counts) c.self.view_is c.self.invariant in
    c.in_ok-graph.ensures.number ∙ held_count c.args.self.now c.self.inside.graph c.self.inside.counts kept

pub returns-clause-ok : goal.returns-clause-ok
returns-clause-ok c =
    let kept : IsKept (map known c.args.self.now) c.self.inside.graph c.self.inside.counts = subst (λ hs. IsKept (map known hs) c.self.inside.graph c.self.inside.counts) c.self.view_is c.self.invariant in
    let buffers : c.deref.result.now ≡ c.args.self.now = c.deref.ensures.value ∙ c.self.view_is in
    let opened : IsOpened (length c.args.self.now) (snapshot_now c.args.self.now c.args.source) c.args.hide.now c.args.resolver c.in_ok-elision.elision =
    subst (λ xs. IsOpened (length c.args.self.now) (snapshot_now xs c.args.source) c.args.hide.now c.args.resolver c.in_ok-elision.elision) buffers
    (subst (λ b. IsOpened b (snapshot_now c.deref.result.now c.args.source) c.args.hide.now c.args.resolver c.in_ok-elision.elision) (c.in_ok-graph.ensures.number ∙ held_len c.args.self.now c.self.inside.graph c.self.inside.counts kept) c.in_ok-elision.ensures) in
    elision_stock c.args.self.now c.self.inside.graph c.self.inside.counts kept c.args.source c.requires.there c.args.hide.now c.args.resolver c.in_ok-elision.elision opened c.put.new.self c.in_ok-put.ensures.ok

pub returns-clause-stay : goal.returns-clause-stay
returns-clause-stay c =
    let kept : IsKept (map known c.args.self.now) c.self.inside.graph c.self.inside.counts = subst (λ hs. IsKept (map known hs) c.self.inside.graph c.self.inside.counts) c.self.view_is c.self.invariant in
    others_stay c.args.self.now c.self.inside.graph c.self.inside.counts kept c.put.new.self _ c.in_ok-put.ensures.ok
