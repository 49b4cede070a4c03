use Rattle.std.specs.Prelude.{All, Ok, Err, count_by}
use Rattle.std.proofs.lemmas.List.Sums.{count_by-le-length}
use Rattle.ed_graph.specs.Standing.{linked}
use Rattle.ed_layers.specs.Records.{is_tracked, members_len}
use Rattle.ed_climb.specs.Refusals.{Refuses}
use Rattle.ed_group.specs.Placed.{too_deep}
use Rattle.ed_climb.specs.declared.fault.PlanFault.{PlanFault}
use Rattle.ed_project.specs.Texts.{HasSource, no_steps, text_in, text_over, versions_of}
use Rattle.ed_project.specs.Records.{shown}
use Rattle.std.proofs.Common.{◌≡◌, ◌∙◌, ℕ, ◌+◌, [], ◌∷◌, ◌++◌, map, length, ap, sym, subst, arith}
use Rattle.ed_climb.specs.Kept.{IsKept}
use Rattle.ed_held.specs.Moves.{snapshot_now}
use Rattle.ed_held.specs.Seen.{known, stock}
use Rattle.ed_stock.specs.Making.{sources_in}
use Rattle.ed_stock.specs.Stock.{now}
use Rattle.ed_version.specs.declared.Snapshot.{Snapshot}
use Rattle.ed_climb.proofs.KeptNumbers.{held_count, held_few, held_len, refuses_none, refuses_this}
use Rattle.ed_group.proofs.NewCarrier.{held_placements, same_args}
use Rattle.ed_group.proofs.Projected.{projection_stock, fault_first, fault_second, fault_third, have_all, projection_put, snaps_held, sources_within}
use Rattle.ed_group.proofs.Refusing.{passed_on, refuses_memory}
use Rattle.ed_climb.proofs.Snapshots.{snaps}
use Rattle.ed_group.proofs.Lasting.{others_stay}
use Rattle.ed_group.proofs.stock.Stock.add_projection.Goals as goal

pub newest_all-requires : goal.newest_all-requires
newest_all-requires c =
    let kept : IsKept (map known c.args.self.now) c.self.inside.graph c.self.inside.counts = subst (λ hs. IsKept (map known hs) c.self.inside.graph c.self.inside.counts) c.self.view_is c.self.invariant in
    let are : c.in_ok-sources.sources.items ≡ sources_in [] c.args.members.items = c.in_ok-sources.ensures ∙ ap (sources_in []) c.deref.ensures.value in
    sources_within c.args.self.now c.self.inside.graph c.self.inside.counts kept c.args.members.items c.requires.inside c.deref-3.result.now (length c.deref-2.result.now) (c.deref-3.ensures.value ∙ are) (ap length (c.deref-2.ensures.value ∙ c.self.view_is))

pub placed-requires-clause-few : goal.placed-requires-clause-few
placed-requires-clause-few c =
    let kept : IsKept (map known c.args.self.now) c.self.inside.graph c.self.inside.counts = subst (λ hs. IsKept (map known hs) c.self.inside.graph c.self.inside.counts) c.self.view_is c.self.invariant in
    let are : c.in_ok-sources.sources.items ≡ sources_in [] c.args.members.items = c.in_ok-sources.ensures ∙ ap (sources_in []) c.deref.ensures.value in
    omega (arith, held_few c.args.self.now c.self.inside.graph c.self.inside.counts kept)

pub placed-requires-clause-there : goal.placed-requires-clause-there
placed-requires-clause-there c =
    let kept : IsKept (map known c.args.self.now) c.self.inside.graph c.self.inside.counts = subst (λ hs. IsKept (map known hs) c.self.inside.graph c.self.inside.counts) c.self.view_is c.self.invariant in
    let are : c.in_ok-sources.sources.items ≡ sources_in [] c.args.members.items = c.in_ok-sources.ensures ∙ ap (sources_in []) c.deref.ensures.value in
    sources_within c.args.self.now c.self.inside.graph c.self.inside.counts kept c.args.members.items c.requires.inside c.deref-7.result.now (length c.self.inside.graph) (c.deref-7.ensures.value ∙ are) (held_len c.args.self.now c.self.inside.graph c.self.inside.counts kept)

pub returns-clause-number : goal.returns-clause-number
returns-clause-number c =
    let kept : IsKept (map known c.args.self.now) c.self.inside.graph c.self.inside.counts = subst (λ hs. IsKept (map known hs) c.self.inside.graph c.self.inside.counts) c.self.view_is c.self.invariant in
    let are : c.in_ok-sources.sources.items ≡ sources_in [] c.args.members.items = c.in_ok-sources.ensures ∙ ap (sources_in []) c.deref.ensures.value in
    c.in_ok-graph.ensures.number ∙ held_count c.args.self.now c.self.inside.graph c.self.inside.counts kept

pub returns-in_err-members-clause-fault : goal.returns-in_err-members-clause-fault
returns-in_err-members-clause-fault c =
    let kept : IsKept (map known c.args.self.now) c.self.inside.graph c.self.inside.counts = subst (λ hs. IsKept (map known hs) c.self.inside.graph c.self.inside.counts) c.self.view_is c.self.invariant in
    let are : c.in_ok-sources.sources.items ≡ sources_in [] c.args.members.items = c.in_ok-sources.ensures ∙ ap (sources_in []) c.deref.ensures.value in
    let found : c.in_ok-snapshots.snapshots.items ≡ snaps (stock c.args.self.now) (map (λ b. (b, now (stock c.args.self.now) b)) (sources_in [] c.args.members.items)) = snaps_held c.args.self.now c.self.inside.graph c.self.inside.counts kept c.args.members.items c.requires.inside c.deref-3.result.now c.in_ok-snapshots.snapshots.items (c.deref-3.ensures.value ∙ are) (c.in_ok-snapshots.ensures ∙ ap (λ hs. map (snapshot_now hs) c.deref-3.result.now) (c.deref-2.ensures.value ∙ c.self.view_is)) in
    let long : c.deref-6.result.now ≡ map {B = ℕ × ℕ} (λ (x : Snapshot). (x.buffer, length x.text)) c.in_ok-snapshots.snapshots.items = c.deref-6.ensures.value ∙ c.in_ok-lengths.ensures ∙ ap (map {B = ℕ × ℕ} (λ (x : Snapshot). (x.buffer, length x.text))) c.deref-4.ensures.value in
    passed_on _ _ c.from_residual-in_err-members.result c.in_err-members.field-0.0 c.from_residual-in_err-members.ensures (fault_first c.args.self.now c.self.inside.graph c.self.inside.counts kept c.args.members.items c.requires.inside c.in_ok-snapshots.snapshots.items found c.deref-6.result.now long _ _ c.in_err-members.field-0.0 c.in_err-members.ensures.fault)

pub returns-in_err-graph-clause-fault : goal.returns-in_err-graph-clause-fault
returns-in_err-graph-clause-fault c =
    let kept : IsKept (map known c.args.self.now) c.self.inside.graph c.self.inside.counts = subst (λ hs. IsKept (map known hs) c.self.inside.graph c.self.inside.counts) c.self.view_is c.self.invariant in
    let are : c.in_ok-sources.sources.items ≡ sources_in [] c.args.members.items = c.in_ok-sources.ensures ∙ ap (sources_in []) c.deref.ensures.value in
    let found : c.in_ok-snapshots.snapshots.items ≡ snaps (stock c.args.self.now) (map (λ b. (b, now (stock c.args.self.now) b)) (sources_in [] c.args.members.items)) = snaps_held c.args.self.now c.self.inside.graph c.self.inside.counts kept c.args.members.items c.requires.inside c.deref-3.result.now c.in_ok-snapshots.snapshots.items (c.deref-3.ensures.value ∙ are) (c.in_ok-snapshots.ensures ∙ ap (λ hs. map (snapshot_now hs) c.deref-3.result.now) (c.deref-2.ensures.value ∙ c.self.view_is)) in
    let long : c.deref-6.result.now ≡ map {B = ℕ × ℕ} (λ (x : Snapshot). (x.buffer, length x.text)) c.in_ok-snapshots.snapshots.items = c.deref-6.ensures.value ∙ c.in_ok-lengths.ensures ∙ ap (map {B = ℕ × ℕ} (λ (x : Snapshot). (x.buffer, length x.text))) c.deref-4.ensures.value in
    passed_on _ _ c.from_residual-in_err-graph.result c.in_err-graph.field-0.0 c.from_residual-in_err-graph.ensures (fault_second c.args.self.now c.self.inside.graph c.self.inside.counts kept c.args.members.items c.requires.inside c.in_ok-snapshots.snapshots.items found c.deref-6.result.now long _ c.in_ok-members.members c.in_ok-members.ensures.fault _ _ c.in_err-graph.field-0.0 (subst (λ xs. Refuses (too_deep (linked (c.self.inside.graph ++ [] ∷ []) (length c.self.inside.graph) xs)) (Err c.in_err-graph.field-0.0)) (c.deref-7.ensures.value ∙ are) c.in_err-graph.ensures.fault))

pub new-requires-clause-there : goal.new-requires-clause-there
new-requires-clause-there c =
    let kept : IsKept (map known c.args.self.now) c.self.inside.graph c.self.inside.counts = subst (λ hs. IsKept (map known hs) c.self.inside.graph c.self.inside.counts) c.self.view_is c.self.invariant in
    let are : c.in_ok-sources.sources.items ≡ sources_in [] c.args.members.items = c.in_ok-sources.ensures ∙ ap (sources_in []) c.deref.ensures.value in
    let found : c.in_ok-snapshots.snapshots.items ≡ snaps (stock c.args.self.now) (map (λ b. (b, now (stock c.args.self.now) b)) (sources_in [] c.args.members.items)) = snaps_held c.args.self.now c.self.inside.graph c.self.inside.counts kept c.args.members.items c.requires.inside c.deref-3.result.now c.in_ok-snapshots.snapshots.items (c.deref-3.ensures.value ∙ are) (c.in_ok-snapshots.ensures ∙ ap (λ hs. map (snapshot_now hs) c.deref-3.result.now) (c.deref-2.ensures.value ∙ c.self.view_is)) in
    subst (λ xs. All (HasSource no_steps c.deref-8.result.now) xs) (sym c.in_ok-members.ensures.members) (have_all c.args.self.now c.self.inside.graph c.self.inside.counts kept c.args.members.items c.requires.inside c.deref-8.result.now (c.deref-8.ensures.value ∙ found))

pub returns-in_err-projection-clause-fault : goal.returns-in_err-projection-clause-fault
returns-in_err-projection-clause-fault c =
    passed_on _ _ c.from_residual-in_err-projection.result PlanFault.OutOfMemory c.from_residual-in_err-projection.ensures (refuses_memory _ _)

pub with_buffer-counts-requires-clause-tracked : goal.with_buffer-counts-requires-clause-tracked
with_buffer-counts-requires-clause-tracked c =
    let kept : IsKept (map known c.args.self.now) c.self.inside.graph c.self.inside.counts = subst (λ hs. IsKept (map known hs) c.self.inside.graph c.self.inside.counts) c.self.view_is c.self.invariant in
    let are : c.in_ok-sources.sources.items ≡ sources_in [] c.args.members.items = c.in_ok-sources.ensures ∙ ap (sources_in []) c.deref.ensures.value in
    omega (arith, count_by-le-length is_tracked c.args.members.items, (c.tracked-follow.ensures ∙ ap (count_by is_tracked) c.deref-5.ensures.value), held_placements c.args.self.now c.self.inside.graph c.self.inside.counts kept, c.in_ok-members.ensures.few, ap length c.in_ok-members.ensures.members)

pub returns-in-Some-clause-fault : goal.returns-in-Some-clause-fault
returns-in-Some-clause-fault c =
    let kept : IsKept (map known c.args.self.now) c.self.inside.graph c.self.inside.counts = subst (λ hs. IsKept (map known hs) c.self.inside.graph c.self.inside.counts) c.self.view_is c.self.invariant in
    let are : c.in_ok-sources.sources.items ≡ sources_in [] c.args.members.items = c.in_ok-sources.ensures ∙ ap (sources_in []) c.deref.ensures.value in
    let found : c.in_ok-snapshots.snapshots.items ≡ snaps (stock c.args.self.now) (map (λ b. (b, now (stock c.args.self.now) b)) (sources_in [] c.args.members.items)) = snaps_held c.args.self.now c.self.inside.graph c.self.inside.counts kept c.args.members.items c.requires.inside c.deref-3.result.now c.in_ok-snapshots.snapshots.items (c.deref-3.ensures.value ∙ are) (c.in_ok-snapshots.ensures ∙ ap (λ hs. map (snapshot_now hs) c.deref-3.result.now) (c.deref-2.ensures.value ∙ c.self.view_is)) in
    let long : c.deref-6.result.now ≡ map {B = ℕ × ℕ} (λ (x : Snapshot). (x.buffer, length x.text)) c.in_ok-snapshots.snapshots.items = c.deref-6.ensures.value ∙ c.in_ok-lengths.ensures ∙ ap (map {B = ℕ × ℕ} (λ (x : Snapshot). (x.buffer, length x.text))) c.deref-4.ensures.value in
    refuses_this _ _ c.in-Some.refusal (fault_third c.args.self.now c.self.inside.graph c.self.inside.counts kept c.args.members.items c.requires.inside c.in_ok-snapshots.snapshots.items found c.deref-6.result.now long _ c.in_ok-members.members c.in_ok-members.ensures.fault _ (c.in_ok-graph.graph, c.in_ok-graph.buffer) (subst (λ xs. Refuses (too_deep (linked (c.self.inside.graph ++ [] ∷ []) (length c.self.inside.graph) xs)) (Ok (c.in_ok-graph.graph, c.in_ok-graph.buffer))) (c.deref-7.ensures.value ∙ are) c.in_ok-graph.ensures.fault) c.in_ok-graph.graph (c.in_ok-graph.ensures.graph ∙ ap (linked (c.self.inside.graph ++ [] ∷ []) (length c.self.inside.graph)) (c.deref-7.ensures.value ∙ are)) c.in_ok-graph.ensures.levelled c.from-buffers.result (c.from-buffers.ensures ∙ c.count.ensures ∙ held_len c.args.self.now c.self.inside.graph c.self.inside.counts kept) c.tracked-follow.result (c.tracked-follow.ensures ∙ ap (count_by is_tracked) c.deref-5.ensures.value) c.with_buffer-counts.result c.with_buffer-counts.ensures c.new_limit.result (c.new_limit.ensures ∙ same_args (c.from-buffers.result + 1) c.from-units.result (members_len c.args.members.items) c.with_buffer-counts.result c.from-most.result (length c.args.members.items) (c.from-units.ensures ∙ c.len.ensures ∙ ap members_len c.in_ok-members.ensures.members) (c.from-most.ensures ∙ c.count-2.ensures.count ∙ ap length c.in_ok-members.ensures.members)) ∙ c.in-Some.is)

pub put-requires : goal.put-requires
put-requires c =
    let kept : IsKept (map known c.args.self.now) c.self.inside.graph c.self.inside.counts = subst (λ hs. IsKept (map known hs) c.self.inside.graph c.self.inside.counts) c.self.view_is c.self.invariant in
    let are : c.in_ok-sources.sources.items ≡ sources_in [] c.args.members.items = c.in_ok-sources.ensures ∙ ap (sources_in []) c.deref.ensures.value in
    let found : c.in_ok-snapshots.snapshots.items ≡ snaps (stock c.args.self.now) (map (λ b. (b, now (stock c.args.self.now) b)) (sources_in [] c.args.members.items)) = snaps_held c.args.self.now c.self.inside.graph c.self.inside.counts kept c.args.members.items c.requires.inside c.deref-3.result.now c.in_ok-snapshots.snapshots.items (c.deref-3.ensures.value ∙ are) (c.in_ok-snapshots.ensures ∙ ap (λ hs. map (snapshot_now hs) c.deref-3.result.now) (c.deref-2.ensures.value ∙ c.self.view_is)) in
    let long : c.deref-6.result.now ≡ map {B = ℕ × ℕ} (λ (x : Snapshot). (x.buffer, length x.text)) c.in_ok-snapshots.snapshots.items = c.deref-6.ensures.value ∙ c.in_ok-lengths.ensures ∙ ap (map {B = ℕ × ℕ} (λ (x : Snapshot). (x.buffer, length x.text))) c.deref-4.ensures.value in
    record { kept = projection_put c.args.self.now c.self.inside.graph c.self.inside.counts kept c.args.members.items c.requires.inside c.in_ok-snapshots.snapshots.items found c.deref-6.result.now long _ c.in_ok-members.members c.in_ok-members.ensures.fault _ (c.in_ok-graph.graph, c.in_ok-graph.buffer) (subst (λ xs. Refuses (too_deep (linked (c.self.inside.graph ++ [] ∷ []) (length c.self.inside.graph) xs)) (Ok (c.in_ok-graph.graph, c.in_ok-graph.buffer))) (c.deref-7.ensures.value ∙ are) c.in_ok-graph.ensures.fault) c.in_ok-graph.graph (c.in_ok-graph.ensures.graph ∙ ap (linked (c.self.inside.graph ++ [] ∷ []) (length c.self.inside.graph)) (c.deref-7.ensures.value ∙ are)) c.in_ok-graph.ensures.levelled c.from-buffers.result (c.from-buffers.ensures ∙ c.count.ensures ∙ held_len c.args.self.now c.self.inside.graph c.self.inside.counts kept) c.tracked-follow.result (c.tracked-follow.ensures ∙ ap (count_by is_tracked) c.deref-5.ensures.value) c.with_buffer-counts.result c.with_buffer-counts.ensures (sym (c.new_limit.ensures ∙ same_args (c.from-buffers.result + 1) c.from-units.result (members_len c.args.members.items) c.with_buffer-counts.result c.from-most.result (length c.args.members.items) (c.from-units.ensures ∙ c.len.ensures ∙ ap members_len c.in_ok-members.ensures.members) (c.from-most.ensures ∙ c.count-2.ensures.count ∙ ap length c.in_ok-members.ensures.members)) ∙ c.in_default.is) c.args.resolver c.in_ok-projection.projection (c.in_ok-projection.ensures.buffer ∙ c.in_ok-graph.ensures.number ∙ held_len c.args.self.now c.self.inside.graph c.self.inside.counts kept) (c.in_ok-projection.ensures.versions ∙ ap (λ xs. shown c.in_ok-members.members (versions_of xs) (text_over (text_in xs) c.in_ok-members.members) ∷ []) c.deref-8.ensures.value ∙ ap (λ xs. shown xs (versions_of c.in_ok-snapshots.snapshots.items) (text_over (text_in c.in_ok-snapshots.snapshots.items) xs) ∷ []) c.in_ok-members.ensures.members) c.in_ok-projection.ensures.changes c.in_ok-projection.ensures.resolver }

pub returns-clause-fault : goal.returns-clause-fault
returns-clause-fault c =
    let kept : IsKept (map known c.args.self.now) c.self.inside.graph c.self.inside.counts = subst (λ hs. IsKept (map known hs) c.self.inside.graph c.self.inside.counts) c.self.view_is c.self.invariant in
    let are : c.in_ok-sources.sources.items ≡ sources_in [] c.args.members.items = c.in_ok-sources.ensures ∙ ap (sources_in []) c.deref.ensures.value in
    let found : c.in_ok-snapshots.snapshots.items ≡ snaps (stock c.args.self.now) (map (λ b. (b, now (stock c.args.self.now) b)) (sources_in [] c.args.members.items)) = snaps_held c.args.self.now c.self.inside.graph c.self.inside.counts kept c.args.members.items c.requires.inside c.deref-3.result.now c.in_ok-snapshots.snapshots.items (c.deref-3.ensures.value ∙ are) (c.in_ok-snapshots.ensures ∙ ap (λ hs. map (snapshot_now hs) c.deref-3.result.now) (c.deref-2.ensures.value ∙ c.self.view_is)) in
    let long : c.deref-6.result.now ≡ map {B = ℕ × ℕ} (λ (x : Snapshot). (x.buffer, length x.text)) c.in_ok-snapshots.snapshots.items = c.deref-6.ensures.value ∙ c.in_ok-lengths.ensures ∙ ap (map {B = ℕ × ℕ} (λ (x : Snapshot). (x.buffer, length x.text))) c.deref-4.ensures.value in
    refuses_none _ c.in_ok-graph.buffer (fault_third c.args.self.now c.self.inside.graph c.self.inside.counts kept c.args.members.items c.requires.inside c.in_ok-snapshots.snapshots.items found c.deref-6.result.now long _ c.in_ok-members.members c.in_ok-members.ensures.fault _ (c.in_ok-graph.graph, c.in_ok-graph.buffer) (subst (λ xs. Refuses (too_deep (linked (c.self.inside.graph ++ [] ∷ []) (length c.self.inside.graph) xs)) (Ok (c.in_ok-graph.graph, c.in_ok-graph.buffer))) (c.deref-7.ensures.value ∙ are) c.in_ok-graph.ensures.fault) c.in_ok-graph.graph (c.in_ok-graph.ensures.graph ∙ ap (linked (c.self.inside.graph ++ [] ∷ []) (length c.self.inside.graph)) (c.deref-7.ensures.value ∙ are)) c.in_ok-graph.ensures.levelled c.from-buffers.result (c.from-buffers.ensures ∙ c.count.ensures ∙ held_len c.args.self.now c.self.inside.graph c.self.inside.counts kept) c.tracked-follow.result (c.tracked-follow.ensures ∙ ap (count_by is_tracked) c.deref-5.ensures.value) c.with_buffer-counts.result c.with_buffer-counts.ensures c.new_limit.result (c.new_limit.ensures ∙ same_args (c.from-buffers.result + 1) c.from-units.result (members_len c.args.members.items) c.with_buffer-counts.result c.from-most.result (length c.args.members.items) (c.from-units.ensures ∙ c.len.ensures ∙ ap members_len c.in_ok-members.ensures.members) (c.from-most.ensures ∙ c.count-2.ensures.count ∙ ap length c.in_ok-members.ensures.members)) ∙ c.in_default.is)

pub returns-clause-ok : goal.returns-clause-ok
returns-clause-ok c =
    let kept : IsKept (map known c.args.self.now) c.self.inside.graph c.self.inside.counts = subst (λ hs. IsKept (map known hs) c.self.inside.graph c.self.inside.counts) c.self.view_is c.self.invariant in
    let are : c.in_ok-sources.sources.items ≡ sources_in [] c.args.members.items = c.in_ok-sources.ensures ∙ ap (sources_in []) c.deref.ensures.value in
    let found : c.in_ok-snapshots.snapshots.items ≡ snaps (stock c.args.self.now) (map (λ b. (b, now (stock c.args.self.now) b)) (sources_in [] c.args.members.items)) = snaps_held c.args.self.now c.self.inside.graph c.self.inside.counts kept c.args.members.items c.requires.inside c.deref-3.result.now c.in_ok-snapshots.snapshots.items (c.deref-3.ensures.value ∙ are) (c.in_ok-snapshots.ensures ∙ ap (λ hs. map (snapshot_now hs) c.deref-3.result.now) (c.deref-2.ensures.value ∙ c.self.view_is)) in
    let long : c.deref-6.result.now ≡ map {B = ℕ × ℕ} (λ (x : Snapshot). (x.buffer, length x.text)) c.in_ok-snapshots.snapshots.items = c.deref-6.ensures.value ∙ c.in_ok-lengths.ensures ∙ ap (map {B = ℕ × ℕ} (λ (x : Snapshot). (x.buffer, length x.text))) c.deref-4.ensures.value in
    projection_stock c.args.self.now c.self.inside.graph c.self.inside.counts kept c.args.members.items c.requires.inside c.in_ok-snapshots.snapshots.items found c.deref-6.result.now long c.args.resolver c.in_ok-projection.projection (c.in_ok-projection.ensures.buffer ∙ c.in_ok-graph.ensures.number ∙ held_len c.args.self.now c.self.inside.graph c.self.inside.counts kept) (c.in_ok-projection.ensures.versions ∙ ap (λ xs. shown c.in_ok-members.members (versions_of xs) (text_over (text_in xs) c.in_ok-members.members) ∷ []) c.deref-8.ensures.value ∙ ap (λ xs. shown xs (versions_of c.in_ok-snapshots.snapshots.items) (text_over (text_in c.in_ok-snapshots.snapshots.items) xs) ∷ []) c.in_ok-members.ensures.members) c.in_ok-projection.ensures.changes c.in_ok-projection.ensures.resolver c.put.new.self c.in_ok-put.ensures.ok

pub returns-clause-stay : goal.returns-clause-stay
returns-clause-stay c =
    let kept : IsKept (map known c.args.self.now) c.self.inside.graph c.self.inside.counts = subst (λ hs. IsKept (map known hs) c.self.inside.graph c.self.inside.counts) c.self.view_is c.self.invariant in
    others_stay c.args.self.now c.self.inside.graph c.self.inside.counts kept c.put.new.self _ c.in_ok-put.ensures.ok
