use Rattle.std.specs.Prelude.{Ok, Err}
use Rattle.std.proofs.Common.{◌≡◌, ◌∙◌, ℕ, [], ◌∷◌, ◌++◌, map, length, ap, subst, arith}
use Rattle.ed_graph.specs.Standing.{linked}
use Rattle.ed_stock.specs.Making.{sources_in}
use Rattle.ed_stock.specs.Stock.{now}
use Rattle.ed_version.specs.declared.Snapshot.{Snapshot}
use Rattle.ed_climb.specs.Refusals.{Refuses}
use Rattle.ed_climb.specs.Kept.{IsKept}
use Rattle.ed_group.specs.Placed.{too_deep}
use Rattle.ed_held.specs.Moves.{snapshot_now}
use Rattle.ed_held.specs.Seen.{known, stock}
use Rattle.ed_climb.proofs.KeptNumbers.{held_few, held_len}
use Rattle.ed_group.proofs.Judged.{judged_first, judged_none, judged_second}
use Rattle.ed_group.proofs.Projected.{snaps_held, sources_within}
use Rattle.ed_group.proofs.Refusing.{passed_on}
use Rattle.ed_climb.proofs.Snapshots.{snaps}
use Rattle.ed_group.proofs.stock.Stock.judge_projection.Goals as goal

pub newest_all-requires : goal.newest_all-requires
newest_all-requires c =
    let kept : IsKept (map known c.args.self.now) c.self.inside.graph c.self.inside.counts = subst (λ hs. IsKept (map known hs) c.self.inside.graph c.self.inside.counts) c.self.view_is c.self.invariant in
    let are : c.in_ok-sources.sources.items ≡ sources_in [] c.args.members.items = c.in_ok-sources.ensures ∙ ap (sources_in []) c.deref.ensures.value in
    sources_within c.args.self.now c.self.inside.graph c.self.inside.counts kept c.args.members.items c.requires.inside c.deref-3.result.now (length c.deref-2.result.now) (c.deref-3.ensures.value ∙ are) (ap length (c.deref-2.ensures.value ∙ c.self.view_is))

pub placed-requires-clause-few : goal.placed-requires-clause-few
placed-requires-clause-few c =
    let kept : IsKept (map known c.args.self.now) c.self.inside.graph c.self.inside.counts = subst (λ hs. IsKept (map known hs) c.self.inside.graph c.self.inside.counts) c.self.view_is c.self.invariant in
    omega (arith, held_few c.args.self.now c.self.inside.graph c.self.inside.counts kept)

pub placed-requires-clause-there : goal.placed-requires-clause-there
placed-requires-clause-there c =
    let kept : IsKept (map known c.args.self.now) c.self.inside.graph c.self.inside.counts = subst (λ hs. IsKept (map known hs) c.self.inside.graph c.self.inside.counts) c.self.view_is c.self.invariant in
    let are : c.in_ok-sources.sources.items ≡ sources_in [] c.args.members.items = c.in_ok-sources.ensures ∙ ap (sources_in []) c.deref.ensures.value in
    sources_within c.args.self.now c.self.inside.graph c.self.inside.counts kept c.args.members.items c.requires.inside c.deref-6.result.now (length c.self.inside.graph) (c.deref-6.ensures.value ∙ are) (held_len c.args.self.now c.self.inside.graph c.self.inside.counts kept)

pub returns-in_err-joined : goal.returns-in_err-joined
returns-in_err-joined c =
    let kept : IsKept (map known c.args.self.now) c.self.inside.graph c.self.inside.counts = subst (λ hs. IsKept (map known hs) c.self.inside.graph c.self.inside.counts) c.self.view_is c.self.invariant in
    let are : c.in_ok-sources.sources.items ≡ sources_in [] c.args.members.items = c.in_ok-sources.ensures ∙ ap (sources_in []) c.deref.ensures.value in
    let found : c.in_ok-snapshots.snapshots.items ≡ snaps (stock c.args.self.now) (map (λ b. (b, now (stock c.args.self.now) b)) (sources_in [] c.args.members.items)) = snaps_held c.args.self.now c.self.inside.graph c.self.inside.counts kept c.args.members.items c.requires.inside c.deref-3.result.now c.in_ok-snapshots.snapshots.items (c.deref-3.ensures.value ∙ are) (c.in_ok-snapshots.ensures ∙ ap (λ hs. map (snapshot_now hs) c.deref-3.result.now) (c.deref-2.ensures.value ∙ c.self.view_is)) in
    let long : c.deref-5.result.now ≡ map {B = ℕ × ℕ} (λ (x : Snapshot). (x.buffer, length x.text)) c.in_ok-snapshots.snapshots.items = c.deref-5.ensures.value ∙ c.in_ok-lengths.ensures ∙ ap (map {B = ℕ × ℕ} (λ (x : Snapshot). (x.buffer, length x.text))) c.deref-4.ensures.value in
    passed_on _ _ c.from_residual-in_err-joined.result c.in_err-joined.field-0.0 c.from_residual-in_err-joined.ensures (judged_first c.args.self.now c.self.inside.graph c.self.inside.counts kept c.args.members.items c.requires.inside c.in_ok-snapshots.snapshots.items found c.deref-5.result.now long _ _ c.in_err-joined.field-0.0 c.in_err-joined.ensures.fault)

pub returns-in_err-placed : goal.returns-in_err-placed
returns-in_err-placed c =
    let kept : IsKept (map known c.args.self.now) c.self.inside.graph c.self.inside.counts = subst (λ hs. IsKept (map known hs) c.self.inside.graph c.self.inside.counts) c.self.view_is c.self.invariant in
    let are : c.in_ok-sources.sources.items ≡ sources_in [] c.args.members.items = c.in_ok-sources.ensures ∙ ap (sources_in []) c.deref.ensures.value in
    let found : c.in_ok-snapshots.snapshots.items ≡ snaps (stock c.args.self.now) (map (λ b. (b, now (stock c.args.self.now) b)) (sources_in [] c.args.members.items)) = snaps_held c.args.self.now c.self.inside.graph c.self.inside.counts kept c.args.members.items c.requires.inside c.deref-3.result.now c.in_ok-snapshots.snapshots.items (c.deref-3.ensures.value ∙ are) (c.in_ok-snapshots.ensures ∙ ap (λ hs. map (snapshot_now hs) c.deref-3.result.now) (c.deref-2.ensures.value ∙ c.self.view_is)) in
    let long : c.deref-5.result.now ≡ map {B = ℕ × ℕ} (λ (x : Snapshot). (x.buffer, length x.text)) c.in_ok-snapshots.snapshots.items = c.deref-5.ensures.value ∙ c.in_ok-lengths.ensures ∙ ap (map {B = ℕ × ℕ} (λ (x : Snapshot). (x.buffer, length x.text))) c.deref-4.ensures.value in
    passed_on _ _ c.from_residual-in_err-placed.result c.in_err-placed.field-0.0 c.from_residual-in_err-placed.ensures (judged_second c.args.self.now c.self.inside.graph c.self.inside.counts kept c.args.members.items c.requires.inside c.in_ok-snapshots.snapshots.items found c.deref-5.result.now long _ c.in_ok-joined.field-0 c.in_ok-joined.ensures.fault _ _ c.in_err-placed.field-0.0 (subst (λ xs. Refuses (too_deep (linked (c.self.inside.graph ++ [] ∷ []) (length c.self.inside.graph) xs)) (Err c.in_err-placed.field-0.0)) (c.deref-6.ensures.value ∙ are) c.in_err-placed.ensures.fault))

pub returns : goal.returns
returns c =
    let kept : IsKept (map known c.args.self.now) c.self.inside.graph c.self.inside.counts = subst (λ hs. IsKept (map known hs) c.self.inside.graph c.self.inside.counts) c.self.view_is c.self.invariant in
    let are : c.in_ok-sources.sources.items ≡ sources_in [] c.args.members.items = c.in_ok-sources.ensures ∙ ap (sources_in []) c.deref.ensures.value in
    let found : c.in_ok-snapshots.snapshots.items ≡ snaps (stock c.args.self.now) (map (λ b. (b, now (stock c.args.self.now) b)) (sources_in [] c.args.members.items)) = snaps_held c.args.self.now c.self.inside.graph c.self.inside.counts kept c.args.members.items c.requires.inside c.deref-3.result.now c.in_ok-snapshots.snapshots.items (c.deref-3.ensures.value ∙ are) (c.in_ok-snapshots.ensures ∙ ap (λ hs. map (snapshot_now hs) c.deref-3.result.now) (c.deref-2.ensures.value ∙ c.self.view_is)) in
    let long : c.deref-5.result.now ≡ map {B = ℕ × ℕ} (λ (x : Snapshot). (x.buffer, length x.text)) c.in_ok-snapshots.snapshots.items = c.deref-5.ensures.value ∙ c.in_ok-lengths.ensures ∙ ap (map {B = ℕ × ℕ} (λ (x : Snapshot). (x.buffer, length x.text))) c.deref-4.ensures.value in
    judged_none c.args.self.now c.self.inside.graph c.self.inside.counts kept c.args.members.items c.requires.inside c.in_ok-snapshots.snapshots.items found c.deref-5.result.now long _ c.in_ok-joined.field-0 c.in_ok-joined.ensures.fault _ _ c.in_ok-placed.field-0 tt (subst (λ xs. Refuses (too_deep (linked (c.self.inside.graph ++ [] ∷ []) (length c.self.inside.graph) xs)) (Ok c.in_ok-placed.field-0)) (c.deref-6.ensures.value ∙ are) c.in_ok-placed.ensures.fault)
