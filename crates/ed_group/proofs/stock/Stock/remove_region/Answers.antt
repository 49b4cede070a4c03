use Rattle.std.proofs.Common.{ap, ◌∙◌}
use Rattle.std.specs.Prelude.{nat_eq, slice_set}
use Rattle.std.specs.List.{list_any}
use Rattle.ed_held.specs.Seen.{stock}
use Rattle.ed_stock.specs.Stock.{Buffer, buffer}
use Rattle.ed_held.specs.Asking.{regions_of, without_region}
use Rattle.ed_climb.proofs.Asked.{got}
use Rattle.ed_group.proofs.Zoned.{set_base, set_is_held, set_kept, set_stock, unset_stock}
use Rattle.ed_group.proofs.Lasting.{zones_stay}
use Rattle.ed_group.proofs.stock.Stock.remove_region.Goals as goal

pub remove_region-requires : goal.remove_region-requires
remove_region-requires c =
    set_base c.self.inside.buffers.items c.args.self.now c.b.inside.0 c.args.b c.index_mut-held.result.now c.index_mut-held.result.now c.self.view_is c.b.view_is
    (got c.self.inside.buffers.items c.args.self.now c.args.b c.b.inside.0 c.index_mut-held.result.now c.self.view_is c.b.view_is c.requires.there c.index_mut-held.ensures.value) c.self.inside.graph c.self.inside.counts c.self.invariant c.requires.base

pub invariant_of-self : goal.invariant_of-self
invariant_of-self c =
    set_kept c.self.inside.buffers.items c.args.self.now c.b.inside.0 c.args.b c.index_mut-held.result.now c.remove_region.new.self c.self.view_is c.b.view_is
    (got c.self.inside.buffers.items c.args.self.now c.args.b c.b.inside.0 c.index_mut-held.result.now c.self.view_is c.b.view_is c.requires.there c.index_mut-held.ensures.value) c.self.inside.graph c.self.inside.counts c.self.invariant (λ (x : Buffer). regions_of (without_region x c.args.region)) c.remove_region.ensures.regions

pub returns-clause-live : goal.returns-clause-live
returns-clause-live c =
    c.remove_region.ensures.live ∙ ap (λ (x : Buffer). list_any (λ r. nat_eq r.number c.args.region) x.regions) (set_is_held c.self.inside.buffers.items c.args.self.now c.b.inside.0 c.args.b c.index_mut-held.result.now c.index_mut-held.result.now c.self.view_is c.b.view_is
    (got c.self.inside.buffers.items c.args.self.now c.args.b c.b.inside.0 c.index_mut-held.result.now c.self.view_is c.b.view_is c.requires.there c.index_mut-held.ensures.value) c.self.inside.graph c.self.inside.counts c.self.invariant)

pub returns-clause-same : goal.returns-clause-same
returns-clause-same c = λ dead.
    unset_stock c.self.inside.buffers.items c.args.self.now c.b.inside.0 c.args.b c.index_mut-held.result.now c.remove_region.new.self c.self.view_is c.b.view_is
    (got c.self.inside.buffers.items c.args.self.now c.args.b c.b.inside.0 c.index_mut-held.result.now c.self.view_is c.b.view_is c.requires.there c.index_mut-held.ensures.value) c.self.inside.graph c.self.inside.counts c.self.invariant (c.remove_region.ensures.same dead)

pub returns-clause-regions : goal.returns-clause-regions
returns-clause-regions c =
    set_stock c.self.inside.buffers.items c.args.self.now c.b.inside.0 c.args.b c.index_mut-held.result.now c.remove_region.new.self c.self.view_is c.b.view_is
    (got c.self.inside.buffers.items c.args.self.now c.args.b c.b.inside.0 c.index_mut-held.result.now c.self.view_is c.b.view_is c.requires.there c.index_mut-held.ensures.value) c.self.inside.graph c.self.inside.counts c.self.invariant (λ (x : Buffer). regions_of (without_region x c.args.region)) c.remove_region.ensures.regions

pub returns-clause-stay : goal.returns-clause-stay
returns-clause-stay c =
    zones_stay (stock c.args.self.now) (stock (slice_set c.self.inside.buffers.items c.b.inside.0 c.remove_region.new.self)) c.args.b (regions_of (without_region (buffer (stock c.args.self.now) c.args.b) c.args.region)) c.requires.there
    (set_stock c.self.inside.buffers.items c.args.self.now c.b.inside.0 c.args.b c.index_mut-held.result.now c.remove_region.new.self c.self.view_is c.b.view_is
    (got c.self.inside.buffers.items c.args.self.now c.args.b c.b.inside.0 c.index_mut-held.result.now c.self.view_is c.b.view_is c.requires.there c.index_mut-held.ensures.value) c.self.inside.graph c.self.inside.counts c.self.invariant (λ (x : Buffer). regions_of (without_region x c.args.region)) c.remove_region.ensures.regions)
