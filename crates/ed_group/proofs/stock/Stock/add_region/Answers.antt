use Rattle.std.proofs.Common.{◌≡◌, ◌≤◌, ap, sym, ◌∙◌, subst, length, ℕ}
use Rattle.std.specs.Prelude.{IfOk, slice_set}
use Rattle.ed_base.specs.Spans.{end_of}
use Rattle.ed_readonly.specs.LiveRegions.{limit_passed}
use Rattle.ed_held.specs.Seen.{stock}
use Rattle.ed_stock.specs.Stock.{Buffer, buffer}
use Rattle.ed_held.specs.Asking.{regions_of, with_region}
use Rattle.ed_climb.proofs.Asked.{got}
use Rattle.ed_group.proofs.Zoned.{either, if_made, if_refused, set_base, set_is_held, set_kept, set_stock, set_text, unset_kept, unset_stock}
use Rattle.ed_group.proofs.Lasting.{all_stay, zones_stay}
use Rattle.ed_group.proofs.stock.Stock.add_region.Goals as goal

pub add_region-requires-clause-base : goal.add_region-requires-clause-base
add_region-requires-clause-base c =
    set_base c.self.inside.buffers.items c.args.self.now c.b.inside.0 c.args.b c.index_mut-held.result.now c.index_mut-held.result.now c.self.view_is c.b.view_is
    (got c.self.inside.buffers.items c.args.self.now c.args.b c.b.inside.0 c.index_mut-held.result.now c.self.view_is c.b.view_is c.requires.there c.index_mut-held.ensures.value) c.self.inside.graph c.self.inside.counts c.self.invariant c.requires.base

pub add_region-requires-clause-within : goal.add_region-requires-clause-within
add_region-requires-clause-within c =
    subst (λ xs. end_of c.args.span ≤ length xs) (sym (set_text c.self.inside.buffers.items c.args.self.now c.b.inside.0 c.args.b c.index_mut-held.result.now c.index_mut-held.result.now c.self.view_is c.b.view_is
    (got c.self.inside.buffers.items c.args.self.now c.args.b c.b.inside.0 c.index_mut-held.result.now c.self.view_is c.b.view_is c.requires.there c.index_mut-held.ensures.value) c.self.inside.graph c.self.inside.counts c.self.invariant)) c.requires.within

pub invariant_of-self : goal.invariant_of-self
invariant_of-self c =
    either c.add_region.result c.add_region.ensures.ok c.add_region.ensures.err (set_kept c.self.inside.buffers.items c.args.self.now c.b.inside.0 c.args.b c.index_mut-held.result.now c.add_region.new.self c.self.view_is c.b.view_is
    (got c.self.inside.buffers.items c.args.self.now c.args.b c.b.inside.0 c.index_mut-held.result.now c.self.view_is c.b.view_is c.requires.there c.index_mut-held.ensures.value) c.self.inside.graph c.self.inside.counts c.self.invariant (λ (x : Buffer). regions_of (with_region x c.args.span c.args.mode c.args.edge c.args.query)))
    (unset_kept c.self.inside.buffers.items c.args.self.now c.b.inside.0 c.args.b c.index_mut-held.result.now c.add_region.new.self c.self.view_is c.b.view_is
    (got c.self.inside.buffers.items c.args.self.now c.args.b c.b.inside.0 c.index_mut-held.result.now c.self.view_is c.b.view_is c.requires.there c.index_mut-held.ensures.value) c.self.inside.graph c.self.inside.counts c.self.invariant)

pub returns-clause-limit : goal.returns-clause-limit
returns-clause-limit c =
    c.add_region.ensures.limit ∙ ap (λ x. limit_passed (regions_of x)) (set_is_held c.self.inside.buffers.items c.args.self.now c.b.inside.0 c.args.b c.index_mut-held.result.now c.index_mut-held.result.now c.self.view_is c.b.view_is
    (got c.self.inside.buffers.items c.args.self.now c.args.b c.b.inside.0 c.index_mut-held.result.now c.self.view_is c.b.view_is c.requires.there c.index_mut-held.ensures.value) c.self.inside.graph c.self.inside.counts c.self.invariant)

pub returns-clause-number : goal.returns-clause-number
returns-clause-number c =
    subst (λ (x : Buffer). IfOk c.add_region.result (λ (number : ℕ). number ≡ x.regions_given)) (set_is_held c.self.inside.buffers.items c.args.self.now c.b.inside.0 c.args.b c.index_mut-held.result.now c.index_mut-held.result.now c.self.view_is c.b.view_is
    (got c.self.inside.buffers.items c.args.self.now c.args.b c.b.inside.0 c.index_mut-held.result.now c.self.view_is c.b.view_is c.requires.there c.index_mut-held.ensures.value) c.self.inside.graph c.self.inside.counts c.self.invariant) c.add_region.ensures.number

pub returns-clause-ok : goal.returns-clause-ok
returns-clause-ok c =
    if_made c.add_region.result (set_stock c.self.inside.buffers.items c.args.self.now c.b.inside.0 c.args.b c.index_mut-held.result.now c.add_region.new.self c.self.view_is c.b.view_is
    (got c.self.inside.buffers.items c.args.self.now c.args.b c.b.inside.0 c.index_mut-held.result.now c.self.view_is c.b.view_is c.requires.there c.index_mut-held.ensures.value) c.self.inside.graph c.self.inside.counts c.self.invariant (λ (x : Buffer). regions_of (with_region x c.args.span c.args.mode c.args.edge c.args.query))) c.add_region.ensures.ok

pub returns-clause-err : goal.returns-clause-err
returns-clause-err c =
    if_refused c.add_region.result (unset_stock c.self.inside.buffers.items c.args.self.now c.b.inside.0 c.args.b c.index_mut-held.result.now c.add_region.new.self c.self.view_is c.b.view_is
    (got c.self.inside.buffers.items c.args.self.now c.args.b c.b.inside.0 c.index_mut-held.result.now c.self.view_is c.b.view_is c.requires.there c.index_mut-held.ensures.value) c.self.inside.graph c.self.inside.counts c.self.invariant) c.add_region.ensures.err

pub returns-clause-stay : goal.returns-clause-stay
returns-clause-stay c =
    either c.add_region.result c.add_region.ensures.ok c.add_region.ensures.err
    (λ changed. zones_stay (stock c.args.self.now) (stock (slice_set c.self.inside.buffers.items c.b.inside.0 c.add_region.new.self)) c.args.b (regions_of (with_region (buffer (stock c.args.self.now) c.args.b) c.args.span c.args.mode c.args.edge c.args.query)) c.requires.there
    (set_stock c.self.inside.buffers.items c.args.self.now c.b.inside.0 c.args.b c.index_mut-held.result.now c.add_region.new.self c.self.view_is c.b.view_is
    (got c.self.inside.buffers.items c.args.self.now c.args.b c.b.inside.0 c.index_mut-held.result.now c.self.view_is c.b.view_is c.requires.there c.index_mut-held.ensures.value) c.self.inside.graph c.self.inside.counts c.self.invariant (λ (x : Buffer). regions_of (with_region x c.args.span c.args.mode c.args.edge c.args.query)) changed))
    (λ same. all_stay (stock c.args.self.now) (stock (slice_set c.self.inside.buffers.items c.b.inside.0 c.add_region.new.self))
    (unset_stock c.self.inside.buffers.items c.args.self.now c.b.inside.0 c.args.b c.index_mut-held.result.now c.add_region.new.self c.self.view_is c.b.view_is
    (got c.self.inside.buffers.items c.args.self.now c.args.b c.b.inside.0 c.index_mut-held.result.now c.self.view_is c.b.view_is c.requires.there c.index_mut-held.ensures.value) c.self.inside.graph c.self.inside.counts c.self.invariant same))
