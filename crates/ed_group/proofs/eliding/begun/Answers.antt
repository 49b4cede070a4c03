use Rattle.std.proofs.Common.{◌≡◌, ◌<◌, ℕ, Bool, List, length, map, All, sym, ap, ◌∙◌, subst, arith}
use Rattle.ed_climb.specs.Kept.{IsKept}
use Rattle.ed_climb.proofs.KeptNumbers.{held_count, held_len}
use Rattle.ed_group.proofs.Hiding.{can_rehide, elision_is, if_begun, snaps_are}
use Rattle.ed_held.specs.Seen.{known, stock}
use Rattle.ed_layers.specs.Records.{Record, elision}
use Rattle.ed_stock.specs.Making.{flags_of}
use Rattle.ed_stock.specs.Stock.{count, record_now}
use Rattle.ed_group.proofs.eliding.begun.Goals as goal

pub sources-requires : goal.sources-requires
sources-requires c = omega (arith, held_len c.args.buffers.now c.args.graph.now c.requires.kept.0 c.requires.kept.1, c.requires.there)

pub newest_all-requires : goal.newest_all-requires
newest_all-requires c = subst (λ n. All (λ s. s < n) c.sources.result.now) (held_len c.args.buffers.now c.args.graph.now c.requires.kept.0 c.requires.kept.1) c.sources.ensures.there

pub hidden_at-requires-clause-can : goal.hidden_at-requires-clause-can
hidden_at-requires-clause-can c =
    let hs = c.args.buffers.now in
    let kept : IsKept (map known c.args.buffers.now) c.args.graph.now c.requires.kept.0 = c.requires.kept.1 in
    let in_stock : c.args.buffer < count (stock c.args.buffers.now) = omega (arith, held_len hs c.args.graph.now c.requires.kept.0 kept, held_count hs c.args.graph.now c.requires.kept.0 kept, c.requires.there) in
    let is : (flags : List Bool) × (source : ℕ) × (version : ℕ) × (record_now (stock c.args.buffers.now) c.args.buffer ≡ elision flags source version) = elision_is (record_now (stock hs) c.args.buffer) c.requires.hides in
    can_rehide hs c.args.graph.now c.requires.kept.0 kept c.order-order.ensures.levelled c.args.buffer in_stock is.0 is.1 is.2 is.3 c.deref.result.now
    (snaps_are hs c.args.graph.now c.requires.kept.0 kept c.order-order.ensures.levelled c.args.buffer in_stock is.0 is.1 is.2 is.3 c.sources.result.now c.deref.result.now c.sources.ensures.sources (c.deref.ensures.value ∙ c.in_ok-sources.ensures))
    c.args.hidden (c.requires.size ∙ ap (λ (r : Record). length (flags_of r)) is.3)

pub returns-clause-begun : goal.returns-clause-begun
returns-clause-begun c =
    let hs = c.args.buffers.now in
    let kept : IsKept (map known c.args.buffers.now) c.args.graph.now c.requires.kept.0 = c.requires.kept.1 in
    let in_stock : c.args.buffer < count (stock c.args.buffers.now) = omega (arith, held_len hs c.args.graph.now c.requires.kept.0 kept, held_count hs c.args.graph.now c.requires.kept.0 kept, c.requires.there) in
    let is : (flags : List Bool) × (source : ℕ) × (version : ℕ) × (record_now (stock c.args.buffers.now) c.args.buffer ≡ elision flags source version) = elision_is (record_now (stock hs) c.args.buffer) c.requires.hides in
    if_begun hs c.args.graph.now c.requires.kept.0 kept c.order-order.ensures.levelled c.args.buffer in_stock is.0 is.1 is.2 is.3
    c.args.hidden (c.requires.size ∙ ap (λ (r : Record). length (flags_of r)) is.3) c.hidden_at.new.buffers c.deref.result.now
    (snaps_are hs c.args.graph.now c.requires.kept.0 kept c.order-order.ensures.levelled c.args.buffer in_stock is.0 is.1 is.2 is.3 c.sources.result.now c.deref.result.now c.sources.ensures.sources (c.deref.ensures.value ∙ c.in_ok-sources.ensures))
    c.requires.there c.hidden_at.result c.hidden_at.ensures.hidden
