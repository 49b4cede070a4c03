use Rattle.std.proofs.Common.{◌≡◌, ℕ, ◌+◌, ◌-◌, ◌<◌, ◌/◌, ◌^◌, Some, arith}
use Rattle.std.specs.Prelude.{slice_get, slice_index_or}
use Rattle.std.proofs.lemmas.Option.{slice_get-get_or}
use Rattle.ed_base.specs.declared.edit.Span.{Span}
use Rattle.ed_map.proofs.CutSteps.{apart_get, apart_ends}
use Rattle.ed_map.proofs.up.first_span_behind.Goals as goal

pub overflow_add-span : goal.overflow_add-span
overflow_add-span c =
    let i = c.loop-low.invariant in
    let m : ℕ = c.loop-low.low + (c.loop-low.high - c.loop-low.low) / 2 in
    let t = c.loop-low-test.true in
    let d : Span = record { start = 0; len = 0 } in
    let at : slice_get c.args.spans.now m ≡ Some (slice_index_or c.args.spans.now m d) = slice_get-get_or c.args.spans.now m d (omega (arith, t, i.within)) in
    omega (arith, (apart_get 0 (2 ^ 32 - 1) m c.args.spans.now (slice_index_or c.args.spans.now m d) c.requires at).1)

pub loop-low-preserved-then-span-at : goal.loop-low-preserved-then-span-at
loop-low-preserved-then-span-at c =
    let i = c.loop-low.invariant in
    let m : ℕ = c.loop-low.low + (c.loop-low.high - c.loop-low.low) / 2 in
    let t = c.loop-low-test.true in
    let below : m < c.loop-low.high = omega (arith, t) in
    let d : Span = record { start = 0; len = 0 } in
    let at : slice_get c.args.spans.now m ≡ Some (slice_index_or c.args.spans.now m d) = slice_get-get_or c.args.spans.now m d (omega (arith, below, i.within)) in
    let end = c.if-span-at.true in
    record { order = omega (arith, below); within = i.within; before = λ j s l is. omega (arith, (apart_ends 0 (2 ^ 32 - 1) j m c.args.spans.now s (slice_index_or c.args.spans.now m d) c.requires (omega (arith, l)) is at).1, end) }
