-- The members from the middle one on begin behind the place.
use Rattle.std.proofs.Common.{◌<◌, ◌+◌, ◌-◌, ◌/◌, ℕ, arith, ap}
use Rattle.ed_layers.specs.Records.{placement}
use Rattle.ed_resolve.proofs.Rising.{starts_rise, below_middle}
use Rattle.ed_resolve.proofs.target.first_behind.Goals as goal

pub loop-low-preserved-then-at-place : goal.loop-low-preserved-then-at-place
loop-low-preserved-then-at-place c =
    let m : ℕ = c.loop-low.low + (c.loop-low.high - c.loop-low.low) / 2 in
    let i = c.loop-low.invariant in
    let below : m < c.loop-low.high = below_middle c.loop-low.low c.loop-low.high c.loop-low-test.true in
    let start : c.args.at < (placement c.args.members.now m).start = (let e = ap (λ s. s.start) c.place-place.ensures.place in let l = c.if-at-place.true in omega (arith, e, l)) in
    (omega arith, omega (arith, below, i.1), λ j l u. (let r = starts_rise c.args.members.now m j l in omega (arith, r, start)))
