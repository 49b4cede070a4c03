-- The members up to the middle one end before the place.
use Rattle.std.proofs.Common.{◌≤◌, ◌<◌, ◌+◌, ◌-◌, ◌/◌, ℕ, length, arith, ap}
use Rattle.ed_base.specs.Spans.{end_of}
use Rattle.ed_layers.specs.Records.{placement}
use Rattle.ed_resolve.proofs.Rising.{ends_rise, below_middle}
use Rattle.ed_resolve.proofs.target.first_reaching.Goals as goal

pub loop-low-preserved-then-place-at : goal.loop-low-preserved-then-place-at
loop-low-preserved-then-place-at c =
    let m : ℕ = c.loop-low.low + (c.loop-low.high - c.loop-low.low) / 2 in
    let i = c.loop-low.invariant in
    let below : m < c.loop-low.high = below_middle c.loop-low.low c.loop-low.high c.loop-low-test.true in
    let within : c.loop-low.high ≤ length c.args.members.now = i.1 in
    let end : end_of (placement c.args.members.now m) < c.args.at = (let e = ap end_of c.place-place.ensures.place in let l = c.if-place-at.true in omega (arith, e, l)) in
    (omega (arith, below), within, λ j l. (let r = ends_rise c.args.members.now j m (omega (arith, l)) (omega (arith, below, within)) in omega (arith, r, end)))
