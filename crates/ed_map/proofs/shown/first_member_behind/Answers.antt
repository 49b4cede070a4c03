use Rattle.std.proofs.Common.{◌≡◌, ◌+◌, ◌-◌, ◌<◌, ◌/◌, take, ℕ, ap, arith}
use Rattle.ed_base.specs.Spans.{end_of}
use Rattle.ed_layers.specs.Records.{members_len, placement}
use Rattle.ed_map.proofs.MemberParts.{end_is}
use Rattle.ed_map.proofs.shown.first_member_behind.Goals as goal

pub loop-low-preserved-then-place-at : goal.loop-low-preserved-then-place-at
loop-low-preserved-then-place-at c =
    let i = c.loop-low.invariant in
    let m : ℕ = c.loop-low.low + (c.loop-low.high - c.loop-low.low) / 2 in
    let t = c.loop-low-test.true in
    let below : m < c.loop-low.high = omega (arith, t) in
    let e : end_of (placement c.args.members.now m) ≡ members_len (take (m + 1) c.args.members.now) = end_is c.args.members.now m (omega (arith, below, i.within)) in
    let p = ap end_of c.place-place.ensures.place in
    let at = c.if-place-at.true in
    record { order = omega (arith, below); within = i.within; before = omega (arith, e, p, at); behind = i.behind }

pub loop-low-preserved : goal.loop-low-preserved
loop-low-preserved c =
    let i = c.loop-low.invariant in
    let m : ℕ = c.loop-low.low + (c.loop-low.high - c.loop-low.low) / 2 in
    let t = c.loop-low-test.true in
    let below : m < c.loop-low.high = omega (arith, t) in
    let e : end_of (placement c.args.members.now m) ≡ members_len (take (m + 1) c.args.members.now) = end_is c.args.members.now m (omega (arith, below, i.within)) in
    let p = ap end_of c.place-place.ensures.place in
    let at = c.if-place-at.false in
    record { order = omega (arith, below); within = omega (arith, below, i.within); before = i.before; behind = λ l. omega (arith, e, p, at) }
