-- The list so far is that of the changes so far, turned round.
use Rattle.std.proofs.Common.{◌≡◌, ◌<◌, ◌^◌, length, arith}
use Rattle.ed_base.specs.NewStarts.{new_starts}
use Rattle.ed_base.proofs.NormalLists.{length_starts}
use Rattle.ed_change.proofs.Splicing.{turned_all, turned_next, backward}
use Rattle.ed_change.proofs.Laws.{inverse_normal, back_new_len, is_back, text_fits, lies_within, all_turned}
use Rattle.ed_change.proofs.back.inverse.Goals as goal

pub turned-requires-clause-within : goal.turned-requires-clause-within
turned-requires-clause-within c = rw c.requires (lies_within c.args.changes.now.old_len c.as_slice-change-items.result.now c.args.changes.now.changes c.loop-i.i c.change-item.result c.as_slice-change-items.ensures.changes c.as_slice-change-items.ensures.normal.changes c.loop-i-test.true c.change-item.is)

pub turned-requires-clause-short : goal.turned-requires-clause-short
turned-requires-clause-short c = text_fits (2 ^ 32) c.args.changes.now.old_len c.as_slice-change-items.result.now c.args.changes.now.changes c.loop-i.i c.change-item.result c.as_slice-change-items.ensures.changes c.as_slice-change-items.ensures.normal.changes c.as_slice-change-items.ensures.normal.fits c.loop-i-test.true c.change-item.is

pub loop-i-preserved : goal.loop-i-preserved
loop-i-preserved c =
    let below : c.loop-i.i < length c.args.changes.now.changes = rw c.as_slice-change-items.ensures.changes at c.loop-i-test.true in
    rw (c.in_ok-push.ensures.items, c.in_ok-turned.ensures) (turned_next c.args.units.now (new_starts c.args.changes.now) c.args.changes.now.changes (turned_all c.args.units.now (new_starts c.args.changes.now) c.args.changes.now.changes) c.loop-i.list.items c.loop-i.i c.new_start-start.result c.change-item.result (length_starts 0 0 c.args.changes.now.changes) below c.new_start-start.ensures (rw c.as_slice-change-items.ensures.changes at c.change-item.is) c.loop-i.invariant)

pub of-requires-clause-normal : goal.of-requires-clause-normal
of-requires-clause-normal c =
    let done : c.loop-i.list.items ≡ backward c.args.units.now 0 0 c.args.changes.now.changes = all_turned c.args.units.now c.args.changes.now.changes c.loop-i.list.items c.loop-i.i (rw c.as_slice-change-items.ensures.changes at c.loop-i-test.false) c.loop-i.invariant in
    rw (c.new_len.ensures, done) (inverse_normal c.args.changes.now c.args.units.now c.requires c.as_slice-change-items.ensures.normal.changes)

pub of-requires-clause-fits : goal.of-requires-clause-fits
of-requires-clause-fits c =
    let done : c.loop-i.list.items ≡ backward c.args.units.now 0 0 c.args.changes.now.changes = all_turned c.args.units.now c.args.changes.now.changes c.loop-i.list.items c.loop-i.i (rw c.as_slice-change-items.ensures.changes at c.loop-i-test.false) c.loop-i.invariant in
    rw (c.new_len.ensures, done) (omega (arith, back_new_len c.args.changes.now c.args.units.now c.requires c.as_slice-change-items.ensures.normal.changes, c.as_slice-change-items.ensures.old_short))

pub returns : goal.returns
returns c =
    let done : c.loop-i.list.items ≡ backward c.args.units.now 0 0 c.args.changes.now.changes = all_turned c.args.units.now c.args.changes.now.changes c.loop-i.list.items c.loop-i.i (rw c.as_slice-change-items.ensures.changes at c.loop-i-test.false) c.loop-i.invariant in
    let is = is_back c.args.changes.now c.args.units.now c.requires c.as_slice-change-items.ensures.normal.changes c.loop-i.list.items c.in_ok-back.back done (rw c.new_len.ensures at c.in_ok-back.ensures) in
    record { inverse = is.inverse; undone = is.undone; step = is.step; old_len = is.old_len; new_len = is.new_len }
