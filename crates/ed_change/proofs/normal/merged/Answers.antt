-- The sorted replaces are in order, so the pass gives the normal form.
use Rattle.std.proofs.Common.{◌^◌, map, arith}
use Rattle.ed_change.proofs.Whole.{lent_within, swept_normal, swept_new_len, is_merged}
use Rattle.ed_change.proofs.normal.merged.Goals as goal

pub swept-requires : goal.swept-requires
swept-requires c = rw c.deref.ensures.value (lent_within (2 ^ 32) c.args.len c.args.replaces.now c.in_ok-order.order.items c.in_ok-order.ensures c.requires.within (omega arith))

pub of-requires-clause-normal : goal.of-requires-clause-normal
of-requires-clause-normal c = rw (c.in_ok-list.ensures, c.deref.ensures.value) (swept_normal c.args.len c.args.replaces.now (map (λ r. r.now) c.in_ok-order.order.items) c.in_ok-order.ensures c.requires.within)

pub of-requires-clause-fits : goal.of-requires-clause-fits
of-requires-clause-fits c = rw (c.in_ok-list.ensures, c.deref.ensures.value) (omega (arith, swept_new_len c.args.len c.args.replaces.now (map (λ r. r.now) c.in_ok-order.order.items) c.in_ok-order.ensures c.requires.within))

pub returns : goal.returns
returns c =
    let is = is_merged c.args.len c.args.replaces.now (map (λ r. r.now) c.in_ok-order.order.items) c.in_ok-order.ensures c.requires.within c.in_ok-list.list.items c.in_ok-changes.changes (rw c.deref.ensures.value at c.in_ok-list.ensures) c.in_ok-changes.ensures in
    record { normal = is.normal; text = is.text; step = is.step; inserted = is.inserted; nothing = is.nothing }
