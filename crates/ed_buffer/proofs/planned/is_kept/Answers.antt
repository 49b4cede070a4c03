-- The points before and behind a kept unit go to two places.
use Rattle.std.proofs.Common.{ap, sym}
use Rattle.std.specs.Option.{is_some}
use Rattle.ed_buffer.proofs.Keeping.{kept_if_apart, none_kept_behind}
use Rattle.ed_buffer.proofs.planned.is_kept.Goals as goal

pub returns-then-at-new_len : goal.returns-then-at-new_len
returns-then-at-new_len c = sym (ap is_some (none_kept_behind c.args.changes.now c.args.at c.as_slice-normal.ensures.normal.changes (rw c.new_len.ensures at c.if-at-new_len.true)))

pub returns : goal.returns
returns c =
    rw (c.back_point-before.ensures.tracked, c.back_point-behind.ensures.tracked) (kept_if_apart c.args.changes.now c.args.at c.as_slice-normal.ensures.normal.changes)
