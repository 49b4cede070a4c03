use Rattle.std.proofs.Common.{length, ap, arith}
use Rattle.ed_track.proofs.Places.{part_forward, part_back, text_fits}
use Rattle.ed_track.proofs.edge.part_at.Goals as goal

pub overflow_cast-text_len : goal.overflow_cast-text_len
overflow_cast-text_len c =
    omega (arith, ap length c.as_slice.ensures, text_fits c.args.changes.now c.args.i c.get-change.result.now c.requires.normal c.get-change.ensures)

pub returns-in-Forward : goal.returns-in-Forward
returns-in-Forward c =
    rw (c.in-Forward.is, c.as_slice.ensures, c.new_start-new_start.ensures) (part_forward c.args.changes.now c.args.i c.get-change.result.now c.get-change.ensures)

pub returns-in-Back : goal.returns-in-Back
returns-in-Back c =
    rw (c.in-Back.is, c.as_slice.ensures, c.new_start-new_start.ensures) (part_back c.args.changes.now c.args.i c.get-change.result.now c.get-change.ensures)
