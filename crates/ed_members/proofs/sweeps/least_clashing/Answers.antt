-- Below both indices no member conflicts.
use Rattle.std.proofs.Common.{arith}
use Rattle.ed_members.proofs.Sweeping.{both_swept}
use Rattle.ed_members.proofs.sweeps.least_clashing.Goals as goal

pub returns-clause-first : goal.returns-clause-first
returns-clause-first c =
    both_swept c.args.members.now c.args.order.now c.least_behind.result c.least_ahead.result c.min.result c.requires.all (omega (arith, c.min.ensures)) (omega (arith, c.min.ensures)) (omega (arith, c.min.ensures, c.least_behind.ensures.within))
    c.least_behind.ensures.clear c.least_ahead.ensures.clear
