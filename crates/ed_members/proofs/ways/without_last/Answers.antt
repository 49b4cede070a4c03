-- All pairs but the last.
use Rattle.std.proofs.Common.{rules}
use Rattle.ed_members.proofs.HandingUp.{without_last_is}
use Rattle.ed_members.proofs.ways.without_last.Goals as goal

pub returns : goal.returns
returns c = rw (← without_last_is c.args.trail.now) (search rules)
