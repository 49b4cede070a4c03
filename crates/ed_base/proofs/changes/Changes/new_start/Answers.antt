use Rattle.std.proofs.Common.{length, ap, arith}
use Rattle.ed_base.proofs.NormalLists.{length_starts}
use Rattle.ed_base.proofs.changes.Changes.new_start.Goals as goal

pub bounds-new_starts-i : goal.bounds-new_starts-i
bounds-new_starts-i c = omega (arith, c.requires, ap length c.new_starts.ensures, length_starts 0 0 c.args.self.now.changes)
