use Rattle.std.proofs.Common.{drop}
use Rattle.ed_base.proofs.NormalLists.{Reached}
use Rattle.ed_base.proofs.changes.indexed.Given as goal

abbrev pub invariant-loop-change : goal.invariant-loop-change
invariant-loop-change l =
    Reached l.old_len l.changes l.old_end l.new_end l.starts.items (drop l.change-index l.changes)
