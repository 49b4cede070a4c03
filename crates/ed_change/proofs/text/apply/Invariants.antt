use Rattle.std.proofs.Common.{drop}
use Rattle.ed_base.specs.ChangeList.{applied}
use Rattle.ed_change.proofs.Splicing.{Copied}
use Rattle.ed_change.proofs.text.apply.Given as goal

abbrev pub invariant-loop-change : goal.invariant-loop-change
invariant-loop-change l = Copied l.units (applied l.changes l.units) l.at l.text (drop l.change-index l.change-items)
