use Rattle.std.proofs.Common.{◌≡◌, ◌++◌, drop, length}
use Rattle.ed_base.specs.ChangeList.{change, components}
use Rattle.ed_kept.specs.Kept.{ArePairsRising, pairs_of}
use Rattle.ed_kept.proofs.between.changes_between.Given as goal

abbrev pub invariant-loop-run : goal.invariant-loop-run
invariant-loop-run l = record {
  rising : ArePairsRising l.old l.new l.old_len (length l.text) (pairs_of (drop l.run-index l.runs));
  changes : l.changes.items ++ components change l.text l.old l.new (pairs_of (drop l.run-index l.runs)) l.old_len (length l.text) ≡ components change l.text 0 0 (pairs_of l.runs) l.old_len (length l.text);
}
