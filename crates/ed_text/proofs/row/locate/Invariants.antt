use Rattle.std.proofs.Common.{◌≡◌, ◌+◌, ◌-◌, ◌≤◌, ◌<◌, length, flat_map, drop, take}
use Rattle.ed_text.proofs.row.locate.Given as goal

abbrev pub invariant-loop-index : goal.invariant-loop-index
invariant-loop-index g l = record {
  inside : l.index ≤ l.last;
  before : l.start ≡ length (flat_map g.C.Level.units (take l.index l.row));
  left : l.start + length (flat_map g.C.Level.units (drop l.index l.row)) ≡ length (flat_map g.C.Level.units l.row);
  there : l.start ≤ l.at;
  later : 0 < l.at → l.start < l.at;
}

abbrev pub decreases-loop-index : goal.decreases-loop-index
decreases-loop-index g l = l.last - l.index
