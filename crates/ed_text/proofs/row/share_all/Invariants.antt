use Rattle.std.proofs.Common.{◌≡◌, ◌+◌, ◌++◌, length, flat_map, drop}
use Rattle.ed_text.specs.Balance.{AreHalfFull}
use Rattle.ed_text.proofs.row.share_all.Given as goal

abbrev pub invariant-loop-child : goal.invariant-loop-child
invariant-loop-child g l = record {
  units : flat_map g.C.Level.units l.row.items ++ flat_map g.C.Level.units (drop l.child-index l.more) ≡ flat_map g.C.Level.units l.fn.row.items ++ flat_map g.C.Level.units l.more;
  half_full : AreHalfFull g.C.Level.units g.C.Level.least l.fn.row.items → AreHalfFull g.C.Level.units g.C.Level.least l.more → AreHalfFull g.C.Level.units g.C.Level.least l.row.items;
  len : length l.row.items + length (drop l.child-index l.more) ≡ length l.fn.row.items + length l.more;
}
