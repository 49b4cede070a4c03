use Rattle.std.proofs.Common.{◌≡◌, ◌+◌, length, flat_map, drop}
use Rattle.ed_text.proofs.row.total_len.Given as goal

-- what is counted and what is left make the whole
abbrev pub invariant-loop-child : goal.invariant-loop-child
invariant-loop-child g l = l.total + length (flat_map g.C.Level.units (drop l.child-index l.row)) ≡ length (flat_map g.C.Level.units l.row)
