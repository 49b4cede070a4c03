-- The units of the texts so far, and of those that are left.
use Rattle.std.proofs.Common.{◌≡◌, ◌+◌, drop, length, sum_by}
use Rattle.ed_text.proofs.plain.total_len.Given as goal

abbrev pub invariant-loop-part : goal.invariant-loop-part
invariant-loop-part l = l.total + sum_by length (drop l.part-index l.parts) ≡ sum_by length l.parts
