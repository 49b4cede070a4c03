-- What stands before `filled` was taken.
use Rattle.std.proofs.Common.{◌-◌, ◌≤◌, take, vec_len}
use Rattle.ed_io.specs.Bytes.{Took}
use Rattle.ed_io.proofs.reading.fill.Given as goal

abbrev pub invariant-loop-filled : goal.invariant-loop-filled
invariant-loop-filled g l = record {
  taken : Took (g.I.Source.left l.fn.source) (take l.filled l.bytes.items) (g.I.Source.left l.source);
  within : l.filled ≤ vec_len l.bytes;
  bound : vec_len l.bytes ≤ l.most;
  later : g.I.Source.faults l.fn.source ≤ g.I.Source.faults l.source;
}

abbrev pub decreases-loop-filled : goal.decreases-loop-filled
decreases-loop-filled g l = l.most - l.filled
