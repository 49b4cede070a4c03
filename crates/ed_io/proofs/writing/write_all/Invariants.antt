-- What stands before `done` was added.
use Rattle.std.proofs.Common.{◌-◌, ◌≤◌, length, take}
use Rattle.ed_io.specs.Bytes.{Added}
use Rattle.ed_io.proofs.writing.write_all.Given as goal

abbrev pub invariant-loop-done : goal.invariant-loop-done
invariant-loop-done g l = record {
  added : Added (g.O.Sink.held l.fn.sink) (take l.done l.bytes) (g.O.Sink.held l.sink);
  within : l.done ≤ length l.bytes;
  later : g.O.Sink.faults l.fn.sink ≤ g.O.Sink.faults l.sink;
}

abbrev pub decreases-loop-done : goal.decreases-loop-done
decreases-loop-done g l = length l.bytes - l.done
