use Rattle.std.proofs.Common.{◌≡◌, ℕ, ◌+◌, ◌≤◌, List, ◌++◌, drop}
use Rattle.ed_io.specs.Bytes.{Added}
use Rattle.ed_render.specs.Lines.{render, render_from}
use Rattle.ed_replay.proofs.writing.write_entries.Given as goal

abbrev pub invariant-loop-entry : goal.invariant-loop-entry
invariant-loop-entry g l = record {
  position : l.position ≡ l.entry-index;
  written : (done : List ℕ) × (render l.entries ≡ done ++ render_from (l.position + 1) (drop l.entry-index l.entries)) × Added (g.O.Sink.held l.fn.sink) done (g.O.Sink.held l.sink);
  later : g.O.Sink.faults l.fn.sink ≤ g.O.Sink.faults l.sink;
}
