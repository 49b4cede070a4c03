use Rattle.std.proofs.Common.{drop, length, reverse}
use Rattle.ed_base.specs.Spans.{end_of}
use Rattle.ed_base.specs.Tracking.{tracked_span}
use Rattle.ed_track.specs.declared.edge.Way.{Way}
use Rattle.ed_track.proofs.Passing.{Passed}
use Rattle.ed_track.proofs.through.back_span_through.Given as goal

abbrev pub invariant-loop-changes : goal.invariant-loop-changes
invariant-loop-changes l =
    Passed Way.Back (tracked_span l.mode) end_of l.fn.s (reverse l.steps) l.place (drop (length l.yielded) (reverse l.steps))
