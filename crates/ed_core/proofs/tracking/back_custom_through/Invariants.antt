use Rattle.std.proofs.Common.{drop, length, reverse}
use Rattle.ed_base.specs.Spans.{end_of}
use Rattle.ed_base.specs.Tracking.{custom_span}
use Rattle.ed_track.specs.declared.edge.Way.{Way}
use Rattle.ed_track.proofs.Passing.{Passed}
use Rattle.ed_core.proofs.tracking.back_custom_through.Given as goal

abbrev pub invariant-loop-changes : goal.invariant-loop-changes
invariant-loop-changes g l =
    Passed Way.Back (custom_span l.custom.rule) end_of l.fn.s (reverse l.steps) l.place (drop (length l.yielded) (reverse l.steps))
