use Rattle.std.proofs.Common.{drop, length, reverse}
use Rattle.ed_base.specs.Tracking.{tracked_point}
use Rattle.ed_track.specs.declared.edge.Way.{Way}
use Rattle.ed_track.proofs.Passing.{Passed}
use Rattle.ed_track.proofs.through.back_point_through.Given as goal

abbrev pub invariant-loop-changes : goal.invariant-loop-changes
invariant-loop-changes l =
    Passed Way.Back (tracked_point l.mode) (λ p. p) l.fn.p (reverse l.steps) l.place (drop (length l.yielded) (reverse l.steps))
