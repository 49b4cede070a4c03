use Rattle.std.proofs.Common.{drop}
use Rattle.ed_base.specs.Tracking.{tracked_point}
use Rattle.ed_track.specs.declared.edge.Way.{Way}
use Rattle.ed_track.proofs.Passing.{Passed}
use Rattle.ed_track.proofs.through.point_through.Given as goal

abbrev pub invariant-loop-changes : goal.invariant-loop-changes
invariant-loop-changes l =
    Passed Way.Forward (tracked_point l.mode) (λ p. p) l.fn.p l.steps l.place (drop l.changes-index l.steps)
