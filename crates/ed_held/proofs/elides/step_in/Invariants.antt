use Rattle.std.proofs.Common.{◌≡◌, drop}
use Rattle.ed_held.specs.OfElisions.{found_step}
use Rattle.ed_held.proofs.elides.step_in.Given as goal

abbrev pub invariant-loop-step : goal.invariant-loop-step
invariant-loop-step l = found_step (drop l.step-index l.steps) l.source ≡ found_step l.steps l.source
