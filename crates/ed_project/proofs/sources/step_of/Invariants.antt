use Rattle.std.proofs.Common.{◌≡◌, drop}
use Rattle.ed_members.specs.Steps.{steps_seen}
use Rattle.ed_project.proofs.sources.step_of.Given as goal

abbrev pub invariant-loop-step : goal.invariant-loop-step
invariant-loop-step l = steps_seen (drop l.step-index l.steps) l.source ≡ steps_seen l.steps l.source
