-- The steps of sources as values, and as the definitions see them.
use Rattle.std.specs.Prelude.{ℕ, List, [], ◌∷◌, nat_eq, Option, Some, None, if◌then◌else◌}
use Rattle.ed_base.specs.ChangeList.{step, new_len}
use Rattle.ed_layers.specs.SourceStep as layers
use Rattle.ed_pieces.specs.Trails.{trails_in}
use Rattle.ed_members.specs.declared.steps.SourceStep.{SourceStep}

-- a step, as the definitions see it
abbrev pub step_seen : SourceStep → layers.SourceStep
step_seen s = record { step = step s.changes; trails = trails_in s.trails (new_len s.changes) }

-- the step of a source, if it stepped
abbrev pub steps_seen : List SourceStep → ℕ → Option layers.SourceStep
steps_seen [] b = None
steps_seen (s ∷ ss) b = if nat_eq s.source b then Some (step_seen s) else steps_seen ss b
