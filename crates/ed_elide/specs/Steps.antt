-- What a step of a source is to the buffer above.
use Rattle.std.specs.Prelude.{◌≡◌, ℕ, [], Option, None, MatchOption}
use Rattle.ed_base.specs.ChangeList.{ChangeList, step}
use Rattle.ed_layers.specs.SourceStep.{SourceStep}

-- the source steps by these changes, or it doesn't step and there are none
abbrev pub Steps : (ℕ → Option SourceStep) → ℕ → ChangeList → Type 0
Steps steps source c = MatchOption (steps source) (c.changes ≡ []) (λ s. s.step ≡ step c)

-- no source steps
abbrev pub no_steps : ℕ → Option SourceStep
no_steps b = None
