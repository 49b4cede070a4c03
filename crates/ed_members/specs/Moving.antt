-- When members can go along with steps of their sources.
use Rattle.std.specs.Prelude.{ℕ, ◌≤◌, Option, MatchOption}
use Rattle.ed_base.specs.declared.piece.Member.{Member}
use Rattle.ed_base.specs.Spans.{end_of}
use Rattle.ed_layers.specs.SourceStep.{SourceStep}
pub use Rattle.ed_layers.specs.Owning.{Owns, OwnInside, OwnInOrder}

-- The bounds of a member end within the old text of its source, where that stepped; and within the new one.
abbrev pub EndsInOld : (ℕ → Option SourceStep) → Member → Type 0
EndsInOld steps (Member.Literal units) = Unit {0}
EndsInOld steps (Member.Tracked source bounds mode) = MatchOption (steps source) (Unit {0}) (λ s. end_of bounds ≤ s.step.old_len)

abbrev pub EndsInNew : (ℕ → Option SourceStep) → Member → Type 0
EndsInNew steps (Member.Literal units) = Unit {0}
EndsInNew steps (Member.Tracked source bounds mode) = MatchOption (steps source) (Unit {0}) (λ s. end_of bounds ≤ s.step.new_len)
