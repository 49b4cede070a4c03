-- The texts of sources, as snapshots give them.
use Rattle.std.specs.Prelude.{◌≡◌, ℕ, ◌≤◌, List, [], ◌∷◌, length, map, nat_eq, slice_get, Option, Some, None, MatchOption, unwrap_or, if◌then◌else◌}
use Rattle.ed_base.specs.declared.piece.Member.{Member}
use Rattle.ed_base.specs.Spans.{end_of}
use Rattle.ed_layers.specs.SourceStep.{SourceStep}
pub use Rattle.ed_layers.specs.Texts.{member_text, text_over}
use Rattle.ed_version.specs.declared.snapshot.Snapshot.{Snapshot}

-- the text of a source among snapshots, and the versions that they are of
abbrev pub found_text : List Snapshot → ℕ → Option (List ℕ)
found_text [] b = None
found_text (s ∷ ss) b = if nat_eq s.buffer b then Some s.text else found_text ss b

abbrev pub text_in : List Snapshot → ℕ → List ℕ
text_in snapshots b = unwrap_or (found_text snapshots b) []

abbrev pub versions_of : List Snapshot → List (ℕ × ℕ)
versions_of snapshots = map (λ s. (s.buffer, s.version)) snapshots

-- no source stepped
abbrev pub no_steps : ℕ → Option SourceStep
no_steps b = None

-- The source of a member is there: where it stepped with the text that the step leads to, else with one that has the member's bounds.
abbrev pub HasSource : (ℕ → Option SourceStep) → List Snapshot → Member → Type 0
HasSource steps snapshots (Member.Literal units) = Unit {0}
HasSource steps snapshots (Member.Tracked source bounds mode) =
    MatchOption (found_text snapshots source) ⊥ (λ t. MatchOption (steps source) (end_of bounds ≤ length t) (λ s. s.step.new_len ≡ length t))

-- a literal that stays stands at its old index among the members of before
abbrev pub StaysAt : Option ℕ → List Member → Member → Type 0
StaysAt None old m = Unit {0}
StaysAt (Some i) old (Member.Literal units) = slice_get old i ≡ Some (Member.Literal units)
StaysAt (Some i) old (Member.Tracked source bounds mode) = Unit {0}

-- the same of all members, where `stays` has the old index of each that stays
abbrev pub LiteralsStay : (ℕ → Option ℕ) → List Member → List Member → Type 0
LiteralsStay stays old new = (k : ℕ) (m : Member) → slice_get new k ≡ Some m → StaysAt (stays k) old m
