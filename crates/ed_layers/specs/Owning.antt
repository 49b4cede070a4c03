-- What members of a carrier own of a source's new text, and how they go along with it.
use Rattle.std.specs.Prelude.{◌≡◌, ◌⊎◌, ℕ, ◌<◌, ◌≤◌, true, List, nat_eq, Option, IsTrue, Contains, Some}
use Rattle.std.specs.List.{enumerate_from}
use Rattle.ed_base.specs.declared.piece.Member.{Member}
use Rattle.ed_base.specs.Spans.{end_of}
use Rattle.ed_base.specs.Tracking.{positive_edge, negative_edge}
use Rattle.ed_layers.specs.SourceStep.{SourceStep, trail_at, ends_with}
use Rattle.ed_layers.specs.Bounds.{Placed, comes_after, holds, placed_on}

-- whether the new place is owned by the member of the carrier
abbrev pub Owns : ℕ → SourceStep → Placed → ℕ → Type 0
Owns carrier s m q = ends_with carrier (nat_eq m.index) (trail_at s q) ≡ true

-- What a member of the carrier owns lies between the places to which its outer edges go.
abbrev pub OwnInside : ℕ → (ℕ → Option SourceStep) → List Member → Type 0
OwnInside carrier steps members = (source q : ℕ) (s : SourceStep) (m : Placed) → steps source ≡ Some s → Contains (placed_on source (enumerate_from 0 members)) m
    → Owns carrier s m q → (negative_edge s.step m.bounds.start ≤ q) × (q < positive_edge s.step (end_of m.bounds))

-- Of two members on one source, all that the earlier holds lies before all that the later holds. What no one owns does so anyway.
abbrev pub OwnInOrder : ℕ → (ℕ → Option SourceStep) → List Member → Type 0
OwnInOrder carrier steps members = (source p q : ℕ) (s : SourceStep) (m n : Placed) → steps source ≡ Some s
    → Contains (placed_on source (enumerate_from 0 members)) m → Contains (placed_on source (enumerate_from 0 members)) n → IsTrue (comes_after m n)
    → holds carrier s m p ≡ true → holds carrier s n q ≡ true → Owns carrier s m p ⊎ Owns carrier s n q → p < q
