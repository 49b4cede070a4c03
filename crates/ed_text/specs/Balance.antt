-- Rows whose nodes have enough units.
use Rattle.std.specs.Prelude.{ℕ, ◌<◌, ◌≤◌, List, length}
use Rattle.std.specs.List.{All}

-- each node of the row has as many units as a node that isn't alone needs
abbrev pub AreHalfFull : {X : Type 0} → (X → List ℕ) → ℕ → List X → Type 0
AreHalfFull units least row = All (λ c. least ≤ length (units c)) row

-- the same, unless it is alone
abbrev pub IsBalanced : {X : Type 0} → (X → List ℕ) → ℕ → List X → Type 0
IsBalanced units least row = 1 < length row → AreHalfFull units least row
