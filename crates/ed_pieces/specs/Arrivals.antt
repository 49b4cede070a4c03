-- What arrives at a buffer.
use Rattle.std.specs.Prelude.{ℕ, ◌+◌, ◌-◌, ◌≤◌, ◌^◌, List, [], ◌∷◌, ◌++◌, length, map, max, nat_eq, nat_le, sum_by, if◌then◌else◌}
use Rattle.std.specs.List.{All}
use Rattle.ed_base.specs.declared.piece.Piece.{Piece}
use Rattle.ed_base.specs.ChangeList.{AreNormalFrom}
use Rattle.ed_layers.specs.Pieces.{Component, component, marked_units}
use Rattle.ed_pieces.specs.Ways.{change_of}

-- the length of the text, and the components by rising place
pub record Arrival : Type 0 where
  pub old_len : ℕ
  pub components : List Component

-- each ends within a text of length n
abbrev pub AllWithin : ℕ → List Piece → Type 0
AllWithin n pieces = All (λ p. p.start + p.len ≤ n) pieces

abbrev pub units_put_in : List Component → ℕ
units_put_in cs = sum_by (λ c. length c.text) cs

-- The text is short, and each component ends within it. As changes they are in normal form, and together they put in at most 2^27 units.
pub record IsArrival (old_len : ℕ) (components : List Component) : Type 0 where
  pub short : old_len ≤ 2 ^ 22
  pub within : All (λ c. c.start + c.old_len ≤ old_len) components
  pub normal : AreNormalFrom 0 old_len (map change_of components)
  pub few : units_put_in components ≤ 2 ^ 27

-- the component that deletes the units from i up to e and puts text in, if it does anything
abbrev pub component_if : ℕ → ℕ → List (ℕ × List (ℕ × ℕ)) → List Component
component_if i e [] = if nat_eq i e then [] else component i (e - i) [] ∷ []
component_if i e (u ∷ us) = component i (e - i) (u ∷ us) ∷ []

-- The components of sorted pieces. The open one begins at i, deletes up to e and puts text in; a piece that begins at e or before belongs to it.
abbrev pub sweep : ℕ → ℕ → List (ℕ × List (ℕ × ℕ)) → List Piece → List Component
sweep i e text [] = component_if i e text
sweep i e text (p ∷ ps) = if nat_le p.start e then sweep i (max e (p.start + p.len)) (text ++ marked_units p) ps else component_if i e text ++ sweep p.start (p.start + p.len) (marked_units p) ps
