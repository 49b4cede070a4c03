-- The pieces of each buffer, by number.
use Rattle.std.specs.Prelude.{ℕ, List, [], ◌∷◌, ◌++◌, map, slice_index_or, slice_set, Vec}
use Rattle.std.specs.declared.alloc.Global.{Global}
use Rattle.ed_base.specs.declared.piece.Piece.{Piece}

abbrev pub boxes_of : List (Vec Piece Global) → List (List Piece)
boxes_of vs = map (λ v. v.items) vs

-- with one piece more, behind the others of its buffer
abbrev pub with_piece : List (List Piece) → ℕ × Piece → List (List Piece)
with_piece boxes sent = slice_set boxes sent.0 (slice_index_or boxes sent.0 [] ++ sent.1 ∷ [])
