-- Edits of several buffers.
use Rattle.std.specs.Prelude.{ℕ, List, flat_map, nat_eq, sum_by, if◌then◌else◌}
use Rattle.ed_base.specs.declared.piece.Piece.{Piece}
use Rattle.ed_base.specs.ChangeList.{IsNormal, inserted_len}
use Rattle.ed_layers.specs.Records.{is_carrier}
use Rattle.ed_stock.specs.Landing.{pieces_of_changes}
use Rattle.ed_stock.specs.Stock.{Stock, record_now}
use Rattle.ed_descent.specs.declared.edit.BufferEdit.{BufferEdit}

-- the pieces of all edits, each at its buffer
abbrev pub pieces_of_edits : List BufferEdit → List (ℕ × Piece)
pieces_of_edits edits = flat_map (λ e. pieces_of_changes e.buffer e.changes.changes) edits

-- how many units the edits of carriers put in
abbrev pub units_of_carriers : Stock → List BufferEdit → ℕ
units_of_carriers s edits = sum_by (λ e. if is_carrier (record_now s e.buffer) then inserted_len e.changes else 0) edits

-- how many units the edits of one buffer put in
abbrev pub own_units : List BufferEdit → ℕ → ℕ
own_units edits b = sum_by (λ e. if nat_eq e.buffer b then inserted_len e.changes else 0) edits

abbrev pub IsNormalEdit : BufferEdit → Type 0
IsNormalEdit e = IsNormal e.changes
