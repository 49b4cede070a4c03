-- What edits of any buffers make of the stock.
use Rattle.std.specs.Prelude.{List, [], ◌∷◌, ℕ, Option}
use Rattle.ed_base.specs.declared.Piece.{Piece}
use Rattle.ed_base.specs.declared.refusal.Refusal.{Refusal}
use Rattle.ed_base.specs.Hooks.{HookTable}
use Rattle.ed_base.specs.Numbers.{first_some}
use Rattle.ed_climb.specs.declared.fault.PlanFault.{PlanFault}
use Rattle.ed_descent.specs.Edits.{pieces_of_edits}
use Rattle.ed_descent.specs.declared.edit.BufferEdit.{BufferEdit}
use Rattle.ed_descent.specs.declared.fault.DescentFault.{DescentFault}
use Rattle.ed_stock.specs.Landing.{denial, down_fault, landed, sent_down}
use Rattle.ed_stock.specs.Limits.{stock_limits}
use Rattle.ed_stock.specs.Stock.{Stock}
use Rattle.ed_stock.specs.Versions.{Rising, none_given}

-- all pieces of the edits, once each carrier has sent on what arrived there
abbrev pub edits_sent : HookTable → Stock → List BufferEdit → List (ℕ × Piece)
edits_sent hooks s edits = sent_down hooks s (pieces_of_edits edits)

-- the stock once they have landed, and each buffer above has followed
abbrev pub edits_landed : HookTable → Stock → List BufferEdit → Rising
edits_landed hooks s edits = landed s (edits_sent hooks s edits) none_given none_given

-- why the edits aren't planned: they can't be sent down, or else a region denies them, or else a limit would be passed
abbrev pub edits_fault : HookTable → Stock → List BufferEdit → Option Refusal
edits_fault hooks s edits = first_some (down_fault hooks s (pieces_of_edits edits) ∷ denial hooks s (edits_sent hooks s edits) ∷ first_some (stock_limits (edits_landed hooks s edits).stock) ∷ [])

-- a fault of sending as it is told
abbrev pub told : DescentFault → PlanFault
told (DescentFault.Refused r) = PlanFault.Refused r
told DescentFault.OutOfMemory = PlanFault.OutOfMemory
