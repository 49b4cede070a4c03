-- What a buffer sends on, and what that asks of the stock.
use Rattle.std.specs.Prelude.{◌≡◌, ℕ, ◌<◌, ◌≤◌, ◌^◌, true, List, [], length, sum_by, if◌then◌else◌, Option, None}
use Rattle.ed_base.specs.declared.piece.Piece.{Piece}
use Rattle.ed_base.specs.declared.refusal.Refusal.{Refusal}
use Rattle.ed_base.specs.Hooks.{HookTable}
use Rattle.ed_layers.specs.Pieces.{arrived}
use Rattle.ed_layers.specs.Records.{is_carrier, members_of}
use Rattle.ed_layers.specs.Sending.{sending_fault, sent}
use Rattle.ed_pieces.specs.Arrivals.{AllWithin}
use Rattle.ed_stock.specs.Landing.{resolver_of}
use Rattle.ed_stock.specs.Stock.{Stock, count, record_now, text_now}
use Rattle.ed_held.specs.declared.held.Held.{Held}
use Rattle.ed_held.specs.Seen.{stock}
use Rattle.ed_sending.specs.Ready.{IsReady}

-- between groups, edits can be sent down
pub record CanSend (hs : List Held) : Type 0 where
  pub ready : IsReady (stock hs)
  pub short : (b : ℕ) → b < count (stock hs) → length (text_now (stock hs) b) ≤ 2 ^ 22
  pub few : (b : ℕ) → b < count (stock hs) → length (members_of (record_now (stock hs) b)) ≤ 1024

-- what a buffer sends on of the pieces that have arrived there, and why it can't
abbrev pub sent_on : HookTable → Stock → ℕ → List Piece → List (ℕ × Piece)
sent_on hooks s b pieces = if is_carrier (record_now s b) then sent b (members_of (record_now s b)) (resolver_of hooks s b) (arrived pieces (length (text_now s b))) else []

abbrev pub passing_fault : Stock → ℕ → List Piece → Option Refusal
passing_fault s b pieces = if is_carrier (record_now s b) then sending_fault b (members_of (record_now s b)) (arrived pieces (length (text_now s b))) else None

-- what has arrived at a carrier lies inside it, and isn't too much
pub record CanPass (s : Stock) (b : ℕ) (pieces : List Piece) : Type 0 where
  pub within : AllWithin (length (text_now s b)) pieces
  pub put_in : is_carrier (record_now s b) ≡ true → sum_by (λ p. length p.text) pieces ≤ 2 ^ 22
