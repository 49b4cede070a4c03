-- The limits of the stock, of numbers.
use Rattle.std.specs.Prelude.{ℕ, ◌^◌, List, [], ◌∷◌, length, nat_lt, slice_get, Option, Some, None, if◌then◌else◌}
use Rattle.std.specs.Option.{option_map_or}
use Rattle.ed_base.specs.declared.refusal.Refusal.{Refusal}
use Rattle.ed_base.specs.declared.refusal.Which.{Which}
use Rattle.ed_base.specs.Numbers.{first_some}
use Rattle.ed_layers.specs.Records.{members_of}
use Rattle.ed_climb.specs.declared.counts.Counts.{Counts}
use Rattle.ed_held.specs.declared.held.Held.{Held}
use Rattle.ed_held.specs.declared.moves.Move.{Move}
use Rattle.ed_held.specs.Moves.{move_of, record_of}
use Rattle.ed_held.specs.Seen.{known, last_of}

-- the refusal of a number that passes its limit
abbrev pub passed : Which → ℕ → ℕ → Option Refusal
passed which most n = if nat_lt most n then Some (Refusal.Limit which n) else None

-- the first limit that is passed, of a count of buffers that is within its own; the units and the members of buffers are judged before
abbrev pub limit_of : Option Refusal → Counts → Option Refusal → Option Refusal
limit_of units counts members =
    first_some (units ∷ passed Which.Inserted (2 ^ 27) counts.inserted ∷ passed Which.Versions (2 ^ 18) counts.versions ∷ members ∷ passed Which.Placements (2 ^ 26) counts.placements ∷ [])

-- the same of a new buffer, which is the last of so many, and has so many units and members
abbrev pub new_limit : ℕ → ℕ → Counts → ℕ → Option Refusal
new_limit buffers units counts members =
    first_some (passed Which.Buffers 64 buffers ∷ limit_of (passed Which.Units (2 ^ 22) units) counts (passed Which.Members 1024 members) ∷ [])

-- how many members a buffer has once the moves are made
abbrev pub count_now : List Held → ℕ → ℕ
count_now hs b = option_map_or (λ h. length (members_of (last_of (known h).buffer))) (slice_get hs b) 0

abbrev pub count_then : List Held → List Move → ℕ → ℕ
count_then hs ms b = option_map_or (λ m. length (members_of (record_of m.planned))) (move_of ms b) (count_now hs b)
