-- The way of a group that replaces members of a projection.
use Rattle.std.specs.Prelude.{◌≡◌, ℕ, List, [], ◌∷◌, length, map, filter, nat_lt, slice_set, Option, Some, None, Result, option_map}
use Rattle.ed_base.specs.declared.Member.{Member}
use Rattle.ed_base.specs.declared.Refusal.{Refusal}
use Rattle.ed_base.specs.Numbers.{or_else, places}
use Rattle.ed_graph.specs.declared.fault.LinkFault.{LinkFault}
use Rattle.ed_graph.specs.Standing.{first_cycle, height_in, linked}
use Rattle.ed_base.specs.declared.OutOfMemory.{OutOfMemory}
use Rattle.ed_stock.specs.Making.{projection_of}
use Rattle.ed_stock.specs.Stock.{Stock}
use Rattle.ed_stock.specs.Versions.{Rising, with_record}
use Rattle.ed_version.specs.declared.Snapshot.{Snapshot}
use Rattle.ed_held.specs.declared.held.Held.{Held}
use Rattle.ed_held.specs.declared.moves.Planned.{Planned}
use Rattle.ed_group.specs.Placed.{too_deep}
use Rattle.ed_climb.specs.Route.{Route}
use Rattle.ed_held.specs.Seen.{known}
use Rattle.ed_held.specs.Respanning.{HasRespanned}
use Rattle.ed_risen.proofs.RisingLemmas.{stays}

-- the buffers that stand lower than this one
abbrev pub below : List (List ℕ) → ℕ → List ℕ
below g b = filter (λ c. nat_lt (height_in g c) (height_in g b)) (places (length g))

-- The way over the new graph: the buffer alone may have other sources than before, and it and those that stand lower are done before the way begins.
abbrev pub carrier_route : List Held → List (List ℕ) → ℕ → Rising → Route
carrier_route hs g b first = record { before = map known hs; height = height_in g; start = b ∷ []; initial = b ∷ below g b; first = first }

-- the buffer has its version with these members, of which those stay that `stays` has the old index of
abbrev pub spans_first : Stock → ℕ → (ℕ → Option ℕ) → List Member → Rising
spans_first s b stays members = with_record (record { stock = s; moves = [] }) b stays (projection_of s members)

-- why the buffer can't stand on these sources: one of them stands on it, or else buffers would be stacked too high
abbrev pub standing_fault : List (List ℕ) → ℕ → List ℕ → Option Refusal
standing_fault g b sources = or_else (option_map Refusal.Cycle (first_cycle g b sources)) (too_deep (linked g b sources))

-- the refusal of a fault
abbrev pub refusal_of : LinkFault → Option Refusal
refusal_of (LinkFault.Cycle via) = Some (Refusal.Cycle via)
refusal_of (LinkFault.Depth height) = Some (Refusal.Depth height)
refusal_of LinkFault.OutOfMemory = None

-- the same of a buffer among those that are held: the others stay
pub record HasReshown (sources : List Snapshot) (hs hs' : List Held) (b : ℕ) (h : Held) (first removed : ℕ) (members : List Member) (result : Result Planned OutOfMemory) : Type 0 where
  pub held : Held
  pub set : hs' ≡ slice_set hs b held
  pub shown : HasRespanned sources h held first removed members result
