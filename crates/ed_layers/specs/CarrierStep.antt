-- The step of a carrier, from its record to the next.
use Rattle.std.specs.Prelude.{ℕ, ◌+◌, ◌-◌, Bool, true, ◌&&◌, List, [], length, map, filter, flat_map, nat_eq, nat_lt, nat_le, position, Option, Some, None, option_map, option_and_then, if◌then◌else◌}
use Rattle.std.specs.Option.{option_map_or}
use Rattle.std.specs.List.{enumerate_from, range_with_len}
use Rattle.ed_base.specs.declared.piece.Member.{Member}
use Rattle.ed_base.specs.Numbers.{places}
use Rattle.ed_base.specs.Step.{Step, pairs_from}
use Rattle.ed_layers.specs.Records.{Record, base, projection, elision, is_shown}
use Rattle.ed_layers.specs.SourceStep.{SourceStep, trail_at, trail_above, kept_from}

-- What a unit of a carrier is: the unit at a place of a literal member, or at a place of the source of a tracked one. In an elision buffer the member is not told apart.
pub record Slot : Type 0 where
  pub member : ℕ
  pub source : Option ℕ
  pub place : ℕ

abbrev pub is_same_slot : Slot → Slot → Bool
is_same_slot a b = nat_eq a.member b.member && nat_eq a.place b.place

abbrev slots_at : ℕ → Option ℕ → List ℕ → List Slot
slots_at i source ps = map (λ p. slot p) ps
  where
    slot : ℕ → Slot
    slot p = record { member = i; source = source; place = p }

abbrev pub member_slots : ℕ × Member → List Slot
member_slots (i, Member.Literal units) = slots_at i None (places (length units))
member_slots (i, Member.Tracked source bounds mode) = slots_at i (Some source) (range_with_len bounds.start bounds.len)

-- the units of a record, in order
abbrev pub slots : Record → List Slot
slots (base text reiterated) = []
slots (projection members sources) = flat_map member_slots (enumerate_from 0 members)
slots (elision flags source version) = slots_at 0 (Some source) (filter (is_shown flags) (places (length flags)))

-- The slot before of a slot after. `stays` has the old index of a member that stays; a source that didn't step keeps each place.
module _ (stays : ℕ → Option ℕ) (steps : ℕ → Option SourceStep) where
  abbrev place_before : Option ℕ → ℕ → Option ℕ
  place_before None p = Some p
  place_before (Some source) p = option_map_or (λ s. kept_from s.step p) (steps source) (Some p)

  abbrev moved : Slot → ℕ → ℕ → Slot
  moved slot i p = record slot { member = i; place = p }

  abbrev pub slot_before : Slot → Option Slot
  slot_before slot = option_and_then (λ i. option_map (moved slot i) (place_before slot.source slot.place)) (stays slot.member)

  -- the units of the new record by the places that they had: the kept units are those that are in both
  abbrev pub origins : List Slot → List Slot → List (Option ℕ)
  origins old new = map (λ slot. option_and_then (λ before. position (is_same_slot before) old) (slot_before slot)) new

  unfoldable pub carrier_step : Record → Record → Step
  carrier_step old new = record { old_len = length (slots old); new_len = length (slots new); kept = pairs_from 0 (origins (slots old) (slots new)) }

-- every member stays, and the members from `first` on but for `count` of them, in whose place `added` stand
abbrev pub all_stay : ℕ → Option ℕ
all_stay i = Some i

abbrev pub stay_around : ℕ → ℕ → ℕ → ℕ → Option ℕ
stay_around first count added i = if nat_lt i first then Some i else (if nat_le (first + added) i then Some (i - added + count) else None)

-- the trail of a unit of the new record
abbrev pub slot_trail : ℕ → Bool → (ℕ → Option SourceStep) → Slot → List (ℕ × ℕ)
slot_trail carrier of_elision steps slot = option_map_or (λ s. trail_above carrier (λ i. if of_elision then true else nat_eq i slot.member) (trail_at s slot.place)) (option_and_then steps slot.source) []

abbrev pub record_trails : ℕ → Bool → (ℕ → Option SourceStep) → Record → List (List (ℕ × ℕ))
record_trails carrier of_elision steps r = map (slot_trail carrier of_elision steps) (slots r)
