-- Where the next member begins that holds something.
use Rattle.std.specs.Prelude.{ℕ, List, [], ◌∷◌, nat_eq, slice_get, slice_index_or, Option, Some, None, option_map, if◌then◌else◌}
use Rattle.ed_base.specs.declared.piece.Member.{Member}
use Rattle.ed_base.specs.Numbers.{or_else}
use Rattle.ed_members.specs.Sorted.{source_key}
use Rattle.ed_members.specs.declared.held.Held.{Held}
use Rattle.ed_members.specs.declared.nexts.Carried.{Carried}

abbrev pub key_if : Option Member → ℕ
key_if None = 0
key_if (Some m) = source_key m

-- the source of the member with this index
abbrev pub source_at : List Member → ℕ → ℕ
source_at members i = key_if (slice_get members i)

-- the start of what the member with this index holds
abbrev pub start_at : List (Option Held) → ℕ → Option ℕ
start_at held i = option_map (λ r. r.start) (slice_index_or held i None)

-- the start of the first among these indices that is on the source and holds something
abbrev pub next_in : List Member → List (Option Held) → ℕ → List ℕ → Option ℕ
next_in members held source [] = None
next_in members held source (i ∷ is) = or_else (if nat_eq (source_at members i) source then start_at held i else None) (next_in members held source is)

abbrev pub start_on : Carried → ℕ → Option ℕ
start_on carried source = if nat_eq carried.source source then carried.start else None
