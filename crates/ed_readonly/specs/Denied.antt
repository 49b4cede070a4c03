-- Which change of a list a region forbids first.
use Rattle.std.specs.Prelude.{ℕ, suc, ◌+◌, Bool, true, false, List, [], ◌∷◌, map, nat_lt, slice_get, Option, Some, None, option_map, if◌then◌else◌}
use Rattle.std.specs.Option.{option_map_or}
use Rattle.ed_base.specs.declared.edit.Change.{Change}
use Rattle.ed_base.specs.declared.edit.Span.{Span}
use Rattle.ed_base.specs.Denial.{Region, forbids, query_lets}
use Rattle.ed_base.specs.Hooks.{HookTable}
use Rattle.ed_readonly.specs.declared.regions.Denial.{Denial}

-- what a change takes away
abbrev pub taken_span : Change → Span
taken_span c = record { start = c.start; len = c.old_len }

-- where changes end in the old text
abbrev pub ends : List Change → List ℕ
ends changes = map (λ c. c.start + c.old_len) changes

-- whether the region forbids the change with this index
abbrev pub forbids_at : Region → List Change → ℕ → Bool
forbids_at r changes i = option_map_or (λ c. forbids r (taken_span c)) (slice_get changes i) false

-- the index of the first change that the region forbids
abbrev pub first_forbidden : Region → List Change → Option ℕ
first_forbidden r [] = None
first_forbidden r (c ∷ cs) = if forbids r (taken_span c) then Some 0 else option_map suc (first_forbidden r cs)

-- the region's denial of the change with an index
abbrev pub denial : Region → ℕ → Denial
denial r i = record { index = i; region = r.number }

-- the first of two, and of those of one change the one that was found before
abbrev pub earlier : Option Denial → Option Denial → Option Denial
earlier None b = b
earlier (Some a) None = Some a
earlier (Some a) (Some b) = if nat_lt b.index a.index then Some b else Some a

-- the first change that the region denies
abbrev pub denial_by : HookTable → ℕ → List Change → Region → Option Denial
denial_by hooks version changes r = if query_lets hooks r.query version true then option_map (denial r) (first_forbidden r changes) else None

-- the first change that one of the regions denies
abbrev pub first_denial : HookTable → ℕ → List Change → List Region → Option Denial
first_denial hooks version changes [] = None
first_denial hooks version changes (r ∷ rs) = earlier (denial_by hooks version changes r) (first_denial hooks version changes rs)
