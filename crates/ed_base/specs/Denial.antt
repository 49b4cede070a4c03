-- Read-only regions, and what they deny.
use Rattle.std.specs.Prelude.{ℕ, Bool, true, ◌&&◌, List, [], ◌∷◌, nat_eq, nat_lt, map, find, Option, Some, None, option_map, if◌then◌else◌}
use Rattle.std.specs.Option.{option_map_or}
use Rattle.ed_base.specs.declared.edit.Span.{Span}
use Rattle.ed_base.specs.declared.mode.SpanMode.{SpanMode}
use Rattle.ed_base.specs.declared.mode.EdgeMode.{EdgeMode}
use Rattle.ed_base.specs.declared.edit.Change.{Change}
use Rattle.ed_base.specs.Numbers.{or_else}
use Rattle.ed_base.specs.Spans.{end_of, touches_gap, shares_unit}
use Rattle.ed_base.specs.Step.{Step}
use Rattle.ed_base.specs.Tracking.{tracked_span}
use Rattle.ed_base.specs.Hooks.{HookTable, named, query_denies}

-- a live region: its number within its base, its span now, and how it was made
pub record Region : Type 0 where
  pub number : ℕ
  pub span : Span
  pub mode : SpanMode
  pub edge : EdgeMode
  pub query : Option (List ℕ)

-- whether a region with this span and edge mode forbids putting something in at the gap
abbrev pub forbids_insertion : EdgeMode → Span → ℕ → Bool
forbids_insertion EdgeMode.Allow s p = nat_lt s.start p && nat_lt p (end_of s)
forbids_insertion EdgeMode.Deny s p = touches_gap s p

-- whether the region forbids what is done at a span: an insertion where it is empty, else a deletion
abbrev pub forbids : Region → Span → Bool
forbids r s = if nat_eq s.len 0 then forbids_insertion r.edge r.span s.start else shares_unit r.span s

-- whether its query lets it deny, which it does where there is none
abbrev pub query_lets : HookTable → Option (List ℕ) → ℕ → Bool → Bool
query_lets hooks None version edit = true
query_lets hooks (Some name) version edit = option_map_or (λ rule. query_denies rule version edit) (named name hooks.queries) true

-- the region of lowest number that denies what is done at the span; the regions stand by number
abbrev pub denied_at : HookTable → List Region → ℕ → Bool → Span → Option ℕ
denied_at hooks regions version edit s = option_map (λ r. r.number) (find (λ r. forbids r s && query_lets hooks r.query version edit) regions)

-- the region that denies the first denied change of an edit
abbrev pub first_denied : HookTable → List Region → ℕ → List Change → Option ℕ
first_denied hooks regions version [] = None
first_denied hooks regions version (c ∷ cs) = or_else (denied_at hooks regions version true (record { start = c.start; len = c.old_len })) (first_denied hooks regions version cs)

-- a region after a step of its base, and all of them
abbrev pub region_after : Step → Region → Region
region_after s r = record r { span = tracked_span r.mode r.span s }

abbrev pub regions_after : Step → List Region → List Region
regions_after s regions = map (region_after s) regions
