-- Versions that are there, and what a member shows of a part of its carrier's text.
use Rattle.std.specs.Prelude.{◌≡◌, ℕ, ◌+◌, ◌≤◌, List, min, nat_lt, Option, Some, None, option_map, if◌then◌else◌}
use Rattle.ed_base.specs.declared.piece.Member.{Member}
use Rattle.ed_base.specs.Spans.{span_between}
use Rattle.ed_layers.specs.Records.{Record, version_in}
use Rattle.ed_map.specs.declared.shown.Shown.{Shown}
use Rattle.ed_map.specs.Layers.{record_len}

-- the version is there, and its text reaches to the place
pub record ReachesTo (record_at : ℕ → ℕ → Option Record) (b v p : ℕ) : Type 0 where
  pub is : Record
  pub there : record_at b v ≡ Some is
  pub within : p ≤ record_len is

-- of the part from a to z of its carrier's text, counted from where the member begins
abbrev pub shown : List (ℕ × ℕ) → Member → ℕ → ℕ → Option Shown
shown sources (Member.Literal units) a z = None
shown sources (Member.Tracked source bounds mode) a z = if nat_lt a (min z bounds.len) then option_map (λ w. record { source = source; version = w; part = span_between (bounds.start + a) (bounds.start + min z bounds.len) }) (version_in sources source) else None

-- all of it
abbrev pub tracked : List (ℕ × ℕ) → Member → Option Shown
tracked sources (Member.Literal units) = None
tracked sources (Member.Tracked source bounds mode) = option_map (λ w. record { source = source; version = w; part = bounds }) (version_in sources source)
