-- The version of a lower buffer that a version reaches.
use Rattle.std.specs.Prelude.{ℕ, zero, suc, map, nat_eq, Option, Some, None, if◌then◌else◌}
use Rattle.std.specs.Option.{option_map_or}
use Rattle.ed_base.specs.Numbers.{first_some}
use Rattle.ed_layers.specs.Records.{Record, sources_of}

module _ (record_at : ℕ → ℕ → Option Record) where
  -- the first that is found along the sources
  unfoldable pub reached_within : ℕ → ℕ → ℕ × ℕ → Option ℕ
  reached_within zero of_ v = None
  reached_within (suc levels) of_ v = if nat_eq v.0 of_ then Some v.1 else option_map_or (λ r. first_some (map (reached_within levels of_) (sources_of r))) (record_at v.0 v.1) None
