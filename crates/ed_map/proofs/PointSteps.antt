-- Points by their units.
use Rattle.std.proofs.Common.{◌≡◌, ℕ, ◌≤◌, Bool, Some, None, Option, length, refl, sym, ap, ◌∙◌}
use Rattle.std.specs.Prelude.{option_map, option_and_then}
use Rattle.std.specs.Option.{option_map_or}
use Rattle.ed_base.specs.declared.mode.Affinity.{Affinity}
use Rattle.ed_layers.specs.Records.{Record}
use Rattle.ed_layers.specs.Cells.{cells}
use Rattle.ed_layers.specs.Mapping.{lower_version, lower_len, down_point, up_point, unit_by, beside}
use Rattle.ed_map.specs.Layers.{record_len, AreLayers}
use Rattle.ed_map.specs.Down.{place_within}
use Rattle.ed_map.specs.Up.{first_within}
use Rattle.ed_map.proofs.UnitPlaces.{down_point_is}
use Rattle.ed_map.proofs.FirstPlaces.{up_point_is}
use Rattle.ed_map.proofs.ReachedVersions.{lower_version_is}
use Rattle.ed_map.proofs.LowerSteps.{first_unreached, len_there}

module _ (record_at : ℕ → ℕ → Option Record) (rank : ℕ → ℕ → ℕ) (layers : AreLayers record_at rank) where
  pub down_pointed : (top v p len to : ℕ) (side : Affinity) (r : Record) (unit : Option (ℕ × Bool)) (answer : Option ℕ) → record_at top v ≡ Some r → p ≤ record_len r → len ≡ record_len r → unit ≡ unit_by side len p →
      answer ≡ option_and_then (λ u. option_map (beside u.1) (place_within record_at 9 to top v u.0)) unit → answer ≡ down_point record_at top v p side to
  down_pointed top v p len to side r unit answer is within long by answers =
      answers ∙ ap (option_and_then (λ u. option_map (beside u.1) (place_within record_at 9 to top v u.0))) (by ∙ ap (λ n. unit_by side n p) long) ∙ sym (down_point_is record_at rank layers top v p side to r is within)

  pub up_pointed : (top v p w len of_ : ℕ) (side : Affinity) (r x : Record) (unit : Option (ℕ × Bool)) (answer : Option ℕ) → record_at top v ≡ Some r → Some w ≡ lower_version record_at top v of_ → record_at of_ w ≡ Some x → len ≡ record_len x → unit ≡ unit_by side len p →
      answer ≡ option_and_then (λ u. option_map (beside u.1) (first_within record_at 9 of_ u.0 top v 0 (record_len r))) unit → answer ≡ up_point record_at top v p side of_
  up_pointed top v p w len of_ side r x unit answer is lower there long by answers =
      let n : len ≡ lower_len record_at top v of_ = long ∙ sym (len_there record_at rank layers of_ w x there) ∙ ap (λ o. option_map_or (λ w. length (cells record_at of_ w)) o 0) lower in
      answers ∙ ap (option_and_then (λ u. option_map (beside u.1) (first_within record_at 9 of_ u.0 top v 0 (record_len r)))) (by ∙ ap (λ n. unit_by side n p) n) ∙ sym (up_point_is record_at rank layers top v p side of_ r is)

  -- a buffer that isn't reached has no place
  pub up_unreached : (top v p of_ : ℕ) (side : Affinity) (r : Record) → record_at top v ≡ Some r → None ≡ lower_version record_at top v of_ → None ≡ up_point record_at top v p side of_
  up_unreached top v p of_ side r is none =
      sym (up_point_is record_at rank layers top v p side of_ r is ∙ by_unit (unit_by side (lower_len record_at top v of_) p))
    where
      by_unit : (o : Option (ℕ × Bool)) → option_and_then (λ u. option_map (beside u.1) (first_within record_at 9 of_ u.0 top v 0 (record_len r))) o ≡ None
      by_unit None = refl
      by_unit (Some u) = ap (option_map (beside u.1)) (first_unreached record_at 9 of_ u.0 top v 0 (record_len r) (sym (lower_version_is record_at top v of_) ∙ sym none))
