-- How many levels are allowed makes no difference, once there are more than the rank.
use Rattle.std.proofs.Common.{◌≡◌, ℕ, zero, suc, ◌+◌, ◌-◌, ◌<◌, Bool, true, false, List, [], ◌∷◌, length, Some, Option, refl, sym, ◌∙◌, arith}
use Rattle.std.specs.Prelude.{nat_eq, min}
use Rattle.ed_base.specs.declared.edit.Span.{Span}
use Rattle.ed_base.specs.declared.piece.Member.{Member}
use Rattle.ed_layers.specs.Records.{Record, members_of}
use Rattle.ed_map.specs.Layers.{EachTracked, AreLayers}
use Rattle.ed_map.specs.Down.{down_members, place_members, down_within, place_within}
use Rattle.ed_map.specs.Up.{up_members, first_members, up_within, first_within}
use Rattle.ed_map.proofs.MemberCells.{each_tracked}
use Rattle.ed_map.proofs.DownImages.{inner_images, images_own, images_other}
use Rattle.ed_map.proofs.UpImages.{inner_ups, ups_own, ups_other}
use Rattle.ed_map.proofs.UnitPlaces.{inner_places, places_own, places_other}
use Rattle.ed_map.proofs.FirstPlaces.{inner_firsts, firsts_own, firsts_other}

same_downs : (f g : ℕ → ℕ → ℕ → List Span) (ms : List Member) (a z : ℕ) → EachTracked (λ source bounds. (x y : ℕ) → f source x y ≡ g source x y) ms → down_members f ms a z ≡ down_members g ms a z
same_downs f g [] a z each = refl
same_downs f g (Member.Literal units ∷ ms) a z each = same_downs f g ms (a - length units) (z - length units) each
same_downs f g (Member.Tracked source bounds mode ∷ ms) a z each = rw (each.0 (bounds.start + a) (bounds.start + min z bounds.len), same_downs f g ms (a - bounds.len) (z - bounds.len) each.1) refl

same_ups : (f g : ℕ → List Span) (ms : List Member) (at : ℕ) → EachTracked (λ source bounds. f source ≡ g source) ms → up_members f ms at ≡ up_members g ms at
same_ups f g [] at each = refl
same_ups f g (Member.Literal units ∷ ms) at each = same_ups f g ms (at + length units) each
same_ups f g (Member.Tracked source bounds mode ∷ ms) at each = rw (each.0, same_ups f g ms (at + bounds.len) each.1) refl

same_places : (f g : ℕ → ℕ → Option ℕ) (ms : List Member) (k : ℕ) → EachTracked (λ source bounds. (x : ℕ) → f source x ≡ g source x) ms → place_members f ms k ≡ place_members g ms k
same_places f g [] k each = refl
same_places f g (Member.Literal units ∷ ms) k each = rw (same_places f g ms (k - length units) each) refl
same_places f g (Member.Tracked source bounds mode ∷ ms) k each = rw (each.0 (bounds.start + k), same_places f g ms (k - bounds.len) each.1) refl

same_firsts : (f g : ℕ → ℕ → ℕ → Option ℕ) (ms : List Member) (a z : ℕ) → EachTracked (λ source bounds. (x y : ℕ) → f source x y ≡ g source x y) ms → first_members f ms a z ≡ first_members g ms a z
same_firsts f g [] a z each = refl
same_firsts f g (Member.Literal units ∷ ms) a z each = rw (same_firsts f g ms (a - length units) (z - length units) each) refl
same_firsts f g (Member.Tracked source bounds mode ∷ ms) a z each = rw (each.0 (bounds.start + a) (bounds.start + min z bounds.len), same_firsts f g ms (a - bounds.len) (z - bounds.len) each.1) refl

module _ (record_at : ℕ → ℕ → Option Record) (rank : ℕ → ℕ → ℕ) (layers : AreLayers record_at rank) where
  pub down_levels : (m n to b v a z : ℕ) (r : Record) → record_at b v ≡ Some r → rank b v < m → rank b v < n → down_within record_at m to b v a z ≡ down_within record_at n to b v a z
  down_levels zero n to b v a z r is low low' = absurd (omega arith)
  down_levels (suc m) zero to b v a z r is low low' = absurd (omega arith)
  down_levels (suc m) (suc n) to b v a z r is low low' =
      by (each_tracked (members_of r) (λ source bounds s. λ x y. rw s.named (down_levels m n to source s.version x y s.inner s.there (omega (arith, s.lower)) (omega (arith, s.lower)))) (layers.fit b v r is)) (nat_eq b to) refl
    where
      by : EachTracked (λ source bounds. (x y : ℕ) → inner_images record_at m to r source x y ≡ inner_images record_at n to r source x y) (members_of r) → (own : Bool) → nat_eq b to ≡ own → down_within record_at (suc m) to b v a z ≡ down_within record_at (suc n) to b v a z
      by each true own = images_own record_at m to b v a z own ∙ sym (images_own record_at n to b v a z own)
      by each false other = images_other record_at m to b v a z r is other ∙ same_downs (inner_images record_at m to r) (inner_images record_at n to r) (members_of r) a z each ∙ sym (images_other record_at n to b v a z r is other)

  pub up_levels : (m n of_ : ℕ) (span : Span) (b v : ℕ) (r : Record) → record_at b v ≡ Some r → rank b v < m → rank b v < n → up_within record_at m of_ span b v ≡ up_within record_at n of_ span b v
  up_levels zero n of_ span b v r is low low' = absurd (omega arith)
  up_levels (suc m) zero of_ span b v r is low low' = absurd (omega arith)
  up_levels (suc m) (suc n) of_ span b v r is low low' =
      by (each_tracked (members_of r) (λ source bounds s. rw s.named (up_levels m n of_ span source s.version s.inner s.there (omega (arith, s.lower)) (omega (arith, s.lower)))) (layers.fit b v r is)) (nat_eq b of_) refl
    where
      by : EachTracked (λ source bounds. inner_ups record_at m of_ span r source ≡ inner_ups record_at n of_ span r source) (members_of r) → (own : Bool) → nat_eq b of_ ≡ own → up_within record_at (suc m) of_ span b v ≡ up_within record_at (suc n) of_ span b v
      by each true own = ups_own record_at m of_ span b v own ∙ sym (ups_own record_at n of_ span b v own)
      by each false other = ups_other record_at m of_ span b v r is other ∙ same_ups (inner_ups record_at m of_ span r) (inner_ups record_at n of_ span r) (members_of r) 0 each ∙ sym (ups_other record_at n of_ span b v r is other)

  pub place_levels : (m n to b v k : ℕ) (r : Record) → record_at b v ≡ Some r → rank b v < m → rank b v < n → place_within record_at m to b v k ≡ place_within record_at n to b v k
  place_levels zero n to b v k r is low low' = absurd (omega arith)
  place_levels (suc m) zero to b v k r is low low' = absurd (omega arith)
  place_levels (suc m) (suc n) to b v k r is low low' =
      by (each_tracked (members_of r) (λ source bounds s. λ x. rw s.named (place_levels m n to source s.version x s.inner s.there (omega (arith, s.lower)) (omega (arith, s.lower)))) (layers.fit b v r is)) (nat_eq b to) refl
    where
      by : EachTracked (λ source bounds. (x : ℕ) → inner_places record_at m to r source x ≡ inner_places record_at n to r source x) (members_of r) → (own : Bool) → nat_eq b to ≡ own → place_within record_at (suc m) to b v k ≡ place_within record_at (suc n) to b v k
      by each true own = places_own record_at m to b v k own ∙ sym (places_own record_at n to b v k own)
      by each false other = places_other record_at m to b v k r is other ∙ same_places (inner_places record_at m to r) (inner_places record_at n to r) (members_of r) k each ∙ sym (places_other record_at n to b v k r is other)

  pub first_levels : (m n of_ q b v a z : ℕ) (r : Record) → record_at b v ≡ Some r → rank b v < m → rank b v < n → first_within record_at m of_ q b v a z ≡ first_within record_at n of_ q b v a z
  first_levels zero n of_ q b v a z r is low low' = absurd (omega arith)
  first_levels (suc m) zero of_ q b v a z r is low low' = absurd (omega arith)
  first_levels (suc m) (suc n) of_ q b v a z r is low low' =
      by (each_tracked (members_of r) (λ source bounds s. λ x y. rw s.named (first_levels m n of_ q source s.version x y s.inner s.there (omega (arith, s.lower)) (omega (arith, s.lower)))) (layers.fit b v r is)) (nat_eq b of_) refl
    where
      by : EachTracked (λ source bounds. (x y : ℕ) → inner_firsts record_at m of_ q r source x y ≡ inner_firsts record_at n of_ q r source x y) (members_of r) → (own : Bool) → nat_eq b of_ ≡ own → first_within record_at (suc m) of_ q b v a z ≡ first_within record_at (suc n) of_ q b v a z
      by each true own = firsts_own record_at m of_ q b v a z own ∙ sym (firsts_own record_at n of_ q b v a z own)
      by each false other = firsts_other record_at m of_ q b v a z r is other ∙ same_firsts (inner_firsts record_at m of_ q r) (inner_firsts record_at n of_ q r) (members_of r) a z each ∙ sym (firsts_other record_at n of_ q b v a z r is other)
