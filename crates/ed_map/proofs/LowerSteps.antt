-- Versions that are reached, source after source.
use Rattle.std.proofs.Common.{◌≡◌, ℕ, zero, suc, ◌+◌, ◌-◌, ◌<◌, ◌≤◌, ◌^◌, Bool, true, false, List, [], ◌∷◌, length, map, Some, None, Option, inl, inr, refl, sym, ap, subst, ◌∙◌, arith}
use Rattle.std.specs.Prelude.{All, slice_index_or, nat_eq, min, if◌then◌else◌}
use Rattle.std.specs.Option.{option_map_or}
use Rattle.std.proofs.lemmas.Bool.{cases_lt, lt-ltb, le-ltb, eqb-true}
use Rattle.std.proofs.lemmas.List.Elements.{All-head, All-tail}
use Rattle.ed_base.specs.declared.piece.Member.{Member}
use Rattle.ed_base.specs.Numbers.{or_else, first_some}
use Rattle.ed_layers.specs.Records.{Record, members_of, member_len, sources_of, version_in}
use Rattle.ed_layers.specs.Cells.{cells}
use Rattle.ed_layers.specs.Mapping.{lower_version, lower_len}
use Rattle.ed_map.specs.Layers.{record_len, IsLower, AreLayers}
use Rattle.ed_map.specs.Reached.{reached_within}
use Rattle.ed_map.specs.Up.{first_member, first_members, first_within}
use Rattle.ed_map.proofs.MemberCells.{cells_len}
use Rattle.ed_map.proofs.FirstPlaces.{inner_firsts}
use Rattle.ed_map.proofs.ReachedVersions.{lower_version_is}

abbrev pub AllNone : (ℕ × ℕ → Option ℕ) → List (ℕ × ℕ) → Type 0
AllNone f xs = first_some (map f xs) ≡ None

same_some : (P : ℕ × ℕ → Type 0) (f g : ℕ × ℕ → Option ℕ) → ((s : ℕ × ℕ) → P s → f s ≡ g s) → (xs : List (ℕ × ℕ)) → All P xs → first_some (map f xs) ≡ first_some (map g xs)
same_some P f g same [] each = refl
same_some P f g same (x ∷ xs) each = ap (λ o. or_else o (first_some (map f xs))) (same x (All-head P x xs each)) ∙ ap (or_else (g x)) (same_some P f g same xs (All-tail P x xs each))

-- where one is found
record Found (P : ℕ × ℕ → Type 0) (f : ℕ × ℕ → Option ℕ) (w : ℕ) : Type 0 where
  by : ℕ × ℕ
  holds : P by
  finds : f by ≡ Some w

found_some : (P : ℕ × ℕ → Type 0) (f : ℕ × ℕ → Option ℕ) (w : ℕ) (xs : List (ℕ × ℕ)) → All P xs → first_some (map f xs) ≡ Some w → Found P f w
found_some P f w [] each found = absurd (cc)
found_some P f w (x ∷ xs) each found = by_first (found_some P f w xs (All-tail P x xs each)) (f x) refl found
  where
    by_first : (first_some (map f xs) ≡ Some w → Found P f w) → (o : Option ℕ) → f x ≡ o → or_else o (first_some (map f xs)) ≡ Some w → Found P f w
    by_first rest None was found = rest found
    by_first rest (Some y) was found = record { by = x; holds = All-head P x xs each; finds = was ∙ found }

none_at : (f : ℕ × ℕ → Option ℕ) (source w : ℕ) (xs : List (ℕ × ℕ)) → AllNone f xs → version_in xs source ≡ Some w → f (source, w) ≡ None
none_at f source w [] none named = absurd (cc)
none_at f source w (x ∷ xs) none named = by_first (none_at f source w xs) (f x) refl none (nat_eq x.0 source) refl named
  where
    by_first : (AllNone f xs → version_in xs source ≡ Some w → f (source, w) ≡ None) → (o : Option ℕ) → f x ≡ o → or_else o (first_some (map f xs)) ≡ None → (own : Bool) → nat_eq x.0 source ≡ own → (if own then Some x.1 else version_in xs source) ≡ Some w → f (source, w) ≡ None
    by_first rest (Some y) was none own is named = absurd (cc)
    by_first rest None was none false other named = rest none named
    by_first rest None was none true own named =
        let s : x.0 ≡ source = eqb-true x.0 source own in
        let v : x.1 ≡ w = cc in
        ap (λ n. f (n, w)) (sym s) ∙ ap (λ n. f (x.0, n)) (sym v) ∙ was

module _ (record_at : ℕ → ℕ → Option Record) where
  reached_other : (levels of_ b v : ℕ) (r : Record) → record_at b v ≡ Some r → nat_eq b of_ ≡ false → reached_within record_at (suc levels) of_ (b, v) ≡ first_some (map (reached_within record_at levels of_) (sources_of r))
  unfolding reached_within
  reached_other levels of_ b v r is other = rw (other, is) refl

  reached_own : (levels of_ b v : ℕ) → nat_eq b of_ ≡ true → reached_within record_at (suc levels) of_ (b, v) ≡ Some v
  unfolding reached_within
  reached_own levels of_ b v own = rw own refl

  -- what isn't reached isn't shown

  firsts_none : (inner : ℕ → ℕ → ℕ → Option ℕ) → ((source x y : ℕ) → inner source x y ≡ None) → (ms : List Member) (a z : ℕ) → first_members inner ms a z ≡ None
  firsts_none inner none [] a z = refl
  firsts_none inner none (m ∷ ms) a z = rw (of_member m, firsts_none inner none ms (a - member_len m) (z - member_len m)) refl
    where
      of_member : (m : Member) → first_member inner m a z ≡ None
      of_member (Member.Literal units) = refl
      of_member (Member.Tracked source bounds mode) = elim (cases_lt a (min z bounds.len)) [
        | inl some ↦ rw (lt-ltb a (min z bounds.len) some) (none source (bounds.start + a) (bounds.start + min z bounds.len))
        | inr empty ↦ rw (le-ltb a (min z bounds.len) empty) refl
      ]

  pub first_unreached : (levels of_ q b v a z : ℕ) → reached_within record_at levels of_ (b, v) ≡ None → first_within record_at levels of_ q b v a z ≡ None
  unfolding first_within reached_within
  first_unreached zero of_ q b v a z none = refl
  first_unreached (suc levels) of_ q b v a z none = by_own (λ source w x y. first_unreached levels of_ q source w x y) (nat_eq b of_) refl none
    where
      Below : Type 0
      Below = (source w x y : ℕ) → reached_within record_at levels of_ (source, w) ≡ None → first_within record_at levels of_ q source w x y ≡ None

      by_version : Below → (r : Record) → AllNone (reached_within record_at levels of_) (sources_of r) → (source x y : ℕ) (o : Option ℕ) → version_in (sources_of r) source ≡ o → option_map_or (λ w. first_within record_at levels of_ q source w x y) o None ≡ None
      by_version below r none source x y None named = refl
      by_version below r none source x y (Some w) named = below source w x y (none_at (reached_within record_at levels of_) source w (sources_of r) none named)

      by_record : Below → (o : Option Record) → option_map_or (λ r. first_some (map (reached_within record_at levels of_) (sources_of r))) o None ≡ None → option_map_or (λ r. first_members (inner_firsts record_at levels of_ q r) (members_of r) a z) o None ≡ None
      by_record below None none = refl
      by_record below (Some r) none = firsts_none (inner_firsts record_at levels of_ q r) (λ source x y. by_version below r none source x y (version_in (sources_of r) source) refl) (members_of r) a z

      by_own : Below → (own : Bool) → nat_eq b of_ ≡ own → (if own then Some v else option_map_or (λ r. first_some (map (reached_within record_at levels of_) (sources_of r))) (record_at b v) None) ≡ None → first_within record_at (suc levels) of_ q b v a z ≡ None
      by_own below true own none = absurd (cc)
      by_own below false other none = rw other (by_record below (record_at b v) none)

module _ (record_at : ℕ → ℕ → Option Record) (rank : ℕ → ℕ → ℕ) (layers : AreLayers record_at rank) where
  reached_levels : (m n of_ b v : ℕ) (r : Record) → record_at b v ≡ Some r → rank b v < m → rank b v < n → reached_within record_at m of_ (b, v) ≡ reached_within record_at n of_ (b, v)
  reached_levels zero n of_ b v r is low low' = absurd (omega arith)
  reached_levels (suc m) zero of_ b v r is low low' = absurd (omega arith)
  reached_levels (suc m) (suc n) of_ b v r is low low' = by (λ s l. reached_levels m n of_ s.0 s.1 l.inner l.there (omega (arith, l.lower)) (omega (arith, l.lower))) (nat_eq b of_) refl
    where
      by : ((s : ℕ × ℕ) → IsLower record_at rank (rank b v) s → reached_within record_at m of_ s ≡ reached_within record_at n of_ s) → (own : Bool) → nat_eq b of_ ≡ own → reached_within record_at (suc m) of_ (b, v) ≡ reached_within record_at (suc n) of_ (b, v)
      by below true own = reached_own record_at m of_ b v own ∙ sym (reached_own record_at n of_ b v own)
      by below false other =
          reached_other record_at m of_ b v r is other
          ∙ same_some (IsLower record_at rank (rank b v)) (reached_within record_at m of_) (reached_within record_at n of_) below (sources_of r) (layers.named b v r is)
          ∙ sym (reached_other record_at n of_ b v r is other)

  -- the first that a source reaches
  abbrev pub lower_of : ℕ → ℕ × ℕ → Option ℕ
  lower_of of_ s = lower_version record_at s.0 s.1 of_

  pub lower_begins : (of_ b v : ℕ) (r : Record) (sources : List (ℕ × ℕ)) → record_at b v ≡ Some r → nat_eq b of_ ≡ false → sources ≡ sources_of r → first_some (map (lower_of of_) sources) ≡ lower_version record_at b v of_
  lower_begins of_ b v r sources is other names =
      ap (λ xs. first_some (map (lower_of of_) xs)) names
      ∙ same_some (IsLower record_at rank (rank b v)) (lower_of of_) (reached_within record_at 9 of_) (λ s l. lower_version_is record_at s.0 s.1 of_) (sources_of r) (layers.named b v r is)
      ∙ sym (reached_other record_at 9 of_ b v r is other)
      ∙ reached_levels 10 9 of_ b v r is (omega (arith, layers.low b v r is)) (omega (arith, layers.low b v r is))
      ∙ sym (lower_version_is record_at b v of_)

  -- a version that is reached is there
  reached_there : (levels of_ b v w : ℕ) (r : Record) → record_at b v ≡ Some r → reached_within record_at levels of_ (b, v) ≡ Some w → (x : Record) × (record_at of_ w ≡ Some x)
  unfolding reached_within
  reached_there zero of_ b v w r is found = absurd (cc)
  reached_there (suc levels) of_ b v w r is found = by (λ s l. reached_there levels of_ s.0 s.1 w l.inner l.there) (nat_eq b of_) refl
    where
      by : ((s : ℕ × ℕ) → IsLower record_at rank (rank b v) s → reached_within record_at levels of_ s ≡ Some w → (x : Record) × (record_at of_ w ≡ Some x)) → (own : Bool) → nat_eq b of_ ≡ own → (x : Record) × (record_at of_ w ≡ Some x)
      by below true own =
          let e : Some v ≡ Some w = sym (reached_own record_at levels of_ b v own) ∙ found in
          let same : v ≡ w = cc in
          (r, ap (λ n. record_at n w) (sym (eqb-true b of_ own)) ∙ ap (record_at b) (sym same) ∙ is)
      by below false other =
          let f : Found (IsLower record_at rank (rank b v)) (reached_within record_at levels of_) w = found_some (IsLower record_at rank (rank b v)) (reached_within record_at levels of_) w (sources_of r) (layers.named b v r is) (sym (reached_other record_at levels of_ b v r is other) ∙ found) in
          below f.by f.holds f.finds

  pub lower_there : (of_ b v w : ℕ) (r : Record) → record_at b v ≡ Some r → lower_version record_at b v of_ ≡ Some w → (x : Record) × (record_at of_ w ≡ Some x)
  lower_there of_ b v w r is found = reached_there 9 of_ b v w r is (sym (lower_version_is record_at b v of_) ∙ found)

  pub len_there : (of_ w : ℕ) (x : Record) → record_at of_ w ≡ Some x → length (cells record_at of_ w) ≡ record_len x
  len_there of_ w x there = cells_len record_at rank layers 9 of_ w x there (omega (arith, layers.low of_ w x there))

  pub lower_short : (of_ b v : ℕ) (r : Record) → record_at b v ≡ Some r → lower_len record_at b v of_ ≤ 2 ^ 22
  lower_short of_ b v r is = by (lower_version record_at b v of_) refl
    where
      by : (o : Option ℕ) → lower_version record_at b v of_ ≡ o → option_map_or (λ w. length (cells record_at of_ w)) o 0 ≤ 2 ^ 22
      by None was = omega arith
      by (Some w) was =
          let t : (x : Record) × (record_at of_ w ≡ Some x) = lower_there of_ b v w r is was in
          omega (arith, len_there of_ w t.0 t.1, layers.short of_ w t.0 t.1)

pub lower_none : (record_at : ℕ → ℕ → Option Record) (rank : ℕ → ℕ → ℕ) → AreLayers record_at rank → (of_ b v : ℕ) (r : Record) → record_at b v ≡ Some r → nat_eq b of_ ≡ false → sources_of r ≡ [] → None ≡ lower_version record_at b v of_
lower_none record_at rank layers of_ b v r is other none = lower_begins record_at rank layers of_ b v r [] is other (sym none)

-- what a named version has
pub named_at : (record_at : ℕ → ℕ → Option Record) (rank : ℕ → ℕ → ℕ) → AreLayers record_at rank → (b v i : ℕ) (r : Record) (sources : List (ℕ × ℕ)) (s : ℕ × ℕ) → record_at b v ≡ Some r → sources ≡ sources_of r → i < length sources → s ≡ slice_index_or sources i s → IsLower record_at rank (rank b v) s
named_at record_at rank layers b v i r sources s is names below at =
    let P : List (ℕ × ℕ) → Type 0 = λ xs. All (IsLower record_at rank (rank b v)) xs in
    let all : P sources = subst P (sym names) (layers.named b v r is) in
    let Q : ℕ × ℕ → Type 0 = IsLower record_at rank (rank b v) in
    subst Q (sym at) (all i s below)

pub lower_same : (record_at : ℕ → ℕ → Option Record) (of_ b v : ℕ) → nat_eq b of_ ≡ true → Some v ≡ lower_version record_at b v of_
lower_same record_at of_ b v own = sym (reached_own record_at 8 of_ b v own) ∙ sym (lower_version_is record_at b v of_)
