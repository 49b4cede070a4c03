-- The first place of a unit, member after member.
use Rattle.std.proofs.Common.{◌≡◌, ℕ, suc, ◌+◌, ◌-◌, ◌<◌, ◌≤◌, ◌⊎◌, true, false, ◌&&◌, List, [], length, Some, None, Option, inl, inr, refl, sym, ap, ◌∙◌, arith}
use Rattle.std.specs.Prelude.{slice_get, nat_eq, nat_le, nat_lt, min, option_map, if◌then◌else◌}
use Rattle.std.specs.Option.{option_map_or}
use Rattle.std.proofs.lemmas.Bool.{cases_lt, lt-ltb, le-ltb}
use Rattle.ed_base.specs.declared.piece.Member.{Member}
use Rattle.ed_base.specs.Spans.{end_of, span_between}
use Rattle.ed_layers.specs.Records.{Record, members_of, sources_of, version_in}
use Rattle.ed_map.specs.declared.shown.Shown.{Shown}
use Rattle.ed_map.specs.Layers.{AreLayers}
use Rattle.ed_map.specs.Up.{first_member, first_members, first_within}
use Rattle.ed_map.specs.Shown.{shown}
use Rattle.ed_map.proofs.FirstPlaces.{firsts_own}
use Rattle.ed_map.proofs.MemberParts.{start_of, first_from, first_skip, first_found, first_next, first_end, first_all}
use Rattle.ed_map.proofs.ShownLemmas.{first_step}

module _ (record_at : ℕ → ℕ → Option Record) (of_ q : ℕ) (sources : List (ℕ × ℕ)) where
  abbrev pub source_first : ℕ → ℕ → ℕ → Option ℕ
  source_first source x y = option_map_or (λ w. first_within record_at 9 of_ q source w x y) (version_in sources source) None

  -- in what a member shows
  abbrev pub shown_first : Option Shown → Option ℕ
  shown_first o = option_map_or (λ s. first_within record_at 9 of_ q s.source s.version s.part.start (end_of s.part)) o None

  first_shown : (m : Member) (a z : ℕ) → first_member source_first m a z ≡ shown_first (shown sources m a z)
  first_shown (Member.Literal units) a z = refl
  first_shown (Member.Tracked source bounds mode) a z = by_order (cases_lt a (min z bounds.len))
    where
      by_version : (o : Option ℕ) → a < min z bounds.len → option_map_or (λ w. first_within record_at 9 of_ q source w (bounds.start + a) (bounds.start + min z bounds.len)) o None ≡ shown_first (option_map (λ w. record { source = source; version = w; part = span_between (bounds.start + a) (bounds.start + min z bounds.len) }) o)
      by_version None some = refl
      by_version (Some w) some = let e : bounds.start + min z bounds.len ≡ end_of (span_between (bounds.start + a) (bounds.start + min z bounds.len)) = omega (arith, some) in ap (first_within record_at 9 of_ q source w (bounds.start + a)) e

      by_order : ((a < min z bounds.len) ⊎ (min z bounds.len ≤ a)) → first_member source_first (Member.Tracked source bounds mode) a z ≡ shown_first (shown sources (Member.Tracked source bounds mode) a z)
      by_order (inl some) = rw (lt-ltb a (min z bounds.len) some) (by_version (version_in sources source) some)
      by_order (inr none) = rw (le-ltb a (min z bounds.len) none) refl

  -- a member that hasn't the unit is passed
  pub first_more : (ms : List Member) (a z i : ℕ) (m : Member) (o : Option Shown) (whole : Option ℕ) → slice_get ms i ≡ Some m → start_of ms i < z → o ≡ shown sources m (a - start_of ms i) (z - start_of ms i) → shown_first o ≡ None →
      first_from source_first ms a z i ≡ whole → first_from source_first ms a z (i + 1) ≡ whole
  first_more ms a z i m o whole at within shows none so_far =
      let next : suc i ≡ i + 1 = omega arith in
      ap (first_from source_first ms a z) (sym next) ∙ sym (first_next source_first ms a z i m at within (first_shown m (a - start_of ms i) (z - start_of ms i) ∙ ap shown_first (sym shows) ∙ none)) ∙ so_far

  pub first_got : (ms : List Member) (a z i k : ℕ) (m : Member) (o : Option Shown) (whole : Option ℕ) → slice_get ms i ≡ Some m → start_of ms i < z → o ≡ shown sources m (a - start_of ms i) (z - start_of ms i) → shown_first o ≡ Some k →
      first_from source_first ms a z i ≡ whole → Some (start_of ms i - a + k) ≡ whole
  first_got ms a z i k m o whole at within shows found so_far =
      sym (first_found source_first ms a z i k m at within (first_shown m (a - start_of ms i) (z - start_of ms i) ∙ ap shown_first (sym shows) ∙ found)) ∙ so_far

  pub first_done : (ms : List Member) (a z i : ℕ) (whole : Option ℕ) → (z ≤ start_of ms i) ⊎ (length ms ≤ i) → first_from source_first ms a z i ≡ whole → None ≡ whole
  first_done ms a z i whole (inl behind) so_far = sym (first_end source_first ms a z i behind) ∙ so_far
  first_done ms a z i whole (inr all) so_far = sym (first_all source_first ms a z i all) ∙ so_far

module _ (record_at : ℕ → ℕ → Option Record) (rank : ℕ → ℕ → ℕ) (layers : AreLayers record_at rank) where
  pub first_begins : (of_ q b v a z i : ℕ) (r : Record) (ms : List Member) (sources : List (ℕ × ℕ)) → record_at b v ≡ Some r → nat_eq b of_ ≡ false → ms ≡ members_of r → sources ≡ sources_of r → start_of ms i ≤ a →
      first_from (source_first record_at of_ q sources) ms a z i ≡ first_within record_at 9 of_ q b v a z
  first_begins of_ q b v a z i r ms sources is other members names past =
      sym (first_skip (source_first record_at of_ q sources) ms a z i past)
      ∙ ap (λ ss. first_members (source_first record_at of_ q ss) ms a z) names ∙ ap (λ xs. first_members (source_first record_at of_ q (sources_of r)) xs a z) members ∙ sym (first_step record_at rank layers of_ q b v a z r is other)

  pub first_none : (of_ q b v a z : ℕ) (r : Record) → record_at b v ≡ Some r → nat_eq b of_ ≡ false → members_of r ≡ [] → None ≡ first_within record_at 9 of_ q b v a z
  first_none of_ q b v a z r is other none = sym (first_step record_at rank layers of_ q b v a z r is other ∙ ap (λ ms. first_members (source_first record_at of_ q (sources_of r)) ms a z) none)

pub first_own : (record_at : ℕ → ℕ → Option Record) (of_ q b v a z : ℕ) → nat_eq b of_ ≡ true → (if nat_le a q && nat_lt q z then Some (q - a) else None) ≡ first_within record_at 9 of_ q b v a z
first_own record_at of_ q b v a z own = sym (firsts_own record_at 8 of_ q b v a z own)
