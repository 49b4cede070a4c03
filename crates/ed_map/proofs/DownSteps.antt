-- Mapping down, member after member.
use Rattle.std.proofs.Common.{◌≡◌, ℕ, suc, ◌+◌, ◌-◌, ◌<◌, ◌≤◌, ◌⊎◌, true, false, List, [], ◌∷◌, ◌++◌, length, Some, None, Option, inl, inr, refl, sym, ap, ◌∙◌, append_assoc, arith}
use Rattle.std.specs.Prelude.{slice_get, nat_eq, min, option_map}
use Rattle.std.specs.Option.{option_map_or}
use Rattle.std.proofs.lemmas.Bool.{cases_lt, lt-ltb, le-ltb}
use Rattle.std.proofs.lemmas.List.{append-nil}
use Rattle.ed_base.specs.declared.edit.Span.{Span}
use Rattle.ed_base.specs.declared.piece.Member.{Member}
use Rattle.ed_base.specs.Spans.{end_of, span_between}
use Rattle.ed_layers.specs.Records.{Record, members_of, member_len, sources_of, version_in}
use Rattle.ed_map.specs.declared.shown.Shown.{Shown}
use Rattle.ed_map.specs.Layers.{AreLayers}
use Rattle.ed_map.specs.Down.{down_member, down_members, down_within, place_member, place_members, place_within}
use Rattle.ed_map.specs.Shown.{shown}
use Rattle.ed_map.proofs.DownImages.{images_own}
use Rattle.ed_map.proofs.MemberParts.{start_of, start_next, place_at, down_rest, down_skip, down_next, down_end, down_all}
use Rattle.ed_map.proofs.ShownLemmas.{down_step, place_step, whole_part}

module _ (record_at : ℕ → ℕ → Option Record) (to : ℕ) (sources : List (ℕ × ℕ)) where
  -- the images of a part of a source
  abbrev pub source_images : ℕ → ℕ → ℕ → List Span
  source_images source x y = option_map_or (λ w. down_within record_at 9 to source w x y) (version_in sources source) []

  -- of what a member shows
  abbrev pub shown_images : Option Shown → List Span
  shown_images o = option_map_or (λ s. down_within record_at 9 to s.source s.version s.part.start (end_of s.part)) o []

  down_shown : (m : Member) (a z : ℕ) → down_member source_images m a z ≡ shown_images (shown sources m a z)
  down_shown (Member.Literal units) a z = refl
  down_shown (Member.Tracked source bounds mode) a z = by_order (cases_lt a (min z bounds.len))
    where
      by_version : (o : Option ℕ) → a < min z bounds.len → option_map_or (λ w. down_within record_at 9 to source w (bounds.start + a) (bounds.start + min z bounds.len)) o [] ≡ shown_images (elim o [ None ↦ None | Some w ↦ Some (record { source = source; version = w; part = span_between (bounds.start + a) (bounds.start + min z bounds.len) }) ])
      by_version None some = refl
      by_version (Some w) some = let e : bounds.start + min z bounds.len ≡ end_of (span_between (bounds.start + a) (bounds.start + min z bounds.len)) = omega (arith, some) in ap (down_within record_at 9 to source w (bounds.start + a)) e

      by_order : ((a < min z bounds.len) ⊎ (min z bounds.len ≤ a)) → down_member source_images (Member.Tracked source bounds mode) a z ≡ shown_images (shown sources (Member.Tracked source bounds mode) a z)
      by_order (inl some) = rw (lt-ltb a (min z bounds.len) some) (by_version (version_in sources source) some)
      by_order (inr none) = rw (le-ltb a (min z bounds.len) none) refl

  pub down_more : (ms : List Member) (a z i : ℕ) (m : Member) (o : Option Shown) (done more whole : List Span) → slice_get ms i ≡ Some m → o ≡ shown sources m (a - start_of ms i) (z - start_of ms i) → more ≡ done ++ shown_images o →
      done ++ down_rest source_images ms a z i ≡ whole → more ++ down_rest source_images ms a z (i + 1) ≡ whole
  down_more ms a z i m o done more whole at shows is so_far =
      let next : suc i ≡ i + 1 = omega arith in
      let image : shown_images o ≡ down_member source_images m (a - start_of ms i) (z - start_of ms i) = ap shown_images shows ∙ sym (down_shown m (a - start_of ms i) (z - start_of ms i)) in
      ap (λ xs. xs ++ down_rest source_images ms a z (i + 1)) (is ∙ ap (λ xs. done ++ xs) image)
      ∙ ap (λ n. (done ++ down_member source_images m (a - start_of ms i) (z - start_of ms i)) ++ down_rest source_images ms a z n) (sym next)
      ∙ append_assoc done (down_member source_images m (a - start_of ms i) (z - start_of ms i)) (down_rest source_images ms a z (suc i))
      ∙ ap (λ xs. done ++ xs) (sym (down_next source_images ms a z i m at)) ∙ so_far

  pub down_done : (ms : List Member) (a z i : ℕ) (done whole : List Span) → (z ≤ start_of ms i) ⊎ (length ms ≤ i) → done ++ down_rest source_images ms a z i ≡ whole → done ≡ whole
  down_done ms a z i done whole end so_far = sym (append-nil done) ∙ ap (λ xs. done ++ xs) (sym (nothing end)) ∙ so_far
    where
      nothing : ((z ≤ start_of ms i) ⊎ (length ms ≤ i)) → down_rest source_images ms a z i ≡ []
      nothing (inl behind) = down_end source_images ms a z i behind
      nothing (inr all) = down_all source_images ms a z i all

module _ (record_at : ℕ → ℕ → Option Record) (rank : ℕ → ℕ → ℕ) (layers : AreLayers record_at rank) where
  pub down_begins : (to b v a z i : ℕ) (r : Record) (ms : List Member) (sources : List (ℕ × ℕ)) (done : List Span) → record_at b v ≡ Some r → nat_eq b to ≡ false → ms ≡ members_of r → sources ≡ sources_of r → start_of ms i ≤ a →
      done ++ down_rest (source_images record_at to sources) ms a z i ≡ done ++ down_within record_at 9 to b v a z
  down_begins to b v a z i r ms sources done is other members names past =
      ap (λ xs. done ++ xs) (sym (down_skip (source_images record_at to sources) ms a z i past)
      ∙ ap (λ ss. down_members (source_images record_at to ss) ms a z) names ∙ ap (λ xs. down_members (source_images record_at to (sources_of r)) xs a z) members ∙ sym (down_step record_at rank layers to b v a z r is other))

  pub down_none : (to b v a z : ℕ) (r : Record) (done : List Span) → record_at b v ≡ Some r → nat_eq b to ≡ false → members_of r ≡ [] → done ≡ done ++ down_within record_at 9 to b v a z
  down_none to b v a z r done is other none =
      sym (append-nil done) ∙ ap (λ xs. done ++ xs) (sym (down_step record_at rank layers to b v a z r is other ∙ ap (λ ms. down_members (source_images record_at to (sources_of r)) ms a z) none))

pub down_own : (record_at : ℕ → ℕ → Option Record) (to b v : ℕ) (part : Span) (done : List Span) → nat_eq b to ≡ true → done ++ (part ∷ []) ≡ done ++ down_within record_at 9 to b v part.start (end_of part)
down_own record_at to b v part done own = ap (λ xs. done ++ xs) (ap (λ s. s ∷ []) (sym (whole_part part)) ∙ sym (images_own record_at 8 to b v part.start (end_of part) own))

-- ---- one place

module _ (record_at : ℕ → ℕ → Option Record) (to : ℕ) (sources : List (ℕ × ℕ)) where
  abbrev pub source_place : ℕ → ℕ → Option ℕ
  source_place source x = option_map_or (λ w. place_within record_at 9 to source w x) (version_in sources source) None

  abbrev pub shown_place : Option Shown → Option ℕ
  shown_place o = option_map_or (λ s. place_within record_at 9 to s.source s.version s.part.start) o None

  place_shown : (m : Member) (k : ℕ) → k < member_len m → place_member source_place m k ≡ shown_place (shown sources m k (k + 1))
  place_shown (Member.Literal units) k within = refl
  place_shown (Member.Tracked source bounds mode) k within = rw (lt-ltb k (min (k + 1) bounds.len) (omega (arith, within))) (by_version (version_in sources source))
    where
      by_version : (o : Option ℕ) → option_map_or (λ w. place_within record_at 9 to source w (bounds.start + k)) o None ≡ shown_place (option_map (λ w. record { source = source; version = w; part = span_between (bounds.start + k) (bounds.start + min (k + 1) bounds.len) }) o)
      by_version None = refl
      by_version (Some w) = refl

  -- the member that holds the unit has its place
  pub place_by : (ms : List Member) (k i : ℕ) (m : Member) (o : Option Shown) → slice_get ms i ≡ Some m → start_of ms i ≤ k → k < start_of ms (i + 1) → o ≡ shown sources m (k - start_of ms i) (k + 1 - start_of ms i) → place_members source_place ms k ≡ shown_place o
  place_by ms k i m o at low high shows =
      let next : start_of ms (i + 1) ≡ start_of ms (suc i) = (let e : i + 1 ≡ suc i = omega arith in ap (start_of ms) e) in
      let one : k + 1 - start_of ms i ≡ k - start_of ms i + 1 = omega (arith, low) in
      place_at source_place ms k i m at low (omega (arith, high, next))
      ∙ place_shown m (k - start_of ms i) (omega (arith, low, high, next, start_next ms i m at))
      ∙ ap (λ n. shown_place (shown sources m (k - start_of ms i) n)) (sym one) ∙ ap shown_place (sym shows)

module _ (record_at : ℕ → ℕ → Option Record) (rank : ℕ → ℕ → ℕ) (layers : AreLayers record_at rank) where
  pub place_found : (to b v k i : ℕ) (r : Record) (ms : List Member) (sources : List (ℕ × ℕ)) (m : Member) (o : Option Shown) → record_at b v ≡ Some r → nat_eq b to ≡ false → ms ≡ members_of r → sources ≡ sources_of r →
      slice_get ms i ≡ Some m → start_of ms i ≤ k → k < start_of ms (i + 1) → o ≡ shown sources m (k - start_of ms i) (k + 1 - start_of ms i) → shown_place record_at to sources o ≡ place_within record_at 9 to b v k
  place_found to b v k i r ms sources m o is other members names at low high shows =
      sym (place_by record_at to sources ms k i m o at low high shows)
      ∙ ap (λ ss. place_members (source_place record_at to ss) ms k) names ∙ ap (λ xs. place_members (source_place record_at to (sources_of r)) xs k) members ∙ sym (place_step record_at rank layers to b v k r is other)

  pub place_none : (to b v k : ℕ) (r : Record) → record_at b v ≡ Some r → nat_eq b to ≡ false → members_of r ≡ [] → None ≡ place_within record_at 9 to b v k
  place_none to b v k r is other none = sym (place_step record_at rank layers to b v k r is other ∙ ap (λ ms. place_members (source_place record_at to (sources_of r)) ms k) none)
