-- Mapping down by members.
use Rattle.std.proofs.Common.{◌≡◌, ℕ, zero, suc, ◌+◌, ◌-◌, ◌<◌, ◌≤◌, ◌⊎◌, Bool, true, false, ◌||◌, List, [], ◌∷◌, length, map, Some, Option, inl, inr, refl, sym, ap, ◌∙◌, arith}
use Rattle.std.specs.Prelude.{slice_range, nat_eq, nat_lt, flat_map, min, if◌then◌else◌}
use Rattle.std.specs.Option.{option_map_or}
use Rattle.std.specs.List.{enumerate_from, range_with_len, list_any}
use Rattle.std.proofs.lemmas.List.{length-map}
use Rattle.std.proofs.lemmas.List.Folds.{list_any-append}
use Rattle.std.proofs.lemmas.Bool.{cases_lt, lt-ltb, le-ltb, eqb-true, eq-eqb}
use Rattle.ed_base.specs.declared.edit.Span.{Span}
use Rattle.ed_base.specs.declared.piece.Member.{Member}
use Rattle.ed_base.specs.Spans.{end_of, span_between, holds_place}
use Rattle.ed_layers.specs.Records.{Record, base, projection, elision, members_of, sources_of, version_in}
use Rattle.ed_layers.specs.Cells.{Cell, in_place, plain_cell, through_member, member_cells, cells_within}
use Rattle.ed_layers.specs.Mapping.{has_place}
use Rattle.ed_map.specs.Layers.{record_len, EachTracked, AreLayers}
use Rattle.ed_map.specs.Down.{down_member, down_members, down_within}
use Rattle.ed_spans.specs.SpanSets.{in_spans}
use Rattle.ed_spans.proofs.SliceLemmas.{length_range, range_append, range_of_none, range_map, range_range, range_none}
use Rattle.ed_spans.proofs.PlaceLemmas.{any_range, any_part}
use Rattle.ed_map.proofs.MemberCells.{raw_cells, served, cells_step, has_own, has_other, each_tracked, raw_len, cells_len}

-- A literal's cells have no place below.
pub literal_none : (to : ℕ) (test : ℕ → Bool) (units : List ℕ) (a z : ℕ) → list_any (has_place to test) (slice_range (map plain_cell units) a z) ≡ false
literal_none to test units a z =
    ap (λ u. list_any (has_place to test) u) (range_map plain_cell units a z) ∙ mapped (slice_range units a z)
  where
    mapped : (us : List ℕ) → list_any (has_place to test) (map plain_cell us) ≡ false
    mapped [] = refl
    mapped (u ∷ us) = mapped us

any_through : (to carrier i : ℕ) (test : ℕ → Bool) (cs : List Cell) → list_any (has_place to test) (map (through_member carrier i) cs) ≡ list_any (has_place to test) cs
any_through to carrier i test [] = refl
any_through to carrier i test (c ∷ cs) = ap (λ b. has_place to test c || b) (any_through to carrier i test cs)

-- what a source's parts are mapped to
abbrev pub MapsDown : (ℕ → List Cell) → (ℕ → ℕ → ℕ → List Span) → ℕ → ℕ → ℕ → Span → Type 0
MapsDown src inner to q source bounds = (end_of bounds ≤ length (src source)) × ((x y : ℕ) → y ≤ length (src source) → list_any (has_place to (nat_eq q)) (slice_range (src source) x y) ≡ in_spans (inner source x y) q)

tracked_part : (src : ℕ → List Cell) (inner : ℕ → ℕ → ℕ → List Span) (to q carrier i source : ℕ) (bounds : Span) (a z : ℕ) → MapsDown src inner to q source bounds →
    list_any (has_place to (nat_eq q)) (slice_range (map (through_member carrier i) (slice_range (src source) bounds.start (end_of bounds))) a z) ≡ in_spans (if nat_lt a (min z bounds.len) then inner source (bounds.start + a) (bounds.start + min z bounds.len) else []) q
tracked_part src inner to q carrier i source bounds a z maps =
    ap (λ u. list_any (has_place to (nat_eq q)) u) (range_map (through_member carrier i) (slice_range (src source) bounds.start (end_of bounds)) a z)
    ∙ any_through to carrier i (nat_eq q) (slice_range (slice_range (src source) bounds.start (end_of bounds)) a z)
    ∙ ap (λ u. list_any (has_place to (nat_eq q)) u) (range_range (src source) bounds.start bounds.len a z)
    ∙ either (cases_lt a (min z bounds.len))
  where
    either : ((a < min z bounds.len) ⊎ (min z bounds.len ≤ a)) → list_any (has_place to (nat_eq q)) (slice_range (src source) (bounds.start + a) (bounds.start + min z bounds.len)) ≡ in_spans (if nat_lt a (min z bounds.len) then inner source (bounds.start + a) (bounds.start + min z bounds.len) else []) q
    either (inl some) = rw (lt-ltb a (min z bounds.len) some) (maps.1 (bounds.start + a) (bounds.start + min z bounds.len) (omega (arith, maps.0)))
    either (inr none) = rw (le-ltb a (min z bounds.len) none, range_none (src source) (bounds.start + a) (bounds.start + min z bounds.len) (omega arith)) refl

-- The part of the members' text from a to z.
pub members_down : (src : ℕ → List Cell) (inner : ℕ → ℕ → ℕ → List Span) (to q carrier i : ℕ) (ms : List Member) (a z : ℕ) → EachTracked (MapsDown src inner to q) ms →
    list_any (has_place to (nat_eq q)) (slice_range (flat_map (member_cells src carrier) (enumerate_from i ms)) a z) ≡ in_spans (down_members inner ms a z) q
members_down src inner to q carrier i [] a z each = ap (λ u. list_any (has_place to (nat_eq q)) u) (range_of_none {X = Cell} a z)
members_down src inner to q carrier i (Member.Literal units ∷ ms) a z each =
    let cs : List Cell = flat_map (member_cells src carrier) (enumerate_from (i + 1) ms) in
    let l : length (map plain_cell units) ≡ length units = length-map units plain_cell in
    ap (λ u. list_any (has_place to (nat_eq q)) u) (range_append (map plain_cell units) cs a z)
    ∙ list_any-append (has_place to (nat_eq q)) (slice_range (map plain_cell units) a z) (slice_range cs (a - length (map plain_cell units)) (z - length (map plain_cell units)))
    ∙ rw (literal_none to (nat_eq q) units a z, l) (members_down src inner to q carrier (i + 1) ms (a - length units) (z - length units) each)
members_down src inner to q carrier i (Member.Tracked source bounds mode ∷ ms) a z each =
    let cs : List Cell = flat_map (member_cells src carrier) (enumerate_from (i + 1) ms) in
    let mine : List Cell = map (through_member carrier i) (slice_range (src source) bounds.start (end_of bounds)) in
    let l : length mine ≡ bounds.len = length-map (slice_range (src source) bounds.start (end_of bounds)) (through_member carrier i) ∙ length_range (src source) bounds.start (end_of bounds) each.0.0 ∙ omega arith in
    ap (λ u. list_any (has_place to (nat_eq q)) u) (range_append mine cs a z)
    ∙ list_any-append (has_place to (nat_eq q)) (slice_range mine a z) (slice_range cs (a - length mine) (z - length mine))
    ∙ ap (λ n. list_any (has_place to (nat_eq q)) (slice_range mine a z) || list_any (has_place to (nat_eq q)) (slice_range cs (a - n) (z - n))) l
    ∙ ap (λ b. b || list_any (has_place to (nat_eq q)) (slice_range cs (a - bounds.len) (z - bounds.len))) (tracked_part src inner to q carrier i source bounds a z each.0)
    ∙ ap (λ b. in_spans (down_member inner (Member.Tracked source bounds mode) a z) q || b) (members_down src inner to q carrier (i + 1) ms (a - bounds.len) (z - bounds.len) each.1)
    ∙ sym (list_any-append (λ (s : Span). holds_place s q) (down_member inner (Member.Tracked source bounds mode) a z) (down_members inner ms (a - bounds.len) (z - bounds.len)))

raw_down : (src : ℕ → List Cell) (inner : ℕ → ℕ → ℕ → List Span) (to q b : ℕ) (r : Record) (a z : ℕ) → EachTracked (MapsDown src inner to q) (members_of r) →
    list_any (has_place to (nat_eq q)) (slice_range (raw_cells src b r) a z) ≡ in_spans (down_members inner (members_of r) a z) q
raw_down src inner to q b (base text reiterated) a z each = literal_none to (nat_eq q) text a z
raw_down src inner to q b (projection members sources) a z each = members_down src inner to q b 0 members a z each
raw_down src inner to q b (elision flags source version) a z each = members_down src inner to q b 0 (members_of (elision flags source version)) a z each

module _ (record_at : ℕ → ℕ → Option Record) where
  abbrev pub inner_images : ℕ → ℕ → Record → ℕ → ℕ → ℕ → List Span
  inner_images levels to r source x y = option_map_or (λ w. down_within record_at levels to source w x y) (version_in (sources_of r) source) []

  pub images_other : (levels to b v a z : ℕ) (r : Record) → record_at b v ≡ Some r → nat_eq b to ≡ false → down_within record_at (suc levels) to b v a z ≡ down_members (inner_images levels to r) (members_of r) a z
  unfolding down_within
  images_other levels to b v a z r is other = rw (other, is) refl

  pub images_own : (levels to b v a z : ℕ) → nat_eq b to ≡ true → down_within record_at (suc levels) to b v a z ≡ span_between a z ∷ []
  unfolding down_within
  images_own levels to b v a z own = rw own refl

module _ (record_at : ℕ → ℕ → Option Record) (rank : ℕ → ℕ → ℕ) where
  -- The places that the cells of a part have in a buffer lie just in the images of the part.
  pub down_holds : AreLayers record_at rank → (levels to q b v a z : ℕ) (r : Record) → record_at b v ≡ Some r → rank b v < levels → z ≤ record_len r →
      list_any (has_place to (nat_eq q)) (slice_range (cells_within record_at levels b v) a z) ≡ in_spans (down_within record_at levels to b v a z) q
  down_holds layers zero to q b v a z r is low within = absurd (omega arith)
  down_holds layers (suc levels) to q b v a z r is low within =
      let src : ℕ → List Cell = served [] (cells_within record_at levels) r in
      let inner : ℕ → ℕ → ℕ → List Span = inner_images record_at levels to r in
      let each : EachTracked (MapsDown src inner to q) (members_of r) = each_tracked (members_of r) (λ source bounds s.
      let below : rank source s.version < levels = omega (arith, s.lower) in
      let n : length (cells_within record_at levels source s.version) ≡ record_len s.inner = cells_len record_at rank layers levels source s.version s.inner s.there below in
      rw (s.named) ((rw n s.inside), λ x y within'. down_holds layers levels to q source s.version x y s.inner s.there below (omega (arith, n, within')))) (layers.fit b v r is) in
      let total : length (raw_cells src b r) ≡ record_len r = raw_len src b r (each_tracked (members_of r) (λ source bounds e. e.0) each) in
      ap (λ u. list_any (has_place to (nat_eq q)) (slice_range u a z)) (cells_step record_at levels b v r is) ∙ either each total (nat_eq b to) refl
    where
      or_false : (x : Bool) → x ≡ (x || false)
      or_false true = refl
      or_false false = refl

      either : EachTracked (MapsDown (served [] (cells_within record_at levels) r) (inner_images record_at levels to r) to q) (members_of r) → length (raw_cells (served [] (cells_within record_at levels) r) b r) ≡ record_len r → (own : Bool) → nat_eq b to ≡ own →
          list_any (has_place to (nat_eq q)) (slice_range (in_place b (raw_cells (served [] (cells_within record_at levels) r) b r)) a z) ≡ in_spans (down_within record_at (suc levels) to b v a z) q
      either each total true own =
          let cs : List Cell = raw_cells (served [] (cells_within record_at levels) r) b r in
          let same : to ≡ b = sym (eqb-true b to own) in
          ap (λ t. list_any (has_place t (nat_eq q)) (slice_range (in_place b cs) a z)) same
          ∙ any_range (has_place b (nat_eq q)) (nat_eq q) (in_place b cs) (range_with_len 0 (length cs)) a z (has_own q b 0 cs (eq-eqb b b refl))
          ∙ any_part q (length cs) a z (omega (arith, total))
          ∙ or_false (holds_place (span_between a z) q)
          ∙ ap (λ u. in_spans u q) (sym (images_own record_at levels to b v a z own))
      either each total false other =
          let cs : List Cell = raw_cells (served [] (cells_within record_at levels) r) b r in
          any_range (has_place to (nat_eq q)) (has_place to (nat_eq q)) (in_place b cs) cs a z (has_other to b 0 (nat_eq q) cs other)
          ∙ raw_down (served [] (cells_within record_at levels) r) (inner_images record_at levels to r) to q b r a z each
          ∙ ap (λ u. in_spans u q) (sym (images_other record_at levels to b v a z r is other))
