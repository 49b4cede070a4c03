-- The place of one unit, by members.
use Rattle.std.proofs.Common.{◌≡◌, ℕ, zero, suc, ◌+◌, ◌-◌, ◌<◌, ◌≤◌, ◌⊎◌, Bool, true, false, List, [], ◌∷◌, length, map, Some, None, Option, inl, inr, refl, sym, ap, ◌∙◌, arith}
use Rattle.std.specs.Prelude.{slice_get, slice_range, nat_eq, nat_lt, flat_map, option_map, option_and_then, if◌then◌else◌}
use Rattle.std.specs.Option.{option_map_or}
use Rattle.std.specs.List.{enumerate_from}
use Rattle.std.proofs.lemmas.List.{length-map}
use Rattle.std.proofs.lemmas.Bool.{cases_lt, lt-ltb, le-ltb, eqb-true, eq-eqb}
use Rattle.ed_base.specs.declared.edit.Span.{Span}
use Rattle.ed_base.specs.declared.mode.Affinity.{Affinity}
use Rattle.ed_base.specs.declared.piece.Member.{Member}
use Rattle.ed_base.specs.Spans.{end_of}
use Rattle.ed_layers.specs.Records.{Record, base, projection, elision, members_of, sources_of, version_in}
use Rattle.ed_layers.specs.Cells.{Cell, at_place, in_place, plain_cell, through_member, member_cells, cells, cells_within}
use Rattle.ed_layers.specs.Mapping.{place_in, down_point, unit_by, beside}
use Rattle.ed_map.specs.Layers.{record_len, EachTracked, AreLayers}
use Rattle.ed_map.specs.Down.{place_members, place_within}
use Rattle.ed_spans.proofs.SliceLemmas.{length_range, get_append, get_range}
use Rattle.ed_map.proofs.MemberCells.{raw_cells, served, cells_step, each_tracked, raw_len, cells_len}

-- what a unit is, lies in the text
abbrev pub IsBelow : ℕ → Option (ℕ × Bool) → Type 0
IsBelow n None = Unit {0}
IsBelow n (Some u) = u.0 < n

pub units_below : (side : Affinity) (n p : ℕ) → p ≤ n → IsBelow n (unit_by side n p)
units_below Affinity.Predecessor n zero within = elim (cases_lt 0 n) [
  | inl some ↦ rw (lt-ltb 0 n some) some
  | inr none ↦ rw (le-ltb 0 n none) tt
]
units_below Affinity.Predecessor n (suc p) within = omega arith
units_below Affinity.Successor n p within = elim (cases_lt p n) [
  | inl here ↦ rw (lt-ltb p n here) here
  | inr end ↦ elim (cases_lt 0 p) [
    | inl some ↦ rw (le-ltb p n end, lt-ltb 0 p some) (omega arith)
    | inr none ↦ rw (le-ltb p n end, le-ltb 0 p none) tt
  ]
]

abbrev pub placed : ℕ → Option Cell → Option ℕ
placed to c = option_and_then (place_in to) c

literal_placed : (to : ℕ) (units : List ℕ) (k : ℕ) → placed to (slice_get (map plain_cell units) k) ≡ None
literal_placed to [] k = refl
literal_placed to (u ∷ us) zero = refl
literal_placed to (u ∷ us) (suc k) = literal_placed to us k

through_placed : (to carrier i : ℕ) (cs : List Cell) (k : ℕ) → placed to (slice_get (map (through_member carrier i) cs) k) ≡ placed to (slice_get cs k)
through_placed to carrier i [] k = refl
through_placed to carrier i (c ∷ cs) zero = refl
through_placed to carrier i (c ∷ cs) (suc k) = through_placed to carrier i cs k

own_placed : (b n : ℕ) (cs : List Cell) (k : ℕ) → nat_eq b b ≡ true → k < length cs → placed b (slice_get (map (at_place b) (enumerate_from n cs)) k) ≡ Some (n + k)
own_placed b n [] k same within = absurd (omega arith)
own_placed b n (c ∷ cs) zero same within = let e : n + 0 ≡ n = omega arith in rw (same, e) refl
own_placed b n (c ∷ cs) (suc k) same within = let e : n + suc k ≡ n + 1 + k = omega arith in rw e (own_placed b (n + 1) cs k same (omega arith))

other_placed : (to b n : ℕ) (cs : List Cell) (k : ℕ) → nat_eq b to ≡ false → placed to (slice_get (map (at_place b) (enumerate_from n cs)) k) ≡ placed to (slice_get cs k)
other_placed to b n [] k other = refl
other_placed to b n (c ∷ cs) zero other = rw other refl
other_placed to b n (c ∷ cs) (suc k) other = other_placed to b (n + 1) cs k other

abbrev pub Places : (ℕ → List Cell) → (ℕ → ℕ → Option ℕ) → ℕ → ℕ → Span → Type 0
Places src inner to source bounds = (end_of bounds ≤ length (src source)) × ((k : ℕ) → k < length (src source) → placed to (slice_get (src source) k) ≡ inner source k)

pub members_placed : (src : ℕ → List Cell) (inner : ℕ → ℕ → Option ℕ) (to carrier i : ℕ) (ms : List Member) (k : ℕ) → EachTracked (Places src inner to) ms →
    placed to (slice_get (flat_map (member_cells src carrier) (enumerate_from i ms)) k) ≡ place_members inner ms k
members_placed src inner to carrier i [] k each = refl
members_placed src inner to carrier i (Member.Literal units ∷ ms) k each =
    let cs : List Cell = flat_map (member_cells src carrier) (enumerate_from (i + 1) ms) in
    let l : length (map plain_cell units) ≡ length units = length-map units plain_cell in
    ap (placed to) (get_append (map plain_cell units) cs k ∙ ap (λ n. if nat_lt k n then slice_get (map plain_cell units) k else slice_get cs (k - n)) l) ∙ either cs (λ k'. members_placed src inner to carrier (i + 1) ms k' each) (cases_lt k (length units))
  where
    either : (cs : List Cell) → ((k' : ℕ) → placed to (slice_get cs k') ≡ place_members inner ms k') → ((k < length units) ⊎ (length units ≤ k)) → placed to (if nat_lt k (length units) then slice_get (map plain_cell units) k else slice_get cs (k - length units)) ≡ place_members inner (Member.Literal units ∷ ms) k
    either cs rest (inl here) = rw (lt-ltb k (length units) here) (literal_placed to units k)
    either cs rest (inr later) = rw (le-ltb k (length units) later) (rest (k - length units))
members_placed src inner to carrier i (Member.Tracked source bounds mode ∷ ms) k each =
    let cs : List Cell = flat_map (member_cells src carrier) (enumerate_from (i + 1) ms) in
    let mine : List Cell = map (through_member carrier i) (slice_range (src source) bounds.start (end_of bounds)) in
    let l : length mine ≡ bounds.len = length-map (slice_range (src source) bounds.start (end_of bounds)) (through_member carrier i) ∙ length_range (src source) bounds.start (end_of bounds) each.0.0 ∙ omega arith in
    ap (placed to) (get_append mine cs k ∙ ap (λ n. if nat_lt k n then slice_get mine k else slice_get cs (k - n)) l)
    ∙ either cs (λ k'. members_placed src inner to carrier (i + 1) ms k' each.1) (cases_lt k bounds.len)
  where
    either : (cs : List Cell) → ((k' : ℕ) → placed to (slice_get cs k') ≡ place_members inner ms k') → ((k < bounds.len) ⊎ (bounds.len ≤ k)) →
        placed to (if nat_lt k bounds.len then slice_get (map (through_member carrier i) (slice_range (src source) bounds.start (end_of bounds))) k else slice_get cs (k - bounds.len)) ≡ place_members inner (Member.Tracked source bounds mode ∷ ms) k
    either cs rest (inl here) = rw (lt-ltb k bounds.len here) (through_placed to carrier i (slice_range (src source) bounds.start (end_of bounds)) k
        ∙ ap (placed to) (get_range (src source) bounds.start (end_of bounds) k (omega arith)) ∙ each.0.1 (bounds.start + k) (omega (arith, each.0.0)))
    either cs rest (inr later) = rw (le-ltb k bounds.len later) (rest (k - bounds.len))

raw_placed : (src : ℕ → List Cell) (inner : ℕ → ℕ → Option ℕ) (to b : ℕ) (r : Record) (k : ℕ) → EachTracked (Places src inner to) (members_of r) → placed to (slice_get (raw_cells src b r) k) ≡ place_members inner (members_of r) k
raw_placed src inner to b (base text reiterated) k each = literal_placed to text k
raw_placed src inner to b (projection members sources) k each = members_placed src inner to b 0 members k each
raw_placed src inner to b (elision flags source version) k each = members_placed src inner to b 0 (members_of (elision flags source version)) k each

module _ (record_at : ℕ → ℕ → Option Record) where
  abbrev pub inner_places : ℕ → ℕ → Record → ℕ → ℕ → Option ℕ
  inner_places levels to r source x = option_map_or (λ w. place_within record_at levels to source w x) (version_in (sources_of r) source) None

  pub places_other : (levels to b v k : ℕ) (r : Record) → record_at b v ≡ Some r → nat_eq b to ≡ false → place_within record_at (suc levels) to b v k ≡ place_members (inner_places levels to r) (members_of r) k
  unfolding place_within
  places_other levels to b v k r is other = rw (other, is) refl

  pub places_own : (levels to b v k : ℕ) → nat_eq b to ≡ true → place_within record_at (suc levels) to b v k ≡ Some k
  unfolding place_within
  places_own levels to b v k own = rw own refl

module _ (record_at : ℕ → ℕ → Option Record) (rank : ℕ → ℕ → ℕ) where
  pub place_is : AreLayers record_at rank → (levels to b v k : ℕ) (r : Record) → record_at b v ≡ Some r → rank b v < levels → k < record_len r →
      placed to (slice_get (cells_within record_at levels b v) k) ≡ place_within record_at levels to b v k
  place_is layers zero to b v k r is low within = absurd (omega arith)
  place_is layers (suc levels) to b v k r is low within =
      let src : ℕ → List Cell = served [] (cells_within record_at levels) r in
      let inner : ℕ → ℕ → Option ℕ = inner_places record_at levels to r in
      let each : EachTracked (Places src inner to) (members_of r) = each_tracked (members_of r) (λ source bounds s.
      let below : rank source s.version < levels = omega (arith, s.lower) in
      let n : length (cells_within record_at levels source s.version) ≡ record_len s.inner = cells_len record_at rank layers levels source s.version s.inner s.there below in
      rw (s.named) ((rw n s.inside), λ k' within'. place_is layers levels to source s.version k' s.inner s.there below (omega (arith, n, within')))) (layers.fit b v r is) in
      let total : length (raw_cells src b r) ≡ record_len r = raw_len src b r (each_tracked (members_of r) (λ source bounds e. e.0) each) in
      ap (λ u. placed to (slice_get u k)) (cells_step record_at levels b v r is) ∙ either each total (nat_eq b to) refl
    where
      either : EachTracked (Places (served [] (cells_within record_at levels) r) (inner_places record_at levels to r) to) (members_of r) → length (raw_cells (served [] (cells_within record_at levels) r) b r) ≡ record_len r → (own : Bool) → nat_eq b to ≡ own →
          placed to (slice_get (in_place b (raw_cells (served [] (cells_within record_at levels) r) b r)) k) ≡ place_within record_at (suc levels) to b v k
      either each total true own =
          let cs : List Cell = raw_cells (served [] (cells_within record_at levels) r) b r in
          let same : to ≡ b = sym (eqb-true b to own) in
          let e : 0 + k ≡ k = omega arith in
          ap (λ t. placed t (slice_get (in_place b cs) k)) same ∙ own_placed b 0 cs k (eq-eqb b b refl) (omega (arith, total, within)) ∙ ap Some e ∙ sym (places_own record_at levels to b v k own)
      either each total false other =
          let cs : List Cell = raw_cells (served [] (cells_within record_at levels) r) b r in
          other_placed to b 0 cs k other ∙ raw_placed (served [] (cells_within record_at levels) r) (inner_places record_at levels to r) to b r k each ∙ sym (places_other record_at levels to b v k r is other)

  -- A point goes down by one unit.
  pub down_point_is : AreLayers record_at rank → (top v p : ℕ) (side : Affinity) (to : ℕ) (r : Record) → record_at top v ≡ Some r → p ≤ record_len r →
      down_point record_at top v p side to ≡ option_and_then (λ unit. option_map (beside unit.1) (place_within record_at 9 to top v unit.0)) (unit_by side (record_len r) p)
  down_point_is layers top v p side to r is within =
      let n : length (cells record_at top v) ≡ record_len r = cells_len record_at rank layers 9 top v r is (omega (arith, layers.low top v r is)) in
      ap (λ l. option_and_then (λ unit. option_map (beside unit.1) (placed to (slice_get (cells record_at top v) unit.0))) (unit_by side l p)) n
      ∙ by_unit (unit_by side (record_len r) p) refl
    where
      unit_within : (side : Affinity) (n p : ℕ) → p ≤ n → (u : ℕ × Bool) → unit_by side n p ≡ Some u → u.0 < n
      unit_within side n p within u is = rw is at (units_below side n p within)

      by_unit : (o : Option (ℕ × Bool)) → unit_by side (record_len r) p ≡ o → option_and_then (λ unit. option_map (beside unit.1) (placed to (slice_get (cells record_at top v) unit.0))) o ≡ option_and_then (λ unit. option_map (beside unit.1) (place_within record_at 9 to top v unit.0)) o
      by_unit None was = refl
      by_unit (Some u) was = ap (option_map (beside u.1)) (place_is layers 9 to top v u.0 r is (omega (arith, layers.low top v r is)) (unit_within side (record_len r) p within u was))
