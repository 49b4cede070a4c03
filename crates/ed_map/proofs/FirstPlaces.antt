-- Where a unit of a lower buffer stands first, by members.
use Rattle.std.proofs.Common.{◌≡◌, ℕ, zero, suc, ◌+◌, ◌-◌, ◌<◌, ◌≤◌, ◌⊎◌, Bool, true, false, not, ◌&&◌, List, [], ◌∷◌, ◌++◌, length, map, take, drop, length-take, length-drop, Some, None, Option, inl, inr, refl, sym, ap, ◌∙◌, arith}
use Rattle.std.specs.Prelude.{slice_range, nat_eq, nat_lt, nat_le, min, flat_map, position, option_map, option_and_then, if◌then◌else◌, cond}
use Rattle.std.specs.Option.{option_map_or}
use Rattle.std.specs.List.{enumerate_from, range_with_len, position_or_len}
use Rattle.std.proofs.lemmas.List.{length-map}
use Rattle.std.proofs.lemmas.Bool.{cases_lt, cases_order, lt-ltb, le-ltb, lt-leb, le-leb, ne_eqb, eqb-true, eq-eqb}
use Rattle.ed_base.specs.declared.edit.Span.{Span}
use Rattle.ed_base.specs.declared.mode.Affinity.{Affinity}
use Rattle.ed_base.specs.declared.piece.Member.{Member}
use Rattle.ed_base.specs.Numbers.{or_else}
use Rattle.ed_base.specs.Spans.{end_of}
use Rattle.ed_layers.specs.Records.{Record, base, projection, elision, members_of, sources_of, version_in}
use Rattle.ed_layers.specs.Cells.{Cell, in_place, plain_cell, through_member, member_cells, cells, cells_within}
use Rattle.ed_layers.specs.Mapping.{has_place, up_point, unit_by, beside, lower_len}
use Rattle.ed_map.specs.Layers.{record_len, EachTracked, AreLayers}
use Rattle.ed_map.specs.Up.{first_member, first_members, first_within}
use Rattle.ed_spans.proofs.SliceLemmas.{length_range, range_append, range_map, range_range, range_none, range_of_none}
use Rattle.ed_spans.proofs.PlaceLemmas.{drop_places, take_places}
use Rattle.ed_map.proofs.MemberCells.{raw_cells, served, cells_step, has_own, has_other, each_tracked, raw_len, cells_len}

-- ---- the first element that passes

abbrev pub spot : {X : Type 0} → (X → Bool) → List X → Option ℕ
spot p [] = None
spot p (x ∷ xs) = if p x then Some 0 else option_map suc (spot p xs)

pub position_spot : {X : Type 0} (p : X → Bool) (xs : List X) → position p xs ≡ spot p xs
position_spot p [] = refl
position_spot p (x ∷ xs) = by_test (p x) (position_or_len p xs) (spot p xs) (position_spot p xs)
  where
    by_test : (b : Bool) (n : ℕ) (o : Option ℕ) → cond (nat_lt n (length xs)) (Some n) None ≡ o → cond (nat_lt (cond (not b) (1 + n) 0) (suc (length xs))) (Some (cond (not b) (1 + n) 0)) None ≡ (if b then Some 0 else option_map suc o)
    by_test true n o is = rw (lt-ltb 0 (suc (length xs)) (omega arith)) refl
    by_test false n o is = by_order (cases_lt n (length xs))
      where
        by_order : ((n < length xs) ⊎ (length xs ≤ n)) → cond (nat_lt (1 + n) (suc (length xs))) (Some (1 + n)) None ≡ option_map suc o
        by_order (inl below) = let h : Some n ≡ o = rw (lt-ltb n (length xs) below) at is in let e : Some (1 + n) ≡ Some (suc n) = ap Some (omega arith) in rw (lt-ltb (1 + n) (suc (length xs)) (omega (arith, below))) (e ∙ ap (option_map suc) h)
        by_order (inr above) = let h : None ≡ o = rw (le-ltb n (length xs) above) at is in rw (le-ltb (1 + n) (suc (length xs)) (omega (arith, above))) (ap (option_map suc) h)

pub spot_map : {X Y : Type 0} (p : X → Bool) (p' : Y → Bool) (xs : List X) (ys : List Y) → map p xs ≡ map p' ys → spot p xs ≡ spot p' ys
spot_map p p' xs ys same = by_tests p xs ∙ ap (λ (u : List Bool). spot (λ (b : Bool). b) u) same ∙ sym (by_tests p' ys)
  where
    by_tests : {X : Type 0} (p : X → Bool) (xs : List X) → spot p xs ≡ spot (λ (b : Bool). b) (map p xs)
    by_tests p [] = refl
    by_tests p (x ∷ xs) = ap (λ o. if p x then Some 0 else option_map suc o) (by_tests p xs)

suc_more : (n : ℕ) (o : Option ℕ) → option_map suc (option_map (λ k. n + k) o) ≡ option_map (λ k. suc n + k) o
suc_more n None = refl
suc_more n (Some k) = let e : suc (n + k) ≡ suc n + k = omega arith in ap Some e

same_more : (o : Option ℕ) → o ≡ option_map (λ k. 0 + k) o
same_more None = refl
same_more (Some k) = let e : k ≡ 0 + k = omega arith in ap Some e

pub spot_append : {X : Type 0} (p : X → Bool) (xs ys : List X) → spot p (xs ++ ys) ≡ or_else (spot p xs) (option_map (λ k. length xs + k) (spot p ys))
spot_append p [] ys = same_more (spot p ys)
spot_append p (x ∷ xs) ys = either (p x) (spot p xs) (spot_append p xs ys)
  where
    either : (b : Bool) (o : Option ℕ) → spot p (xs ++ ys) ≡ or_else o (option_map (λ k. length xs + k) (spot p ys)) → (if b then Some 0 else option_map suc (spot p (xs ++ ys))) ≡ or_else (if b then Some 0 else option_map suc o) (option_map (λ k. suc (length xs) + k) (spot p ys))
    either true o is = refl
    either false None is = ap (option_map suc) is ∙ suc_more (length xs) (spot p ys)
    either false (Some k) is = ap (option_map suc) is

pub spot_places : (q n m : ℕ) → spot (nat_eq q) (range_with_len n m) ≡ (if nat_le n q && nat_lt q (n + m) then Some (q - n) else None)
spot_places q n zero = rw (none (cases_lt q n)) refl
  where
    none : ((q < n) ⊎ (n ≤ q)) → (nat_le n q && nat_lt q (n + 0)) ≡ false
    none (inl low) = rw (lt-leb n q low) refl
    none (inr high) = rw (le-leb n q high, le-ltb q (n + 0) (omega (arith, high))) refl
spot_places q n (suc m) = elim (cases_order q n) [
  | inl same ↦ (let z : q - n ≡ 0 = omega (arith, same) in rw (eq-eqb q n same, le-leb n q (omega (arith, same)), lt-ltb q (n + suc m) (omega (arith, same)), z) refl)
  | inr (inl low) ↦ rw (ne_eqb q n (λ e. omega (arith, e, low)), lt-leb n q low, spot_places q (n + 1) m, lt-leb (n + 1) q (omega (arith, low))) refl
  | inr (inr high) ↦ elim (cases_lt q (n + 1 + m)) [
    | inl here ↦ (let e : suc (q - (n + 1)) ≡ q - n = omega (arith, high) in rw (ne_eqb q n (λ e. omega (arith, e, high)), le-leb n q (omega (arith, high)), lt-ltb q (n + suc m) (omega (arith, here)), spot_places q (n + 1) m, le-leb (n + 1) q (omega (arith, high)), lt-ltb q (n + 1 + m) here) (ap Some e))
    | inr past ↦ rw (ne_eqb q n (λ e. omega (arith, e, high)), le-leb n q (omega (arith, high)), le-ltb q (n + suc m) (omega (arith, past)), spot_places q (n + 1) m, le-leb (n + 1) q (omega (arith, high)), le-ltb q (n + 1 + m) past) refl
  ]
]

pub take_whole : {X : Type 0} (xs : List X) → take (length xs) xs ≡ xs
take_whole [] = refl
take_whole (x ∷ xs) = ap (λ u. x ∷ u) (take_whole xs)

-- ---- members

literal_spot : (to : ℕ) (test : ℕ → Bool) (us : List ℕ) → spot (has_place to test) (map plain_cell us) ≡ None
literal_spot to test [] = refl
literal_spot to test (u ∷ us) = ap (option_map suc) (literal_spot to test us)

through_spot : (to carrier i : ℕ) (test : ℕ → Bool) (cs : List Cell) → spot (has_place to test) (map (through_member carrier i) cs) ≡ spot (has_place to test) cs
through_spot to carrier i test [] = refl
through_spot to carrier i test (c ∷ cs) = ap (λ o. if has_place to test c then Some 0 else option_map suc o) (through_spot to carrier i test cs)

abbrev pub Firsts : (ℕ → List Cell) → (ℕ → ℕ → ℕ → Option ℕ) → ℕ → ℕ → ℕ → Span → Type 0
Firsts src inner of_ q source bounds = (end_of bounds ≤ length (src source)) × ((x y : ℕ) → y ≤ length (src source) → spot (has_place of_ (nat_eq q)) (slice_range (src source) x y) ≡ inner source x y)

tracked_first : (src : ℕ → List Cell) (inner : ℕ → ℕ → ℕ → Option ℕ) (of_ q carrier i source : ℕ) (bounds : Span) (a z : ℕ) → Firsts src inner of_ q source bounds →
    spot (has_place of_ (nat_eq q)) (slice_range (map (through_member carrier i) (slice_range (src source) bounds.start (end_of bounds))) a z) ≡ (if nat_lt a (min z bounds.len) then inner source (bounds.start + a) (bounds.start + min z bounds.len) else None)
tracked_first src inner of_ q carrier i source bounds a z maps =
    ap (λ u. spot (has_place of_ (nat_eq q)) u) (range_map (through_member carrier i) (slice_range (src source) bounds.start (end_of bounds)) a z)
    ∙ through_spot of_ carrier i (nat_eq q) (slice_range (slice_range (src source) bounds.start (end_of bounds)) a z)
    ∙ ap (λ u. spot (has_place of_ (nat_eq q)) u) (range_range (src source) bounds.start bounds.len a z)
    ∙ either (cases_lt a (min z bounds.len))
  where
    either : ((a < min z bounds.len) ⊎ (min z bounds.len ≤ a)) → spot (has_place of_ (nat_eq q)) (slice_range (src source) (bounds.start + a) (bounds.start + min z bounds.len)) ≡ (if nat_lt a (min z bounds.len) then inner source (bounds.start + a) (bounds.start + min z bounds.len) else None)
    either (inl some) = rw (lt-ltb a (min z bounds.len) some) (maps.1 (bounds.start + a) (bounds.start + min z bounds.len) (omega (arith, maps.0)))
    either (inr none) = rw (le-ltb a (min z bounds.len) none, range_none (src source) (bounds.start + a) (bounds.start + min z bounds.len) (omega arith)) refl

-- how much of a list lies in a part
part_len : {X : Type 0} (xs : List X) (a z : ℕ) → length (slice_range xs a z) ≡ min z (length xs) - a
part_len xs a z = omega (arith, length-take (z - a) (drop a xs), length-drop a xs)

pub members_first : (src : ℕ → List Cell) (inner : ℕ → ℕ → ℕ → Option ℕ) (of_ q carrier i : ℕ) (ms : List Member) (a z : ℕ) → EachTracked (Firsts src inner of_ q) ms →
    spot (has_place of_ (nat_eq q)) (slice_range (flat_map (member_cells src carrier) (enumerate_from i ms)) a z) ≡ first_members inner ms a z
members_first src inner of_ q carrier i [] a z each = ap (λ u. spot (has_place of_ (nat_eq q)) u) (range_of_none {X = Cell} a z)
members_first src inner of_ q carrier i (Member.Literal units ∷ ms) a z each =
    let cs : List Cell = flat_map (member_cells src carrier) (enumerate_from (i + 1) ms) in
    let mine : List Cell = map plain_cell units in
    let l : length mine ≡ length units = length-map units plain_cell in
    let n : length (slice_range mine a z) ≡ min z (length units) - a = part_len mine a z ∙ ap (λ n. min z n - a) l in
    let none : spot (has_place of_ (nat_eq q)) (slice_range mine a z) ≡ None = ap (λ u. spot (has_place of_ (nat_eq q)) u) (range_map plain_cell units a z) ∙ literal_spot of_ (nat_eq q) (slice_range units a z) in
    ap (λ u. spot (has_place of_ (nat_eq q)) u) (range_append mine cs a z)
    ∙ spot_append (has_place of_ (nat_eq q)) (slice_range mine a z) (slice_range cs (a - length mine) (z - length mine))
    ∙ rw (none, n, l, members_first src inner of_ q carrier (i + 1) ms (a - length units) (z - length units) each) refl
members_first src inner of_ q carrier i (Member.Tracked source bounds mode ∷ ms) a z each =
    let cs : List Cell = flat_map (member_cells src carrier) (enumerate_from (i + 1) ms) in
    let mine : List Cell = map (through_member carrier i) (slice_range (src source) bounds.start (end_of bounds)) in
    let l : length mine ≡ bounds.len = length-map (slice_range (src source) bounds.start (end_of bounds)) (through_member carrier i) ∙ length_range (src source) bounds.start (end_of bounds) each.0.0 ∙ omega arith in
    let n : length (slice_range mine a z) ≡ min z bounds.len - a = part_len mine a z ∙ ap (λ n. min z n - a) l in
    ap (λ u. spot (has_place of_ (nat_eq q)) u) (range_append mine cs a z)
    ∙ spot_append (has_place of_ (nat_eq q)) (slice_range mine a z) (slice_range cs (a - length mine) (z - length mine))
    ∙ ap (λ o. or_else o (option_map (λ k. length (slice_range mine a z) + k) (spot (has_place of_ (nat_eq q)) (slice_range cs (a - length mine) (z - length mine))))) (tracked_first src inner of_ q carrier i source bounds a z each.0)
    ∙ ap (λ x. or_else (first_member inner (Member.Tracked source bounds mode) a z) (option_map (λ k. x + k) (spot (has_place of_ (nat_eq q)) (slice_range cs (a - length mine) (z - length mine))))) n
    ∙ ap (λ x. or_else (first_member inner (Member.Tracked source bounds mode) a z) (option_map (λ k. min z bounds.len - a + k) (spot (has_place of_ (nat_eq q)) (slice_range cs (a - x) (z - x))))) l
    ∙ ap (λ o. or_else (first_member inner (Member.Tracked source bounds mode) a z) (option_map (λ k. min z bounds.len - a + k) o)) (members_first src inner of_ q carrier (i + 1) ms (a - bounds.len) (z - bounds.len) each.1)

raw_first : (src : ℕ → List Cell) (inner : ℕ → ℕ → ℕ → Option ℕ) (of_ q b : ℕ) (r : Record) (a z : ℕ) → EachTracked (Firsts src inner of_ q) (members_of r) → spot (has_place of_ (nat_eq q)) (slice_range (raw_cells src b r) a z) ≡ first_members inner (members_of r) a z
raw_first src inner of_ q b (base text reiterated) a z each = ap (λ u. spot (has_place of_ (nat_eq q)) u) (range_map plain_cell text a z) ∙ literal_spot of_ (nat_eq q) (slice_range text a z)
raw_first src inner of_ q b (projection members sources) a z each = members_first src inner of_ q b 0 members a z each
raw_first src inner of_ q b (elision flags source version) a z each = members_first src inner of_ q b 0 (members_of (elision flags source version)) a z each

module _ (record_at : ℕ → ℕ → Option Record) where
  abbrev pub inner_firsts : ℕ → ℕ → ℕ → Record → ℕ → ℕ → ℕ → Option ℕ
  inner_firsts levels of_ q r source x y = option_map_or (λ w. first_within record_at levels of_ q source w x y) (version_in (sources_of r) source) None

  pub firsts_other : (levels of_ q b v a z : ℕ) (r : Record) → record_at b v ≡ Some r → nat_eq b of_ ≡ false → first_within record_at (suc levels) of_ q b v a z ≡ first_members (inner_firsts levels of_ q r) (members_of r) a z
  unfolding first_within
  firsts_other levels of_ q b v a z r is other = rw (other, is) refl

  pub firsts_own : (levels of_ q b v a z : ℕ) → nat_eq b of_ ≡ true → first_within record_at (suc levels) of_ q b v a z ≡ (if nat_le a q && nat_lt q z then Some (q - a) else None)
  unfolding first_within
  firsts_own levels of_ q b v a z own = rw own refl

module _ (record_at : ℕ → ℕ → Option Record) (rank : ℕ → ℕ → ℕ) where
  pub first_is : AreLayers record_at rank → (levels of_ q b v a z : ℕ) (r : Record) → record_at b v ≡ Some r → rank b v < levels → z ≤ record_len r →
      spot (has_place of_ (nat_eq q)) (slice_range (cells_within record_at levels b v) a z) ≡ first_within record_at levels of_ q b v a z
  first_is layers zero of_ q b v a z r is low within = absurd (omega arith)
  first_is layers (suc levels) of_ q b v a z r is low within =
      let src : ℕ → List Cell = served [] (cells_within record_at levels) r in
      let inner : ℕ → ℕ → ℕ → Option ℕ = inner_firsts record_at levels of_ q r in
      let each : EachTracked (Firsts src inner of_ q) (members_of r) = each_tracked (members_of r) (λ source bounds s.
      let below : rank source s.version < levels = omega (arith, s.lower) in
      let n : length (cells_within record_at levels source s.version) ≡ record_len s.inner = cells_len record_at rank layers levels source s.version s.inner s.there below in
      rw (s.named) ((rw n s.inside), λ x y within'. first_is layers levels of_ q source s.version x y s.inner s.there below (omega (arith, n, within')))) (layers.fit b v r is) in
      let total : length (raw_cells src b r) ≡ record_len r = raw_len src b r (each_tracked (members_of r) (λ source bounds e. e.0) each) in
      ap (λ u. spot (has_place of_ (nat_eq q)) (slice_range u a z)) (cells_step record_at levels b v r is) ∙ either each total (nat_eq b of_) refl
    where
      either : EachTracked (Firsts (served [] (cells_within record_at levels) r) (inner_firsts record_at levels of_ q r) of_ q) (members_of r) → length (raw_cells (served [] (cells_within record_at levels) r) b r) ≡ record_len r → (own : Bool) → nat_eq b of_ ≡ own →
          spot (has_place of_ (nat_eq q)) (slice_range (in_place b (raw_cells (served [] (cells_within record_at levels) r) b r)) a z) ≡ first_within record_at (suc levels) of_ q b v a z
      either each total true own =
          let cs : List Cell = raw_cells (served [] (cells_within record_at levels) r) b r in
          let same : of_ ≡ b = sym (eqb-true b of_ own) in
          let e : 0 + a ≡ a = omega arith in let d : a + (z - a) ≡ z + (a - z) = omega arith in
          ap (λ t. spot (has_place t (nat_eq q)) (slice_range (in_place b cs) a z)) same
          ∙ spot_map (has_place b (nat_eq q)) (nat_eq q) (slice_range (in_place b cs) a z) (slice_range (range_with_len 0 (length cs)) a z)
          (sym (range_map (has_place b (nat_eq q)) (in_place b cs) a z) ∙ ap (λ u. slice_range u a z) (has_own q b 0 cs (eq-eqb b b refl)) ∙ range_map (nat_eq q) (range_with_len 0 (length cs)) a z)
          ∙ ap (λ u. spot (nat_eq q) (take (z - a) u)) (drop_places a 0 (length cs) ∙ ap (λ n. range_with_len n (length cs - a)) e)
          ∙ ap (λ u. spot (nat_eq q) u) (take_places (z - a) a (length cs - a) (omega (arith, within, total)))
          ∙ spot_places q a (z - a) ∙ same_test a z ∙ sym (firsts_own record_at levels of_ q b v a z own)
        where
          same_test : (a z : ℕ) → (if nat_le a q && nat_lt q (a + (z - a)) then Some (q - a) else None) ≡ (if nat_le a q && nat_lt q z then Some (q - a) else None)
          same_test a z = elim (cases_lt q a) [
            | inl low ↦ rw (lt-leb a q low) refl
            | inr high ↦ elim (cases_lt q z) [
              | inl here ↦ rw (lt-ltb q z here, lt-ltb q (a + (z - a)) (omega (arith, high, here))) refl
              | inr past ↦ rw (le-ltb q z past, le-ltb q (a + (z - a)) (omega (arith, high, past))) refl
            ]
          ]
      either each total false other =
          let cs : List Cell = raw_cells (served [] (cells_within record_at levels) r) b r in
          spot_map (has_place of_ (nat_eq q)) (has_place of_ (nat_eq q)) (slice_range (in_place b cs) a z) (slice_range cs a z)
          (sym (range_map (has_place of_ (nat_eq q)) (in_place b cs) a z) ∙ ap (λ u. slice_range u a z) (has_other of_ b 0 (nat_eq q) cs other) ∙ range_map (has_place of_ (nat_eq q)) cs a z)
          ∙ raw_first (served [] (cells_within record_at levels) r) (inner_firsts record_at levels of_ q r) of_ q b r a z each
          ∙ sym (firsts_other record_at levels of_ q b v a z r is other)

  -- A point goes up by one unit of the lower buffer.
  pub up_point_is : AreLayers record_at rank → (top v p : ℕ) (side : Affinity) (of_ : ℕ) (r : Record) → record_at top v ≡ Some r →
      up_point record_at top v p side of_ ≡ option_and_then (λ unit. option_map (beside unit.1) (first_within record_at 9 of_ unit.0 top v 0 (record_len r))) (unit_by side (lower_len record_at top v of_) p)
  up_point_is layers top v p side of_ r is = by_unit (unit_by side (lower_len record_at top v of_) p)
    where
      n : length (cells record_at top v) ≡ record_len r
      n = cells_len record_at rank layers 9 top v r is (omega (arith, layers.low top v r is))

      whole : (cs : List Cell) (l : ℕ) → length cs ≡ l → cs ≡ slice_range cs 0 l
      whole cs l is = let e : l - 0 ≡ length cs = omega (arith, is) in sym (take_whole cs) ∙ ap (λ m. take m cs) (sym e)

      by_unit : (o : Option (ℕ × Bool)) → option_and_then (λ unit. option_map (beside unit.1) (position (has_place of_ (nat_eq unit.0)) (cells record_at top v))) o ≡ option_and_then (λ unit. option_map (beside unit.1) (first_within record_at 9 of_ unit.0 top v 0 (record_len r))) o
      by_unit None = refl
      by_unit (Some u) = ap (option_map (beside u.1)) (position_spot (has_place of_ (nat_eq u.0)) (cells record_at top v)
          ∙ ap (spot (has_place of_ (nat_eq u.0))) (whole (cells record_at top v) (record_len r) n)
          ∙ first_is layers 9 of_ u.0 top v 0 (record_len r) r is (omega (arith, layers.low top v r is)) (omega arith))
