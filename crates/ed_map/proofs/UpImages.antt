-- Mapping up by members.
use Rattle.std.proofs.Common.{◌≡◌, ℕ, zero, suc, ◌+◌, ◌-◌, ◌<◌, ◌≤◌, ◌⊎◌, Bool, true, false, ◌||◌, List, [], ◌∷◌, length, map, Some, Option, inl, inr, refl, sym, ap, ◌∙◌, arith}
use Rattle.std.specs.Prelude.{slice_get, slice_range, nat_eq, nat_lt, flat_map, min, max, if◌then◌else◌}
use Rattle.std.specs.Option.{option_map_or}
use Rattle.std.specs.List.{enumerate_from}
use Rattle.std.proofs.lemmas.List.{length-map}
use Rattle.std.proofs.lemmas.List.Folds.{list_any-append}
use Rattle.std.proofs.lemmas.Bool.{cases_lt, lt-ltb, le-ltb, eqb-true, eq-eqb}
use Rattle.ed_base.specs.declared.edit.Span.{Span}
use Rattle.ed_base.specs.declared.piece.Member.{Member}
use Rattle.ed_base.specs.Spans.{end_of, span_between, holds_place}
use Rattle.ed_layers.specs.Records.{Record, base, projection, elision, members_of, sources_of, version_in}
use Rattle.ed_layers.specs.Cells.{Cell, at_place, in_place, plain_cell, through_member, member_cells, cells_within}
use Rattle.ed_layers.specs.Mapping.{has_place}
use Rattle.ed_map.specs.Layers.{record_len, EachTracked, AreLayers}
use Rattle.ed_spans.specs.SpanSets.{in_spans}
use Rattle.ed_map.specs.Up.{cut_to, up_members, up_within}
use Rattle.ed_spans.proofs.SliceLemmas.{length_range, get_append, get_range}
use Rattle.ed_spans.proofs.PlaceLemmas.{same_bool, holds_parts, holds_from, holds_none}
use Rattle.ed_map.proofs.MemberCells.{raw_cells, served, cells_step, each_tracked, raw_len, cells_len}

-- ---- one image cut to a member

cut_inside : (bounds : Span) (at k : ℕ) (s : Span) → k < bounds.len → in_spans (cut_to bounds at s) (at + k) ≡ holds_place s (bounds.start + k)
cut_inside bounds at k s inside = either (cases_lt (max s.start bounds.start) (min (end_of s) (end_of bounds)))
  where
    cut : Span
    cut = span_between (at + (max s.start bounds.start - bounds.start)) (at + (min (end_of s) (end_of bounds) - bounds.start))

    or_false : (x : Bool) → (x || false) ≡ x
    or_false true = refl
    or_false false = refl

    either : ((max s.start bounds.start < min (end_of s) (end_of bounds)) ⊎ (min (end_of s) (end_of bounds) ≤ max s.start bounds.start)) → in_spans (cut_to bounds at s) (at + k) ≡ holds_place s (bounds.start + k)
    either (inl some) = rw (lt-ltb (max s.start bounds.start) (min (end_of s) (end_of bounds)) some) (or_false (holds_place cut (at + k)) ∙ same_bool (holds_place cut (at + k)) (holds_place s (bounds.start + k))
        (λ is. let h : (cut.start ≤ at + k) × (at + k < end_of cut) = holds_parts cut (at + k) is in holds_from s (bounds.start + k) (omega (arith, h.0, some)) (omega (arith, h.1, some)))
        (λ is. let h : (s.start ≤ bounds.start + k) × (bounds.start + k < end_of s) = holds_parts s (bounds.start + k) is in holds_from cut (at + k) (omega (arith, h.0, some)) (omega (arith, h.1, some))))
    either (inr none) = rw (le-ltb (max s.start bounds.start) (min (end_of s) (end_of bounds)) none) (sym (holds_none s (bounds.start + k) (λ above below. omega (arith, above, below, none, inside))))

cut_outside : (bounds : Span) (at p : ℕ) (s : Span) → (p < at) ⊎ (at + bounds.len ≤ p) → in_spans (cut_to bounds at s) p ≡ false
cut_outside bounds at p s out = either (cases_lt (max s.start bounds.start) (min (end_of s) (end_of bounds)))
  where
    cut : Span
    cut = span_between (at + (max s.start bounds.start - bounds.start)) (at + (min (end_of s) (end_of bounds) - bounds.start))

    either : ((max s.start bounds.start < min (end_of s) (end_of bounds)) ⊎ (min (end_of s) (end_of bounds) ≤ max s.start bounds.start)) → in_spans (cut_to bounds at s) p ≡ false
    either (inl some) = rw (
      lt-ltb (max s.start bounds.start) (min (end_of s) (end_of bounds)) some,
      holds_none cut p (λ above below. elim out [
        | inl before ↦ omega (arith, above, before)
        | inr behind ↦ omega (arith, below, behind, some)
      ]),
    ) refl
    either (inr none) = rw (le-ltb (max s.start bounds.start) (min (end_of s) (end_of bounds)) none) refl

-- all images cut to a member
pub cuts_inside : (bounds : Span) (at k : ℕ) (ss : List Span) → k < bounds.len → in_spans (flat_map (cut_to bounds at) ss) (at + k) ≡ in_spans ss (bounds.start + k)
cuts_inside bounds at k [] inside = refl
cuts_inside bounds at k (s ∷ ss) inside = list_any-append (λ (t : Span). holds_place t (at + k)) (cut_to bounds at s) (flat_map (cut_to bounds at) ss) ∙ rw (cut_inside bounds at k s inside, cuts_inside bounds at k ss inside) refl

pub cuts_outside : (bounds : Span) (at p : ℕ) (ss : List Span) → (p < at) ⊎ (at + bounds.len ≤ p) → in_spans (flat_map (cut_to bounds at) ss) p ≡ false
cuts_outside bounds at p [] out = refl
cuts_outside bounds at p (s ∷ ss) out = list_any-append (λ (t : Span). holds_place t p) (cut_to bounds at s) (flat_map (cut_to bounds at) ss) ∙ rw (cut_outside bounds at p s out, cuts_outside bounds at p ss out) refl

-- nothing stands before the first member
up_before : (inner : ℕ → List Span) (ms : List Member) (at p : ℕ) → p < at → in_spans (up_members inner ms at) p ≡ false
up_before inner [] at p before = refl
up_before inner (Member.Literal units ∷ ms) at p before = up_before inner ms (at + length units) p (omega arith)
up_before inner (Member.Tracked source bounds mode ∷ ms) at p before =
    list_any-append (λ (t : Span). holds_place t p) (flat_map (cut_to bounds at) (inner source)) (up_members inner ms (at + bounds.len))
    ∙ rw (cuts_outside bounds at p (inner source) (inl before), up_before inner ms (at + bounds.len) p (omega arith)) refl

-- ---- the test at a cell

abbrev pub tested : ℕ → (ℕ → Bool) → Option Cell → Bool
tested to test c = option_map_or (has_place to test) c false

literal_tested : (to : ℕ) (test : ℕ → Bool) (units : List ℕ) (k : ℕ) → tested to test (slice_get (map plain_cell units) k) ≡ false
literal_tested to test [] k = refl
literal_tested to test (u ∷ us) zero = refl
literal_tested to test (u ∷ us) (suc k) = literal_tested to test us k

through_tested : (to carrier i : ℕ) (test : ℕ → Bool) (cs : List Cell) (k : ℕ) → tested to test (slice_get (map (through_member carrier i) cs) k) ≡ tested to test (slice_get cs k)
through_tested to carrier i test [] k = refl
through_tested to carrier i test (c ∷ cs) zero = refl
through_tested to carrier i test (c ∷ cs) (suc k) = through_tested to carrier i test cs k

own_tested : (q : ℕ → Bool) (b n : ℕ) (cs : List Cell) (k : ℕ) → nat_eq b b ≡ true → k < length cs → tested b q (slice_get (map (at_place b) (enumerate_from n cs)) k) ≡ q (n + k)
own_tested q b n [] k same within = absurd (omega arith)
own_tested q b n (c ∷ cs) zero same within = let e : n + 0 ≡ n = omega arith in rw (same, e) refl
own_tested q b n (c ∷ cs) (suc k) same within = let e : n + suc k ≡ n + 1 + k = omega arith in rw e (own_tested q b (n + 1) cs k same (omega arith))

other_tested : (to b n : ℕ) (test : ℕ → Bool) (cs : List Cell) (k : ℕ) → nat_eq b to ≡ false → tested to test (slice_get (map (at_place b) (enumerate_from n cs)) k) ≡ tested to test (slice_get cs k)
other_tested to b n test [] k other = refl
other_tested to b n test (c ∷ cs) zero other = rw other refl
other_tested to b n test (c ∷ cs) (suc k) other = other_tested to b (n + 1) test cs k other

-- ---- members

abbrev pub MapsUp : (ℕ → List Cell) → (ℕ → List Span) → ℕ → Span → ℕ → Span → Type 0
MapsUp src inner of_ span source bounds = (end_of bounds ≤ length (src source)) × ((k : ℕ) → k < length (src source) → tested of_ (holds_place span) (slice_get (src source) k) ≡ in_spans (inner source) k)

pub members_up : (src : ℕ → List Cell) (inner : ℕ → List Span) (of_ : ℕ) (span : Span) (carrier i : ℕ) (ms : List Member) (at k : ℕ) → EachTracked (MapsUp src inner of_ span) ms →
    tested of_ (holds_place span) (slice_get (flat_map (member_cells src carrier) (enumerate_from i ms)) k) ≡ in_spans (up_members inner ms at) (at + k)
members_up src inner of_ span carrier i [] at k each = refl
members_up src inner of_ span carrier i (Member.Literal units ∷ ms) at k each =
    let cs : List Cell = flat_map (member_cells src carrier) (enumerate_from (i + 1) ms) in
    let l : length (map plain_cell units) ≡ length units = length-map units plain_cell in
    ap (tested of_ (holds_place span)) (get_append (map plain_cell units) cs k ∙ ap (λ n. if nat_lt k n then slice_get (map plain_cell units) k else slice_get cs (k - n)) l) ∙ either cs (λ k'. members_up src inner of_ span carrier (i + 1) ms (at + length units) k' each) (cases_lt k (length units))
  where
    either : (cs : List Cell) → ((k' : ℕ) → tested of_ (holds_place span) (slice_get cs k') ≡ in_spans (up_members inner ms (at + length units)) (at + length units + k')) → ((k < length units) ⊎ (length units ≤ k)) → tested of_ (holds_place span) (if nat_lt k (length units) then slice_get (map plain_cell units) k else slice_get cs (k - length units)) ≡ in_spans (up_members inner ms (at + length units)) (at + k)
    either cs rest (inl here) = rw (lt-ltb k (length units) here, literal_tested of_ (holds_place span) units k) (sym (up_before inner ms (at + length units) (at + k) (omega arith)))
    either cs rest (inr later) =
        let e : at + length units + (k - length units) ≡ at + k = omega arith in
        rw (le-ltb k (length units) later) (rest (k - length units) ∙ ap (in_spans (up_members inner ms (at + length units))) e)
members_up src inner of_ span carrier i (Member.Tracked source bounds mode ∷ ms) at k each =
    let cs : List Cell = flat_map (member_cells src carrier) (enumerate_from (i + 1) ms) in
    let mine : List Cell = map (through_member carrier i) (slice_range (src source) bounds.start (end_of bounds)) in
    let l : length mine ≡ bounds.len = length-map (slice_range (src source) bounds.start (end_of bounds)) (through_member carrier i) ∙ length_range (src source) bounds.start (end_of bounds) each.0.0 ∙ omega arith in
    ap (tested of_ (holds_place span)) (get_append mine cs k ∙ ap (λ n. if nat_lt k n then slice_get mine k else slice_get cs (k - n)) l)
    ∙ either cs (λ k'. members_up src inner of_ span carrier (i + 1) ms (at + bounds.len) k' each.1) (cases_lt k bounds.len)
    ∙ sym (list_any-append (λ (t : Span). holds_place t (at + k)) (flat_map (cut_to bounds at) (inner source)) (up_members inner ms (at + bounds.len)))
  where
    either : (cs : List Cell) → ((k' : ℕ) → tested of_ (holds_place span) (slice_get cs k') ≡ in_spans (up_members inner ms (at + bounds.len)) (at + bounds.len + k')) → ((k < bounds.len) ⊎ (bounds.len ≤ k)) →
        tested of_ (holds_place span) (if nat_lt k bounds.len then slice_get (map (through_member carrier i) (slice_range (src source) bounds.start (end_of bounds))) k else slice_get cs (k - bounds.len))
        ≡ (in_spans (flat_map (cut_to bounds at) (inner source)) (at + k) || in_spans (up_members inner ms (at + bounds.len)) (at + k))
    either cs rest (inl here) =
        let t : tested of_ (holds_place span) (slice_get (map (through_member carrier i) (slice_range (src source) bounds.start (end_of bounds))) k) ≡ in_spans (inner source) (bounds.start + k) =
        through_tested of_ carrier i (holds_place span) (slice_range (src source) bounds.start (end_of bounds)) k
        ∙ ap (tested of_ (holds_place span)) (get_range (src source) bounds.start (end_of bounds) k (omega arith))
        ∙ each.0.1 (bounds.start + k) (omega (arith, each.0.0)) in
        rw (lt-ltb k bounds.len here, cuts_inside bounds at k (inner source) here, up_before inner ms (at + bounds.len) (at + k) (omega arith), t) (or_false (in_spans (inner source) (bounds.start + k)))
      where
        or_false : (x : Bool) → x ≡ (x || false)
        or_false true = refl
        or_false false = refl
    either cs rest (inr later) =
        let e : at + bounds.len + (k - bounds.len) ≡ at + k = omega arith in
        rw (le-ltb k bounds.len later, cuts_outside bounds at (at + k) (inner source) (inr (omega arith))) (rest (k - bounds.len) ∙ ap (in_spans (up_members inner ms (at + bounds.len))) e)

raw_up : (src : ℕ → List Cell) (inner : ℕ → List Span) (of_ : ℕ) (span : Span) (b : ℕ) (r : Record) (k : ℕ) → EachTracked (MapsUp src inner of_ span) (members_of r) →
    tested of_ (holds_place span) (slice_get (raw_cells src b r) k) ≡ in_spans (up_members inner (members_of r) 0) k
raw_up src inner of_ span b (base text reiterated) k each = literal_tested of_ (holds_place span) text k
raw_up src inner of_ span b (projection members sources) k each = let e : 0 + k ≡ k = omega arith in members_up src inner of_ span b 0 members 0 k each ∙ ap (in_spans (up_members inner members 0)) e
raw_up src inner of_ span b (elision flags source version) k each = let e : 0 + k ≡ k = omega arith in members_up src inner of_ span b 0 (members_of (elision flags source version)) 0 k each ∙ ap (in_spans (up_members inner (members_of (elision flags source version)) 0)) e

module _ (record_at : ℕ → ℕ → Option Record) where
  abbrev pub inner_ups : ℕ → ℕ → Span → Record → ℕ → List Span
  inner_ups levels of_ span r source = option_map_or (λ w. up_within record_at levels of_ span source w) (version_in (sources_of r) source) []

  pub ups_other : (levels of_ : ℕ) (span : Span) (b v : ℕ) (r : Record) → record_at b v ≡ Some r → nat_eq b of_ ≡ false → up_within record_at (suc levels) of_ span b v ≡ up_members (inner_ups levels of_ span r) (members_of r) 0
  unfolding up_within
  ups_other levels of_ span b v r is other = rw (other, is) refl

  pub ups_own : (levels of_ : ℕ) (span : Span) (b v : ℕ) → nat_eq b of_ ≡ true → up_within record_at (suc levels) of_ span b v ≡ span ∷ []
  unfolding up_within
  ups_own levels of_ span b v own = rw own refl

module _ (record_at : ℕ → ℕ → Option Record) (rank : ℕ → ℕ → ℕ) where
  -- The cells that have a place in the span stand just in its images.
  pub up_holds : AreLayers record_at rank → (levels of_ : ℕ) (span : Span) (b v k : ℕ) (r : Record) → record_at b v ≡ Some r → rank b v < levels → k < record_len r →
      tested of_ (holds_place span) (slice_get (cells_within record_at levels b v) k) ≡ in_spans (up_within record_at levels of_ span b v) k
  up_holds layers zero of_ span b v k r is low within = absurd (omega arith)
  up_holds layers (suc levels) of_ span b v k r is low within =
      let src : ℕ → List Cell = served [] (cells_within record_at levels) r in
      let inner : ℕ → List Span = inner_ups record_at levels of_ span r in
      let each : EachTracked (MapsUp src inner of_ span) (members_of r) = each_tracked (members_of r) (λ source bounds s.
      let below : rank source s.version < levels = omega (arith, s.lower) in
      let n : length (cells_within record_at levels source s.version) ≡ record_len s.inner = cells_len record_at rank layers levels source s.version s.inner s.there below in
      rw (s.named) ((rw n s.inside), λ k' within'. up_holds layers levels of_ span source s.version k' s.inner s.there below (omega (arith, n, within')))) (layers.fit b v r is) in
      let total : length (raw_cells src b r) ≡ record_len r = raw_len src b r (each_tracked (members_of r) (λ source bounds e. e.0) each) in
      ap (λ u. tested of_ (holds_place span) (slice_get u k)) (cells_step record_at levels b v r is) ∙ either each total (nat_eq b of_) refl
    where
      or_false : (x : Bool) → x ≡ (x || false)
      or_false true = refl
      or_false false = refl

      either : EachTracked (MapsUp (served [] (cells_within record_at levels) r) (inner_ups record_at levels of_ span r) of_ span) (members_of r) → length (raw_cells (served [] (cells_within record_at levels) r) b r) ≡ record_len r → (own : Bool) → nat_eq b of_ ≡ own →
          tested of_ (holds_place span) (slice_get (in_place b (raw_cells (served [] (cells_within record_at levels) r) b r)) k) ≡ in_spans (up_within record_at (suc levels) of_ span b v) k
      either each total true own =
          let cs : List Cell = raw_cells (served [] (cells_within record_at levels) r) b r in
          let same : of_ ≡ b = sym (eqb-true b of_ own) in
          let e : 0 + k ≡ k = omega arith in
          ap (λ t. tested t (holds_place span) (slice_get (in_place b cs) k)) same
          ∙ own_tested (holds_place span) b 0 cs k (eq-eqb b b refl) (omega (arith, total, within))
          ∙ ap (holds_place span) e
          ∙ or_false (holds_place span k)
          ∙ ap (λ u. in_spans u k) (sym (ups_own record_at levels of_ span b v own))
      either each total false other =
          let cs : List Cell = raw_cells (served [] (cells_within record_at levels) r) b r in
          other_tested of_ b 0 (holds_place span) cs k other
          ∙ raw_up (served [] (cells_within record_at levels) r) (inner_ups record_at levels of_ span r) of_ span b r k each
          ∙ ap (λ u. in_spans u k) (sym (ups_other record_at levels of_ span b v r is other))
