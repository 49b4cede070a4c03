-- The members of an elision buffer are the runs of what it shows: they stand together in its source.
use Rattle.std.proofs.Common.{◌≡◌, ℕ, ◌+◌, ◌<◌, ◌≤◌, Bool, true, false, ◌&&◌, ◌||◌, List, [], ◌∷◌, length, map, None, Some, refl, ap, ◌∙◌, arith, subst}
use Rattle.std.specs.Prelude.{filter, find, nat_le, option_map}
use Rattle.std.specs.List.{AllByRecursion as Each, enumerate_from, range_with_len}
use Rattle.std.proofs.lemmas.Bool.{eq-eqb}
use Rattle.std.proofs.lemmas.Bool.Decides.{nat_tests}
use Rattle.std.proofs.lemmas.List.{length-append, length-map}
use Rattle.std.proofs.lemmas.List.FromFn.{length-range_with_len}
use Rattle.std.proofs.lemmas.List.Sums.{sum_by-cons}
use Rattle.ed_base.specs.declared.Span.{Span}
use Rattle.ed_base.specs.Numbers.{places}
use Rattle.ed_base.specs.Runs.{runs}
use Rattle.ed_base.specs.Spans.{end_of}
use Rattle.ed_layers.specs.CarrierStep.{slots}
use Rattle.ed_layers.specs.Order.{conflict, fails_to_cover, first_conflict, in_order, stands_before}
use Rattle.ed_layers.specs.Records.{Record, base, elision, is_shown, member_len, members_len, members_of, projection, sources_of, tracked, version_in}
use Rattle.ed_stock.specs.Stock.{Stock, text_now}
use Rattle.ed_risen.specs.Rising.{EndsIn, Inside, StandInside}
use Rattle.ed_risen.proofs.Lengths.{length_slots}
use Rattle.ed_risen.proofs.Runs.{AreInLine, places_of, runs_end, runs_in_line, runs_places}

-- ---- spans in line as members

pub behind_in_order : (i j : ℕ) (x y : Span) → i < j → end_of x ≤ y.start → (in_order (i, x) (j, y) ≡ true) × (in_order (j, y) (i, x) ≡ true)
behind_in_order i j x y less behind =
    let first : stands_before (i, x) (j, y) ≡ true = grind (arith, nat_tests) in
    let ends : nat_le (end_of x) y.start ≡ true = grind (arith, nat_tests) in
    (rw (first, ends) refl, rw (first, ends) (or_true (stands_before (j, y) (i, x) && nat_le (end_of y) x.start)))
  where
    or_true : (b : Bool) → (b || true) ≡ true
    or_true true = refl
    or_true false = refl

none_behind : (source i j : ℕ) (x : Span) (ys : List Span) → i < j → Each (λ y. end_of x ≤ y.start) ys → find (conflict (i, tracked source x)) (enumerate_from j (map (tracked source) ys)) ≡ None
none_behind source i j x [] less behind = refl
none_behind source i j x (y ∷ ys) less behind = rw (eq-eqb source source refl, (behind_in_order i j x y less behind.0).0) (none_behind source i (j + 1) x ys (omega arith) behind.1)

no_conflict : (source i : ℕ) (xs : List Span) → AreInLine xs → first_conflict (enumerate_from i (map (tracked source) xs)) ≡ None
no_conflict source i [] line = refl
no_conflict source i (x ∷ xs) line = rw (none_behind source i (i + 1) x xs (omega arith) line.0) (no_conflict source (i + 1) xs line.1)

none_covers : (f : ℕ → ℕ) (source i : ℕ) (xs : List Span) → find (λ im. fails_to_cover f im.1) (enumerate_from i (map (tracked source) xs)) ≡ None
none_covers f source i [] = refl
none_covers f source i (x ∷ xs) = none_covers f source (i + 1) xs

-- ---- they stand inside

named_alone : (source version : ℕ) → version_in ((source, version) ∷ []) source ≡ Some version
named_alone source version = rw (eq-eqb source source refl) refl

module _ (s : Stock) (flags : List Bool) (source version : ℕ) (inside : Inside s (elision flags source version)) where
  end_inside : (xs : List Span) → Each (λ x. end_of x ≤ length flags) xs → Each (EndsIn s ((source, version) ∷ [])) (map (tracked source) xs)
  end_inside [] h = tt
  end_inside (x ∷ xs) h = ((named_alone source version ∙ ap Some inside.0, subst (λ n. end_of x ≤ n) inside.1 h.0), end_inside xs h.1)

  runs_stand : StandInside s ((source, version) ∷ []) (members_of (elision flags source version))
  runs_stand = record {
    ends = end_inside (runs (is_shown flags) (length flags)) (runs_end (is_shown flags) (length flags));
    apart = ap (option_map _) (no_conflict source 0 (runs (is_shown flags) (length flags)) (runs_in_line (is_shown flags) (length flags)));
    cover = ap (option_map _) (none_covers (λ b. length (text_now s b)) source 0 (runs (is_shown flags) (length flags)));
  }

-- The members of every record that is inside stand inside their sources.
pub stands : (s : Stock) (r : Record) → Inside s r → StandInside s (sources_of r) (members_of r)
stands s (base text reiterated) inside = record { ends = tt; apart = refl; cover = refl }
stands s (projection members sources) inside = inside
stands s (elision flags source version) inside = runs_stand s flags source version inside

-- ---- how many units they show

length_places : (source : ℕ) (xs : List Span) → length (places_of xs) ≡ members_len (map (tracked source) xs)
length_places source [] = refl
length_places source (x ∷ xs) =
    omega (arith, length-append (range_with_len x.start x.len) (places_of xs), length-range_with_len x.start x.len, length_places source xs, sum_by-cons member_len (tracked source x) (map (tracked source) xs))

-- A record has a unit for each that its members show.
pub slots_len : (r : Record) → length (slots r) ≡ members_len (members_of r)
slots_len (base text reiterated) = refl
slots_len (projection members sources) = length_slots members sources
slots_len (elision flags source version) =
    length-map (filter (is_shown flags) (places (length flags))) _
    ∙ ap length (runs_places (is_shown flags) (length flags))
    ∙ length_places source (runs (is_shown flags) (length flags))
