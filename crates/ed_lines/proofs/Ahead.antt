-- The breaks of a text from a place on, and the lines that a pass has found up to it.
use Rattle.std.proofs.Common.{◌≡◌, ℕ, zero, suc, ◌+◌, ◌-◌, ◌<◌, ◌≤◌, Bool, true, false, cond, nat_eq, nat_lt, List, [], ◌∷◌, ◌++◌, length, get_or, Option, Some, None, refl, sym, subst, ap, ◌∙◌, append_assoc, add-one, inl, inr, arith}
use Rattle.std.specs.Prelude.{slice_get}
use Rattle.std.specs.Option.{option_map_or}
use Rattle.std.specs.List.{filter, range_with_len}
use Rattle.std.specs.List.Sorted.{IsNonDecreasingBy}
use Rattle.std.proofs.lemmas.Bool.{cases_Bool}
use Rattle.std.proofs.lemmas.Bool.Decides.{nat_tests}
use Rattle.std.proofs.lemmas.List.{get_or_push, length_push}
use Rattle.std.proofs.lemmas.List.Sorted.{IsNonDecreasingBy-push}
use Rattle.std.proofs.lemmas.Option.{slice_get_within}
use Rattle.ed_base.specs.declared.edit.LineSpan.{LineSpan}
use Rattle.ed_units.specs.Breaks.{is_at, break_len}
use Rattle.ed_lines.specs.Lines.{line, lines_from, lines}

-- the places from p on at which breaks begin
abbrev pub breaks_from : List ℕ → ℕ → List ℕ
breaks_from units p = filter (λ q. nat_lt 0 (break_len units q)) (range_with_len p (length units - p))

-- the length of a break has three cases, of which only the first is two
abbrev len_by : Bool → Bool → Bool → ℕ
len_by a b c = cond a (cond b 2 1) (cond c 1 0)

most : (a b c : Bool) → len_by a b c ≤ 2
most true true c = omega arith
most true false c = omega arith
most false b true = omega arith
most false b false = omega arith

two : (a b c : Bool) → len_by a b c ≡ 2 → (a ≡ true) × (b ≡ true)
two true true c h = (refl, refl)
two true false c h = absurd (omega arith)
two false b true h = absurd (omega arith)
two false b false h = absurd (omega arith)

is_some_unit : (u : ℕ) (o : Option ℕ) → option_map_or (nat_eq u) o false ≡ true → o ≡ Some u
is_some_unit u None h = cc
is_some_unit u (Some v) h = let e : v ≡ u = grind (arith, nat_tests) in ap (λ w. Some w) e

unit_at : (units : List ℕ) (p u : ℕ) → is_at units p u ≡ true → slice_get units p ≡ Some u
unit_at units p u h = is_some_unit u (slice_get units p) h

-- a break of two units is a carriage return and a line feed
pair_at : (units : List ℕ) (p : ℕ) → break_len units p ≡ 2 → (is_at units p 13 ≡ true) × (slice_get units (p + 1) ≡ Some 10)
pair_at units p h =
    let both = two (is_at units p 13) (is_at units (p + 1) 10) _ h in
    (both.0, unit_at units (p + 1) 10 both.1)

pub break_at_most_two : (units : List ℕ) (p : ℕ) → break_len units p ≤ 2
break_at_most_two units p = most (is_at units p 13) (is_at units (p + 1) 10) _

-- a break ends in the text
pub break_fits : (units : List ℕ) (p : ℕ) → p < length units → p + break_len units p ≤ length units
break_fits units p within = elim (cases_Bool (nat_eq (break_len units p) 2)) [
  | inl t ↦
      let is : break_len units p ≡ 2 = grind (arith, nat_tests) in
      let behind : p + 1 < length units = slice_get_within units (p + 1) 10 (pair_at units p is).1 in
      omega (arith, is, behind)
  | inr f ↦
      let not_two : break_len units p ≡ 2 → ⊥ = λ e. grind (arith, nat_tests) in
      omega (arith, break_at_most_two units p, not_two)
]

-- no break begins at its line feed
after_pair : (units : List ℕ) (p : ℕ) → break_len units p ≡ 2 → break_len units (suc p) ≡ 0
after_pair units p h =
    let pair = pair_at units p h in
    let feed : slice_get units (suc p) ≡ Some 10 = rw add-one at pair.1 in
    rw (feed, pair.0) refl

range_next : (p n : ℕ) → p < n → range_with_len p (n - p) ≡ p ∷ range_with_len (p + 1) (n - (p + 1))
range_next p n within =
    let e : n - p ≡ suc (n - (p + 1)) = omega arith in
    rw e refl

breaks_none : (units : List ℕ) (p : ℕ) → length units ≤ p → breaks_from units p ≡ []
breaks_none units p past =
    let e : length units - p ≡ 0 = omega arith in
    rw e refl

breaks_skip : (units : List ℕ) (p : ℕ) → p < length units → break_len units p ≡ 0 → breaks_from units p ≡ breaks_from units (p + 1)
breaks_skip units p within none = rw (range_next p (length units) within, none) refl

breaks_next : (units : List ℕ) (p : ℕ) → p < length units → 0 < break_len units p → breaks_from units p ≡ p ∷ breaks_from units (p + 1)
breaks_next units p within some =
    let t : nat_lt 0 (break_len units p) ≡ true = grind (arith, nat_tests) in
    rw (range_next p (length units) within, t) refl

-- behind a break the next one is looked for behind its last unit
breaks_here : (units : List ℕ) (p : ℕ) → p < length units → 0 < break_len units p → breaks_from units p ≡ p ∷ breaks_from units (p + break_len units p)
breaks_here units p within some = elim (cases_Bool (nat_eq (break_len units p) 2)) [
  | inl t ↦
      let is : break_len units p ≡ 2 = grind (arith, nat_tests) in
      let fits : p + 2 ≤ length units = rw is at (break_fits units p within) in
      let none : break_len units (p + 1) ≡ 0 = rw add-one (after_pair units p is) in
      let e : p + 1 + 1 ≡ p + 2 = omega arith in
      breaks_next units p within some ∙ ap (λ bs. p ∷ bs) (breaks_skip units (p + 1) (omega arith) none)
      ∙ ap (λ q. p ∷ breaks_from units q) e ∙ ap (λ n. p ∷ breaks_from units (p + n)) (sym is)
  | inr f ↦
      let not_two : break_len units p ≡ 2 → ⊥ = λ e. grind (arith, nat_tests) in
      let one : break_len units p ≡ 1 = omega (arith, break_at_most_two units p, not_two) in
      breaks_next units p within some ∙ ap (λ n. p ∷ breaks_from units (p + n)) (sym one)
]

-- The lines that were found up to a place, the next of which begins at `start`.
pub record Found (units : List ℕ) (found : List LineSpan) (start at : ℕ) : Type 0 where
  pub within : at ≤ length units
  pub behind : start ≤ at
  pub whole : found ++ lines_from units start (breaks_from units at) ≡ lines units
  pub rising : IsNonDecreasingBy (λ l. l.span.start) found
  pub below : (d : LineSpan) → 0 < length found → (get_or found (length found - 1) d).span.start ≤ start
  pub few : length found ≤ at

pub found_none : (units : List ℕ) → Found units [] 0 0
found_none units = record {
  within = omega arith;
  behind = omega arith;
  whole = let e : length units - 0 ≡ length units = omega arith in rw e refl;
  rising = λ i j d le lt. absurd (omega arith);
  below = λ d some. absurd (omega arith);
  few = omega arith;
}

pub found_skip : (units : List ℕ) (found : List LineSpan) (start at : ℕ) → at < length units → break_len units at ≡ 0 → Found units found start at → Found units found start (at + 1)
found_skip units found start at within none f = record {
  within = omega arith;
  behind = omega (arith, f.behind);
  whole = rw (← breaks_skip units at within none) f.whole;
  rising = f.rising;
  below = f.below;
  few = omega (arith, f.few);
}

-- a stretch without a break
found_past : (units : List ℕ) (found : List LineSpan) (start at n : ℕ) → at + n ≤ length units → ((q : ℕ) → at ≤ q → q < at + n → break_len units q ≡ 0) → Found units found start at → Found units found start (at + n)
found_past units found start at zero within none f =
    let P : ℕ → Type 0 = Found units found start in
    let e : at ≡ at + zero = omega arith in
    subst P e f
found_past units found start at (suc n) within none f =
    let P : ℕ → Type 0 = Found units found start in
    let e : at + n + 1 ≡ at + suc n = omega arith in
    subst P e (found_skip units found start (at + n) (omega arith) (none (at + n) (omega arith) (omega arith)) (found_past units found start at n (omega arith) (λ q le lt. none q le (omega arith)) f))

pub found_up_to : (units : List ℕ) (found : List LineSpan) (start at next : ℕ) → at ≤ next → next ≤ length units → ((q : ℕ) → at ≤ q → q < next → break_len units q ≡ 0) → Found units found start at → Found units found start next
found_up_to units found start at next later within none f =
    let P : ℕ → Type 0 = Found units found start in
    let e : at + (next - at) ≡ next = omega (arith, later) in
    subst P e (found_past units found start at (next - at) (omega arith) (λ q le lt. none q le (omega arith)) f)

last_pushed : (found : List LineSpan) (l d : LineSpan) → get_or (found ++ l ∷ []) (length (found ++ l ∷ []) - 1) d ≡ l
last_pushed found l d =
    let e : length found ≡ length (found ++ l ∷ []) - 1 = omega (arith, length_push found l) in
    get_or_push found l d (length (found ++ l ∷ []) - 1) e

pub found_line : (units : List ℕ) (found : List LineSpan) (start at : ℕ) → at < length units → 0 < break_len units at → Found units found start at → Found units (found ++ line start at (break_len units at) ∷ []) (at + break_len units at) (at + break_len units at)
found_line units found start at within some f = record {
  within = break_fits units at within;
  behind = omega arith;
  whole = rw append_assoc (rw (breaks_here units at within some) at f.whole);
  rising = IsNonDecreasingBy-push (λ l. l.span.start) found (line start at (break_len units at)) f.rising f.below;
  below = λ d more. rw (last_pushed found (line start at (break_len units at)) d) (omega (arith, f.behind));
  few = omega (arith, f.few, length_push found (line start at (break_len units at)));
}

-- What holds of the list with the last line.
pub record AllFound (units : List ℕ) (all : List LineSpan) : Type 0 where
  pub lines : all ≡ lines units
  pub rising : IsNonDecreasingBy (λ l. l.span.start) all
  pub few : length all ≤ length units + 1

pub found_all : (units : List ℕ) (found : List LineSpan) (start at : ℕ) → length units ≤ at → Found units found start at → AllFound units (found ++ line start (length units) 0 ∷ [])
found_all units found start at past f = record {
  lines = rw (breaks_none units at past) at f.whole;
  rising = IsNonDecreasingBy-push (λ l. l.span.start) found (line start (length units) 0) f.rising f.below;
  few = omega (arith, f.few, f.within, length_push found (line start (length units) 0));
}
