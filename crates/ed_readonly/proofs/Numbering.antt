-- Regions whose numbers rise: more of them, fewer of them, and where one stands.
use Rattle.std.proofs.Common.{◌≡◌, ℕ, zero, suc, ◌+◌, ◌<◌, ◌≤◌, Bool, true, false, not, cond, ◌||◌, List, [], ◌∷◌, ◌++◌, length, get_or, slice_index, refl, sym, ap, arith, nat_eq, nat_lt}
use Rattle.std.proofs.lemmas.Bool.Decides.{nat_tests}
use Rattle.std.specs.List.{AllWithin, filter, list_any, remove}
use Rattle.std.specs.List.Sorted.{IsNonDecreasingBy}
use Rattle.ed_base.specs.Denial.{Region, regions_after}
use Rattle.ed_base.specs.Step.{Step}
use Rattle.ed_readonly.specs.LiveRegions.{LiveRegions, AreNumbered, is_live, is_numbered, numbers, without_region}

pub numbered_earlier : (low later high : ℕ) (rs : List Region) → low ≤ later → AreNumbered later high rs → AreNumbered low high rs
numbered_earlier low later high [] below n = tt
numbered_earlier low later high (r ∷ rs) below n = (omega (arith, n.0), n.1, n.2)

-- one more under the next number
pub numbered_push : (low high : ℕ) (rs : List Region) (r : Region) → low ≤ high → r.number ≡ high → AreNumbered low high rs → AreNumbered low (high + 1) (rs ++ r ∷ [])
numbered_push low high [] r below is n = (omega (arith, is), omega (arith, is), tt)
numbered_push low high (x ∷ rs) r below is n = (n.0, omega (arith, n.1), numbered_push (x.number + 1) high rs r (omega (arith, n.1)) is n.2)

-- after a step of the text
pub numbered_after : (s : Step) (low high : ℕ) (rs : List Region) → AreNumbered low high rs → AreNumbered low high (regions_after s rs)
numbered_after s low high [] n = tt
numbered_after s low high (r ∷ rs) n = (n.0, n.1, numbered_after s (r.number + 1) high rs n.2)

-- where some are left out
pub numbered_filter : (p : Region → Bool) (low high : ℕ) (rs : List Region) → AreNumbered low high rs → AreNumbered low high (filter p rs)
numbered_filter p low high [] n = tt
numbered_filter p low high (r ∷ rs) n =
    let rest : AreNumbered (r.number + 1) high (filter p rs) = numbered_filter p (r.number + 1) high rs n.2 in
    let earlier : AreNumbered low high (filter p rs) = numbered_earlier low (r.number + 1) high (filter p rs) (omega (arith, n.0)) rest in
    elim (p r) as (λ b. AreNumbered low high (cond b (r ∷ filter p rs) (filter p rs))) [ true ↦ (n.0, n.1, rest) | false ↦ earlier ]

numbered_low : (low high : ℕ) (rs : List Region) (i : ℕ) (d : Region) → AreNumbered low high rs → i < length rs → low ≤ (get_or rs i d).number
numbered_low low high [] i d n within = absurd (omega arith)
numbered_low low high (r ∷ rs) zero d n within = n.0
numbered_low low high (r ∷ rs) (suc i) d n within =
    let rest : r.number + 1 ≤ (get_or rs i d).number = numbered_low (r.number + 1) high rs i d n.2 (omega arith) in
    omega (arith, rest, n.0)

pub numbers_rise : (low high : ℕ) (rs : List Region) → AreNumbered low high rs → IsNonDecreasingBy (λ r. r.number) rs
numbers_rise low high [] n i j d order within = absurd (omega arith)
numbers_rise low high (r ∷ rs) n zero zero d order within = omega arith
numbers_rise low high (r ∷ rs) n zero (suc j) d order within =
    let rest : r.number + 1 ≤ (get_or rs j d).number = numbered_low (r.number + 1) high rs j d n.2 (omega arith) in
    omega (arith, rest)
numbers_rise low high (r ∷ rs) n (suc i) zero d order within = absurd (omega arith)
numbers_rise low high (r ∷ rs) n (suc i) (suc j) d order within = numbers_rise (r.number + 1) high rs n.2 i j d (omega arith) (omega arith)

above_differs : (a b : ℕ) → b < a → nat_eq a b ≡ false
above_differs a b above = grind (arith, nat_tests)

below_differs : (a b : ℕ) → nat_lt a b ≡ true → nat_eq a b ≡ false
below_differs a b below = grind (arith, nat_tests)

is_above : (a b : ℕ) → nat_lt a b ≡ false → nat_eq a b ≡ false → b < a
is_above a b not_below differs = grind (arith, nat_tests)

neither : (a b : Bool) → a ≡ false → b ≡ false → (a || b) ≡ false
neither a b x y = rw (x, y) refl

-- no number from one on is below it
none_before : (low high : ℕ) (rs : List Region) (number : ℕ) → number < low → AreNumbered low high rs → list_any (is_numbered number) rs ≡ false
none_before low high [] number below n = refl
none_before low high (r ∷ rs) number below n =
    neither (is_numbered number r) (list_any (is_numbered number) rs) (above_differs r.number number (omega (arith, n.0))) (none_before (r.number + 1) high rs number (omega (arith, n.0)) n.2)

-- A number that isn't the one at the place that parts the lower ones from the others isn't there.
pub absent : (low high : ℕ) (rs : List Region) (number at : ℕ) → AreNumbered low high rs → at ≤ length rs → AllWithin (λ r. nat_lt r.number number ≡ true) rs 0 at → AllWithin (λ r. nat_lt r.number number ≡ false) rs at (length rs) → ((d : Region) → at < length rs → nat_eq (get_or rs at d).number number ≡ false) → list_any (is_numbered number) rs ≡ false
absent low high [] number at n within before after differs = refl
absent low high (r ∷ rs) number zero n within before after differs =
    let other : nat_eq r.number number ≡ false = differs r (omega arith) in
    let above : number < r.number = is_above r.number number (after zero r (omega arith) (omega arith)) other in
    neither (is_numbered number r) (list_any (is_numbered number) rs) other (none_before (r.number + 1) high rs number (omega arith) n.2)
absent low high (r ∷ rs) number (suc at) n within before after differs =
    neither (is_numbered number r) (list_any (is_numbered number) rs)
    (below_differs r.number number (before zero r (omega arith) (omega arith)))
    (absent (r.number + 1) high rs number at n.2 (omega arith)
    (λ k d from to. before (suc k) d (omega arith) (omega arith))
    (λ k d from to. after (suc k) d (omega arith) (omega arith))
    (λ d below. differs d (omega arith)))

keeps_one : (p : Region → Bool) (r : Region) (rs ys : List Region) → p r ≡ true → filter p rs ≡ ys → filter p (r ∷ rs) ≡ r ∷ ys
keeps_one p r rs ys passes rest = rw (passes, rest) refl

leaves_one : (p : Region → Bool) (r : Region) (rs ys : List Region) → p r ≡ false → filter p rs ≡ ys → filter p (r ∷ rs) ≡ ys
leaves_one p r rs ys fails rest = rw (fails, rest) refl

neither_first : (a b : Bool) → (a || b) ≡ false → a ≡ false
neither_first true b h = h
neither_first false b h = refl

neither_second : (a b : Bool) → (a || b) ≡ false → b ≡ false
neither_second true b h = absurd (cc)
neither_second false b h = h

-- where no region has the number, nothing is left out
pub filter_absent : (number : ℕ) (rs : List Region) → list_any (is_numbered number) rs ≡ false → filter (λ r. not (is_numbered number r)) rs ≡ rs
filter_absent number [] h = refl
filter_absent number (r ∷ rs) h =
    keeps_one (λ x. not (is_numbered number x)) r rs rs
    (ap not (neither_first (is_numbered number r) (list_any (is_numbered number) rs) h))
    (filter_absent number rs (neither_second (is_numbered number r) (list_any (is_numbered number) rs) h))

-- taking away a region that isn't there takes nothing away
pub without_absent : (t : LiveRegions) (number : ℕ) → is_live t number ≡ false → t ≡ without_region t number
without_absent t number gone = rw (filter_absent number t.regions gone) refl

-- the region at a place has the number there, whatever stands for a place that isn't there
pub number_at : (rs : List Region) (at number : ℕ) → at < length rs → slice_index (numbers rs) at ≡ number → (d : Region) → (get_or rs at d).number ≡ number
number_at [] at number within is d = absurd (omega arith)
number_at (r ∷ rs) zero number within is d = is
number_at (r ∷ rs) (suc at) number within is d = number_at rs at number (omega arith) is d

same_number : (a b : ℕ) → a ≡ b → nat_eq a b ≡ true
same_number a b is = grind (arith, nat_tests)

-- what is left where the region at a place goes is all but the one of its number
pub remove_at : (low high : ℕ) (rs : List Region) (number at : ℕ) → AreNumbered low high rs → at < length rs → ((d : Region) → (get_or rs at d).number ≡ number) → remove rs at ≡ filter (λ r. not (is_numbered number r)) rs
remove_at low high [] number at n within is = absurd (omega arith)
remove_at low high (r ∷ rs) number zero n within is =
    let here : r.number ≡ number = is r in
    sym (leaves_one (λ x. not (is_numbered number x)) r rs rs
    (ap not (same_number r.number number here))
    (filter_absent number rs (none_before (r.number + 1) high rs number (omega arith) n.2)))
remove_at low high (r ∷ rs) number (suc at) n within is =
    let later : r.number + 1 ≤ (get_or rs at r).number = numbered_low (r.number + 1) high rs at r n.2 (omega arith) in
    let there : (get_or rs at r).number ≡ number = is r in
    let differs : nat_eq r.number number ≡ false = below_differs r.number number (grind (arith, nat_tests)) in
    sym (keeps_one (λ x. not (is_numbered number x)) r rs (remove rs at)
    (ap not differs)
    (sym (remove_at (r.number + 1) high rs number at n.2 (omega arith) (λ d. is d))))
