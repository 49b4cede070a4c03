-- What the members from one on show, by where they stand.
use Rattle.std.proofs.Common.{◌≡◌, ℕ, zero, suc, ◌+◌, ◌-◌, ◌<◌, ◌≤◌, ◌⊎◌, List, [], ◌∷◌, ◌++◌, length, take, drop, Some, None, Option, inl, inr, refl, sym, ap, ◌∙◌, arith}
use Rattle.std.specs.Prelude.{slice_get, min, sum_by, option_map}
use Rattle.std.specs.Option.{option_map_or}
use Rattle.std.proofs.lemmas.List.{drop_all}
use Rattle.std.proofs.lemmas.List.Sums.{sum_by-cons}
use Rattle.std.proofs.lemmas.Bool.{lt-ltb, le-ltb}
use Rattle.ed_base.specs.declared.edit.Span.{Span}
use Rattle.ed_base.specs.declared.piece.Member.{Member}
use Rattle.ed_base.specs.Numbers.{or_else}
use Rattle.ed_base.specs.Spans.{end_of}
use Rattle.ed_layers.specs.Records.{member_len, members_len, placement}
use Rattle.ed_map.specs.Layers.{EachTracked}
use Rattle.ed_map.specs.Down.{down_member, down_members, place_member, place_members}
use Rattle.ed_map.specs.Up.{up_member, up_members, first_member, first_members}

-- ---- where members stand

-- where the member of this index begins
abbrev pub start_of : List Member → ℕ → ℕ
start_of ms i = members_len (take i ms)

pub start_next : (ms : List Member) (i : ℕ) (m : Member) → slice_get ms i ≡ Some m → start_of ms (suc i) ≡ start_of ms i + member_len m
start_next [] i m is = absurd (cc)
start_next (x ∷ xs) zero m is = let e : x ≡ m = cc in sum_by-cons member_len x [] ∙ omega (arith, ap member_len e)
start_next (x ∷ xs) (suc i) m is = sum_by-cons member_len x (take (suc i) xs) ∙ omega (arith, start_next xs i m is, sum_by-cons member_len x (take i xs))

end_here : (ms : List Member) (i : ℕ) → i < length ms → end_of (placement ms i) ≡ start_of ms (suc i)
end_here [] i below = absurd (omega arith)
end_here (m ∷ ms) zero below = omega (arith, sum_by-cons member_len m [])
end_here (m ∷ ms) (suc i) below =
    let e : sum_by member_len (take i ms) + option_map_or member_len (slice_get ms i) 0 ≡ start_of ms (suc i) = end_here ms i (omega arith) in
    omega (arith, e, sum_by-cons member_len m (take i ms), sum_by-cons member_len m (take (suc i) ms))

pub end_is : (ms : List Member) (i : ℕ) → i < length ms → end_of (placement ms i) ≡ start_of ms (i + 1)
end_is ms i below = let e : suc i ≡ i + 1 = omega arith in end_here ms i below ∙ ap (start_of ms) e

pub place_len : (ms : List Member) (i : ℕ) (m : Member) → slice_get ms i ≡ Some m → (placement ms i).len ≡ member_len m
place_len ms i m is = ap (λ o. option_map_or member_len o 0) is

pub get_below : {X : Type 0} (ms : List X) (i : ℕ) (m : X) → slice_get ms i ≡ Some m → i < length ms
get_below [] i m is = absurd (cc)
get_below (x ∷ xs) zero m is = omega arith
get_below (x ∷ xs) (suc i) m is = let r : i < length xs = get_below xs i m is in omega (arith, r)

pub drop_get : (ms : List Member) (i : ℕ) (m : Member) → slice_get ms i ≡ Some m → drop i ms ≡ m ∷ drop (suc i) ms
drop_get [] i m is = absurd (cc)
drop_get (x ∷ xs) zero m is = let e : x ≡ m = cc in ap (λ y. y ∷ xs) e
drop_get (x ∷ xs) (suc i) m is = drop_get xs i m is

-- what holds of a tracked member
abbrev pub HoldsOf : (ℕ → Span → Type 0) → Member → Type 0
HoldsOf P (Member.Literal units) = Unit {0}
HoldsOf P (Member.Tracked source bounds mode) = P source bounds

pub each_at : (P : ℕ → Span → Type 0) (ms : List Member) (i : ℕ) (m : Member) → slice_get ms i ≡ Some m → EachTracked P ms → HoldsOf P m
each_at P [] i m is each = absurd (cc)
each_at P (Member.Literal units ∷ ms) zero m is each = let e : Member.Literal units ≡ m = cc in rw (sym e) tt
each_at P (Member.Tracked source bounds mode ∷ ms) zero m is each = let e : Member.Tracked source bounds mode ≡ m = cc in rw (sym e) each.0
each_at P (Member.Literal units ∷ ms) (suc i) m is each = each_at P ms i m is each
each_at P (Member.Tracked source bounds mode ∷ ms) (suc i) m is each = each_at P ms i m is each.1

-- ---- down

abbrev pub down_rest : (ℕ → ℕ → ℕ → List Span) → List Member → ℕ → ℕ → ℕ → List Span
down_rest inner ms a z i = down_members inner (drop i ms) (a - start_of ms i) (z - start_of ms i)

down_past : (inner : ℕ → ℕ → ℕ → List Span) (m : Member) (a z : ℕ) → (member_len m ≤ a) ⊎ (z ≤ a) → down_member inner m a z ≡ []
down_past inner (Member.Literal units) a z past = refl
down_past inner (Member.Tracked source bounds mode) a z past = elim past [
  | inl p ↦ rw (le-ltb a (min z bounds.len) (omega (arith, p))) refl
  | inr p ↦ rw (le-ltb a (min z bounds.len) (omega (arith, p))) refl
]

pub down_skip : (inner : ℕ → ℕ → ℕ → List Span) (ms : List Member) (a z i : ℕ) → start_of ms i ≤ a → down_members inner ms a z ≡ down_rest inner ms a z i
down_skip inner ms a z zero past = let e : a - 0 ≡ a = omega arith in let d : z - 0 ≡ z = omega arith in rw (e, d) refl
down_skip inner [] a z (suc i) past = refl
down_skip inner (m ∷ ms) a z (suc i) past =
    let s : start_of (m ∷ ms) (suc i) ≡ member_len m + start_of ms i = sum_by-cons member_len m (take i ms) in
    let e : a - member_len m - start_of ms i ≡ a - start_of (m ∷ ms) (suc i) = omega (arith, s) in
    let d : z - member_len m - start_of ms i ≡ z - start_of (m ∷ ms) (suc i) = omega (arith, s) in
    ap (λ ss. ss ++ down_members inner ms (a - member_len m) (z - member_len m)) (down_past inner m a z (inl (omega (arith, s, past))))
    ∙ down_skip inner ms (a - member_len m) (z - member_len m) i (omega (arith, s, past))
    ∙ ap (λ x. down_members inner (drop i ms) x (z - member_len m - start_of ms i)) e ∙ ap (λ x. down_members inner (drop i ms) (a - start_of (m ∷ ms) (suc i)) x) d

pub down_next : (inner : ℕ → ℕ → ℕ → List Span) (ms : List Member) (a z i : ℕ) (m : Member) → slice_get ms i ≡ Some m → down_rest inner ms a z i ≡ down_member inner m (a - start_of ms i) (z - start_of ms i) ++ down_rest inner ms a z (suc i)
down_next inner ms a z i m is =
    let e : a - start_of ms i - member_len m ≡ a - start_of ms (suc i) = omega (arith, start_next ms i m is) in
    let d : z - start_of ms i - member_len m ≡ z - start_of ms (suc i) = omega (arith, start_next ms i m is) in
    ap (λ xs. down_members inner xs (a - start_of ms i) (z - start_of ms i)) (drop_get ms i m is)
    ∙ ap (λ x. down_member inner m (a - start_of ms i) (z - start_of ms i) ++ down_members inner (drop (suc i) ms) x (z - start_of ms i - member_len m)) e
    ∙ ap (λ x. down_member inner m (a - start_of ms i) (z - start_of ms i) ++ down_members inner (drop (suc i) ms) (a - start_of ms (suc i)) x) d

down_nothing : (inner : ℕ → ℕ → ℕ → List Span) (ms : List Member) (a z : ℕ) → z ≤ 0 → down_members inner ms a z ≡ []
down_nothing inner [] a z none = refl
down_nothing inner (m ∷ ms) a z none = rw (down_past inner m a z (inr (omega (arith, none)))) (down_nothing inner ms (a - member_len m) (z - member_len m) (omega (arith, none)))

pub down_end : (inner : ℕ → ℕ → ℕ → List Span) (ms : List Member) (a z i : ℕ) → z ≤ start_of ms i → down_rest inner ms a z i ≡ []
down_end inner ms a z i end = down_nothing inner (drop i ms) (a - start_of ms i) (z - start_of ms i) (omega (arith, end))

pub down_all : (inner : ℕ → ℕ → ℕ → List Span) (ms : List Member) (a z i : ℕ) → length ms ≤ i → down_rest inner ms a z i ≡ []
down_all inner ms a z i all = ap (λ xs. down_members inner xs (a - start_of ms i) (z - start_of ms i)) (drop_all i ms all)

-- ---- one place

pub place_at : (inner : ℕ → ℕ → Option ℕ) (ms : List Member) (k i : ℕ) (m : Member) → slice_get ms i ≡ Some m → start_of ms i ≤ k → k < start_of ms (suc i) → place_members inner ms k ≡ place_member inner m (k - start_of ms i)
place_at inner [] k i m is low high = absurd (cc)
place_at inner (x ∷ xs) k zero m is low high =
    let e : x ≡ m = cc in
    let n : k - 0 ≡ k = omega arith in
    let below : k < member_len x = omega (arith, high, sum_by-cons member_len x []) in
    rw (lt-ltb k (member_len x) below, n) (ap (λ y. place_member inner y k) e)
place_at inner (x ∷ xs) k (suc i) m is low high =
    let s : start_of (x ∷ xs) (suc i) ≡ member_len x + start_of xs i = sum_by-cons member_len x (take i xs) in
    let t : start_of (x ∷ xs) (suc (suc i)) ≡ member_len x + start_of xs (suc i) = sum_by-cons member_len x (take (suc i) xs) in
    let e : k - member_len x - start_of xs i ≡ k - start_of (x ∷ xs) (suc i) = omega (arith, s) in
    rw (le-ltb k (member_len x) (omega (arith, s, low))) (place_at inner xs (k - member_len x) i m is (omega (arith, s, low)) (omega (arith, t, high)) ∙ ap (place_member inner m) e)

-- ---- the first place of a unit

abbrev pub first_rest : (ℕ → ℕ → ℕ → Option ℕ) → List Member → ℕ → ℕ → ℕ → Option ℕ
first_rest inner ms a z i = first_members inner (drop i ms) (a - start_of ms i) (z - start_of ms i)

-- counted from where the part begins
abbrev pub first_from : (ℕ → ℕ → ℕ → Option ℕ) → List Member → ℕ → ℕ → ℕ → Option ℕ
first_from inner ms a z i = option_map (λ k. min z (start_of ms i) - a + k) (first_rest inner ms a z i)

first_past : (inner : ℕ → ℕ → ℕ → Option ℕ) (m : Member) (a z : ℕ) → (member_len m ≤ a) ⊎ (z ≤ a) → first_member inner m a z ≡ None
first_past inner (Member.Literal units) a z past = refl
first_past inner (Member.Tracked source bounds mode) a z past = elim past [
  | inl p ↦ rw (le-ltb a (min z bounds.len) (omega (arith, p))) refl
  | inr p ↦ rw (le-ltb a (min z bounds.len) (omega (arith, p))) refl
]

same_map : (n m : ℕ) (o : Option ℕ) → n ≡ m → option_map (λ k. n + k) o ≡ option_map (λ k. m + k) o
same_map n m o e = ap (λ x. option_map (λ k. x + k) o) e

map_none : (n : ℕ) (o : Option ℕ) → n ≡ 0 → option_map (λ k. n + k) o ≡ o
map_none n None e = refl
map_none n (Some k) e = ap Some (omega (arith, e))

map_twice : (n m : ℕ) (o : Option ℕ) → option_map (λ k. n + k) (option_map (λ k. m + k) o) ≡ option_map (λ k. (n + m) + k) o
map_twice n m None = refl
map_twice n m (Some k) = ap Some (omega arith)

rest_skip : (inner : ℕ → ℕ → ℕ → Option ℕ) (ms : List Member) (a z i : ℕ) → start_of ms i ≤ a → first_members inner ms a z ≡ first_rest inner ms a z i
rest_skip inner ms a z zero past = let e : a - 0 ≡ a = omega arith in let d : z - 0 ≡ z = omega arith in rw (e, d) refl
rest_skip inner [] a z (suc i) past = refl
rest_skip inner (m ∷ ms) a z (suc i) past =
    let s : start_of (m ∷ ms) (suc i) ≡ member_len m + start_of ms i = sum_by-cons member_len m (take i ms) in
    let e : a - member_len m - start_of ms i ≡ a - start_of (m ∷ ms) (suc i) = omega (arith, s) in
    let d : z - member_len m - start_of ms i ≡ z - start_of (m ∷ ms) (suc i) = omega (arith, s) in
    ap (λ o. or_else o (option_map (λ k. min z (member_len m) - a + k) (first_members inner ms (a - member_len m) (z - member_len m)))) (first_past inner m a z (inl (omega (arith, s, past))))
    ∙ map_none (min z (member_len m) - a) (first_members inner ms (a - member_len m) (z - member_len m)) (omega (arith, s, past))
    ∙ rest_skip inner ms (a - member_len m) (z - member_len m) i (omega (arith, s, past))
    ∙ ap (λ x. first_members inner (drop i ms) x (z - member_len m - start_of ms i)) e ∙ ap (λ x. first_members inner (drop i ms) (a - start_of (m ∷ ms) (suc i)) x) d

pub first_skip : (inner : ℕ → ℕ → ℕ → Option ℕ) (ms : List Member) (a z i : ℕ) → start_of ms i ≤ a → first_members inner ms a z ≡ first_from inner ms a z i
first_skip inner ms a z i past = rest_skip inner ms a z i past ∙ sym (map_none (min z (start_of ms i) - a) (first_rest inner ms a z i) (omega (arith, past)))

rest_next : (inner : ℕ → ℕ → ℕ → Option ℕ) (ms : List Member) (a z i : ℕ) (m : Member) → slice_get ms i ≡ Some m →
    first_rest inner ms a z i ≡ or_else (first_member inner m (a - start_of ms i) (z - start_of ms i)) (option_map (λ k. min (z - start_of ms i) (member_len m) - (a - start_of ms i) + k) (first_rest inner ms a z (suc i)))
rest_next inner ms a z i m is =
    let e : a - start_of ms i - member_len m ≡ a - start_of ms (suc i) = omega (arith, start_next ms i m is) in
    let d : z - start_of ms i - member_len m ≡ z - start_of ms (suc i) = omega (arith, start_next ms i m is) in
    let A : ℕ = a - start_of ms i in
    let Z : ℕ = z - start_of ms i in
    ap (λ xs. first_members inner xs A Z) (drop_get ms i m is)
    ∙ ap (λ x. or_else (first_member inner m A Z) (option_map (λ k. min Z (member_len m) - A + k) (first_members inner (drop (suc i) ms) x (Z - member_len m)))) e
    ∙ ap (λ x. or_else (first_member inner m A Z) (option_map (λ k. min Z (member_len m) - A + k) (first_members inner (drop (suc i) ms) (a - start_of ms (suc i)) x))) d

-- where the member has it
pub first_found : (inner : ℕ → ℕ → ℕ → Option ℕ) (ms : List Member) (a z i k : ℕ) (m : Member) → slice_get ms i ≡ Some m → start_of ms i < z → first_member inner m (a - start_of ms i) (z - start_of ms i) ≡ Some k → first_from inner ms a z i ≡ Some (start_of ms i - a + k)
first_found inner ms a z i k m is within found =
    let n : min z (start_of ms i) - a ≡ start_of ms i - a = omega (arith, within) in
    ap (option_map (λ j. min z (start_of ms i) - a + j)) (rest_next inner ms a z i m is ∙ ap (λ o. or_else o (option_map (λ j. min (z - start_of ms i) (member_len m) - (a - start_of ms i) + j) (first_rest inner ms a z (suc i)))) found)
    ∙ ap (λ x. Some (x + k)) n

-- where it doesn't
pub first_next : (inner : ℕ → ℕ → ℕ → Option ℕ) (ms : List Member) (a z i : ℕ) (m : Member) → slice_get ms i ≡ Some m → start_of ms i < z → first_member inner m (a - start_of ms i) (z - start_of ms i) ≡ None → first_from inner ms a z i ≡ first_from inner ms a z (suc i)
first_next inner ms a z i m is within none =
    let n : (min z (start_of ms i) - a) + (min (z - start_of ms i) (member_len m) - (a - start_of ms i)) ≡ min z (start_of ms (suc i)) - a = omega (arith, within, start_next ms i m is) in
    ap (option_map (λ j. min z (start_of ms i) - a + j)) (rest_next inner ms a z i m is ∙ ap (λ o. or_else o (option_map (λ j. min (z - start_of ms i) (member_len m) - (a - start_of ms i) + j) (first_rest inner ms a z (suc i)))) none)
    ∙ map_twice (min z (start_of ms i) - a) (min (z - start_of ms i) (member_len m) - (a - start_of ms i)) (first_rest inner ms a z (suc i))
    ∙ same_map ((min z (start_of ms i) - a) + (min (z - start_of ms i) (member_len m) - (a - start_of ms i))) (min z (start_of ms (suc i)) - a) (first_rest inner ms a z (suc i)) n

first_nothing : (inner : ℕ → ℕ → ℕ → Option ℕ) (ms : List Member) (a z : ℕ) → z ≤ 0 → first_members inner ms a z ≡ None
first_nothing inner [] a z none = refl
first_nothing inner (m ∷ ms) a z none = rw (first_past inner m a z (inr (omega (arith, none))), first_nothing inner ms (a - member_len m) (z - member_len m) (omega (arith, none))) refl

pub first_end : (inner : ℕ → ℕ → ℕ → Option ℕ) (ms : List Member) (a z i : ℕ) → z ≤ start_of ms i → first_from inner ms a z i ≡ None
first_end inner ms a z i end = ap (option_map (λ k. min z (start_of ms i) - a + k)) (first_nothing inner (drop i ms) (a - start_of ms i) (z - start_of ms i) (omega (arith, end)))

pub first_all : (inner : ℕ → ℕ → ℕ → Option ℕ) (ms : List Member) (a z i : ℕ) → length ms ≤ i → first_from inner ms a z i ≡ None
first_all inner ms a z i all = ap (λ xs. option_map (λ k. min z (start_of ms i) - a + k) (first_members inner xs (a - start_of ms i) (z - start_of ms i))) (drop_all i ms all)

-- ---- up

abbrev pub up_rest : (ℕ → List Span) → List Member → ℕ → List Span
up_rest inner ms i = up_members inner (drop i ms) (start_of ms i)

pub up_next : (inner : ℕ → List Span) (ms : List Member) (i : ℕ) (m : Member) → slice_get ms i ≡ Some m → up_rest inner ms i ≡ up_member inner m (start_of ms i) ++ up_rest inner ms (suc i)
up_next inner ms i m is = ap (λ xs. up_members inner xs (start_of ms i)) (drop_get ms i m is) ∙ ap (λ x. up_member inner m (start_of ms i) ++ up_members inner (drop (suc i) ms) x) (sym (start_next ms i m is))

pub up_all : (inner : ℕ → List Span) (ms : List Member) (i : ℕ) → length ms ≤ i → up_rest inner ms i ≡ []
up_all inner ms i all = ap (λ xs. up_members inner xs (start_of ms i)) (drop_all i ms all)
