-- Where a slot of a member stands in a projection.
use Rattle.std.proofs.Common.{◌≡◌, ◌≢◌, ℕ, zero, suc, ◌+◌, ◌-◌, ◌<◌, ◌≤◌, ◌&&◌, Bool, true, false, List, [], ◌∷◌, ◌++◌, length, map, Option, Some, None, inl, inr, refl, sym, ap, ◌∙◌, arith, length-append}
use Rattle.std.specs.Prelude.{flat_map, nat_eq, nat_lt, nat_le, position, if◌then◌else◌}
use Rattle.std.specs.List.{enumerate_from, position_from, range_with_len}
use Rattle.std.proofs.lemmas.List.{length-map}
use Rattle.std.proofs.lemmas.List.FromFn.{length-range_with_len}
use Rattle.std.proofs.lemmas.List.Sums.{sum_by-cons}
use Rattle.std.proofs.lemmas.Iterator.Adapters.{position_from-zero}
use Rattle.std.proofs.lemmas.Bool.{cases_Bool, eq-eqb}
use Rattle.std.proofs.lemmas.Bool.Decides.{eqb_tells, nat_tests}
use Rattle.ed_base.specs.declared.edit.Span.{Span}
use Rattle.ed_base.specs.declared.piece.Member.{Member}
use Rattle.ed_base.specs.Numbers.{or_else}
use Rattle.ed_base.specs.Spans.{holds_place}
use Rattle.ed_layers.specs.Records.{member_len, members_len}
use Rattle.ed_layers.specs.CarrierStep.{Slot, is_same_slot, member_slots}
use Rattle.ed_project.specs.Kept.{bounds_of}

abbrev pub slot_of : ℕ → Option ℕ → ℕ → Slot
slot_of i source p = record { member = i; source = source; place = p }

abbrev pub source_of : Member → Option ℕ
source_of (Member.Literal units) = None
source_of (Member.Tracked source bounds mode) = Some source

abbrev pub slots_in : ℕ → Option ℕ → Span → List Slot
slots_in i source s = map (slot_of i source) (range_with_len s.start s.len)

pub slots_are : (i : ℕ) (m : Member) → member_slots (i, m) ≡ slots_in i (source_of m) (bounds_of m)
slots_are i (Member.Literal units) = refl
slots_are i (Member.Tracked source bounds mode) = refl

pub bounds_len : (m : Member) → (bounds_of m).len ≡ member_len m
bounds_len (Member.Literal units) = refl
bounds_len (Member.Tracked source bounds mode) = refl

pub length_slots : (i : ℕ) (m : Member) → length (member_slots (i, m)) ≡ member_len m
length_slots i m =
    ap length (slots_are i m) ∙ length-map (range_with_len (bounds_of m).start (bounds_of m).len) (slot_of i (source_of m)) ∙ length-range_with_len (bounds_of m).start (bounds_of m).len ∙ bounds_len m

abbrev pub slots_from : ℕ → List Member → List Slot
slots_from y ms = flat_map member_slots (enumerate_from y ms)

pub length_slots_from : (y : ℕ) (ms : List Member) → length (slots_from y ms) ≡ members_len ms
length_slots_from y [] = refl
length_slots_from y (m ∷ ms) =
    omega (arith, length-append (member_slots (y, m)) (slots_from (y + 1) ms), length_slots y m, length_slots_from (y + 1) ms, sum_by-cons member_len m ms)

-- where a place of a span stands that begins at k
abbrev pub where_in : Span → ℕ → ℕ → Option ℕ
where_in s k p = if holds_place s p then Some (k + (p - s.start)) else None

from_append : (test : Slot → Bool) (k : ℕ) (xs ys : List Slot) → position_from test k (xs ++ ys) ≡ or_else (position_from test k xs) (position_from test (k + length xs) ys)
from_append test k [] ys = ap (λ x. position_from test x ys) (let e : k ≡ k + length {A = Slot} [] = omega arith in e)
from_append test k (x ∷ xs) ys =
    elim (cases_Bool (test x)) [
      | inl t ↦ rw t refl
      | inr f ↦ rw f (from_append test (k + 1) xs ys ∙ ap (λ z. or_else (position_from test (k + 1) xs) (position_from test z ys)) (let e : k + 1 + length xs ≡ k + length (x ∷ xs) = omega arith in e))
    ]

or_none : {X : Type 0} (o : Option X) → or_else o None ≡ o
or_none None = refl
or_none (Some x) = refl

own_later : (start len k p : ℕ) → p ≢ start → where_in (record { start = start + 1; len = len }) (k + 1) p ≡ where_in (record { start = start; len = suc len }) k p
own_later start len k p other =
    elim (cases_Bool (nat_le (start + 1) p && nat_lt p (start + 1 + len))) [
      | inl t ↦
          let later : (nat_le start p && nat_lt p (start + suc len)) ≡ true = grind (arith, nat_tests) in
          let above : start + 1 ≤ p = grind (arith, nat_tests) in
          rw (t, later) (ap Some (let e : k + 1 + (p - (start + 1)) ≡ k + (p - start) = omega arith in e))
      | inr f ↦
          let later : (nat_le start p && nat_lt p (start + suc len)) ≡ false = grind (arith, nat_tests) in
          rw (f, later) refl
    ]

-- in the slots of its own member, and of another
own_slots : (i : ℕ) (a b : Option ℕ) (k start len p : ℕ) → position_from (is_same_slot (slot_of i a p)) k (map (slot_of i b) (range_with_len start len)) ≡ where_in (record { start = start; len = len }) k p
own_slots i a b k start zero p = rw (let no : (nat_le start p && nat_lt p (start + 0)) ≡ false = grind (arith, nat_tests) in no) refl
own_slots i a b k start (suc len) p =
    let rest : position_from (is_same_slot (slot_of i a p)) (k + 1) (map (slot_of i b) (range_with_len (start + 1) len)) ≡ where_in (record { start = start + 1; len = len }) (k + 1) p = own_slots i a b (k + 1) (start + 1) len p in
    elim (eqb_tells p start) [
      | inl same ↦
          let at : (nat_le start p && nat_lt p (start + suc len)) ≡ true = grind (arith, nat_tests, same.1) in
          let begins : k + (p - start) ≡ k = omega (arith, same.1) in
          rw (eq-eqb i i refl, same.0, at) (ap Some (sym begins))
      | inr other ↦
          rw (eq-eqb i i refl, other.0) (rest ∙ own_later start len k p other.1)
    ]

other_slots : (i y : ℕ) (a b : Option ℕ) (k start len p : ℕ) → i ≢ y → position_from (is_same_slot (slot_of i a p)) k (map (slot_of y b) (range_with_len start len)) ≡ None
other_slots i y a b k start zero p other = refl
other_slots i y a b k start (suc len) p other =
    let no : nat_eq i y ≡ false = grind (arith, nat_tests) in
    rw no (other_slots i y a b (k + 1) (start + 1) len p other)

own_member : (i : ℕ) (m : Member) (a : Option ℕ) (k p : ℕ) → position_from (is_same_slot (slot_of i a p)) k (member_slots (i, m)) ≡ where_in (bounds_of m) k p
own_member i m a k p = ap (position_from (is_same_slot (slot_of i a p)) k) (slots_are i m) ∙ own_slots i a (source_of m) k (bounds_of m).start (bounds_of m).len p

other_member : (i y : ℕ) (m : Member) (a : Option ℕ) (k p : ℕ) → i ≢ y → position_from (is_same_slot (slot_of i a p)) k (member_slots (y, m)) ≡ None
other_member i y m a k p other = ap (position_from (is_same_slot (slot_of i a p)) k) (slots_are y m) ∙ other_slots i y a (source_of m) k (bounds_of m).start (bounds_of m).len p other

-- none of the members from a higher index on has it
not_behind : (i y : ℕ) (ms : List Member) (a : Option ℕ) (k p : ℕ) → i < y → position_from (is_same_slot (slot_of i a p)) k (slots_from y ms) ≡ None
not_behind i y [] a k p below = refl
not_behind i y (m ∷ ms) a k p below =
    from_append (is_same_slot (slot_of i a p)) k (member_slots (y, m)) (slots_from (y + 1) ms)
    ∙ ap (λ o. or_else o (position_from (is_same_slot (slot_of i a p)) (k + length (member_slots (y, m))) (slots_from (y + 1) ms))) (other_member i y m a k p (omega arith))
    ∙ not_behind i (y + 1) ms a (k + length (member_slots (y, m))) p (omega arith)

-- A place of a member behind these.
placed_from : (y k : ℕ) (before : List Member) (m : Member) (after : List Member) (a : Option ℕ) (p i : ℕ) → i ≡ y + length before → position_from (is_same_slot (slot_of i a p)) k (slots_from y (before ++ m ∷ after)) ≡ where_in (bounds_of m) (k + members_len before) p
placed_from y k [] m after a p i at =
    let same : i ≡ y = omega arith in
    let none : k + members_len [] ≡ k = omega arith in
    ap (λ x. position_from (is_same_slot (slot_of x a p)) k (slots_from y (m ∷ after))) same
    ∙ from_append (is_same_slot (slot_of y a p)) k (member_slots (y, m)) (slots_from (y + 1) after)
    ∙ ap (or_else (position_from (is_same_slot (slot_of y a p)) k (member_slots (y, m)))) (not_behind y (y + 1) after a (k + length (member_slots (y, m))) p (omega arith))
    ∙ or_none (position_from (is_same_slot (slot_of y a p)) k (member_slots (y, m)))
    ∙ own_member y m a k p
    ∙ ap (λ x. where_in (bounds_of m) x p) (sym none)
placed_from y k (b ∷ before) m after a p i at =
    let sum : k + length (member_slots (y, b)) + members_len before ≡ k + members_len (b ∷ before) = omega (arith, length_slots y b, sum_by-cons member_len b before) in
    from_append (is_same_slot (slot_of i a p)) k (member_slots (y, b)) (slots_from (y + 1) (before ++ m ∷ after))
    ∙ ap (λ o. or_else o (position_from (is_same_slot (slot_of i a p)) (k + length (member_slots (y, b))) (slots_from (y + 1) (before ++ m ∷ after)))) (other_member i y b a k p (omega arith))
    ∙ placed_from (y + 1) (k + length (member_slots (y, b))) before m after a p i (omega arith)
    ∙ ap (λ x. where_in (bounds_of m) x p) sum

pub placed : (before : List Member) (m : Member) (after : List Member) (a : Option ℕ) (p i : ℕ) → i ≡ length before → position (is_same_slot (slot_of i a p)) (slots_from 0 (before ++ m ∷ after)) ≡ where_in (bounds_of m) (members_len before) p
placed before m after a p i at =
    position_from-zero (is_same_slot (slot_of i a p)) (slots_from 0 (before ++ m ∷ after))
    ∙ placed_from 0 0 before m after a p i (omega arith)
    ∙ ap (λ x. where_in (bounds_of m) x p) (let e : 0 + members_len before ≡ members_len before = omega arith in e)
