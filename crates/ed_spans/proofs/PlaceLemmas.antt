-- Tests on parts of lists, and on sets of spans.
use Rattle.std.proofs.Common.{◌≡◌, ℕ, zero, suc, ◌+◌, ◌-◌, ◌<◌, ◌≤◌, Bool, true, false, ◌&&◌, ◌||◌, List, [], ◌∷◌, ◌++◌, map, take, drop, refl, sym, ap, ◌∙◌, arith}
use Rattle.std.specs.Prelude.{slice_range, nat_lt, nat_eq, nat_le}
use Rattle.std.specs.List.{list_any, range_with_len}
use Rattle.std.proofs.lemmas.Bool.{lt-ltb, le-leb, and_parts, and_from, leb-true, ltb-true}
use Rattle.ed_base.specs.declared.edit.Span.{Span}
use Rattle.ed_base.specs.Spans.{end_of, holds_place, span_between}
use Rattle.ed_spans.specs.SpanSets.{in_spans}
use Rattle.ed_spans.proofs.SliceLemmas.{range_map}

pub any_map : {X : Type 0} (p : X → Bool) (xs : List X) → list_any p xs ≡ list_any (λ (b : Bool). b) (map p xs)
any_map p [] = refl
any_map p (x ∷ xs) = ap (λ b. p x || b) (any_map p xs)

-- where both tests read the same along two lists, they do so on the same part
pub any_range : {X Y : Type 0} (p : X → Bool) (p' : Y → Bool) (xs : List X) (ys : List Y) (a z : ℕ) → map p xs ≡ map p' ys → list_any p (slice_range xs a z) ≡ list_any p' (slice_range ys a z)
any_range p p' xs ys a z same =
    any_map p (slice_range xs a z) ∙ ap (λ u. list_any (λ (b : Bool). b) u) (sym (range_map p xs a z)) ∙ ap (λ u. list_any (λ (b : Bool). b) (slice_range u a z)) same
    ∙ ap (λ u. list_any (λ (b : Bool). b) u) (range_map p' ys a z) ∙ sym (any_map p' (slice_range ys a z))

pub any_false : {X : Type 0} (p : X → Bool) (xs : List X) → ((x : X) → p x ≡ false) → list_any p xs ≡ false
any_false p [] none = refl
any_false p (x ∷ xs) none = rw (none x, any_false p xs none) refl

-- a place among a run of places
pub any_places : (q n m : ℕ) → list_any (nat_eq q) (range_with_len n m) ≡ (nat_le n q && nat_lt q (n + m))
any_places q n zero = grind arith
any_places q n (suc m) = rw (any_places q (n + 1) m) (grind arith)

pub drop_places : (a n m : ℕ) → drop a (range_with_len n m) ≡ range_with_len (n + a) (m - a)
drop_places zero n m = let e : n + 0 ≡ n = omega arith in let d : m - 0 ≡ m = omega arith in rw (e, d) refl
drop_places (suc a) n zero = let d : 0 - suc a ≡ 0 = omega arith in rw d refl
drop_places (suc a) n (suc m) = let e : n + suc a ≡ n + 1 + a = omega arith in let d : suc m - suc a ≡ m - a = omega arith in rw (e, d) (drop_places a (n + 1) m)

pub take_places : (a n m : ℕ) → a ≤ m → take a (range_with_len n m) ≡ range_with_len n a
take_places zero n m within = refl
take_places (suc a) n zero within = absurd (omega arith)
take_places (suc a) n (suc m) within = rw (take_places a (n + 1) m (omega arith)) refl

pub any_part : (q m a z : ℕ) → z ≤ m → list_any (nat_eq q) (slice_range (range_with_len 0 m) a z) ≡ holds_place (span_between a z) q
any_part q m a z within =
    let e : 0 + a ≡ a = omega arith in
    ap (λ u. list_any (nat_eq q) (take (z - a) u)) (drop_places a 0 m ∙ ap (λ n. range_with_len n (m - a)) e)
    ∙ ap (λ u. list_any (nat_eq q) u) (take_places (z - a) a (m - a) (omega arith)) ∙ any_places q a (z - a)

-- ---- places in a span

pub same_bool : (x y : Bool) → (x ≡ true → y ≡ true) → (y ≡ true → x ≡ true) → x ≡ y
same_bool true true f g = refl
same_bool true false f g = sym (f refl)
same_bool false true f g = g refl
same_bool false false f g = refl

pub holds_parts : (s : Span) (q : ℕ) → holds_place s q ≡ true → (s.start ≤ q) × (q < end_of s)
holds_parts s q is = let both : (nat_le s.start q ≡ true) × (nat_lt q (end_of s) ≡ true) = and_parts (nat_le s.start q) (nat_lt q (end_of s)) is in (leb-true s.start q both.0, ltb-true q (end_of s) both.1)

pub holds_from : (s : Span) (q : ℕ) → s.start ≤ q → q < end_of s → holds_place s q ≡ true
holds_from s q above below = and_from (nat_le s.start q) (nat_lt q (end_of s)) (le-leb s.start q above) (lt-ltb q (end_of s) below)

pub holds_none : (s : Span) (q : ℕ) → ((s.start ≤ q) → (q < end_of s) → ⊥) → holds_place s q ≡ false
holds_none s q none = either (holds_place s q) refl
  where
    either : (x : Bool) → holds_place s q ≡ x → x ≡ false
    either true is = let both : (s.start ≤ q) × (q < end_of s) = holds_parts s q is in absurd (none both.0 both.1)
    either false is = refl

pub spans_append : (ss ts : List Span) (q : ℕ) → in_spans (ss ++ ts) q ≡ (in_spans ss q || in_spans ts q)
spans_append [] ts q = refl
spans_append (s ∷ ss) ts q = rw (spans_append ss ts q) (assoc (holds_place s q) (in_spans ss q) (in_spans ts q))
  where
    assoc : (x y z : Bool) → (x || (y || z)) ≡ ((x || y) || z)
    assoc true y z = refl
    assoc false y z = refl
