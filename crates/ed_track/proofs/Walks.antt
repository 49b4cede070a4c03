-- The edges by the changes that begin before a place.
use Rattle.std.proofs.Common.{◌≡◌, ℕ, zero, suc, ◌+◌, ◌-◌, ◌<◌, ◌≤◌, true, false, List, [], ◌∷◌, length, map, get_or, Some, refl, sym, ap, ◌∙◌, arith, inl, inr}
use Rattle.std.specs.Prelude.{nat_le, nat_lt, if◌then◌else◌, slice_get}
use Rattle.std.proofs.lemmas.Bool.{cases_lt}
use Rattle.std.proofs.lemmas.Bool.Decides.{nat_tests}
use Rattle.ed_base.proofs.NormalSteps.{run}
use Rattle.ed_base.specs.Step.{Step}
use Rattle.ed_base.specs.Tracking.{positive_edge, negative_edge}
use Rattle.ed_track.specs.declared.edge.Part.{Part}
use Rattle.ed_track.proofs.Kept.{kept_parts, AreStrict, AreParts, HasParts}
use Rattle.ed_track.proofs.Runs.{first_new, past_last, first_append, last_append, first_in, first_past, first_to_end, last_before, last_in, last_past}

-- Where p goes behind places i and j: past each part that begins at or before it.
abbrev pub positive_from : ℕ → ℕ → ℕ → List Part → ℕ
positive_from p i j [] = j + (p - i)
positive_from p i j (q ∷ qs) = if nat_le q.from p then positive_from p (q.from + q.from_len) (q.to + q.to_len) qs else j + (p - i)

-- The same for the edge before: v where no kept unit stands between i and p.
abbrev pub negative_from : ℕ → ℕ → ℕ → ℕ → List Part → ℕ
negative_from p v i j [] = if nat_le p i then v else j + (p - i)
negative_from p v i j (q ∷ qs) = if nat_lt q.from p then negative_from p q.to (q.from + q.from_len) (q.to + q.to_len) qs else (if nat_le p i then v else j + (p - i))

positive_past : (p i j : ℕ) (q : Part) (qs : List Part) → q.from ≤ p → positive_from p i j (q ∷ qs) ≡ positive_from p (q.from + q.from_len) (q.to + q.to_len) qs
positive_past p i j q qs past = rw (let t : nat_le q.from p ≡ true = grind (arith, nat_tests) in t) refl

positive_stops : (p i j : ℕ) (q : Part) (qs : List Part) → p < q.from → positive_from p i j (q ∷ qs) ≡ j + (p - i)
positive_stops p i j q qs before = rw (let f : nat_le q.from p ≡ false = grind (arith, nat_tests) in f) refl

negative_past : (p v i j : ℕ) (q : Part) (qs : List Part) → q.from < p → negative_from p v i j (q ∷ qs) ≡ negative_from p q.to (q.from + q.from_len) (q.to + q.to_len) qs
negative_past p v i j q qs past = rw (let t : nat_lt q.from p ≡ true = grind (arith, nat_tests) in t) refl

negative_stops : (p v i j : ℕ) (q : Part) (qs : List Part) → p ≤ q.from → negative_from p v i j (q ∷ qs) ≡ (if nat_le p i then v else j + (p - i))
negative_stops p v i j q qs before = rw (let f : nat_lt q.from p ≡ false = grind (arith, nat_tests) in f) refl

-- a row of kept units up to a part
row_before : (v p i j k : ℕ) → p ≤ i + k → past_last v p (run i j k) ≡ (if nat_le p i then v else j + (p - i))
row_before v p i j k within = elim (cases_lt i p) [
  | inl above ↦ rw (let f : nat_le p i ≡ false = grind (arith, nat_tests) in f) (last_in v p i j k above within)
  | inr before ↦ rw (let t : nat_le p i ≡ true = grind (arith, nat_tests) in t) (last_before v p i j k before)
]

-- One part: what stands behind it doesn't matter where p stands before it, and what stands before it doesn't where p stands behind it.
positive_one : (m p i j n : ℕ) (q : Part) (qs : List Part) → i ≤ q.from → (p < q.from → i < q.from) → first_new m p (kept_parts (q.from + q.from_len) (q.to + q.to_len) n qs) ≡ positive_from p (q.from + q.from_len) (q.to + q.to_len) qs → first_new m p (kept_parts i j n (q ∷ qs)) ≡ positive_from p i j (q ∷ qs)
positive_one m p i j n q qs within some rest =
    let behind : List (ℕ × ℕ) = kept_parts (q.from + q.from_len) (q.to + q.to_len) n qs in
    first_append m p (run i j (q.from - i)) behind ∙ elim (cases_lt p q.from) [
      | inl before ↦ first_in (first_new m p behind) p i j (q.from - i) (omega arith) (omega (arith, some before)) ∙ sym (positive_stops p i j q qs before)
      | inr past ↦ first_past (first_new m p behind) p i j (q.from - i) (omega arith) ∙ rest ∙ sym (positive_past p i j q qs past)
    ]

pub positive_strict : (p i j n m : ℕ) (qs : List Part) → p ≤ n → AreStrict i j n m qs → first_new m p (kept_parts i j n qs) ≡ positive_from p i j qs
positive_strict p i j n m [] within strict = first_to_end m p i j (n - i) (omega (arith, strict.0)) (omega (arith, strict.0, strict.1, strict.2))
positive_strict p i j n m (q ∷ qs) within strict =
    positive_one m p i j n q qs (omega (arith, strict.0)) (λ before. strict.0) (positive_strict p (q.from + q.from_len) (q.to + q.to_len) n m qs within strict.3)

pub positive_parts : (p n m : ℕ) (qs : List Part) → p ≤ n → AreParts n m qs → first_new m p (kept_parts 0 0 n qs) ≡ positive_from p 0 0 qs
positive_parts p n m [] within are = first_to_end m p 0 0 (n - 0) (omega arith) (omega (arith, are))
positive_parts p n m (q ∷ qs) within are =
    positive_one m p 0 0 n q qs (omega arith) (λ before. omega arith) (positive_strict p (q.from + q.from_len) (q.to + q.to_len) n m qs within are.1)

-- no kept unit stands before p
nothing_before : (v p i j n m : ℕ) (qs : List Part) → p ≤ i → AreStrict i j n m qs → past_last v p (kept_parts i j n qs) ≡ v
nothing_before v p i j n m [] before strict = last_before v p i j (n - i) before
nothing_before v p i j n m (q ∷ qs) before strict =
    last_append v p (run i j (q.from - i)) (kept_parts (q.from + q.from_len) (q.to + q.to_len) n qs)
    ∙ ap (λ w. past_last w p (kept_parts (q.from + q.from_len) (q.to + q.to_len) n qs)) (last_before v p i j (q.from - i) before)
    ∙ nothing_before v p (q.from + q.from_len) (q.to + q.to_len) n m qs (omega (arith, strict.0)) strict.3

-- the row before the part gives the part's place, where p stands behind it
row_past : (v p i j : ℕ) (q : Part) → i ≤ q.from → i + q.to ≡ j + q.from → (q.from ≡ i → v ≡ q.to) → q.from < p → past_last v p (run i j (q.from - i)) ≡ q.to
row_past v p i j q within same none past = elim (cases_lt i q.from) [
  | inl some ↦ last_past v p i j (q.from - i) (omega arith) (omega arith) ∙ omega arith
  | inr empty ↦ ap (λ k. past_last v p (run i j k)) (let z : q.from - i ≡ 0 = omega arith in z) ∙ none (omega arith)
]

negative_one : (v p i j n m : ℕ) (q : Part) (qs : List Part) → i ≤ q.from → i + q.to ≡ j + q.from → (q.from ≡ i → v ≡ q.to) → AreStrict (q.from + q.from_len) (q.to + q.to_len) n m qs → past_last q.to p (kept_parts (q.from + q.from_len) (q.to + q.to_len) n qs) ≡ negative_from p q.to (q.from + q.from_len) (q.to + q.to_len) qs → past_last v p (kept_parts i j n (q ∷ qs)) ≡ negative_from p v i j (q ∷ qs)
negative_one v p i j n m q qs within same none strict rest =
    let behind : List (ℕ × ℕ) = kept_parts (q.from + q.from_len) (q.to + q.to_len) n qs in
    last_append v p (run i j (q.from - i)) behind ∙ elim (cases_lt q.from p) [
      | inl past ↦ ap (λ w. past_last w p behind) (row_past v p i j q within same none past) ∙ rest ∙ sym (negative_past p v i j q qs past)
      | inr before ↦
          ap (λ w. past_last w p behind) (row_before v p i j (q.from - i) (omega arith))
          ∙ nothing_before (if nat_le p i then v else j + (p - i)) p (q.from + q.from_len) (q.to + q.to_len) n m qs (omega arith) strict
          ∙ sym (negative_stops p v i j q qs before)
    ]

pub negative_strict : (v p i j n m : ℕ) (qs : List Part) → p ≤ n → AreStrict i j n m qs → past_last v p (kept_parts i j n qs) ≡ negative_from p v i j qs
negative_strict v p i j n m [] within strict = row_before v p i j (n - i) (omega (arith, strict.0))
negative_strict v p i j n m (q ∷ qs) within strict =
    negative_one v p i j n m q qs (omega (arith, strict.0)) strict.2 (λ same. absurd (omega (arith, strict.0))) strict.3
    (negative_strict q.to p (q.from + q.from_len) (q.to + q.to_len) n m qs within strict.3)

pub negative_parts : (p n m : ℕ) (qs : List Part) → p ≤ n → AreParts n m qs → past_last 0 p (kept_parts 0 0 n qs) ≡ negative_from p 0 0 0 qs
negative_parts p n m [] within are = row_before 0 p 0 0 (n - 0) (omega arith)
negative_parts p n m (q ∷ qs) within are =
    negative_one 0 p 0 0 n m q qs (omega arith) (omega (arith, are.0)) (λ same. omega (arith, are.0)) are.1
    (negative_strict q.to p (q.from + q.from_len) (q.to + q.to_len) n m qs within are.1)

-- The part that begins last before p decides. `before` says how far they do.
abbrev pub froms : List Part → List ℕ
froms qs = map (λ q. q.from) qs

pub positive_none : (p i j : ℕ) (qs : List Part) → ((l : ℕ) → l < length qs → p < get_or (froms qs) l 0) → positive_from p i j qs ≡ j + (p - i)
positive_none p i j [] after = refl
positive_none p i j (q ∷ qs) after = positive_stops p i j q qs (after 0 (omega arith))

pub positive_at : (p i j : ℕ) (qs : List Part) (k : ℕ) (q : Part) → slice_get qs k ≡ Some q → ((l : ℕ) → l ≤ k → get_or (froms qs) l 0 ≤ p) → ((l : ℕ) → k < l → l < length qs → p < get_or (froms qs) l 0) → positive_from p i j qs ≡ q.to + q.to_len + (p - (q.from + q.from_len))
positive_at p i j [] k q is before after = cc
positive_at p i j (r ∷ qs) zero q is before after =
    let same : r ≡ q = cc in
    positive_past p i j r qs (before 0 (omega arith))
    ∙ positive_none p (r.from + r.from_len) (r.to + r.to_len) qs (λ l below. after (suc l) (omega arith) (omega arith))
    ∙ ap (λ (x : Part). x.to + x.to_len + (p - (x.from + x.from_len))) same
positive_at p i j (r ∷ qs) (suc k) q is before after =
    positive_past p i j r qs (before 0 (omega arith))
    ∙ positive_at p (r.from + r.from_len) (r.to + r.to_len) qs k q is (λ l below. before (suc l) (omega arith)) (λ l above below. after (suc l) (omega arith) (omega arith))

pub negative_none : (p v i j : ℕ) (qs : List Part) → ((l : ℕ) → l < length qs → p ≤ get_or (froms qs) l 0) → negative_from p v i j qs ≡ (if nat_le p i then v else j + (p - i))
negative_none p v i j [] after = refl
negative_none p v i j (q ∷ qs) after = negative_stops p v i j q qs (after 0 (omega arith))

pub negative_at : (p v i j : ℕ) (qs : List Part) (k : ℕ) (q : Part) → slice_get qs k ≡ Some q → ((l : ℕ) → l ≤ k → get_or (froms qs) l 0 < p) → ((l : ℕ) → k < l → l < length qs → p ≤ get_or (froms qs) l 0) → negative_from p v i j qs ≡ (if nat_le p (q.from + q.from_len) then q.to else q.to + q.to_len + (p - (q.from + q.from_len)))
negative_at p v i j [] k q is before after = cc
negative_at p v i j (r ∷ qs) zero q is before after =
    let same : r ≡ q = cc in
    negative_past p v i j r qs (before 0 (omega arith))
    ∙ negative_none p r.to (r.from + r.from_len) (r.to + r.to_len) qs (λ l below. after (suc l) (omega arith) (omega arith))
    ∙ ap (λ (x : Part). if nat_le p (x.from + x.from_len) then x.to else x.to + x.to_len + (p - (x.from + x.from_len))) same
negative_at p v i j (r ∷ qs) (suc k) q is before after =
    negative_past p v i j r qs (before 0 (omega arith))
    ∙ negative_at p r.to (r.from + r.from_len) (r.to + r.to_len) qs k q is (λ l below. before (suc l) (omega arith)) (λ l above below. after (suc l) (omega arith) (omega arith))

-- no place lies past the end
strict_end : (i j n m : ℕ) (qs : List Part) → AreStrict i j n m qs → j ≤ m
strict_end i j n m [] strict = strict.1
strict_end i j n m (q ∷ qs) strict = omega (arith, strict.1, strict_end (q.from + q.from_len) (q.to + q.to_len) n m qs strict.3)

positive_strict_within : (p i j n m : ℕ) (qs : List Part) → p ≤ n → AreStrict i j n m qs → positive_from p i j qs ≤ m
positive_strict_within p i j n m [] within strict = omega (arith, strict.0, strict.1, strict.2)
positive_strict_within p i j n m (q ∷ qs) within strict = elim (cases_lt p q.from) [
  | inl before ↦ rw (positive_stops p i j q qs before) (omega (arith, strict.0, strict.1, strict.2, strict_end (q.from + q.from_len) (q.to + q.to_len) n m qs strict.3))
  | inr past ↦ rw (positive_past p i j q qs past) (positive_strict_within p (q.from + q.from_len) (q.to + q.to_len) n m qs within strict.3)
]

positive_within : (p n m : ℕ) (qs : List Part) → p ≤ n → AreParts n m qs → positive_from p 0 0 qs ≤ m
positive_within p n m [] within are = omega (arith, are)
positive_within p n m (q ∷ qs) within are = elim (cases_lt p q.from) [
  | inl before ↦ rw (positive_stops p 0 0 q qs before) (omega (arith, are.0, strict_end (q.from + q.from_len) (q.to + q.to_len) n m qs are.1))
  | inr past ↦ rw (positive_past p 0 0 q qs past) (positive_strict_within p (q.from + q.from_len) (q.to + q.to_len) n m qs within are.1)
]

negative_strict_within : (p v i j n m : ℕ) (qs : List Part) → v ≤ m → p ≤ n → AreStrict i j n m qs → negative_from p v i j qs ≤ m
negative_strict_within p v i j n m [] low within strict = elim (cases_lt i p) [
  | inl above ↦ rw (let f : nat_le p i ≡ false = grind (arith, nat_tests) in f) (omega (arith, strict.0, strict.1, strict.2))
  | inr before ↦ rw (let t : nat_le p i ≡ true = grind (arith, nat_tests) in t) low
]
negative_strict_within p v i j n m (q ∷ qs) low within strict =
    let end : q.to + q.to_len ≤ m = strict_end (q.from + q.from_len) (q.to + q.to_len) n m qs strict.3 in
    elim (cases_lt q.from p) [
      | inl past ↦ rw (negative_past p v i j q qs past) (negative_strict_within p q.to (q.from + q.from_len) (q.to + q.to_len) n m qs (omega arith) within strict.3)
      | inr before ↦ rw (negative_stops p v i j q qs before) (elim (cases_lt i p) [
        | inl above ↦ rw (let f : nat_le p i ≡ false = grind (arith, nat_tests) in f) (omega (arith, strict.0, strict.1, strict.2))
        | inr below ↦ rw (let t : nat_le p i ≡ true = grind (arith, nat_tests) in t) low
      ])
    ]

negative_within : (p n m : ℕ) (qs : List Part) → p ≤ n → AreParts n m qs → negative_from p 0 0 0 qs ≤ m
negative_within p n m [] within are = elim (cases_lt 0 p) [
  | inl above ↦ rw (let f : nat_le p 0 ≡ false = grind (arith, nat_tests) in f) (omega (arith, are))
  | inr before ↦ rw (let t : nat_le p 0 ≡ true = grind (arith, nat_tests) in t) (omega arith)
]
negative_within p n m (q ∷ qs) within are =
    let end : q.to + q.to_len ≤ m = strict_end (q.from + q.from_len) (q.to + q.to_len) n m qs are.1 in
    elim (cases_lt q.from p) [
      | inl past ↦ rw (negative_past p 0 0 0 q qs past) (negative_strict_within p q.to (q.from + q.from_len) (q.to + q.to_len) n m qs (omega arith) within are.1)
      | inr before ↦ rw (negative_stops p 0 0 0 q qs before) (elim (cases_lt 0 p) [
        | inl above ↦ rw (let f : nat_le p 0 ≡ false = grind (arith, nat_tests) in f) (omega (arith, are.0))
        | inr below ↦ rw (let t : nat_le p 0 ≡ true = grind (arith, nat_tests) in t) (omega arith)
      ])
    ]

-- The edges of a step by its parts.
module _ (s : Step) (qs : List Part) (has : HasParts s qs) (p : ℕ) (within : p ≤ s.old_len) where
  edge_positive : positive_edge s p ≡ positive_from p 0 0 qs
  edge_positive = ap (λ zs. first_new s.new_len p zs) has.kept ∙ positive_parts p s.old_len s.new_len qs within has.are

  edge_negative : negative_edge s p ≡ negative_from p 0 0 0 qs
  edge_negative = ap (λ zs. past_last 0 p zs) has.kept ∙ negative_parts p s.old_len s.new_len qs within has.are

  pub positive_edge_none : ((l : ℕ) → l < length qs → p < get_or (froms qs) l 0) → positive_edge s p ≡ p
  positive_edge_none after = edge_positive ∙ positive_none p 0 0 qs after ∙ omega arith

  pub positive_edge_at : (k : ℕ) (q : Part) → slice_get qs k ≡ Some q → ((l : ℕ) → l ≤ k → get_or (froms qs) l 0 ≤ p) → ((l : ℕ) → k < l → l < length qs → p < get_or (froms qs) l 0) → positive_edge s p ≡ q.to + q.to_len + (p - (q.from + q.from_len))
  positive_edge_at k q is before after = edge_positive ∙ positive_at p 0 0 qs k q is before after

  pub positive_edge_within : positive_edge s p ≤ s.new_len
  positive_edge_within = rw edge_positive (positive_within p s.old_len s.new_len qs within has.are)

  pub negative_edge_none : ((l : ℕ) → l < length qs → p ≤ get_or (froms qs) l 0) → negative_edge s p ≡ p
  negative_edge_none after = edge_negative ∙ negative_none p 0 0 0 qs after ∙ elim (cases_lt 0 p) [
    | inl above ↦ rw (let f : nat_le p 0 ≡ false = grind (arith, nat_tests) in f) (omega arith)
    | inr below ↦ rw (let t : nat_le p 0 ≡ true = grind (arith, nat_tests) in t) (omega arith)
  ]

  pub negative_edge_at : (k : ℕ) (q : Part) → slice_get qs k ≡ Some q → ((l : ℕ) → l ≤ k → get_or (froms qs) l 0 < p) → ((l : ℕ) → k < l → l < length qs → p ≤ get_or (froms qs) l 0) → negative_edge s p ≡ (if nat_le p (q.from + q.from_len) then q.to else q.to + q.to_len + (p - (q.from + q.from_len)))
  negative_edge_at k q is before after = edge_negative ∙ negative_at p 0 0 0 qs k q is before after

  pub negative_edge_within : negative_edge s p ≤ s.new_len
  negative_edge_within = rw edge_negative (negative_within p s.old_len s.new_len qs within has.are)
