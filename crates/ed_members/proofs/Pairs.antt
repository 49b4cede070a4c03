-- The kept pairs of a step: they rise in both places, and so the edges of a span bound those in it.
use Rattle.std.proofs.Common.{◌≡◌, ℕ, zero, suc, ◌+◌, ◌-◌, ◌<◌, ◌≤◌, false, ◌⊎◌, inl, inr, List, [], ◌∷◌, ◌++◌, length, Option, Some, None, refl, sym, ap, subst, ◌∙◌, arith}
use Rattle.std.specs.Prelude.{nat_eq, nat_le, nat_lt, find, option_map, if◌then◌else◌}
use Rattle.std.proofs.lemmas.Bool.{cases_lt, cases_eq, eq-eqb, ne_eqb, lt-ltb, le-leb}
use Rattle.std.proofs.lemmas.Bool.Decides.{nat_tests}
use Rattle.ed_base.specs.declared.edit.Change.{Change}
use Rattle.ed_base.specs.Numbers.{find_last, or_else}
use Rattle.ed_base.specs.ChangeList.{ChangeList, AreNormalFrom, step}
use Rattle.ed_base.proofs.NormalLists.{end_from, new_len_is_end, normal_earlier}
use Rattle.ed_base.proofs.NormalSteps.{run, normal_kept, normal_new_len}
use Rattle.ed_base.proofs.NormalSteps as steps

-- pairs from old place i and new place j on, each behind the one before, with new places below m
abbrev pub Rises : ℕ → ℕ → ℕ → List (ℕ × ℕ) → Type 0
Rises i j m [] = j ≤ m
Rises i j m (x ∷ xs) = (i ≤ x.0) × (j ≤ x.1) × Rises (x.0 + 1) (x.1 + 1) m xs

rises_lower : (i j i' j' m : ℕ) (xs : List (ℕ × ℕ)) → i' ≤ i → j' ≤ j → Rises i j m xs → Rises i' j' m xs
rises_lower i j i' j' m [] a b r = omega arith
rises_lower i j i' j' m (x ∷ xs) a b r = (omega (arith, r.0), omega (arith, r.1), r.2)

rises_run : (i j k m : ℕ) (xs : List (ℕ × ℕ)) → Rises (i + k) (j + k) m xs → Rises i j m (run i j k ++ xs)
rises_run i j zero m xs r = rises_lower (i + 0) (j + 0) i j m xs (omega arith) (omega arith) r
rises_run i j (suc k) m xs r =
    (omega arith, omega arith, rises_run (i + 1) (j + 1) k m xs (rises_lower (i + suc k) (j + suc k) (i + 1 + k) (j + 1 + k) m xs (omega arith) (omega arith) r))

rises_to_end : (i j k m : ℕ) → j + k ≤ m → Rises i j m (run i j k)
rises_to_end i j zero m h = omega arith
rises_to_end i j (suc k) m h = (omega arith, omega arith, rises_to_end (i + 1) (j + 1) k m (omega arith))

rises_kept : (i j n : ℕ) (cs : List Change) → AreNormalFrom i n cs → Rises i j (end_from i j n cs) (steps.kept_from i j n cs)
rises_kept i j n [] normal = rises_to_end i j (n - i) (j + (n - i)) (omega arith)
rises_kept i j n (c ∷ cs) normal =
    let k : ℕ = c.start - i in
    let e : ℕ = c.start + c.old_len in
    let rest : Rises e (j + k + length c.text) (end_from e (j + k + length c.text) n cs) (steps.kept_from e (j + k + length c.text) n cs) =
    rises_kept e (j + k + length c.text) n cs (normal_earlier e (e + 1) n cs (omega arith) normal.3) in
    rises_run i j k (end_from e (j + k + length c.text) n cs) (steps.kept_from e (j + k + length c.text) n cs)
    (rises_lower e (j + k + length c.text) (i + k) (j + k) (end_from e (j + k + length c.text) n cs) (steps.kept_from e (j + k + length c.text) n cs) (let a : i ≤ c.start = normal.0 in omega arith) (omega arith) rest)

-- the step of a normal list
pub step_rises : (c : ChangeList) → AreNormalFrom 0 c.old_len c.changes → Rises 0 0 (step c).new_len (step c).kept
step_rises c normal =
    subst (λ (m : ℕ). Rises 0 0 m (step c).kept) (new_len_is_end c.old_len c.changes normal ∙ sym (normal_new_len c normal))
    (subst (λ (xs : List (ℕ × ℕ)). Rises 0 0 (end_from 0 0 c.old_len c.changes) xs) (sym (normal_kept c normal)) (rises_kept 0 0 c.old_len c.changes normal))

-- ---- pairs in such a list

abbrev pub Mem : ℕ → ℕ → List (ℕ × ℕ) → Type 0
Mem p q [] = ⊥
Mem p q (x ∷ xs) = ((x.0 ≡ p) × (x.1 ≡ q)) ⊎ Mem p q xs

-- a pair lies behind where the list begins
pub mem_behind : (i j m p q : ℕ) (xs : List (ℕ × ℕ)) → Rises i j m xs → Mem p q xs → (i ≤ p) × (j ≤ q) × (q < m)
mem_behind i j m p q [] r has = absurd has
mem_behind i j m p q (x ∷ xs) r has =
    let a : i ≤ x.0 = r.0 in
    let b : j ≤ x.1 = r.1 in
    elim has [
      | inl here ↦ (let e : x.0 ≡ p = here.0 in let f : x.1 ≡ q = here.1 in let l : x.1 + 1 ≤ m = below (x.0 + 1) (x.1 + 1) m xs r.2 in (omega arith, omega arith, omega arith))
      | inr later ↦ (let rest : (x.0 + 1 ≤ p) × (x.1 + 1 ≤ q) × (q < m) = mem_behind (x.0 + 1) (x.1 + 1) m p q xs r.2 later in
          let c : x.0 + 1 ≤ p = rest.0 in let d : x.1 + 1 ≤ q = rest.1 in (omega arith, omega arith, rest.2))
    ]
  where
    below : (i j m : ℕ) (xs : List (ℕ × ℕ)) → Rises i j m xs → j ≤ m
    below i j m [] r = r
    below i j m (x ∷ xs) r = let l : x.1 + 1 ≤ m = below (x.0 + 1) (x.1 + 1) m xs r.2 in let b : j ≤ x.1 = r.1 in omega arith

-- two pairs stand alike in both places
pub mem_rise : (i j m p q p' q' : ℕ) (xs : List (ℕ × ℕ)) → Rises i j m xs → Mem p q xs → Mem p' q' xs → ((p < p') × (q < q')) ⊎ (((p ≡ p') × (q ≡ q')) ⊎ ((p' < p) × (q' < q)))
mem_rise i j m p q p' q' [] r has has' = absurd has
mem_rise i j m p q p' q' (x ∷ xs) r has has' = elim has [
  | inl here ↦ elim has' [
    | inl here' ↦ inr (inl (sym here.0 ∙ here'.0, sym here.1 ∙ here'.1))
    | inr later' ↦ (let b : (x.0 + 1 ≤ p') × (x.1 + 1 ≤ q') × (q' < m) = mem_behind (x.0 + 1) (x.1 + 1) m p' q' xs r.2 later' in inl (omega (arith, here.0, b.0), omega (arith, here.1, b.1)))
  ]
  | inr later ↦ elim has' [
    | inl here' ↦ (let b : (x.0 + 1 ≤ p) × (x.1 + 1 ≤ q) × (q < m) = mem_behind (x.0 + 1) (x.1 + 1) m p q xs r.2 later in inr (inr (omega (arith, here'.0, b.0), omega (arith, here'.1, b.1))))
    | inr later' ↦ mem_rise (x.0 + 1) (x.1 + 1) m p q p' q' xs r.2 later later'
  ]
]

-- the old place of a unit at a new place
abbrev pub from : List (ℕ × ℕ) → ℕ → Option ℕ
from xs q = option_map (λ pair. pair.0) (find (λ pair. nat_eq pair.1 q) xs)

pub mem_from : (p q : ℕ) (xs : List (ℕ × ℕ)) → from xs q ≡ Some p → Mem p q xs
mem_from p q [] is = absurd (cc)
mem_from p q (x ∷ xs) is = elim (cases_eq x.1 q) [
  | inl e ↦ inl ((let is' : Some x.0 ≡ Some p = rw (eq-eqb x.1 q e) at is in cc), e)
  | inr ne ↦ inr (mem_from p q xs (rw (ne_eqb x.1 q ne) at is))
]

pub from_mem : (i j m p q : ℕ) (xs : List (ℕ × ℕ)) → Rises i j m xs → Mem p q xs → from xs q ≡ Some p
from_mem i j m p q [] r has = absurd has
from_mem i j m p q (x ∷ xs) r has = elim has [
  | inl here ↦ rw (eq-eqb x.1 q here.1) (ap Some here.0)
  | inr later ↦ (let b : (x.0 + 1 ≤ p) × (x.1 + 1 ≤ q) × (q < m) = mem_behind (x.0 + 1) (x.1 + 1) m p q xs r.2 later in
      rw (ne_eqb x.1 q (λ e. omega (arith, b.1))) (from_mem (x.0 + 1) (x.1 + 1) m p q xs r.2 later))
]

-- ---- the edges

-- the first pair from an old place on
abbrev pub FirstFrom : ℕ → List (ℕ × ℕ) → Option (ℕ × ℕ) → Type 0
FirstFrom x xs None = (p q : ℕ) → Mem p q xs → p < x
FirstFrom x xs (Some y) = Mem y.0 y.1 xs × (x ≤ y.0) × ((p q : ℕ) → Mem p q xs → x ≤ p → y.0 ≤ p)

pub first_from : (i j m x : ℕ) (xs : List (ℕ × ℕ)) → Rises i j m xs → FirstFrom x xs (find (λ pair. nat_le x pair.0) xs)
first_from i j m x [] r = λ p q has. absurd has
first_from i j m x (y ∷ ys) r = elim (cases_lt y.0 x) [
  | inl before ↦ rw (let f : nat_le x y.0 ≡ false = grind (arith, nat_tests) in f)
      (later (find (λ pair. nat_le x pair.0) ys) (first_from (y.0 + 1) (y.1 + 1) m x ys r.2) before)
  | inr here ↦ rw (le-leb x y.0 here) (inl (refl, refl), here, λ p q has above. elim has [ inl e ↦ omega (arith, e.0) | inr l ↦ (let b : (y.0 + 1 ≤ p) × (y.1 + 1 ≤ q) × (q < m) = mem_behind (y.0 + 1) (y.1 + 1) m p q ys r.2 l in omega (arith, b.0)) ])
]
  where
    later : (o : Option (ℕ × ℕ)) → FirstFrom x ys o → y.0 < x → FirstFrom x (y ∷ ys) o
    later None none before = λ p q has. elim has [ inl e ↦ omega (arith, e.0) | inr l ↦ none p q l ]
    later (Some z) f before = (inr f.0, f.1, λ p q has above. elim has [ inl e ↦ absurd (omega (arith, e.0)) | inr l ↦ f.2 p q l above ])

-- the last pair before an old place
abbrev pub LastBefore : ℕ → List (ℕ × ℕ) → Option (ℕ × ℕ) → Type 0
LastBefore x xs None = (p q : ℕ) → Mem p q xs → x ≤ p
LastBefore x xs (Some y) = Mem y.0 y.1 xs × (y.0 < x) × ((p q : ℕ) → Mem p q xs → p < x → p ≤ y.0)

pub last_before : (i j m x : ℕ) (xs : List (ℕ × ℕ)) → Rises i j m xs → LastBefore x xs (find_last (λ pair. nat_lt pair.0 x) xs)
last_before i j m x [] r = λ p q has. absurd has
last_before i j m x (y ∷ ys) r = further (find_last (λ pair. nat_lt pair.0 x) ys) (last_before (y.0 + 1) (y.1 + 1) m x ys r.2)
  where
    further : (o : Option (ℕ × ℕ)) → LastBefore x ys o → LastBefore x (y ∷ ys) (or_else o (if nat_lt y.0 x then Some y else None))
    further (Some z) l = (
      inr l.0,
      l.1,
      λ p q has below. elim has [
        | inl e ↦ (let b : (y.0 + 1 ≤ z.0) × (y.1 + 1 ≤ z.1) × (z.1 < m) = mem_behind (y.0 + 1) (y.1 + 1) m z.0 z.1 ys r.2 l.0 in omega (arith, b.0, e.0))
        | inr later ↦ l.2 p q later below
      ],
    )
    further None none = elim (cases_lt y.0 x) [
      | inl below ↦ rw (lt-ltb y.0 x below) (inl (refl, refl), below, λ p q has before. elim has [ inl e ↦ omega (arith, e.0) | inr later ↦ absurd (omega (arith, none p q later)) ])
      | inr above ↦ rw (let f : nat_lt y.0 x ≡ false = grind (arith, nat_tests) in f) (λ p q has. elim has [ inl e ↦ omega (arith, e.0) | inr later ↦ none p q later ])
    ]
