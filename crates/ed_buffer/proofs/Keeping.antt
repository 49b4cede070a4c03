-- Where a unit of the new text was kept.
use Rattle.std.proofs.Common.{◌≡◌, ℕ, zero, suc, ◌+◌, ◌-◌, ◌<◌, ◌≤◌, true, false, not, nat_eq, nat_le, List, [], ◌∷◌, ◌++◌, length, map, Option, None, refl, arith, inl, inr}
use Rattle.std.specs.Prelude.{find, option_map, unwrap_or}
use Rattle.std.specs.Option.{is_some}
use Rattle.std.proofs.lemmas.Bool.{cases_lt}
use Rattle.std.proofs.lemmas.Bool.Decides.{nat_tests}
use Rattle.std.proofs.lemmas.List.{append-nil}
use Rattle.ed_base.specs.declared.edit.Change.{Change}
use Rattle.ed_base.specs.ChangeList.{ChangeList, AreNormalFrom, step, new_len}
use Rattle.ed_base.specs.Step.{inverse_step}
use Rattle.ed_base.specs.Tracking.{positive_edge}
use Rattle.ed_base.proofs.NormalLists.{normal_earlier, end_from, new_len_is_end, reached_below_end}
use Rattle.ed_base.proofs.NormalSteps.{run, kept_from as kept_pairs, normal_kept}
use Rattle.ed_layers.specs.SourceStep.{kept_from}

-- From i and j on each pair lies behind the one before it, in both places, and they end before n and m.
abbrev Rise : ℕ → ℕ → ℕ → ℕ → List (ℕ × ℕ) → Type 0
Rise i j n m [] = Unit {0}
Rise i j n m (x ∷ xs) = (i ≤ x.0) × (j ≤ x.1) × (x.0 < n) × (x.1 < m) × Rise (x.0 + 1) (x.1 + 1) n m xs

rise_earlier : (i j k l n m : ℕ) (xs : List (ℕ × ℕ)) → i ≤ k → j ≤ l → Rise k l n m xs → Rise i j n m xs
rise_earlier i j k l n m [] a b h = tt
rise_earlier i j k l n m (x ∷ xs) a b h = (omega (arith, h.0), omega (arith, h.1), h.2, h.3, h.4)

rise_run : (i j k n m : ℕ) (xs : List (ℕ × ℕ)) → i + k ≤ n → j + k ≤ m → Rise (i + k) (j + k) n m xs → Rise i j n m (run i j k ++ xs)
rise_run i j zero n m xs a b h = rise_earlier i j (i + 0) (j + 0) n m xs (omega arith) (omega arith) h
rise_run i j (suc k) n m xs a b h =
    let p : i + suc k ≡ i + 1 + k = omega arith in
    let q : j + suc k ≡ j + 1 + k = omega arith in
    let h' : Rise (i + 1 + k) (j + 1 + k) n m xs = rw (p, q) at h in
    (omega arith, omega arith, omega arith, omega arith, rise_run (i + 1) (j + 1) k n m xs (omega arith) (omega arith) h')

rise_kept : (i j n m : ℕ) (cs : List Change) → i ≤ n → AreNormalFrom i n cs → end_from i j n cs ≤ m → Rise i j n m (kept_pairs i j n cs)
rise_kept i j n m [] l h e = rw append-nil at (rise_run i j (n - i) n m [] (omega arith) e tt)
rise_kept i j n m (c ∷ cs) l h e =
    let k : ℕ = c.start - i in
    let next : ℕ = j + k + length c.text in
    let reach : next ≤ m = omega (arith, reached_below_end (c.start + c.old_len) next n cs, e) in
    let rest : Rise (c.start + c.old_len) next n m (kept_pairs (c.start + c.old_len) next n cs) = rise_kept (c.start + c.old_len) next n m cs h.1 (normal_earlier (c.start + c.old_len) (c.start + c.old_len + 1) n cs (omega arith) h.3) e in
    rise_run i j k n m (kept_pairs (c.start + c.old_len) next n cs) (omega (arith, h.0, h.1)) (omega arith) (rise_earlier (i + k) (j + k) (c.start + c.old_len) next n m _ (omega (arith, h.0)) (omega arith) rest)

step_rises : (c : ChangeList) → AreNormalFrom 0 c.old_len c.changes → Rise 0 0 c.old_len (new_len c) (step c).kept
step_rises c normal =
    rw (normal_kept c normal) (rise_kept 0 0 c.old_len (new_len c) c.changes (omega arith) normal (omega (arith, new_len_is_end c.old_len c.changes normal)))

-- the old place of the first pair at the new place or behind it, or n
abbrev edge : ℕ → ℕ → List (ℕ × ℕ) → ℕ
edge n q xs = unwrap_or (option_map (λ (pair : ℕ × ℕ). pair.1) (find (λ (pair : ℕ × ℕ). nat_le q pair.0) (map (λ (pair : ℕ × ℕ). (pair.1, pair.0)) xs))) n

abbrev kept : ℕ → List (ℕ × ℕ) → Option ℕ
kept q xs = option_map (λ (pair : ℕ × ℕ). pair.0) (find (λ (pair : ℕ × ℕ). nat_eq pair.1 q) xs)

edge_low : (i j n m q : ℕ) (xs : List (ℕ × ℕ)) → i ≤ n → Rise i j n m xs → i ≤ edge n q xs
edge_low i j n m q [] l h = l
edge_low i j n m q (x ∷ xs) l h = elim (cases_lt x.1 q) [
  | inl a ↦
      let f : nat_le q x.1 ≡ false = grind (arith, nat_tests) in
      rw f (omega (arith, h.0, h.2, edge_low (x.0 + 1) (x.1 + 1) n m q xs (omega (arith, h.2)) h.4))
  | inr a ↦
      let t : nat_le q x.1 ≡ true = grind (arith, nat_tests) in
      rw t h.0
]

none_before : (i j n m q : ℕ) (xs : List (ℕ × ℕ)) → q < j → Rise i j n m xs → kept q xs ≡ None
none_before i j n m q [] l h = refl
none_before i j n m q (x ∷ xs) l h =
    let f : nat_eq x.1 q ≡ false = grind (arith, nat_tests, h.1) in
    rw f (none_before (x.0 + 1) (x.1 + 1) n m q xs (omega (arith, h.1)) h.4)

none_behind : (i j n m q : ℕ) (xs : List (ℕ × ℕ)) → m ≤ q → Rise i j n m xs → kept q xs ≡ None
none_behind i j n m q [] l h = refl
none_behind i j n m q (x ∷ xs) l h =
    let f : nat_eq x.1 q ≡ false = grind (arith, nat_tests, h.3) in
    rw f (none_behind (x.0 + 1) (x.1 + 1) n m q xs l h.4)

-- a unit is kept exactly where the points before and behind it go to two places
kept_apart : (i j n m q : ℕ) (xs : List (ℕ × ℕ)) → i ≤ n → Rise i j n m xs → not (nat_eq (edge n q xs) (edge n (q + 1) xs)) ≡ is_some (kept q xs)
kept_apart i j n m q [] l h = let t : nat_eq n n ≡ true = grind (arith, nat_tests) in rw t refl
kept_apart i j n m q (x ∷ xs) l h = elim (cases_lt x.1 q) [
  | inl a ↦
      let f : nat_le q x.1 ≡ false = grind (arith, nat_tests) in
      let g : nat_le (q + 1) x.1 ≡ false = grind (arith, nat_tests) in
      let e : nat_eq x.1 q ≡ false = grind (arith, nat_tests) in
      rw (f, g, e) (kept_apart (x.0 + 1) (x.1 + 1) n m q xs (omega (arith, h.2)) h.4)
  | inr a ↦ elim (cases_lt q x.1) [
    | inl b ↦
        let f : nat_le q x.1 ≡ true = grind (arith, nat_tests) in
        let g : nat_le (q + 1) x.1 ≡ true = grind (arith, nat_tests) in
        let e : nat_eq x.1 q ≡ false = grind (arith, nat_tests) in
        let t : nat_eq x.0 x.0 ≡ true = grind (arith, nat_tests) in
        rw (f, g, e, t, none_before (x.0 + 1) (x.1 + 1) n m q xs (omega arith) h.4) refl
    | inr b ↦
        let f : nat_le q x.1 ≡ true = grind (arith, nat_tests) in
        let g : nat_le (q + 1) x.1 ≡ false = grind (arith, nat_tests) in
        let e : nat_eq x.1 q ≡ true = grind (arith, nat_tests) in
        let low : x.0 + 1 ≤ edge n (q + 1) xs = edge_low (x.0 + 1) (x.1 + 1) n m (q + 1) xs (omega (arith, h.2)) h.4 in
        let d : nat_eq x.0 (edge n (q + 1) xs) ≡ false = grind (arith, nat_tests) in
        rw (f, g, e, d) refl
  ]
]

pub kept_if_apart : (c : ChangeList) (q : ℕ) → AreNormalFrom 0 c.old_len c.changes → not (nat_eq (positive_edge (inverse_step (step c)) q) (positive_edge (inverse_step (step c)) (q + 1))) ≡ is_some (kept_from (step c) q)
kept_if_apart c q normal = kept_apart 0 0 c.old_len (new_len c) q (step c).kept (omega arith) (step_rises c normal)

pub none_kept_behind : (c : ChangeList) (q : ℕ) → AreNormalFrom 0 c.old_len c.changes → new_len c ≤ q → kept_from (step c) q ≡ None
none_kept_behind c q normal l = none_behind 0 0 c.old_len (new_len c) q (step c).kept l (step_rises c normal)
