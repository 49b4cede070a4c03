-- Pairs in a row, and pairs that rise.
use Rattle.std.proofs.Common.{◌≡◌, ℕ, zero, suc, ◌+◌, ◌-◌, ◌<◌, ◌≤◌, List, [], ◌∷◌, ◌++◌, refl, sym, ap, subst, ◌∙◌, arith, append_assoc}
use Rattle.std.proofs.lemmas.List.{append-nil}
use Rattle.ed_kept.specs.declared.kept.KeptRun.{KeptRun}
use Rattle.ed_kept.specs.Kept.{ArePairsRising, pairs_of, run_pairs}

pub pairs_append : (xs ys : List KeptRun) → pairs_of (xs ++ ys) ≡ pairs_of xs ++ pairs_of ys
pairs_append [] ys = refl
pairs_append (x ∷ xs) ys = rw append_assoc (ap (λ zs. run_pairs x.old x.new x.len ++ zs) (pairs_append xs ys))

pub pairs_push : (rs : List KeptRun) (r : KeptRun) → pairs_of (rs ++ r ∷ []) ≡ pairs_of rs ++ run_pairs r.old r.new r.len
pairs_push rs r = pairs_append rs (r ∷ []) ∙ ap (λ zs. pairs_of rs ++ zs) (append-nil (run_pairs r.old r.new r.len))

-- a row in two parts
pub run_join : (i j k l : ℕ) → run_pairs i j (k + l) ≡ run_pairs i j k ++ run_pairs (i + k) (j + k) l
run_join i j zero l = rw (let z : 0 + l ≡ l = omega arith in z, let a : i + 0 ≡ i = omega arith in a, let b : j + 0 ≡ j = omega arith in b) refl
run_join i j (suc k) l =
    let a : i + 1 + k ≡ i + suc k = omega arith in
    let b : j + 1 + k ≡ j + suc k = omega arith in
    rw (let s : suc k + l ≡ suc (k + l) = omega arith in s) (ap (λ zs. (i, j) ∷ zs) (run_join (i + 1) (j + 1) k l ∙ ap (λ x. run_pairs (i + 1) (j + 1) k ++ run_pairs x (j + 1 + k) l) a ∙ ap (λ y. run_pairs (i + 1) (j + 1) k ++ run_pairs (i + suc k) y l) b))

pub rising_weak : (i j a b n m : ℕ) (ps : List (ℕ × ℕ)) → i ≤ a → j ≤ b → ArePairsRising a b n m ps → ArePairsRising i j n m ps
rising_weak i j a b n m [] below left r = (omega (arith, r.0), omega (arith, r.1))
rising_weak i j a b n m (p ∷ ps) below left r = (omega (arith, r.0), omega (arith, r.1), r.2)

pub rising_within : (i j n m : ℕ) (ps : List (ℕ × ℕ)) → ArePairsRising i j n m ps → (i ≤ n) × (j ≤ m)
rising_within i j n m [] r = r
rising_within i j n m (p ∷ ps) r =
    let rest : (p.0 + 1 ≤ n) × (p.1 + 1 ≤ m) = rising_within (p.0 + 1) (p.1 + 1) n m ps r.2 in
    (omega (arith, r.0, rest.0), omega (arith, r.1, rest.1))

pub rising_join : (i j a b n m : ℕ) (xs ys : List (ℕ × ℕ)) → ArePairsRising i j a b xs → ArePairsRising a b n m ys → ArePairsRising i j n m (xs ++ ys)
rising_join i j a b n m [] ys r s = rising_weak i j a b n m ys r.0 r.1 s
rising_join i j a b n m (x ∷ xs) ys r s = (r.0, r.1, rising_join (x.0 + 1) (x.1 + 1) a b n m xs ys r.2 s)

pub rising_run : (i j k : ℕ) → ArePairsRising i j (i + k) (j + k) (run_pairs i j k)
rising_run i j zero = (omega arith, omega arith)
rising_run i j (suc k) =
    let a : i + suc k ≡ i + 1 + k = omega arith in
    let b : j + suc k ≡ j + 1 + k = omega arith in
    (omega arith, omega arith, rw (a, b) (rising_run (i + 1) (j + 1) k))

-- what is left behind a row that isn't empty
pub record Behind (i j n m a b l : ℕ) (ps : List (ℕ × ℕ)) : Type 0 where
  pub old : i ≤ a
  pub new : j ≤ b
  pub rest : ArePairsRising (a + l) (b + l) n m ps

pub rising_behind : (i j n m a b l : ℕ) (ps : List (ℕ × ℕ)) → ArePairsRising i j n m (run_pairs a b (suc l) ++ ps) → Behind i j n m a b (suc l) ps
rising_behind i j n m a b zero ps r = record { old = r.0; new = r.1; rest = r.2 }
rising_behind i j n m a b (suc l) ps r =
    let later : Behind (a + 1) (b + 1) n m (a + 1) (b + 1) (suc l) ps = rising_behind (a + 1) (b + 1) n m (a + 1) (b + 1) l ps r.2 in
    let x : a + suc (suc l) ≡ a + 1 + suc l = omega arith in
    let y : b + suc (suc l) ≡ b + 1 + suc l = omega arith in
    record { old = r.0; new = r.1; rest = rw (x, y) later.rest }

pub run_behind : (i j n m : ℕ) (r : KeptRun) (rs whole : List KeptRun) → whole ≡ r ∷ rs → 0 < r.len → ArePairsRising i j n m (pairs_of whole) → Behind i j n m r.old r.new r.len (pairs_of rs)
run_behind i j n m r rs whole is some rising =
    let len : suc (r.len - 1) ≡ r.len = omega arith in
    subst (λ l. Behind i j n m r.old r.new l (pairs_of rs)) len
    (rising_behind i j n m r.old r.new (r.len - 1) (pairs_of rs) (subst (λ l. ArePairsRising i j n m (run_pairs r.old r.new l ++ pairs_of rs)) (sym len) (subst (λ w. ArePairsRising i j n m (pairs_of w)) is rising)))
