-- The runs that a change list keeps.
use Rattle.std.proofs.Common.{◌≡◌, ℕ, zero, suc, ◌+◌, ◌-◌, ◌<◌, ◌≤◌, List, [], ◌∷◌, ◌++◌, length, drop, get_or, refl, sym, ap, subst, ◌∙◌, arith, append_assoc}
use Rattle.std.proofs.lemmas.List.{append-nil, drop_more, drop_all}
use Rattle.ed_base.specs.declared.edit.Change.{Change}
use Rattle.ed_base.specs.ChangeList.{ChangeList, AreNormalFrom, IsNormal, step, new_len}
use Rattle.ed_base.proofs.NormalLists.{normal_earlier, end_from, new_len_is_end, reached_below_end}
use Rattle.ed_base.proofs.NormalSteps.{run, kept_from, normal_kept, normal_new_len}
use Rattle.ed_kept.specs.declared.kept.KeptRun.{KeptRun}
use Rattle.ed_kept.specs.Kept.{ArePairsRising, AreRunsRising, kept_run, pairs_of, run_pairs, runs_from, runs_of}
use Rattle.ed_kept.proofs.Rising.{rising_run, rising_join, rising_weak}

run_same : (i j k : ℕ) → run i j k ≡ run_pairs i j k
run_same i j zero = refl
run_same i j (suc k) = ap (λ zs. (i, j) ∷ zs) (run_same (i + 1) (j + 1) k)

runs_kept : (i j n : ℕ) (cs : List Change) → kept_from i j n cs ≡ pairs_of (runs_from i j n cs)
runs_kept i j n [] = run_same i j (n - i) ∙ sym (append-nil (run_pairs i j (n - i)))
runs_kept i j n (c ∷ cs) =
    ap (λ zs. zs ++ kept_from (c.start + c.old_len) (j + (c.start - i) + length c.text) n cs) (run_same i j (c.start - i))
    ∙ ap (λ zs. run_pairs i j (c.start - i) ++ zs) (runs_kept (c.start + c.old_len) (j + (c.start - i) + length c.text) n cs)

-- What a step keeps are its runs.
pub step_kept : (c : ChangeList) → IsNormal c → (step c).kept ≡ pairs_of (runs_of c)
step_kept c normal = normal_kept c normal.changes ∙ runs_kept 0 0 c.old_len c.changes

pub runs_weak : (i j a b n m : ℕ) (rs : List KeptRun) → i ≤ a → j ≤ b → AreRunsRising a b n m rs → AreRunsRising i j n m rs
runs_weak i j a b n m [] le le' r = (omega (arith, r.0), omega (arith, r.1))
runs_weak i j a b n m (x ∷ rs) le le' r = (omega (arith, r.0), omega (arith, r.1), r.2)

-- The runs rise, and end where the texts do.
pub runs_rise : (i j n : ℕ) (cs : List Change) → i ≤ n → AreNormalFrom i n cs → AreRunsRising i j n (end_from i j n cs) (runs_from i j n cs)
runs_rise i j n [] within normal = (omega arith, omega arith, (omega arith, omega arith))
runs_rise i j n (c ∷ cs) within normal = (
  omega arith,
  omega arith,
  runs_weak (i + (c.start - i)) (j + (c.start - i)) (c.start + c.old_len) (j + (c.start - i) + length c.text) n (end_from (c.start + c.old_len) (j + (c.start - i) + length c.text) n cs) (runs_from (c.start + c.old_len) (j + (c.start - i) + length c.text) n cs) (omega (arith, normal.0)) (omega arith)
      (runs_rise (c.start + c.old_len) (j + (c.start - i) + length c.text) n cs normal.1 (normal_earlier (c.start + c.old_len) (c.start + c.old_len + 1) n cs (omega arith) normal.3)),
)

-- pairs of runs that rise
pub runs_pairs : (i j n m : ℕ) (rs : List KeptRun) → AreRunsRising i j n m rs → ArePairsRising i j n m (pairs_of rs)
runs_pairs i j n m [] r = r
runs_pairs i j n m (x ∷ rs) r =
    rising_weak i j x.old x.new n m (run_pairs x.old x.new x.len ++ pairs_of rs) r.0 r.1
    (rising_join x.old x.new (x.old + x.len) (x.new + x.len) n m (run_pairs x.old x.new x.len) (pairs_of rs) (rising_run x.old x.new x.len) (runs_pairs (x.old + x.len) (x.new + x.len) n m rs r.2))

pub all_runs_rise : (c : ChangeList) → IsNormal c → AreRunsRising 0 0 c.old_len (new_len c) (runs_of c)
all_runs_rise c normal = subst (λ m. AreRunsRising 0 0 c.old_len m (runs_of c)) (new_len_is_end c.old_len c.changes normal.changes) (runs_rise 0 0 c.old_len c.changes (omega arith) normal.changes)

pub step_len : (c : ChangeList) → IsNormal c → (step c).new_len ≡ new_len c
step_len c normal = normal_new_len c normal.changes

pub step_rising : (c : ChangeList) → IsNormal c → ArePairsRising 0 0 c.old_len (new_len c) (step c).kept
step_rising c normal = rw (step_kept c normal) (runs_pairs 0 0 c.old_len (new_len c) (runs_of c) (all_runs_rise c normal))

-- ---- one pass over the changes

-- what is noted of a list, from old place i and new place j on
pub record Passed (c : ChangeList) (i j : ℕ) (noted : List KeptRun) (left : List Change) : Type 0 where
  pub within : i ≤ c.old_len
  pub normal : AreNormalFrom i c.old_len left
  pub end : end_from i j c.old_len left ≡ new_len c
  pub runs : noted ++ runs_from i j c.old_len left ≡ runs_of c

pub passed_none : (c : ChangeList) → IsNormal c → Passed c 0 0 [] c.changes
passed_none c normal = record { within = omega arith; normal = normal.changes; end = new_len_is_end c.old_len c.changes normal.changes; runs = refl }

pub passed_more : (c : ChangeList) (i j : ℕ) (noted : List KeptRun) (x : Change) (left : List Change) → Passed c i j noted (x ∷ left) → Passed c (x.start + x.old_len) (j + (x.start - i) + length x.text) (noted ++ (kept_run i j (x.start - i) ∷ [])) left
passed_more c i j noted x left p = record {
  within = p.normal.1;
  normal = normal_earlier (x.start + x.old_len) (x.start + x.old_len + 1) c.old_len left (omega arith) p.normal.3;
  end = p.end;
  runs = append_assoc noted (kept_run i j (x.start - i) ∷ []) (runs_from (x.start + x.old_len) (j + (x.start - i) + length x.text) c.old_len left) ∙ p.runs;
}

-- the change that comes next, as it was read
pub passed_at : (c : ChangeList) (i j k : ℕ) (noted : List KeptRun) (list : List Change) (x : Change) → k < length list → x ≡ get_or list k x → Passed c i j noted (drop k list) → Passed c i j noted (x ∷ drop (k + 1) list)
passed_at c i j k noted list x below is p =
    subst (λ (xs : List Change). Passed c i j noted xs) (drop_more list k x below ∙ ap (λ y. y ∷ drop (k + 1) list) (sym is)) p

-- where it ends in both texts
pub passed_fits : (c : ChangeList) (i j : ℕ) (noted : List KeptRun) (x : Change) (left : List Change) → Passed c i j noted (x ∷ left) → (i ≤ x.start) × ((x.start + x.old_len ≤ c.old_len) × (j + (x.start - i) + length x.text ≤ new_len c))
passed_fits c i j noted x left p =
    (p.normal.0, (p.normal.1, omega (arith, p.end, reached_below_end (x.start + x.old_len) (j + (x.start - i) + length x.text) c.old_len left)))

pub passed_all : (c : ChangeList) (i j k : ℕ) (noted : List KeptRun) (list : List Change) → length list ≤ k → Passed c i j noted (drop k list) → noted ++ (kept_run i j (c.old_len - i) ∷ []) ≡ runs_of c
passed_all c i j k noted list end p = (subst (λ (xs : List Change). Passed c i j noted xs) (drop_all k list end) p).runs
