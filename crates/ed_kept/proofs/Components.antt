-- The change list of pairs that rise: it is in normal form, it keeps those pairs and no other unit, and leads to the new length.
use Rattle.std.proofs.Common.{◌≡◌, ℕ, zero, suc, ◌+◌, ◌-◌, ◌<◌, ◌≤◌, List, [], ◌∷◌, ◌++◌, length, drop, get_or, inl, inr, append_assoc, add-one, drop-cons, refl, sym, ap, ◌∙◌, arith, subst}
use Rattle.std.specs.Prelude.{slice_range}
use Rattle.std.proofs.lemmas.List.{append-nil, length-take, length-drop}
use Rattle.std.proofs.lemmas.Bool.{eq-eqb}
use Rattle.std.proofs.lemmas.Bool.Decides.{eqb_tells}
use Rattle.ed_base.specs.declared.edit.Change.{Change}
use Rattle.ed_base.specs.Step.{Step}
use Rattle.ed_base.specs.ChangeList.{ChangeList, AreNormalFrom, change, component, components, step, new_len}
use Rattle.ed_base.proofs.NormalLists.{normal_earlier, end_from, new_len_is_end}
use Rattle.ed_base.proofs.NormalSteps.{run, kept_from, normal_kept, normal_new_len}
use Rattle.ed_kept.specs.declared.kept.KeptRun.{KeptRun}
use Rattle.ed_kept.specs.Kept.{ArePairsRising, pairs_of, run_pairs}
use Rattle.ed_kept.proofs.Rising.{run_behind, rising_within}

pub length_part : (text : List ℕ) (j q : ℕ) → j ≤ q → q ≤ length text → length (slice_range text j q) ≡ q - j
length_part text j q order within = omega (arith, length-take (q - j) (drop j text), length-drop j text)

-- a gap in which nothing is, and one in which something is
pub data GapCase (i j p q : ℕ) (text : List ℕ) : Type 0 where
  empty : i ≡ p → j ≡ q → component change text i j p q ≡ [] → GapCase i j p q text
  full : 0 < (p - i) + (q - j) → component change text i j p q ≡ change i (p - i) (slice_range text j q) ∷ [] → GapCase i j p q text

gap_case : (i j p q : ℕ) (text : List ℕ) → i ≤ p → j ≤ q → GapCase i j p q text
gap_case i j p q text old new =
    elim (eqb_tells i p) [
      | inl a ↦ elim (eqb_tells j q) [
        | inl b ↦ empty a.1 b.1 (rw (a.0, b.0) refl)
        | inr b ↦ full (omega (arith, b.1)) (rw (a.0, b.0) refl)
      ]
      | inr a ↦ full (omega (arith, a.1)) (rw a.0 refl)
    ]

gap_normal : (i j p q n : ℕ) (text : List ℕ) (rest : List Change) → i ≤ p → j ≤ q → q ≤ length text → p ≤ n → AreNormalFrom (p + 1) n rest → AreNormalFrom i n (component change text i j p q ++ rest)
gap_normal i j p q n text rest old new within below normal =
    elim (gap_case i j p q text old new) [
      | empty a b e ↦ rw e (normal_earlier i (p + 1) n rest (omega arith) normal)
      | full some e ↦
          let ends : i + (p - i) + 1 ≡ p + 1 = omega arith in
          rw e (omega arith, omega arith, omega (arith, length_part text j q new within), rw ends normal)
    ]

gap_kept : (i j p q n : ℕ) (text : List ℕ) (rest : List Change) → i ≤ p → j ≤ q → q ≤ length text → kept_from i j n (component change text i j p q ++ rest) ≡ kept_from p q n rest
gap_kept i j p q n text rest old new within =
    elim (gap_case i j p q text old new) [
      | empty a b e ↦ rw (e, a, b) refl
      | full some e ↦
          let none : i - i ≡ 0 = omega arith in
          let ends : i + (p - i) ≡ p = omega arith in
          let new_ends : j + 0 + length (slice_range text j q) ≡ q = omega (arith, length_part text j q new within) in
          rw (e, none, ends, new_ends) refl
    ]

gap_end : (i j p q n : ℕ) (text : List ℕ) (rest : List Change) → i ≤ p → j ≤ q → q ≤ length text → end_from i j n (component change text i j p q ++ rest) ≡ end_from p q n rest
gap_end i j p q n text rest old new within =
    elim (gap_case i j p q text old new) [
      | empty a b e ↦ rw (e, a, b) refl
      | full some e ↦
          let ends : i + (p - i) ≡ p = omega arith in
          let new_ends : j + (i - i) + length (slice_range text j q) ≡ q = omega (arith, length_part text j q new within) in
          ap (λ xs. end_from i j n (xs ++ rest)) e ∙ (ap (λ x. end_from x (j + (i - i) + length (slice_range text j q)) n rest) ends ∙ ap (λ y. end_from p y n rest) new_ends)
    ]

-- a kept unit
pair_kept : (p q n : ℕ) (cs : List Change) → p < n → AreNormalFrom (p + 1) n cs → kept_from p q n cs ≡ (p, q) ∷ kept_from (p + 1) (q + 1) n cs
pair_kept p q n [] below normal = rw (let e : n - p ≡ suc (n - (p + 1)) = omega arith in e) refl
pair_kept p q n (c ∷ cs) below normal =
    let first : p + 1 ≤ c.start = normal.0 in
    let more : c.start - p ≡ suc (c.start - (p + 1)) = omega arith in
    let same : q + suc (c.start - (p + 1)) + length c.text ≡ q + 1 + (c.start - (p + 1)) + length c.text = omega arith in
    rw (more, same) refl

pair_end : (p q n : ℕ) (cs : List Change) → p < n → AreNormalFrom (p + 1) n cs → end_from p q n cs ≡ end_from (p + 1) (q + 1) n cs
pair_end p q n [] below normal = omega arith
pair_end p q n (c ∷ cs) below normal =
    let first : p + 1 ≤ c.start = normal.0 in
    ap (λ j. end_from (c.start + c.old_len) j n cs) (let same : q + (c.start - p) + length c.text ≡ q + 1 + (c.start - (p + 1)) + length c.text = omega arith in same)

pub components_normal : (i j n : ℕ) (text : List ℕ) (ps : List (ℕ × ℕ)) → ArePairsRising i j n (length text) ps → AreNormalFrom i n (components change text i j ps n (length text))
components_normal i j n text [] r =
    subst (λ cs. AreNormalFrom i n cs) (append-nil (component change text i j n (length text))) (gap_normal i j n (length text) n text [] r.0 r.1 (omega arith) (omega arith) tt)
components_normal i j n text (p ∷ ps) r =
    let reach : (p.0 + 1 ≤ n) × (p.1 + 1 ≤ length text) = rising_within (p.0 + 1) (p.1 + 1) n (length text) ps r.2 in
    gap_normal i j p.0 p.1 n text (components change text (p.0 + 1) (p.1 + 1) ps n (length text)) r.0 r.1 (omega (arith, reach.1)) (omega (arith, reach.0)) (components_normal (p.0 + 1) (p.1 + 1) n text ps r.2)

components_kept : (i j n : ℕ) (text : List ℕ) (ps : List (ℕ × ℕ)) → ArePairsRising i j n (length text) ps → kept_from i j n (components change text i j ps n (length text)) ≡ ps
components_kept i j n text [] r =
    ap (kept_from i j n) (sym (append-nil (component change text i j n (length text)))) ∙ gap_kept i j n (length text) n text [] r.0 r.1 (omega arith) ∙ ap (run n (length text)) (let e : n - n ≡ 0 = omega arith in e)
components_kept i j n text (p ∷ ps) r =
    let reach : (p.0 + 1 ≤ n) × (p.1 + 1 ≤ length text) = rising_within (p.0 + 1) (p.1 + 1) n (length text) ps r.2 in
    let rest : List Change = components change text (p.0 + 1) (p.1 + 1) ps n (length text) in
    gap_kept i j p.0 p.1 n text rest r.0 r.1 (omega (arith, reach.1))
    ∙ pair_kept p.0 p.1 n rest (omega (arith, reach.0)) (components_normal (p.0 + 1) (p.1 + 1) n text ps r.2)
    ∙ ap (λ zs. p ∷ zs) (components_kept (p.0 + 1) (p.1 + 1) n text ps r.2)

components_end : (i j n : ℕ) (text : List ℕ) (ps : List (ℕ × ℕ)) → ArePairsRising i j n (length text) ps → end_from i j n (components change text i j ps n (length text)) ≡ length text
components_end i j n text [] r =
    ap (end_from i j n) (sym (append-nil (component change text i j n (length text)))) ∙ gap_end i j n (length text) n text [] r.0 r.1 (omega arith) ∙ omega arith
components_end i j n text (p ∷ ps) r =
    let reach : (p.0 + 1 ≤ n) × (p.1 + 1 ≤ length text) = rising_within (p.0 + 1) (p.1 + 1) n (length text) ps r.2 in
    let rest : List Change = components change text (p.0 + 1) (p.1 + 1) ps n (length text) in
    gap_end i j p.0 p.1 n text rest r.0 r.1 (omega (arith, reach.1))
    ∙ pair_end p.0 p.1 n rest (omega (arith, reach.0)) (components_normal (p.0 + 1) (p.1 + 1) n text ps r.2)
    ∙ components_end (p.0 + 1) (p.1 + 1) n text ps r.2

-- The change list of the pairs, and its step.
abbrev pub listed : ℕ → List ℕ → List (ℕ × ℕ) → ChangeList
listed n text ps = record { old_len = n; changes = components change text 0 0 ps n (length text) }

abbrev pub listing : ℕ → List Change → ChangeList
listing n cs = record { old_len = n; changes = cs }

abbrev pub step_to : ℕ → ℕ → List (ℕ × ℕ) → Step
step_to n m ps = record { old_len = n; new_len = m; kept = ps }

pub listed_len : (n : ℕ) (text : List ℕ) (ps : List (ℕ × ℕ)) → ArePairsRising 0 0 n (length text) ps → new_len (listed n text ps) ≡ length text
listed_len n text ps r = sym (new_len_is_end n (listed n text ps).changes (components_normal 0 0 n text ps r)) ∙ components_end 0 0 n text ps r

pub listed_step : (n : ℕ) (text : List ℕ) (ps : List (ℕ × ℕ)) → ArePairsRising 0 0 n (length text) ps → step (listed n text ps) ≡ step_to n (length text) ps
listed_step n text ps r =
    let normal : AreNormalFrom 0 n (listed n text ps).changes = components_normal 0 0 n text ps r in
    ap (λ m. step_to n m (step (listed n text ps)).kept) (normal_new_len (listed n text ps) normal ∙ listed_len n text ps r)
    ∙ ap (step_to n (length text)) (normal_kept (listed n text ps) normal ∙ components_kept 0 0 n text ps r)

-- Within a row nothing changes.
component_none : (text : List ℕ) (i j : ℕ) → component change text i j i j ≡ []
component_none text i j = rw (eq-eqb i i refl, eq-eqb j j refl) refl

component_row : (text : List ℕ) (i j a b l n m : ℕ) (ps : List (ℕ × ℕ)) → components change text i j (run_pairs a b (suc l) ++ ps) n m ≡ component change text i j a b ++ components change text (a + suc l) (b + suc l) ps n m
component_row text i j a b zero n m ps = refl
component_row text i j a b (suc l) n m ps =
    ap (λ cs. component change text i j a b ++ cs) (component_row text (a + 1) (b + 1) (a + 1) (b + 1) l n m ps
    ∙ ap (λ cs. cs ++ components change text (a + 1 + suc l) (b + 1 + suc l) ps n m) (component_none text (a + 1) (b + 1))
    ∙ ap (λ x. components change text x (b + 1 + suc l) ps n m) (let e : a + 1 + suc l ≡ a + suc (suc l) = omega arith in e)
    ∙ ap (λ x. components change text (a + suc (suc l)) x ps n m) (let e : b + 1 + suc l ≡ b + suc (suc l) = omega arith in e))

pub component_run : (text : List ℕ) (i j n m : ℕ) (r : KeptRun) (rs whole : List KeptRun) → whole ≡ r ∷ rs → 0 < r.len → components change text i j (pairs_of whole) n m ≡ component change text i j r.old r.new ++ components change text (r.old + r.len) (r.new + r.len) (pairs_of rs) n m
component_run text i j n m r rs whole is some =
    let len : suc (r.len - 1) ≡ r.len = omega arith in
    ap (λ w. components change text i j (pairs_of w) n m) is
    ∙ ap (λ l. components change text i j (run_pairs r.old r.new l ++ pairs_of rs) n m) (sym len)
    ∙ component_row text i j r.old r.new (r.len - 1) n m (pairs_of rs)
    ∙ ap (λ l. component change text i j r.old r.new ++ components change text (r.old + l) (r.new + l) (pairs_of rs) n m) len

-- one run more, and the end
pub record GapPut (n : ℕ) (text : List ℕ) (runs rest : List KeptRun) (old new : ℕ) (items : List Change) : Type 0 where
  pub rising : ArePairsRising old new n (length text) (pairs_of rest)
  pub changes : items ++ components change text old new (pairs_of rest) n (length text) ≡ components change text 0 0 (pairs_of runs) n (length text)

pub gap_put : (n : ℕ) (text : List ℕ) (runs rest whole : List KeptRun) (r : KeptRun) (old new : ℕ) (items more : List Change) → whole ≡ r ∷ rest → 0 < r.len → ArePairsRising old new n (length text) (pairs_of whole) → items ++ components change text old new (pairs_of whole) n (length text) ≡ components change text 0 0 (pairs_of runs) n (length text) → more ≡ items ++ component change text old new r.old r.new → GapPut n text runs rest (r.old + r.len) (r.new + r.len) more
gap_put n text runs rest whole r old new items more is some rising done put = record {
  rising = (run_behind old new n (length text) r rest whole is some rising).rest;
  changes = ap (λ xs. xs ++ components change text (r.old + r.len) (r.new + r.len) (pairs_of rest) n (length text)) put
      ∙ append_assoc items (component change text old new r.old r.new) (components change text (r.old + r.len) (r.new + r.len) (pairs_of rest) n (length text))
      ∙ ap (λ xs. items ++ xs) (sym (component_run text old new n (length text) r rest whole is some))
      ∙ done;
}

pub all_put : (n : ℕ) (text : List ℕ) (runs rest : List KeptRun) (old new : ℕ) (items all : List Change) → rest ≡ [] → items ++ components change text old new (pairs_of rest) n (length text) ≡ components change text 0 0 (pairs_of runs) n (length text) → all ≡ items ++ component change text old new n (length text) → all ≡ (listed n text (pairs_of runs)).changes
all_put n text runs rest old new items all none done put =
    put ∙ sym (ap (λ rs. items ++ components change text old new (pairs_of rs) n (length text)) none) ∙ done

-- what is pushed is the change list
pub listed_normal : (n : ℕ) (text : List ℕ) (ps : List (ℕ × ℕ)) (all : List Change) → ArePairsRising 0 0 n (length text) ps → all ≡ (listed n text ps).changes → AreNormalFrom 0 n all
listed_normal n text ps all rising is = subst (λ cs. AreNormalFrom 0 n cs) (sym is) (components_normal 0 0 n text ps rising)

pub listed_fits : (n : ℕ) (text : List ℕ) (ps : List (ℕ × ℕ)) (all : List Change) → ArePairsRising 0 0 n (length text) ps → all ≡ (listed n text ps).changes → new_len (record { old_len = n; changes = all }) ≡ length text
listed_fits n text ps all rising is = ap (λ cs. new_len (list_of cs)) is ∙ listed_len n text ps rising
  where
    list_of : List Change → ChangeList
    list_of cs = record { old_len = n; changes = cs }

-- what is left of runs at an index, and behind all
pub runs_at : (rs : List KeptRun) (k : ℕ) (d : KeptRun) → k < length rs → drop k rs ≡ get_or rs k d ∷ drop (k + 1) rs
runs_at rs k d below = drop-cons rs k d below ∙ rw add-one refl

pub no_runs : {X : Type 0} (rs : List X) (k : ℕ) → length rs ≤ k → drop k rs ≡ []
no_runs [] zero behind = refl
no_runs [] (suc k) behind = refl
no_runs (r ∷ rs) zero behind = absurd (omega arith)
no_runs (r ∷ rs) (suc k) behind = no_runs rs k (omega arith)

pub listed_is : (n : ℕ) (text : List ℕ) (ps : List (ℕ × ℕ)) (all : List Change) → all ≡ (listed n text ps).changes → listing n all ≡ listed n text ps
listed_is n text ps all is = ap (listing n) is
