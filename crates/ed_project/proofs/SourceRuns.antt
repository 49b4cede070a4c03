-- The runs that a source's step keeps.
use Rattle.std.proofs.Common.{◌≡◌, ℕ, zero, suc, ◌+◌, ◌-◌, ◌<◌, ◌≤◌, List, [], ◌∷◌, ◌++◌, length, get_or, take, drop, Some, refl, sym, ap, subst, ◌∙◌, arith}
use Rattle.std.specs.Prelude.{slice_get, slice_index, unwrap_or}
use Rattle.std.proofs.lemmas.List.{append-nil, take-append-drop}
use Rattle.std.proofs.Math.Seq.{take-length}
use Rattle.ed_base.specs.declared.edit.Change.{Change}
use Rattle.ed_base.specs.ChangeList.{ChangeList, AreNormalFrom, IsNormal, step, new_len}
use Rattle.ed_base.specs.NewStarts.{starts_from}
use Rattle.ed_base.proofs.NormalLists.{normal_earlier, end_from, new_len_is_end, reached_below_end}
use Rattle.ed_base.proofs.NormalSteps.{normal_new_len}
use Rattle.ed_kept.specs.declared.kept.KeptRun.{KeptRun}
use Rattle.ed_project.specs.declared.kept.Move.{Move}
use Rattle.ed_kept.specs.Kept.{ArePairsRising, kept_run, pairs_of, run_pairs, runs_from, runs_of}
use Rattle.ed_project.specs.Kept.{shown_pairs, stop_at}
use Rattle.ed_kept.proofs.Rising.{pairs_append, pairs_push}
use Rattle.ed_kept.proofs.RunLemmas.{step_kept, step_rising}
use Rattle.ed_project.proofs.Showing.{shown_append, shown_before, shown_behind}

-- where the run with this index begins in the old and in the new text
abbrev pub old_at : ℕ → List Change → ℕ → ℕ
old_at i cs zero = i
old_at i [] (suc k) = i
old_at i (c ∷ cs) (suc k) = old_at (c.start + c.old_len) cs k

abbrev pub new_at : ℕ → ℕ → List Change → ℕ → ℕ
new_at i j cs zero = j
new_at i j [] (suc k) = j
new_at i j (c ∷ cs) (suc k) = new_at (c.start + c.old_len) (j + (c.start - i) + length c.text) cs k

pub run_get : (i j n : ℕ) (cs : List Change) (k : ℕ) → k ≤ length cs → slice_get (runs_from i j n cs) k ≡ Some (kept_run (old_at i cs k) (new_at i j cs k) (stop_at n cs k - old_at i cs k))
run_get i j n [] zero there = refl
run_get i j n [] (suc k) there = absurd (omega arith)
run_get i j n (c ∷ cs) zero there = refl
run_get i j n (c ∷ cs) (suc k) there = run_get (c.start + c.old_len) (j + (c.start - i) + length c.text) n cs k (omega arith)

pub length_runs : (i j n : ℕ) (cs : List Change) → length (runs_from i j n cs) ≡ length cs + 1
length_runs i j n [] = refl
length_runs i j n (c ∷ cs) = omega (arith, length_runs (c.start + c.old_len) (j + (c.start - i) + length c.text) n cs)

pub old_at_is : (i : ℕ) (cs : List Change) (k : ℕ) (x : Change) → k < length cs → old_at i cs (suc k) ≡ (get_or cs k x).start + (get_or cs k x).old_len
old_at_is i [] k x there = absurd (omega arith)
old_at_is i (c ∷ cs) zero x there = refl
old_at_is i (c ∷ cs) (suc k) x there = old_at_is (c.start + c.old_len) cs k x (omega arith)

pub new_at_is : (i j : ℕ) (cs : List Change) (k : ℕ) (x : Change) → k < length cs → new_at i j cs (suc k) ≡ slice_index (starts_from i j cs) k + length (get_or cs k x).text
new_at_is i j [] k x there = absurd (omega arith)
new_at_is i j (c ∷ cs) zero x there = refl
new_at_is i j (c ∷ cs) (suc k) x there = new_at_is (c.start + c.old_len) (j + (c.start - i) + length c.text) cs k x (omega arith)

pub stop_at_is : (n : ℕ) (cs : List Change) (k : ℕ) (x : Change) → k < length cs → slice_get cs k ≡ Some x → stop_at n cs k ≡ x.start
stop_at_is n [] k x there is = absurd (omega arith)
stop_at_is n (c ∷ cs) zero x there is = let same : c ≡ x = cc in ap (λ (y : Change). y.start) same
stop_at_is n (c ∷ cs) (suc k) x there is = stop_at_is n cs k x (omega arith) is

pub stop_at_end : (n : ℕ) (cs : List Change) (k : ℕ) → length cs ≤ k → stop_at n cs k ≡ n
stop_at_end n [] k behind = refl
stop_at_end n (c ∷ cs) zero behind = absurd (omega arith)
stop_at_end n (c ∷ cs) (suc k) behind = stop_at_end n cs k (omega arith)

-- where the run lies
pub record RunLies (i j n : ℕ) (cs : List Change) (k : ℕ) : Type 0 where
  pub from : i ≤ old_at i cs k
  pub order : old_at i cs k ≤ stop_at n cs k
  pub old : stop_at n cs k ≤ n
  pub new : new_at i j cs k + (stop_at n cs k - old_at i cs k) ≤ end_from i j n cs

pub run_lies : (i j n : ℕ) (cs : List Change) (k : ℕ) → i ≤ n → AreNormalFrom i n cs → k ≤ length cs → RunLies i j n cs k
run_lies i j n [] zero within normal there = record { from = omega arith; order = within; old = omega arith; new = omega arith }
run_lies i j n [] (suc k) within normal there = absurd (omega arith)
run_lies i j n (c ∷ cs) zero within normal there = record {
  from = omega arith;
  order = normal.0;
  old = omega (arith, normal.1);
  new = omega (arith, reached_below_end (c.start + c.old_len) (j + (c.start - i) + length c.text) n cs);
}
run_lies i j n (c ∷ cs) (suc k) within normal there =
    let rest : RunLies (c.start + c.old_len) (j + (c.start - i) + length c.text) n cs k =
    run_lies (c.start + c.old_len) (j + (c.start - i) + length c.text) n cs k normal.1 (normal_earlier (c.start + c.old_len) (c.start + c.old_len + 1) n cs (omega arith) normal.3) (omega arith) in
    record { from = omega (arith, rest.from, normal.0); order = rest.order; old = rest.old; new = rest.new }

-- The member shows nothing of the runs up to one that ends at or before its old bounds.
pub none_up_to : (m : Move) (i j n : ℕ) (cs : List Change) (k : ℕ) → i ≤ n → AreNormalFrom i n cs → k ≤ length cs → stop_at n cs k ≤ m.old.start → shown_pairs m (pairs_of (take (suc k) (runs_from i j n cs))) ≡ []
none_up_to m i j n [] zero within normal there before =
    ap (shown_pairs m) (append-nil (run_pairs i j (n - i))) ∙ shown_before m i j (n - i) (omega arith)
none_up_to m i j n [] (suc k) within normal there before = absurd (omega arith)
none_up_to m i j n (c ∷ cs) zero within normal there before =
    ap (shown_pairs m) (append-nil (run_pairs i j (c.start - i))) ∙ shown_before m i j (c.start - i) (omega (arith, normal.0))
none_up_to m i j n (c ∷ cs) (suc k) within normal there before =
    let e : ℕ = c.start + c.old_len in
    let later : AreNormalFrom e n cs = normal_earlier e (e + 1) n cs (omega arith) normal.3 in
    let lies : RunLies e (j + (c.start - i) + length c.text) n cs k = run_lies e (j + (c.start - i) + length c.text) n cs k normal.1 later (omega arith) in
    let rest : List (ℕ × ℕ) = pairs_of (take (suc k) (runs_from e (j + (c.start - i) + length c.text) n cs)) in
    shown_append m (run_pairs i j (c.start - i)) rest
    ∙ ap (λ zs. zs ++ shown_pairs m rest) (shown_before m i j (c.start - i) (omega (arith, normal.0, lies.from, lies.order)))
    ∙ none_up_to m e (j + (c.start - i) + length c.text) n cs k normal.1 later (omega arith) before

-- Nor of those from one on that begins behind them.
none_behind : (m : Move) (i j n : ℕ) (cs : List Change) → AreNormalFrom i n cs → m.old.start + m.old.len ≤ i → shown_pairs m (pairs_of (runs_from i j n cs)) ≡ []
none_behind m i j n [] normal behind =
    ap (shown_pairs m) (append-nil (run_pairs i j (n - i))) ∙ shown_behind m i j (n - i) behind
none_behind m i j n (c ∷ cs) normal behind =
    let e : ℕ = c.start + c.old_len in
    let rest : List (ℕ × ℕ) = pairs_of (runs_from e (j + (c.start - i) + length c.text) n cs) in
    shown_append m (run_pairs i j (c.start - i)) rest
    ∙ ap (λ zs. zs ++ shown_pairs m rest) (shown_behind m i j (c.start - i) behind)
    ∙ none_behind m e (j + (c.start - i) + length c.text) n cs (normal_earlier e (e + 1) n cs (omega arith) normal.3) (omega (arith, normal.0))

pub none_from : (m : Move) (i j n : ℕ) (cs : List Change) (k : ℕ) → AreNormalFrom i n cs → k ≤ length cs → m.old.start + m.old.len ≤ old_at i cs k → shown_pairs m (pairs_of (drop k (runs_from i j n cs))) ≡ []
none_from m i j n cs zero normal there behind = none_behind m i j n cs normal behind
none_from m i j n [] (suc k) normal there behind = absurd (omega arith)
none_from m i j n (c ∷ cs) (suc k) normal there behind =
    none_from m (c.start + c.old_len) (j + (c.start - i) + length c.text) n cs k (normal_earlier (c.start + c.old_len) (c.start + c.old_len + 1) n cs (omega arith) normal.3) (omega arith) behind

-- What a step keeps rises up to its lengths.
pub step_rises : (c : ChangeList) → IsNormal c → ArePairsRising 0 0 c.old_len (step c).new_len (step c).kept
step_rises c normal = subst (λ m. ArePairsRising 0 0 c.old_len m (step c).kept) (sym (normal_new_len c normal.changes)) (step_rising c normal)

-- one run more
pub take_more : {X : Type 0} (xs : List X) (k : ℕ) (x : X) → slice_get xs k ≡ Some x → take (k + 1) xs ≡ take k xs ++ x ∷ []
take_more [] k x is = absurd (let impossible : ⊥ = cc in impossible)
take_more (y ∷ ys) zero x is = let same : y ≡ x = cc in ap (λ z. z ∷ []) same
take_more (y ∷ ys) (suc k) x is = rw (let e : suc k + 1 ≡ suc (k + 1) = omega arith in e) (ap (λ zs. y ∷ zs) (take_more ys k x is))

-- What is found of a run by the change before it.
pub record RunFound (c : ChangeList) (k old new end : ℕ) : Type 0 where
  pub old_is : old ≡ old_at 0 c.changes k
  pub new_is : new ≡ new_at 0 0 c.changes k
  pub order : old ≤ end
  pub old_end : end ≤ c.old_len
  pub new_end : new + (end - old) ≤ new_len c
  pub run : slice_get (runs_of c) k ≡ Some (kept_run old new (end - old))

run_found : (c : ChangeList) (k old new end : ℕ) → IsNormal c → k ≤ length c.changes → end ≡ stop_at c.old_len c.changes k → old ≡ old_at 0 c.changes k → new ≡ new_at 0 0 c.changes k → RunFound c k old new end
run_found c k old new end normal there stop old_is new_is =
    let lies : RunLies 0 0 c.old_len c.changes k = run_lies 0 0 c.old_len c.changes k (omega arith) normal.changes there in
    let behind : end_from 0 0 c.old_len c.changes ≡ new_len c = new_len_is_end c.old_len c.changes normal.changes in
    record {
      old_is = old_is;
      new_is = new_is;
      order = omega (arith, lies.order);
      old_end = omega (arith, lies.old);
      new_end = rw (old_is, new_is, stop) (omega (arith, lies.new));
      run = run_get 0 0 c.old_len c.changes k there
          ∙ ap (λ x. Some (kept_run x (new_at 0 0 c.changes k) (stop_at c.old_len c.changes k - x))) (sym old_is)
          ∙ ap (λ x. Some (kept_run old x (stop_at c.old_len c.changes k - old))) (sym new_is)
          ∙ ap (λ x. Some (kept_run old new (x - old))) (sym stop);
    }

pub first_found : (c : ChangeList) (k end : ℕ) → IsNormal c → k ≡ 0 → end ≡ stop_at c.old_len c.changes k → RunFound c k 0 0 end
first_found c k end normal first stop =
    run_found c k 0 0 end normal (omega arith) stop (ap (old_at 0 c.changes) (sym first)) (ap (new_at 0 0 c.changes) (sym first))

pub later_found : (c : ChangeList) (k end start : ℕ) (x : Change) → IsNormal c → 0 < k → k ≤ length c.changes → end ≡ stop_at c.old_len c.changes k → x ≡ get_or c.changes (k - 1) x → start ≡ slice_index (starts_from 0 0 c.changes) (k - 1) → RunFound c k (x.start + x.old_len) (start + length x.text) end
later_found c k end start x normal some there stop is begins =
    let after : suc (k - 1) ≡ k = omega arith in
    run_found c k (x.start + x.old_len) (start + length x.text) end normal there stop
    (ap (λ (y : Change). y.start + y.old_len) is ∙ sym (old_at_is 0 c.changes (k - 1) x (omega arith)) ∙ ap (old_at 0 c.changes) after)
    (ap (λ y. y + length x.text) begins ∙ ap (λ (y : Change). slice_index (starts_from 0 0 c.changes) (k - 1) + length y.text) is ∙ sym (new_at_is 0 0 c.changes (k - 1) x (omega arith)) ∙ ap (new_at 0 0 c.changes) after)

-- the run that is there, by its index
some_run : (c : ChangeList) (k : ℕ) (r : KeptRun) → k ≤ length c.changes → slice_get (runs_of c) k ≡ Some r → r ≡ kept_run (old_at 0 c.changes k) (new_at 0 0 c.changes k) (stop_at c.old_len c.changes k - old_at 0 c.changes k)
some_run c k r there is =
    let known : slice_get (runs_of c) k ≡ Some (kept_run (old_at 0 c.changes k) (new_at 0 0 c.changes k) (stop_at c.old_len c.changes k - old_at 0 c.changes k)) = run_get 0 0 c.old_len c.changes k there in
    let same : Some r ≡ Some (kept_run (old_at 0 c.changes k) (new_at 0 0 c.changes k) (stop_at c.old_len c.changes k - old_at 0 c.changes k)) = sym is ∙ known in
    ap (λ o. unwrap_or o r) same

-- nothing is shown of the runs up to one that ends before the member
pub none_before : (m : Move) (c : ChangeList) (k : ℕ) (r : KeptRun) → IsNormal c → k ≤ length c.changes → slice_get (runs_of c) k ≡ Some r → r.old + r.len ≤ m.old.start → shown_pairs m (pairs_of (take (k + 1) (runs_of c))) ≡ []
none_before m c k r normal there is before =
    let lies : RunLies 0 0 c.old_len c.changes k = run_lies 0 0 c.old_len c.changes k (omega arith) normal.changes there in
    let run_is : r ≡ kept_run (old_at 0 c.changes k) (new_at 0 0 c.changes k) (stop_at c.old_len c.changes k - old_at 0 c.changes k) = some_run c k r there is in
    let ends : r.old + r.len ≡ old_at 0 c.changes k + (stop_at c.old_len c.changes k - old_at 0 c.changes k) = ap (λ (x : KeptRun). x.old + x.len) run_is in
    ap (λ n. shown_pairs m (pairs_of (take n (runs_of c)))) (let e : k + 1 ≡ suc k = omega arith in e)
    ∙ none_up_to m 0 0 c.old_len c.changes k (omega arith) normal.changes there (omega (arith, ends, lies.order))

-- Of the runs up to one, and of all: where that begins behind the member, or is the last.
pub shown_more : (m : Move) (c : ChangeList) (k : ℕ) (r : KeptRun) → slice_get (runs_of c) k ≡ Some r → shown_pairs m (pairs_of (take (k + 1) (runs_of c))) ≡ shown_pairs m (pairs_of (take k (runs_of c))) ++ shown_pairs m (run_pairs r.old r.new r.len)
shown_more m c k r is =
    ap (λ rs. shown_pairs m (pairs_of rs)) (take_more (runs_of c) k r is)
    ∙ ap (shown_pairs m) (pairs_push (take k (runs_of c)) r)
    ∙ shown_append m (pairs_of (take k (runs_of c))) (run_pairs r.old r.new r.len)

pub shown_enough : (m : Move) (c : ChangeList) (k : ℕ) (r : KeptRun) → IsNormal c → k ≤ length c.changes → slice_get (runs_of c) k ≡ Some r → m.old.start + m.old.len ≤ r.old → shown_pairs m (pairs_of (take k (runs_of c))) ≡ shown_pairs m (step c).kept
shown_enough m c k r normal there is behind =
    let run_is : r ≡ kept_run (old_at 0 c.changes k) (new_at 0 0 c.changes k) (stop_at c.old_len c.changes k - old_at 0 c.changes k) = some_run c k r there is in
    let begins : r.old ≡ old_at 0 c.changes k = ap (λ (x : KeptRun). x.old) run_is in
    let front : List (ℕ × ℕ) = pairs_of (take k (runs_of c)) in
    let back : List (ℕ × ℕ) = pairs_of (drop k (runs_of c)) in
    let none : shown_pairs m back ≡ [] = none_from m 0 0 c.old_len c.changes k normal.changes there (omega (arith, begins)) in
    sym (ap (shown_pairs m) (step_kept c normal ∙ ap pairs_of (sym (take-append-drop k (runs_of c))) ∙ pairs_append (take k (runs_of c)) (drop k (runs_of c)))
    ∙ shown_append m front back ∙ ap (λ zs. shown_pairs m front ++ zs) none ∙ append-nil (shown_pairs m front))

pub shown_whole : (m : Move) (c : ChangeList) (k : ℕ) → IsNormal c → k ≡ length c.changes → shown_pairs m (pairs_of (take (k + 1) (runs_of c))) ≡ shown_pairs m (step c).kept
shown_whole m c k normal last =
    let size : k + 1 ≡ length (runs_of c) = omega (arith, length_runs 0 0 c.old_len c.changes) in
    ap (λ n. shown_pairs m (pairs_of (take n (runs_of c)))) size ∙ ap (λ rs. shown_pairs m (pairs_of rs)) (take-length (runs_of c)) ∙ ap (shown_pairs m) (sym (step_kept c normal))
