-- Change lists in normal form: a list as an edit gives the list again, and the laws of applying and of the way back.
use Rattle.std.proofs.Common.{◌≡◌, ℕ, zero, suc, ◌+◌, ◌-◌, ◌<◌, ◌≤◌, max, true, false, nat_eq, nat_le, List, [], ◌∷◌, ◌++◌, length, map, drop, get_or, refl, sym, ap, ◌∙◌, arith, inl, inr}
use Rattle.std.specs.List.{slice_range}
use Rattle.std.proofs.lemmas.List.{append-nil, map-append, length-drop, length-take}
use Rattle.std.proofs.lemmas.Bool.{cases_lt}
use Rattle.std.proofs.lemmas.Bool.Decides.{nat_tests}
use Rattle.ed_base.specs.declared.edit.Change.{Change}
use Rattle.ed_base.specs.declared.edit.Replace.{Replace}
use Rattle.ed_base.specs.Edit.{inserted_at, is_deleted}
use Rattle.ed_base.specs.Step.{Step, inverse_step, pairs_from}
use Rattle.ed_base.specs.ChangeList.{ChangeList, change, components, as_edit, applied, step, inverse, new_len, AreNormalFrom}
use Rattle.ed_base.specs.NewStarts.{starts_from}
use Rattle.ed_base.proofs.NormalLists.{normal_earlier, given, sum_by_taken, sum_by_given, taken_within, length_starts, end_from, new_len_is_end}
use Rattle.ed_base.proofs.NormalSteps.{spliced, woven_spliced, length_spliced, normal_new_len, normal_kept, kept_from, run}
use Rattle.ed_change.proofs.Parts.{Part, forth, back, parts, sources, back_parts}
use Rattle.ed_change.proofs.Splicing.{itself, backward, normal_back, spliced_back, backward_forth, normal_within, given_each, turned_all, turned_end, turned_backward}
use Rattle.ed_change.proofs.SortedParts.{RisesFrom, sweep_all}
use Rattle.ed_change.specs.Sweep.{change_if, sweep}

abbrev pub listed : ℕ → List Change → ChangeList
listed n cs = record { old_len = n; changes = cs }

abbrev a_step : ℕ → ℕ → List (ℕ × ℕ) → Step
a_step n m ps = record { old_len = n; new_len = m; kept = ps }

-- a change as a replace
abbrev pub as_replace : Change → Replace
as_replace x = record { start = x.start; len = x.old_len; text = x.text }

rises_earlier : (p q n : ℕ) (rs : List Replace) → p ≤ q → RisesFrom q n rs → RisesFrom p n rs
rises_earlier p q n [] l h = tt
rises_earlier p q n (r ∷ rs) l h = (omega (arith, h.0), h.1, h.2)

rises_normal : (p n : ℕ) (cs : List Change) → AreNormalFrom p n cs → RisesFrom p n (map as_replace cs)
rises_normal p n [] h = tt
rises_normal p n (c ∷ cs) h = (h.0, h.1, rises_earlier c.start (c.start + c.old_len + 1) n (map as_replace cs) (omega arith) (rises_normal (c.start + c.old_len + 1) n cs h.3))

change_if_does : (start d : ℕ) (new : List ℕ) → 0 < d + length new → change_if start (start + d) new ≡ change start d new ∷ []
change_if_does start d [] l =
    let f : nat_eq start (start + d) ≡ false = grind (arith, nat_tests) in
    let w : start + d - start ≡ d = omega arith in
    rw (f, w) refl
change_if_does start d (u ∷ us) l = let w : start + d - start ≡ d = omega arith in rw w refl

sweep_after : (i e n : ℕ) (new : List ℕ) (cs : List Change) → AreNormalFrom (e + 1) n cs → sweep i e new (map as_replace cs) ≡ change_if i e new ++ cs
sweep_after i e n new [] h = sym (append-nil (change_if i e new))
sweep_after i e n new (c ∷ cs) h =
    let f : nat_le c.start e ≡ false = grind (arith, nat_tests, h.0) in
    rw (f, sweep_after c.start (c.start + c.old_len) n c.text cs h.3, change_if_does c.start c.old_len c.text h.2) refl

sweep_normal : (n : ℕ) (cs : List Change) → AreNormalFrom 0 n cs → sweep 0 0 [] (map as_replace cs) ≡ cs
sweep_normal n [] h = refl
sweep_normal n (c ∷ cs) h =
    let all : sweep c.start (c.start + c.old_len) c.text (map as_replace cs) ≡ c ∷ cs = rw (sweep_after c.start (c.start + c.old_len) n c.text cs h.3, change_if_does c.start c.old_len c.text h.2) refl in
    elim (cases_lt 0 c.start) [
      | inl l ↦
          let f : nat_le c.start 0 ≡ false = grind (arith, nat_tests) in
          rw f all
      | inr l ↦
          let t : nat_le c.start 0 ≡ true = grind (arith, nat_tests) in
          let z : c.start ≡ 0 = omega arith in
          let w : max 0 (c.start + c.old_len) ≡ c.start + c.old_len = omega arith in
          rw (t, w) (ap (λ s. sweep s (c.start + c.old_len) c.text (map as_replace cs)) (sym z) ∙ all)
    ]

module _ (c : ChangeList) (text : List ℕ) (fits : length text ≡ c.old_len) (normal : AreNormalFrom 0 c.old_len c.changes) where
  -- the parts of the list as an edit
  abbrev own_parts : List (Part ℕ)
  own_parts = parts (inserted_at (as_edit c)) (is_deleted (as_edit c)) 0 0 0 [] [] text

  own_changes : map forth own_parts ≡ c.changes
  own_changes =
      let rises : RisesFrom 0 (length text) (as_edit c) = rw fits (rises_normal 0 c.old_len c.changes normal) in
      sweep_all (as_edit c) text rises ∙ sweep_normal c.old_len c.changes normal

  pub applied_spliced : applied c text ≡ spliced itself 0 c.changes text
  applied_spliced = woven_spliced itself refl 0 c.old_len c.changes text (omega (arith, fits)) normal

  pub length_applied : length (applied c text) ≡ new_len c
  length_applied =
      let all : 0 + length text ≡ c.old_len = omega (arith, fits) in
      let len : 0 + length (spliced itself 0 c.changes text) ≡ end_from 0 0 c.old_len c.changes = rw all at (length_spliced itself (λ t. refl) 0 0 c.changes text (rw all normal)) in
      rw applied_spliced (omega (arith, len, new_len_is_end c.old_len c.changes normal))

module _ (c : ChangeList) (text : List ℕ) (fits : length text ≡ c.old_len) (normal : AreNormalFrom 0 c.old_len c.changes) where
  -- the way back, change by change
  pub inverse_changes : (inverse c text).changes ≡ backward text 0 0 c.changes
  inverse_changes =
      let n : ℕ = c.old_len in
      let found : components change text 0 0 (map (λ pair. (pair.1, pair.0)) (pairs_from 0 (sources (inserted_at (as_edit c)) (is_deleted (as_edit c)) 0 n))) (step c).new_len n ≡ map back (own_parts c text fits normal) =
      rw fits at (back_parts (inserted_at (as_edit c)) (is_deleted (as_edit c)) text 0 0 0 [] [] text (length text) (length (sources (inserted_at (as_edit c)) (is_deleted (as_edit c)) 0 (length text))) refl refl (omega arith) (omega arith)) in
      found ∙ sym (rw (own_changes c text fits normal) at (backward_forth (inserted_at (as_edit c)) (is_deleted (as_edit c)) text 0 0 0 [] [] text refl refl))

  pub inverse_is : inverse c text ≡ listed (new_len c) (backward text 0 0 c.changes)
  inverse_is = ap (λ m. listed m (inverse c text).changes) (normal_new_len c normal) ∙ ap (λ cs. listed (new_len c) cs) inverse_changes

  back_is : backward text 0 0 c.changes ≡ map back (own_parts c text fits normal)
  back_is = rw (own_changes c text fits normal) at (backward_forth (inserted_at (as_edit c)) (is_deleted (as_edit c)) text 0 0 0 [] [] text refl refl)

  pub inverse_normal : AreNormalFrom 0 (new_len c) (backward text 0 0 c.changes)
  inverse_normal =
      let n : AreNormalFrom 0 (length (applied c text)) (map back (own_parts c text fits normal)) = normal_back (inserted_at (as_edit c)) (is_deleted (as_edit c)) 0 0 0 [] [] text (length (applied c text)) (omega arith) in
      rw (back_is, ← length_applied c text fits normal) n

  -- the change list back makes the old text of the new one
  pub applied_back : applied (listed (new_len c) (backward text 0 0 c.changes)) (applied c text) ≡ text
  applied_back =
      applied_spliced (listed (new_len c) (backward text 0 0 c.changes)) (applied c text) (length_applied c text fits normal) inverse_normal
      ∙ (rw back_is (spliced_back (inserted_at (as_edit c)) (is_deleted (as_edit c)) 0 0 0 [] [] text))

  pub applied_inverse : applied (inverse c text) (applied c text) ≡ text
  applied_inverse = ap (λ d. applied d (applied c text)) inverse_is ∙ applied_back

  -- it leads to a text as long as the old one
  pub back_new_len : new_len (listed (new_len c) (backward text 0 0 c.changes)) ≡ c.old_len
  back_new_len = sym (length_applied (listed (new_len c) (backward text 0 0 c.changes)) (applied c text) (length_applied c text fits normal) inverse_normal) ∙ ap length applied_back ∙ fits

-- a pair, the other way round
abbrev swapped : ℕ × ℕ → ℕ × ℕ
swapped pair = (pair.1, pair.0)

swapped_run : (i j k : ℕ) → run j i k ≡ map swapped (run i j k)
swapped_run i j zero = refl
swapped_run i j (suc k) = ap (λ ps. (j, i) ∷ ps) (swapped_run (i + 1) (j + 1) k)

-- what the changes back keep
kept_back : (text : List ℕ) (i j n : ℕ) (cs : List Change) → length text ≡ n → AreNormalFrom i n cs → kept_from j i (end_from i j n cs) (backward text i j cs) ≡ map swapped (kept_from i j n cs)
kept_back text i j n [] e h =
    let w : j + (n - i) - j ≡ n - i = omega arith in
    rw w (swapped_run i j (n - i))
kept_back text i j n (c ∷ cs) e h =
    let k : ℕ = c.start - i in
    let w : j + k - j ≡ k = omega arith in
    let old : length (slice_range text c.start (c.start + c.old_len)) ≡ c.old_len = grind (arith, length-take, length-drop, h.1) in
    let v : i + k + c.old_len ≡ c.start + c.old_len = omega (arith, h.0) in
    let later : AreNormalFrom (c.start + c.old_len) n cs = normal_earlier (c.start + c.old_len) (c.start + c.old_len + 1) n cs (omega arith) h.3 in
    let ih : kept_from (j + k + length c.text) (c.start + c.old_len) (end_from (c.start + c.old_len) (j + k + length c.text) n cs) (backward text (c.start + c.old_len) (j + k + length c.text) cs) ≡ map swapped (kept_from (c.start + c.old_len) (j + k + length c.text) n cs) = kept_back text (c.start + c.old_len) (j + k + length c.text) n cs e later in
    rw (w, old, v, map-append, swapped_run i j k, ih) refl

-- a change puts in fewer units than a number of units can be
pub text_fits : (m n : ℕ) (items cs : List Change) (k : ℕ) (x : Change) → items ≡ cs → AreNormalFrom 0 n cs → new_len (listed n cs) < m → k < length items → x ≡ get_or items k x → length x.text < m
text_fits m n items cs k x e normal fits below is =
    let one : length (get_or items k x).text ≤ given items = given_each items k x below in
    let same : given items ≡ given cs = ap given e in
    let len : length x.text ≡ length (get_or items k x).text = ap (λ y. length y.text) is in
    omega (arith, one, same, len, fits, sum_by_given cs, sum_by_taken cs, taken_within 0 n cs (omega arith) normal)

-- it lies in the text
pub lies_within : (n : ℕ) (items cs : List Change) (k : ℕ) (x : Change) → items ≡ cs → AreNormalFrom 0 n cs → k < length items → x ≡ get_or items k x → x.start + x.old_len ≤ n
lies_within n items cs k x e normal below is =
    let normal' : AreNormalFrom 0 n items = rw e normal in
    omega (arith, ap (λ y. y.start + y.old_len) is, normal_within 0 n items normal' k x below)

-- the changes that were turned round, one by one, are those back
pub all_turned : (text : List ℕ) (cs done : List Change) (k : ℕ) → length cs ≤ k → done ++ turned_all text (drop k (starts_from 0 0 cs)) (drop k cs) ≡ turned_all text (starts_from 0 0 cs) cs → done ≡ backward text 0 0 cs
all_turned text cs done k past h = turned_end text (starts_from 0 0 cs) cs (turned_all text (starts_from 0 0 cs) cs) done k (length_starts 0 0 cs) past h ∙ turned_backward text 0 0 cs

module _ (c : ChangeList) (text : List ℕ) (fits : length text ≡ c.old_len) (normal : AreNormalFrom 0 c.old_len c.changes) where
  -- the step of the changes back is the step back
  pub step_back : step (listed (new_len c) (backward text 0 0 c.changes)) ≡ inverse_step (step c)
  step_back =
      let d : ChangeList = listed (new_len c) (backward text 0 0 c.changes) in
      let d_normal : AreNormalFrom 0 (new_len c) d.changes = inverse_normal c text fits normal in
      let new : (step d).new_len ≡ c.old_len = normal_new_len d d_normal ∙ back_new_len c text fits normal in
      let kept : (step d).kept ≡ map swapped (step c).kept = normal_kept d d_normal ∙ ap (λ m. kept_from 0 0 m d.changes) (sym (new_len_is_end c.old_len c.changes normal)) ∙ kept_back text 0 0 c.old_len c.changes fits normal ∙ ap (map swapped) (sym (normal_kept c normal)) in
      ap (λ m. a_step (new_len c) m (step d).kept) new ∙ ap (λ ps. a_step (new_len c) c.old_len ps) kept ∙ ap (λ m. a_step m c.old_len (map swapped (step c).kept)) (sym (normal_new_len c normal))

-- What holds of a list that is made of the changes back.
pub record IsBack (c : ChangeList) (text : List ℕ) (d : ChangeList) : Type 0 where
  pub inverse : d ≡ inverse c text
  pub undone : applied d (applied c text) ≡ text
  pub step : step d ≡ inverse_step (step c)
  pub old_len : d.old_len ≡ new_len c
  pub new_len : new_len d ≡ c.old_len

pub is_back : (c : ChangeList) (text : List ℕ) → length text ≡ c.old_len → AreNormalFrom 0 c.old_len c.changes → (items : List Change) (d : ChangeList) → items ≡ backward text 0 0 c.changes → d ≡ listed (new_len c) items → IsBack c text d
is_back c text fits normal items d e h =
    let same : d ≡ listed (new_len c) (backward text 0 0 c.changes) = h ∙ ap (λ cs. listed (new_len c) cs) e in
    record {
      inverse = same ∙ sym (inverse_is c text fits normal);
      undone = ap (λ f. applied f (applied c text)) same ∙ applied_back c text fits normal;
      step = ap step same ∙ step_back c text fits normal;
      old_len = ap (λ f. f.old_len) same;
      new_len = ap new_len same ∙ back_new_len c text fits normal;
    }
