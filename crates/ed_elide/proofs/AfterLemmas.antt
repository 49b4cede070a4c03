-- The hidden places after a step of the source are those of one pass over its changes.
use Rattle.std.proofs.Common.{◌≡◌, ℕ, zero, suc, ◌+◌, ◌-◌, ◌<◌, ◌≤◌, ◌⊎◌, Bool, not, ◌&&◌, List, [], ◌∷◌, ◌++◌, length, map, Option, Some, None, inl, inr, refl, sym, ap, ◌∙◌, arith}
use Rattle.std.specs.Prelude.{find, option_map}
use Rattle.std.specs.Option.{option_map_or}
use Rattle.std.specs.List.{range_with_len}
use Rattle.std.proofs.lemmas.Bool.{cases_lt, lt-ltb, le-ltb}
use Rattle.ed_base.specs.declared.edit.Change.{Change}
use Rattle.ed_base.specs.ChangeList.{ChangeList, AreNormalFrom, step}
use Rattle.ed_base.specs.Numbers.{find_last}
use Rattle.ed_base.proofs.NormalLists.{end_from, reached_below_end, new_len_is_end}
use Rattle.ed_base.proofs.NormalSteps.{run, kept_from, normal_kept, normal_new_len}
use Rattle.ed_layers.specs.Records.{is_hidden}
use Rattle.ed_layers.specs.SourceStep.{SourceStep, trail_at, names}
use Rattle.ed_layers.specs.Hidden.{among_hidden, hidden_after, flags_after, kept_left, kept_right}
use Rattle.ed_elide.specs.AfterStep.{left_of, right_of, stay, put_in, around, after_changes}
use Rattle.ed_elide.proofs.PairLemmas.{AreBelow, at, under, over, none_at_from, none_at_below, none_under, none_over, find_behind, run_at, run_below, below_later, below_append, kept_are_from, last_behind, last_some, run_last, first_over, no_pairs}

pub map_shift : {X : Type 0} (f g : ℕ → X) (a b n : ℕ) → ((d : ℕ) → d < n → f (a + d) ≡ g (b + d)) → map f (range_with_len a n) ≡ map g (range_with_len b n)
map_shift f g a b zero same = refl
map_shift f g a b (suc n) same =
    let e : a + 0 ≡ a = omega arith in let e' : b + 0 ≡ b = omega arith in
    let here : f a ≡ g b = ap f (sym e) ∙ same 0 (omega arith) ∙ ap g e' in
    rw (here, map_shift f g (a + 1) (b + 1) n (λ d less. let x : a + 1 + d ≡ a + suc d = omega arith in let y : b + suc d ≡ b + 1 + d = omega arith in ap f x ∙ same (suc d) (omega arith) ∙ ap g y)) refl

pub map_split : {X : Type 0} (f : ℕ → X) (a m k : ℕ) → map f (range_with_len a (m + k)) ≡ map f (range_with_len a m) ++ map f (range_with_len (a + m) k)
map_split f a zero k = let e : a ≡ a + 0 = omega arith in let e' : 0 + k ≡ k = omega arith in ap (λ m. map f (range_with_len a m)) e' ∙ ap (λ b. map f (range_with_len b k)) e
map_split f a (suc m) k = let e : suc m + k ≡ suc (m + k) = omega arith in let e' : a + 1 + m ≡ a + suc m = omega arith in
    ap (λ x. map f (range_with_len a x)) e ∙ ap (λ u. f a ∷ u) (map_split f (a + 1) m k ∙ ap (λ b. map f (range_with_len (a + 1) m) ++ map f (range_with_len b k)) e')

append_none : {X : Type 0} (xs : List X) → xs ≡ xs ++ []
append_none [] = refl
append_none (x ∷ xs) = ap (λ u. x ∷ u) (append_none xs)

append_twice : {X : Type 0} (xs ys zs : List X) → xs ++ (ys ++ zs) ≡ (xs ++ ys) ++ zs
append_twice [] ys zs = refl
append_twice (x ∷ xs) ys zs = ap (λ u. x ∷ u) (append_twice xs ys zs)

module _ (me : ℕ) (s : SourceStep) (flags : List Bool) where
  -- a unit with a kept pair, and one without
  stays_so : (p q : ℕ) → find (at q) s.step.kept ≡ Some (p, q) → hidden_after me s flags q ≡ is_hidden flags p
  stays_so p q found = ap (λ o. option_map_or (is_hidden flags) (option_map (λ (pair : ℕ × ℕ). pair.0) o) (among_hidden flags (kept_left s q) (kept_right s q) && not (names me (trail_at s q)))) found

  is_put_in : (q : ℕ) (a b : Option ℕ) → find (at q) s.step.kept ≡ None → kept_left s q ≡ a → kept_right s q ≡ b → hidden_after me s flags q ≡ (among_hidden flags a b && not (names me (trail_at s q)))
  is_put_in q a b none left right = ap (λ o. option_map_or (is_hidden flags) (option_map (λ (pair : ℕ × ℕ). pair.0) o) (among_hidden flags (kept_left s q) (kept_right s q) && not (names me (trail_at s q)))) none
      ∙ ap (λ x. among_hidden flags x (kept_right s q) && not (names me (trail_at s q))) left ∙ ap (λ x. among_hidden flags a x && not (names me (trail_at s q))) right

  module _ (n : ℕ) where
    -- the kept units of a run, behind pairs of lower new places
    kept_part : (i j k : ℕ) (front rest : List (ℕ × ℕ)) → AreBelow j front → s.step.kept ≡ front ++ (run i j k ++ rest) → map (hidden_after me s flags) (range_with_len j k) ≡ stay me s flags n i k
    kept_part i j k front rest below whole = map_shift (hidden_after me s flags) (is_hidden flags) j i k (λ d less.
        stays_so (i + d) (j + d) (ap (λ ps. find (at (j + d)) ps) whole ∙ find_behind (at (j + d)) front (run i j k ++ rest) (none_at_below (j + d) j front (omega arith) below) ∙ run_at i j k d (i + d) (j + d) rest less refl refl))

    left_is : (i j k q : ℕ) (front : List (ℕ × ℕ)) → j + k ≤ q → ((0 < k) ⊎ ((i ≡ 0) × (front ≡ []))) → option_map (λ (pair : ℕ × ℕ). pair.0) (find_last (under q) (front ++ run i j k)) ≡ left_of (i + k)
    left_is i j zero q front le (inl some) = absurd (omega arith)
    left_is i j zero q front le (inr start) = let e : 0 ≡ i + 0 = omega (arith, start.0) in ap (λ xs. option_map (λ (pair : ℕ × ℕ). pair.0) (find_last (under q) (xs ++ []))) start.1 ∙ ap left_of e
    left_is i j (suc k) q front le lead = let e : suc (i + k) ≡ i + suc k = omega arith in
        ap (option_map (λ (pair : ℕ × ℕ). pair.0)) (last_some (under q) (i + k, j + k) front (run i j (suc k)) (run_last i j k (i + k) q (j + k) refl refl (omega (arith, le)))) ∙ ap left_of e

    right_is : (i j q : ℕ) (cs : List Change) → AreNormalFrom (i + 1) n cs → q < j → option_map (λ (pair : ℕ × ℕ). pair.0) (find (over q) (kept_from i j n cs)) ≡ right_of n i
    right_is i j q cs normal less = elim (cases_lt i n) [
      | inl some ↦ rw (first_over i j n q cs normal less some, lt-ltb i n some) refl
      | inr none ↦ rw (no_pairs i j n cs normal none, le-ltb i n none) refl
    ]

    -- what a change puts in
    put_part : (i j k l i' j' : ℕ) (front : List (ℕ × ℕ)) (cs : List Change) → AreBelow (j + k) (front ++ run i j k) → AreNormalFrom (i' + 1) n cs → j' ≡ j + k + l → ((0 < k) ⊎ ((i ≡ 0) × (front ≡ []))) → s.step.kept ≡ (front ++ run i j k) ++ kept_from i' j' n cs →
        map (hidden_after me s flags) (range_with_len (j + k) l) ≡ put_in me s flags n (among_hidden flags (left_of (i + k)) (right_of n i')) (j + k) l
    put_part i j k l i' j' front cs below normal is lead whole = map_shift (hidden_after me s flags) (λ q. among_hidden flags (left_of (i + k)) (right_of n i') && not (names me (trail_at s q))) (j + k) (j + k) l (λ d less.
        is_put_in (j + k + d) (left_of (i + k)) (right_of n i')
        (ap (λ ps. find (at (j + k + d)) ps) whole ∙ find_behind (at (j + k + d)) (front ++ run i j k) (kept_from i' j' n cs) (none_at_below (j + k + d) (j + k) (front ++ run i j k) (omega arith) below) ∙ none_at_from (j + k + d) j' (kept_from i' j' n cs) (omega (arith, is, less)) (kept_are_from i' j' n j' cs (omega arith)))
        (ap (λ ps. option_map (λ (pair : ℕ × ℕ). pair.0) (find_last (under (j + k + d)) ps)) whole
        ∙ ap (option_map (λ (pair : ℕ × ℕ). pair.0)) (last_behind (under (j + k + d)) (front ++ run i j k) (kept_from i' j' n cs) (none_under (j + k + d) j' (kept_from i' j' n cs) (omega (arith, is, less)) (kept_are_from i' j' n j' cs (omega arith))))
        ∙ left_is i j k (j + k + d) front (omega arith) lead)
        (ap (λ ps. option_map (λ (pair : ℕ × ℕ). pair.0) (find (over (j + k + d)) ps)) whole
        ∙ ap (option_map (λ (pair : ℕ × ℕ). pair.0)) (find_behind (over (j + k + d)) (front ++ run i j k) (kept_from i' j' n cs) (none_over (j + k + d) (j + k) (front ++ run i j k) (omega arith) below))
        ∙ right_is i' j' (j + k + d) cs normal (omega (arith, is, less))))

    after_from : (i j p : ℕ) (front : List (ℕ × ℕ)) (cs : List Change) → i ≤ p → AreNormalFrom p n cs → AreBelow j front → ((i < p) ⊎ ((i ≡ 0) × (front ≡ []))) → s.step.kept ≡ front ++ kept_from i j n cs → map (hidden_after me s flags) (range_with_len j (end_from i j n cs - j)) ≡ after_changes me s flags n i j cs
    after_from i j p front [] le normal below lead whole =
        let e : j + (n - i) - j ≡ n - i = omega arith in
        ap (λ k. map (hidden_after me s flags) (range_with_len j k)) e ∙ kept_part i j (n - i) front [] below (whole ∙ ap (λ u. front ++ u) (append_none (run i j (n - i))))
    after_from i j p front (c ∷ cs) le normal below lead whole =
        let k : ℕ = c.start - i in
        let l : ℕ = length c.text in
        let i' : ℕ = c.start + c.old_len in
        let j' : ℕ = j + (c.start - i) + length c.text in
        let front' : List (ℕ × ℕ) = front ++ run i j (c.start - i) in
        let m : ℕ = end_from (c.start + c.old_len) (j + (c.start - i) + length c.text) n cs in
        let at_start : i + (c.start - i) ≡ c.start = omega (arith, le, normal.0) in
        let reached : j + (c.start - i) + length c.text ≤ end_from (c.start + c.old_len) (j + (c.start - i) + length c.text) n cs = reached_below_end (c.start + c.old_len) (j + (c.start - i) + length c.text) n cs in
        let parts : end_from (c.start + c.old_len) (j + (c.start - i) + length c.text) n cs - j ≡ (c.start - i) + (length c.text + (end_from (c.start + c.old_len) (j + (c.start - i) + length c.text) n cs - (j + (c.start - i) + length c.text))) = omega (arith, reached) in
        let below' : AreBelow (j + (c.start - i)) (front ++ run i j (c.start - i)) = below_append (j + (c.start - i)) front (run i j (c.start - i)) (below_later j (j + (c.start - i)) front (omega arith) below) (run_below i j (c.start - i)) in
        let whole' : s.step.kept ≡ (front ++ run i j (c.start - i)) ++ kept_from (c.start + c.old_len) (j + (c.start - i) + length c.text) n cs = whole ∙ append_twice front (run i j (c.start - i)) (kept_from (c.start + c.old_len) (j + (c.start - i) + length c.text) n cs) in
        ap (λ x. map (hidden_after me s flags) (range_with_len j x)) parts
        ∙ map_split (hidden_after me s flags) j (c.start - i) (length c.text + (m - j'))
        ∙ ap (λ u. u ++ map (hidden_after me s flags) (range_with_len (j + (c.start - i)) (length c.text + (m - j')))) (kept_part i j (c.start - i) front (kept_from i' j' n cs) below whole)
        ∙ ap (λ u. stay me s flags n i (c.start - i) ++ u) (map_split (hidden_after me s flags) (j + (c.start - i)) (length c.text) (m - j')
        ∙ ap (λ u. u ++ map (hidden_after me s flags) (range_with_len (j + (c.start - i) + length c.text) (m - j')))
        (put_part i j (c.start - i) (length c.text) i' j' front cs below' normal.3 refl (lead_on lead) whole'
        ∙ ap (λ x. put_in me s flags n (among_hidden flags (left_of x) (right_of n (c.start + c.old_len))) (j + (c.start - i)) (length c.text)) at_start)
        ∙ ap (λ u. put_in me s flags n (around me s flags n c) (j + (c.start - i)) (length c.text) ++ u)
        (after_from i' j' (i' + 1) front' cs (omega arith) normal.3 (below_later (j + (c.start - i)) j' front' (omega arith) below') (inl (omega arith)) whole'))
      where
        lead_on : ((i < p) ⊎ ((i ≡ 0) × (front ≡ []))) → ((0 < c.start - i) ⊎ ((i ≡ 0) × (front ≡ [])))
        lead_on (inl less) = inl (omega (arith, less, normal.0))
        lead_on (inr start) = inr start

-- The flags after a step by normal changes are those of the pass over them.
pub flags_after_is : (me : ℕ) (s : SourceStep) (flags : List Bool) (c : ChangeList) → AreNormalFrom 0 c.old_len c.changes → s.step ≡ step c → flags_after me s flags ≡ after_changes me s flags c.old_len 0 0 c.changes
flags_after_is me s flags c normal is =
    let len : s.step.new_len ≡ end_from 0 0 c.old_len c.changes - 0 = ap (λ t. t.new_len) is ∙ normal_new_len c normal ∙ sym (new_len_is_end c.old_len c.changes normal) ∙ (let e : end_from 0 0 c.old_len c.changes ≡ end_from 0 0 c.old_len c.changes - 0 = omega arith in e) in
    ap (λ m. map (hidden_after me s flags) (range_with_len 0 m)) len
    ∙ after_from me s flags c.old_len 0 0 0 [] c.changes (omega arith) normal tt (inr (refl, refl)) (ap (λ t. t.kept) is ∙ normal_kept c normal)
