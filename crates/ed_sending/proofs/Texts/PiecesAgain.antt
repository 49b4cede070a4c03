-- The change list of the step of pieces: it is in normal form, and its step is the step of the pieces again.
use Rattle.std.proofs.Common.{◌≡◌, ℕ, zero, suc, ◌+◌, ◌-◌, ◌<◌, ◌≤◌, Bool, true, false, List, [], ◌∷◌, ◌++◌, length, map, drop, Option, Some, None, inl, inr, refl, sym, ap, ◌∙◌, arith, subst, length-append}
use Rattle.std.specs.Prelude.{nat_eq, slice_range}
use Rattle.std.specs.List.{range_with_len}
use Rattle.std.proofs.lemmas.Bool.{cases_Bool, cases_eq}
use Rattle.std.proofs.lemmas.Bool.Decides.{nat_tests}
use Rattle.std.proofs.lemmas.List.{length-drop, length-map, length-take}
use Rattle.ed_base.specs.declared.edit.Change.{Change}
use Rattle.ed_base.specs.declared.piece.Piece.{Piece}
use Rattle.ed_base.specs.ChangeList.{AreNormalFrom, ChangeList, change, change_list, component, components, step}
use Rattle.ed_base.specs.Edit.{woven}
use Rattle.ed_base.specs.Step.{pairs_from}
use Rattle.ed_base.proofs.NormalLists.{end_from, new_len_is_end, normal_earlier}
use Rattle.ed_base.proofs.NormalSteps.{kept_from, normal_kept, normal_new_len, run}
use Rattle.ed_layers.specs.Pieces.{gone_at, marked_text, piece_origins, put_at, step_of_pieces}
use Rattle.ed_sending.proofs.Texts.FullText.{Full, full_marked, full_origins, full_text}

-- kept pairs that rise in both places, from i and j on, below n and m
abbrev pub Climb : ℕ → ℕ → List (ℕ × ℕ) → ℕ → ℕ → Type 0
Climb i j [] n m = (i ≤ n) × (j ≤ m)
Climb i j (pair ∷ pairs) n m = (i ≤ pair.0) × (j ≤ pair.1) × Climb (pair.0 + 1) (pair.1 + 1) pairs n m

climb_earlier : (i j i' j' : ℕ) (pairs : List (ℕ × ℕ)) (n m : ℕ) → i ≤ i' → j ≤ j' → Climb i' j' pairs n m → Climb i j pairs n m
climb_earlier i j i' j' [] n m li lj c = (let l : i' ≤ n = c.0 in omega arith, let l : j' ≤ m = c.1 in omega arith)
climb_earlier i j i' j' (pair ∷ pairs) n m li lj c = (let l : i' ≤ pair.0 = c.0 in omega arith, let l : j' ≤ pair.1 = c.1 in omega arith, c.2)

climb_within : (i j : ℕ) (pairs : List (ℕ × ℕ)) (n m : ℕ) → Climb i j pairs n m → (i ≤ n) × (j ≤ m)
climb_within i j [] n m c = c
climb_within i j (pair ∷ pairs) n m c =
    let l : (pair.0 + 1 ≤ n) × (pair.1 + 1 ≤ m) = climb_within (pair.0 + 1) (pair.1 + 1) pairs n m c.2 in
    (let a : i ≤ pair.0 = c.0 in omega (arith, l.0), let a : j ≤ pair.1 = c.1 in omega (arith, l.1))

-- ---- the changes between pairs that rise

module _ (new : List ℕ) where
  slice_length : (j j' : ℕ) → j ≤ j' → j' ≤ length new → length (slice_range new j j') ≡ j' - j
  slice_length j j' l le = omega (arith, length-take (j' - j) (drop j new), length-drop j new)

  -- a component is none, where both places stay, or a change that does something
  component_none : (i j : ℕ) → component change new i j i j ≡ []
  component_none i j =
      let a : nat_eq i i ≡ true = grind (arith, nat_tests) in
      let b : nat_eq j j ≡ true = grind (arith, nat_tests) in
      rw (a, b) refl

  component_some : (i j i' j' : ℕ) → i + j < i' + j' → i ≤ i' → j ≤ j' → component change new i j i' j' ≡ change i (i' - i) (slice_range new j j') ∷ []
  component_some i j i' j' more li lj = elim (cases_eq i i') [
    | inl e ↦ (let b : nat_eq j j' ≡ false = grind (arith, nat_tests) in let a : nat_eq i i' ≡ true = grind (arith, nat_tests) in rw (a, b) refl)
    | inr ne ↦ (let a : nat_eq i i' ≡ false = grind (arith, nat_tests) in rw a refl)
  ]

  -- What is claimed of the changes cs that stand from i and j on: they are in normal form, keep the pairs and lead to the end.
  record Are (i j : ℕ) (cs : List Change) (pairs : List (ℕ × ℕ)) (n m : ℕ) : Type 0 where
    normal : AreNormalFrom i n cs
    kept : kept_from i j n cs ≡ pairs
    ends : end_from i j n cs ≡ m

  -- a unit that is kept in front
  kept_one : (i j n : ℕ) (cs : List Change) → i < n → AreNormalFrom (i + 1) n cs → kept_from i j n cs ≡ (i, j) ∷ kept_from (i + 1) (j + 1) n cs
  kept_one i j n [] l h = let e : n - i ≡ suc (n - (i + 1)) = omega arith in rw e refl
  kept_one i j n (c ∷ cs) l h =
      let from : i + 1 ≤ c.start = h.0 in
      let e : c.start - i ≡ suc (c.start - (i + 1)) = omega arith in
      let f : j + (c.start - i) + length c.text ≡ j + 1 + (c.start - (i + 1)) + length c.text = omega arith in
      ap (λ k. run i j k ++ kept_from (c.start + c.old_len) (j + (c.start - i) + length c.text) n cs) e
      ∙ ap (λ k. (i, j) ∷ (run (i + 1) (j + 1) (c.start - (i + 1)) ++ kept_from (c.start + c.old_len) k n cs)) f

  end_one : (i j n : ℕ) (cs : List Change) → i < n → AreNormalFrom (i + 1) n cs → end_from i j n cs ≡ end_from (i + 1) (j + 1) n cs
  end_one i j n [] l h = omega arith
  end_one i j n (c ∷ cs) l h =
      let from : i + 1 ≤ c.start = h.0 in
      let f : j + (c.start - i) + length c.text ≡ j + 1 + (c.start - (i + 1)) + length c.text = omega arith in
      ap (λ k. end_from (c.start + c.old_len) k n cs) f

  -- behind a kept unit
  behind_kept : (i j : ℕ) (cs : List Change) (pairs : List (ℕ × ℕ)) (n m : ℕ) → i < n → Are (i + 1) (j + 1) cs pairs n m → Are i j cs ((i, j) ∷ pairs) n m
  behind_kept i j cs pairs n m l are = record {
    normal = normal_earlier i (i + 1) n cs (omega arith) are.normal;
    kept = kept_one i j n cs l are.normal ∙ ap (λ z. (i, j) ∷ z) are.kept;
    ends = end_one i j n cs l are.normal ∙ are.ends;
  }

  -- behind a component, up to i' and j'
  behind_change : (i j i' j' : ℕ) (cs : List Change) (pairs : List (ℕ × ℕ)) (n m : ℕ) → i + j < i' + j' → i ≤ i' → j ≤ j' → i' ≤ n → j' ≤ length new → AreNormalFrom (i' + 1) n cs → Are i' j' cs pairs n m → Are i j (change i (i' - i) (slice_range new j j') ∷ cs) pairs n m
  behind_change i j i' j' cs pairs n m more li lj ln lm later are =
      let long : length (slice_range new j j') ≡ j' - j = slice_length j j' lj lm in
      let at : i + (i' - i) ≡ i' = omega arith in
      let to : j + (i - i) + length (slice_range new j j') ≡ j' = omega arith in
      let none : i - i ≡ 0 = omega arith in
      record {
        normal = (omega arith, omega arith, omega arith, subst (λ p. AreNormalFrom (p + 1) n cs) (sym at) later);
        kept = ap (λ k. run i j k ++ kept_from (i + (i' - i)) (j + (i - i) + length (slice_range new j j')) n cs) none ∙ ap (λ p. kept_from p (j + (i - i) + length (slice_range new j j')) n cs) at ∙ ap (λ q. kept_from i' q n cs) to ∙ are.kept;
        ends = ap (λ p. end_from p (j + (i - i) + length (slice_range new j j')) n cs) at ∙ ap (λ q. end_from i' q n cs) to ∙ are.ends;
      }

  behind : (i j i' j' : ℕ) (cs : List Change) (pairs : List (ℕ × ℕ)) (n m : ℕ) → i ≤ i' → j ≤ j' → i' ≤ n → j' ≤ length new → AreNormalFrom (i' + 1) n cs → Are i' j' cs pairs n m → Are i j (component change new i j i' j' ++ cs) pairs n m
  behind i j i' j' cs pairs n m li lj ln lm later are = elim (cases_eq (i + j) (i' + j')) [
    | inl e ↦ (let a : i' ≡ i = omega arith in let b : j' ≡ j = omega arith in
        let c : component change new i j i' j' ≡ [] = ap (λ p. component change new i j p j') a ∙ ap (λ q. component change new i j i q) b ∙ component_none i j in
        subst (λ z. Are i j (z ++ cs) pairs n m) (sym c) (subst (λ p. Are p j cs pairs n m) a (subst (λ q. Are i' q cs pairs n m) b are)))
    | inr ne ↦ subst (λ z. Are i j (z ++ cs) pairs n m) (sym (component_some i j i' j' (omega arith) li lj)) (behind_change i j i' j' cs pairs n m (omega arith) li lj ln lm later are)
  ]

  are_changes : (i j : ℕ) (pairs : List (ℕ × ℕ)) (n m : ℕ) → Climb i j pairs n m → m ≤ length new → Are i j (components change new i j pairs n m) pairs n m
  are_changes i j [] n m c le =
      let nothing : n - n ≡ 0 = omega arith in
      let at_end : Are n m [] [] n m = record { normal = tt; kept = ap (run n m) nothing; ends = omega arith } in
      subst (λ z. Are i j z [] n m) (append_nil (component change new i j n m)) (behind i j n m [] [] n m c.0 c.1 (omega arith) le tt at_end)
    where
      append_nil : (xs : List Change) → xs ++ [] ≡ xs
      append_nil [] = refl
      append_nil (x ∷ xs) = ap (λ ys. x ∷ ys) (append_nil xs)
  are_changes i j (pair ∷ pairs) n m c le =
      let rest : Are (pair.0 + 1) (pair.1 + 1) (components change new (pair.0 + 1) (pair.1 + 1) pairs n m) pairs n m = are_changes (pair.0 + 1) (pair.1 + 1) pairs n m c.2 le in
      let l : (pair.0 + 1 ≤ n) × (pair.1 + 1 ≤ m) = climb_within (pair.0 + 1) (pair.1 + 1) pairs n m c.2 in
      behind i j pair.0 pair.1 (components change new (pair.0 + 1) (pair.1 + 1) pairs n m) (pair ∷ pairs) n m c.0 c.1 (omega (arith, l.0)) (omega (arith, l.1)) rest.normal
      (behind_kept pair.0 pair.1 (components change new (pair.0 + 1) (pair.1 + 1) pairs n m) pairs n m (omega (arith, l.0)) rest)

-- ---- what pieces keep rises

module _ {X : Type 0} (put : ℕ → List X) (gone : ℕ → Bool) where
  abbrev origins_from : ℕ → ℕ → List (Option ℕ)
  origins_from p k = woven (λ g. map (λ u. None) (put g)) gone p (map (λ q. Some q) (range_with_len p k))

  none_kept : (us : List X) (q : ℕ) (rest : List (Option ℕ)) → pairs_from q (map (λ u. None) us ++ rest) ≡ pairs_from (q + length us) rest
  none_kept [] q rest = ap (λ z. pairs_from z rest) (let e : q ≡ q + length {A = X} [] = omega arith in e)
  none_kept (u ∷ us) q rest = none_kept us (q + 1) rest ∙ ap (λ z. pairs_from z rest) (omega arith)

  none_kept_all : (us : List X) (q : ℕ) → pairs_from q (map (λ u. None) us) ≡ []
  none_kept_all [] q = refl
  none_kept_all (u ∷ us) q = none_kept_all us (q + 1)

  put_length : (us : List X) (rest : List (Option ℕ)) → length (map {B = Option ℕ} (λ u. None) us ++ rest) ≡ length us + length rest
  put_length us rest = grind (arith, length-append, length-map)

  climbs : (p j k : ℕ) → Climb p j (pairs_from j (origins_from p k)) (p + k) (j + length (origins_from p k))
  climbs p j zero = subst (λ z. Climb p j z (p + 0) (j + length (origins_from p 0))) (sym (none_kept_all (put p) j)) (omega arith, omega arith)
  climbs p j (suc k) = elim (cases_Bool (gone p)) [
    | inl t ↦ (
        let is : origins_from p (suc k) ≡ map (λ u. None) (put p) ++ origins_from (p + 1) k = rw t refl in
        let size : j + length (origins_from p (suc k)) ≡ (j + length (put p)) + length (origins_from (p + 1) k) = omega (arith, ap length is, put_length (put p) (origins_from (p + 1) k)) in
        let pairs : pairs_from j (origins_from p (suc k)) ≡ pairs_from (j + length (put p)) (origins_from (p + 1) k) = ap (pairs_from j) is ∙ none_kept (put p) j (origins_from (p + 1) k) in
        let rest : Climb (p + 1) (j + length (put p)) (pairs_from (j + length (put p)) (origins_from (p + 1) k)) (p + 1 + k) ((j + length (put p)) + length (origins_from (p + 1) k)) = climbs (p + 1) (j + length (put p)) k in
        let far : p + 1 + k ≡ p + suc k = omega arith in
        subst (λ z. Climb p j (pairs_from j (origins_from p (suc k))) (p + suc k) z) (sym size)
        (subst (λ z. Climb p j z (p + suc k) ((j + length (put p)) + length (origins_from (p + 1) k))) (sym pairs)
        (subst (λ z. Climb p j (pairs_from (j + length (put p)) (origins_from (p + 1) k)) z ((j + length (put p)) + length (origins_from (p + 1) k))) far
        (climb_earlier p j (p + 1) (j + length (put p)) (pairs_from (j + length (put p)) (origins_from (p + 1) k)) (p + 1 + k) ((j + length (put p)) + length (origins_from (p + 1) k)) (omega arith) (omega arith) rest)))
        )
    | inr f ↦ (
        let is : origins_from p (suc k) ≡ map (λ u. None) (put p) ++ Some p ∷ origins_from (p + 1) k = rw f refl in
        let q : ℕ = j + length (put p) in
        let size : j + length (origins_from p (suc k)) ≡ (q + 1) + length (origins_from (p + 1) k) = omega (arith, ap length is, put_length (put p) (Some p ∷ origins_from (p + 1) k)) in
        let pairs : pairs_from j (origins_from p (suc k)) ≡ (p, q) ∷ pairs_from (q + 1) (origins_from (p + 1) k) = ap (pairs_from j) is ∙ none_kept (put p) j (Some p ∷ origins_from (p + 1) k) in
        let rest : Climb (p + 1) (q + 1) (pairs_from (q + 1) (origins_from (p + 1) k)) (p + 1 + k) ((q + 1) + length (origins_from (p + 1) k)) = climbs (p + 1) (q + 1) k in
        let far : p + 1 + k ≡ p + suc k = omega arith in
        let all : Climb p j ((p, q) ∷ pairs_from (q + 1) (origins_from (p + 1) k)) (p + 1 + k) ((q + 1) + length (origins_from (p + 1) k)) = (omega arith, omega arith, rest) in
        subst (λ z. Climb p j (pairs_from j (origins_from p (suc k))) (p + suc k) z) (sym size)
        (subst (λ z. Climb p j z (p + suc k) ((q + 1) + length (origins_from (p + 1) k))) (sym pairs)
        (subst (λ z. Climb p j ((p, q) ∷ pairs_from (q + 1) (origins_from (p + 1) k)) z ((q + 1) + length (origins_from (p + 1) k))) far all))
        )
  ]

-- ---- the change list of the step of pieces

-- the new text is as long as the step says
pub marked_length : (ps : List Piece) (text : List ℕ) → length (marked_text ps text) ≡ (step_of_pieces ps (length text)).new_len
marked_length ps text =
    let fs : List Full = full_text ps text in
    ap length (sym (full_marked ps text)) ∙ length-map fs (λ (f : Full). f.1) ∙ sym (length-map fs (λ (f : Full). f.0)) ∙ ap length (full_origins ps text)

module _ (ps : List Piece) (n : ℕ) (text : List ℕ) (as_long : length text ≡ (step_of_pieces ps n).new_len) where
  changes_are : Are text 0 0 (change_list (step_of_pieces ps n) text).changes (step_of_pieces ps n).kept n (step_of_pieces ps n).new_len
  changes_are =
      let c : Climb 0 0 (pairs_from 0 (piece_origins ps n)) (0 + n) (0 + length (piece_origins ps n)) = climbs (put_at ps) (gone_at ps) 0 0 n in
      let a : 0 + n ≡ n = omega arith in
      let b : 0 + length (piece_origins ps n) ≡ length (piece_origins ps n) = omega arith in
      are_changes text 0 0 (pairs_from 0 (piece_origins ps n)) n (length (piece_origins ps n)) (subst (λ z. Climb 0 0 (pairs_from 0 (piece_origins ps n)) n z) b (subst (λ z. Climb 0 0 (pairs_from 0 (piece_origins ps n)) z (0 + length (piece_origins ps n))) a c)) (omega arith)

  pub pieces_normal : AreNormalFrom 0 n (change_list (step_of_pieces ps n) text).changes
  pieces_normal = changes_are.normal

  pub step_again : step (change_list (step_of_pieces ps n) text) ≡ step_of_pieces ps n
  step_again =
      let c : ChangeList = change_list (step_of_pieces ps n) text in
      let size : (step c).new_len ≡ (step_of_pieces ps n).new_len = normal_new_len c pieces_normal ∙ sym (new_len_is_end n c.changes pieces_normal) ∙ changes_are.ends in
      let kept : (step c).kept ≡ (step_of_pieces ps n).kept = normal_kept c pieces_normal ∙ changes_are.kept in
      ap (λ z. record { old_len = n; new_len = z; kept = (step c).kept }) size ∙ ap (λ z. record { old_len = n; new_len = (step_of_pieces ps n).new_len; kept = z }) kept
