-- The text that a list of changes leads to, and the changes that lead back, change by change.
use Rattle.std.proofs.Common.{◌≡◌, ℕ, zero, suc, ◌+◌, ◌-◌, ◌<◌, ◌≤◌, Bool, List, [], ◌∷◌, ◌++◌, length, map, drop, get_or, refl, subst, sym, ap, ◌∙◌, arith, length-append, append_assoc, inl, inr}
use Rattle.std.specs.List.{slice_range}
use Rattle.std.proofs.lemmas.List.{append-nil, map-append, drop_at, drop-drop, drop_all, get_or_default}
use Rattle.std.proofs.lemmas.Bool.{cases_Bool}
use Rattle.ed_base.specs.declared.edit.Change.{Change}
use Rattle.ed_base.specs.Edit.{woven}
use Rattle.ed_base.specs.ChangeList.{change, AreNormalFrom}
use Rattle.ed_base.specs.NewStarts.{starts_from}
use Rattle.ed_base.proofs.NormalSteps.{spliced}
use Rattle.ed_base.proofs.NormalLists.{normal_earlier, rest_at, given}
use Rattle.ed_change.proofs.Parts.{part, forth, back, parts, slice_at, drop_past}

-- units that are put in stand for themselves
abbrev pub itself : List ℕ → List ℕ
itself units = units

-- the changes back, from place i of the old text and place j of the new one on
abbrev pub backward : List ℕ → ℕ → ℕ → List Change → List Change
backward text i j [] = []
backward text i j (c ∷ cs) = change (j + (c.start - i)) (length c.text) (slice_range text c.start (c.start + c.old_len)) ∷ backward text (c.start + c.old_len) (j + (c.start - i) + length c.text) cs

normal_forth_part : {X : Type 0} (i j n : ℕ) (old : List X) (new : List ℕ) (cs : List Change) → i + length old ≤ n → AreNormalFrom (i + length old + 1) n cs → AreNormalFrom i n (map forth (part i j old new) ++ cs)
normal_forth_part i j n [] [] cs l h = normal_earlier i _ n cs (omega arith) h
normal_forth_part i j n [] (u ∷ us) cs l h = (omega arith, l, omega arith, h)
normal_forth_part i j n (o ∷ os) new cs l h = (omega arith, l, omega arith, h)

normal_back_part : (i j m : ℕ) (old new : List ℕ) (cs : List Change) → j + length new ≤ m → AreNormalFrom (j + length new + 1) m cs → AreNormalFrom j m (map back (part i j old new) ++ cs)
normal_back_part i j m [] [] cs l h = normal_earlier j _ m cs (omega arith) h
normal_back_part i j m [] (u ∷ us) cs l h = (omega arith, l, omega arith, h)
normal_back_part i j m (o ∷ os) new cs l h = (omega arith, l, omega arith, h)

module _ {X : Type 0} (give : List ℕ → List X) where
  spliced_forth_part : give [] ≡ [] → (i j : ℕ) (old : List X) (new : List ℕ) (ys : List X) (cs : List Change) → spliced give i (map forth (part i j old new) ++ cs) (old ++ ys) ≡ give new ++ spliced give (i + length old) cs ys
  spliced_forth_part none i j [] [] ys cs = rw none (grind arith)
  spliced_forth_part none i j [] (u ∷ us) ys cs = let w : i - i ≡ 0 = omega arith in rw w refl
  spliced_forth_part none i j (o ∷ os) new ys cs =
      let w : i - i ≡ 0 = omega arith in
      let v : 0 + length (o ∷ os) ≡ length (o ∷ os) = omega arith in
      rw (w, v, drop_at (o ∷ os) ys (length (o ∷ os)) refl) refl

  -- a unit that is kept
  spliced_kept : (p n : ℕ) (x : X) (xs : List X) (cs : List Change) → AreNormalFrom (p + 1) n cs → spliced give p cs (x ∷ xs) ≡ x ∷ spliced give (p + 1) cs xs
  spliced_kept p n x xs [] h = refl
  spliced_kept p n x xs (c ∷ cs) h =
      let w : c.start - p ≡ suc (c.start - (p + 1)) = omega (arith, h.0) in
      let v : suc (c.start - (p + 1)) + c.old_len ≡ suc (c.start - (p + 1) + c.old_len) = omega arith in
      rw (w, v) refl

spliced_back_part : (i j : ℕ) (old new ys : List ℕ) (cs : List Change) → spliced itself j (map back (part i j old new) ++ cs) (new ++ ys) ≡ old ++ spliced itself (j + length new) cs ys
spliced_back_part i j [] [] ys cs = grind arith
spliced_back_part i j [] (u ∷ us) ys cs =
    let w : j - j ≡ 0 = omega arith in
    let v : 0 + length (u ∷ us) ≡ length (u ∷ us) = omega arith in
    rw (w, v, drop_at (u ∷ us) ys (length (u ∷ us)) refl) refl
spliced_back_part i j (o ∷ os) new ys cs =
    let w : j - j ≡ 0 = omega arith in
    let v : 0 + length new ≡ length new = omega arith in
    rw (w, v, drop_at new ys (length new) refl) refl

-- The work on all changes, done up to place `at` of the old text: the new text so far, and the changes that are left.
pub record Copied (old whole : List ℕ) (at : ℕ) (done : List ℕ) (rest : List Change) : Type 0 where
  pub within : at ≤ length old
  pub normal : AreNormalFrom at (length old) rest
  pub text : done ++ spliced itself at rest (drop at old) ≡ whole

pub copied_at : (old whole : List ℕ) (at : ℕ) (done : List ℕ) (all : List Change) (k : ℕ) (x : Change) → k < length all → x ≡ get_or all k x → Copied old whole at done (drop k all) → Copied old whole at done (x ∷ drop (k + 1) all)
copied_at old whole at done all k x below is r = subst (λ rest. Copied old whole at done rest) (rest_at all k x below is) r

pub copied_next : (old whole : List ℕ) (at : ℕ) (done : List ℕ) (x : Change) (xs : List Change) → Copied old whole at done (x ∷ xs) → Copied old whole (x.start + x.old_len) ((done ++ slice_range old at x.start) ++ x.text) xs
copied_next old whole at done x xs r =
    let next : at + (x.start - at + x.old_len) ≡ x.start + x.old_len = omega (arith, r.normal.0) in
    let text : done ++ (slice_range old at x.start ++ (x.text ++ spliced itself (x.start + x.old_len) xs (drop (x.start + x.old_len) old))) ≡ whole = rw (drop-drop (x.start - at + x.old_len) at old, next) at r.text in
    record {
      within = r.normal.1;
      normal = normal_earlier (x.start + x.old_len) (x.start + x.old_len + 1) (length old) xs (omega arith) r.normal.3;
      text = rw (append_assoc, append_assoc) text;
    }

pub copied_end : (old whole : List ℕ) (at : ℕ) (done : List ℕ) (all : List Change) (k : ℕ) → length all ≤ k → Copied old whole at done (drop k all) → done ++ drop at old ≡ whole
copied_end old whole at done all k past r = rw (drop_all k all past) at r.text

-- each change turned round, with the places at which they begin in the new text
abbrev pub turned_all : List ℕ → List ℕ → List Change → List Change
turned_all text [] cs = []
turned_all text (s ∷ ss) [] = []
turned_all text (s ∷ ss) (c ∷ cs) = change s (length c.text) (slice_range text c.start (c.start + c.old_len)) ∷ turned_all text ss cs

pub turned_backward : (text : List ℕ) (i j : ℕ) (cs : List Change) → turned_all text (starts_from i j cs) cs ≡ backward text i j cs
turned_backward text i j [] = refl
turned_backward text i j (c ∷ cs) = ap (λ ds. change (j + (c.start - i)) (length c.text) (slice_range text c.start (c.start + c.old_len)) ∷ ds) (turned_backward text (c.start + c.old_len) (j + (c.start - i) + length c.text) cs)

pub turned_next : (text starts : List ℕ) (cs whole done : List Change) (k s : ℕ) (c : Change) → length starts ≡ length cs → k < length cs → s ≡ get_or starts k 0 → c ≡ get_or cs k c → done ++ turned_all text (drop k starts) (drop k cs) ≡ whole → (done ++ change s (length c.text) (slice_range text c.start (c.start + c.old_len)) ∷ []) ++ turned_all text (drop (k + 1) starts) (drop (k + 1) cs) ≡ whole
turned_next text starts cs whole done k s c same below at_s at_c h =
    let at : s ≡ get_or starts k s = at_s ∙ get_or_default starts k 0 s (omega arith) in
    let h' : done ++ (change s (length c.text) (slice_range text c.start (c.start + c.old_len)) ∷ turned_all text (drop (k + 1) starts) (drop (k + 1) cs)) ≡ whole = rw (rest_at starts k s (omega arith) at, rest_at cs k c below at_c) at h in
    rw append_assoc h'

pub turned_end : (text starts : List ℕ) (cs whole done : List Change) (k : ℕ) → length starts ≡ length cs → length cs ≤ k → done ++ turned_all text (drop k starts) (drop k cs) ≡ whole → done ≡ whole
turned_end text starts cs whole done k same past h = rw (drop_all k starts (omega arith), append-nil) at h

-- each change ends within the text
pub normal_within : (p n : ℕ) (cs : List Change) → AreNormalFrom p n cs → (k : ℕ) (d : Change) → k < length cs → (get_or cs k d).start + (get_or cs k d).old_len ≤ n
normal_within p n [] h k d l = absurd (omega arith)
normal_within p n (c ∷ cs) h zero d l = h.1
normal_within p n (c ∷ cs) h (suc k) d l = normal_within (c.start + c.old_len + 1) n cs h.3 k d (omega arith)

-- and puts in no more than all of them
pub given_each : (cs : List Change) (k : ℕ) (d : Change) → k < length cs → length (get_or cs k d).text ≤ given cs
given_each [] k d l = absurd (omega arith)
given_each (c ∷ cs) zero d l = omega arith
given_each (c ∷ cs) (suc k) d l = omega (arith, given_each cs k d (omega arith))

next_kept : (text : List ℕ) (p x : ℕ) (xs : List ℕ) → drop p text ≡ x ∷ xs → drop (p + 1) text ≡ xs
next_kept text p x xs e = grind (arith, drop_past text p [] x xs e)

backward_kept : (text : List ℕ) (i j n : ℕ) (cs : List Change) → AreNormalFrom (i + 1) n cs → backward text i j cs ≡ backward text (i + 1) (j + 1) cs
backward_kept text i j n [] h = refl
backward_kept text i j n (c ∷ cs) h =
    let s : j + (c.start - i) ≡ j + 1 + (c.start - (i + 1)) = omega (arith, h.0) in
    rw s refl

backward_part : (text : List ℕ) (i j : ℕ) (old new rest : List ℕ) (cs : List Change) → drop i text ≡ old ++ rest → backward text i j (map forth (part i j old new) ++ cs) ≡ map back (part i j old new) ++ backward text (i + length old) (j + length new) cs
backward_part text i j [] [] rest cs e = grind arith
backward_part text i j [] (u ∷ us) rest cs e = let w : j + (i - i) ≡ j = omega arith in rw (slice_at text i [] rest e, w) refl
backward_part text i j (o ∷ os) new rest cs e = let w : j + (i - i) ≡ j = omega arith in rw (slice_at text i (o ∷ os) rest e, w) refl

module _ (put : ℕ → List ℕ) (gone : ℕ → Bool) where
  pub normal_forth : {X : Type 0} (p i j : ℕ) (old : List X) (new : List ℕ) (xs : List X) (n : ℕ) → i + length old ≡ p → n ≡ p + length xs → AreNormalFrom i n (map forth (parts put gone p i j old new xs))
  normal_forth {X} p i j old new [] n ei en =
      let z : length {A = X} [] ≡ 0 = refl in
      rw append-nil at (normal_forth_part i j n old (new ++ put p) [] (omega arith) tt)
  normal_forth p i j old new (x ∷ xs) n ei en = elim (cases_Bool (gone p)) [
    | inl t ↦
        let z : length (x ∷ xs) ≡ suc (length xs) = refl in
        rw t (normal_forth (p + 1) i j (old ++ x ∷ []) (new ++ put p) xs n (grind (arith, length-append)) (omega arith))
    | inr f ↦
        let z : length (x ∷ xs) ≡ suc (length xs) = refl in
        let later : AreNormalFrom (p + 1) n (map forth (parts put gone (p + 1) (p + 1) (j + length (new ++ put p) + 1) [] [] xs)) = normal_forth (p + 1) (p + 1) (j + length (new ++ put p) + 1) [] [] xs n (omega arith) (omega arith) in
        rw (f, map-append) (normal_forth_part i j n old (new ++ put p) _ (omega arith) (rw ei later))
  ]

  -- the length of the new text from the open part on
  pub normal_back : (p i j : ℕ) (old new xs : List ℕ) (m : ℕ) → m ≡ j + length (new ++ woven put gone p xs) → AreNormalFrom j m (map back (parts put gone p i j old new xs))
  normal_back p i j old new [] m em = rw append-nil at (normal_back_part i j m old (new ++ put p) [] (omega arith) tt)
  normal_back p i j old new (x ∷ xs) m em = elim (cases_Bool (gone p)) [
    | inl t ↦
        let em1 : m ≡ j + length (new ++ (put p ++ woven put gone (p + 1) xs)) = rw t at em in
        rw t (normal_back (p + 1) i j (old ++ x ∷ []) (new ++ put p) xs m (rw append_assoc em1))
    | inr f ↦
        let em1 : m ≡ j + length (new ++ (put p ++ x ∷ woven put gone (p + 1) xs)) = rw f at em in
        let em2 : m ≡ j + length (new ++ put p) + 1 + length (woven put gone (p + 1) xs) = em1 ∙ grind (arith, length-append) in
        let later : AreNormalFrom (j + length (new ++ put p) + 1) m (map back (parts put gone (p + 1) (p + 1) (j + length (new ++ put p) + 1) [] [] xs)) = normal_back (p + 1) (p + 1) (j + length (new ++ put p) + 1) [] [] xs m em2 in
        rw (f, map-append) (normal_back_part i j m old (new ++ put p) _ (omega arith) later)
  ]

  -- the changes forward make the new text of the old one, for any kind of element
  pub spliced_forth : {X : Type 0} (give : List ℕ → List X) → give [] ≡ [] → ((s t : List ℕ) → give (s ++ t) ≡ give s ++ give t) → (p i j : ℕ) (old : List X) (new : List ℕ) (xs : List X) → i + length old ≡ p → spliced give i (map forth (parts put gone p i j old new xs)) (old ++ xs) ≡ give new ++ woven (λ q. give (put q)) gone p xs
  spliced_forth give none both p i j old new [] ei =
      let h : spliced give i (map forth (part i j old (new ++ put p))) (old ++ []) ≡ give (new ++ put p) ++ [] = rw append-nil at (spliced_forth_part give none i j old (new ++ put p) [] []) in
      h ∙ rw (append-nil, both) refl
  spliced_forth give none both p i j old new (x ∷ xs) ei = elim (cases_Bool (gone p)) [
    | inl t ↦
        let ih : spliced give i (map forth (parts put gone (p + 1) i j (old ++ x ∷ []) (new ++ put p) xs)) ((old ++ x ∷ []) ++ xs) ≡ give (new ++ put p) ++ woven (λ q. give (put q)) gone (p + 1) xs = spliced_forth give none both (p + 1) i j (old ++ x ∷ []) (new ++ put p) xs (grind (arith, length-append)) in
        rw t (rw (append_assoc old (x ∷ []) xs, both, append_assoc) at ih)
    | inr f ↦
        let z : length (x ∷ xs) ≡ suc (length xs) = refl in
        let later : List Change = map forth (parts put gone (p + 1) (p + 1) (j + length (new ++ put p) + 1) [] [] xs) in
        let normal : AreNormalFrom (p + 1) (p + 1 + length xs) later = normal_forth (p + 1) (p + 1) (j + length (new ++ put p) + 1) [] [] xs _ (omega arith) refl in
        let ih : spliced give (p + 1) later xs ≡ give [] ++ woven (λ q. give (put q)) gone (p + 1) xs = spliced_forth give none both (p + 1) (p + 1) (j + length (new ++ put p) + 1) [] [] xs (omega arith) in
        rw (f, map-append, spliced_forth_part give none i j old (new ++ put p) (x ∷ xs) later, ei, spliced_kept give p _ x xs later normal, ih, none, both) (append_assoc (give new) (give (put p)) (x ∷ woven (λ q. give (put q)) gone (p + 1) xs))
  ]

  -- the changes back make the old text of the new one
  pub spliced_back : (p i j : ℕ) (old new xs : List ℕ) → spliced itself j (map back (parts put gone p i j old new xs)) (new ++ woven put gone p xs) ≡ old ++ xs
  spliced_back p i j old new [] =
      rw (append-nil, append-nil) at (spliced_back_part i j old (new ++ put p) [] [])
  spliced_back p i j old new (x ∷ xs) = elim (cases_Bool (gone p)) [
    | inl t ↦ rw (t, ← append_assoc new (put p) (woven put gone (p + 1) xs)) (spliced_back (p + 1) i j (old ++ x ∷ []) (new ++ put p) xs ∙ append_assoc old (x ∷ []) xs)
    | inr f ↦
        let rest : List ℕ = woven put gone (p + 1) xs in
        let q : ℕ = j + length (new ++ put p) in
        let later : List Change = map back (parts put gone (p + 1) (p + 1) (q + 1) [] [] xs) in
        let normal : AreNormalFrom (q + 1) (q + 1 + length rest) later = normal_back (p + 1) (p + 1) (q + 1) [] [] xs _ refl in
        let ih : spliced itself (q + 1) later rest ≡ xs = spliced_back (p + 1) (p + 1) (q + 1) [] [] xs in
        rw (f, map-append, ← append_assoc new (put p) (x ∷ rest), spliced_back_part i j old (new ++ put p) (x ∷ rest) later, spliced_kept itself q _ x rest later normal, ih) refl
  ]

  -- the changes back, from the changes forward and the old text
  pub backward_forth : (text : List ℕ) (p i j : ℕ) (old new xs : List ℕ) → i + length old ≡ p → drop i text ≡ old ++ xs → backward text i j (map forth (parts put gone p i j old new xs)) ≡ map back (parts put gone p i j old new xs)
  backward_forth text p i j old new [] ei e = rw (append-nil, append-nil) at (backward_part text i j old (new ++ put p) [] [] e)
  backward_forth text p i j old new (x ∷ xs) ei e = elim (cases_Bool (gone p)) [
    | inl t ↦ rw t (backward_forth text (p + 1) i j (old ++ x ∷ []) (new ++ put p) xs (grind (arith, length-append)) (rw append_assoc e))
    | inr f ↦
        let at : drop p text ≡ x ∷ xs = rw (← ei) (sym (drop-drop (length old) i text) ∙ rw e (drop_at old (x ∷ xs) (length old) refl)) in
        let q : ℕ = j + length (new ++ put p) in
        let later : List Change = map forth (parts put gone (p + 1) (p + 1) (q + 1) [] [] xs) in
        let normal : AreNormalFrom (p + 1) (p + 1 + length xs) later = normal_forth (p + 1) (p + 1) (q + 1) [] [] xs _ (omega arith) refl in
        let ih : backward text (p + 1) (q + 1) later ≡ map back (parts put gone (p + 1) (p + 1) (q + 1) [] [] xs) = backward_forth text (p + 1) (p + 1) (q + 1) [] [] xs (omega arith) (next_kept text p x xs at) in
        rw (f, map-append, map-append, backward_part text i j old (new ++ put p) (x ∷ xs) later e, ei, backward_kept text p q _ later normal, ih) refl
  ]
