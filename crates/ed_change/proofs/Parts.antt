-- What an edit does to a text, part by part: the old and the new units between two neighbouring kept units.
use Rattle.std.proofs.Common.{◌≡◌, ℕ, suc, ◌+◌, ◌-◌, ◌<◌, Bool, true, false, if◌then◌else◌, List, [], ◌∷◌, ◌++◌, length, map, drop, replicate, Option, Some, None, refl, sym, ap, ◌∙◌, arith, length-append, append_assoc, inl, inr}
use Rattle.std.specs.List.{range_with_len, slice_range}
use Rattle.std.proofs.lemmas.List.{append-nil, map-append, take_at, drop_at, drop-drop, length_push, length-map}
use Rattle.std.proofs.lemmas.Bool.{cases_Bool}
use Rattle.std.proofs.lemmas.Bool.Decides.{nat_tests}
use Rattle.ed_base.specs.declared.edit.Change.{Change}
use Rattle.ed_base.specs.Edit.{woven}
use Rattle.ed_base.specs.Step.{pairs_from}
use Rattle.ed_base.specs.ChangeList.{component, components, change}

pub record Part (X : Type 0) : Type 0 where
  pub old_start : ℕ
  pub new_start : ℕ
  pub old : List X
  pub new : List ℕ

abbrev pub part_of : {X : Type 0} → ℕ → ℕ → List X → List ℕ → Part X
part_of i j old new = record { old_start = i; new_start = j; old = old; new = new }

-- none where nothing was deleted or put in
abbrev pub part : {X : Type 0} → ℕ → ℕ → List X → List ℕ → List (Part X)
part i j [] [] = []
part i j [] (u ∷ us) = part_of i j [] (u ∷ us) ∷ []
part i j (o ∷ os) new = part_of i j (o ∷ os) new ∷ []

-- the change that makes the new units of the old ones, and the one that makes them the old ones again
abbrev pub forth : {X : Type 0} → Part X → Change
forth p = change p.old_start (length p.old) p.new

abbrev pub back : Part ℕ → Change
back p = change p.new_start (length p.new) p.old

-- From old place p on, where the elements stand: the open part begins at i and j, and has the elements `old` and the units `new` so far.
module _ {X : Type 0} (put : ℕ → List ℕ) (gone : ℕ → Bool) where
  abbrev pub parts : ℕ → ℕ → ℕ → List X → List ℕ → List X → List (Part X)
  parts p i j old new [] = part i j old (new ++ put p)
  parts p i j old new (x ∷ xs) = if gone p then parts (p + 1) i j (old ++ x ∷ []) (new ++ put p) xs else part i j old (new ++ put p) ++ parts (p + 1) (p + 1) (j + length (new ++ put p) + 1) [] [] xs

-- where the units come from, from old place p on, k units being left
abbrev pub sources : (ℕ → List ℕ) → (ℕ → Bool) → ℕ → ℕ → List (Option ℕ)
sources put gone p k = woven (λ q. map (λ u. None) (put q)) gone p (map (λ q. Some q) (range_with_len p k))

pairs_put : (ts : List ℕ) (q : ℕ) (rest : List (Option ℕ)) → pairs_from q (map (λ u. None) ts ++ rest) ≡ pairs_from (q + length ts) rest
pairs_put [] q rest = grind arith
pairs_put (t ∷ ts) q rest = pairs_put ts (q + 1) rest ∙ ap (λ n. pairs_from n rest) (omega arith)

pub slice_at : (whole : List ℕ) (j : ℕ) (new rest : List ℕ) → drop j whole ≡ new ++ rest → slice_range whole j (j + length new) ≡ new
slice_at whole j new rest e = rw e (let n : j + length new - j ≡ length new = omega arith in rw n (take_at new rest _ refl))

pub drop_past : (whole : List ℕ) (j : ℕ) (new : List ℕ) (u : ℕ) (rest : List ℕ) → drop j whole ≡ new ++ u ∷ rest → drop (j + length new + 1) whole ≡ rest
drop_past whole j new u rest e =
    let s : drop (length new + 1) (drop j whole) ≡ drop (j + length new + 1) whole = grind (arith, drop-drop) in
    let r : (new ++ u ∷ []) ++ rest ≡ new ++ u ∷ rest = append_assoc new (u ∷ []) rest in
    rw (← s) (rw (e, ← r) (drop_at (new ++ u ∷ []) rest _ (length_push new u)))

-- a component that does something
component_there : (whole : List ℕ) (i d j : ℕ) (new rest : List ℕ) → drop j whole ≡ new ++ rest → 0 < d + length new → component change whole i j (i + d) (j + length new) ≡ change i d new ∷ []
component_there whole i d j new rest e l =
    let s : slice_range whole j (j + length new) ≡ new = slice_at whole j new rest e in
    let w : i + d - i ≡ d = omega arith in
    rw w (rw s (grind (arith, nat_tests)))

-- a component is a part, seen forward
forth_component : {X : Type 0} (whole : List ℕ) (i j : ℕ) (old : List X) (new rest : List ℕ) → drop j whole ≡ new ++ rest → component change whole i j (i + length old) (j + length new) ≡ map forth (part i j old new)
forth_component whole i j [] [] rest e = grind (arith, nat_tests)
forth_component whole i j [] (u ∷ us) rest e = component_there whole i 0 j (u ∷ us) rest e (omega arith)
forth_component whole i j (o ∷ os) new rest e = component_there whole i (length (o ∷ os)) j new rest e (omega arith)

back_component : (whole : List ℕ) (i j : ℕ) (old new rest : List ℕ) → drop i whole ≡ old ++ rest → component change whole j i (j + length new) (i + length old) ≡ map back (part i j old new)
back_component whole i j [] [] rest e = grind (arith, nat_tests)
back_component whole i j [] (u ∷ us) rest e = component_there whole j (length (u ∷ us)) i [] rest e (omega arith)
back_component whole i j (o ∷ os) new rest e = component_there whole j (length new) i (o ∷ os) rest e (omega arith)

pairs_put_all : (ts : List ℕ) (q : ℕ) → pairs_from q (map (λ u. None) ts) ≡ []
pairs_put_all [] q = refl
pairs_put_all (t ∷ ts) q = pairs_put_all ts (q + 1)

length_put : (ts : List ℕ) (rest : List (Option ℕ)) → length (map {B = Option ℕ} (λ u. None) ts ++ rest) ≡ length ts + length rest
length_put ts rest = grind (arith, length-append, length-map)

module _ (put : ℕ → List ℕ) (gone : ℕ → Bool) where
  pub length_sources_end : (p : ℕ) → length (sources put gone p 0) ≡ length (put p)
  length_sources_end p = length-map (put p) _

  pub length_sources_gone : (p k : ℕ) → gone p ≡ true → length (sources put gone p (suc k)) ≡ length (put p) + length (sources put gone (p + 1) k)
  length_sources_gone p k t = rw t (length_put (put p) (sources put gone (p + 1) k))

  pub length_sources_kept : (p k : ℕ) → gone p ≡ false → length (sources put gone p (suc k)) ≡ length (put p) + 1 + length (sources put gone (p + 1) k)
  length_sources_kept p k f = rw (f, length_put (put p)) (omega arith)

module _ (put : ℕ → List ℕ) (gone : ℕ → Bool) (whole : List ℕ) where
  -- the components of the step are the parts, seen forward
  pub forth_parts : {X : Type 0} (p i j : ℕ) (old : List X) (new : List ℕ) (xs : List X) (n m : ℕ) → i + length old ≡ p → drop j whole ≡ new ++ woven put gone p (replicate (length xs) 0) → n ≡ p + length xs → m ≡ j + length new + length (sources put gone p (length xs)) → components change whole i j (pairs_from (j + length new) (sources put gone p (length xs))) n m ≡ map forth (parts put gone p i j old new xs)
  forth_parts {X} p i j old new [] n m ei ed en em =
      let z : length {A = X} [] ≡ 0 = refl in
      let en' : n ≡ i + length old = omega arith in
      let em' : m ≡ j + length (new ++ put p) = em ∙ omega (arith, length_sources_end put gone p, length-append new (put p)) in
      let ed' : drop j whole ≡ (new ++ put p) ++ [] = ed ∙ sym (append-nil (new ++ put p)) in
      rw (pairs_put_all (put p) (j + length new), en', em') (forth_component whole i j old (new ++ put p) [] ed')
  forth_parts {X} p i j old new (x ∷ xs) n m ei ed en em = elim (cases_Bool (gone p)) [
    | inl t ↦
        let rest : List ℕ = woven put gone (p + 1) (replicate (length xs) 0) in
        let z : length (x ∷ xs) ≡ suc (length xs) = refl in
        let q : j + length new + length (put p) ≡ j + length (new ++ put p) = omega (arith, length-append new (put p)) in
        let ei' : i + length (old ++ x ∷ []) ≡ p + 1 = grind (arith, length-append) in
        let ed1 : drop j whole ≡ new ++ (put p ++ rest) = rw t at ed in
        let ed2 : drop j whole ≡ (new ++ put p) ++ rest = rw append_assoc ed1 in
        let em1 : m ≡ j + length (new ++ put p) + length (sources put gone (p + 1) (length xs)) = em ∙ omega (arith, length_sources_gone put gone p (length xs) t, length-append new (put p)) in
        rw (t, pairs_put (put p) (j + length new), q) (forth_parts (p + 1) i j (old ++ x ∷ []) (new ++ put p) xs n m ei' ed2 (omega arith) em1)
    | inr f ↦
        let rest : List ℕ = woven put gone (p + 1) (replicate (length xs) 0) in
        let z : length (x ∷ xs) ≡ suc (length xs) = refl in
        let q : j + length new + length (put p) ≡ j + length (new ++ put p) = omega (arith, length-append new (put p)) in
        let ed1 : drop j whole ≡ new ++ (put p ++ 0 ∷ rest) = rw f at ed in
        let ed2 : drop j whole ≡ (new ++ put p) ++ 0 ∷ rest = rw append_assoc ed1 in
        let em1 : m ≡ j + length (new ++ put p) + 1 + 0 + length (sources put gone (p + 1) (length xs)) = em ∙ omega (arith, length_sources_kept put gone p (length xs) f, length-append new (put p)) in
        let here : component change whole i j p (j + length (new ++ put p)) ≡ map forth (part i j old (new ++ put p)) = rw ei at (forth_component whole i j old (new ++ put p) (0 ∷ rest) ed2) in
        let from : j + length (new ++ put p) + 1 + 0 ≡ j + length (new ++ put p) + 1 = omega arith in
        let later : components change whole (p + 1) (j + length (new ++ put p) + 1) (pairs_from (j + length (new ++ put p) + 1) (sources put gone (p + 1) (length xs))) n m ≡ map forth (parts put gone (p + 1) (p + 1) (j + length (new ++ put p) + 1) [] [] xs) =
        rw from at (forth_parts (p + 1) (p + 1) (j + length (new ++ put p) + 1) [] [] xs n m (omega arith) (drop_past whole j (new ++ put p) 0 rest ed2) (omega arith) em1) in
        rw (f, pairs_put (put p) (j + length new), q, map-append, here, later) refl
  ]

  -- those of the step back are the parts, seen backward
  pub back_parts : (p i j : ℕ) (old new xs : List ℕ) (n m : ℕ) → i + length old ≡ p → drop i whole ≡ old ++ xs → n ≡ p + length xs → m ≡ j + length new + length (sources put gone p (length xs)) → components change whole j i (map (λ pair. (pair.1, pair.0)) (pairs_from (j + length new) (sources put gone p (length xs)))) m n ≡ map back (parts put gone p i j old new xs)
  back_parts p i j old new [] n m ei ed en em =
      let z : length {A = ℕ} [] ≡ 0 = refl in
      let en' : n ≡ i + length old = omega arith in
      let em' : m ≡ j + length (new ++ put p) = em ∙ omega (arith, length_sources_end put gone p, length-append new (put p)) in
      rw (pairs_put_all (put p) (j + length new), en', em') (back_component whole i j old (new ++ put p) [] ed)
  back_parts p i j old new (x ∷ xs) n m ei ed en em = elim (cases_Bool (gone p)) [
    | inl t ↦
        let z : length (x ∷ xs) ≡ suc (length xs) = refl in
        let q : j + length new + length (put p) ≡ j + length (new ++ put p) = omega (arith, length-append new (put p)) in
        let ei' : i + length (old ++ x ∷ []) ≡ p + 1 = grind (arith, length-append) in
        let ed1 : drop i whole ≡ (old ++ x ∷ []) ++ xs = rw append_assoc ed in
        let em1 : m ≡ j + length (new ++ put p) + length (sources put gone (p + 1) (length xs)) = em ∙ omega (arith, length_sources_gone put gone p (length xs) t, length-append new (put p)) in
        rw (t, pairs_put (put p) (j + length new), q) (back_parts (p + 1) i j (old ++ x ∷ []) (new ++ put p) xs n m ei' ed1 (omega arith) em1)
    | inr f ↦
        let z : length (x ∷ xs) ≡ suc (length xs) = refl in
        let q : j + length new + length (put p) ≡ j + length (new ++ put p) = omega (arith, length-append new (put p)) in
        let em1 : m ≡ j + length (new ++ put p) + 1 + 0 + length (sources put gone (p + 1) (length xs)) = em ∙ omega (arith, length_sources_kept put gone p (length xs) f, length-append new (put p)) in
        let here : component change whole j i (j + length (new ++ put p)) p ≡ map back (part i j old (new ++ put p)) = rw ei at (back_component whole i j old (new ++ put p) (x ∷ xs) ed) in
        let from : j + length (new ++ put p) + 1 + 0 ≡ j + length (new ++ put p) + 1 = omega arith in
        let at : drop (p + 1) whole ≡ xs = rw ei at (drop_past whole i old x xs ed) in
        let later : components change whole (j + length (new ++ put p) + 1) (p + 1) (map (λ pair. (pair.1, pair.0)) (pairs_from (j + length (new ++ put p) + 1) (sources put gone (p + 1) (length xs)))) m n ≡ map back (parts put gone (p + 1) (p + 1) (j + length (new ++ put p) + 1) [] [] xs) =
        rw from at (back_parts (p + 1) (p + 1) (j + length (new ++ put p) + 1) [] [] xs n m (omega arith) at (omega arith) em1) in
        rw (f, pairs_put (put p) (j + length new), q, map-append, here, later) refl
  ]
