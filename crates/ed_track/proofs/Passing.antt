-- Through several steps, forward or back: what holds of a point or a span on the way.
use Rattle.std.proofs.Common.{◌≡◌, ℕ, ◌+◌, ◌<◌, ◌≤◌, List, [], ◌∷◌, ◌++◌, length, map, drop, get_or, reverse, refl, sym, ap, subst, ◌∙◌, arith}
use Rattle.std.proofs.lemmas.List.{map-append, reverse-append, drop_all}
use Rattle.ed_base.proofs.NormalLists.{rest_at}
use Rattle.ed_base.specs.Step.{Step, inverse_step}
use Rattle.ed_base.specs.ChangeList.{ChangeList, step, new_len}
use Rattle.ed_base.specs.Tracking.{through}
use Rattle.ed_track.specs.declared.edge.Way.{Way}
use Rattle.ed_track.specs.Ways.{way_step, from_len, to_len}
use Rattle.ed_track.specs.Linked.{AreLinkedFrom, AreLinked, len_before, len_after}

module _ (way : Way) where
  -- the length at which the first of the steps begins, and the last ends
  abbrev pub first_from : ℕ → List ChangeList → ℕ
  first_from n [] = n
  first_from n (c ∷ cs) = from_len way c

  abbrev pub last_to : ℕ → List ChangeList → ℕ
  last_to n [] = n
  last_to n (c ∷ cs) = last_to (to_len way c) cs

  -- steps in the order in which they are gone
  abbrev pub AreOn : List ChangeList → Type 0
  AreOn [] = Unit {0}
  AreOn (c ∷ cs) = (first_from (to_len way c) cs ≡ to_len way c) × AreOn cs

  last_to_above : (p n : ℕ) (cs : List ChangeList) → p ≤ n → last_to p cs ≤ last_to n cs
  last_to_above p n [] below = below
  last_to_above p n (c ∷ cs) below = omega arith

  first_from_above : (p n : ℕ) (cs : List ChangeList) → p ≤ n → first_from n cs ≡ n → p ≤ first_from p cs
  first_from_above p n [] below same = omega arith
  first_from_above p n (c ∷ cs) below same = omega (arith, same)

  -- A thing is moved through all steps from `start` on; it stands at `now`, and `rest` is left. `end` is how far it reaches.
  module _ {X : Type 0} (move : X → Step → X) (end : X → ℕ) (start : X) (all : List ChangeList) where
    pub record Passed (now : X) (rest : List ChangeList) : Type 0 where
      pub on : AreOn rest
      pub within : end now ≤ first_from (end now) rest
      pub moved : through move now (map (way_step way) rest) ≡ through move start (map (way_step way) all)
      pub after : last_to (end now) rest ≤ last_to (end start) all

    pub passed_start : AreOn all → end start ≤ first_from (end start) all → Passed start all
    passed_start on within = record { on = on; within = within; moved = refl; after = omega arith }

    pub passed_next : (now next : X) (c : ChangeList) (cs : List ChangeList) → Passed now (c ∷ cs) → next ≡ move now (way_step way c) → end next ≤ to_len way c → Passed next cs
    passed_next now next c cs passed is within = record {
      on = passed.on.1;
      within = first_from_above (end next) (to_len way c) cs within passed.on.0;
      moved = ap (λ x. through move x (map (way_step way) cs)) is ∙ passed.moved;
      after = omega (arith, last_to_above (end next) (to_len way c) cs within, passed.after);
    }

    -- what is left from an index on begins with the step there
    pub passed_at : (now : X) (k : ℕ) (c : ChangeList) → k < length all → c ≡ get_or all k c → Passed now (drop k all) → Passed now (c ∷ drop (k + 1) all)
    passed_at now k c below is passed = subst (Passed now) (rest_at all k c below is) passed

    -- nothing is left
    pub passed_all : (now : X) (k : ℕ) → length all ≤ k → Passed now (drop k all) → Passed now []
    passed_all now k past passed = subst (Passed now) (drop_all k all past) passed

-- Steps that are linked are on the way forward.
linked_from_on : (n : ℕ) (cs : List ChangeList) → AreLinkedFrom n cs → AreOn Way.Forward cs × (first_from Way.Forward n cs ≡ n)
linked_from_on n [] linked = (tt, refl)
linked_from_on n (c ∷ cs) linked =
    let rest : AreOn Way.Forward cs × (first_from Way.Forward (new_len c) cs ≡ new_len c) = linked_from_on (new_len c) cs linked.1 in
    ((rest.1, rest.0), linked.0)

pub forward_on : (cs : List ChangeList) → AreLinked cs → AreOn Way.Forward cs
forward_on [] linked = tt
forward_on (c ∷ cs) linked =
    let rest : AreOn Way.Forward cs × (first_from Way.Forward (new_len c) cs ≡ new_len c) = linked_from_on (new_len c) cs linked in
    (rest.1, rest.0)

pub forward_first : (n : ℕ) (cs : List ChangeList) → first_from Way.Forward n cs ≡ len_before n cs
forward_first n [] = refl
forward_first n (c ∷ cs) = refl

pub forward_last : (n : ℕ) (cs : List ChangeList) → last_to Way.Forward n cs ≡ len_after n cs
forward_last n [] = refl
forward_last n (c ∷ cs) = forward_last (new_len c) cs

pub forward_steps : (cs : List ChangeList) → map (way_step Way.Forward) cs ≡ map step cs
forward_steps [] = refl
forward_steps (c ∷ cs) = ap (λ ss. step c ∷ ss) (forward_steps cs)

-- In reverse they are on the way back.
reverse_cons : {X : Type 0} (x : X) (xs : List X) → reverse (x ∷ xs) ≡ reverse xs ++ x ∷ []
reverse_cons x xs = reverse-append (x ∷ []) xs

first_from_push : (way : Way) (n : ℕ) (xs : List ChangeList) (c : ChangeList) → first_from way n (xs ++ c ∷ []) ≡ first_from way (from_len way c) xs
first_from_push way n [] c = refl
first_from_push way n (x ∷ xs) c = refl

last_to_push : (way : Way) (n : ℕ) (xs : List ChangeList) (c : ChangeList) → last_to way n (xs ++ c ∷ []) ≡ to_len way c
last_to_push way n [] c = refl
last_to_push way n (x ∷ xs) c = last_to_push way (to_len way x) xs c

on_push : (way : Way) (xs : List ChangeList) (c : ChangeList) → AreOn way xs → last_to way (from_len way c) xs ≡ from_len way c → AreOn way (xs ++ c ∷ [])
on_push way [] c on meets = (refl, tt)
on_push way (x ∷ []) c on meets = (sym meets, (refl, tt))
on_push way (x ∷ y ∷ xs) c on meets = (on.0, on_push way (y ∷ xs) c on.1 meets)

-- where the last of the reversed ends: at the start of the first
back_last_from : (n : ℕ) (cs : List ChangeList) → AreLinkedFrom n cs → last_to Way.Back n (reverse cs) ≡ n
back_last_from n [] linked = refl
back_last_from n (c ∷ cs) linked =
    ap (last_to Way.Back n) (reverse_cons c cs) ∙ last_to_push Way.Back n (reverse cs) c ∙ linked.0

back_on_from : (n : ℕ) (cs : List ChangeList) → AreLinkedFrom n cs → AreOn Way.Back (reverse cs)
back_on_from n [] linked = tt
back_on_from n (c ∷ cs) linked =
    rw (reverse_cons c cs) (on_push Way.Back (reverse cs) c (back_on_from (new_len c) cs linked.1) (back_last_from (new_len c) cs linked.1))

pub back_on : (cs : List ChangeList) → AreLinked cs → AreOn Way.Back (reverse cs)
back_on [] linked = tt
back_on (c ∷ cs) linked = back_on_from c.old_len (c ∷ cs) (refl, linked)

pub back_first : (n : ℕ) (cs : List ChangeList) → first_from Way.Back n (reverse cs) ≡ len_after n cs
back_first n [] = refl
back_first n (c ∷ cs) =
    ap (first_from Way.Back n) (reverse_cons c cs) ∙ first_from_push Way.Back n (reverse cs) c ∙ back_first (new_len c) cs

pub back_last : (n : ℕ) (cs : List ChangeList) → last_to Way.Back n (reverse cs) ≡ len_before n cs
back_last n [] = refl
back_last n (c ∷ cs) = ap (last_to Way.Back n) (reverse_cons c cs) ∙ last_to_push Way.Back n (reverse cs) c

back_steps_of : (cs : List ChangeList) → map (way_step Way.Back) cs ≡ map inverse_step (map step cs)
back_steps_of [] = refl
back_steps_of (c ∷ cs) = ap (λ ss. inverse_step (step c) ∷ ss) (back_steps_of cs)

reverse_steps : (cs : List ChangeList) → map step (reverse cs) ≡ reverse (map step cs)
reverse_steps [] = refl
reverse_steps (c ∷ cs) =
    ap (map step) (reverse_cons c cs) ∙ map-append step (reverse cs) (c ∷ []) ∙ ap (λ ss. ss ++ step c ∷ []) (reverse_steps cs) ∙ sym (reverse_cons (step c) (map step cs))

pub back_steps : (cs : List ChangeList) → map (way_step Way.Back) (reverse cs) ≡ map inverse_step (reverse (map step cs))
back_steps cs = back_steps_of (reverse cs) ∙ ap (map inverse_step) (reverse_steps cs)
