-- Components as the changes of a list in normal form, and what they make of a text.
use Rattle.std.proofs.Common.{◌≡◌, ℕ, suc, ◌+◌, ◌-◌, ◌≤◌, max, Bool, true, false, nat_eq, nat_le, ◌&&◌, List, [], ◌∷◌, ◌++◌, length, map, replicate, take, drop, refl, sym, ap, ◌∙◌, arith, length-append, append_assoc, if◌then◌else◌, inl, inr}
use Rattle.std.specs.Prelude.{sum_by}
use Rattle.std.specs.List.{slice_range, range_with_len}
use Rattle.std.proofs.lemmas.List.FromFn.{length-range_with_len}
use Rattle.std.specs.Prelude.{Option, None}
use Rattle.std.proofs.lemmas.List.{append-nil, map-append, drop_at, length-map, length-replicate, take-map, drop-map}
use Rattle.std.proofs.lemmas.List.Sums.{sum_by-cons}
use Rattle.std.proofs.lemmas.List.Sorted.{sum_by-IsPermutation}
use Rattle.std.proofs.lemmas.Bool.{cases_Bool}
use Rattle.ed_base.specs.declared.edit.Change.{Change}
use Rattle.ed_base.specs.declared.piece.Piece.{Piece}
use Rattle.ed_base.specs.Edit.{woven}
use Rattle.ed_base.specs.ChangeList.{ChangeList, change, component, components, change_list, applied, step, new_len, AreNormalFrom}
use Rattle.ed_base.specs.Step.{Step, pairs_from}
use Rattle.ed_base.proofs.NormalLists.{normal_earlier, given, sum_by_given}
use Rattle.ed_base.proofs.NormalSteps.{spliced, woven_spliced, olds, unplaced, normal_origins}
use Rattle.ed_layers.specs.Pieces as pieces
use Rattle.ed_layers.specs.Pieces.{Component, put_at, gone_at, marked_text, piece_origins, step_of_pieces, arrived, marked_units, unmarked}
use Rattle.ed_pieces.specs.Arrivals.{AllWithin, component_if, sweep, units_put_in}
use Rattle.ed_pieces.specs.Order.{AreInOrder}
use Rattle.ed_pieces.specs.Ways.{change_of}
use Rattle.ed_pieces.proofs.Parts.{Units, forth, part, parts, forth_parts}
use Rattle.ed_pieces.proofs.Arriving.{arrived_parts, swept_arrived}

abbrev pub listed : ℕ → List Change → ChangeList
listed n cs = record { old_len = n; changes = cs }

-- ---- the changes

map_slice : {Y : Type 0} (f : ℕ × List (ℕ × ℕ) → Y) (us : Units) (a b : ℕ) → slice_range (map f us) a b ≡ map f (slice_range us a b)
map_slice f us a b = ap (take (b - a)) (drop-map f a us) ∙ take-map f (b - a) (drop a us)

change_component : (us : Units) (i j i' j' : ℕ) → component change (map (λ u. u.0) us) i j i' j' ≡ map change_of (component pieces.component us i j i' j')
change_component us i j i' j' = either (nat_eq i i' && nat_eq j j')
  where
    either : (b : Bool) → (if b then [] else change i (i' - i) (slice_range (map (λ u. u.0) us) j j') ∷ []) ≡ map change_of (if b then [] else pieces.component i (i' - i) (slice_range us j j') ∷ [])
    either true = refl
    either false = ap (λ z. change i (i' - i) z ∷ []) (map_slice (λ u. u.0) us j j')

-- the changes of a marked text are its components without the ways
change_components : (us : Units) (i j : ℕ) (pairs : List (ℕ × ℕ)) (n m : ℕ) → components change (map (λ u. u.0) us) i j pairs n m ≡ map change_of (components pieces.component us i j pairs n m)
change_components us i j [] n m = change_component us i j n m
change_components us i j (pair ∷ pairs) n m =
    ap (λ z. z ++ components change (map (λ u. u.0) us) (pair.0 + 1) (pair.1 + 1) pairs n m) (change_component us i j pair.0 pair.1)
    ∙ ap (λ z. map change_of (component pieces.component us i j pair.0 pair.1) ++ z) (change_components us (pair.0 + 1) (pair.1 + 1) pairs n m)
    ∙ sym (map-append change_of (component pieces.component us i j pair.0 pair.1) (components pieces.component us (pair.0 + 1) (pair.1 + 1) pairs n m))

-- what arrives doesn't depend on the text
arrived_text : (ps : List Piece) (text : List ℕ) → components pieces.component (marked_text ps text) 0 0 (step_of_pieces ps (length text)).kept (length text) (length (piece_origins ps (length text))) ≡ arrived ps (length text)
arrived_text ps text =
    forth_parts (put_at ps) (gone_at ps) (marked_text ps text) 0 0 0 [] [] text (map unmarked text) (length text) (length (piece_origins ps (length text))) (length-map text unmarked) refl refl (omega arith) (omega arith)
    ∙ sym (arrived_parts ps text)

pub changes_arrived : (ps : List Piece) (text : List ℕ) → change_list (step_of_pieces ps (length text)) (map (λ u. u.0) (marked_text ps text)) ≡ listed (length text) (map change_of (arrived ps (length text)))
changes_arrived ps text =
    ap (listed (length text)) (change_components (marked_text ps text) 0 0 (step_of_pieces ps (length text)).kept (length text) (length (piece_origins ps (length text))) ∙ ap (map change_of) (arrived_text ps text))

-- ---- they are in normal form

normal_part : {X : Type 0} (i j n : ℕ) (old : List X) (new : Units) (cs : List Change) → i + length old ≤ n → AreNormalFrom (i + length old + 1) n cs → AreNormalFrom i n (map change_of (map forth (part i j old new)) ++ cs)
normal_part i j n [] [] cs l h = normal_earlier i _ n cs (omega arith) h
normal_part i j n [] (u ∷ us) cs l h = (omega arith, l, omega arith, h)
normal_part i j n (o ∷ os) new cs l h = (omega arith, l, omega arith, h)

module _ (put : ℕ → Units) (gone : ℕ → Bool) where
  normal_parts : {X : Type 0} (p i j : ℕ) (old : List X) (new : Units) (xs : List X) (n : ℕ) → i + length old ≡ p → n ≡ p + length xs → AreNormalFrom i n (map change_of (map forth (parts put gone p i j old new xs)))
  normal_parts {X} p i j old new [] n ei en =
      let z : length {A = X} [] ≡ 0 = refl in
      rw append-nil at (normal_part i j n old (new ++ put p) [] (omega arith) tt)
  normal_parts p i j old new (x ∷ xs) n ei en = elim (cases_Bool (gone p)) [
    | inl t ↦
        let z : length (x ∷ xs) ≡ suc (length xs) = refl in
        rw t (normal_parts (p + 1) i j (old ++ x ∷ []) (new ++ put p) xs n (grind (arith, length-append)) (omega arith))
    | inr f ↦
        let z : length (x ∷ xs) ≡ suc (length xs) = refl in
        let later : AreNormalFrom (p + 1) n (map change_of (map forth (parts put gone (p + 1) (p + 1) (j + length (new ++ put p) + 1) [] [] xs))) = normal_parts (p + 1) (p + 1) (j + length (new ++ put p) + 1) [] [] xs n (omega arith) (omega arith) in
        rw (f, map-append, map-append) (normal_part i j n old (new ++ put p) _ (omega arith) (rw ei later))
  ]

pub arrived_normal : {X : Type 0} (ps : List Piece) (xs : List X) → AreNormalFrom 0 (length xs) (map change_of (arrived ps (length xs)))
arrived_normal ps xs = rw (arrived_parts ps xs) (normal_parts (put_at ps) (gone_at ps) 0 0 0 [] [] xs (length xs) refl (omega arith))

pub swept_normal : (n : ℕ) (all sorted : List Piece) → AreInOrder all sorted → AllWithin n all → AreNormalFrom 0 n (map change_of (sweep 0 0 [] sorted))
swept_normal n all sorted order within =
    let zeros : List ℕ = replicate n 0 in
    let normal : AreNormalFrom 0 n (map change_of (arrived all n)) = (let size : length zeros ≡ n = length-replicate n 0 in rw size at (arrived_normal all zeros)) in
    rw (swept_arrived n all sorted order within) normal

-- ---- what they make of a list

-- One component after the other, from place i on. `give` says what a text that is put in stands for.
module _ {Y : Type 0} (give : Units → List Y) where
  abbrev pub laid : ℕ → List Component → List Y → List Y
  laid i [] xs = xs
  laid i (c ∷ cs) xs = take (c.start - i) xs ++ (give c.text ++ laid (c.start + c.old_len) cs (drop (c.start - i + c.old_len) xs))

  laid_part : give [] ≡ [] → (i j : ℕ) (old : List Y) (new : Units) (ys : List Y) (cs : List Component) → laid i (map forth (part i j old new) ++ cs) (old ++ ys) ≡ give new ++ laid (i + length old) cs ys
  laid_part none i j [] [] ys cs = rw none (grind arith)
  laid_part none i j [] (u ∷ us) ys cs = let w : i - i ≡ 0 = omega arith in rw w refl
  laid_part none i j (o ∷ os) new ys cs =
      let w : i - i ≡ 0 = omega arith in
      let v : 0 + length (o ∷ os) ≡ length (o ∷ os) = omega arith in
      rw (w, v, drop_at (o ∷ os) ys (length (o ∷ os)) refl) refl

  -- a unit that is kept
  laid_kept : (p n : ℕ) (x : Y) (xs : List Y) (cs : List Component) → AreNormalFrom (p + 1) n (map change_of cs) → laid p cs (x ∷ xs) ≡ x ∷ laid (p + 1) cs xs
  laid_kept p n x xs [] h = refl
  laid_kept p n x xs (c ∷ cs) h =
      let w : c.start - p ≡ suc (c.start - (p + 1)) = omega (arith, h.0) in
      let v : suc (c.start - (p + 1)) + c.old_len ≡ suc (c.start - (p + 1) + c.old_len) = omega arith in
      rw (w, v) refl

  laid_parts : (put : ℕ → Units) (gone : ℕ → Bool) → give [] ≡ [] → ((s t : Units) → give (s ++ t) ≡ give s ++ give t) → (p i j : ℕ) (old : List Y) (new : Units) (xs : List Y) → i + length old ≡ p → laid i (map forth (parts put gone p i j old new xs)) (old ++ xs) ≡ give new ++ woven (λ q. give (put q)) gone p xs
  laid_parts put gone none both p i j old new [] ei =
      let h : laid i (map forth (part i j old (new ++ put p))) (old ++ []) ≡ give (new ++ put p) ++ [] = rw (append-nil (map forth (part i j old (new ++ put p)))) at (laid_part none i j old (new ++ put p) [] []) in
      h ∙ rw (append-nil, both) refl
  laid_parts put gone none both p i j old new (x ∷ xs) ei = elim (cases_Bool (gone p)) [
    | inl t ↦
        let ih : laid i (map forth (parts put gone (p + 1) i j (old ++ x ∷ []) (new ++ put p) xs)) ((old ++ x ∷ []) ++ xs) ≡ give (new ++ put p) ++ woven (λ q. give (put q)) gone (p + 1) xs = laid_parts put gone none both (p + 1) i j (old ++ x ∷ []) (new ++ put p) xs (grind (arith, length-append)) in
        rw t (rw (append_assoc old (x ∷ []) xs, both, append_assoc) at ih)
    | inr f ↦
        let z : length (x ∷ xs) ≡ suc (length xs) = refl in
        let later : List Component = map forth (parts put gone (p + 1) (p + 1) (j + length (new ++ put p) + 1) [] [] xs) in
        let normal : AreNormalFrom (p + 1) (p + 1 + length xs) (map change_of later) = normal_parts put gone (p + 1) (p + 1) (j + length (new ++ put p) + 1) [] [] xs _ (omega arith) refl in
        let ih : laid (p + 1) later xs ≡ give [] ++ woven (λ q. give (put q)) gone (p + 1) xs = laid_parts put gone none both (p + 1) (p + 1) (j + length (new ++ put p) + 1) [] [] xs (omega arith) in
        rw (f, map-append, laid_part none i j old (new ++ put p) (x ∷ xs) later, ei, laid_kept p _ x xs later normal, ih, none, both) (append_assoc (give new) (give (put p)) (x ∷ woven (λ q. give (put q)) gone (p + 1) xs))
  ]

map_woven : {X Y : Type 0} (f : X → Y) (put : ℕ → List X) (gone : ℕ → Bool) (p : ℕ) (xs : List X) → map f (woven put gone p xs) ≡ woven (λ q. map f (put q)) gone p (map f xs)
map_woven f put gone p [] = refl
map_woven f put gone p (x ∷ xs) = grind (arith, map-append, map_woven f put gone (p + 1) xs)

-- what the pieces leave is what the components make, for what a unit stands for
pub marked_laid : {Y : Type 0} (f : ℕ × List (ℕ × ℕ) → Y) (ps : List Piece) (text : List ℕ) → laid (map f) 0 (arrived ps (length text)) (map f (map unmarked text)) ≡ map f (marked_text ps text)
marked_laid f ps text =
    let size : length (map f (map unmarked text)) ≡ length text = length-map (map unmarked text) f ∙ length-map text unmarked in
    let parts_are : arrived ps (length text) ≡ map forth (parts (put_at ps) (gone_at ps) 0 0 0 [] [] (map f (map unmarked text))) = rw size at (arrived_parts ps (map f (map unmarked text))) in
    ap (λ cs. laid (map f) 0 cs (map f (map unmarked text))) parts_are
    ∙ laid_parts (map f) (put_at ps) (gone_at ps) refl (λ s t. map-append f s t) 0 0 0 [] [] (map f (map unmarked text)) refl
    ∙ sym (map_woven f (put_at ps) (gone_at ps) 0 (map unmarked text))

abbrev itself : List ℕ → List ℕ
itself units = units

laid_spliced : (i : ℕ) (cs : List Component) (xs : List ℕ) → spliced itself i (map change_of cs) xs ≡ laid (map (λ u. u.0)) i cs xs
laid_spliced i [] xs = refl
laid_spliced i (c ∷ cs) xs = ap (λ z. take (c.start - i) xs ++ (map (λ u. u.0) c.text ++ z)) (laid_spliced (c.start + c.old_len) cs (drop (c.start - i + c.old_len) xs))

without_ways : (text : List ℕ) → map (λ u. u.0) (map unmarked text) ≡ text
without_ways [] = refl
without_ways (u ∷ us) = ap (λ z. u ∷ z) (without_ways us)

-- the changes lead to what the pieces leave
pub text_arrived : (ps : List Piece) (text : List ℕ) → applied (listed (length text) (map change_of (arrived ps (length text)))) text ≡ map (λ u. u.0) (marked_text ps text)
text_arrived ps text =
    let cs : List Component = arrived ps (length text) in
    woven_spliced itself refl 0 (length text) (map change_of cs) text (omega arith) (arrived_normal ps text)
    ∙ laid_spliced 0 cs text
    ∙ ap (laid (map (λ u. u.0)) 0 cs) (sym (without_ways text))
    ∙ marked_laid (λ u. u.0) ps text

-- ---- what they keep

-- no old place
abbrev placeless : Units → List (Option ℕ)
placeless us = map (λ u. None) us

placeless_same : (us : Units) → unplaced (map (λ u. u.0) us) ≡ placeless us
placeless_same [] = refl
placeless_same (u ∷ us) = ap (λ z. None ∷ z) (placeless_same us)

laid_placeless : (i : ℕ) (cs : List Component) (xs : List (Option ℕ)) → spliced unplaced i (map change_of cs) xs ≡ laid placeless i cs xs
laid_placeless i [] xs = refl
laid_placeless i (c ∷ cs) xs =
    ap (λ z. take (c.start - i) xs ++ (unplaced (map (λ u. u.0) c.text) ++ z)) (laid_placeless (c.start + c.old_len) cs (drop (c.start - i + c.old_len) xs))
    ∙ ap (λ z. take (c.start - i) xs ++ (z ++ laid placeless (c.start + c.old_len) cs (drop (c.start - i + c.old_len) xs))) (placeless_same c.text)

-- the step in which the units come from these places
abbrev step_from : ℕ → List (Option ℕ) → Step
step_from n units = record { old_len = n; new_len = length units; kept = pairs_from 0 units }

-- the step of the changes is that of the pieces
pub step_arrived : (ps : List Piece) (n : ℕ) → step (listed n (map change_of (arrived ps n))) ≡ step_of_pieces ps n
step_arrived ps n =
    let xs : List (Option ℕ) = olds 0 n in
    let size : length xs ≡ n = length-map (range_with_len 0 n) _ ∙ length-range_with_len 0 n in
    let normal : AreNormalFrom 0 n (map change_of (arrived ps n)) = rw size at (arrived_normal ps xs) in
    let parts_are : arrived ps n ≡ map forth (parts (put_at ps) (gone_at ps) 0 0 0 [] [] xs) = rw size at (arrived_parts ps xs) in
    ap (step_from n) (
    normal_origins n (map change_of (arrived ps n)) normal
    ∙ laid_placeless 0 (arrived ps n) xs
    ∙ ap (λ cs. laid placeless 0 cs xs) parts_are
    ∙ laid_parts placeless (put_at ps) (gone_at ps) refl (λ s t. map-append (λ u. None) s t) 0 0 0 [] [] xs refl
    )

-- ---- how much they put in

abbrev put_by : List Component → ℕ
put_by [] = 0
put_by (c ∷ cs) = length c.text + put_by cs

sum_put_by : (cs : List Component) → units_put_in cs ≡ put_by cs
sum_put_by [] = refl
sum_put_by (c ∷ cs) = omega (arith, sum_put_by cs, sum_by-cons (λ (x : Component). length x.text) c cs)

given_put_by : (cs : List Component) → given (map change_of cs) ≡ put_by cs
given_put_by [] = refl
given_put_by (c ∷ cs) = omega (arith, given_put_by cs, length-map c.text (λ u. u.0))

put_by_append : (cs ds : List Component) → put_by (cs ++ ds) ≡ put_by cs + put_by ds
put_by_append [] ds = omega arith
put_by_append (c ∷ cs) ds = omega (arith, put_by_append cs ds)

put_by_if : (i e : ℕ) (text : Units) → put_by (component_if i e text) ≡ length text
put_by_if i e [] = grind arith
put_by_if i e (u ∷ us) = omega arith

put_by_sweep : (i e : ℕ) (text : Units) (ps : List Piece) → put_by (sweep i e text ps) ≡ length text + sum_by (λ p. length p.text) ps
put_by_sweep i e text [] = put_by_if i e text ∙ omega arith
put_by_sweep i e text (p ∷ ps) =
    let more : sum_by (λ p. length p.text) (p ∷ ps) ≡ length p.text + sum_by (λ p. length p.text) ps = sum_by-cons (λ (x : Piece). length x.text) p ps in
    let size : length (marked_units p) ≡ length p.text = length-map p.text (λ u. (u, p.trail)) in
    elim (cases_Bool (nat_le p.start e)) [
      | inl t ↦ rw t (put_by_sweep i (max e (p.start + p.len)) (text ++ marked_units p) ps ∙ omega (arith, length-append text (marked_units p), more, size))
      | inr f ↦ rw f (put_by_append (component_if i e text) (sweep p.start (p.start + p.len) (marked_units p) ps) ∙ omega (arith, put_by_if i e text, put_by_sweep p.start (p.start + p.len) (marked_units p) ps, more, size))
    ]

-- no unit is lost
pub swept_put_in : (all sorted : List Piece) → AreInOrder all sorted → units_put_in (sweep 0 0 [] sorted) ≡ sum_by (λ p. length p.text) all
swept_put_in all sorted order = omega (arith, sum_put_by (sweep 0 0 [] sorted), put_by_sweep 0 0 [] sorted, sum_by-IsPermutation (λ p. length p.text) all sorted order.same)

pub new_len_within : (n : ℕ) (cs : List Component) → new_len (listed n (map change_of cs)) ≤ n + units_put_in cs
new_len_within n cs = omega (arith, sum_by_given (map change_of cs), given_put_by cs, sum_put_by cs)
