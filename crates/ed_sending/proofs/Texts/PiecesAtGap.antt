-- What pieces put in at a gap, and what they take away, in two parts.
use Rattle.std.proofs.Common.{◌≡◌, ℕ, Bool, true, false, not, List, [], ◌∷◌, ◌++◌, filter, if◌then◌else◌, refl, ap, ◌∙◌, arith}
use Rattle.std.specs.Prelude.{nat_eq, flat_map}
use Rattle.std.proofs.lemmas.Grind.{flat_map-append}
use Rattle.std.proofs.lemmas.Bool.Decides.{nat_tests}
use Rattle.ed_base.specs.declared.piece.Piece.{Piece}
use Rattle.ed_base.specs.Sorting.{sorted_by}
use Rattle.ed_layers.specs.Pieces.{piece_before, put_at, marked_units}
use Rattle.ed_sending.proofs.Lists.SortedParts.{Each, sorted_parts, filter_each}

pub filter_twice : {X : Type 0} (f g : X → Bool) (xs : List X) → filter f (filter g xs) ≡ filter g (filter f xs)
filter_twice f g [] = refl
filter_twice f g (x ∷ xs) = either (f x) (g x) refl refl (filter_twice f g xs)
  where
    either : (a b : Bool) → f x ≡ a → g x ≡ b → filter f (filter g xs) ≡ filter g (filter f xs) → filter f (if b then x ∷ filter g xs else filter g xs) ≡ filter g (if a then x ∷ filter f xs else filter f xs)
    either true true p q rest = rw (p, q) (ap (λ z. x ∷ z) rest)
    either true false p q rest = rw q rest
    either false true p q rest = rw p rest
    either false false p q rest = rest

-- Where each piece of the one part stands before each of the other at one gap, what is put in is that of the one part and then that of the other.
pub put_parts : (P : Piece → Type 0) (f : Piece → Bool) (pieces : List Piece) → ((x y : Piece) → P x → P y → x.start ≡ y.start → f x ≡ true → f y ≡ false → (piece_before x y ≡ true) × (piece_before y x ≡ false)) → Each P pieces → (g : ℕ) → put_at pieces g ≡ put_at (filter f pieces) g ++ put_at (filter (λ p. not (f p)) pieces) g
put_parts P f pieces apart a g =
    let here : Piece → Bool = λ p. nat_eq p.start g in
    let Q : Piece → Type 0 = λ p. P p × (nat_eq p.start g ≡ true) in
    let two : sorted_by piece_before (filter here pieces) ≡ sorted_by piece_before (filter f (filter here pieces)) ++ sorted_by piece_before (filter (λ p. not (f p)) (filter here pieces)) =
    sorted_parts piece_before Q f (filter here pieces)
    (λ x y px py fx fy. let e : x.start ≡ y.start = same_gap x.start y.start g px.1 py.1 in apart x y px.0 py.0 e fx fy)
    (filter_each P here pieces a) in
    ap (λ z. flat_map marked_units z) (two ∙ ap (λ z. sorted_by piece_before z ++ sorted_by piece_before (filter (λ p. not (f p)) (filter here pieces))) (filter_twice f here pieces)
    ∙ ap (λ z. sorted_by piece_before (filter here (filter f pieces)) ++ sorted_by piece_before z) (filter_twice (λ p. not (f p)) here pieces))
    ∙ flat_map-append marked_units (sorted_by piece_before (filter here (filter f pieces))) (sorted_by piece_before (filter here (filter (λ p. not (f p)) pieces)))
  where
    same_gap : (a b c : ℕ) → nat_eq a c ≡ true → nat_eq b c ≡ true → a ≡ b
    same_gap a b c p q = grind (arith, nat_tests)

-- Where no piece starts at a gap, nothing is put in there.
pub put_none : (pieces : List Piece) (g : ℕ) → Each (λ p. nat_eq p.start g ≡ false) pieces → put_at pieces g ≡ []
put_none pieces g a = ap (λ z. flat_map marked_units (sorted_by piece_before z)) (none_here pieces a)
  where
    none_here : (ps : List Piece) → Each (λ p. nat_eq p.start g ≡ false) ps → filter (λ p. nat_eq p.start g) ps ≡ []
    none_here [] a = refl
    none_here (p ∷ ps) a = rw a.0 (none_here ps a.1)
