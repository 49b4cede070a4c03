-- A stable sort by the keys brings the pieces in order.
use Rattle.std.proofs.Common.{◌≡◌, ℕ, suc, ◌+◌, ◌<◌, ◌≤◌, Bool, true, false, ◌&&◌, ◌||◌, List, [], ◌∷◌, length, map, get_or, Option, Some, None, refl, sym, ap, ◌∙◌, arith, if◌then◌else◌, is_lt, Ordering, Less, Equal, Greater, inl, inr}
use Rattle.std.specs.Prelude.{nat_eq, nat_lt, filter, flat_map}
use Rattle.std.specs.Cmp.{IsTotalOrder, IsStrictWeakOrder}
use Rattle.std.specs.List.Sorted.{IsPermutation, IsSortedByKey, IsStableByKey, ties}
use Rattle.std.specs.Ordering.{nat_cmp, ordering_then}
use Rattle.std.proofs.lemmas.Bool.{cases_Bool, cases_lt}
use Rattle.std.proofs.lemmas.Bool.Decides.{nat_tests}
use Rattle.std.proofs.lemmas.Cmp.{on_total, then_total, nat_cmp_total}
use Rattle.std.proofs.lemmas.List.{get_or-map, length-map}
use Rattle.std.proofs.lemmas.List.Sorted.{IsPermutation-map, ranks_by, sorted_far}
use denote.Ref.{Bor}
use Rattle.ed_base.specs.declared.piece.Piece.{Piece}
use Rattle.ed_base.specs.Sorting.{placed_in, sorted_by}
use Rattle.ed_layers.specs.Pieces.{last_pair, marked_units, pair_before, piece_before, side_rank}
use Rattle.ed_pieces.specs.Order.{AreInOrder, key_of, pair_key, pair_key_of}
use Rattle.ed_pieces.proofs.Standing.{level, NoneBefore, Stands, is_sorted}

abbrev pub Key : Type 0
Key = ℕ × ℕ × ℕ × ℕ

abbrev pub key_cmp : Key → Key → Ordering
key_cmp a b = ordering_then (ordering_then (ordering_then (nat_cmp a.0 b.0) (nat_cmp a.1 b.1)) (nat_cmp a.2 b.2)) (nat_cmp a.3 b.3)

key_total : IsTotalOrder key_cmp
key_total = then_total (then_total (then_total (on_total (λ (k : Key). k.0) nat_cmp_total) (on_total (λ (k : Key). k.1) nat_cmp_total)) (on_total (λ (k : Key). k.2) nat_cmp_total)) (on_total (λ (k : Key). k.3) nat_cmp_total)

abbrev pub less : Piece → Piece → Bool
less p q = is_lt (key_cmp (key_of p) (key_of q))

less_ranks : IsStrictWeakOrder less
less_ranks = ranks_by key_total key_of

never : (p : Piece) → less p p ≡ false
never p = elim (cases_Bool (less p p)) [
  | inl t ↦ absurd (let w : true ≡ false = sym t ∙ less_ranks.one_way p p t in cc)
  | inr f ↦ f
]

chain : (p q r : Piece) → less q p ≡ false → less r q ≡ false → less r p ≡ false
chain p q r e f = less_ranks.chain r q p f e

-- ---- at one gap the keys say what stands before

then_less : (a b : ℕ) (o : Ordering) → is_lt (ordering_then (nat_cmp a b) o) ≡ (nat_lt a b || nat_eq a b && is_lt o)
then_less a b o = elim (cases_lt a b) [
  | inl l ↦ (let e : nat_cmp a b ≡ Less = grind (arith, nat_tests) in let f : nat_lt a b ≡ true = grind (arith, nat_tests) in rw (e, f) refl)
  | inr g ↦ elim (cases_lt b a) [
    | inl l ↦ (let e : nat_cmp a b ≡ Greater = grind (arith, nat_tests) in let f : nat_lt a b ≡ false = grind (arith, nat_tests) in let h : nat_eq a b ≡ false = grind (arith, nat_tests) in rw (e, f, h) refl)
    | inr m ↦ (let e : nat_cmp a b ≡ Equal = grind (arith, nat_tests) in let f : nat_lt a b ≡ false = grind (arith, nat_tests) in let h : nat_eq a b ≡ true = grind (arith, nat_tests) in rw (e, f, h) refl)
  ]
]

last_less : (a b : ℕ) → is_lt (nat_cmp a b) ≡ nat_lt a b
last_less a b = grind (arith, nat_tests)

same_cmp : (a b : ℕ) → a ≡ b → nat_cmp a b ≡ Equal
same_cmp a b e = grind (arith, nat_tests)

then_three : (a b c : Ordering) → ordering_then (ordering_then a b) c ≡ ordering_then a (ordering_then b c)
then_three Less b c = refl
then_three Equal b c = refl
then_three Greater b c = refl

pair_less : (a b : Option (ℕ × ℕ)) → (nat_lt (pair_key_of a).0 (pair_key_of b).0 || nat_eq (pair_key_of a).0 (pair_key_of b).0 && nat_lt (pair_key_of a).1 (pair_key_of b).1) ≡ pair_before a b
pair_less None None = refl
pair_less None (Some b) = (let f : nat_lt 0 (b.0 + 1) ≡ true = grind (arith, nat_tests) in rw f refl)
pair_less (Some a) None = (let f : nat_lt (a.0 + 1) 0 ≡ false = grind (arith, nat_tests) in let h : nat_eq (a.0 + 1) 0 ≡ false = grind (arith, nat_tests) in rw (f, h) refl)
pair_less (Some a) (Some b) = (let f : nat_lt (a.0 + 1) (b.0 + 1) ≡ nat_lt a.0 b.0 = grind (arith, nat_tests) in let h : nat_eq (a.0 + 1) (b.0 + 1) ≡ nat_eq a.0 b.0 = grind (arith, nat_tests) in rw (f, h) refl)

less_at : (p q : Piece) → p.start ≡ q.start → less p q ≡ piece_before p q
less_at p q e =
    let s : ℕ = side_rank p.side in
    let t : ℕ = side_rank q.side in
    let a : ℕ × ℕ = pair_key p.trail in
    let b : ℕ × ℕ = pair_key q.trail in
    let two : is_lt (ordering_then (nat_cmp a.0 b.0) (nat_cmp a.1 b.1)) ≡ pair_before (last_pair p.trail) (last_pair q.trail) =
    then_less a.0 b.0 (nat_cmp a.1 b.1) ∙ ap (λ z. nat_lt a.0 b.0 || nat_eq a.0 b.0 && z) (last_less a.1 b.1) ∙ pair_less (last_pair p.trail) (last_pair q.trail) in
    ap (λ o. is_lt (ordering_then (ordering_then (ordering_then o (nat_cmp s t)) (nat_cmp a.0 b.0)) (nat_cmp a.1 b.1))) (same_cmp p.start q.start e)
    ∙ ap is_lt (then_three (nat_cmp s t) (nat_cmp a.0 b.0) (nat_cmp a.1 b.1))
    ∙ then_less s t (ordering_then (nat_cmp a.0 b.0) (nat_cmp a.1 b.1))
    ∙ ap (λ z. nat_lt s t || nat_eq s t && z) two

-- ---- pieces at one gap

abbrev AllAt : ℕ → List Piece → Type 0
AllAt g [] = Unit {0}
AllAt g (p ∷ ps) = (p.start ≡ g) × AllAt g ps

placed_at : (g : ℕ) (p : Piece) (ps : List Piece) → p.start ≡ g → AllAt g ps → AllAt g (placed_in less p ps)
placed_at g p [] e a = (e, tt)
placed_at g p (q ∷ qs) e a = either (less q p) (placed_at g p qs e a.1)
  where
    either : (b : Bool) → AllAt g (placed_in less p qs) → AllAt g (if b then q ∷ placed_in less p qs else p ∷ q ∷ qs)
    either true rest = (a.0, rest)
    either false rest = (e, a)

sorted_at : (g : ℕ) (ps : List Piece) → AllAt g ps → AllAt g (sorted_by less ps)
sorted_at g [] a = tt
sorted_at g (p ∷ ps) a = placed_at g p (sorted_by less ps) a.0 (sorted_at g ps a.1)

placed_same : (g : ℕ) (p : Piece) (ps : List Piece) → p.start ≡ g → AllAt g ps → placed_in less p ps ≡ placed_in piece_before p ps
placed_same g p [] e a = refl
placed_same g p (q ∷ qs) e a = rw (less_at q p (a.0 ∙ sym e), placed_same g p qs e a.1) refl

sorted_same : (g : ℕ) (ps : List Piece) → AllAt g ps → sorted_by less ps ≡ sorted_by piece_before ps
sorted_same g [] a = refl
sorted_same g (p ∷ ps) a = placed_same g p (sorted_by less ps) a.0 (sorted_at g ps a.1) ∙ ap (placed_in piece_before p) (sorted_same g ps a.1)

abbrev at : ℕ → Piece → Bool
at g p = nat_eq p.start g

filter_at : (g : ℕ) (ps : List Piece) → AllAt g (filter (at g) ps)
filter_at g [] = tt
filter_at g (p ∷ ps) = either (at g p) refl (filter_at g ps)
  where
    either : (b : Bool) → at g p ≡ b → AllAt g (filter (at g) ps) → AllAt g (if b then p ∷ filter (at g) ps else filter (at g) ps)
    either true e rest = ((let f : nat_eq p.start g ≡ true = e in grind (arith, nat_tests)), rest)
    either false e rest = rest

-- ---- filters

filter_two : {X : Type 0} (f g : X → Bool) (xs : List X) → filter f (filter g xs) ≡ filter g (filter f xs)
filter_two f g [] = refl
filter_two f g (x ∷ xs) = either (f x) refl (g x) refl (filter_two f g xs)
  where
    either : (b : Bool) → f x ≡ b → (c : Bool) → g x ≡ c → filter f (filter g xs) ≡ filter g (filter f xs) → filter f (filter g (x ∷ xs)) ≡ filter g (filter f (x ∷ xs))
    either true e true h r = rw (e, h, e) (ap (λ z. x ∷ z) r)
    either true e false h r = rw (h, e, h) r
    either false e true h r = rw (h, e) r
    either false e false h r = rw (h, e) r

none_kept : (f : Piece → Bool) (p : Piece) (ps : List Piece) → NoneBefore less p ps → NoneBefore less p (filter f ps)
none_kept f p [] a = tt
none_kept f p (q ∷ qs) a = either (f q) (none_kept f p qs a.1)
  where
    either : (b : Bool) → NoneBefore less p (filter f qs) → NoneBefore less p (if b then q ∷ filter f qs else filter f qs)
    either true r = (a.0, r)
    either false r = r

stands_kept : (f : Piece → Bool) (ps : List Piece) → Stands less ps → Stands less (filter f ps)
stands_kept f [] a = tt
stands_kept f (p ∷ ps) a = either (f p) (none_kept f p ps a.0) (stands_kept f ps a.1)
  where
    either : (b : Bool) → NoneBefore less p (filter f ps) → Stands less (filter f ps) → Stands less (if b then p ∷ filter f ps else filter f ps)
    either true n r = (n, r)
    either false n r = r

-- ---- what the sort says

abbrev pub lent : Piece → Bor Piece
lent p = record { ref_ptr = (0, 0); now = p }

level_lent : (z : Piece) (bs : List (Bor Piece)) → filter (level less z) (map (λ b. b.now) bs) ≡ map (λ b. b.now) (filter (ties (λ x y. is_lt (key_cmp (key_of x.now) (key_of y.now))) (lent z)) bs)
level_lent z [] = refl
level_lent z (b ∷ bs) = elim (cases_Bool (level less z b.now)) [
  | inl t ↦ rw t (ap (λ ps. b.now ∷ ps) (level_lent z bs))
  | inr f ↦ rw f (level_lent z bs)
]

none_of : (p : Piece) (bs : List (Bor Piece)) → ((j : ℕ) (d : Bor Piece) → j < length bs → less (get_or bs j d).now p ≡ false) → NoneBefore less p (map (λ b. b.now) bs)
none_of p [] h = tt
none_of p (b ∷ bs) h = (h 0 b (omega arith), none_of p bs (λ j d l. h (suc j) d (omega arith)))

stands_of : (bs : List (Bor Piece)) → ((i j : ℕ) (d : Bor Piece) → i ≤ j → j < length bs → less (get_or bs j d).now (get_or bs i d).now ≡ false) → Stands less (map (λ b. b.now) bs)
stands_of [] h = tt
stands_of (b ∷ bs) h = (none_of b.now bs (λ j d l. h 0 (suc j) d (omega arith) (omega arith)), stands_of bs (λ i j d l m. h (suc i) (suc j) d (omega arith) (omega arith)))

start_low : (p q : Piece) → less q p ≡ false → p.start ≤ q.start
start_low p q e = elim (cases_lt q.start p.start) [
  | inl l ↦ absurd (
      let f : nat_cmp q.start p.start ≡ Less = grind (arith, nat_tests) in
      let w : true ≡ false = rw f at e in cc)
  | inr g ↦ omega arith
]

pub in_order : (xs ys : List (Bor Piece)) → IsPermutation xs ys → IsSortedByKey (λ b. key_of b.now) key_cmp ys → IsStableByKey (λ b. key_of b.now) key_cmp xs ys → AreInOrder (map (λ b. b.now) xs) (map (λ b. b.now) ys)
in_order xs ys same sorted stable =
    let far : (i j : ℕ) (d : Bor Piece) → i ≤ j → j < length ys → less (get_or ys j d).now (get_or ys i d).now ≡ false = sorted_far _ (ranks_by key_total (λ (b : Bor Piece). key_of b.now)) ys sorted in
    let len : length (map (λ b. b.now) ys) ≡ length ys = length-map ys _ in
    record {
      same = IsPermutation-map (λ b. b.now) xs ys same;
      rising = λ i j d l m. rw (get_or-map (λ (b : Bor Piece). b.now) ys i (lent d) d (omega arith), get_or-map (λ (b : Bor Piece). b.now) ys j (lent d) d (omega arith)) (start_low (get_or ys i (lent d)).now (get_or ys j (lent d)).now (far i j (lent d) (omega arith) (omega arith)));
      stable = λ g.
          let one : filter (at g) (map (λ b. b.now) ys) ≡ sorted_by less (filter (at g) (map (λ b. b.now) xs)) =
          is_sorted less never chain less_ranks.one_way (filter (at g) (map (λ b. b.now) xs)) (filter (at g) (map (λ b. b.now) ys))
          (stands_kept (at g) (map (λ b. b.now) ys) (stands_of ys far))
          (λ z. filter_two (level less z) (at g) (map (λ b. b.now) ys)
          ∙ ap (filter (at g)) (level_lent z ys ∙ ap (map (λ b. b.now)) (stable (lent z)) ∙ sym (level_lent z xs))
          ∙ sym (filter_two (level less z) (at g) (map (λ b. b.now) xs))) in
          ap (flat_map marked_units) (one ∙ sorted_same g (filter (at g) (map (λ b. b.now) xs)) (filter_at g (map (λ b. b.now) xs)));
    }
