-- Runs: put one behind the other, and cut.
use Rattle.std.proofs.Common.{◌≡◌, ◌≢◌, ℕ, zero, suc, ◌-◌, ◌<◌, ◌≤◌, Bool, true, false, ◌&&◌, List, [], ◌∷◌, ◌++◌, length, map, take, drop, Option, Some, Result, Ok, Err, refl, sym, ap, ◌∙◌, arith, if◌then◌else◌, append_assoc, inl, inr}
use Rattle.std.specs.Prelude.{nat_eq, nat_lt, min, slice_get, slice_index_or, slice_set, slice_range, OnOk}
use Rattle.std.specs.List.{last_or}
use Rattle.std.proofs.lemmas.Bool.{cases_Bool}
use Rattle.std.proofs.lemmas.Bool.Decides.{nat_tests}
use Rattle.std.proofs.lemmas.Grind.{flat_map-append}
use Rattle.std.proofs.lemmas.List.{append-nil, length-map, length-take, length-drop}
use Rattle.ed_layers.specs.Pieces.{component}
use Rattle.ed_pieces.specs.Arrivals.{component_if}
use Rattle.ed_layers.specs.Sending.{Run, is_same_way, trail_runs}
use Rattle.ed_pieces.specs.Runs.{run_units, text_of, BeginsOtherwise, AreRuns, run, joined_run, put_run, run_part, runs_cut}

abbrev Units : Type 0
Units = List (ℕ × List (ℕ × ℕ))

-- ---- ways

same_way_self : (a : List (ℕ × ℕ)) → is_same_way a a ≡ true
same_way_self [] = refl
same_way_self (x ∷ xs) =
    let e : nat_eq x.0 x.0 ≡ true = grind (arith, nat_tests) in
    let f : nat_eq x.1 x.1 ≡ true = grind (arith, nat_tests) in
    rw (e, f) (same_way_self xs)

pub same_way_is : (a b : List (ℕ × ℕ)) → is_same_way a b ≡ true → a ≡ b
same_way_is [] [] e = refl
same_way_is (x ∷ xs) (y ∷ ys) e =
    let f : (nat_eq x.0 y.0 ≡ true) × (nat_eq x.1 y.1 ≡ true) × (is_same_way xs ys ≡ true) = three (nat_eq x.0 y.0) (nat_eq x.1 y.1) (is_same_way xs ys) e in
    let a : x.0 ≡ y.0 = (let z : nat_eq x.0 y.0 ≡ true = f.0 in grind (arith, nat_tests)) in
    let b : x.1 ≡ y.1 = (let z : nat_eq x.1 y.1 ≡ true = f.1 in grind (arith, nat_tests)) in
    ap (λ z. (z, x.1) ∷ xs) a ∙ ap (λ z. (y.0, z) ∷ xs) b ∙ ap (λ z. y ∷ z) (same_way_is xs ys f.2)
  where
    three : (a b c : Bool) → (a && b && c) ≡ true → (a ≡ true) × (b ≡ true) × (c ≡ true)
    three true true true e = (refl, refl, refl)
    three true true false e = absurd (let z : false ≡ true = e in cc)
    three true false c e = absurd (let z : false ≡ true = e in cc)
    three false b c e = absurd (let z : false ≡ true = e in cc)
same_way_is [] (y ∷ ys) e = absurd (let z : false ≡ true = e in cc)
same_way_is (x ∷ xs) [] e = absurd (let z : false ≡ true = e in cc)

-- ---- the runs of a text that is made of runs

units_onto : (trail : List (ℕ × ℕ)) (u : ℕ) (us : List ℕ) (rest : Units) (rs : List Run) → trail_runs rest ≡ rs → BeginsOtherwise trail rs → trail_runs (map (λ v. (v, trail)) (u ∷ us) ++ rest) ≡ run trail (u ∷ us) ∷ rs
units_onto trail u [] rest [] e h = rw e refl
units_onto trail u [] rest (r ∷ rs) e h = rw (e, h) refl
units_onto trail u (v ∷ vs) rest rs e h = rw (units_onto trail v vs rest rs e h, same_way_self trail) refl

run_onto : (trail : List (ℕ × ℕ)) (us : List ℕ) (rs : List Run) → 0 < length us → BeginsOtherwise trail rs → trail_runs (text_of rs) ≡ rs → trail_runs (map (λ v. (v, trail)) us ++ text_of rs) ≡ run trail us ∷ rs
run_onto trail [] rs l h e = absurd (omega arith)
run_onto trail (u ∷ us) rs l h e = units_onto trail u us (text_of rs) rs e h

pub runs_again : (rs : List Run) → AreRuns rs → trail_runs (text_of rs) ≡ rs
runs_again [] h = refl
runs_again (r ∷ rs) h = run_onto r.trail r.units rs h.0 h.1 (runs_again rs h.2)

-- ---- one more run

abbrev tagged : List (ℕ × ℕ) → List ℕ → Units
tagged trail us = map (λ u. (u, trail)) us

tagged_nil : (trail : List (ℕ × ℕ)) (us : List ℕ) → tagged trail us ++ [] ≡ tagged trail us
tagged_nil trail us = append-nil (tagged trail us)

tagged_two : (trail : List (ℕ × ℕ)) (us vs : List ℕ) → tagged trail (us ++ vs) ≡ tagged trail us ++ tagged trail vs
tagged_two trail [] vs = refl
tagged_two trail (u ∷ us) vs = ap (λ z. (u, trail) ∷ z) (tagged_two trail us vs)

pub put_text : (rs : List Run) (trail : List (ℕ × ℕ)) (us : List ℕ) → text_of (put_run rs trail us) ≡ text_of rs ++ map (λ u. (u, trail)) us
put_text rs trail [] = sym (append-nil (text_of rs))
put_text [] trail (u ∷ us) = tagged_nil trail (u ∷ us)
put_text (r ∷ []) trail (u ∷ us) = either (is_same_way r.trail trail) refl
  where
    either : (b : Bool) → is_same_way r.trail trail ≡ b → text_of (if b then joined_run r (u ∷ us) ∷ [] else r ∷ run trail (u ∷ us) ∷ []) ≡ text_of (r ∷ []) ++ tagged trail (u ∷ us)
    either true t =
        tagged_nil r.trail (r.units ++ u ∷ us) ∙ tagged_two r.trail r.units (u ∷ us) ∙ ap (λ z. tagged r.trail r.units ++ tagged z (u ∷ us)) (same_way_is r.trail trail t)
        ∙ ap (λ z. z ++ tagged trail (u ∷ us)) (sym (tagged_nil r.trail r.units))
    either false f =
        ap (λ z. tagged r.trail r.units ++ z) (tagged_nil trail (u ∷ us)) ∙ ap (λ z. z ++ tagged trail (u ∷ us)) (sym (tagged_nil r.trail r.units))
put_text (r ∷ s ∷ rs) trail (u ∷ us) = ap (λ z. run_units r ++ z) (put_text (s ∷ rs) trail (u ∷ us)) ∙ sym (append_assoc (run_units r) (text_of (s ∷ rs)) (tagged trail (u ∷ us)))

put_begins : (before : List (ℕ × ℕ)) (s : Run) (rs : List Run) (trail : List (ℕ × ℕ)) (u : ℕ) (us : List ℕ) → is_same_way before s.trail ≡ false → BeginsOtherwise before (put_run (s ∷ rs) trail (u ∷ us))
put_begins before s [] trail u us h = elim (cases_Bool (is_same_way s.trail trail)) [
  | inl t ↦ rw t h
  | inr f ↦ rw f h
]
put_begins before s (t ∷ rs) trail u us h = h

pub put_are : (rs : List Run) (trail : List (ℕ × ℕ)) (us : List ℕ) → AreRuns rs → AreRuns (put_run rs trail us)
put_are rs trail [] h = h
put_are [] trail (u ∷ us) h = (omega arith, tt, tt)
put_are (r ∷ []) trail (u ∷ us) h = elim (cases_Bool (is_same_way r.trail trail)) [
  | inl t ↦ rw t (omega (arith, h.0, grown r.units (u ∷ us)), tt, tt)
  | inr f ↦ rw f (h.0, f, (omega arith, tt, tt))
]
  where
    grown : (xs ys : List ℕ) → length xs ≤ length (xs ++ ys)
    grown [] ys = omega arith
    grown (x ∷ xs) ys = omega (arith, grown xs ys)
put_are (r ∷ s ∷ rs) trail (u ∷ us) h = (h.0, put_begins r.trail s rs trail u us h.1, put_are (s ∷ rs) trail (u ∷ us) h.2)

-- ---- a cut

cut_none : (a : ℕ) (b : ℕ) (rs : List Run) → b ≡ 0 → runs_cut a b rs ≡ []
cut_none a b [] e = refl
cut_none a b (r ∷ rs) e =
    let f : nat_lt a (min b (length r.units)) ≡ false = grind (arith, nat_tests) in
    rw f (cut_none (a - length r.units) (b - length r.units) rs (omega arith))

cut_begins : (trail : List (ℕ × ℕ)) (a b : ℕ) (rs : List Run) → a ≡ 0 → AreRuns rs → BeginsOtherwise trail rs → BeginsOtherwise trail (runs_cut a b rs)
cut_begins trail a b [] e are h = tt
cut_begins trail a b (r ∷ rs) e are h = elim (cases_Bool (nat_lt a (min b (length r.units)))) [
  | inl t ↦ rw t h
  | inr f ↦
      let some : 0 < length r.units = are.0 in
      let z : b ≡ 0 = grind (arith, nat_tests) in
      rw (f, cut_none (a - length r.units) (b - length r.units) rs (omega arith)) tt
]

pub cut_are : (a b : ℕ) (rs : List Run) → AreRuns rs → AreRuns (runs_cut a b rs)
cut_are a b [] h = tt
cut_are a b (r ∷ rs) h = elim (cases_Bool (nat_lt a (min b (length r.units)))) [
  | inl t ↦
      let l : a < min b (length r.units) = grind (arith, nat_tests) in
      let size : 0 < length (slice_range r.units a (min b (length r.units))) = omega (arith, length-take (min b (length r.units) - a) (drop a r.units), length-drop a r.units) in
      rw t (size, cut_begins r.trail (a - length r.units) (b - length r.units) rs (omega arith) h.2 h.1, cut_are (a - length r.units) (b - length r.units) rs h.2)
  | inr f ↦ rw f (cut_are (a - length r.units) (b - length r.units) rs h.2)
]

-- a slice of two lists
nil_take : {X : Type 0} (n : ℕ) (xs : List X) → xs ≡ [] → take n xs ≡ []
nil_take zero xs e = refl
nil_take (suc n) [] e = refl
nil_take (suc n) (x ∷ xs) e = cc

nil_drop : {X : Type 0} (n : ℕ) (xs : List X) → xs ≡ [] → drop n xs ≡ []
nil_drop zero xs e = e
nil_drop (suc n) [] e = refl
nil_drop (suc n) (x ∷ xs) e = cc

drop_two : {X : Type 0} (a : ℕ) (xs ys : List X) → drop a (xs ++ ys) ≡ drop a xs ++ drop (a - length xs) ys
drop_two zero xs ys = ap (λ n. xs ++ drop n ys) (let e : 0 ≡ 0 - length xs = omega arith in e)
drop_two {X = X} (suc a) [] ys = ap (λ n. drop n ys) (let e : suc a ≡ suc a - length {A = X} [] = omega arith in e)
drop_two (suc a) (x ∷ xs) ys = drop_two a xs ys ∙ ap (λ n. drop a xs ++ drop n ys) (let e : a - length xs ≡ suc a - length (x ∷ xs) = omega arith in e)

take_two : {X : Type 0} (n : ℕ) (xs ys : List X) → take n (xs ++ ys) ≡ take n xs ++ take (n - length xs) ys
take_two zero xs ys = ap (λ k. take k ys) (let e : 0 ≡ 0 - length xs = omega arith in e)
take_two {X = X} (suc n) [] ys = ap (λ k. take k ys) (let e : suc n ≡ suc n - length {A = X} [] = omega arith in e)
take_two (suc n) (x ∷ xs) ys = ap (λ z. x ∷ z) (take_two n xs ys ∙ ap (λ k. take n xs ++ take k ys) (let e : n - length xs ≡ suc n - length (x ∷ xs) = omega arith in e))

take_more : {X : Type 0} (n m : ℕ) (xs : List X) → min n (length xs) ≡ min m (length xs) → take n xs ≡ take m xs
take_more zero zero xs e = refl
take_more {X = X} n m [] e = nil_take {X = X} n [] refl ∙ sym (nil_take {X = X} m [] refl)
take_more zero (suc m) (x ∷ xs) e = absurd (omega arith)
take_more (suc n) zero (x ∷ xs) e = absurd (omega arith)
take_more (suc n) (suc m) (x ∷ xs) e = ap (λ z. x ∷ z) (take_more n m xs (omega arith))

slice_two : {X : Type 0} (a b : ℕ) (xs ys : List X) → slice_range (xs ++ ys) a b ≡ slice_range xs a (min b (length xs)) ++ slice_range ys (a - length xs) (b - length xs)
slice_two a b xs ys =
    let n : length (drop a xs) ≡ length xs - a = length-drop a xs in
    let front : take (b - a) (drop a xs) ≡ take (min b (length xs) - a) (drop a xs) = take_more (b - a) (min b (length xs) - a) (drop a xs) (omega arith) in
    let back : take (b - a - length (drop a xs)) (drop (a - length xs) ys) ≡ take (b - length xs - (a - length xs)) (drop (a - length xs) ys) =
    ap (λ k. take k (drop (a - length xs) ys)) (let e : b - a - length (drop a xs) ≡ b - length xs - (a - length xs) = omega arith in e) in
    ap (λ z. take (b - a) z) (drop_two a xs ys) ∙ take_two (b - a) (drop a xs) (drop (a - length xs) ys) ∙ rw (front, back) refl

map_take : {X Y : Type 0} (f : X → Y) (n : ℕ) (xs : List X) → map f (take n xs) ≡ take n (map f xs)
map_take f zero xs = refl
map_take f (suc n) [] = refl
map_take f (suc n) (x ∷ xs) = ap (λ z. f x ∷ z) (map_take f n xs)

map_drop : {X Y : Type 0} (f : X → Y) (n : ℕ) (xs : List X) → map f (drop n xs) ≡ drop n (map f xs)
map_drop f zero xs = refl
map_drop f (suc n) [] = refl
map_drop f (suc n) (x ∷ xs) = map_drop f n xs

part_text : (r : Run) (a b : ℕ) → text_of (run_part r a b) ≡ slice_range (run_units r) a b
part_text r a b = either (nat_lt a b) refl
  where
    either : (c : Bool) → nat_lt a b ≡ c → text_of (if c then run r.trail (slice_range r.units a b) ∷ [] else []) ≡ slice_range (run_units r) a b
    either true t = tagged_nil r.trail (slice_range r.units a b) ∙ map_take (λ (v : ℕ). (v, r.trail)) (b - a) (drop a r.units) ∙ ap (λ z. take (b - a) z) (map_drop (λ (v : ℕ). (v, r.trail)) a r.units)
    either false f = ap (λ n. take n (drop a (run_units r))) (let z : 0 ≡ b - a = grind (arith, nat_tests) in z)

pub cut_text : (a b : ℕ) (rs : List Run) → text_of (runs_cut a b rs) ≡ slice_range (text_of rs) a b
cut_text a b [] = sym (nil_take (b - a) (drop a (text_of [])) (nil_drop a (text_of []) refl))
cut_text a b (r ∷ rs) =
    let n : length (run_units r) ≡ length r.units = length-map r.units (λ (v : ℕ). (v, r.trail)) in
    let here : text_of (run_part r a (min b (length r.units))) ≡ slice_range (run_units r) a (min b (length (run_units r))) = part_text r a (min b (length r.units)) ∙ ap (λ k. slice_range (run_units r) a (min b k)) (sym n) in
    let later : text_of (runs_cut (a - length r.units) (b - length r.units) rs) ≡ slice_range (text_of rs) (a - length (run_units r)) (b - length (run_units r)) = cut_text (a - length r.units) (b - length r.units) rs ∙ ap (λ k. slice_range (text_of rs) (a - k) (b - k)) (sym n) in
    flat_map-append run_units (run_part r a (min b (length r.units))) (runs_cut (a - length r.units) (b - length r.units) rs) ∙ rw (here, later) (sym (slice_two a b (run_units r) (text_of rs)))

-- the runs of a cut are the cut of the runs
pub cut_runs : (a b : ℕ) (rs : List Run) → AreRuns rs → runs_cut a b rs ≡ trail_runs (slice_range (text_of rs) a b)
cut_runs a b rs h = sym (runs_again (runs_cut a b rs) (cut_are a b rs h)) ∙ ap trail_runs (cut_text a b rs)

-- ---- ways, pair by pair

pub other_len : (a b : List (ℕ × ℕ)) → length a ≢ length b → is_same_way a b ≡ false
other_len [] [] ne = absurd (ne refl)
other_len [] (y ∷ ys) ne = refl
other_len (x ∷ xs) [] ne = refl
other_len (x ∷ xs) (y ∷ ys) ne = rw (other_len xs ys (λ e. ne (omega (arith, e)))) (grind arith)

-- ---- a component of runs

pub closed : (i e : ℕ) (rs : List Run) → AreRuns rs → (nat_eq i e && nat_eq (length rs) 0) ≡ false → component_if i e (text_of rs) ≡ component i (e - i) (text_of rs) ∷ []
closed i e [] are none = elim (cases_Bool (nat_eq i e)) [
  | inl t ↦ absurd (let w : true ≡ false = rw t at none in cc)
  | inr f ↦ rw f refl
]
closed i e (r ∷ rs) are none = some r.units are.0
  where
    some : (us : List ℕ) → 0 < length us → component_if i e (map (λ u. (u, r.trail)) us ++ text_of rs) ≡ component i (e - i) (map (λ u. (u, r.trail)) us ++ text_of rs) ∷ []
    some [] l = absurd (omega arith)
    some (u ∷ us) l = refl

-- ---- the last element

pub last_get : {X : Type 0} (o : Option X) (xs : List X) (x : X) → slice_get xs (length xs - 1) ≡ Some x → last_or o xs ≡ Some x
last_get o [] x h = cc
last_get o (a ∷ []) x h = h
last_get o (a ∷ b ∷ xs) x h =
    let e : suc (length xs) - 1 ≡ length xs = omega arith in
    let f : suc (suc (length xs)) - 1 ≡ suc (length xs) = omega arith in
    last_get (Some a) (b ∷ xs) x (rw e (rw f at h))

-- ---- whether a component does something

pub not_same : (i e : ℕ) (rs : List Run) → i ≢ e → (nat_eq i e && nat_eq (length rs) 0) ≡ false
not_same i e rs ne = let f : nat_eq i e ≡ false = grind (arith, nat_tests) in rw f refl

pub not_none : (i e : ℕ) (rs : List Run) → length rs ≢ 0 → (nat_eq i e && nat_eq (length rs) 0) ≡ false
not_none i e [] ne = absurd (ne refl)
not_none i e (r ∷ rs) ne = elim (cases_Bool (nat_eq i e)) [
  | inl t ↦ rw t (let z : nat_eq (suc (length rs)) 0 ≡ false = grind (arith, nat_tests) in z)
  | inr f ↦ rw f refl
]

-- ---- the last run

pub put_last : (rs : List Run) (r : Run) (trail : List (ℕ × ℕ)) (us : List ℕ) → 0 < length us → slice_get rs (length rs - 1) ≡ Some r → is_same_way r.trail trail ≡ false → rs ++ run trail us ∷ [] ≡ put_run rs trail us
put_last rs r trail [] l is f = absurd (omega arith)
put_last [] r trail (u ∷ us) l is f = refl
put_last (s ∷ []) r trail (u ∷ us) l is f =
    let e : s ≡ r = cc in
    let g : is_same_way s.trail trail ≡ false = ap (λ z. is_same_way z.trail trail) e ∙ f in
    rw g refl
put_last (s ∷ t ∷ rs) r trail (u ∷ us) l is f =
    let e : suc (length rs) - 1 ≡ length rs = omega arith in
    let h : suc (suc (length rs)) - 1 ≡ suc (length rs) = omega arith in
    ap (λ z. s ∷ z) (put_last (t ∷ rs) r trail (u ∷ us) l (rw e (rw h at is)) f)

get_there : {X : Type 0} (xs : List X) (k : ℕ) (d : X) → k < length xs → slice_get xs k ≡ Some (slice_index_or xs k d)
get_there [] k d l = absurd (omega arith)
get_there (x ∷ xs) zero d l = refl
get_there (x ∷ xs) (suc k) d l = get_there xs k d (omega arith)

pub at_last : {X : Type 0} (xs : List X) (n : ℕ) (x : X) → n ≡ length xs → 0 < n → x ≡ slice_index_or xs (n - 1) x → slice_get xs (length xs - 1) ≡ Some x
at_last xs n x e l is = get_there xs (length xs - 1) x (omega arith) ∙ ap Some (ap (λ m. slice_index_or xs m x) (let f : length xs - 1 ≡ n - 1 = omega arith in f) ∙ sym is)

pub put_joined : (rs : List Run) (r : Run) (trail : List (ℕ × ℕ)) (us : List ℕ) → 0 < length us → slice_get rs (length rs - 1) ≡ Some r → is_same_way r.trail trail ≡ true → slice_set rs (length rs - 1) (joined_run r us) ≡ put_run rs trail us
put_joined rs r trail [] l is f = absurd (omega arith)
put_joined [] r trail (u ∷ us) l is f = cc
put_joined (s ∷ []) r trail (u ∷ us) l is f =
    let e : s ≡ r = cc in
    let g : is_same_way s.trail trail ≡ true = ap (λ z. is_same_way z.trail trail) e ∙ f in
    rw g (ap (λ z. joined_run z (u ∷ us) ∷ []) (sym e))
put_joined (s ∷ t ∷ rs) r trail (u ∷ us) l is f =
    let e : suc (length rs) - 1 ≡ length rs = omega arith in
    let h : suc (suc (length rs)) - 1 ≡ suc (length rs) = omega arith in
    let next : slice_set (t ∷ rs) (length rs) (joined_run r (u ∷ us)) ≡ put_run (t ∷ rs) trail (u ∷ us) = rw e at (put_joined (t ∷ rs) r trail (u ∷ us) l (rw e (rw h at is)) f) in
    rw h (ap (λ z. s ∷ z) next)

pub put_first : (rs : List Run) (trail : List (ℕ × ℕ)) (us : List ℕ) → 0 < length us → length rs ≡ 0 → rs ++ run trail us ∷ [] ≡ put_run rs trail us
put_first [] trail [] l e = absurd (omega arith)
put_first [] trail (u ∷ us) l e = refl
put_first (r ∷ rs) trail us l e = absurd (omega arith)

pub set_again : {X : Type 0} (xs : List X) (k : ℕ) (x : X) → slice_get xs k ≡ Some x → slice_set xs k x ≡ xs
set_again [] k x is = cc
set_again (y ∷ ys) zero x is = ap (λ z. z ∷ ys) (let e : x ≡ y = cc in e)
set_again (y ∷ ys) (suc k) x is = ap (λ zs. y ∷ zs) (set_again ys k x is)

pub on_ok : {T E P Q : Type 0} (r : Result T E) → (P → Q) → OnOk r P → OnOk r Q
on_ok (Ok x) f h = f h
on_ok (Err e) f h = h
