-- What a normal change list does to a text, run by run, and what its step keeps.
use Rattle.std.proofs.Common.{◌≡◌, ℕ, zero, suc, ◌+◌, ◌-◌, ◌<◌, ◌≤◌, Bool, true, false, List, [], ◌∷◌, ◌++◌, length, map, take, drop, Option, Some, None, refl, sym, ap, ◌∙◌, arith, length-append}
use Rattle.std.specs.List.{range_with_len}
use Rattle.std.proofs.lemmas.List.{append-nil, take-append-drop, drop-drop, length-drop, length-take, length-map}
use Rattle.std.proofs.lemmas.List.FromFn.{length-range_with_len}
use Rattle.std.proofs.lemmas.Bool.Decides.{nat_tests}
use Rattle.ed_base.specs.declared.edit.Change.{Change}
use Rattle.ed_base.specs.declared.edit.Replace.{Replace}
use Rattle.ed_base.specs.Edit.{woven, inserted_at, is_deleted, origins}
use Rattle.ed_base.specs.Step.{pairs_from}
use Rattle.ed_base.specs.ChangeList.{ChangeList, AreNormalFrom, step, new_len}
use Rattle.ed_base.proofs.NormalLists.{normal_earlier, end_from, new_len_is_end}

-- the changes as an edit
abbrev pub edit_of : List Change → List Replace
edit_of cs = map (λ x. record { start = x.start; len = x.old_len; text = x.text }) cs

-- Before the first change of a list nothing is put in or deleted.
pub inserted_before : (p q n : ℕ) (cs : List Change) → p < q → AreNormalFrom q n cs → inserted_at (edit_of cs) p ≡ []
inserted_before p q n [] below normal = refl
inserted_before p q n (c ∷ cs) below normal =
    let rest : inserted_at (edit_of cs) p ≡ [] = inserted_before p (c.start + c.old_len + 1) n cs (omega (arith, normal.0)) normal.3 in
    grind (arith, nat_tests, normal.0)

pub deleted_before : (p q n : ℕ) (cs : List Change) → p < q → AreNormalFrom q n cs → is_deleted (edit_of cs) p ≡ false
deleted_before p q n [] below normal = refl
deleted_before p q n (c ∷ cs) below normal =
    let rest : is_deleted (edit_of cs) p ≡ false = deleted_before p (c.start + c.old_len + 1) n cs (omega (arith, normal.0)) normal.3 in
    grind (arith, nat_tests, normal.0)

-- At the first change its text is put in, and behind that place what the others put in.
pub inserted_first : (n : ℕ) (c : Change) (cs : List Change) → AreNormalFrom (c.start + c.old_len + 1) n cs → inserted_at (edit_of (c ∷ cs)) c.start ≡ c.text
inserted_first n c cs normal =
    let rest : inserted_at (edit_of cs) c.start ≡ [] = inserted_before c.start (c.start + c.old_len + 1) n cs (omega arith) normal in
    grind (arith, nat_tests, append-nil)

pub inserted_behind : (p : ℕ) (c : Change) (cs : List Change) → c.start < p → inserted_at (edit_of (c ∷ cs)) p ≡ inserted_at (edit_of cs) p
inserted_behind p c cs behind = grind (arith, nat_tests)

pub deleted_first : (p : ℕ) (c : Change) (cs : List Change) → c.start ≤ p → p < c.start + c.old_len → is_deleted (edit_of (c ∷ cs)) p ≡ true
deleted_first p c cs above below = grind (arith, nat_tests)

pub deleted_behind : (p : ℕ) (c : Change) (cs : List Change) → c.start + c.old_len ≤ p → is_deleted (edit_of (c ∷ cs)) p ≡ is_deleted (edit_of cs) p
deleted_behind p c cs behind = grind (arith, nat_tests)

-- Weaving sees what is put in and what is gone from its place on alone.
pub woven_same : {X : Type 0} (put put' : ℕ → List X) (gone gone' : ℕ → Bool) (p : ℕ) (xs : List X) → ((q : ℕ) → p ≤ q → put q ≡ put' q) → ((q : ℕ) → p ≤ q → gone q ≡ gone' q) → woven put gone p xs ≡ woven put' gone' p xs
woven_same put put' gone gone' p [] puts goes = puts p (omega arith)
woven_same put put' gone gone' p (x ∷ xs) puts goes =
    let rest : woven put gone (p + 1) xs ≡ woven put' gone' (p + 1) xs = woven_same put put' gone gone' (p + 1) xs (λ q above. puts q (omega arith)) (λ q above. goes q (omega arith)) in
    rw (puts p (omega arith), goes p (omega arith), rest) refl

-- Where nothing is put in and nothing is gone, the elements stay.
pub woven_keeps : {X : Type 0} (put : ℕ → List X) (gone : ℕ → Bool) (p : ℕ) (xs ys : List X) → ((q : ℕ) → p ≤ q → q < p + length xs → put q ≡ []) → ((q : ℕ) → p ≤ q → q < p + length xs → gone q ≡ false) → woven put gone p (xs ++ ys) ≡ xs ++ woven put gone (p + length xs) ys
woven_keeps {X = X} put gone p [] ys puts goes = rw (let z : p + length {A = X} [] ≡ p = omega arith in z) refl
woven_keeps put gone p (x ∷ xs) ys puts goes =
    let rest : woven put gone (p + 1) (xs ++ ys) ≡ xs ++ woven put gone (p + 1 + length xs) ys = woven_keeps put gone (p + 1) xs ys (λ q above below. puts q (omega arith) (omega arith)) (λ q above below. goes q (omega arith) (omega arith)) in
    let here : p + 1 + length xs ≡ p + length (x ∷ xs) = omega arith in
    rw (puts p (omega arith) (omega arith), goes p (omega arith) (omega arith), rest, here) refl

-- Where nothing is put in and all are gone, none is left.
pub woven_drops : {X : Type 0} (put : ℕ → List X) (gone : ℕ → Bool) (p : ℕ) (xs ys : List X) → ((q : ℕ) → p ≤ q → q < p + length xs → put q ≡ []) → ((q : ℕ) → p ≤ q → q < p + length xs → gone q ≡ true) → woven put gone p (xs ++ ys) ≡ woven put gone (p + length xs) ys
woven_drops {X = X} put gone p [] ys puts goes = rw (let z : p + length {A = X} [] ≡ p = omega arith in z) refl
woven_drops put gone p (x ∷ xs) ys puts goes =
    let rest : woven put gone (p + 1) (xs ++ ys) ≡ woven put gone (p + 1 + length xs) ys = woven_drops put gone (p + 1) xs ys (λ q above below. puts q (omega arith) (omega arith)) (λ q above below. goes q (omega arith) (omega arith)) in
    let here : p + 1 + length xs ≡ p + length (x ∷ xs) = omega arith in
    rw (puts p (omega arith) (omega arith), goes p (omega arith) (omega arith), rest, here) refl

-- What is put in at the place itself stands first.
pub woven_puts : {X : Type 0} (put put' : ℕ → List X) (gone : ℕ → Bool) (p : ℕ) (xs : List X) → put' p ≡ [] → ((q : ℕ) → p < q → put q ≡ put' q) → woven put gone p xs ≡ put p ++ woven put' gone p xs
woven_puts put put' gone p [] here later = rw (here, append-nil) refl
woven_puts put put' gone p (x ∷ xs) here later =
    let rest : woven put gone (p + 1) xs ≡ woven put' gone (p + 1) xs = woven_same put put' gone gone (p + 1) xs (λ q above. later q (omega arith)) (λ q above. refl) in
    rw (here, rest) refl

-- The same run by run, from place i on: what is kept before a change, what the change puts in, and what stands behind it. `give` says what units that were put in stand for.
module _ {X : Type 0} (give : List ℕ → List X) where
  abbrev pub spliced : ℕ → List Change → List X → List X
  spliced i [] xs = xs
  spliced i (c ∷ cs) xs = take (c.start - i) xs ++ (give c.text ++ spliced (c.start + c.old_len) cs (drop (c.start - i + c.old_len) xs))

  abbrev woven_by : List Change → ℕ → List X → List X
  woven_by cs i xs = woven (λ p. give (inserted_at (edit_of cs) p)) (is_deleted (edit_of cs)) i xs

  module _ (none : give [] ≡ []) where
    -- what no change touches stays
    woven_rest : (i : ℕ) (xs : List X) → woven_by [] i xs ≡ xs
    woven_rest i xs =
        let run : woven_by [] i (xs ++ []) ≡ xs ++ woven_by [] (i + length xs) [] = woven_keeps (λ p. give []) (λ p. false) i xs [] (λ q above below. none) (λ q above below. refl) in
        ap (woven_by [] i) (sym (append-nil xs)) ∙ run ∙ ap (λ zs. xs ++ zs) none ∙ append-nil xs

    -- up to the first change
    woven_run : (i n : ℕ) (c : Change) (cs : List Change) (xs ys : List X) → i + length xs ≡ c.start → AreNormalFrom i n (c ∷ cs) → woven_by (c ∷ cs) i (xs ++ ys) ≡ xs ++ woven_by (c ∷ cs) c.start ys
    woven_run i n c cs xs ys reach normal =
        let from : AreNormalFrom c.start n (c ∷ cs) = (omega arith, normal.1, normal.2, normal.3) in
        let run : woven_by (c ∷ cs) i (xs ++ ys) ≡ xs ++ woven_by (c ∷ cs) (i + length xs) ys =
        woven_keeps (λ p. give (inserted_at (edit_of (c ∷ cs)) p)) (is_deleted (edit_of (c ∷ cs))) i xs ys
        (λ q above below. ap give (inserted_before q c.start n (c ∷ cs) (omega arith) from) ∙ none)
        (λ q above below. deleted_before q c.start n (c ∷ cs) (omega arith) from) in
        run ∙ ap (λ p. xs ++ woven_by (c ∷ cs) p ys) reach

    -- at the change
    woven_change : (n : ℕ) (c : Change) (cs : List Change) (xs ys : List X) → length xs ≡ c.old_len → AreNormalFrom (c.start + c.old_len + 1) n cs → woven_by (c ∷ cs) c.start (xs ++ ys) ≡ give c.text ++ woven_by cs (c.start + c.old_len) ys
    woven_change n c cs xs ys size normal =
        let put : ℕ → List X = λ p. give (inserted_at (edit_of (c ∷ cs)) p) in
        let put' : ℕ → List X = λ p. give (inserted_at (edit_of cs) p) in
        let gone : ℕ → Bool = is_deleted (edit_of (c ∷ cs)) in
        let first : woven put gone c.start (xs ++ ys) ≡ put c.start ++ woven put' gone c.start (xs ++ ys) =
        woven_puts put put' gone c.start (xs ++ ys) (ap give (inserted_before c.start (c.start + c.old_len + 1) n cs (omega arith) normal) ∙ none)
        (λ q behind. ap give (inserted_behind q c cs behind)) in
        let over : woven put' gone c.start (xs ++ ys) ≡ woven put' gone (c.start + length xs) ys =
        woven_drops put' gone c.start xs ys
        (λ q above below. ap give (inserted_before q (c.start + c.old_len + 1) n cs (omega arith) normal) ∙ none)
        (λ q above below. deleted_first q c cs above (omega arith)) in
        let then : woven put' gone (c.start + c.old_len) ys ≡ woven put' (is_deleted (edit_of cs)) (c.start + c.old_len) ys =
        woven_same put' put' gone (is_deleted (edit_of cs)) (c.start + c.old_len) ys (λ q above. refl) (λ q above. deleted_behind q c cs above) in
        first ∙ ap (λ zs. zs ++ woven put' gone c.start (xs ++ ys)) (ap give (inserted_first n c cs normal)) ∙ ap (λ zs. give c.text ++ zs) (over ∙ ap (λ p. woven put' gone p ys) (ap (λ d. c.start + d) size) ∙ then)

    pub woven_spliced : (i n : ℕ) (cs : List Change) (xs : List X) → i + length xs ≡ n → AreNormalFrom i n cs → woven_by cs i xs ≡ spliced i cs xs
    woven_spliced i n [] xs size normal = woven_rest i xs
    woven_spliced i n (c ∷ cs) xs size normal =
        let k : ℕ = c.start - i in
        let front : List X = take k xs in
        let behind : List X = drop k xs in
        let whole : front ++ (take c.old_len behind ++ drop c.old_len behind) ≡ xs = ap (λ zs. front ++ zs) (take-append-drop c.old_len behind) ∙ take-append-drop k xs in
        let reach : i + length front ≡ c.start = omega (arith, length-take k xs, normal.0, normal.1) in
        let size_gone : length (take c.old_len behind) ≡ c.old_len = omega (arith, length-take c.old_len behind, length-drop k xs, normal.0, normal.1) in
        let size_rest : c.start + c.old_len + length (drop (k + c.old_len) xs) ≡ n = omega (arith, length-drop (k + c.old_len) xs, normal.0, normal.1) in
        let run : woven_by (c ∷ cs) i (front ++ (take c.old_len behind ++ drop c.old_len behind)) ≡ front ++ woven_by (c ∷ cs) c.start (take c.old_len behind ++ drop c.old_len behind) =
        woven_run i n c cs front (take c.old_len behind ++ drop c.old_len behind) reach normal in
        let here : woven_by (c ∷ cs) c.start (take c.old_len behind ++ drop c.old_len behind) ≡ give c.text ++ woven_by cs (c.start + c.old_len) (drop c.old_len behind) =
        woven_change n c cs (take c.old_len behind) (drop c.old_len behind) size_gone normal.3 in
        let rest : woven_by cs (c.start + c.old_len) (drop (k + c.old_len) xs) ≡ spliced (c.start + c.old_len) cs (drop (k + c.old_len) xs) =
        woven_spliced (c.start + c.old_len) n cs (drop (k + c.old_len) xs) size_rest (normal_earlier (c.start + c.old_len) (c.start + c.old_len + 1) n cs (omega arith) normal.3) in
        let joined : drop c.old_len behind ≡ drop (k + c.old_len) xs = drop-drop c.old_len k xs in
        ap (λ zs. woven_by (c ∷ cs) i zs) (sym whole) ∙ run ∙ ap (λ zs. front ++ zs) (here ∙ ap (λ zs. give c.text ++ zs) (ap (λ zs. woven_by cs (c.start + c.old_len) zs) joined ∙ rest))

-- k pairs in a row, from old place i and new place j on
abbrev pub run : ℕ → ℕ → ℕ → List (ℕ × ℕ)
run i j zero = []
run i j (suc k) = (i, j) ∷ run (i + 1) (j + 1) k

-- the kept pairs from old place i and new place j up to the end n of the old text
abbrev pub kept_from : ℕ → ℕ → ℕ → List Change → List (ℕ × ℕ)
kept_from i j n [] = run i j (n - i)
kept_from i j n (c ∷ cs) = run i j (c.start - i) ++ kept_from (c.start + c.old_len) (j + (c.start - i) + length c.text) n cs

-- the units of k old places from i on
abbrev pub olds : ℕ → ℕ → List (Option ℕ)
olds i k = map (λ p. Some p) (range_with_len i k)

-- no old place
abbrev pub unplaced : List ℕ → List (Option ℕ)
unplaced units = map (λ u. None) units

length_olds : (i k : ℕ) → length (olds i k) ≡ k
length_olds i k = length-map (range_with_len i k) (λ p. Some p) ∙ length-range_with_len i k

take_olds : (i k m : ℕ) → take k (olds i (k + m)) ≡ olds i k
take_olds i zero m = refl
take_olds i (suc k) m = rw (let s : suc k + m ≡ suc (k + m) = omega arith in s) (ap (λ xs. Some i ∷ xs) (take_olds (i + 1) k m))

drop_olds : (i k m : ℕ) → drop k (olds i (k + m)) ≡ olds (i + k) m
drop_olds i zero m = rw (let z : 0 + m ≡ m = omega arith in z, let y : i + 0 ≡ i = omega arith in y) refl
drop_olds i (suc k) m = rw (let s : suc k + m ≡ suc (k + m) = omega arith in s) (drop_olds (i + 1) k m ∙ ap (λ p. olds p m) (let e : i + 1 + k ≡ i + suc k = omega arith in e))

pub pairs_append : (q : ℕ) (xs ys : List (Option ℕ)) → pairs_from q (xs ++ ys) ≡ pairs_from q xs ++ pairs_from (q + length xs) ys
pairs_append q [] ys = ap (λ p. pairs_from p ys) (let e : q ≡ q + length {A = Option ℕ} [] = omega arith in e)
pairs_append q (None ∷ xs) ys = pairs_append (q + 1) xs ys ∙ ap (λ p. pairs_from (q + 1) xs ++ pairs_from p ys) (omega arith)
pairs_append q (Some x ∷ xs) ys = ap (λ zs. (x, q) ∷ zs) (pairs_append (q + 1) xs ys ∙ ap (λ p. pairs_from (q + 1) xs ++ pairs_from p ys) (omega arith))

pub pairs_olds : (i j k : ℕ) → pairs_from j (olds i k) ≡ run i j k
pairs_olds i j zero = refl
pairs_olds i j (suc k) = ap (λ zs. (i, j) ∷ zs) (pairs_olds (i + 1) (j + 1) k)

pub pairs_unplaced : (q : ℕ) (units : List ℕ) → pairs_from q (unplaced units) ≡ []
pairs_unplaced q [] = refl
pairs_unplaced q (u ∷ us) = pairs_unplaced (q + 1) us

-- the kept pairs of what is left of a normal list
pairs_spliced : (i j n : ℕ) (cs : List Change) → i ≤ n → AreNormalFrom i n cs → pairs_from j (spliced unplaced i cs (olds i (n - i))) ≡ kept_from i j n cs
pairs_spliced i j n [] within normal = pairs_olds i j (n - i)
pairs_spliced i j n (c ∷ cs) within normal =
    let k : ℕ = c.start - i in
    let e : ℕ = c.start + c.old_len in
    let all : n - i ≡ k + (n - c.start) = omega (arith, normal.0, normal.1) in
    let cut : n - i ≡ (k + c.old_len) + (n - e) = omega (arith, normal.0, normal.1) in
    let at : i + (k + c.old_len) ≡ e = omega (arith, normal.0) in
    let front : take k (olds i (n - i)) ≡ olds i k = ap (λ m. take k (olds i m)) all ∙ take_olds i k (n - c.start) in
    let behind : drop (k + c.old_len) (olds i (n - i)) ≡ olds e (n - e) = ap (λ m. drop (k + c.old_len) (olds i m)) cut ∙ drop_olds i (k + c.old_len) (n - e) ∙ ap (λ p. olds p (n - e)) at in
    let rest : pairs_from (j + k + length c.text) (spliced unplaced e cs (olds e (n - e))) ≡ kept_from e (j + k + length c.text) n cs =
    pairs_spliced e (j + k + length c.text) n cs normal.1 (normal_earlier e (e + 1) n cs (omega arith) normal.3) in
    let put : pairs_from (j + k) (unplaced c.text ++ spliced unplaced e cs (olds e (n - e))) ≡ kept_from e (j + k + length c.text) n cs =
    pairs_append (j + k) (unplaced c.text) (spliced unplaced e cs (olds e (n - e)))
    ∙ ap (λ zs. zs ++ pairs_from (j + k + length (unplaced c.text)) (spliced unplaced e cs (olds e (n - e)))) (pairs_unplaced (j + k) c.text)
    ∙ ap (λ m. pairs_from (j + k + m) (spliced unplaced e cs (olds e (n - e)))) (length-map c.text (λ u. None)) ∙ rest in
    ap (λ xs. pairs_from j (xs ++ (unplaced c.text ++ spliced unplaced e cs (drop (k + c.old_len) (olds i (n - i)))))) front
    ∙ ap (λ xs. pairs_from j (olds i k ++ (unplaced c.text ++ spliced unplaced e cs xs))) behind
    ∙ pairs_append j (olds i k) (unplaced c.text ++ spliced unplaced e cs (olds e (n - e)))
    ∙ ap (λ xs. xs ++ pairs_from (j + length (olds i k)) (unplaced c.text ++ spliced unplaced e cs (olds e (n - e)))) (pairs_olds i j k)
    ∙ ap (λ m. run i j k ++ pairs_from (j + m) (unplaced c.text ++ spliced unplaced e cs (olds e (n - e)))) (length_olds i k)
    ∙ ap (λ xs. run i j k ++ xs) put

-- the length of what is left, where each unit that is put in stands for itself
pub length_spliced : {X : Type 0} (give : List ℕ → List X) → ((t : List ℕ) → length (give t) ≡ length t) → (i j : ℕ) (cs : List Change) (xs : List X) → AreNormalFrom i (i + length xs) cs → j + length (spliced give i cs xs) ≡ end_from i j (i + length xs) cs
length_spliced give same i j [] xs normal = omega arith
length_spliced give same i j (c ∷ cs) xs normal =
    let k : ℕ = c.start - i in
    let e : ℕ = c.start + c.old_len in
    let behind = drop (k + c.old_len) xs in
    let ends : e + length behind ≡ i + length xs = omega (arith, length-drop (k + c.old_len) xs, normal.0, normal.1) in
    let later : AreNormalFrom e (e + length behind) cs = normal_earlier e (e + 1) (e + length behind) cs (omega arith) (rw ends normal.3) in
    let rest : (j + k + length c.text) + length (spliced give e cs behind) ≡ end_from e (j + k + length c.text) (e + length behind) cs = length_spliced give same e (j + k + length c.text) cs behind later in
    let sizes : j + length (take k xs ++ (give c.text ++ spliced give e cs behind)) ≡ (j + k + length c.text) + length (spliced give e cs behind) =
    omega (arith, length-append (take k xs) (give c.text ++ spliced give e cs behind), length-append (give c.text) (spliced give e cs behind), same c.text, length-take k xs, normal.0, normal.1) in
    sizes ∙ rest ∙ ap (λ m. end_from e (j + k + length c.text) m cs) ends

-- Where the units of the new text come from.
pub normal_origins : (n : ℕ) (cs : List Change) → AreNormalFrom 0 n cs → origins (edit_of cs) n ≡ spliced unplaced 0 cs (olds 0 n)
normal_origins n cs normal = woven_spliced unplaced refl 0 n cs (olds 0 n) (omega (arith, length_olds 0 n)) normal

-- What the step of a normal list keeps, and the new length.
pub normal_kept : (c : ChangeList) → AreNormalFrom 0 c.old_len c.changes → (step c).kept ≡ kept_from 0 0 c.old_len c.changes
normal_kept c normal =
    ap (λ xs. pairs_from 0 xs) (normal_origins c.old_len c.changes normal)
    ∙ ap (λ m. pairs_from 0 (spliced unplaced 0 c.changes (olds 0 m))) (let e : c.old_len ≡ c.old_len - 0 = omega arith in e)
    ∙ pairs_spliced 0 0 c.old_len c.changes (omega arith) normal

pub normal_new_len : (c : ChangeList) → AreNormalFrom 0 c.old_len c.changes → (step c).new_len ≡ new_len c
normal_new_len c normal =
    let size : 0 + length (olds 0 c.old_len) ≡ c.old_len = omega (arith, length_olds 0 c.old_len) in
    let within : AreNormalFrom 0 (0 + length (olds 0 c.old_len)) c.changes = rw size normal in
    let sum : 0 + length (spliced unplaced 0 c.changes (olds 0 c.old_len)) ≡ end_from 0 0 (0 + length (olds 0 c.old_len)) c.changes =
    length_spliced unplaced (λ t. length-map t (λ u. None)) 0 0 c.changes (olds 0 c.old_len) within in
    ap (λ xs. length xs) (normal_origins c.old_len c.changes normal)
    ∙ (let e : length (spliced unplaced 0 c.changes (olds 0 c.old_len)) ≡ 0 + length (spliced unplaced 0 c.changes (olds 0 c.old_len)) = omega arith in e)
    ∙ sum ∙ ap (λ m. end_from 0 0 m c.changes) size ∙ new_len_is_end c.old_len c.changes normal
