-- The components of what arrives at a buffer have as many units as the pieces.
use Rattle.std.proofs.Common.{◌≡◌, ℕ, zero, suc, ◌+◌, ◌<◌, ◌≤◌, Bool, true, false, List, [], ◌∷◌, length, length-append, map, filter, if◌then◌else◌, Some, None, inl, inr, refl, sym, ap, ◌∙◌, arith, subst}
use Rattle.std.specs.Prelude.{flat_map, nat_eq, replicate, sum_by}
use Rattle.std.specs.List.{range_with_len}
use Rattle.std.proofs.lemmas.Bool.{cases_eq}
use Rattle.std.proofs.lemmas.Bool.Decides.{nat_tests}
use Rattle.std.proofs.lemmas.List.{length-map, length-replicate}
use Rattle.std.proofs.lemmas.List.Sums.{sum_by-append, sum_by-cons}
use Rattle.ed_base.specs.declared.piece.Piece.{Piece}
use Rattle.ed_base.specs.Edit.{woven}
use Rattle.ed_base.specs.Sorting.{placed_in, sorted_by}
use Rattle.ed_layers.specs.Pieces.{Component, arrived, gone_at, marked_units, piece_before, put_at}
use Rattle.ed_sending.proofs.Carriers.CarrierText.{put_of, taken_of}
use Rattle.ed_sending.proofs.Carriers.Components.{AreArrived, arrived_are}
use Rattle.ed_sending.proofs.Lists.SortedParts.{Each, each_more}
use Rattle.ed_sending.proofs.Texts.FullText.{Full, old_units, put_in}

-- ---- sums over gaps

none_more : (n : ℕ) → 0 + n ≡ n
none_more n = omega arith

sum_same : {X : Type 0} (f g : X → ℕ) (xs : List X) → ((x : X) → f x ≡ g x) → sum_by f xs ≡ sum_by g xs
sum_same f g xs same = ap (λ h. sum_by h xs) (λ i x. same x i)

sum_both : (f g : ℕ → ℕ) (xs : List ℕ) → sum_by (λ x. f x + g x) xs ≡ sum_by f xs + sum_by g xs
sum_both f g [] = refl
sum_both f g (x ∷ xs) = omega (arith, sum_by-cons (λ x. f x + g x) x xs, sum_by-cons f x xs, sum_by-cons g x xs, sum_both f g xs)

sum_none : (xs : List ℕ) → sum_by (λ x. 0) xs ≡ 0
sum_none [] = refl
sum_none (x ∷ xs) = omega (arith, sum_by-cons (λ x. 0) x xs, sum_none xs)

-- one that stands at one gap
abbrev at_gap : ℕ → ℕ → ℕ → ℕ
at_gap start n g = if nat_eq start g then n else 0

past_gaps : (start n a k : ℕ) → start < a → sum_by (at_gap start n) (range_with_len a k) ≡ 0
past_gaps start n a zero below = refl
past_gaps start n a (suc k) below =
    let e : nat_eq start a ≡ false = grind (arith, nat_tests) in
    sum_by-cons (at_gap start n) a (range_with_len (a + 1) k) ∙ ap (λ b. (if b then n else 0) + sum_by (at_gap start n) (range_with_len (a + 1) k)) e ∙ none_more (sum_by (at_gap start n) (range_with_len (a + 1) k)) ∙ past_gaps start n (a + 1) k (omega arith)

one_gap : (start n a k : ℕ) → a ≤ start → start < a + k → sum_by (at_gap start n) (range_with_len a k) ≡ n
one_gap start n a zero from to = absurd (omega arith)
one_gap start n a (suc k) from to = elim (cases_eq start a) [
  | inl same ↦ (
      let e : nat_eq start a ≡ true = grind (arith, nat_tests) in
      let rest : sum_by (at_gap start n) (range_with_len (a + 1) k) ≡ 0 = past_gaps start n (a + 1) k (omega arith) in
      sum_by-cons (at_gap start n) a (range_with_len (a + 1) k) ∙ ap (λ z. at_gap start n a + z) rest ∙ ap (λ b. (if b then n else 0) + 0) e ∙ (let f : n + 0 ≡ n = omega arith in f))
  | inr other ↦ (
      let e : nat_eq start a ≡ false = grind (arith, nat_tests) in
      sum_by-cons (at_gap start n) a (range_with_len (a + 1) k) ∙ ap (λ b. (if b then n else 0) + sum_by (at_gap start n) (range_with_len (a + 1) k)) e ∙ none_more (sum_by (at_gap start n) (range_with_len (a + 1) k)) ∙ one_gap start n (a + 1) k (omega (arith, other)) (omega arith))
]

-- each counted at its gap is each counted once
by_gaps : {X : Type 0} (start size : X → ℕ) (n : ℕ) (xs : List X) → Each (λ x. start x < n) xs → sum_by (λ g. sum_by (λ x. at_gap (start x) (size x) g) xs) (range_with_len 0 n) ≡ sum_by size xs
by_gaps start size n [] within = sum_none (range_with_len 0 n)
by_gaps start size n (x ∷ xs) within =
    sum_same (λ g. sum_by (λ y. at_gap (start y) (size y) g) (x ∷ xs)) (λ g. at_gap (start x) (size x) g + sum_by (λ y. at_gap (start y) (size y) g) xs) (range_with_len 0 n) (λ g. sum_by-cons (λ y. at_gap (start y) (size y) g) x xs)
    ∙ sum_both (at_gap (start x) (size x)) (λ g. sum_by (λ y. at_gap (start y) (size y) g) xs) (range_with_len 0 n)
    ∙ ap (λ z. z + sum_by (λ g. sum_by (λ y. at_gap (start y) (size y) g) xs) (range_with_len 0 n)) (one_gap (start x) (size x) 0 n (omega arith) (let l : start x < n = within.0 in omega arith))
    ∙ ap (λ z. size x + z) (by_gaps start size n xs within.1)
    ∙ sym (sum_by-cons size x xs)

-- ---- what is put in at a gap

put_of_len : (cs : List Component) (g : ℕ) → length (put_of cs g) ≡ sum_by (λ c. at_gap c.start (length c.text) g) cs
put_of_len [] g = refl
put_of_len (c ∷ cs) g =
    length-append (if nat_eq c.start g then c.text else []) (put_of cs g)
    ∙ ap (λ z. z + length (put_of cs g)) (either (nat_eq c.start g))
    ∙ ap (λ z. at_gap c.start (length c.text) g + z) (put_of_len cs g)
    ∙ sym (sum_by-cons (λ (d : Component). at_gap d.start (length d.text) g) c cs)
  where
    either : (b : Bool) → length (if b then c.text else []) ≡ (if b then length c.text else 0)
    either true = refl
    either false = refl

module _ {X : Type 0} (f : X → ℕ) where
  placed_sum : (before : X → X → Bool) (x : X) (ys : List X) → sum_by f (placed_in before x ys) ≡ f x + sum_by f ys
  placed_sum before x [] = sum_by-cons f x []
  placed_sum before x (y ∷ ys) = either (before y x) (placed_sum before x ys)
    where
      either : (b : Bool) → sum_by f (placed_in before x ys) ≡ f x + sum_by f ys → sum_by f (if b then y ∷ placed_in before x ys else x ∷ y ∷ ys) ≡ f x + sum_by f (y ∷ ys)
      either true rest = omega (arith, sum_by-cons f y (placed_in before x ys), sum_by-cons f y ys, rest)
      either false rest = sum_by-cons f x (y ∷ ys)

  sorted_sum : (before : X → X → Bool) (xs : List X) → sum_by f (sorted_by before xs) ≡ sum_by f xs
  sorted_sum before [] = refl
  sorted_sum before (x ∷ xs) = placed_sum before x (sorted_by before xs) ∙ ap (λ z. f x + z) (sorted_sum before xs) ∙ sym (sum_by-cons f x xs)

  filter_sum : (test : X → Bool) (xs : List X) → sum_by f (filter test xs) ≡ sum_by (λ x. if test x then f x else 0) xs
  filter_sum test [] = refl
  filter_sum test (x ∷ xs) = either (test x) (filter_sum test xs) ∙ sym (sum_by-cons (λ y. if test y then f y else 0) x xs)
    where
      either : (b : Bool) → sum_by f (filter test xs) ≡ sum_by (λ y. if test y then f y else 0) xs → sum_by f (if b then x ∷ filter test xs else filter test xs) ≡ (if b then f x else 0) + sum_by (λ y. if test y then f y else 0) xs
      either true rest = sum_by-cons f x (filter test xs) ∙ ap (λ z. f x + z) rest
      either false rest = rest ∙ sym (none_more (sum_by (λ y. if test y then f y else 0) xs))

marked_len : (ps : List Piece) → length (flat_map marked_units ps) ≡ sum_by (λ p. length p.text) ps
marked_len [] = refl
marked_len (p ∷ ps) =
    length-append (marked_units p) (flat_map marked_units ps)
    ∙ ap (λ z. z + length (flat_map marked_units ps)) (length-map p.text (λ u. (u, p.trail)))
    ∙ ap (λ z. length p.text + z) (marked_len ps)
    ∙ sym (sum_by-cons (λ (q : Piece). length q.text) p ps)

put_at_len : (ps : List Piece) (g : ℕ) → length (put_at ps g) ≡ sum_by (λ p. at_gap p.start (length p.text) g) ps
put_at_len ps g =
    marked_len (sorted_by piece_before (filter (λ p. nat_eq p.start g) ps))
    ∙ sorted_sum (λ (p : Piece). length p.text) piece_before (filter (λ p. nat_eq p.start g) ps)
    ∙ filter_sum (λ (p : Piece). length p.text) (λ p. nat_eq p.start g) ps

-- ---- what is put in over all gaps

abbrev is_new : Full → ℕ
is_new (None, m) = 1
is_new (Some p, m) = 0

all_new : (ms : List (ℕ × List (ℕ × ℕ))) → sum_by is_new (map put_in ms) ≡ length ms
all_new [] = refl
all_new (m ∷ ms) = omega (arith, sum_by-cons is_new (put_in m) (map put_in ms), all_new ms)

woven_new : (put : ℕ → List (ℕ × List (ℕ × ℕ))) (gone : ℕ → Bool) (p : ℕ) (text : List ℕ) → sum_by is_new (woven (λ g. map put_in (put g)) gone p (old_units p text)) ≡ sum_by (λ g. length (put g)) (range_with_len p (suc (length text)))
woven_new put gone p [] = all_new (put p) ∙ sym (sum_by-cons (λ g. length (put g)) p [] ∙ (let e : length (put p) + 0 ≡ length (put p) = omega arith in e))
woven_new put gone p (u ∷ us) =
    let rest : List Full = woven (λ g. map put_in (put g)) gone (p + 1) (old_units (p + 1) us) in
    sum_by-append is_new (map put_in (put p)) (if gone p then rest else (Some p, (u, [])) ∷ rest)
    ∙ ap (λ z. z + sum_by is_new (if gone p then rest else (Some p, (u, [])) ∷ rest)) (all_new (put p))
    ∙ ap (λ z. length (put p) + z) (either (gone p) (woven_new put gone (p + 1) us))
    ∙ sym (sum_by-cons (λ g. length (put g)) p (range_with_len (p + 1) (suc (length us))))
  where
    either : (b : Bool) → sum_by is_new (woven (λ g. map put_in (put g)) gone (p + 1) (old_units (p + 1) us)) ≡ sum_by (λ g. length (put g)) (range_with_len (p + 1) (suc (length us))) →
        sum_by is_new (if b then woven (λ g. map put_in (put g)) gone (p + 1) (old_units (p + 1) us) else (Some p, (u, [])) ∷ woven (λ g. map put_in (put g)) gone (p + 1) (old_units (p + 1) us)) ≡ sum_by (λ g. length (put g)) (range_with_len (p + 1) (suc (length us)))
    either true rest = rest
    either false rest = sum_by-cons is_new (Some p, (u, [])) (woven (λ g. map put_in (put g)) gone (p + 1) (old_units (p + 1) us)) ∙ none_more (sum_by is_new (woven (λ g. map put_in (put g)) gone (p + 1) (old_units (p + 1) us))) ∙ rest

-- ---- pieces and components

over_text : (ps : List Piece) (text : List ℕ) → Each (λ p. p.start ≤ length text) ps → sum_by (λ c. length c.text) (arrived ps (length text)) ≡ sum_by (λ p. length p.text) ps
over_text ps text within =
    let cs : List Component = arrived ps (length text) in
    let a : AreArrived ps text cs = arrived_are ps text in
    let gaps : List ℕ = range_with_len 0 (suc (length text)) in
    sym (by_gaps (λ (c : Component). c.start) (λ c. length c.text) (suc (length text)) cs (each_more (λ c. c.start + c.old_len ≤ length text) (λ c. c.start < suc (length text)) cs (λ c l. omega arith) a.inside))
    ∙ sum_same (λ g. sum_by (λ (c : Component). at_gap c.start (length c.text) g) cs) (λ g. length (put_of cs g)) gaps (λ g. sym (put_of_len cs g))
    ∙ sym (woven_new (put_of cs) (taken_of cs) 0 text)
    ∙ ap (sum_by is_new) a.same
    ∙ woven_new (put_at ps) (gone_at ps) 0 text
    ∙ sum_same (λ g. length (put_at ps g)) (λ g. sum_by (λ (p : Piece). at_gap p.start (length p.text) g) ps) gaps (λ g. put_at_len ps g)
    ∙ by_gaps (λ (p : Piece). p.start) (λ p. length p.text) (suc (length text)) ps (each_more (λ p. p.start ≤ length text) (λ p. p.start < suc (length text)) ps (λ p l. omega arith) within)

pub arrived_units : (ps : List Piece) (n : ℕ) → Each (λ p. p.start ≤ n) ps → sum_by (λ c. length c.text) (arrived ps n) ≡ sum_by (λ p. length p.text) ps
arrived_units ps n within =
    let long : length (replicate n 0) ≡ n = length-replicate n 0 in
    ap (λ m. sum_by (λ (c : Component). length c.text) (arrived ps m)) (sym long)
    ∙ over_text ps (replicate n 0) (subst (λ m. Each (λ p. p.start ≤ m) ps) (sym long) within)
