-- The maximal runs of places that pass a test: together just the places that pass, one behind the other.
use Rattle.std.proofs.Common.{◌≡◌, ℕ, zero, suc, ◌+◌, ◌-◌, ◌<◌, ◌≤◌, Bool, true, false, not, ◌&&◌, List, [], ◌∷◌, ◌++◌, map, filter, Option, Some, inl, inr, refl, sym, ap, ◌∙◌, arith, subst, if◌then◌else◌}
use Rattle.std.specs.Prelude.{nat_le, flat_map, find, unwrap_or}
use Rattle.std.specs.List.{AllByRecursion as Each, range_with_len}
use Rattle.std.proofs.lemmas.Bool.{cases_eq}
use Rattle.std.proofs.lemmas.Bool.Decides.{nat_tests}
use Rattle.ed_base.specs.declared.Span.{Span}
use Rattle.ed_base.specs.Numbers.{places}
use Rattle.ed_base.specs.Runs.{runs, end_of_run, passes_before}
use Rattle.ed_base.specs.Spans.{end_of, span_between}

-- the places of spans, one span after another
abbrev pub places_of : List Span → List ℕ
places_of xs = flat_map (λ x. range_with_len x.start x.len) xs

-- each ends before any later one starts, or where it does
abbrev pub AreInLine : List Span → Type 0
AreInLine [] = Unit {0}
AreInLine (x ∷ xs) = Each (λ y. end_of x ≤ y.start) xs × AreInLine xs

module _ (test : ℕ → Bool) where
  -- the first place from p on, among those from a on, at which the test fails
  abbrev pub stop : ℕ → ℕ → ℕ → ℕ
  stop p a m = unwrap_or (find (λ q. nat_le p q && not (test q)) (range_with_len a m)) (a + m)

  stop_skips : (p a m : ℕ) → a < p → stop p a (suc m) ≡ stop p (a + 1) m
  stop_skips p a m low = let e : nat_le p a ≡ false = grind (arith, nat_tests) in (rw e (ap (λ n. unwrap_or (find (λ q. nat_le p q && not (test q)) (range_with_len (a + 1) m)) n) (let f : a + suc m ≡ a + 1 + m = omega arith in f)))

  stop_here : (a m : ℕ) → test a ≡ false → stop a a (suc m) ≡ a
  stop_here a m out = let e : nat_le a a ≡ true = grind (arith, nat_tests) in rw (e, out) refl

  stop_later : (a m : ℕ) → test a ≡ true → stop a a (suc m) ≡ stop (a + 1) (a + 1) m
  stop_later a m in_ =
      let e : nat_le a a ≡ true = grind (arith, nat_tests) in
      (rw (e, in_) (ap (λ n. unwrap_or (find (λ q. nat_le a q && not (test q)) (range_with_len (a + 1) m)) n) (let f : a + suc m ≡ a + 1 + m = omega arith in f)))
      ∙ ap (λ (o : Option ℕ). unwrap_or o (a + 1 + m)) (alike (a + 1) m (omega arith))
    where
      alike : (b m : ℕ) → a + 1 ≤ b → find (λ q. nat_le a q && not (test q)) (range_with_len b m) ≡ find (λ q. nat_le (a + 1) q && not (test q)) (range_with_len b m)
      alike b zero above = refl
      alike b (suc m) above =
          let e : nat_le a b ≡ true = grind (arith, nat_tests) in
          let f : nat_le (a + 1) b ≡ true = grind (arith, nat_tests) in
          rw (e, f) (ap (λ o. if not (test b) then Some b else o) (alike (b + 1) m (omega arith)))

  stop_above : (p a m : ℕ) → p ≤ a → p ≤ stop p a m
  stop_above p a zero low = omega arith
  stop_above p a (suc m) low = either (nat_le p a && not (test a)) (stop_above p (a + 1) m (omega arith))
    where
      either : (b : Bool) → p ≤ stop p (a + 1) m → p ≤ unwrap_or (if b then Some a else find (λ q. nat_le p q && not (test q)) (range_with_len (a + 1) m)) (a + suc m)
      either true rest = low
      either false rest = subst (λ n. p ≤ unwrap_or (find (λ q. nat_le p q && not (test q)) (range_with_len (a + 1) m)) n) (let f : a + 1 + m ≡ a + suc m = omega arith in f) rest

  stop_within : (p a m : ℕ) → stop p a m ≤ a + m
  stop_within p a zero = omega arith
  stop_within p a (suc m) = either (nat_le p a && not (test a)) (stop_within p (a + 1) m)
    where
      either : (b : Bool) → stop p (a + 1) m ≤ a + 1 + m → unwrap_or (if b then Some a else find (λ q. nat_le p q && not (test q)) (range_with_len (a + 1) m)) (a + suc m) ≤ a + suc m
      either true rest = omega arith
      either false rest = subst (λ n. unwrap_or (find (λ q. nat_le p q && not (test q)) (range_with_len (a + 1) m)) n ≤ n) (let f : a + 1 + m ≡ a + suc m = omega arith in f) rest

  -- the runs that begin from place a on
  abbrev starts_at : ℕ → Bool
  starts_at p = test p && not (passes_before test p)

  abbrev runs_from : ℕ → ℕ → List Span
  runs_from a m = map (λ p. span_between p (stop p a m)) (filter starts_at (range_with_len a m))

  map_alike_from : (f g : ℕ → Span) (t : ℕ → Bool) (a m : ℕ) → ((p : ℕ) → a ≤ p → f p ≡ g p) → map f (filter t (range_with_len a m)) ≡ map g (filter t (range_with_len a m))
  map_alike_from f g t a zero same = refl
  map_alike_from f g t a (suc m) same = either (t a) (map_alike_from f g t (a + 1) m (λ p above. same p (omega arith)))
    where
      either : (b : Bool) → map f (filter t (range_with_len (a + 1) m)) ≡ map g (filter t (range_with_len (a + 1) m)) → map f (if b then a ∷ filter t (range_with_len (a + 1) m) else filter t (range_with_len (a + 1) m)) ≡ map g (if b then a ∷ filter t (range_with_len (a + 1) m) else filter t (range_with_len (a + 1) m))
      either true rest = ap (λ z. z ∷ map f (filter t (range_with_len (a + 1) m))) (same a (omega arith)) ∙ ap (λ z. g a ∷ z) rest
      either false rest = rest

  later_runs : (a m : ℕ) → map (λ p. span_between p (stop p a (suc m))) (filter starts_at (range_with_len (a + 1) m)) ≡ runs_from (a + 1) m
  later_runs a m = map_alike_from (λ p. span_between p (stop p a (suc m))) (λ p. span_between p (stop p (a + 1) m)) starts_at (a + 1) m (λ p above. ap (span_between p) (stop_skips p a m (omega arith)))

  before_next : (a : ℕ) → passes_before test (a + 1) ≡ test a
  before_next a = ap (passes_before test) (let e : a + 1 ≡ suc a = omega arith in e)

  -- what passes from a place on: the rest of a run that began before, and the runs that begin later
  passing_from : (a m : ℕ) → filter test (range_with_len a m) ≡ (if passes_before test a then range_with_len a (stop a a m - a) else []) ++ places_of (runs_from a m)
  passing_from a zero = either (passes_before test a)
    where
      either : (b : Bool) → [] ≡ (if b then range_with_len a (a + 0 - a) else []) ++ []
      either true = let e : a + 0 - a ≡ 0 = omega arith in rw e refl
      either false = refl
  passing_from a (suc m) = either (test a) (passes_before test a) refl refl (passing_from (a + 1) m)
    where
      rest_of : ℕ → List ℕ
      rest_of n = range_with_len a n

      either : (t b : Bool) → test a ≡ t → passes_before test a ≡ b → filter test (range_with_len (a + 1) m) ≡ (if passes_before test (a + 1) then range_with_len (a + 1) (stop (a + 1) (a + 1) m - (a + 1)) else []) ++ places_of (runs_from (a + 1) m) →
          (if t then a ∷ filter test (range_with_len (a + 1) m) else filter test (range_with_len (a + 1) m)) ≡ (if b then range_with_len a (stop a a (suc m) - a) else []) ++ places_of (map (λ p. span_between p (stop p a (suc m))) (if t && not b then a ∷ filter starts_at (range_with_len (a + 1) m) else filter starts_at (range_with_len (a + 1) m)))
      either false true et eb rest =
          rest ∙ ap (λ z. (if z then range_with_len (a + 1) (stop (a + 1) (a + 1) m - (a + 1)) else []) ++ places_of (runs_from (a + 1) m)) (before_next a ∙ et)
          ∙ ap (λ z. places_of z) (sym (later_runs a m))
          ∙ ap (λ n. range_with_len a n ++ places_of (map (λ p. span_between p (stop p a (suc m))) (filter starts_at (range_with_len (a + 1) m)))) (let s : stop a a (suc m) ≡ a = stop_here a m et in let e : 0 ≡ stop a a (suc m) - a = omega (arith, s) in e)
      either false false et eb rest =
          rest ∙ ap (λ z. (if z then range_with_len (a + 1) (stop (a + 1) (a + 1) m - (a + 1)) else []) ++ places_of (runs_from (a + 1) m)) (before_next a ∙ et)
          ∙ ap (λ z. places_of z) (sym (later_runs a m))
      either true b et eb rest =
          let s : stop a a (suc m) ≡ stop (a + 1) (a + 1) m = stop_later a m et in
          let above : a + 1 ≤ stop (a + 1) (a + 1) m = stop_above (a + 1) (a + 1) m (omega arith) in
          let more : a ∷ filter test (range_with_len (a + 1) m) ≡ range_with_len a (stop a a (suc m) - a) ++ places_of (runs_from (a + 1) m) =
          ap (λ z. a ∷ z) (rest ∙ ap (λ z. (if z then range_with_len (a + 1) (stop (a + 1) (a + 1) m - (a + 1)) else []) ++ places_of (runs_from (a + 1) m)) (before_next a ∙ et))
          ∙ ap (λ n. range_with_len a n ++ places_of (runs_from (a + 1) m)) (let e : suc (stop (a + 1) (a + 1) m - (a + 1)) ≡ stop a a (suc m) - a = omega (arith, s, above) in e) in
          by b more
        where
          by : (b : Bool) → a ∷ filter test (range_with_len (a + 1) m) ≡ range_with_len a (stop a a (suc m) - a) ++ places_of (runs_from (a + 1) m) → a ∷ filter test (range_with_len (a + 1) m) ≡ (if b then range_with_len a (stop a a (suc m) - a) else []) ++ places_of (map (λ p. span_between p (stop p a (suc m))) (if not b then a ∷ filter starts_at (range_with_len (a + 1) m) else filter starts_at (range_with_len (a + 1) m)))
          by true more = more ∙ ap (λ z. range_with_len a (stop a a (suc m) - a) ++ places_of z) (sym (later_runs a m))
          by false more = more ∙ ap (λ z. range_with_len a (stop a a (suc m) - a) ++ places_of z) (sym (later_runs a m))

  -- ---- the runs of a text

  runs_are : (n : ℕ) → runs test n ≡ runs_from 0 n
  runs_are n = map_alike_from (λ p. span_between p (end_of_run test n p)) (λ p. span_between p (stop p 0 n)) starts_at 0 n (λ p above. ap (λ k. span_between p (unwrap_or (find (λ q. nat_le p q && not (test q)) (places n)) k)) (let e : n ≡ 0 + n = omega arith in e))

  -- The runs have just the places that pass, in order.
  pub runs_places : (n : ℕ) → filter test (places n) ≡ places_of (runs test n)
  runs_places n = passing_from 0 n ∙ ap (λ z. places_of z) (sym (runs_are n))

  -- each ends in the text
  ends_from : (a b m k : ℕ) → a + m ≡ b + k → a ≤ b → Each (λ x. end_of x ≤ a + m) (map (λ p. span_between p (stop p a m)) (filter starts_at (range_with_len b k)))
  ends_from a b m zero e low = tt
  ends_from a b m (suc k) e low = either (starts_at b) (ends_from a (b + 1) m k (omega arith) (omega arith))
    where
      either : (z : Bool) → Each (λ x. end_of x ≤ a + m) (map (λ p. span_between p (stop p a m)) (filter starts_at (range_with_len (b + 1) k))) → Each (λ x. end_of x ≤ a + m) (map (λ p. span_between p (stop p a m)) (if z then b ∷ filter starts_at (range_with_len (b + 1) k) else filter starts_at (range_with_len (b + 1) k)))
      either true rest = ((let l : stop b a m ≤ a + m = stop_within b a m in omega arith), rest)
      either false rest = rest

  pub runs_end : (n : ℕ) → Each (λ x. end_of x ≤ n) (runs test n)
  runs_end n = subst (λ z. Each (λ x. end_of x ≤ n) z) (sym (runs_are n)) (subst (λ k. Each (λ x. end_of x ≤ k) (runs_from 0 n)) (let e : 0 + n ≡ n = omega arith in e) (ends_from 0 0 n n refl (omega arith)))

  -- ---- each behind the one before

  stop_low : (p q a m : ℕ) → p ≤ q → a ≤ q → q < a + m → test q ≡ false → stop p a m ≤ q
  stop_low p q a zero low from to out = absurd (omega arith)
  stop_low p q a (suc m) low from to out = elim (cases_eq a q) [
    | inl same ↦ (let e : nat_le p a ≡ true = grind (arith, nat_tests) in let f : test a ≡ false = ap test same ∙ out in (rw (e, f) (omega arith)))
    | inr other ↦ either (nat_le p a && not (test a)) (stop_low p q (a + 1) m low (omega arith) (omega arith) out)
  ]
    where
      either : (b : Bool) → stop p (a + 1) m ≤ q → unwrap_or (if b then Some a else find (λ q. nat_le p q && not (test q)) (range_with_len (a + 1) m)) (a + suc m) ≤ q
      either true rest = from
      either false rest = subst (λ n. unwrap_or (find (λ q. nat_le p q && not (test q)) (range_with_len (a + 1) m)) n ≤ q) (let f : a + 1 + m ≡ a + suc m = omega arith in f) rest

  -- a run that begins later begins behind the end
  starts_behind : (p a m b k : ℕ) → a ≤ p → p < b → b + k ≤ a + m → Each (λ x. stop p a m ≤ x.start) (map (λ q. span_between q (stop q a m)) (filter starts_at (range_with_len b k)))
  starts_behind p a m b zero low later within = tt
  starts_behind p a m b (suc k) low later within = either (starts_at b) refl (starts_behind p a m (b + 1) k low (omega arith) (omega arith))
    where
      before_is : (b : ℕ) → p < b → (t : Bool) → (t && not (passes_before test b)) ≡ true → test (b - 1) ≡ false
      before_is zero later t e = absurd (omega arith)
      before_is (suc b) later true e = ap test (let f : suc b - 1 ≡ b = omega arith in f) ∙ out (test b) e
        where
          out : (z : Bool) → (true && not z) ≡ true → z ≡ false
          out false e = refl
          out true e = absurd (let y : false ≡ true = e in cc)
      before_is (suc b) later false e = absurd (let y : false ≡ true = e in cc)

      either : (z : Bool) → starts_at b ≡ z → Each (λ x. stop p a m ≤ x.start) (map (λ q. span_between q (stop q a m)) (filter starts_at (range_with_len (b + 1) k))) → Each (λ x. stop p a m ≤ x.start) (map (λ q. span_between q (stop q a m)) (if z then b ∷ filter starts_at (range_with_len (b + 1) k) else filter starts_at (range_with_len (b + 1) k)))
      either true e rest = ((let l : stop p a m ≤ b - 1 = stop_low p (b - 1) a m (omega arith) (omega arith) (omega arith) (before_is b later (test b) e) in omega arith), rest)
      either false e rest = rest

  stop_from : (p a m : ℕ) → p ≤ a + m → p ≤ stop p a m
  stop_from p a zero low = low
  stop_from p a (suc m) low = either (nat_le p a) (not (test a)) refl (stop_from p (a + 1) m (omega arith))
    where
      either : (c d : Bool) → nat_le p a ≡ c → p ≤ stop p (a + 1) m → p ≤ unwrap_or (if c && d then Some a else find (λ q. nat_le p q && not (test q)) (range_with_len (a + 1) m)) (a + suc m)
      either true true e rest = grind (arith, nat_tests)
      either true false e rest = subst (λ n. p ≤ unwrap_or (find (λ q. nat_le p q && not (test q)) (range_with_len (a + 1) m)) n) (let f : a + 1 + m ≡ a + suc m = omega arith in f) rest
      either false d e rest = subst (λ n. p ≤ unwrap_or (find (λ q. nat_le p q && not (test q)) (range_with_len (a + 1) m)) n) (let f : a + 1 + m ≡ a + suc m = omega arith in f) rest

  in_line_from : (a m b k : ℕ) → a ≤ b → b + k ≤ a + m → AreInLine (map (λ q. span_between q (stop q a m)) (filter starts_at (range_with_len b k)))
  in_line_from a m b zero low within = tt
  in_line_from a m b (suc k) low within = either (starts_at b) (in_line_from a m (b + 1) k (omega arith) (omega arith))
    where
      end_is : end_of (span_between b (stop b a m)) ≡ stop b a m
      end_is = let l : b ≤ stop b a m = stop_from b a m (omega arith) in omega (arith, l)

      either : (z : Bool) → AreInLine (map (λ q. span_between q (stop q a m)) (filter starts_at (range_with_len (b + 1) k))) → AreInLine (map (λ q. span_between q (stop q a m)) (if z then b ∷ filter starts_at (range_with_len (b + 1) k) else filter starts_at (range_with_len (b + 1) k)))
      either true rest = (subst (λ n. Each (λ x. n ≤ x.start) (map (λ q. span_between q (stop q a m)) (filter starts_at (range_with_len (b + 1) k)))) (sym end_is) (starts_behind b a m (b + 1) k low (omega arith) (omega arith)), rest)
      either false rest = rest

  pub runs_in_line : (n : ℕ) → AreInLine (runs test n)
  runs_in_line n = subst AreInLine (sym (runs_are n)) (in_line_from 0 n 0 n (omega arith) (omega arith))
