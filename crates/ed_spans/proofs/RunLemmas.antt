-- The runs of a set of places: what the set is alone decides, and spans that lie apart are the runs of what they hold.
use Rattle.std.proofs.Common.{◌≡◌, ℕ, zero, suc, ◌+◌, ◌-◌, ◌<◌, ◌≤◌, ◌⊎◌, Bool, true, false, not, ◌&&◌, List, [], ◌∷◌, map, filter, Some, None, inl, inr, refl, sym, ap, ◌∙◌, arith}
use Rattle.std.specs.Prelude.{find, nat_le, unwrap_or}
use Rattle.std.specs.List.{range_with_len}
use Rattle.std.proofs.lemmas.Bool.{cases_lt, le-leb, lt-leb}
use Rattle.ed_base.specs.declared.edit.Span.{Span}
use Rattle.ed_base.specs.Spans.{end_of, span_between}
use Rattle.ed_base.specs.Runs.{runs, passes_before, end_of_run}
use Rattle.ed_spans.specs.SpanSets.{in_spans, AreApartFrom}
use Rattle.ed_spans.proofs.PlaceLemmas.{holds_from, holds_none}

find_same : (f g : ℕ → Bool) (a n : ℕ) → ((q : ℕ) → q < a + n → f q ≡ g q) → find f (range_with_len a n) ≡ find g (range_with_len a n)
find_same f g a zero same = refl
find_same f g a (suc n) same = rw (same a (omega arith), find_same f g (a + 1) n (λ q below. same q (omega arith))) refl

filter_same : (f g : ℕ → Bool) (a n : ℕ) → ((q : ℕ) → q < a + n → f q ≡ g q) → filter f (range_with_len a n) ≡ filter g (range_with_len a n)
filter_same f g a zero same = refl
filter_same f g a (suc n) same = rw (same a (omega arith), filter_same f g (a + 1) n (λ q below. same q (omega arith))) refl

-- The runs of two tests that agree below n.
pub runs_same : (f g : ℕ → Bool) (n : ℕ) → ((q : ℕ) → q < n → f q ≡ g q) → runs f n ≡ runs g n
runs_same f g n same =
    let ends : (p : ℕ) → end_of_run f n p ≡ end_of_run g n p = λ p. ap (λ o. unwrap_or o n) (find_same (λ q. nat_le p q && not (f q)) (λ q. nat_le p q && not (g q)) 0 n (λ q below. ap (λ b. nat_le p q && not b) (same q (omega arith)))) in
    map_same (λ p. span_between p (end_of_run f n p)) (λ p. span_between p (end_of_run g n p)) (λ p. ap (span_between p) (ends p)) (filter (λ p. f p && not (passes_before f p)) (range_with_len 0 n))
    ∙ ap (map (λ p. span_between p (end_of_run g n p))) (filter_same (λ p. f p && not (passes_before f p)) (λ p. g p && not (passes_before g p)) 0 n starts)
  where
    map_same : (f g : ℕ → Span) → ((p : ℕ) → f p ≡ g p) → (ps : List ℕ) → map f ps ≡ map g ps
    map_same f g same [] = refl
    map_same f g same (p ∷ ps) = rw (same p, map_same f g same ps) refl

    before : (q : ℕ) → q < n → passes_before f q ≡ passes_before g q
    before zero below = refl
    before (suc q) below = same q (omega arith)

    starts : (q : ℕ) → q < 0 + n → (f q && not (passes_before f q)) ≡ (g q && not (passes_before g q))
    starts q below = rw (same q (omega arith), before q (omega arith)) refl

-- ---- spans that lie apart

filter_skip : (g : ℕ → Bool) (p m d : ℕ) → d ≤ m → ((q : ℕ) → p ≤ q → q < p + d → g q ≡ false) → filter g (range_with_len p m) ≡ filter g (range_with_len (p + d) (m - d))
filter_skip g p m zero within none = let e : p + 0 ≡ p = omega arith in let e' : m - 0 ≡ m = omega arith in rw (e, e') refl
filter_skip g p zero (suc d) within none = absurd (omega arith)
filter_skip g p (suc m) (suc d) within none =
    let e : p + suc d ≡ p + 1 + d = omega arith in let e' : suc m - suc d ≡ m - d = omega arith in
    rw (e, e', none p (omega arith) (omega arith)) (filter_skip g (p + 1) m d (omega arith) (λ q above below. none q (omega arith) (omega arith)))

find_none : (f : ℕ → Bool) (a n : ℕ) → ((q : ℕ) → a ≤ q → q < a + n → f q ≡ false) → find f (range_with_len a n) ≡ None
find_none f a zero none = refl
find_none f a (suc n) none = rw (none a (omega arith) (omega arith)) (find_none f (a + 1) n (λ q above below. none q (omega arith) (omega arith)))

find_first : (f : ℕ → Bool) (a n p : ℕ) → a ≤ p → p < a + n → f p ≡ true → ((q : ℕ) → a ≤ q → q < p → f q ≡ false) → find f (range_with_len a n) ≡ Some p
find_first f a zero p above below is none = absurd (omega arith)
find_first f a (suc n) p above below is none = elim (cases_lt a p) [
  | inl later ↦ rw (none a (omega arith) later) (find_first f (a + 1) n p (omega arith) (omega arith) is (λ q above' below'. none q (omega arith) below'))
  | inr here ↦ (let e : p ≡ a = omega arith in let t : f a ≡ true = ap f (sym e) ∙ is in rw t (ap Some (sym e)))
]

pub apart_before : (p n q : ℕ) (ss : List Span) → AreApartFrom p n ss → q < p → in_spans ss q ≡ false
apart_before p n q [] apart below = refl
apart_before p n q (s ∷ ss) apart below = rw (holds_none s q (λ a b. omega (arith, a, apart.0)), apart_before (end_of s + 1) n q ss apart.3 (omega (arith, apart.0))) refl

module _ (f : ℕ → Bool) (n : ℕ) where
  abbrev begins : ℕ → Bool
  begins p = f p && not (passes_before f p)

  run_ends : (p e : ℕ) → e ≤ n → ((q : ℕ) → p ≤ q → q < e → f q ≡ true) → (e < n → f e ≡ false) → p ≤ e → end_of_run f n p ≡ e
  run_ends p e within inside after some = elim (cases_lt e n) [
    | inl more ↦ ap (λ o. unwrap_or o n) (find_first test 0 n e (omega arith) (omega arith) (rw (le-leb p e some, after more) refl) (λ q above below. fails q below))
    | inr end ↦ (let same : e ≡ n = omega arith in ap (λ o. unwrap_or o n) (find_none test 0 n (λ q above below. fails q (omega arith))) ∙ sym same)
  ]
    where
      test : ℕ → Bool
      test q = nat_le p q && not (f q)

      fails : (q : ℕ) → q < e → test q ≡ false
      fails q below = elim (cases_lt q p) [
        | inl early ↦ rw (lt-leb p q early) refl
        | inr later ↦ rw (inside q later below, le-leb p q later) refl
      ]

  apart_runs_from : (p : ℕ) (ss : List Span) → AreApartFrom p n ss → ((q : ℕ) → p ≤ q → q < n → f q ≡ in_spans ss q) → (p < n → passes_before f p ≡ false) → map (λ p. span_between p (end_of_run f n p)) (filter begins (range_with_len p (n - p))) ≡ ss
  apart_runs_from p [] apart same start =
      let e : n - p - (n - p) ≡ 0 = omega arith in
      let none : filter begins (range_with_len p (n - p)) ≡ [] = filter_skip begins p (n - p) (n - p) (omega arith) (λ q above below. rw (same q above (omega arith)) refl) ∙ ap (λ m. filter begins (range_with_len (p + (n - p)) m)) e in
      ap (map (λ p. span_between p (end_of_run f n p))) none
  apart_runs_from p (s ∷ ss) apart same start =
      let a : p + (s.start - p) ≡ s.start = omega (arith, apart.0) in
      let b : n - p - (s.start - p) ≡ n - s.start = omega (arith, apart.0) in
      let c : n - s.start ≡ suc (n - s.start - 1) = omega (arith, apart.1, apart.2) in
      let to_start : filter begins (range_with_len p (n - p)) ≡ filter begins (range_with_len s.start (suc (n - s.start - 1))) =
      filter_skip begins p (n - p) (s.start - p) (omega (arith, apart.2)) (λ q above below. rw (early q above (omega (arith, below, a))) refl)
      ∙ ap (λ q. filter begins (range_with_len q (n - p - (s.start - p)))) a ∙ ap (λ m. filter begins (range_with_len s.start m)) (b ∙ c) in
      let at_start : begins s.start ≡ true = rw (inside s.start (omega arith) (omega (arith, apart.1)), before_start (cases_lt p s.start)) refl in
      let here : filter begins (range_with_len s.start (suc (n - s.start - 1))) ≡ s.start ∷ filter begins (range_with_len (s.start + 1) (n - s.start - 1)) = rw at_start refl in
      let ends : end_of_run f n s.start ≡ end_of s = run_ends s.start (end_of s) apart.2 inside (λ more. past more) (omega arith) in
      let length_is : end_of s - s.start ≡ s.len = omega arith in
      let first : span_between s.start (end_of_run f n s.start) ≡ s = ap (λ e. span_between s.start e) ends ∙ ap (λ l. record { start = s.start; len = l }) length_is in
      ap (map (λ p. span_between p (end_of_run f n p))) (to_start ∙ here)
      ∙ ap (λ x. x ∷ map (λ p. span_between p (end_of_run f n p)) (filter begins (range_with_len (s.start + 1) (n - s.start - 1)))) first
      ∙ ap (λ u. s ∷ map (λ p. span_between p (end_of_run f n p)) u) (to_next (cases_lt (end_of s) n))
      ∙ ap (λ u. s ∷ u) (apart_runs_from (end_of s + 1) ss apart.3 (λ q above below. same q (omega (arith, above, apart.0)) below ∙ rw (holds_none s q (λ x y. omega (arith, y, above))) refl) (λ more. next (omega (arith, more))))
    where
      early : (q : ℕ) → p ≤ q → q < s.start → f q ≡ false
      early q above below = same q above (omega (arith, apart.2, below)) ∙ rw (holds_none s q (λ x y. omega (arith, x, below)), apart_before (end_of s + 1) n q ss apart.3 (omega (arith, below))) refl

      inside : (q : ℕ) → s.start ≤ q → q < end_of s → f q ≡ true
      inside q above below = same q (omega (arith, apart.0, above)) (omega (arith, apart.2, below)) ∙ rw (holds_from s q above below) refl

      past : end_of s < n → f (end_of s) ≡ false
      past more = same (end_of s) (omega (arith, apart.0)) more ∙ rw (holds_none s (end_of s) (λ x y. omega (arith, y)), apart_before (end_of s + 1) n (end_of s) ss apart.3 (omega arith)) refl

      is_before : (q : ℕ) → p < q → f (q - 1) ≡ false → passes_before f q ≡ false
      is_before zero above is = absurd (omega arith)
      is_before (suc q) above is = let e : suc q - 1 ≡ q = omega arith in rw e at is

      was_before : (q : ℕ) → 0 < q → f (q - 1) ≡ true → passes_before f q ≡ true
      was_before zero above is = absurd (omega arith)
      was_before (suc q) above is = let e : suc q - 1 ≡ q = omega arith in rw e at is

      before_start : ((p < s.start) ⊎ (s.start ≤ p)) → passes_before f s.start ≡ false
      before_start (inl later) = is_before s.start later (early (s.start - 1) (omega (arith, later)) (omega (arith, later)))
      before_start (inr same_place) = let e : p ≡ s.start = omega (arith, apart.0) in ap (passes_before f) (sym e) ∙ start (omega (arith, e, apart.1, apart.2))

      next : end_of s < n → passes_before f (end_of s + 1) ≡ false
      next more = is_before (end_of s + 1) (omega (arith, apart.0)) (let e : end_of s + 1 - 1 ≡ end_of s = omega arith in ap f e ∙ past more)

      no_begin : (q : ℕ) → s.start < q → q ≤ end_of s → q < n → begins q ≡ false
      no_begin q above below within = elim (cases_lt q (end_of s)) [
        | inl in_s ↦ rw (was_before q (omega (arith, above)) (inside (q - 1) (omega (arith, above)) (omega (arith, in_s, above))), inside q (omega (arith, above)) in_s) refl
        | inr at_end ↦ (let e : q ≡ end_of s = omega arith in rw (ap f e ∙ past (omega (arith, within, e))) refl)
      ]

      to_next : ((end_of s < n) ⊎ (n ≤ end_of s)) → filter begins (range_with_len (s.start + 1) (n - s.start - 1)) ≡ filter begins (range_with_len (end_of s + 1) (n - (end_of s + 1)))
      to_next (inl more) =
          let a : s.start + 1 + s.len ≡ end_of s + 1 = omega arith in let b : n - s.start - 1 - s.len ≡ n - (end_of s + 1) = omega arith in
          filter_skip begins (s.start + 1) (n - s.start - 1) s.len (omega (arith, more)) (λ q above below. no_begin q (omega (arith, above)) (omega (arith, below)) (omega (arith, below, more)))
          ∙ ap (λ q. filter begins (range_with_len q (n - s.start - 1 - s.len))) a ∙ ap (λ m. filter begins (range_with_len (end_of s + 1) m)) b
      to_next (inr end) =
          let a : n - s.start - 1 - (n - s.start - 1) ≡ 0 = omega arith in let b : n - (end_of s + 1) ≡ 0 = omega (arith, end) in
          filter_skip begins (s.start + 1) (n - s.start - 1) (n - s.start - 1) (omega arith) (λ q above below. no_begin q (omega (arith, above)) (omega (arith, below, end)) (omega (arith, below, apart.1, apart.2)))
          ∙ ap (λ m. filter begins (range_with_len (s.start + 1 + (n - s.start - 1)) m)) a ∙ ap (λ m. filter begins (range_with_len (end_of s + 1) m)) (sym b)

  -- The runs of what spans hold that lie apart are these spans.
  pub apart_runs : (ss : List Span) → AreApartFrom 0 n ss → ((q : ℕ) → q < n → f q ≡ in_spans ss q) → runs f n ≡ ss
  apart_runs ss apart same = let e : n - 0 ≡ n = omega arith in ap (λ m. map (λ p. span_between p (end_of_run f n p)) (filter begins (range_with_len 0 m))) (sym e) ∙ apart_runs_from 0 ss apart (λ q above below. same q below) (λ more. refl)
