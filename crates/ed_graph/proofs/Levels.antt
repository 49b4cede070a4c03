-- Why no buffer stands on itself: what ranks buffers above their sources makes their heights do so, and stays when a buffer is put on sources that don't reach it.
use Rattle.std.proofs.Common.{◌≡◌, ◌≢◌, ℕ, zero, suc, ◌+◌, ◌<◌, ◌≤◌, Bool, true, false, cond, inl, inr, List, [], length, map, fold, max, refl, sym, ◌∙◌, ap, subst, arith}
use Rattle.std.proofs.lemmas.Bool.{cases_Bool, cases_lt, cases_eq, eqb-true, eq-eqb}
use Rattle.std.proofs.lemmas.List.FromFn.{length-map-range_with_len}
use Rattle.std.specs.Prelude.{nat_eq}
use Rattle.std.specs.List.{AllByRecursion as Each, list_any}
use Rattle.ed_base.specs.Numbers.{places, is_among}
use Rattle.ed_layers.specs.Graph.{height_within, reaches_within}
use Rattle.ed_graph.proofs.Lists.{each_weaker, each_both, map_agree, each_below, greatest_reached, or_left, or_right, or_cases, same_bools, each_gives_some, from_some, holds_many, among_values}
use Rattle.ed_graph.proofs.Fuel.{within_rounds, found}

-- ---- a ranking gives heights

module _ (S : ℕ → List ℕ) (n : ℕ) (r : ℕ → ℕ) (ranked : (b : ℕ) → Each (λ s. r s < r b) (S b)) where
  -- the height at last
  abbrev high : ℕ → ℕ
  high b = height_within S n (r b) b

  high_is : (b : ℕ) → high b ≡ fold max 0 (map (λ s. high s + 1) (S b))
  unfolding height_within
  high_is b =
      sym (found S n r ranked (suc (r b)) b (omega arith))
      ∙ ap (λ xs. fold max 0 xs) (map_agree (λ s. height_within S n (r b) s + 1) (λ s. high s + 1) (S b)
      (each_weaker (λ s. r s < r b) _ (λ s l. ap (λ x. x + 1) (found S n r ranked (r b) s (omega arith))) (S b) (ranked b)))

  high_ranked : (b : ℕ) → Each (λ s. high s < high b) (S b)
  high_ranked b =
      each_weaker (λ s. high s + 1 ≤ fold max 0 (map (λ x. high x + 1) (S b))) (λ s. high s < high b) (λ s l. let e : high b ≡ fold max 0 (map (λ x. high x + 1) (S b)) = high_is b in omega arith) (S b)
      (each_below (λ s. high s + 1) (S b) 0)

  module _ (within : (b : ℕ) → Each (λ s. s < n) (S b)) (past : (b : ℕ) → n ≤ b → S b ≡ []) where
    -- each height up to that of a buffer is the height of some buffer
    reached : (d b : ℕ) → high b ≡ d → b < n → (m : ℕ) → m ≤ d → (c : ℕ) × (c < n) × (high c ≡ m)
    reached zero b e there m le = (b, there, (let f : m ≡ 0 = omega arith in e ∙ sym f))
    reached (suc d) b e there m le =
        elim (cases_eq m (suc d)) [
          | inl f ↦ (b, there, e ∙ sym f)
          | inr ne ↦ (let top : (s : ℕ) × (s < n) × (high s + 1 ≡ suc d) = greatest_reached (λ s. high s + 1) (λ s. s < n) (suc d) (S b) (within b) 0 (omega arith) (sym (high_is b) ∙ e) in
              reached d top.0 (let g : high top.0 + 1 ≡ suc d = top.2 in omega arith) top.1 m (omega arith))
        ]

    high_few : (b : ℕ) → high b ≤ n
    high_few b = elim (cases_lt b n) [
      | inl there ↦
          (let many : suc (high b) ≤ length (map high (places n)) = holds_many (suc (high b)) (map high (places n))
          (λ m h. let c : (c : ℕ) × (c < n) × (high c ≡ m) = reached (high b) b refl there m (omega arith) in
          subst (λ x. is_among x (map high (places n)) ≡ true) c.2 (among_values high n 0 c.0 (omega arith) (let l : c.0 < n = c.1 in omega arith))) in
          omega (arith, length-map-range_with_len high 0 n))
      | inr h ↦ (let e : high b ≡ 0 = high_is b ∙ ap (λ ss. fold max 0 (map (λ s. high s + 1) ss)) (past b h) in omega arith)
    ]

    height_is_high : (b : ℕ) → height_within S n n b ≡ high b
    height_is_high b =
        found S n high high_ranked n b (high_few b)
        ∙ (sym (found S n high high_ranked (high b + r b) b (omega arith)) ∙ found S n r ranked (high b + r b) b (omega arith))

    -- so each source stands lower
    pub lower : (b : ℕ) → Each (λ s. height_within S n n s < height_within S n n b) (S b)
    lower b = each_weaker (λ s. high s < high b) _ (λ s l. let e : height_within S n n s ≡ high s = height_is_high s in let f : height_within S n n b ≡ high b = height_is_high b in omega arith) (S b) (high_ranked b)

-- ---- heights rule reaching

module _ (S : ℕ → List ℕ) (n : ℕ) (lower_sources : (b : ℕ) → Each (λ s. height_within S n n s < height_within S n n b) (S b)) where
  -- what is reached doesn't stand higher
  reaches_down : (k from to : ℕ) → reaches_within S n k from to ≡ true → height_within S n n to ≤ height_within S n n from
  unfolding reaches_within
  reaches_down zero from to h = let e : from ≡ to = eqb-true from to h in let f : height_within S n n from ≡ height_within S n n to = ap (height_within S n n) e in omega arith
  reaches_down (suc k) from to h =
      elim (or_cases (nat_eq from to) (list_any (λ s. reaches_within S n k s to) (S from)) h) [
        | inl same ↦
            (let e : from ≡ to = eqb-true from to same in let f : height_within S n n from ≡ height_within S n n to = ap (height_within S n n) e in omega arith)
        | inr some ↦ from_some (λ s. reaches_within S n k s to) (height_within S n n to ≤ height_within S n n from) (S from)
            (each_weaker (λ s. height_within S n n s < height_within S n n from) _ (λ s l does. let d : height_within S n n to ≤ height_within S n n s = reaches_down k s to does in omega arith) (S from) (lower_sources from)) some
      ]

  -- so no source reaches its buffer
  pub no_way_back : (b : ℕ) → Each (λ s. reaches_within S n n s b ≡ false) (S b)
  no_way_back b =
      each_weaker (λ s. height_within S n n s < height_within S n n b) _ (λ s l. elim (cases_Bool (reaches_within S n n s b)) [
        | inl does ↦
            absurd (let d : height_within S n n b ≤ height_within S n n s = reaches_down n s b does in omega arith)
        | inr not_so ↦ not_so
      ]) (S b) (lower_sources b)

  -- as many steps as a buffer is high reach all that is reached from it
  pub enough_steps : (k from to : ℕ) → reaches_within S n k from to ≡ true → (j : ℕ) → height_within S n n from ≤ j → reaches_within S n j from to ≡ true
  unfolding reaches_within
  enough_steps zero from to h zero le = h
  enough_steps zero from to h (suc j) le = or_left (nat_eq from to) _ h
  enough_steps (suc k) from to h zero le =
      elim (or_cases (nat_eq from to) (list_any (λ s. reaches_within S n k s to) (S from)) h) [
        | inl same ↦ same
        | inr some ↦ from_some (λ s. reaches_within S n k s to) (nat_eq from to ≡ true) (S from)
            (each_weaker (λ s. height_within S n n s < height_within S n n from) _ (λ s l yes. absurd (omega arith)) (S from) (lower_sources from)) some
      ]
  enough_steps (suc k) from to h (suc j) le =
      elim (or_cases (nat_eq from to) (list_any (λ s. reaches_within S n k s to) (S from)) h) [
        | inl same ↦ or_left (nat_eq from to) _ same
        | inr some ↦ or_right (nat_eq from to) _ (from_some (λ s. reaches_within S n k s to) (list_any (λ s. reaches_within S n j s to) (S from) ≡ true) (S from)
            (each_both (λ s. height_within S n n s < height_within S n n from) (λ s. reaches_within S n j s to ≡ true → list_any (λ x. reaches_within S n j x to) (S from) ≡ true) _
            (λ s l gives yes. gives (enough_steps k s to yes j (omega arith))) (S from) (lower_sources from) (each_gives_some (λ x. reaches_within S n j x to) (S from))) some)
      ]

  pub same_reaching : (j : ℕ) → (from to : ℕ) → height_within S n n from ≤ j → height_within S n n from ≤ n → reaches_within S n j from to ≡ reaches_within S n n from to
  same_reaching j from to le le' = same_bools _ _ (λ h. enough_steps j from to h n le') (λ h. enough_steps n from to h j le)

  -- a buffer reaches what its sources reach
  pub reaches_through : (b to : ℕ) → Each (λ s. reaches_within S n n s to ≡ true → reaches_within S n n b to ≡ true) (S b)
  unfolding reaches_within
  reaches_through b to =
      each_weaker (λ s. reaches_within S n n s to ≡ true → list_any (λ x. reaches_within S n n x to) (S b) ≡ true) _
      (λ s gives yes. enough_steps (suc n) b to (or_right (nat_eq b to) _ (gives yes)) n (within_rounds S n n b)) (S b)
      (each_gives_some (λ x. reaches_within S n n x to) (S b))

  reaches_itself : (k b : ℕ) → reaches_within S n k b b ≡ true
  unfolding reaches_within
  reaches_itself zero b = eq-eqb b b refl
  reaches_itself (suc k) b = or_left (nat_eq b b) _ (eq-eqb b b refl)

  -- ---- other sources for one buffer, none of which reaches it
  module _ (T : ℕ → List ℕ) (x : ℕ) (others : (b : ℕ) → b ≢ x → T b ≡ S b) (none_reaches : Each (λ s. reaches_within S n n s x ≡ false) (T x)) where
    -- what reaches the buffer ranks above all that doesn't
    abbrev pub rank_over : ℕ → ℕ
    rank_over b = height_within S n n b + cond (reaches_within S n n b x) (suc n) 0

    rank_of : (b : ℕ) (t : Bool) → reaches_within S n n b x ≡ t → rank_over b ≡ height_within S n n b + cond t (suc n) 0
    rank_of b t e = ap (λ v. height_within S n n b + cond v (suc n) 0) e

    pub rank_over_sources : (b : ℕ) → Each (λ s. rank_over s < rank_over b) (T b)
    rank_over_sources b = elim (cases_eq b x) [
      | inl e ↦ subst (λ c. Each (λ s. rank_over s < rank_over c) (T c)) (sym e)
          (each_weaker (λ s. reaches_within S n n s x ≡ false) (λ s. rank_over s < rank_over x) (λ s unreached.
          let a : rank_over s ≡ height_within S n n s + 0 = rank_of s false unreached in
          let c : rank_over x ≡ height_within S n n x + suc n = rank_of x true (reaches_itself n x) in
          let d : height_within S n n s ≤ n = within_rounds S n n s in omega arith) (T x) none_reaches)
      | inr ne ↦ subst (λ ss. Each (λ s. rank_over s < rank_over b) ss) (sym (others b ne))
          (each_both (λ s. height_within S n n s < height_within S n n b) (λ s. reaches_within S n n s x ≡ true → reaches_within S n n b x ≡ true) (λ s. rank_over s < rank_over b)
          (λ s l gives. elim (cases_Bool (reaches_within S n n s x)) [
            | inl does ↦
                (let a : rank_over s ≡ height_within S n n s + suc n = rank_of s true does in
                let c : rank_over b ≡ height_within S n n b + suc n = rank_of b true (gives does) in omega arith)
            | inr not_so ↦ (let a : rank_over s ≡ height_within S n n s + 0 = rank_of s false not_so in omega arith)
          ])
          (S b) (lower_sources b) (reaches_through b x))
    ]
