-- Parts of kept runs that lie in spans: one step of the pass over both.
use Rattle.std.proofs.Common.{◌≡◌, ℕ, zero, suc, ◌+◌, ◌-◌, ◌<◌, ◌≤◌, ◌⊎◌, max, min, List, [], ◌∷◌, ◌++◌, ◌^◌, length, drop, slice_index_or, inl, inr, refl, sym, ap, subst, ◌∙◌, arith, append_assoc}
use Rattle.std.proofs.lemmas.List.{append-nil, drop_more, drop_all}
use Rattle.ed_base.specs.declared.edit.Span.{Span}
use Rattle.ed_base.specs.Spans.{end_of}
use Rattle.ed_kept.specs.declared.kept.KeptRun.{KeptRun}
use Rattle.ed_kept.specs.Kept.{ArePairsRising, pairs_of, run_pairs}
use Rattle.ed_kept.proofs.Rising.{run_join, rising_join, rising_run, rising_weak, rising_within, run_behind, Behind}
use Rattle.ed_spans.proofs.GapLemmas.{apart_earlier}
use Rattle.std.proofs.lemmas.Bool.{cases_lt}
use Rattle.ed_spans.specs.SpanSets.{held_below, AreApartFrom}
use Rattle.ed_spans.proofs.PlaceLemmas.{holds_from, holds_none}
use Rattle.ed_spans.proofs.RunLemmas.{apart_before}
use Rattle.ed_elide.specs.Pairs.{part_pairs, placed_in}

-- spans that begin at p or behind hold nothing below
held_none : (p n q : ℕ) (ss : List Span) → AreApartFrom p n ss → q ≤ p → held_below q ss ≡ 0
held_none p n q [] apart below = refl
held_none p n q (s ∷ ss) apart below = omega (arith, apart.0, held_none (end_of s + 1) n q ss apart.3 (omega (arith, apart.0)))

-- a row of pairs before all spans adds nothing
placed_before : (p n f o w k : ℕ) (ss : List Span) (ps : List (ℕ × ℕ)) → AreApartFrom p n ss → o + k ≤ p → placed_in f ss (run_pairs o w k ++ ps) ≡ placed_in f ss ps
placed_before p n f o w zero ss ps apart below = refl
placed_before p n f o w (suc k) ss ps apart below = rw (apart_before p n o ss apart (omega (arith, below))) (placed_before p n f (o + 1) (w + 1) k ss ps apart (omega (arith, below)))

module _ (n f : ℕ) (s : Span) (ss : List Span) (apart : AreApartFrom (end_of s + 1) n ss) where
  -- before the first span
  placed_front : (o w k : ℕ) (ps : List (ℕ × ℕ)) → o + k ≤ s.start → placed_in f (s ∷ ss) (run_pairs o w k ++ ps) ≡ placed_in f (s ∷ ss) ps
  placed_front o w zero ps below = refl
  placed_front o w (suc k) ps below = rw (holds_none s o (λ a b. omega (arith, a, below)), apart_before (end_of s + 1) n o ss apart (omega (arith, below))) (placed_front (o + 1) (w + 1) k ps (omega (arith, below)))

  -- in the first span
  placed_inside : (o w k g : ℕ) (ps : List (ℕ × ℕ)) → s.start ≤ o → o + k ≤ end_of s → g ≡ f + (o - s.start) → placed_in f (s ∷ ss) (run_pairs o w k ++ ps) ≡ run_pairs g w k ++ placed_in f (s ∷ ss) ps
  placed_inside o w zero g ps from below is = refl
  placed_inside o w (suc k) g ps from below is =
      let none : held_below o ss ≡ 0 = held_none (end_of s + 1) n o ss apart (omega (arith, below)) in
      let at : f + (min o (end_of s) - s.start + held_below o ss) ≡ g = omega (arith, none, is, below, from) in
      rw (holds_from s o from (omega (arith, below)), at) (ap (λ u. (g, w) ∷ u) (placed_inside (o + 1) (w + 1) k (g + 1) ps (omega (arith, from)) (omega (arith, below)) (omega (arith, is, from))))

  -- behind the first span
  placed_rest : (i j a b : ℕ) (ps : List (ℕ × ℕ)) → end_of s ≤ i → ArePairsRising i j a b ps → placed_in f (s ∷ ss) ps ≡ placed_in (f + s.len) ss ps
  placed_rest i j a b [] past rising = refl
  placed_rest i j a b (pair ∷ ps) past rising =
      let at : f + (min pair.0 (end_of s) - s.start + held_below pair.0 ss) ≡ f + s.len + held_below pair.0 ss = omega (arith, past, rising.0) in
      rw (holds_none s pair.0 (λ x y. omega (arith, y, past, rising.0)), at, placed_rest (pair.0 + 1) (pair.1 + 1) a b ps (omega (arith, past, rising.0)) rising.2) refl

  -- a row that goes on to the end of the first span or further, in three parts
  placed_three : (o w x y z g a b : ℕ) (ps : List (ℕ × ℕ)) → o + x ≤ s.start ⊎ (x ≡ 0) → s.start ≤ o + x → o + x + y ≡ end_of s → g ≡ f + (o + x - s.start) → ArePairsRising (o + x + y + z) (w + x + y + z) a b ps
      → placed_in f (s ∷ ss) (run_pairs o w (x + (y + z)) ++ ps) ≡ run_pairs g (w + x) y ++ placed_in (f + s.len) ss (run_pairs o w (x + (y + z)) ++ ps)
  placed_three o w x y z g a b ps front from to is rising =
      let cut : run_pairs o w (x + (y + z)) ++ ps ≡ run_pairs o w x ++ (run_pairs (o + x) (w + x) y ++ (run_pairs (o + x + y) (w + x + y) z ++ ps)) =
      ap (λ u. u ++ ps) (run_join o w x (y + z) ∙ ap (λ u. run_pairs o w x ++ u) (run_join (o + x) (w + x) y z))
      ∙ append_assoc (run_pairs o w x) (run_pairs (o + x) (w + x) y ++ run_pairs (o + x + y) (w + x + y) z) ps
      ∙ ap (λ u. run_pairs o w x ++ u) (append_assoc (run_pairs (o + x) (w + x) y) (run_pairs (o + x + y) (w + x + y) z) ps) in
      let rest : ArePairsRising (o + x + y) (w + x + y) a b (run_pairs (o + x + y) (w + x + y) z ++ ps) = rising_join (o + x + y) (w + x + y) (o + x + y + z) (w + x + y + z) a b (run_pairs (o + x + y) (w + x + y) z) ps (rising_run (o + x + y) (w + x + y) z) rising in
      let left : placed_in f (s ∷ ss) (run_pairs o w (x + (y + z)) ++ ps) ≡ run_pairs g (w + x) y ++ placed_in (f + s.len) ss (run_pairs (o + x + y) (w + x + y) z ++ ps) =
      ap (placed_in f (s ∷ ss)) cut ∙ first front
      ∙ placed_inside (o + x) (w + x) y g (run_pairs (o + x + y) (w + x + y) z ++ ps) from (omega (arith, to)) is
      ∙ ap (λ u. run_pairs g (w + x) y ++ u) (placed_rest (o + x + y) (w + x + y) a b (run_pairs (o + x + y) (w + x + y) z ++ ps) (omega (arith, to)) rest) in
      let right : placed_in (f + s.len) ss (run_pairs o w (x + (y + z)) ++ ps) ≡ placed_in (f + s.len) ss (run_pairs (o + x + y) (w + x + y) z ++ ps) =
      ap (placed_in (f + s.len) ss) cut
      ∙ placed_before (end_of s + 1) n (f + s.len) o w x ss (run_pairs (o + x) (w + x) y ++ (run_pairs (o + x + y) (w + x + y) z ++ ps)) apart (omega (arith, to))
      ∙ placed_before (end_of s + 1) n (f + s.len) (o + x) (w + x) y ss (run_pairs (o + x + y) (w + x + y) z ++ ps) apart (omega (arith, to)) in
      left ∙ ap (λ u. run_pairs g (w + x) y ++ u) (sym right)
    where
      first : (o + x ≤ s.start ⊎ (x ≡ 0)) → placed_in f (s ∷ ss) (run_pairs o w x ++ (run_pairs (o + x) (w + x) y ++ (run_pairs (o + x + y) (w + x + y) z ++ ps))) ≡ placed_in f (s ∷ ss) (run_pairs (o + x) (w + x) y ++ (run_pairs (o + x + y) (w + x + y) z ++ ps))
      first (inl below) = placed_front o w x (run_pairs (o + x) (w + x) y ++ (run_pairs (o + x + y) (w + x + y) z ++ ps)) below
      first (inr none) = rw none refl

  -- a run that reaches to the end of the first span or further: the span is done
  pub span_done : (r : KeptRun) (a b : ℕ) (ps : List (ℕ × ℕ)) → end_of s ≤ r.old + r.len → ArePairsRising (r.old + r.len) (r.new + r.len) a b ps
      → placed_in f (s ∷ ss) (run_pairs r.old r.new r.len ++ ps) ≡ part_pairs f s r ++ placed_in (f + s.len) ss (run_pairs r.old r.new r.len ++ ps)
  span_done r a b ps reaches rising = elim (cases_lt r.old (end_of s)) [
    | inl meets ↦ meeting meets
    | inr behind ↦ (
        let none : min (r.old + r.len) (end_of s) - max r.old s.start ≡ 0 = omega (arith, behind, reaches) in
        let all : ArePairsRising r.old r.new a b (run_pairs r.old r.new r.len ++ ps) = rising_join r.old r.new (r.old + r.len) (r.new + r.len) a b (run_pairs r.old r.new r.len) ps (rising_run r.old r.new r.len) rising in
        rw none (placed_rest r.old r.new a b (run_pairs r.old r.new r.len ++ ps) behind all))
  ]
    where
      meeting : r.old < end_of s → placed_in f (s ∷ ss) (run_pairs r.old r.new r.len ++ ps) ≡ part_pairs f s r ++ placed_in (f + s.len) ss (run_pairs r.old r.new r.len ++ ps)
      meeting meets =
          let x : ℕ = max r.old s.start - r.old in
          let y : ℕ = min (r.old + r.len) (end_of s) - max r.old s.start in
          let z : ℕ = r.old + r.len - end_of s in
          let len : r.len ≡ x + (y + z) = omega (arith, meets, reaches) in
          let end : r.old + r.len ≡ r.old + x + y + z = omega (arith, len) in
          let end' : r.new + r.len ≡ r.new + x + y + z = omega (arith, len) in
          subst (λ l. placed_in f (s ∷ ss) (run_pairs r.old r.new l ++ ps) ≡ part_pairs f s r ++ placed_in (f + s.len) ss (run_pairs r.old r.new l ++ ps)) (sym len)
          (placed_three r.old r.new x y z (f + (max r.old s.start - s.start)) a b ps (start (cases_lt r.old s.start)) (omega arith) (omega (arith, meets, reaches)) (omega arith)
          (subst (λ (u : ℕ). ArePairsRising u (r.new + x + y + z) a b ps) end (subst (λ (u : ℕ). ArePairsRising (r.old + r.len) u a b ps) end' rising)))
        where
          start : (r.old < s.start) ⊎ (s.start ≤ r.old) → (r.old + (max r.old s.start - r.old) ≤ s.start) ⊎ (max r.old s.start - r.old ≡ 0)
          start (inl less) = inl (omega (arith, less))
          start (inr more) = inr (omega (arith, more))

  -- a run that ends before the first span does: the run is done
  pub run_done : (r : KeptRun) (ps : List (ℕ × ℕ)) → r.old + r.len < end_of s → placed_in f (s ∷ ss) (run_pairs r.old r.new r.len ++ ps) ≡ part_pairs f s r ++ placed_in f (s ∷ ss) ps
  run_done r ps short = elim (cases_lt (r.old + r.len) s.start) [
    | inl before ↦ (let none : min (r.old + r.len) (end_of s) - max r.old s.start ≡ 0 = omega (arith, before) in rw none (placed_front r.old r.new r.len ps (omega (arith, before))))
    | inr meets ↦ meeting meets
  ]
    where
      meeting : s.start ≤ r.old + r.len → placed_in f (s ∷ ss) (run_pairs r.old r.new r.len ++ ps) ≡ part_pairs f s r ++ placed_in f (s ∷ ss) ps
      meeting meets =
          let x : ℕ = max r.old s.start - r.old in
          let y : ℕ = min (r.old + r.len) (end_of s) - max r.old s.start in
          let len : r.len ≡ x + y = omega (arith, meets, short) in
          let cut : run_pairs r.old r.new (x + y) ++ ps ≡ run_pairs r.old r.new x ++ (run_pairs (r.old + x) (r.new + x) y ++ ps) = ap (λ u. u ++ ps) (run_join r.old r.new x y) ∙ append_assoc (run_pairs r.old r.new x) (run_pairs (r.old + x) (r.new + x) y) ps in
          ap (λ l. placed_in f (s ∷ ss) (run_pairs r.old r.new l ++ ps)) len ∙ ap (placed_in f (s ∷ ss)) cut ∙ first (cases_lt r.old s.start)
          ∙ placed_inside (r.old + x) (r.new + x) y (f + (max r.old s.start - s.start)) ps (omega arith) (omega (arith, meets, short)) (omega arith)
        where
          first : (r.old < s.start) ⊎ (s.start ≤ r.old) → placed_in f (s ∷ ss) (run_pairs r.old r.new (max r.old s.start - r.old) ++ (run_pairs (r.old + (max r.old s.start - r.old)) (r.new + (max r.old s.start - r.old)) (min (r.old + r.len) (end_of s) - max r.old s.start) ++ ps))
              ≡ placed_in f (s ∷ ss) (run_pairs (r.old + (max r.old s.start - r.old)) (r.new + (max r.old s.start - r.old)) (min (r.old + r.len) (end_of s) - max r.old s.start) ++ ps)
          first (inl less) = placed_front r.old r.new (max r.old s.start - r.old) (run_pairs (r.old + (max r.old s.start - r.old)) (r.new + (max r.old s.start - r.old)) (min (r.old + r.len) (end_of s) - max r.old s.start) ++ ps) (omega (arith, less))
          first (inr more) = let none : max r.old s.start - r.old ≡ 0 = omega (arith, more) in let same : r.old + 0 ≡ r.old = omega arith in rw none refl

-- ---- the pass over both

-- what is left of spans and of runs, and what is found
pub record Walking (whole : List (ℕ × ℕ)) (from : ℕ) (ss : List Span) (rs found : List KeptRun) : Type 0 where
  pub rising : ArePairsRising 0 0 (2 ^ 32 - 1) (2 ^ 32 - 1) (pairs_of rs)
  pub apart : AreApartFrom from (2 ^ 32 - 1) ss
  pub done : pairs_of found ++ placed_in from ss (pairs_of rs) ≡ whole

module _ (whole : List (ℕ × ℕ)) (from : ℕ) (s : Span) (ss : List Span) (r : KeptRun) (rs found more : List KeptRun) (w : Walking whole from (s ∷ ss) (r ∷ rs) found) where
  behind_run : 0 < r.len → Behind 0 0 (2 ^ 32 - 1) (2 ^ 32 - 1) r.old r.new r.len (pairs_of rs)
  behind_run some = run_behind 0 0 (2 ^ 32 - 1) (2 ^ 32 - 1) r rs (r ∷ rs) refl some w.rising

  pub run_fits : 0 < r.len → (r.old + r.len ≤ 2 ^ 32 - 1) × (r.new + r.len ≤ 2 ^ 32 - 1)
  run_fits some = rising_within (r.old + r.len) (r.new + r.len) (2 ^ 32 - 1) (2 ^ 32 - 1) (pairs_of rs) (behind_run some).rest

  pub walk_empty : r.len ≡ 0 → Walking whole from (s ∷ ss) rs found
  walk_empty none =
      let same : pairs_of (r ∷ rs) ≡ pairs_of rs = ap (λ l. run_pairs r.old r.new l ++ pairs_of rs) none in
      record { rising = subst (λ ps. ArePairsRising 0 0 (2 ^ 32 - 1) (2 ^ 32 - 1) ps) same w.rising; apart = w.apart; done = ap (λ ps. pairs_of found ++ placed_in from (s ∷ ss) ps) (sym same) ∙ w.done }

  pub walk_span : 0 < r.len → end_of s ≤ r.old + r.len → pairs_of more ≡ pairs_of found ++ part_pairs from s r → Walking whole (from + s.len) ss (r ∷ rs) more
  walk_span some reaches is = record {
    rising = w.rising;
    apart = apart_earlier (from + s.len) (end_of s + 1) (2 ^ 32 - 1) ss (omega (arith, w.apart.0)) w.apart.3;
    done = ap (λ u. u ++ placed_in (from + s.len) ss (pairs_of (r ∷ rs))) is ∙ append_assoc (pairs_of found) (part_pairs from s r) (placed_in (from + s.len) ss (pairs_of (r ∷ rs)))
        ∙ ap (λ u. pairs_of found ++ u) (sym (span_done (2 ^ 32 - 1) from s ss w.apart.3 r (2 ^ 32 - 1) (2 ^ 32 - 1) (pairs_of rs) reaches (behind_run some).rest)) ∙ w.done;
  }

  pub walk_run : 0 < r.len → r.old + r.len < end_of s → pairs_of more ≡ pairs_of found ++ part_pairs from s r → Walking whole from (s ∷ ss) rs more
  walk_run some short is = record {
    rising = rising_weak 0 0 (r.old + r.len) (r.new + r.len) (2 ^ 32 - 1) (2 ^ 32 - 1) (pairs_of rs) (omega arith) (omega arith) (behind_run some).rest;
    apart = w.apart;
    done = ap (λ u. u ++ placed_in from (s ∷ ss) (pairs_of rs)) is ∙ append_assoc (pairs_of found) (part_pairs from s r) (placed_in from (s ∷ ss) (pairs_of rs))
        ∙ ap (λ u. pairs_of found ++ u) (sym (run_done (2 ^ 32 - 1) from s ss w.apart.3 r (pairs_of rs) short)) ∙ w.done;
  }

pub walk_no_runs : (whole : List (ℕ × ℕ)) (from at : ℕ) (ss : List Span) (runs found : List KeptRun) → length runs ≤ at → Walking whole from ss (drop at runs) found → pairs_of found ≡ whole
walk_no_runs whole from at ss runs found end w = sym (append-nil (pairs_of found)) ∙ (subst (λ (rs : List KeptRun). Walking whole from ss rs found) (drop_all at runs end) w).done

placed_nowhere : (from : ℕ) (ps : List (ℕ × ℕ)) → placed_in from [] ps ≡ []
placed_nowhere from [] = refl
placed_nowhere from (p ∷ ps) = placed_nowhere from ps

pub walk_no_spans : (whole : List (ℕ × ℕ)) (from next : ℕ) (spans : List Span) (rs found : List KeptRun) → length spans ≤ next → Walking whole from (drop next spans) rs found → pairs_of found ≡ whole
walk_no_spans whole from next spans rs found end w =
    sym (append-nil (pairs_of found)) ∙ ap (λ u. pairs_of found ++ u) (sym (placed_nowhere from (pairs_of rs))) ∙ (subst (λ (ss : List Span). Walking whole from ss rs found) (drop_all next spans end) w).done

-- what stands at both places of the pass
pub walk_at : (whole : List (ℕ × ℕ)) (from at next : ℕ) (spans : List Span) (runs found : List KeptRun) (s : Span) (r : KeptRun) → at < length runs → next < length spans → Walking whole from (drop next spans) (drop at runs) found
    → Walking whole from (slice_index_or spans next s ∷ drop (next + 1) spans) (slice_index_or runs at r ∷ drop (at + 1) runs) found
walk_at whole from at next spans runs found s r below below' w =
    subst (λ (rs : List KeptRun). Walking whole from (slice_index_or spans next s ∷ drop (next + 1) spans) rs found) (drop_more runs at r below)
    (subst (λ (ss : List Span). Walking whole from ss (drop at runs) found) (drop_more spans next s below') w)

pub walk_back : (whole : List (ℕ × ℕ)) (from next : ℕ) (spans : List Span) (rs found : List KeptRun) (s : Span) → next < length spans → Walking whole from (slice_index_or spans next s ∷ drop (next + 1) spans) rs found → Walking whole from (drop next spans) rs found
walk_back whole from next spans rs found s below w = subst (λ (ss : List Span). Walking whole from ss rs found) (sym (drop_more spans next s below)) w

pub walk_kept : (whole : List (ℕ × ℕ)) (from at : ℕ) (ss : List Span) (runs found : List KeptRun) (r : KeptRun) → at < length runs → Walking whole from ss (slice_index_or runs at r ∷ drop (at + 1) runs) found → Walking whole from ss (drop at runs) found
walk_kept whole from at ss runs found r below w = subst (λ (rs : List KeptRun). Walking whole from ss rs found) (sym (drop_more runs at r below)) w
