-- The places that stay hidden and those put in among hidden ones are the hidden places after a step.
use Rattle.std.proofs.Common.{◌≡◌, ℕ, zero, suc, ◌+◌, ◌-◌, ◌<◌, ◌≤◌, Bool, true, false, not, ◌&&◌, ◌||◌, List, [], ◌∷◌, ◌++◌, All, length, map, min, slice_get, inl, inr, refl, sym, ap, subst, ◌∙◌, arith}
use Rattle.std.specs.List.{list_any, range_with_len}
use Rattle.std.specs.Prelude.{unwrap_or}
use Rattle.ed_kept.proofs.RunLemmas.{step_rising}
use Rattle.std.proofs.lemmas.Bool.{cases_lt, lt-ltb, le-ltb, eq-eqb, ne_eqb}
use Rattle.ed_base.specs.declared.edit.Change.{Change}
use Rattle.ed_base.specs.declared.edit.Span.{Span}
use Rattle.ed_base.specs.ChangeList.{ChangeList, AreNormalFrom, IsNormal, new_len, step}
use Rattle.ed_base.specs.Spans.{end_of, span_between, holds_place}
use Rattle.ed_base.proofs.NormalLists.{end_from, new_len_is_end, reached_below_end}
use Rattle.ed_base.proofs.NormalSteps.{run, kept_from, normal_kept}
use Rattle.ed_kept.specs.declared.kept.KeptRun.{KeptRun}
use Rattle.ed_kept.specs.Kept.{ArePairsRising, pairs_of, run_pairs}
use Rattle.ed_layers.specs.Records.{is_hidden}
use Rattle.ed_layers.specs.Hidden.{among_hidden, flags_after, hidden_by, in_some}
use Rattle.ed_layers.specs.SourceStep.{SourceStep, names, trail_at}
use Rattle.ed_pieces.specs.declared.trails.TrailRun.{TrailRun}
use Rattle.ed_pieces.specs.Trails.{AreRising, trail_in, trails_in}
use Rattle.ed_spans.specs.SpanSets.{in_spans, before, EndsWithin}
use Rattle.ed_spans.proofs.PlaceLemmas.{holds_from, holds_none, holds_parts}
use Rattle.ed_elide.specs.AfterStep.{after_changes, left_of, right_of, new_spans, own_spans, put_in, put_spans, stay}
use Rattle.ed_elide.specs.Pairs.{placed_in}
use Rattle.ed_elide.proofs.AfterLemmas.{flags_after_is, map_split, map_shift}
use Rattle.ed_elide.proofs.FlagLemmas.{get_places, hidden_at, map_places}
use Rattle.ed_elide.proofs.PairLemmas.{AreFrom, AreBelow, at, kept_are_from, run_below, run_from}
use Rattle.ed_elide.proofs.PutLemmas.{puts_apart}
use Rattle.ed_kept.proofs.Rising.{Behind, run_behind, rising_within}
use Rattle.ed_spans.proofs.RunLemmas.{apart_before}

-- ---- spans as the code makes them

before_holds : (p a q : ℕ) (ss : List Span) → in_spans (before p a ss) q ≡ (holds_place (span_between p a) q || in_spans ss q)
before_holds p a q ss = elim (cases_lt p a) [
  | inl some ↦ rw (lt-ltb p a some) refl
  | inr none ↦ rw (le-ltb p a none, holds_none (span_between p a) q (λ x y. omega (arith, x, y, none))) refl
]

abbrev any_at : List (ℕ × ℕ) → ℕ → Bool
any_at pairs q = list_any (at q) pairs

any_append : (xs ys : List (ℕ × ℕ)) (q : ℕ) → list_any (at q) (xs ++ ys) ≡ (list_any (at q) xs || list_any (at q) ys)
any_append [] ys q = refl
any_append (x ∷ xs) ys q = rw (any_append xs ys q) (assoc (at q x) (list_any (at q) xs) (list_any (at q) ys))
  where
    assoc : (x y z : Bool) → (x || (y || z)) ≡ ((x || y) || z)
    assoc true y z = refl
    assoc false y z = refl

any_run : (o w k q : ℕ) → list_any (at q) (run_pairs o w k) ≡ holds_place (span_between w (w + k)) q
any_run o w zero q = sym (holds_none (span_between w (w + 0)) q (λ a b. omega (arith, a, b)))
any_run o w (suc k) q = rw (any_run (o + 1) (w + 1) k q) (grind arith)

-- the new places of kept runs
pub new_hold : (q : ℕ) (rs : List KeptRun) → in_spans (new_spans rs) q ≡ list_any (at q) (pairs_of rs)
new_hold q [] = refl
new_hold q (r ∷ rs) = before_holds r.new (r.new + r.len) q (new_spans rs) ∙ rw (new_hold q rs) (ap (λ b. b || list_any (at q) (pairs_of rs)) (sym (any_run r.old r.new r.len q)) ∙ sym (any_append (run_pairs r.old r.new r.len) (pairs_of rs) q))

-- the places that came through the buffer
trail_none : (p q : ℕ) (rs : List TrailRun) → AreRising p rs → q < p → trail_in rs q ≡ []
trail_none p q [] rising below = refl
trail_none p q (r ∷ rs) rising below = rw (holds_none r.span q (λ a b. omega (arith, a, below, rising.0))) (trail_none (end_of r.span) q rs rising.1 (omega (arith, below, rising.0)))

pub own_hold : (me n q p : ℕ) (rs : List TrailRun) → AreRising p rs → q < n → in_spans (own_spans me n rs) q ≡ names me (trail_in rs q)
own_hold me n q p [] rising below = refl
own_hold me n q p (r ∷ rs) rising below = front (names me r.trail) (holds_place r.span q) refl refl (own_hold me n q (end_of r.span) rs rising.1 below)
  where
    cut : holds_place (span_between r.span.start (min (end_of r.span) n)) q ≡ holds_place r.span q
    cut = elim (cases_lt q r.span.start) [
      | inl early ↦ rw (holds_none r.span q (λ a b. omega (arith, a, early)), holds_none (span_between r.span.start (min (end_of r.span) n)) q (λ a b. omega (arith, a, early))) refl
      | inr from ↦ elim (cases_lt q (end_of r.span)) [
        | inl inside ↦ rw (holds_from r.span q from inside, holds_from (span_between r.span.start (min (end_of r.span) n)) q from (omega (arith, inside, below, from))) refl
        | inr past ↦ rw (holds_none r.span q (λ a b. omega (arith, b, past)), holds_none (span_between r.span.start (min (end_of r.span) n)) q (λ a b. omega (arith, b, past, from))) refl
      ]
    ]

    none_later : holds_place r.span q ≡ true → trail_in rs q ≡ []
    none_later so = trail_none (end_of r.span) q rs rising.1 (holds_parts r.span q so).1

    front : (b h : Bool) → names me r.trail ≡ b → holds_place r.span q ≡ h → in_spans (own_spans me n rs) q ≡ names me (trail_in rs q) → in_spans (own_spans me n (r ∷ rs)) q ≡ names me (trail_in (r ∷ rs) q)
    front true true named so rest = rw (named, so) (before_holds r.span.start (min (end_of r.span) n) q (own_spans me n rs) ∙ rw (cut, so) (sym named))
    front true false named so rest = rw (named, so) (before_holds r.span.start (min (end_of r.span) n) q (own_spans me n rs) ∙ rw (cut, so) rest)
    front false true named so rest = rw (named, so) (rest ∙ ap (names me) (none_later so) ∙ sym named)
    front false false named so rest = rw (named, so) rest

within_before : (n p q : ℕ) (ss : List Span) → q ≤ n → All (EndsWithin n) ss → All (EndsWithin n) (before p q ss)
within_before n p q ss le all = elim (cases_lt p q) [
  | inl some ↦ rw (lt-ltb p q some) (added some)
  | inr none ↦ rw (le-ltb p q none) all
]
  where
    added : p < q → All (EndsWithin n) (span_between p q ∷ ss)
    added some zero d below = omega (arith, some, le)
    added some (suc k) d below = all k d (omega (arith, below))

pub own_within : (me n : ℕ) (rs : List TrailRun) → All (EndsWithin n) (own_spans me n rs)
own_within me n [] = λ k d below. absurd (omega arith)
own_within me n (r ∷ rs) = front (names me r.trail) refl (own_within me n rs)
  where
    front : (b : Bool) → names me r.trail ≡ b → All (EndsWithin n) (own_spans me n rs) → All (EndsWithin n) (own_spans me n (r ∷ rs))
    front true named rest = rw named (within_before n r.span.start (min (end_of r.span) n) (own_spans me n rs) (omega arith) rest)
    front false named rest = rw named rest

pub new_within : (i j n m : ℕ) (rs : List KeptRun) → ArePairsRising i j n m (pairs_of rs) → All (EndsWithin m) (new_spans rs)
new_within i j n m [] rising = λ k d below. absurd (omega arith)
new_within i j n m (r ∷ rs) rising = elim (cases_lt 0 r.len) [
  | inl some ↦ (
      let behind : Behind i j n m r.old r.new r.len (pairs_of rs) = run_behind i j n m r rs (r ∷ rs) refl some rising in
      let fits : (r.old + r.len ≤ n) × (r.new + r.len ≤ m) = rising_within (r.old + r.len) (r.new + r.len) n m (pairs_of rs) behind.rest in
      within_before m r.new (r.new + r.len) (new_spans rs) fits.1 (new_within (r.old + r.len) (r.new + r.len) n m rs behind.rest))
  | inr none ↦ (
      let zero_len : r.len ≡ 0 = omega (arith, none) in
      rw (le-ltb r.new (r.new + r.len) (omega (arith, none))) (new_within i j n m rs (subst (λ l. ArePairsRising i j n m (run_pairs r.old r.new l ++ pairs_of rs)) zero_len rising)))
]

-- ---- kept units that are hidden

module _ (flags : List Bool) where
  abbrev pub test : ℕ → ℕ × ℕ → Bool
  test q pair = at q pair && is_hidden flags pair.0

  pub placed_any : (n hs_from : ℕ) (hs : List Span) (q i j m : ℕ) (kept : List (ℕ × ℕ)) → ((p : ℕ) → p < n → in_spans hs p ≡ is_hidden flags p) → ArePairsRising i j n m kept → list_any (at q) (placed_in hs_from hs kept) ≡ list_any (test q) kept
  placed_any n f hs q i j m [] same rising = refl
  placed_any n f hs q i j m (pair ∷ kept) same rising =
      let within : (pair.0 + 1 ≤ n) × (pair.1 + 1 ≤ m) = rising_within (pair.0 + 1) (pair.1 + 1) n m kept rising.2 in
      front (is_hidden flags pair.0) refl (same pair.0 (omega (arith, within.0))) (placed_any n f hs q (pair.0 + 1) (pair.1 + 1) m kept same rising.2)
    where
      front : (b : Bool) → is_hidden flags pair.0 ≡ b → in_spans hs pair.0 ≡ is_hidden flags pair.0 → list_any (at q) (placed_in f hs kept) ≡ list_any (test q) kept → list_any (at q) (placed_in f hs (pair ∷ kept)) ≡ list_any (test q) (pair ∷ kept)
      front true hid is rest = rw (is, hid, rest) (true_and (at q pair))
        where
          true_and : (x : Bool) → (x || list_any (test q) kept) ≡ ((x && true) || list_any (test q) kept)
          true_and true = refl
          true_and false = refl
      front false hid is rest = rw (is, hid) (rest ∙ false_and (at q pair))
        where
          false_and : (x : Bool) → list_any (test q) kept ≡ ((x && false) || list_any (test q) kept)
          false_and true = refl
          false_and false = refl

  test_append : (xs ys : List (ℕ × ℕ)) (q : ℕ) → list_any (test q) (xs ++ ys) ≡ (list_any (test q) xs || list_any (test q) ys)
  test_append [] ys q = refl
  test_append (x ∷ xs) ys q = rw (test_append xs ys q) (assoc (test q x) (list_any (test q) xs) (list_any (test q) ys))
    where
      assoc : (x y z : Bool) → (x || (y || z)) ≡ ((x || y) || z)
      assoc true y z = refl
      assoc false y z = refl

  test_from : (q j : ℕ) (xs : List (ℕ × ℕ)) → q < j → AreFrom j xs → list_any (test q) xs ≡ false
  test_from q j [] less a = refl
  test_from q j (x ∷ xs) less a = rw (ne_eqb x.1 q (λ e. omega (arith, less, a.0, e))) (test_from q j xs less a.1)

  test_below : (q j : ℕ) (xs : List (ℕ × ℕ)) → j ≤ q → AreBelow j xs → list_any (test q) xs ≡ false
  test_below q j [] le a = refl
  test_below q j (x ∷ xs) le a = rw (ne_eqb x.1 q (λ e. omega (arith, le, a.0, e))) (test_below q j xs le a.1)

  test_run : (i j k d q p : ℕ) → d < k → q ≡ j + d → p ≡ i + d → list_any (test q) (run i j k) ≡ is_hidden flags p
  test_run i j zero d q p less is is' = absurd (omega arith)
  test_run i j (suc k) zero q p less is is' =
      let e : j ≡ q = omega (arith, is) in let e' : i ≡ p = omega (arith, is') in
      rw (eq-eqb j q e, test_from q (j + 1) (run (i + 1) (j + 1) k) (omega (arith, is)) (run_from (i + 1) (j + 1) k (j + 1) (omega arith))) (or_false (is_hidden flags i) ∙ ap (is_hidden flags) e')
    where
      or_false : (x : Bool) → (x || false) ≡ x
      or_false true = refl
      or_false false = refl
  test_run i j (suc k) (suc d) q p less is is' = rw (ne_eqb j q (λ e. omega (arith, is, e))) (test_run (i + 1) (j + 1) k d q p (omega arith) (omega (arith, is)) (omega (arith, is')))

  -- ---- the pass over the changes

  module _ (me : ℕ) (s : SourceStep) (n : ℕ) where
    abbrev pub hidden_next : ℕ → ℕ → List Change → ℕ → Bool
    hidden_next i j cs q = list_any (test q) (kept_from i j n cs) || (in_spans (put_spans flags n i j cs) q && not (names me (trail_at s q)))

    puts_before : (i j q : ℕ) (cs : List Change) → AreNormalFrom (i + 1) n cs → q ≤ j → in_spans (put_spans flags n i j cs) q ≡ false
    puts_before i j q cs normal le = let one : j + (i + 1 - i) ≡ j + 1 = omega arith in apart_before (j + (i + 1 - i)) (end_from i j n cs) q (put_spans flags n i j cs) (puts_apart flags n i j (i + 1) cs (omega arith) normal) (omega (arith, le))

    pub after_is : (i j p : ℕ) (cs : List Change) → i ≤ p → AreNormalFrom p n cs → map (hidden_next i j cs) (range_with_len j (end_from i j n cs - j)) ≡ after_changes me s flags n i j cs
    after_is i j p [] le normal =
        let e : j + (n - i) - j ≡ n - i = omega arith in
        ap (λ k. map (hidden_next i j []) (range_with_len j k)) e ∙ map_shift (hidden_next i j []) (is_hidden flags) j i (n - i) (λ d less. rw (test_run i j (n - i) d (j + d) (i + d) less refl refl) (or_false (is_hidden flags (i + d))))
      where
        or_false : (x : Bool) → (x || false) ≡ x
        or_false true = refl
        or_false false = refl
    after_is i j p (c ∷ cs) le normal =
        let k : ℕ = c.start - i in
        let l : ℕ = length c.text in
        let i' : ℕ = c.start + c.old_len in
        let j' : ℕ = j + (c.start - i) + length c.text in
        let m : ℕ = end_from i' j' n cs in
        let reached : j' ≤ m = reached_below_end i' j' n cs in
        let parts : m - j ≡ k + (l + (m - j')) = omega (arith, reached) in
        ap (λ x. map (hidden_next i j (c ∷ cs)) (range_with_len j x)) parts
        ∙ map_split (hidden_next i j (c ∷ cs)) j k (l + (m - j'))
        ∙ ap (λ u. u ++ map (hidden_next i j (c ∷ cs)) (range_with_len (j + k) (l + (m - j')))) stay_part
        ∙ ap (λ u. stay me s flags n i k ++ u) (map_split (hidden_next i j (c ∷ cs)) (j + k) l (m - j')
        ∙ ap (λ u. u ++ map (hidden_next i j (c ∷ cs)) (range_with_len (j + k + l) (m - j'))) put_part
        ∙ ap (λ u. put_in me s flags n among (j + k) l ++ u) (rest_part m ∙ after_is i' j' (i' + 1) cs (omega arith) normal.3))
      where
        among : Bool
        among = among_hidden flags (left_of c.start) (right_of n (c.start + c.old_len))

        rest_none : (q : ℕ) → q ≤ j + (c.start - i) + length c.text → in_spans (put_spans flags n (c.start + c.old_len) (j + (c.start - i) + length c.text) cs) q ≡ false
        rest_none q le = puts_before (c.start + c.old_len) (j + (c.start - i) + length c.text) q cs normal.3 le

        -- what the spans of the change hold
        puts_are : (q : ℕ) → in_spans (put_spans flags n i j (c ∷ cs)) q ≡ ((among && holds_place (span_between (j + (c.start - i)) (j + (c.start - i) + length c.text)) q) || in_spans (put_spans flags n (c.start + c.old_len) (j + (c.start - i) + length c.text) cs) q)
        puts_are q = front among refl
          where
            front : (b : Bool) → among ≡ b → in_spans (put_spans flags n i j (c ∷ cs)) q ≡ ((b && holds_place (span_between (j + (c.start - i)) (j + (c.start - i) + length c.text)) q) || in_spans (put_spans flags n (c.start + c.old_len) (j + (c.start - i) + length c.text) cs) q)
            front true so = rw so (before_holds (j + (c.start - i)) (j + (c.start - i) + length c.text) q (put_spans flags n (c.start + c.old_len) (j + (c.start - i) + length c.text) cs))
            front false so = rw so refl

        and_false : (x : Bool) → (x && false) ≡ false
        and_false true = refl
        and_false false = refl

        or_false : (x : Bool) → (x || false) ≡ x
        or_false true = refl
        or_false false = refl

        and_true : (x : Bool) → (x && true) ≡ x
        and_true true = refl
        and_true false = refl

        stay_at : (d : ℕ) → d < c.start - i → hidden_next i j (c ∷ cs) (j + d) ≡ is_hidden flags (i + d)
        stay_at d less =
            let kept : list_any (test (j + d)) (kept_from i j n (c ∷ cs)) ≡ is_hidden flags (i + d) =
            test_append (run i j (c.start - i)) (kept_from (c.start + c.old_len) (j + (c.start - i) + length c.text) n cs) (j + d)
            ∙ rw (test_run i j (c.start - i) d (j + d) (i + d) less refl refl, test_from (j + d) (j + (c.start - i) + length c.text) (kept_from (c.start + c.old_len) (j + (c.start - i) + length c.text) n cs) (omega (arith, less)) (kept_are_from (c.start + c.old_len) (j + (c.start - i) + length c.text) n (j + (c.start - i) + length c.text) cs (omega arith))) (or_false (is_hidden flags (i + d))) in
            let none : in_spans (put_spans flags n i j (c ∷ cs)) (j + d) ≡ false =
            puts_are (j + d) ∙ rw (holds_none (span_between (j + (c.start - i)) (j + (c.start - i) + length c.text)) (j + d) (λ a b. omega (arith, a, less)), rest_none (j + d) (omega (arith, less))) (ap (λ x. x || false) (and_false among)) in
            ap (λ x. list_any (test (j + d)) (kept_from i j n (c ∷ cs)) || (x && not (names me (trail_at s (j + d))))) none ∙ ap (λ x. x || false) kept ∙ or_false (is_hidden flags (i + d))

        stay_part : map (hidden_next i j (c ∷ cs)) (range_with_len j (c.start - i)) ≡ stay me s flags n i (c.start - i)
        stay_part = map_shift (hidden_next i j (c ∷ cs)) (is_hidden flags) j i (c.start - i) stay_at

        put_at : (q : ℕ) → j + (c.start - i) ≤ q → q < j + (c.start - i) + length c.text → hidden_next i j (c ∷ cs) q ≡ (among && not (names me (trail_at s q)))
        put_at q from less =
            let kept : list_any (test q) (kept_from i j n (c ∷ cs)) ≡ false =
            test_append (run i j (c.start - i)) (kept_from (c.start + c.old_len) (j + (c.start - i) + length c.text) n cs) q
            ∙ rw (test_below q (j + (c.start - i)) (run i j (c.start - i)) from (run_below i j (c.start - i)), test_from q (j + (c.start - i) + length c.text) (kept_from (c.start + c.old_len) (j + (c.start - i) + length c.text) n cs) less (kept_are_from (c.start + c.old_len) (j + (c.start - i) + length c.text) n (j + (c.start - i) + length c.text) cs (omega arith))) refl in
            let put : in_spans (put_spans flags n i j (c ∷ cs)) q ≡ among =
            puts_are q ∙ rw (holds_from (span_between (j + (c.start - i)) (j + (c.start - i) + length c.text)) q from (omega (arith, less)), rest_none q (omega (arith, less))) (or_false (among && true) ∙ and_true among) in
            ap (λ x. list_any (test q) (kept_from i j n (c ∷ cs)) || (x && not (names me (trail_at s q)))) put ∙ ap (λ x. x || (among && not (names me (trail_at s q)))) kept

        put_part : map (hidden_next i j (c ∷ cs)) (range_with_len (j + (c.start - i)) (length c.text)) ≡ put_in me s flags n (among_hidden flags (left_of c.start) (right_of n (c.start + c.old_len))) (j + (c.start - i)) (length c.text)
        put_part = map_places (hidden_next i j (c ∷ cs)) (λ q. among && not (names me (trail_at s q))) (j + (c.start - i)) (length c.text) put_at

        rest_at : (q : ℕ) → j + (c.start - i) + length c.text ≤ q → hidden_next i j (c ∷ cs) q ≡ hidden_next (c.start + c.old_len) (j + (c.start - i) + length c.text) cs q
        rest_at q from =
            let kept : list_any (test q) (kept_from i j n (c ∷ cs)) ≡ list_any (test q) (kept_from (c.start + c.old_len) (j + (c.start - i) + length c.text) n cs) =
            test_append (run i j (c.start - i)) (kept_from (c.start + c.old_len) (j + (c.start - i) + length c.text) n cs) q
            ∙ rw (test_below q (j + (c.start - i)) (run i j (c.start - i)) (omega (arith, from)) (run_below i j (c.start - i))) refl in
            let put : in_spans (put_spans flags n i j (c ∷ cs)) q ≡ in_spans (put_spans flags n (c.start + c.old_len) (j + (c.start - i) + length c.text) cs) q =
            puts_are q ∙ rw (holds_none (span_between (j + (c.start - i)) (j + (c.start - i) + length c.text)) q (λ a b. omega (arith, b, from))) (ap (λ x. x || in_spans (put_spans flags n (c.start + c.old_len) (j + (c.start - i) + length c.text) cs) q) (and_false among)) in
            ap (λ x. x || (in_spans (put_spans flags n i j (c ∷ cs)) q && not (names me (trail_at s q)))) kept ∙ ap (λ x. list_any (test q) (kept_from (c.start + c.old_len) (j + (c.start - i) + length c.text) n cs) || (x && not (names me (trail_at s q)))) put

        rest_part : (m : ℕ) → map (hidden_next i j (c ∷ cs)) (range_with_len (j + (c.start - i) + length c.text) (m - (j + (c.start - i) + length c.text))) ≡ map (hidden_next (c.start + c.old_len) (j + (c.start - i) + length c.text) cs) (range_with_len (j + (c.start - i) + length c.text) (m - (j + (c.start - i) + length c.text)))
        rest_part m = map_places (hidden_next i j (c ∷ cs)) (hidden_next (c.start + c.old_len) (j + (c.start - i) + length c.text) cs) (j + (c.start - i) + length c.text) (m - (j + (c.start - i) + length c.text)) (λ q from less. rest_at q from)

-- ---- the whole

trail_is : (trails : List TrailRun) (m q : ℕ) → q < m → unwrap_or (slice_get (trails_in trails m) q) [] ≡ trail_in trails q
trail_is trails m q below = let z : 0 + q ≡ q = omega arith in ap (λ o. unwrap_or o []) (get_places (trail_in trails) 0 m q below) ∙ ap (trail_in trails) z

-- Spans that hold what stays hidden and what is put in among hidden units but for what came through the buffer.
pub advanced : (flags : List Bool) (me : ℕ) (c : ChangeList) (trails : List TrailRun) (hs spans : List Span) → IsNormal c → c.old_len ≡ length flags → AreRising 0 trails → hidden_by (length flags) hs ≡ flags
    → ((q : ℕ) → q < new_len c → in_spans spans q ≡ (list_any (at q) (placed_in 0 hs (step c).kept) || (in_spans (put_spans flags c.old_len 0 0 c.changes) q && not (in_spans (own_spans me (new_len c) trails) q))))
    → hidden_by (new_len c) spans ≡ flags_after me (record { step = step c; trails = trails_in trails (new_len c) }) flags
advanced flags me c trails hs spans normal len rising flags_are holds =
    map_places (in_some spans) (hidden_next flags me s c.old_len 0 0 c.changes) 0 (new_len c) (λ q from below. holds q (omega (arith, below)) ∙ both q (omega (arith, below)))
    ∙ ap (λ m. map (hidden_next flags me s c.old_len 0 0 c.changes) (range_with_len 0 m)) ends
    ∙ after_is flags me s c.old_len 0 0 0 c.changes (omega arith) normal.changes
    ∙ sym (flags_after_is me s flags c normal.changes refl)
  where
    s : SourceStep
    s = record { step = step c; trails = trails_in trails (new_len c) }

    ends : new_len c ≡ end_from 0 0 c.old_len c.changes - 0
    ends = sym (new_len_is_end c.old_len c.changes normal.changes) ∙ (let z : end_from 0 0 c.old_len c.changes ≡ end_from 0 0 c.old_len c.changes - 0 = omega arith in z)

    hidden_same : (p : ℕ) → p < c.old_len → in_spans hs p ≡ is_hidden flags p
    hidden_same p below = sym (hidden_at (length flags) hs p (omega (arith, below, len))) ∙ ap (λ fs. is_hidden fs p) flags_are

    both : (q : ℕ) → q < new_len c → (list_any (at q) (placed_in 0 hs (step c).kept) || (in_spans (put_spans flags c.old_len 0 0 c.changes) q && not (in_spans (own_spans me (new_len c) trails) q))) ≡ hidden_next flags me s c.old_len 0 0 c.changes q
    both q below =
        let kept : list_any (at q) (placed_in 0 hs (step c).kept) ≡ list_any (test flags q) (kept_from 0 0 c.old_len c.changes) =
        placed_any flags c.old_len 0 hs q 0 0 (new_len c) (step c).kept hidden_same (step_rising c normal) ∙ ap (list_any (test flags q)) (normal_kept c normal.changes) in
        let own : in_spans (own_spans me (new_len c) trails) q ≡ names me (trail_at s q) = own_hold me (new_len c) q 0 trails rising below ∙ ap (names me) (sym (trail_is trails (new_len c) q below)) in
        ap (λ x. x || (in_spans (put_spans flags c.old_len 0 0 c.changes) q && not (in_spans (own_spans me (new_len c) trails) q))) kept ∙ ap (λ x. list_any (test flags q) (kept_from 0 0 c.old_len c.changes) || (in_spans (put_spans flags c.old_len 0 0 c.changes) q && not x)) own
