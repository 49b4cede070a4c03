-- The kept pairs of an elision buffer, found by the spans that it shows before and after.
use Rattle.std.proofs.Common.{◌≡◌, ℕ, zero, suc, ◌+◌, ◌-◌, ◌<◌, ◌≤◌, Bool, true, false, List, [], ◌∷◌, inl, inr, refl, sym, ap, subst, ◌∙◌, arith}
use Rattle.std.proofs.lemmas.Bool.{cases_lt, lt-ltb, le-ltb}
use Rattle.ed_base.specs.declared.edit.Span.{Span}
use Rattle.ed_base.specs.Spans.{end_of}
use Rattle.ed_kept.specs.Kept.{ArePairsRising}
use Rattle.ed_kept.proofs.Rising.{rising_within, rising_weak}
use Rattle.ed_layers.specs.Records.{is_shown}
use Rattle.ed_layers.specs.Hidden.{hidden_by, nearest}
use Rattle.ed_spans.specs.SpanSets.{in_spans, held_below, gaps, AreApartFrom}
use Rattle.ed_spans.proofs.GapLemmas.{gaps_hold, apart_earlier}
use Rattle.ed_elide.specs.AfterStep.{shown_pairs}
use Rattle.ed_elide.specs.Pairs.{placed_in, turned}
use Rattle.ed_elide.proofs.FlagLemmas.{shown_at}
use Rattle.ed_elide.proofs.NearestLemmas.{one_if, held_next, held_zero, nearest_is}

-- what spans and the gaps between them hold below a place
gaps_held : (p n q : ℕ) (ss : List Span) → AreApartFrom p n ss → q ≤ n → held_below q (gaps p n ss) + held_below q ss ≡ q - p
gaps_held p n q [] apart within = elim (cases_lt p n) [
  | inl some ↦ rw (lt-ltb p n some) (omega (arith, within, some))
  | inr none ↦ rw (le-ltb p n none) (omega (arith, within, none))
]
gaps_held p n q (s ∷ ss) apart within =
    let rest : held_below q (gaps (end_of s) n ss) + held_below q ss ≡ q - end_of s = gaps_held (end_of s) n q ss (apart_earlier (end_of s) (end_of s + 1) n ss (omega arith) apart.3) within in
    elim (cases_lt p s.start) [
      | inl some ↦ rw (lt-ltb p s.start some) (omega (arith, rest, some, apart.2))
      | inr none ↦ rw (le-ltb p s.start none) (omega (arith, rest, none, apart.0))
    ]

pub gaps_nearest : (n p : ℕ) (ss : List Span) → AreApartFrom 0 n ss → p ≤ n → held_below p (gaps 0 n ss) ≡ nearest (hidden_by n ss) p
gaps_nearest n p ss apart within = omega (arith, gaps_held 0 n p ss apart within, nearest_is n p ss apart within)

pub gaps_shown : (n p : ℕ) (ss : List Span) → AreApartFrom 0 n ss → p < n → in_spans (gaps 0 n ss) p ≡ is_shown (hidden_by n ss) p
gaps_shown n p ss apart below = gaps_hold 0 n p ss apart (omega arith) below ∙ sym (shown_at n ss p below)

module _ (old new : List Bool) (n m : ℕ) (before behind : List Span)
    (shown : (q : ℕ) → q < n → in_spans before q ≡ is_shown old q) (near : (p : ℕ) → p ≤ n → held_below p before ≡ nearest old p)
    (shown' : (q : ℕ) → q < m → in_spans behind q ≡ is_shown new q) (near' : (p : ℕ) → p ≤ m → held_below p behind ≡ nearest new p) where
  -- Both restrictions, one after the other.
  pub twice_placed : (i j : ℕ) (kept : List (ℕ × ℕ)) → ArePairsRising i j n m kept → turned (placed_in 0 behind (turned (placed_in 0 before kept))) ≡ shown_pairs old new kept
  twice_placed i j [] rising = refl
  twice_placed i j (pair ∷ kept) rising =
      let within : (pair.0 + 1 ≤ n) × (pair.1 + 1 ≤ m) = rising_within (pair.0 + 1) (pair.1 + 1) n m kept rising.2 in
      front (is_shown old pair.0) (is_shown new pair.1) refl refl
      (shown pair.0 (omega (arith, within.0))) (shown' pair.1 (omega (arith, within.1)))
      (let z : 0 + held_below pair.0 before ≡ held_below pair.0 before = omega arith in z ∙ near pair.0 (omega (arith, within.0)))
      (let z : 0 + held_below pair.1 behind ≡ held_below pair.1 behind = omega arith in z ∙ near' pair.1 (omega (arith, within.1)))
      (twice_placed (pair.0 + 1) (pair.1 + 1) kept rising.2)
    where
      front : (a b : Bool) → is_shown old pair.0 ≡ a → is_shown new pair.1 ≡ b → in_spans before pair.0 ≡ is_shown old pair.0 → in_spans behind pair.1 ≡ is_shown new pair.1
          → 0 + held_below pair.0 before ≡ nearest old pair.0 → 0 + held_below pair.1 behind ≡ nearest new pair.1
          → turned (placed_in 0 behind (turned (placed_in 0 before kept))) ≡ shown_pairs old new kept
          → turned (placed_in 0 behind (turned (placed_in 0 before (pair ∷ kept)))) ≡ shown_pairs old new (pair ∷ kept)
      front true true is is' x y u v rest = rw (x, is, y, is', u, v) (ap (λ w. (nearest old pair.0, nearest new pair.1) ∷ w) rest)
      front true false is is' x y u v rest = rw (x, is, y, is') rest
      front false true is is' x y u v rest = rw (x, is) rest
      front false false is is' x y u v rest = rw (x, is) rest

-- ---- what is found rises

upper : (i j n m n' m' : ℕ) (ps : List (ℕ × ℕ)) → n ≤ n' → m ≤ m' → ArePairsRising i j n m ps → ArePairsRising i j n' m' ps
upper i j n m n' m' [] le le' r = (omega (arith, r.0, le), omega (arith, r.1, le'))
upper i j n m n' m' (p ∷ ps) le le' r = (r.0, r.1, upper (p.0 + 1) (p.1 + 1) n m n' m' ps le le' r.2)

pub pairs_within : (n m n' m' : ℕ) (ps : List (ℕ × ℕ)) → n ≤ n' → m ≤ m' → ArePairsRising 0 0 n m ps → ArePairsRising 0 0 n' m' ps
pairs_within n m n' m' ps le le' r = upper 0 0 n m n' m' ps le le' r

pub turned_rising : (i j n m : ℕ) (ps : List (ℕ × ℕ)) → ArePairsRising i j n m ps → ArePairsRising j i m n (turned ps)
turned_rising i j n m [] r = (r.1, r.0)
turned_rising i j n m (p ∷ ps) r = (r.1, r.0, turned_rising (p.0 + 1) (p.1 + 1) n m ps r.2)

-- more places below, the further on
held_more : (a b k p : ℕ) (ss : List Span) → AreApartFrom a b ss → held_below p ss ≤ held_below (p + k) ss
held_more a b zero p ss apart = let z : p + 0 ≡ p = omega arith in rw z (omega arith)
held_more a b (suc k) p ss apart =
    let e : p + suc k ≡ suc (p + k) = omega arith in
    rw e (omega (arith, held_more a b k p ss apart, held_next a b (p + k) ss apart))

held_rises : (a b p q : ℕ) (ss : List Span) → AreApartFrom a b ss → p ≤ q → held_below p ss ≤ held_below q ss
held_rises a b p q ss apart le = let e : p + (q - p) ≡ q = omega arith in omega (arith, held_more a b (q - p) p ss apart, ap (λ x. held_below x ss) e)

pub placed_rising : (a b i j n m : ℕ) (ss : List Span) (ps : List (ℕ × ℕ)) → AreApartFrom a b ss → ArePairsRising i j n m ps → ArePairsRising (held_below i ss) j (held_below n ss) m (placed_in 0 ss ps)
placed_rising a b i j n m ss [] apart r = (held_rises a b i n ss apart r.0, r.1)
placed_rising a b i j n m ss (p ∷ ps) apart r = front (in_spans ss p.0) refl (placed_rising a b (p.0 + 1) (p.1 + 1) n m ss ps apart r.2)
  where
    one : p.0 + 1 ≡ suc p.0
    one = omega arith

    front : (x : Bool) → in_spans ss p.0 ≡ x → ArePairsRising (held_below (p.0 + 1) ss) (p.1 + 1) (held_below n ss) m (placed_in 0 ss ps) → ArePairsRising (held_below i ss) j (held_below n ss) m (placed_in 0 ss (p ∷ ps))
    front true is rest =
        let bit : one_if (in_spans ss p.0) ≡ 1 = ap one_if is in
        let next : held_below (p.0 + 1) ss ≡ 0 + held_below p.0 ss + 1 = ap (λ x. held_below x ss) one ∙ held_next a b p.0 ss apart ∙ omega (arith, bit) in
        rw is (omega (arith, held_rises a b i p.0 ss apart r.0), r.1, subst (λ x. ArePairsRising x (p.1 + 1) (held_below n ss) m (placed_in 0 ss ps)) next rest)
    front false is rest = rw is (rising_weak (held_below i ss) j (held_below (p.0 + 1) ss) (p.1 + 1) (held_below n ss) m (placed_in 0 ss ps) (held_rises a b i (p.0 + 1) ss apart (omega (arith, r.0))) (omega (arith, r.1)) rest)

-- What is found by both restrictions rises, up to the shown lengths.
pub twice_rising : (old new : List Bool) (n m a b : ℕ) (before behind : List Span) (kept : List (ℕ × ℕ)) → AreApartFrom 0 n before → AreApartFrom 0 m behind → a ≡ held_below n before → b ≡ held_below m behind → ArePairsRising 0 0 n m kept
    → ArePairsRising 0 0 a b (turned (placed_in 0 behind (turned (placed_in 0 before kept))))
twice_rising old new n m a b before behind kept apart apart' is is' rising =
    let first : ArePairsRising 0 0 (held_below n before) m (placed_in 0 before kept) = subst (λ x. ArePairsRising x 0 (held_below n before) m (placed_in 0 before kept)) (held_zero before) (placed_rising 0 n 0 0 n m before kept apart rising) in
    let second : ArePairsRising 0 0 (held_below m behind) (held_below n before) (placed_in 0 behind (turned (placed_in 0 before kept))) =
    subst (λ x. ArePairsRising x 0 (held_below m behind) (held_below n before) (placed_in 0 behind (turned (placed_in 0 before kept)))) (held_zero behind)
    (placed_rising 0 m 0 0 m (held_below n before) behind (turned (placed_in 0 before kept)) apart' (turned_rising 0 0 (held_below n before) m (placed_in 0 before kept) first)) in
    rw (is, is') (turned_rising 0 0 (held_below m behind) (held_below n before) (placed_in 0 behind (turned (placed_in 0 before kept))) second)

-- One restriction: no place goes up.
pub placed_within : (n m : ℕ) (ss : List Span) (ps : List (ℕ × ℕ)) → AreApartFrom 0 n ss → ArePairsRising 0 0 n m ps → ArePairsRising 0 0 n m (placed_in 0 ss ps)
placed_within n m ss ps apart rising =
    pairs_within (held_below n ss) m n m (placed_in 0 ss ps) (omega (arith, nearest_is n n ss apart (omega arith))) (omega arith)
    (subst (λ x. ArePairsRising x 0 (held_below n ss) m (placed_in 0 ss ps)) (held_zero ss) (placed_rising 0 n 0 0 n m ss ps apart rising))
