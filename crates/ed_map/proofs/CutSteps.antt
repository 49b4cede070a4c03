-- The images in a source, cut to a member.
use Rattle.std.proofs.Common.{◌≡◌, ℕ, zero, suc, ◌+◌, ◌-◌, ◌<◌, ◌≤◌, ◌⊎◌, List, [], ◌∷◌, ◌++◌, length, drop, Some, inl, inr, refl, sym, ap, ◌∙◌, append_assoc, arith}
use Rattle.std.specs.Prelude.{slice_get, flat_map, min, max}
use Rattle.std.proofs.lemmas.Bool.{cases_lt, lt-ltb, le-ltb}
use Rattle.std.proofs.lemmas.List.{append-nil, drop_all}
use Rattle.ed_base.specs.declared.edit.Span.{Span}
use Rattle.ed_base.specs.Spans.{end_of}
use Rattle.ed_spans.specs.SpanSets.{in_spans, AreApartFrom, AreRisingFrom}
use Rattle.ed_spans.proofs.JoinLemmas.{rising_earlier}
use Rattle.ed_map.specs.Up.{cut_to}
use Rattle.ed_map.proofs.UpImages.{cuts_inside, cuts_outside}

-- ---- spans that lie apart, and that rise

pub apart_get : (p n i : ℕ) (ss : List Span) (s : Span) → AreApartFrom p n ss → slice_get ss i ≡ Some s → AreApartFrom s.start n (drop i ss) × (end_of s ≤ n)
apart_get p n i [] s apart is = absurd (cc)
apart_get p n zero (x ∷ xs) s apart is = let e : x ≡ s = cc in rw (sym e) ((omega arith, apart.1, apart.2, apart.3), apart.2)
apart_get p n (suc i) (x ∷ xs) s apart is = apart_get (end_of x + 1) n i xs s apart.3 is

pub apart_ends : (p n i j : ℕ) (ss : List Span) (s t : Span) → AreApartFrom p n ss → i ≤ j → slice_get ss i ≡ Some s → slice_get ss j ≡ Some t → (p ≤ end_of t) × (end_of s ≤ end_of t)
apart_ends p n i j [] s t apart order is js = absurd (cc)
apart_ends p n zero zero (x ∷ xs) s t apart order is js = let e : x ≡ s = cc in let f : x ≡ t = cc in rw (sym e, sym f) (omega (arith, apart.0), omega arith)
apart_ends p n zero (suc j) (x ∷ xs) s t apart order is js =
    let e : x ≡ s = cc in
    let r : (end_of x + 1 ≤ end_of t) × (end_of t ≤ end_of t) = apart_ends (end_of x + 1) n j j xs t t apart.3 (omega arith) js js in
    rw (sym e) (omega (arith, r.0, apart.0), omega (arith, r.0))
apart_ends p n (suc i) zero (x ∷ xs) s t apart order is js = absurd (omega arith)
apart_ends p n (suc i) (suc j) (x ∷ xs) s t apart order is js =
    let r : (end_of x + 1 ≤ end_of t) × (end_of s ≤ end_of t) = apart_ends (end_of x + 1) n i j xs s t apart.3 (omega arith) is js in
    (omega (arith, r.0, apart.0), r.1)

pub apart_more : (p m n : ℕ) (ss : List Span) → m ≤ n → AreApartFrom p m ss → AreApartFrom p n ss
apart_more p m n [] more apart = tt
apart_more p m n (s ∷ ss) more apart = (apart.0, apart.1, omega (arith, apart.2, more), apart_more (end_of s + 1) m n ss more apart.3)

pub rising_more : (p m n : ℕ) (ss : List Span) → m ≤ n → AreRisingFrom p m ss → AreRisingFrom p n ss
rising_more p m n [] more rising = tt
rising_more p m n (s ∷ ss) more rising = (rising.0, rising.1, omega (arith, rising.2, more), rising_more s.start m n ss more rising.3)

pub rising_append : (p m n : ℕ) (ss ts : List Span) → p ≤ m → m ≤ n → AreRisingFrom p m ss → AreRisingFrom m n ts → AreRisingFrom p n (ss ++ ts)
rising_append p m n [] ts order more first second = rising_earlier p m n ts order second
rising_append p m n (s ∷ ss) ts order more first second =
    (first.0, first.1, omega (arith, first.2, more), rising_append s.start m n ss ts (omega (arith, first.2)) more first.3 second)

-- ---- cuts

cut_past : (bounds : Span) (at : ℕ) (s : Span) → (end_of s ≤ bounds.start) ⊎ (end_of bounds ≤ s.start) → cut_to bounds at s ≡ []
cut_past bounds at s past = rw (le-ltb (max s.start bounds.start) (min (end_of s) (end_of bounds)) (none past)) refl
  where
    none : ((end_of s ≤ bounds.start) ⊎ (end_of bounds ≤ s.start)) → min (end_of s) (end_of bounds) ≤ max s.start bounds.start
    none (inl before) = omega (arith, before)
    none (inr behind) = omega (arith, behind)

pub cuts_skip : (bounds : Span) (at k : ℕ) (ss : List Span) → ((i : ℕ) (s : Span) → i < k → slice_get ss i ≡ Some s → end_of s ≤ bounds.start) → flat_map (cut_to bounds at) (drop k ss) ≡ flat_map (cut_to bounds at) ss
cuts_skip bounds at zero ss before = refl
cuts_skip bounds at (suc k) [] before = refl
cuts_skip bounds at (suc k) (s ∷ ss) before =
    cuts_skip bounds at k ss (λ i t below is. before (suc i) t (omega (arith, below)) is)
    ∙ ap (λ xs. xs ++ flat_map (cut_to bounds at) ss) (sym (cut_past bounds at s (inl (before zero s (omega arith) refl))))

drop_span : (ss : List Span) (i : ℕ) (s : Span) → slice_get ss i ≡ Some s → drop i ss ≡ s ∷ drop (suc i) ss
drop_span [] i s is = absurd (cc)
drop_span (x ∷ xs) zero s is = let e : x ≡ s = cc in ap (λ y. y ∷ xs) e
drop_span (x ∷ xs) (suc i) s is = drop_span xs i s is

pub cuts_more : (bounds : Span) (at i : ℕ) (ss : List Span) (s : Span) (done more whole : List Span) → slice_get ss i ≡ Some s → more ≡ done ++ cut_to bounds at s →
    done ++ flat_map (cut_to bounds at) (drop i ss) ≡ whole → more ++ flat_map (cut_to bounds at) (drop (i + 1) ss) ≡ whole
cuts_more bounds at i ss s done more whole is put so_far =
    let next : i + 1 ≡ suc i = omega arith in
    ap (λ n. more ++ flat_map (cut_to bounds at) (drop n ss)) next ∙ ap (λ xs. xs ++ flat_map (cut_to bounds at) (drop (suc i) ss)) put
    ∙ append_assoc done (cut_to bounds at s) (flat_map (cut_to bounds at) (drop (suc i) ss)) ∙ ap (λ xs. done ++ flat_map (cut_to bounds at) xs) (sym (drop_span ss i s is)) ∙ so_far

cuts_behind : (bounds : Span) (at p n : ℕ) (ss : List Span) → end_of bounds ≤ p → AreApartFrom p n ss → flat_map (cut_to bounds at) ss ≡ []
cuts_behind bounds at p n [] behind apart = refl
cuts_behind bounds at p n (s ∷ ss) behind apart =
    ap (λ xs. xs ++ flat_map (cut_to bounds at) ss) (cut_past bounds at s (inr (omega (arith, behind, apart.0)))) ∙ cuts_behind bounds at (end_of s + 1) n ss (omega (arith, behind, apart.0)) apart.3

pub cuts_done : (bounds : Span) (at n i : ℕ) (ss : List Span) (s : Span) (done whole : List Span) → AreApartFrom 0 n ss → slice_get ss i ≡ Some s → end_of bounds ≤ s.start →
    done ++ flat_map (cut_to bounds at) (drop i ss) ≡ whole → done ≡ whole
cuts_done bounds at n i ss s done whole apart is behind so_far =
    sym (append-nil done) ∙ ap (λ xs. done ++ xs) (sym (cuts_behind bounds at s.start n (drop i ss) behind (apart_get 0 n i ss s apart is).0)) ∙ so_far

pub cuts_all : (bounds : Span) (at i : ℕ) (ss done whole : List Span) → length ss ≤ i → done ++ flat_map (cut_to bounds at) (drop i ss) ≡ whole → done ≡ whole
cuts_all bounds at i ss done whole all so_far = sym (append-nil done) ∙ ap (λ xs. done ++ flat_map (cut_to bounds at) xs) (sym (drop_all i ss all)) ∙ so_far

-- cuts of spans that lie apart rise
rising_cuts : (bounds : Span) (at p n : ℕ) (ss : List Span) → AreApartFrom p n ss → AreRisingFrom (at + (max p bounds.start - bounds.start)) (at + bounds.len) (flat_map (cut_to bounds at) ss)
rising_cuts bounds at p n [] apart = tt
rising_cuts bounds at p n (s ∷ ss) apart = by (rising_cuts bounds at (end_of s + 1) n ss apart.3) (cases_lt (max s.start bounds.start) (min (end_of s) (end_of bounds)))
  where
    from : ℕ
    from = at + (max s.start bounds.start - bounds.start)

    next : ℕ
    next = at + (max (end_of s + 1) bounds.start - bounds.start)

    rest : List Span
    rest = flat_map (cut_to bounds at) ss

    by : AreRisingFrom next (at + bounds.len) rest → ((max s.start bounds.start < min (end_of s) (end_of bounds)) ⊎ (min (end_of s) (end_of bounds) ≤ max s.start bounds.start)) → AreRisingFrom (at + (max p bounds.start - bounds.start)) (at + bounds.len) (cut_to bounds at s ++ rest)
    by later (inl some) =
        rw (lt-ltb (max s.start bounds.start) (min (end_of s) (end_of bounds)) some)
        (omega (arith, apart.0), omega (arith, some), omega (arith, some), rising_earlier from next (at + bounds.len) rest (omega arith) later)
    by later (inr none) =
        rw (le-ltb (max s.start bounds.start) (min (end_of s) (end_of bounds)) none)
        (rising_earlier (at + (max p bounds.start - bounds.start)) next (at + bounds.len) rest (omega (arith, apart.0)) later)

pub cuts_rising : (bounds : Span) (at n : ℕ) (ss : List Span) → AreApartFrom 0 n ss → AreRisingFrom at (at + bounds.len) (flat_map (cut_to bounds at) ss)
cuts_rising bounds at n ss apart = rising_earlier at (at + (max 0 bounds.start - bounds.start)) (at + bounds.len) (flat_map (cut_to bounds at) ss) (omega arith) (rising_cuts bounds at 0 n ss apart)

-- what agrees within the bounds has the same cuts
pub cuts_same : (bounds : Span) (at k : ℕ) (ss ts : List Span) → ((q : ℕ) → q < end_of bounds → in_spans ss q ≡ in_spans ts q) → in_spans (flat_map (cut_to bounds at) ss) k ≡ in_spans (flat_map (cut_to bounds at) ts) k
cuts_same bounds at k ss ts same = by (cases_lt k at) (cases_lt k (at + bounds.len))
  where
    by : ((k < at) ⊎ (at ≤ k)) → ((k < at + bounds.len) ⊎ (at + bounds.len ≤ k)) → in_spans (flat_map (cut_to bounds at) ss) k ≡ in_spans (flat_map (cut_to bounds at) ts) k
    by (inl before) any = cuts_outside bounds at k ss (inl before) ∙ sym (cuts_outside bounds at k ts (inl before))
    by (inr from) (inr behind) = cuts_outside bounds at k ss (inr behind) ∙ sym (cuts_outside bounds at k ts (inr behind))
    by (inr from) (inl inside) =
        let e : at + (k - at) ≡ k = omega (arith, from) in
        ap (in_spans (flat_map (cut_to bounds at) ss)) (sym e) ∙ cuts_inside bounds at (k - at) ss (omega (arith, from, inside)) ∙ same (bounds.start + (k - at)) (omega (arith, from, inside))
        ∙ sym (cuts_inside bounds at (k - at) ts (omega (arith, from, inside))) ∙ ap (in_spans (flat_map (cut_to bounds at) ts)) e
