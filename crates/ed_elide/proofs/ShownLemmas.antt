-- The shown runs are what lies between the hidden ones: how many, their members, their texts.
use Rattle.std.proofs.Common.{◌≡◌, ℕ, suc, ◌+◌, ◌-◌, ◌<◌, ◌≤◌, ◌⊎◌, Bool, true, false, ◌&&◌, List, [], ◌∷◌, ◌++◌, length, map, flat_map, sum_by, slice_range, slice_index_or, nat_eq, nat_lt, find, None, inl, inr, refl, sym, ap, ◌∙◌, arith}
use Rattle.std.specs.List.{enumerate_from}
use Rattle.std.proofs.lemmas.Bool.{cases_lt, lt-ltb, le-ltb, le-leb}
use Rattle.std.proofs.lemmas.List.Sums.{sum_by-cons}
use Rattle.ed_base.specs.declared.edit.Span.{Span}
use Rattle.ed_base.specs.Runs.{runs}
use Rattle.ed_base.specs.Spans.{end_of}
use Rattle.ed_layers.specs.Records.{is_shown, member_len, members_len, members_of, elision, tracked}
use Rattle.ed_layers.specs.Order.{conflict, fails_to_cover, first_conflict}
use Rattle.ed_layers.specs.Hidden.{hidden_by}
use Rattle.ed_layers.specs.Texts.{text_over}
use Rattle.ed_members.specs.Faults.{first_fault}
use Rattle.ed_spans.specs.SpanSets.{AreApartFrom, gaps, held_below}
use Rattle.ed_spans.proofs.SliceLemmas.{length_range}
use Rattle.ed_spans.proofs.GapLemmas.{apart_earlier, gaps_apart, gaps_hold}
use Rattle.ed_spans.proofs.RunLemmas.{apart_runs}
use Rattle.ed_elide.proofs.FlagLemmas.{shown_at, length_flags}
use Rattle.ed_elide.proofs.NearestLemmas.{one_if}

pub shown_runs : (n : ℕ) (ss : List Span) → AreApartFrom 0 n ss → runs (is_shown (hidden_by n ss)) n ≡ gaps 0 n ss
shown_runs n ss apart = apart_runs (is_shown (hidden_by n ss)) n (gaps 0 n ss) (gaps_apart 0 n ss apart) (λ q below. shown_at n ss q below ∙ sym (gaps_hold 0 n q ss apart (omega arith) below))

pub members_are : (n source version : ℕ) (ss : List Span) → AreApartFrom 0 n ss → members_of (elision (hidden_by n ss) source version) ≡ map (tracked source) (gaps 0 n ss)
members_are n source version ss apart = ap (λ m. map (tracked source) (runs (is_shown (hidden_by n ss)) m)) (length_flags n ss) ∙ ap (map (tracked source)) (shown_runs n ss apart)

-- ---- how many

-- spans that lie apart are no more than the places that they lie in
pub few_apart : (p n : ℕ) (ss : List Span) → AreApartFrom p n ss → length ss ≤ n - p
few_apart p n [] apart = omega arith
few_apart p n (s ∷ ss) apart = omega (arith, few_apart (end_of s + 1) n ss apart.3, apart.0, apart.1, apart.2)

-- the gaps are those between two spans, and those before the first and behind the last
pub length_gaps : (p n : ℕ) (s d : Span) (ss : List Span) → AreApartFrom p n (s ∷ ss) → length (gaps p n (s ∷ ss)) ≡ one_if (nat_lt p s.start) + length ss + one_if (nat_lt (end_of (slice_index_or (s ∷ ss) (length ss) d)) n)
length_gaps p n s d [] apart = front (cases_lt p s.start) (cases_lt (end_of s) n)
  where
    front : (p < s.start) ⊎ (s.start ≤ p) → (end_of s < n) ⊎ (n ≤ end_of s) → length (gaps p n (s ∷ [])) ≡ one_if (nat_lt p s.start) + 0 + one_if (nat_lt (end_of s) n)
    front (inl a) (inl b) = rw (lt-ltb p s.start a, lt-ltb (end_of s) n b) refl
    front (inl a) (inr b) = rw (lt-ltb p s.start a, le-ltb (end_of s) n b) refl
    front (inr a) (inl b) = rw (le-ltb p s.start a, lt-ltb (end_of s) n b) refl
    front (inr a) (inr b) = rw (le-ltb p s.start a, le-ltb (end_of s) n b) refl
length_gaps p n s d (t ∷ ss) apart =
    let rest : length (gaps (end_of s) n (t ∷ ss)) ≡ one_if (nat_lt (end_of s) t.start) + length ss + one_if (nat_lt (end_of (slice_index_or (t ∷ ss) (length ss) d)) n) =
    length_gaps (end_of s) n t d ss (apart_earlier (end_of s) (end_of s + 1) n (t ∷ ss) (omega arith) apart.3) in
    let one : one_if (nat_lt (end_of s) t.start) ≡ 1 = ap one_if (lt-ltb (end_of s) t.start (omega (arith, apart.3.0))) in
    front (cases_lt p s.start) (rest ∙ ap (λ k. k + length ss + one_if (nat_lt (end_of (slice_index_or (t ∷ ss) (length ss) d)) n)) one)
  where
    front : (p < s.start) ⊎ (s.start ≤ p) → length (gaps (end_of s) n (t ∷ ss)) ≡ 1 + length ss + one_if (nat_lt (end_of (slice_index_or (t ∷ ss) (length ss) d)) n) → length (gaps p n (s ∷ t ∷ ss)) ≡ one_if (nat_lt p s.start) + suc (length ss) + one_if (nat_lt (end_of (slice_index_or (t ∷ ss) (length ss) d)) n)
    front (inl a) rest = rw (lt-ltb p s.start a) (omega (arith, rest))
    front (inr a) rest = rw (le-ltb p s.start a) (omega (arith, rest))

-- ---- the members stand in order

covers_none : (len : ℕ → ℕ) (source i : ℕ) (ss : List Span) → find (λ im. fails_to_cover len im.1) (enumerate_from i (map (tracked source) ss)) ≡ None
covers_none len source i [] = refl
covers_none len source i (s ∷ ss) = covers_none len source (i + 1) ss

conflict_none : (source i j n : ℕ) (s : Span) (ss : List Span) → 0 < s.len → AreApartFrom (end_of s + 1) n ss → find (conflict (i, tracked source s)) (enumerate_from j (map (tracked source) ss)) ≡ None
conflict_none source i j n s [] some apart = refl
conflict_none source i j n s (t ∷ ss) some apart =
    rw (lt-ltb s.start t.start (omega (arith, some, apart.0)), le-leb (end_of s) t.start (omega (arith, apart.0)), and_false (nat_eq source source))
    (conflict_none source i (j + 1) n s ss some (apart_earlier (end_of s + 1) (end_of t + 1) n ss (omega (arith, apart.0)) apart.3))
  where
    and_false : (x : Bool) → (x && false) ≡ false
    and_false true = refl
    and_false false = refl

first_none : (source i p n : ℕ) (ss : List Span) → AreApartFrom p n ss → first_conflict (enumerate_from i (map (tracked source) ss)) ≡ None
first_none source i p n [] apart = refl
first_none source i p n (s ∷ ss) apart = rw (conflict_none source i (i + 1) n s ss apart.1 apart.3) (first_none source (i + 1) (end_of s + 1) n ss apart.3)

pub no_fault : (len : ℕ → ℕ) (source n : ℕ) (ss : List Span) → AreApartFrom 0 n ss → first_fault len (map (tracked source) ss) ≡ None
no_fault len source n ss apart = rw (covers_none len source 0 ss, first_none source 0 0 n ss apart) refl

-- ---- the text

pub texts_are : (source : ℕ) (text : List ℕ) (ss : List Span) → flat_map (λ (t : List ℕ). t) (map (λ s. slice_range text s.start (end_of s)) ss) ≡ text_over (λ b. text) (map (tracked source) ss)
texts_are source text [] = refl
texts_are source text (s ∷ ss) = ap (λ u. slice_range text s.start (end_of s) ++ u) (texts_are source text ss)

-- together they are as long as what the spans hold
pub texts_len : (p : ℕ) (text : List ℕ) (ss : List Span) → AreApartFrom p (length text) ss → sum_by (λ (t : List ℕ). length t) (map (λ s. slice_range text s.start (end_of s)) ss) ≡ held_below (length text) ss
texts_len p text [] apart = refl
texts_len p text (s ∷ ss) apart =
    omega (arith, sum_by-cons (λ (t : List ℕ). length t) (slice_range text s.start (end_of s)) (map (λ s. slice_range text s.start (end_of s)) ss), length_range text s.start (end_of s) apart.2, texts_len (end_of s + 1) text ss apart.3, apart.2)

pub members_held : (source p n : ℕ) (ss : List Span) → AreApartFrom p n ss → members_len (map (tracked source) ss) ≡ held_below n ss
members_held source p n [] apart = refl
members_held source p n (s ∷ ss) apart = omega (arith, sum_by-cons member_len (tracked source s) (map (tracked source) ss), members_held source (end_of s + 1) n ss apart.3, apart.2)
