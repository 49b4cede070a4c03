-- Least ranges of sets of places.
use Rattle.std.proofs.Common.{◌≡◌, ℕ, zero, suc, ◌+◌, ◌-◌, ◌<◌, ◌≤◌, Bool, true, false, ◌||◌, inl, inr, Option, Some, None, refl, sym, ap, ◌∙◌, arith}
use Rattle.std.specs.Prelude.{nat_le, nat_lt, min, max, find, option_map}
use Rattle.std.specs.List.{range_with_len}
use Rattle.std.proofs.lemmas.Bool.{cases_Bool, cases_lt, ltb-true, lt-ltb, leb-true, le-leb}
use Rattle.std.proofs.lemmas.Bool.Decides.{nat_tests}
use Rattle.ed_base.specs.declared.edit.Span.{Span}
use Rattle.ed_base.specs.Numbers.{find_last}
use Rattle.ed_base.specs.Runs.{least_range}
use Rattle.ed_base.specs.Spans.{end_of, holds_place}
use Rattle.ed_members.proofs.Bools.{or_left, or_right, or_cases, or_none, or_first, and_parts, not_true}
use Rattle.ed_members.specs.declared.held.Held.{Held}
use Rattle.ed_pieces.specs.declared.trails.TrailRun.{TrailRun}
use Rattle.ed_members.specs.Advance.{held_span, joined, run_range}

-- the places below n that pass the test lie from start to end, and no range less wide has them
pub record Ranges (test : ℕ → Bool) (n start end : ℕ) : Type 0 where
  pub some : start < end
  pub within : end ≤ n
  pub first : test start ≡ true
  pub last : test (end - 1) ≡ true
  pub all : (q : ℕ) → q < n → test q ≡ true → (start ≤ q) × (q < end)

abbrev pub IsRange : (ℕ → Bool) → ℕ → Option Held → Type 0
IsRange test n None = (q : ℕ) → q < n → test q ≡ false
IsRange test n (Some h) = Ranges test n h.start h.end

pub range_same : (f g : ℕ → Bool) (n : ℕ) (o : Option Held) → ((q : ℕ) → q < n → f q ≡ g q) → IsRange f n o → IsRange g n o
range_same f g n None same none = λ q below. sym (same q below) ∙ none q below
range_same f g n (Some h) same r = record {
  some = r.some;
  within = r.within;
  first = sym (same h.start (let a : h.start < h.end = r.some in let b : h.end ≤ n = r.within in omega arith)) ∙ r.first;
  last = sym (same (h.end - 1) (let a : h.start < h.end = r.some in let b : h.end ≤ n = r.within in omega arith)) ∙ r.last;
  all = λ q below is. r.all q below (same q below ∙ is);
}

-- ---- the first and the last place

find_none : (f : ℕ → Bool) (a n : ℕ) → ((q : ℕ) → a ≤ q → q < a + n → f q ≡ false) → find f (range_with_len a n) ≡ None
find_none f a zero none = refl
find_none f a (suc n) none = rw (none a (omega arith) (omega arith)) (find_none f (a + 1) n (λ q above below. none q (omega arith) (omega arith)))

find_first : (f : ℕ → Bool) (a n p : ℕ) → a ≤ p → p < a + n → f p ≡ true → ((q : ℕ) → a ≤ q → q < p → f q ≡ false) → find f (range_with_len a n) ≡ Some p
find_first f a zero p above below is none = absurd (omega arith)
find_first f a (suc n) p above below is none = elim (cases_lt a p) [
  | inl later ↦ rw (none a (omega arith) later) (find_first f (a + 1) n p (omega arith) (omega arith) is (λ q above' below'. none q (omega arith) below'))
  | inr here ↦ (let e : p ≡ a = omega arith in let t : f a ≡ true = ap f (sym e) ∙ is in rw t (ap Some (sym e)))
]

last_none : (f : ℕ → Bool) (a n : ℕ) → ((q : ℕ) → a ≤ q → q < a + n → f q ≡ false) → find_last f (range_with_len a n) ≡ None
last_none f a zero none = refl
last_none f a (suc n) none = rw (last_none f (a + 1) n (λ q above below. none q (omega arith) (omega arith)), none a (omega arith) (omega arith)) refl

find_end : (f : ℕ → Bool) (a n p : ℕ) → a ≤ p → p < a + n → f p ≡ true → ((q : ℕ) → p < q → q < a + n → f q ≡ false) → find_last f (range_with_len a n) ≡ Some p
find_end f a zero p above below is none = absurd (omega arith)
find_end f a (suc n) p above below is none = elim (cases_lt a p) [
  | inl later ↦ rw (find_end f (a + 1) n p (omega arith) (omega arith) is (λ q above' below'. none q above' (omega arith))) refl
  | inr here ↦ (let e : p ≡ a = omega arith in let t : f a ≡ true = ap f (sym e) ∙ is in
      rw (last_none f (a + 1) n (λ q above' below'. none q (omega arith) (omega arith)), t) (ap Some (sym e)))
]

pub range_is_least : (f : ℕ → Bool) (n : ℕ) (o : Option Held) → IsRange f n o → option_map held_span o ≡ least_range f n
range_is_least f n None none = rw (find_none f 0 n (λ q above below. none q (omega arith))) refl
range_is_least f n (Some h) r =
    let some : h.start < h.end = r.some in
    let within : h.end ≤ n = r.within in
    let first : find f (range_with_len 0 n) ≡ Some h.start = find_first f 0 n h.start (omega arith) (omega arith) r.first
    (λ q above below. not_true (f q) (λ t. let in_range : (h.start ≤ q) × (q < h.end) = r.all q (omega arith) t in let a : h.start ≤ q = in_range.0 in omega arith)) in
    let last : find_last f (range_with_len 0 n) ≡ Some (h.end - 1) = find_end f 0 n (h.end - 1) (omega arith) (omega arith) r.last
    (λ q above below. not_true (f q) (λ t. let in_range : (h.start ≤ q) × (q < h.end) = r.all q (omega arith) t in let a : q < h.end = in_range.1 in omega arith)) in
    let e : (h.end - 1) + 1 ≡ h.end = omega arith in
    rw (first, last, e) refl

-- each test has one
pub range_exists : (f : ℕ → Bool) (n : ℕ) → (o : Option Held) × IsRange f n o
range_exists f zero = (None, λ q below. absurd (omega arith))
range_exists f (suc n) = one_more (range_exists f n).0 (range_exists f n).1
  where
    one_more : (o : Option Held) → IsRange f n o → (o : Option Held) × IsRange f (suc n) o
    one_more None none = elim (cases_Bool (f n)) [
      | inl t ↦ (
        Some (record { start = n; end = n + 1 }),
        record {
          some = omega arith;
          within = omega arith;
          first = t;
          last = ap f (let e : (n + 1) - 1 ≡ n = omega arith in e) ∙ t;
          all = λ q below is. elim (cases_lt q n) [ inl l ↦ absurd (cc (none q l)) | inr g ↦ (omega arith, omega arith) ];
        },
      )
      | inr e ↦ (None, λ q below. elim (cases_lt q n) [ inl l ↦ none q l | inr g ↦ ap f (let s : q ≡ n = omega arith in s) ∙ e ])
    ]
    one_more (Some h) r =
        let some : h.start < h.end = r.some in
        let within : h.end ≤ n = r.within in
        elim (cases_Bool (f n)) [
          | inl t ↦ (
            Some (record { start = h.start; end = n + 1 }),
            record {
              some = omega arith;
              within = omega arith;
              first = r.first;
              last = ap f (let e : (n + 1) - 1 ≡ n = omega arith in e) ∙ t;
              all = λ q below is. elim (cases_lt q n) [ inl l ↦ (let i : (h.start ≤ q) × (q < h.end) = r.all q l is in (i.0, omega arith)) | inr g ↦ (omega arith, omega arith) ];
            },
          )
          | inr e ↦ (
            Some h,
            record {
              some = some;
              within = omega arith;
              first = r.first;
              last = r.last;
              all = λ q below is. elim (cases_lt q n) [ inl l ↦ r.all q l is | inr g ↦ absurd (let s : q ≡ n = omega arith in cc (ap f s)) ];
            },
          )
        ]

-- ---- two tests

pub range_joined : (f g : ℕ → Bool) (n : ℕ) (a b : Option Held) → IsRange f n a → IsRange g n b → IsRange (λ q. f q || g q) n (joined a b)
range_joined f g n None None none none' = λ q below. or_none (f q) (g q) (none q below) (none' q below)
range_joined f g n None (Some h) none r = range_same g (λ q. f q || g q) n (Some h) (λ q below. ap (λ b. b || g q) (sym (none q below))) r
range_joined f g n (Some h) None r none = range_same f (λ q. f q || g q) n (Some h) (λ q below. or_first (f q) (g q) (none q below)) r
range_joined f g n (Some h) (Some k) r s =
    let a : h.start < h.end = r.some in
    let b : h.end ≤ n = r.within in
    let a' : k.start < k.end = s.some in
    let b' : k.end ≤ n = s.within in
    record {
      some = omega arith;
      within = omega arith;
      first = elim (cases_lt h.start k.start) [
        | inl l ↦ ap (λ q. f q || g q) (let e : min h.start k.start ≡ h.start = omega arith in e) ∙ or_left (f h.start) (g h.start) r.first
        | inr m ↦ ap (λ q. f q || g q) (let e : min h.start k.start ≡ k.start = omega arith in e) ∙ or_right (f k.start) (g k.start) s.first
      ];
      last = elim (cases_lt k.end h.end) [
        | inl l ↦ ap (λ q. f q || g q) (let e : max h.end k.end - 1 ≡ h.end - 1 = omega arith in e) ∙ or_left (f (h.end - 1)) (g (h.end - 1)) r.last
        | inr m ↦ ap (λ q. f q || g q) (let e : max h.end k.end - 1 ≡ k.end - 1 = omega arith in e) ∙ or_right (f (k.end - 1)) (g (k.end - 1)) s.last
      ];
      all = λ q below is. elim (or_cases (f q) (g q) is) [
        | inl t ↦ (let i : (h.start ≤ q) × (q < h.end) = r.all q below t in let i0 : h.start ≤ q = i.0 in let i1 : q < h.end = i.1 in (omega arith, omega arith))
        | inr t ↦ (let i : (k.start ≤ q) × (q < k.end) = s.all q below t in let i0 : k.start ≤ q = i.0 in let i1 : q < k.end = i.1 in (omega arith, omega arith))
      ];
    }

-- ---- a span

pub place_in : (x : Span) (q : ℕ) → x.start ≤ q → q < end_of x → holds_place x q ≡ true
place_in x q above below = rw (le-leb x.start q above, lt-ltb q (end_of x) below) refl

pub in_place : (x : Span) (q : ℕ) → holds_place x q ≡ true → (x.start ≤ q) × (q < end_of x)
in_place x q h =
    let both : (nat_le x.start q ≡ true) × (nat_lt q (end_of x) ≡ true) = and_parts (nat_le x.start q) (nat_lt q (end_of x)) h in
    (leb-true x.start q both.0, ltb-true q (end_of x) both.1)

pub run_has_range : (n : ℕ) (run : TrailRun) → IsRange (holds_place run.span) n (run_range n run)
run_has_range n run = elim (cases_lt run.span.start (min (end_of run.span) n)) [
  | inl some ↦ rw (lt-ltb run.span.start (min (end_of run.span) n) some) (record {
    some = some;
    within = omega arith;
    first = place_in run.span run.span.start (omega arith) (omega arith);
    last = place_in run.span (min (end_of run.span) n - 1) (omega arith) (omega arith);
    all = λ q below is. let i : (run.span.start ≤ q) × (q < end_of run.span) = in_place run.span q is in let i1 : q < end_of run.span = i.1 in (i.0, omega arith);
  })
  | inr none ↦ rw (let f : nat_lt run.span.start (min (end_of run.span) n) ≡ false = grind (arith, nat_tests) in f)
      (λ q below. not_true (holds_place run.span q) (λ t. let i : (run.span.start ≤ q) × (q < end_of run.span) = in_place run.span q t in let i0 : run.span.start ≤ q = i.0 in let i1 : q < end_of run.span = i.1 in omega arith))
]
