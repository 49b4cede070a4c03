-- Members that are clear of each other don't conflict.
use Rattle.std.proofs.Common.{◌≡◌, ◌≢◌, ℕ, zero, suc, ◌+◌, ◌<◌, ◌≤◌, Bool, true, false, not, ◌&&◌, ◌||◌, cond, ◌⊎◌, inl, inr, List, [], ◌∷◌, length, drop, get_or, Option, Some, None, refl, sym, ◌∙◌, ap, subst, arith}
use Rattle.std.specs.Prelude.{nat_eq, nat_lt, nat_le, find, option_map}
use Rattle.std.specs.List.{enumerate_from}
use Rattle.std.proofs.lemmas.Bool.{cases_lt, cases_eq, eq-eqb, ne_eqb, lt-ltb, leb-true, le-leb}
use Rattle.std.proofs.lemmas.List.{drop_more, get_or-drop, get_or_default, length-drop}
use Rattle.std.proofs.lemmas.List.FromFn.{get_or-enumerate_from, length-enumerate_from}
use Rattle.ed_base.specs.declared.edit.Span.{Span}
use Rattle.ed_base.specs.declared.piece.Member.{Member}
use Rattle.ed_base.specs.Numbers.{or_else}
use Rattle.ed_base.specs.Spans.{end_of, is_before}
use Rattle.ed_layers.specs.Order.{is_inclusive, stands_before, in_order, conflict, first_conflict}
use Rattle.ed_members.proofs.Bools.{or_left, or_right, or_cases, and_true, and_parts}
use Rattle.ed_members.specs.declared.sweeps.Reach.{Reach}
use Rattle.ed_members.specs.Reaches.{reach_of, are_clear, spanning}

-- the first of two spans, where one ends no later than the other starts, in either role
ordered : (i j : ℕ) (x x' : Span) → i ≢ j → end_of x ≤ x'.start → ((stands_before (i, x) (j, x') && nat_le (end_of x) x'.start) ≡ true) ⊎ ((stands_before (j, x') (i, x) && nat_le (end_of x') x.start) ≡ true)
ordered i j x x' ne le =
    elim (cases_lt x.start x'.start) [
      | inl l ↦ inl (and_true _ _ (or_left (is_before x x') _ (or_left (nat_lt x.start x'.start) _ (lt-ltb _ _ l))) (le-leb _ _ le))
      | inr g ↦ (let starts : x.start ≡ x'.start = omega arith in let none : x.len ≡ 0 = omega arith in
          elim (cases_lt 0 x'.len) [
            | inl long ↦ inl (and_true _ _ (or_left (is_before x x') _ (or_right (nat_lt x.start x'.start) _ (and_true _ _ (eq-eqb _ _ starts) (lt-ltb x.len x'.len (omega arith))))) (le-leb _ _ le))
            | inr short ↦ (let lens : x.len ≡ x'.len = omega arith in
                elim (cases_lt i j) [
                  | inl before ↦ inl (and_true _ _ (or_right (is_before x x') _ (and_true _ _ (and_true _ _ (eq-eqb _ _ starts) (eq-eqb _ _ lens)) (lt-ltb i j before))) (le-leb _ _ le))
                  | inr behind ↦ inr (and_true _ _ (or_right (is_before x' x) _ (and_true _ _ (and_true _ _ (eq-eqb _ _ (sym starts)) (eq-eqb _ _ (sym lens))) (lt-ltb j i (omega arith)))) (le-leb (end_of x') x.start (omega arith)))
                ])
          ])
    ]

pub in_either : (i j : ℕ) (x x' : Span) → i ≢ j → end_of x ≤ x'.start → (in_order (i, x) (j, x') ≡ true) × (in_order (j, x') (i, x) ≡ true)
in_either i j x x' ne le =
    elim (ordered i j x x' ne le) [
      | inl a ↦ (or_left _ _ a, or_right (stands_before (j, x') (i, x) && nat_le (end_of x') x.start) _ a)
      | inr b ↦ (or_right (stands_before (i, x) (j, x') && nat_le (end_of x) x'.start) _ b, or_left _ _ b)
    ]

pub kept_apart : (t i i' o : Bool) → not i ≡ true → not i' ≡ true → o ≡ true → (t && (i || i' || not o)) ≡ false
kept_apart true false false true h k l = refl
kept_apart false i i' o h k l = refl
kept_apart true true i' o h k l = absurd (cc)
kept_apart true false true o h k l = absurd (cc)
kept_apart true false false false h k l = absurd (cc)

-- ---- ranges that are clear

-- of one source
pub record Clear (a b : Reach) : Type 0 where
  pub free : not a.whole ≡ true
  pub free' : not b.whole ≡ true
  pub apart : a.end ≤ b.start

pub clear_cases : (a b : Reach) → are_clear a b ≡ true → a.source ≡ b.source → Clear a b
clear_cases a b h e =
    elim (or_cases (not (nat_eq a.source b.source)) (not a.whole && not b.whole && nat_le a.end b.start) h) [
      | inl l ↦ absurd (let t : not true ≡ true = rw (eq-eqb a.source b.source e) at l in cc)
      | inr r ↦ (let p : ((not a.whole && not b.whole) ≡ true) × (nat_le a.end b.start ≡ true) = and_parts (not a.whole && not b.whole) (nat_le a.end b.start) r in
          let q : (not a.whole ≡ true) × (not b.whole ≡ true) = and_parts (not a.whole) (not b.whole) p.0 in
          record { free = q.0; free' = q.1; apart = leb-true a.end b.start p.1 })
    ]

pub clear_from : (a b : Reach) → (a.source ≡ b.source → Clear a b) → are_clear a b ≡ true
clear_from a b clear = elim (cases_eq a.source b.source) [
  | inl e ↦ (let k : Clear a b = clear e in
      or_right (not (nat_eq a.source b.source)) _ (and_true (not a.whole && not b.whole) (nat_le a.end b.start) (and_true (not a.whole) (not b.whole) k.free k.free') (le-leb a.end b.start k.apart)))
  | inr ne ↦ or_left (not (nat_eq a.source b.source)) _ (rw (ne_eqb a.source b.source ne) refl)
]

-- the parts of a range that spans two of one source
record Parts (a b c : Reach) : Type 0 where
  start : (c.start ≤ a.start) × (c.start ≤ b.start)
  end : (a.end ≤ c.end) × (b.end ≤ c.end)
  whole : not c.whole ≡ true → (not a.whole ≡ true) × (not b.whole ≡ true)

free_parts : (a b : Bool) → not (a || b) ≡ true → (not a ≡ true) × (not b ≡ true)
free_parts true b h = absurd (cc)
free_parts false b h = (refl, h)

pub span_source : (a b : Reach) → (spanning a b).source ≡ b.source
span_source a b = elim (cases_eq a.source b.source) [
  | inl e ↦ rw (eq-eqb a.source b.source e) refl
  | inr ne ↦ rw (ne_eqb a.source b.source ne) refl
]

span_parts : (a b : Reach) → a.source ≡ b.source → Parts a b (spanning a b)
span_parts a b e = rw (eq-eqb a.source b.source e) (record { start = (omega arith, omega arith); end = (omega arith, omega arith); whole = free_parts a.whole b.whole })

span_other : (a b : Reach) → a.source ≢ b.source → spanning a b ≡ b
span_other a b ne = rw (ne_eqb a.source b.source ne) refl

-- what is clear of the span is clear of both
pub behind_last : (a b c : Reach) → are_clear (spanning a b) c ≡ true → are_clear b c ≡ true
behind_last a b c h = elim (cases_eq a.source b.source) [
  | inl e ↦ clear_from b c (λ f. let k : Clear (spanning a b) c = clear_cases (spanning a b) c h (span_source a b ∙ f) in
      let p : Parts a b (spanning a b) = span_parts a b e in
      record { free = (p.whole k.free).1; free' = k.free'; apart = omega (arith, p.end.1, k.apart) })
  | inr ne ↦ subst (λ (r : Reach). are_clear r c ≡ true) (span_other a b ne) h
]

pub behind_first : (a b c : Reach) → a.source ≤ b.source → b.source ≤ c.source → are_clear (spanning a b) c ≡ true → are_clear a c ≡ true
behind_first a b c low high h = clear_from a c (λ f. let e : a.source ≡ b.source = omega (arith, f) in
    let k : Clear (spanning a b) c = clear_cases (spanning a b) c h (span_source a b ∙ (sym e ∙ f)) in
    let p : Parts a b (spanning a b) = span_parts a b e in
    record { free = (p.whole k.free).0; free' = k.free'; apart = omega (arith, p.end.0, k.apart) })

pub ahead_last : (a b c : Reach) → are_clear c (spanning a b) ≡ true → are_clear c b ≡ true
ahead_last a b c h = elim (cases_eq a.source b.source) [
  | inl e ↦ clear_from c b (λ f. let k : Clear c (spanning a b) = clear_cases c (spanning a b) h (f ∙ sym (span_source a b)) in
      let p : Parts a b (spanning a b) = span_parts a b e in
      record { free = k.free; free' = (p.whole k.free').1; apart = omega (arith, p.start.1, k.apart) })
  | inr ne ↦ subst (λ (r : Reach). are_clear c r ≡ true) (span_other a b ne) h
]

pub ahead_first : (a b c : Reach) → b.source ≤ a.source → c.source ≤ b.source → are_clear c (spanning a b) ≡ true → are_clear c a ≡ true
ahead_first a b c high low h = clear_from c a (λ f. let e : a.source ≡ b.source = omega (arith, f) in
    let k : Clear c (spanning a b) = clear_cases c (spanning a b) h (f ∙ (e ∙ sym (span_source a b))) in
    let p : Parts a b (spanning a b) = span_parts a b e in
    record { free = k.free; free' = (p.whole k.free').0; apart = omega (arith, p.start.0, k.apart) })

-- ---- members that are clear

pub no_conflict : (i j : ℕ) (a b : Member) → i ≢ j → are_clear (reach_of a) (reach_of b) ≡ true → (conflict (i, a) (j, b) ≡ false) × (conflict (j, b) (i, a) ≡ false)
no_conflict i j (Member.Literal u) (Member.Literal u') ne h = (refl, refl)
no_conflict i j (Member.Literal u) (Member.Tracked s' x' m') ne h = (refl, refl)
no_conflict i j (Member.Tracked s x m) (Member.Literal u) ne h = (refl, refl)
no_conflict i j (Member.Tracked s x m) (Member.Tracked s' x' m') ne h =
    elim (cases_eq s s') [
      | inr apart ↦ (
        ap (λ t. t && (is_inclusive m || is_inclusive m' || not (in_order (i, x) (j, x')))) (ne_eqb s s' apart),
        ap (λ t. t && (is_inclusive m' || is_inclusive m || not (in_order (j, x') (i, x)))) (ne_eqb s' s (λ e. apart (sym e))),
      )
      | inl e ↦ (let k : Clear (reach_of (Member.Tracked s x m)) (reach_of (Member.Tracked s' x' m')) = clear_cases (reach_of (Member.Tracked s x m)) (reach_of (Member.Tracked s' x' m')) h (ap (λ n. n + 1) e) in
          let either : (in_order (i, x) (j, x') ≡ true) × (in_order (j, x') (i, x) ≡ true) = in_either i j x x' ne k.apart in (
            kept_apart (nat_eq s s') (is_inclusive m) (is_inclusive m') (in_order (i, x) (j, x')) k.free k.free' either.0,
            kept_apart (nat_eq s' s) (is_inclusive m') (is_inclusive m) (in_order (j, x') (i, x)) k.free' k.free either.1,
          ))
    ]

-- ---- lists of them

none_found : (p : ℕ × Member → Bool) (xs : List (ℕ × Member)) → ((j : ℕ) (d : ℕ × Member) → j < length xs → p (get_or xs j d) ≡ false) → find p xs ≡ None
none_found p [] all = refl
none_found p (x ∷ xs) all = ap (λ b. cond b (Some x) (find p xs)) (all 0 x (omega arith)) ∙ none_found p xs (λ j d h. all (suc j) d (omega arith))

pub no_first : (xs : List (ℕ × Member)) → ((i j : ℕ) (d : ℕ × Member) → i < j → j < length xs → conflict (get_or xs i d) (get_or xs j d) ≡ false) → first_conflict xs ≡ None
no_first [] all = refl
no_first (x ∷ xs) all =
    ap (λ o. or_else (option_map (λ (other : ℕ × Member). (x.0, other.0)) o) (first_conflict xs)) (none_found (conflict x) xs (λ j d h. all 0 (suc j) d (omega arith) (omega arith)))
    ∙ no_first xs (λ i j d l h. all (suc i) (suc j) d (omega arith) (omega arith))

-- members below an index that conflict with none behind them can be left out
pub first_from : (ms : List Member) (k : ℕ) → k ≤ length ms → ((i j : ℕ) (d : Member) → i < k → i < j → j < length ms → conflict (i, get_or ms i d) (j, get_or ms j d) ≡ false)
    → first_conflict (enumerate_from k (drop k ms)) ≡ first_conflict (enumerate_from 0 ms)
first_from ms zero within none = refl
first_from ms (suc k) within none =
    let x : Member = get_or ms k (Member.Literal []) in
    let rest : drop k ms ≡ x ∷ drop (k + 1) ms = drop_more ms k (Member.Literal []) (omega arith) in
    let found : find (conflict (k, x)) (enumerate_from (k + 1) (drop (k + 1) ms)) ≡ None =
    none_found (conflict (k, x)) (enumerate_from (k + 1) (drop (k + 1) ms))
    (λ j d l. let inside : j < length (drop (k + 1) ms) = omega (arith, length-enumerate_from (k + 1) (drop (k + 1) ms)) in
    let there : (k + 1) + j < length ms = omega (arith, length-drop (k + 1) ms) in
    let at : get_or (enumerate_from (k + 1) (drop (k + 1) ms)) j d ≡ ((k + 1) + j, get_or ms ((k + 1) + j) d.1) = get_or-enumerate_from (k + 1) (drop (k + 1) ms) j d inside ∙ ap (λ (m : Member). ((k + 1) + j, m)) (get_or-drop (k + 1) ms j d.1) in
    subst (λ (m : ℕ × Member). conflict (k, x) m ≡ false) (sym at)
    (subst (λ (m : Member). conflict (k, m) ((k + 1) + j, get_or ms ((k + 1) + j) d.1) ≡ false) (get_or_default ms k d.1 (Member.Literal []) (omega arith)) (none k ((k + 1) + j) d.1 (omega arith) (omega arith) there))) in
    let here : first_conflict (enumerate_from k (drop k ms)) ≡ first_conflict (enumerate_from (k + 1) (drop (k + 1) ms)) =
    ap (λ (xs : List Member). first_conflict (enumerate_from k xs)) rest
    ∙ ap (λ (o : Option (ℕ × Member)). or_else (option_map (λ (other : ℕ × Member). (k, other.0)) o) (first_conflict (enumerate_from (k + 1) (drop (k + 1) ms)))) found in
    subst (λ (n : ℕ). first_conflict (enumerate_from n (drop n ms)) ≡ first_conflict (enumerate_from 0 ms)) (let e : k + 1 ≡ suc k = omega arith in e)
    (sym here ∙ first_from ms k (omega arith) (λ i j d l. none i j d (omega arith)))
