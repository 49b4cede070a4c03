-- The next member in the order of indices that holds something is the next one of the definition.
use Rattle.std.proofs.Common.{◌≡◌, ℕ, zero, suc, ◌+◌, ◌<◌, ◌≤◌, Bool, true, false, ◌&&◌, ◌||◌, ◌⊎◌, inl, inr, List, [], ◌∷◌, length, drop, get_or, Option, Some, None, refl, sym, ap, subst, ◌∙◌, arith}
use Rattle.std.specs.Prelude.{nat_eq, nat_lt, slice_get, slice_index, find, filter, option_map, option_and_then, is_some, IsPermutation}
use Rattle.std.specs.List.{list_all, enumerate_from}
use Rattle.std.proofs.lemmas.Bool.{cases_Bool, cases_lt, cases_eq, eq-eqb, ne_eqb, eqb-true, lt-ltb, ltb-true}
use Rattle.std.proofs.lemmas.Grind.{get_or_default_zero}
use Rattle.std.proofs.lemmas.List.{drop_all}
use Rattle.ed_base.specs.declared.edit.Span.{Span}
use Rattle.ed_base.specs.declared.mode.SpanMode.{SpanMode}
use Rattle.ed_base.specs.declared.piece.Member.{Member}
use Rattle.ed_base.specs.Numbers.{places, or_else}
use Rattle.ed_base.proofs.NormalLists.{rest_at}
use Rattle.ed_layers.specs.Bounds.{Placed, held_range, comes_after, first_of, next_start, placed_on}
use Rattle.ed_layers.specs.SourceStep.{SourceStep}
use Rattle.ed_members.proofs.Bools.{or_left, or_right, or_cases, and_true, and_parts}
use Rattle.ed_members.specs.declared.held.Held.{Held}
use Rattle.ed_members.specs.Advance.{AreHeld, held_span}
use Rattle.ed_members.specs.Nexts.{key_if, source_at, start_at, next_in}
use Rattle.ed_members.specs.Sorted.{key_of, Precedes, AreSorted}
use Rattle.ed_members.proofs.Permuted.{place_of}
use Rattle.ed_members.proofs.Putting.{below_at}

-- ---- elements of lists

abbrev pub In : {X : Type 0} → X → List X → Type 0
In x [] = ⊥
In x (y ∷ ys) = (y ≡ x) ⊎ In x ys

find_only : {X : Type 0} (test : X → Bool) (xs : List X) (y : X) → In y xs → test y ≡ true → ((z : X) → In z xs → test z ≡ true → z ≡ y) → find test xs ≡ Some y
find_only test [] y has is only = absurd has
find_only test (x ∷ xs) y has is only = elim (cases_Bool (test x)) [
  | inl t ↦ rw t (ap Some (only x (inl refl) t))
  | inr f ↦ rw f (elim has [
    | inl e ↦ absurd (let t : test x ≡ true = ap test e ∙ is in cc)
    | inr later ↦ find_only test xs y later is (λ z in_xs t. only z (inr in_xs) t)
  ])
]

filter_none : {X : Type 0} (test : X → Bool) (xs : List X) → ((z : X) → In z xs → test z ≡ false) → filter test xs ≡ []
filter_none test [] none = refl
filter_none test (x ∷ xs) none = rw (none x (inl refl)) (filter_none test xs (λ z in_xs. none z (inr in_xs)))

in_filter : {X : Type 0} (test : X → Bool) (xs : List X) (z : X) → In z xs → test z ≡ true → In z (filter test xs)
in_filter test [] z has t = absurd has
in_filter test (x ∷ xs) z has t = elim (cases_Bool (test x)) [
  | inl t' ↦ rw t' (elim has [ inl e ↦ inl e | inr later ↦ inr (in_filter test xs z later t) ])
  | inr f ↦ rw f (elim has [ inl e ↦ absurd (let t' : test x ≡ true = ap test e ∙ t in cc) | inr later ↦ in_filter test xs z later t ])
]

filter_in : {X : Type 0} (test : X → Bool) (xs : List X) (z : X) → In z (filter test xs) → In z xs × (test z ≡ true)
filter_in test [] z has = absurd has
filter_in test (x ∷ xs) z has = elim (cases_Bool (test x)) [
  | inl t ↦ elim (rw t at has) [
    | inl e ↦ (inl e, ap test (sym e) ∙ t)
    | inr later ↦ (let r : In z xs × (test z ≡ true) = filter_in test xs z later in (inr r.0, r.1))
  ]
  | inr f ↦ (let r : In z xs × (test z ≡ true) = filter_in test xs z (rw f at has) in (inr r.0, r.1))
]

all_in : {X : Type 0} (test : X → Bool) (xs : List X) → ((z : X) → In z xs → test z ≡ true) → list_all test xs ≡ true
all_in test [] all = refl
all_in test (x ∷ xs) all = rw (all x (inl refl)) (all_in test xs (λ z in_xs. all z (inr in_xs)))

in_all : {X : Type 0} (test : X → Bool) (xs : List X) (z : X) → list_all test xs ≡ true → In z xs → test z ≡ true
in_all test [] z all has = absurd has
in_all test (x ∷ xs) z all has =
    let both : (test x ≡ true) × (list_all test xs ≡ true) = and_parts (test x) (list_all test xs) all in
    elim has [ inl e ↦ ap test (sym e) ∙ both.0 | inr later ↦ in_all test xs z both.1 later ]

-- ---- the members on a source

abbrev pub placed : ℕ → Span → Placed
placed i bounds = record { index = i; bounds = bounds }

pub placed_there : (source k j : ℕ) (ms : List Member) (bounds : Span) (mode : SpanMode) → slice_get ms j ≡ Some (Member.Tracked source bounds mode) → In (placed (k + j) bounds) (placed_on source (enumerate_from k ms))
placed_there source k j [] bounds mode at = absurd (cc)
placed_there source k zero (Member.Literal u ∷ ms) bounds mode at = absurd (cc)
placed_there source k (suc j) (Member.Literal u ∷ ms) bounds mode at =
    subst (λ (i : ℕ). In (placed i bounds) (placed_on source (enumerate_from (k + 1) ms))) (let e : (k + 1) + j ≡ k + suc j = omega arith in e) (placed_there source (k + 1) j ms bounds mode at)
placed_there source k zero (Member.Tracked from b m ∷ ms) bounds mode at =
    let same : from ≡ source = cc in
    let alike : b ≡ bounds = cc in
    rw (eq-eqb from source same) (inl (ap (placed k) alike ∙ ap (λ (i : ℕ). placed i bounds) (let e : k ≡ k + 0 = omega arith in e)))
placed_there source k (suc j) (Member.Tracked from b m ∷ ms) bounds mode at =
    let rest : In (placed (k + suc j) bounds) (placed_on source (enumerate_from (k + 1) ms)) =
    subst (λ (i : ℕ). In (placed i bounds) (placed_on source (enumerate_from (k + 1) ms))) (let e : (k + 1) + j ≡ k + suc j = omega arith in e) (placed_there source (k + 1) j ms bounds mode at) in
    elim (cases_eq from source) [
      | inl e ↦ rw (eq-eqb from source e) (inr rest)
      | inr ne ↦ rw (ne_eqb from source ne) rest
    ]

pub record IsPlaced (source k : ℕ) (ms : List Member) (m : Placed) : Type 0 where
  pub at : ℕ
  pub mode : SpanMode
  pub index : m.index ≡ k + at
  pub here : slice_get ms at ≡ Some (Member.Tracked source m.bounds mode)

further : (source k : ℕ) (x : Member) (ms : List Member) (m : Placed) → IsPlaced source (k + 1) ms m → IsPlaced source k (x ∷ ms) m
further source k x ms m p = record { at = suc p.at; mode = p.mode; index = p.index ∙ (let e : (k + 1) + p.at ≡ k + suc p.at = omega arith in e); here = p.here }

pub there_placed : (source k : ℕ) (ms : List Member) (m : Placed) → In m (placed_on source (enumerate_from k ms)) → IsPlaced source k ms m
there_placed source k [] m has = absurd has
there_placed source k (Member.Literal u ∷ ms) m has = further source k (Member.Literal u) ms m (there_placed source (k + 1) ms m has)
there_placed source k (Member.Tracked from b mode ∷ ms) m has = elim (cases_eq from source) [
  | inl e ↦ elim (rw (eq-eqb from source e) at has) [
    | inl first ↦ record {
      at = 0;
      mode = mode;
      index = ap (λ (p : Placed). p.index) (sym first) ∙ (let z : k ≡ k + 0 = omega arith in z);
      here = ap (λ (s : ℕ). Some (Member.Tracked s b mode)) e ∙ ap (λ (p : Placed). Some (Member.Tracked source p.bounds mode)) first;
    }
    | inr later ↦ further source k (Member.Tracked from b mode) ms m (there_placed source (k + 1) ms m later)
  ]
  | inr ne ↦ further source k (Member.Tracked from b mode) ms m (there_placed source (k + 1) ms m (rw (ne_eqb from source ne) at has))
]

-- ---- their order

abbrev pub Stands : Placed → Placed → Type 0
Stands m n = (m.bounds.start < n.bounds.start) ⊎ ((m.bounds.start ≡ n.bounds.start) × ((m.bounds.len < n.bounds.len) ⊎ ((m.bounds.len ≡ n.bounds.len) × (m.index < n.index))))

pub stands_after : (m n : Placed) → comes_after m n ≡ true → Stands m n
stands_after m n h =
    let x : Span = m.bounds in
    let y : Span = n.bounds in
    elim (or_cases (nat_lt x.start y.start || (nat_eq x.start y.start && nat_lt x.len y.len)) (nat_eq x.start y.start && nat_eq x.len y.len && nat_lt m.index n.index) h) [
      | inl a ↦ elim (or_cases (nat_lt x.start y.start) (nat_eq x.start y.start && nat_lt x.len y.len) a) [
        | inl l ↦ inl (ltb-true x.start y.start l)
        | inr b ↦ (let p : (nat_eq x.start y.start ≡ true) × (nat_lt x.len y.len ≡ true) = and_parts (nat_eq x.start y.start) (nat_lt x.len y.len) b in inr (eqb-true x.start y.start p.0, inl (ltb-true x.len y.len p.1)))
      ]
      | inr b ↦ (let p : ((nat_eq x.start y.start && nat_eq x.len y.len) ≡ true) × (nat_lt m.index n.index ≡ true) = and_parts (nat_eq x.start y.start && nat_eq x.len y.len) (nat_lt m.index n.index) b in
          let q : (nat_eq x.start y.start ≡ true) × (nat_eq x.len y.len ≡ true) = and_parts (nat_eq x.start y.start) (nat_eq x.len y.len) p.0 in
          inr (eqb-true x.start y.start q.0, inr (eqb-true x.len y.len q.1, ltb-true m.index n.index p.1)))
    ]

pub after_stands : (m n : Placed) → Stands m n → comes_after m n ≡ true
after_stands m n before =
    let x : Span = m.bounds in
    let y : Span = n.bounds in
    elim before [
      | inl l ↦ or_left _ _ (or_left (nat_lt x.start y.start) _ (lt-ltb x.start y.start l))
      | inr e ↦ elim e.1 [
        | inl l ↦ or_left _ _ (or_right (nat_lt x.start y.start) _ (and_true _ _ (eq-eqb x.start y.start e.0) (lt-ltb x.len y.len l)))
        | inr f ↦ or_right (nat_lt x.start y.start || (nat_eq x.start y.start && nat_lt x.len y.len)) _ (and_true _ _ (and_true _ _ (eq-eqb x.start y.start e.0) (eq-eqb x.len y.len f.0)) (lt-ltb m.index n.index f.1))
      ]
    ]

pub stands_one_way : (m n : Placed) → Stands m n → Stands n m → ⊥
stands_one_way m n a b = elim a [
  | inl l ↦ elim b [ inl l' ↦ omega arith | inr e' ↦ omega (arith, e'.0) ]
  | inr e ↦ elim b [
    | inl l' ↦ omega (arith, e.0)
    | inr e' ↦ elim e.1 [
      | inl l ↦ elim e'.1 [ inl l' ↦ omega arith | inr f' ↦ omega (arith, f'.0) ]
      | inr f ↦ elim e'.1 [ inl l' ↦ omega (arith, f.0) | inr f' ↦ omega (arith, f.1, f'.1) ]
    ]
  ]
]

pub stands_chain : (m n k : Placed) → Stands m n → Stands n k → Stands m k
stands_chain m n k a b = elim a [
  | inl l ↦ elim b [ inl l' ↦ inl (omega arith) | inr e' ↦ inl (omega (arith, e'.0)) ]
  | inr e ↦ elim b [
    | inl l' ↦ inl (omega (arith, e.0))
    | inr e' ↦ inr (
      e.0 ∙ e'.0,
      (elim e.1 [
        | inl l ↦ elim e'.1 [ inl l' ↦ inl (omega arith) | inr f' ↦ inl (omega (arith, f'.0)) ]
        | inr f ↦ elim e'.1 [ inl l' ↦ inl (omega (arith, f.0)) | inr f' ↦ inr (f.0 ∙ f'.0, omega (arith, f.1, f'.1)) ]
      ]),
    )
  ]
]

-- an index stands for one member
pub same_placed : (source : ℕ) (ms : List Member) (m n : Placed) → In m (placed_on source (enumerate_from 0 ms)) → In n (placed_on source (enumerate_from 0 ms)) → m.index ≡ n.index → m ≡ n
same_placed source ms m n m_in n_in e =
    let a : IsPlaced source 0 ms m = there_placed source 0 ms m m_in in
    let b : IsPlaced source 0 ms n = there_placed source 0 ms n n_in in
    let at : a.at ≡ b.at = (let i : m.index ≡ 0 + a.at = a.index in let j : n.index ≡ 0 + b.at = b.index in omega arith) in
    let alike : Some (Member.Tracked source m.bounds a.mode) ≡ Some (Member.Tracked source n.bounds b.mode) = sym a.here ∙ (ap (slice_get ms) at ∙ b.here) in
    let bounds : m.bounds ≡ n.bounds = cc in
    ap (λ (i : ℕ). placed i m.bounds) e ∙ ap (placed n.index) bounds

-- where the next one that holds something begins: there is none, or one that stands before all others
abbrev pub NextKnown : ℕ → SourceStep → List Placed → Placed → Option ℕ → Type 0
NextKnown carrier s all m None = (n : Placed) → In n all → comes_after m n ≡ true → is_some (held_range carrier s n) ≡ false
NextKnown carrier s all m (Some x) = (n : Placed) × In n all × (comes_after m n ≡ true) × (option_map (λ r. r.start) (held_range carrier s n) ≡ Some x)
    × ((z : Placed) → In z all → comes_after m z ≡ true → is_some (held_range carrier s z) ≡ true → (z.index ≡ n.index) ⊎ Stands n z)

known_some : (o : Option Span) (x : ℕ) → option_map (λ r. r.start) o ≡ Some x → is_some o ≡ true
known_some None x e = absurd (cc)
known_some (Some r) x e = refl

-- it is that of the definition
pub known_is : (carrier source : ℕ) (s : SourceStep) (ms : List Member) (m : Placed) (o : Option ℕ) → NextKnown carrier s (placed_on source (enumerate_from 0 ms)) m o → o ≡ next_start carrier s (placed_on source (enumerate_from 0 ms)) m
known_is carrier source s ms m None none =
    let empty : filter (λ n. comes_after m n && is_some (held_range carrier s n)) (placed_on source (enumerate_from 0 ms)) ≡ [] = filter_none (λ n. comes_after m n && is_some (held_range carrier s n)) (placed_on source (enumerate_from 0 ms)) (λ n has. elim (cases_Bool (comes_after m n)) [
      | inl t ↦ rw t (none n has t)
      | inr f ↦ rw f refl
    ]) in
    sym (ap (λ (ns : List Placed). option_and_then (λ n. option_map (λ r. r.start) (held_range carrier s n)) (first_of ns)) empty)
known_is carrier source s ms m (Some x) known =
    let n : Placed = known.0 in
    let n_in : In n (placed_on source (enumerate_from 0 ms)) = known.1 in
    let n_follows : (comes_after m n && is_some (held_range carrier s n)) ≡ true = and_true (comes_after m n) (is_some (held_range carrier s n)) known.2 (known_some (held_range carrier s n) x known.3) in
    let before_all : (z : Placed) → In z (filter (λ n. comes_after m n && is_some (held_range carrier s n)) (placed_on source (enumerate_from 0 ms))) → (z.index ≡ n.index) ⊎ Stands n z = λ z has.
    (let f : In z (placed_on source (enumerate_from 0 ms)) × ((comes_after m z && is_some (held_range carrier s z)) ≡ true) = filter_in (λ n. comes_after m n && is_some (held_range carrier s n)) (placed_on source (enumerate_from 0 ms)) z has in
    let both : (comes_after m z ≡ true) × (is_some (held_range carrier s z) ≡ true) = and_parts (comes_after m z) (is_some (held_range carrier s z)) f.1 in
    known.4 z f.0 both.0 both.1) in
    let is_first : first_of (filter (λ n. comes_after m n && is_some (held_range carrier s n)) (placed_on source (enumerate_from 0 ms))) ≡ Some n =
    find_only (λ m'. list_all (λ z. nat_eq z.index m'.index || comes_after m' z) (filter (λ n. comes_after m n && is_some (held_range carrier s n)) (placed_on source (enumerate_from 0 ms)))) (filter (λ n. comes_after m n && is_some (held_range carrier s n)) (placed_on source (enumerate_from 0 ms))) n
    (in_filter (λ n. comes_after m n && is_some (held_range carrier s n)) (placed_on source (enumerate_from 0 ms)) n n_in n_follows)
    (all_in (λ z. nat_eq z.index n.index || comes_after n z) (filter (λ n. comes_after m n && is_some (held_range carrier s n)) (placed_on source (enumerate_from 0 ms))) (λ z has. elim (before_all z has) [
      | inl e ↦ or_left _ _ (eq-eqb z.index n.index e)
      | inr b ↦ or_right (nat_eq z.index n.index) _ (after_stands n z b)
    ]))
    (λ z has t.
    let at_n : (nat_eq n.index z.index || comes_after z n) ≡ true = in_all (λ y. nat_eq y.index z.index || comes_after z y) (filter (λ n. comes_after m n && is_some (held_range carrier s n)) (placed_on source (enumerate_from 0 ms))) n t
    (in_filter (λ n. comes_after m n && is_some (held_range carrier s n)) (placed_on source (enumerate_from 0 ms)) n n_in n_follows) in
    let z_in : In z (placed_on source (enumerate_from 0 ms)) = (filter_in (λ n. comes_after m n && is_some (held_range carrier s n)) (placed_on source (enumerate_from 0 ms)) z has).0 in
    elim (or_cases (nat_eq n.index z.index) (comes_after z n) at_n) [
      | inl e ↦ same_placed source ms z n z_in n_in (sym (eqb-true n.index z.index e))
      | inr c ↦ elim (before_all z has) [
        | inl e ↦ same_placed source ms z n z_in n_in e
        | inr b ↦ absurd (stands_one_way n z b (stands_after z n c))
      ]
    ]) in
    sym (ap (option_and_then (λ n. option_map (λ r. r.start) (held_range carrier s n))) is_first ∙ known.3)

module _ (ms : List Member) (order : List ℕ) (sorted : AreSorted ms order) (permuted : IsPermutation (places (length ms)) order) where
  stands_at : (p q source : ℕ) (x y : Span) (mode mode' : SpanMode) → p < q → q < length order → slice_get ms (slice_index order p) ≡ Some (Member.Tracked source x mode) → slice_get ms (slice_index order q) ≡ Some (Member.Tracked source y mode')
      → Stands (placed (slice_index order p) x) (placed (slice_index order q) y)
  stands_at p q source x y mode mode' l below at at' =
      let before : Precedes (key_of (Some (Member.Tracked source x mode)) (slice_index order p)) (key_of (Some (Member.Tracked source y mode')) (slice_index order q)) =
      subst (λ (o : Option Member). Precedes (key_of (Some (Member.Tracked source x mode)) (slice_index order p)) (key_of o (slice_index order q))) at'
      (subst (λ (o : Option Member). Precedes (key_of o (slice_index order p)) (key_of (slice_get ms (slice_index order q)) (slice_index order q))) at (sorted.each p q l below)) in
      elim before [ inl m ↦ absurd (omega arith) | inr e ↦ e.1 ]

  -- what comes after in the order stands at a later position
  later_at : (p q source : ℕ) (x y : Span) (mode mode' : SpanMode) → p < length order → q < length order → slice_get ms (slice_index order p) ≡ Some (Member.Tracked source x mode) → slice_get ms (slice_index order q) ≡ Some (Member.Tracked source y mode')
      → Stands (placed (slice_index order p) x) (placed (slice_index order q) y) → p < q
  later_at p q source x y mode mode' below below' at at' stands = elim (cases_lt p q) [
    | inl l ↦ l
    | inr g ↦ elim (cases_eq p q) [
      | inl e ↦ absurd (let same : slice_index order p ≡ slice_index order q = ap (slice_index order) e in
          let alike : Some (Member.Tracked source x mode) ≡ Some (Member.Tracked source y mode') = sym at ∙ (ap (slice_get ms) same ∙ at') in
          let bounds : x ≡ y = cc in
          stands_one_way (placed (slice_index order p) x) (placed (slice_index order q) y) stands
          (subst (λ (i : ℕ). Stands (placed (slice_index order q) y) (placed i x)) (sym same) (subst (λ (b : Span). Stands (placed (slice_index order q) y) (placed (slice_index order q) b)) (sym bounds)
          (subst (λ (b : Span). Stands (placed (slice_index order q) b) (placed (slice_index order q) y)) bounds (subst (λ (i : ℕ). Stands (placed i x) (placed (slice_index order q) y)) same stands)))))
      | inr ne ↦ absurd (stands_one_way (placed (slice_index order p) x) (placed (slice_index order q) y) stands (stands_at q p source y x mode' mode (omega arith) below at' at))
    ]
  ]

  -- the first position from one on that is on a source and holds something
  module _ (held : List (Option Held)) where
    abbrev FirstIn : ℕ → ℕ → Option ℕ → Type 0
    FirstIn at k None = (q : ℕ) → at ≤ q → q < length order → source_at ms (slice_index order q) ≡ k → start_at held (slice_index order q) ≡ None
    FirstIn at k (Some x) = (q : ℕ) × (at ≤ q) × (q < length order) × (source_at ms (slice_index order q) ≡ k) × (start_at held (slice_index order q) ≡ Some x)
        × ((r : ℕ) → at ≤ r → r < q → source_at ms (slice_index order r) ≡ k → start_at held (slice_index order r) ≡ None)

    earlier : (at k : ℕ) (o : Option ℕ) → (source_at ms (slice_index order at) ≡ k → start_at held (slice_index order at) ≡ None) → FirstIn (at + 1) k o → FirstIn at k o
    earlier at k None none first = λ q le below on. elim (cases_lt at q) [ inl l ↦ first q (omega arith) below on | inr g ↦ (let e : at ≡ q = omega arith in subst (λ (x : ℕ). start_at held (slice_index order x) ≡ None) e (none (ap (λ (x : ℕ). source_at ms (slice_index order x)) e ∙ on))) ]
    earlier at k (Some x) none first = (
      first.0,
      omega (arith, first.1),
      first.2,
      first.3,
      first.4,
      λ r le below on. elim (cases_lt at r) [ inl l ↦ first.5 r (omega arith) below on | inr g ↦ (let e : at ≡ r = omega arith in subst (λ (x : ℕ). start_at held (slice_index order x) ≡ None) e (none (ap (λ (x : ℕ). source_at ms (slice_index order x)) e ∙ on))) ],
    )

    first_in : (at n k : ℕ) → length order ≤ at + n → FirstIn at k (next_in ms held k (drop at order))
    first_in at zero k size = subst (λ (xs : List ℕ). FirstIn at k (next_in ms held k xs)) (sym (drop_all at order (omega arith))) (λ q le below on. absurd (omega arith))
    first_in at (suc n) k size = elim (cases_lt at (length order)) [
      | inr g ↦ subst (λ (xs : List ℕ). FirstIn at k (next_in ms held k xs)) (sym (drop_all at order g)) (λ q le below on. absurd (omega arith))
      | inl l ↦ subst (λ (xs : List ℕ). FirstIn at k (next_in ms held k xs)) (sym (rest_at order at (slice_index order at) l (sym (get_or_default_zero order at (slice_index order at) l))))
          (elim (cases_eq (source_at ms (slice_index order at)) k) [
            | inl e ↦ rw (eq-eqb (source_at ms (slice_index order at)) k e) (here l e (first_in (at + 1) n k (omega arith)) (start_at held (slice_index order at)) refl)
            | inr ne ↦ rw (ne_eqb (source_at ms (slice_index order at)) k ne) (earlier at k (next_in ms held k (drop (at + 1) order)) (λ on. absurd (ne on)) (first_in (at + 1) n k (omega arith)))
          ])
    ]
      where
        here : at < length order → source_at ms (slice_index order at) ≡ k → FirstIn (at + 1) k (next_in ms held k (drop (at + 1) order)) → (o : Option ℕ) → start_at held (slice_index order at) ≡ o → FirstIn at k (or_else o (next_in ms held k (drop (at + 1) order)))
        here l e rest (Some x) is = (at, omega arith, l, e, is, λ r le below on. absurd (omega arith))
        here l e rest None is = earlier at k (next_in ms held k (drop (at + 1) order)) (λ on. is) rest

    -- ---- the definition

    tracked_on : (o : Option Member) (source : ℕ) → key_if o ≡ source + 1 → (bounds : Span) × (mode : SpanMode) × (o ≡ Some (Member.Tracked source bounds mode))
    tracked_on None source is = absurd (omega arith)
    tracked_on (Some (Member.Literal u)) source is = absurd (omega arith)
    tracked_on (Some (Member.Tracked s b m)) source is = (b, m, ap (λ (x : ℕ). Some (Member.Tracked x b m)) (let e : s ≡ source = omega arith in e))

    module _ (carrier source : ℕ) (steps : ℕ → Option SourceStep) (s : SourceStep) (is : steps source ≡ Some s) (are : AreHeld carrier steps ms held) where
      starts : (o : Option Held) → option_map (λ (h : Held). h.start) o ≡ option_map (λ (r : Span). r.start) (option_map held_span o)
      starts None = refl
      starts (Some h) = refl

      start_is : (i : ℕ) (bounds : Span) (mode : SpanMode) → slice_get ms i ≡ Some (Member.Tracked source bounds mode) → start_at held i ≡ option_map (λ r. r.start) (held_range carrier s (placed i bounds))
      start_is i bounds mode at = starts (get_or held i None) ∙ ap (option_map (λ (r : Span). r.start)) (are.each i source bounds mode s at is)

      -- a member of the source with its position in the order
      record At (m : Placed) : Type 0 where
        pos : ℕ
        mode : SpanMode
        below : pos < length order
        index : slice_index order pos ≡ m.index
        here : slice_get ms (slice_index order pos) ≡ Some (Member.Tracked source m.bounds mode)

      at_of : (m : Placed) → In m (placed_on source (enumerate_from 0 ms)) → At m
      at_of m has =
          let p : IsPlaced source 0 ms m = there_placed source 0 ms m has in
          let i : m.index ≡ p.at = p.index ∙ (let z : 0 + p.at ≡ p.at = omega arith in z) in
          let pos : (q : ℕ) × (q < length order) × (slice_index order q ≡ p.at) = place_of (length ms) order permuted p.at (below_at ms p.at (Member.Tracked source m.bounds p.mode) p.here) in
          record { pos = pos.0; mode = p.mode; below = pos.1; index = pos.2 ∙ sym i; here = ap (slice_get ms) pos.2 ∙ p.here }

      -- m stands at a position of the order
      module _ (p : ℕ) (bounds : Span) (mode : SpanMode) (p_below : p < length order) (at : slice_get ms (slice_index order p) ≡ Some (Member.Tracked source bounds mode)) where
        abbrev follows : Placed → Bool
        follows n = comes_after (placed (slice_index order p) bounds) n && is_some (held_range carrier s n)

        -- a later one on the source that holds something, at its position
        record Later (n : Placed) : Type 0 where
          place : At n
          behind : p < place.pos
          start : ℕ
          starts_at : start_at held (slice_index order place.pos) ≡ Some start

        start_there : (n : Placed) (a : At n) → start_at held (slice_index order a.pos) ≡ option_map (λ r. r.start) (held_range carrier s n)
        start_there n a = start_is (slice_index order a.pos) n.bounds a.mode a.here ∙ ap (λ (i : ℕ). option_map (λ (r : Span). r.start) (held_range carrier s (placed i n.bounds))) a.index

        later_of : (n : Placed) → In n (placed_on source (enumerate_from 0 ms)) → follows n ≡ true → Later n
        later_of n has f =
            let a : At n = at_of n has in
            let both : (comes_after (placed (slice_index order p) bounds) n ≡ true) × (is_some (held_range carrier s n) ≡ true) = and_parts (comes_after (placed (slice_index order p) bounds) n) (is_some (held_range carrier s n)) f in
            let stands : Stands (placed (slice_index order p) bounds) n = stands_after (placed (slice_index order p) bounds) n both.0 in
            let stands' : Stands (placed (slice_index order p) bounds) (placed (slice_index order a.pos) n.bounds) = subst (λ (i : ℕ). Stands (placed (slice_index order p) bounds) (placed i n.bounds)) (sym a.index) stands in
            let x : (x : ℕ) × (option_map (λ (r : Span). r.start) (held_range carrier s n) ≡ Some x) = a_start (held_range carrier s n) both.1 in
            record { place = a; behind = later_at p a.pos source bounds n.bounds mode a.mode p_below a.below at a.here stands'; start = x.0; starts_at = start_there n a ∙ x.1 }
          where
            a_start : (o : Option Span) → is_some o ≡ true → (x : ℕ) × (option_map (λ (r : Span). r.start) o ≡ Some x)
            a_start None e = absurd (cc)
            a_start (Some r) e = (r.start, refl)

        key_at : (n : Placed) (a : At n) → source_at ms (slice_index order a.pos) ≡ source + 1
        key_at n a = ap key_if a.here

        next_found : NextKnown carrier s (placed_on source (enumerate_from 0 ms)) (placed (slice_index order p) bounds) (next_in ms held (source + 1) (drop (p + 1) order))
        next_found = by_first (next_in ms held (source + 1) (drop (p + 1) order)) (first_in (p + 1) (length order) (source + 1) (omega arith))
          where
            by_first : (o : Option ℕ) → FirstIn (p + 1) (source + 1) o → NextKnown carrier s (placed_on source (enumerate_from 0 ms)) (placed (slice_index order p) bounds) o
            by_first None none = λ n has after. elim (cases_Bool (is_some (held_range carrier s n))) [
              | inl t ↦ (let l : Later n = later_of n has (and_true _ _ after t) in
                  absurd (let e : start_at held (slice_index order l.place.pos) ≡ None = none l.place.pos (let b : p < l.place.pos = l.behind in omega arith) l.place.below (key_at n l.place) in
                  let f : start_at held (slice_index order l.place.pos) ≡ Some l.start = l.starts_at in cc))
              | inr f ↦ f
            ]
            by_first (Some x) first =
                let q : ℕ = first.0 in
                let key : (b : Span) × (m : SpanMode) × (slice_get ms (slice_index order q) ≡ Some (Member.Tracked source b m)) = tracked_on (slice_get ms (slice_index order q)) source first.3 in
                let n : Placed = placed (slice_index order q) key.0 in
                let q_behind : p < q = omega (arith, first.1) in
                let starts_at : option_map (λ (r : Span). r.start) (held_range carrier s n) ≡ Some x = sym (start_is (slice_index order q) key.0 key.1 key.2) ∙ first.4 in
                let n_in : In n (placed_on source (enumerate_from 0 ms)) = subst (λ (i : ℕ). In (placed i key.0) (placed_on source (enumerate_from 0 ms))) (let z : 0 + slice_index order q ≡ slice_index order q = omega arith in z) (placed_there source 0 (slice_index order q) ms key.0 key.1 key.2) in (
                  n,
                  n_in,
                  after_stands (placed (slice_index order p) bounds) n (stands_at p q source bounds key.0 mode key.1 q_behind first.2 at key.2),
                  starts_at,
                  λ z z_in after some.
                      let l : Later z = later_of z z_in (and_true _ _ after some) in
                      elim (cases_lt q l.place.pos) [
                        | inl m ↦ inr (subst (λ (i : ℕ). Stands n (placed i z.bounds)) l.place.index (stands_at q l.place.pos source key.0 z.bounds key.1 l.place.mode m l.place.below key.2 l.place.here))
                        | inr g ↦ elim (cases_eq l.place.pos q) [
                          | inl e ↦ inl (sym l.place.index ∙ ap (slice_index order) e)
                          | inr ne ↦ absurd (let e : start_at held (slice_index order l.place.pos) ≡ None = first.5 l.place.pos (let b : p < l.place.pos = l.behind in omega arith) (omega arith) (key_at z l.place) in
                              let f' : start_at held (slice_index order l.place.pos) ≡ Some l.start = l.starts_at in cc)
                        ]
                      ],
                )

        pub next_is : next_in ms held (source + 1) (drop (p + 1) order) ≡ next_start carrier s (placed_on source (enumerate_from 0 ms)) (placed (slice_index order p) bounds)
        next_is = known_is carrier source s ms (placed (slice_index order p) bounds) (next_in ms held (source + 1) (drop (p + 1) order)) next_found

      pub next_known : (m : Placed) → In m (placed_on source (enumerate_from 0 ms)) → NextKnown carrier s (placed_on source (enumerate_from 0 ms)) m (next_start carrier s (placed_on source (enumerate_from 0 ms)) m)
      next_known m has =
          let a : At m = at_of m has in
          let there : NextKnown carrier s (placed_on source (enumerate_from 0 ms)) (placed (slice_index order a.pos) m.bounds) (next_start carrier s (placed_on source (enumerate_from 0 ms)) (placed (slice_index order a.pos) m.bounds)) =
          subst (NextKnown carrier s (placed_on source (enumerate_from 0 ms)) (placed (slice_index order a.pos) m.bounds)) (next_is a.pos m.bounds a.mode a.below a.here) (next_found a.pos m.bounds a.mode a.below a.here) in
          subst (λ (i : ℕ). NextKnown carrier s (placed_on source (enumerate_from 0 ms)) (placed i m.bounds) (next_start carrier s (placed_on source (enumerate_from 0 ms)) (placed i m.bounds))) a.index there
