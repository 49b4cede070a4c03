-- Members that stood apart do so after the steps of their sources.
use Rattle.std.proofs.Common.{◌≡◌, ◌≢◌, ℕ, zero, suc, ◌+◌, ◌-◌, ◌<◌, ◌≤◌, Bool, true, false, not, ◌&&◌, ◌||◌, ◌⊎◌, inl, inr, List, [], ◌∷◌, length, get_or, Option, Some, None, refl, sym, ap, subst, ◌∙◌, arith}
use Rattle.std.specs.Prelude.{nat_eq, nat_le, slice_get, min, find, option_map, unwrap_or, is_some, Contains, IsTrue}
use Rattle.std.specs.Option.{option_map_or}
use Rattle.std.specs.List.{enumerate_from}
use Rattle.std.proofs.lemmas.Bool.{cases_Bool, cases_lt, cases_eq, eq-eqb, leb-true, ne_eqb}
use Rattle.std.proofs.lemmas.List.FromFn.{length-enumerate_from}
use Rattle.std.proofs.lemmas.Option.{slice_get-get_or, slice_get-map}
use Rattle.ed_base.specs.declared.edit.Span.{Span}
use Rattle.ed_base.specs.declared.mode.SpanMode.{SpanMode}
use Rattle.ed_base.specs.declared.piece.Member.{Member}
use Rattle.ed_base.specs.Numbers.{or_else}
use Rattle.ed_base.specs.Spans.{end_of, span_between}
use Rattle.ed_base.specs.Tracking.{positive_edge, negative_edge}
use Rattle.ed_layers.specs.Bounds.{Placed, comes_after, empty_place, holds, held_range, member_after, members_after, new_bounds, next_start, placed_on}
use Rattle.ed_layers.specs.Order.{is_inclusive, stands_before, in_order, conflict, first_conflict}
use Rattle.ed_layers.specs.SourceStep.{SourceStep, trail_at, ends_with}
use Rattle.ed_members.proofs.Bools.{or_cases, and_parts}
use Rattle.ed_members.specs.Moving.{OwnInside, OwnInOrder, Owns}
use Rattle.ed_members.proofs.Keeping.{positive_is, positive_rises, keeps, keeps_mem}
use Rattle.ed_members.proofs.NextStarts.{In, IsPlaced, NextKnown, placed, there_placed, placed_there, same_placed, stands_after, after_stands, stands_one_way, stands_chain}
use Rattle.ed_members.proofs.Pairs.{Rises, Mem, mem_rise}
use Rattle.ed_members.proofs.After.{length_after}
use Rattle.ed_members.proofs.Putting.{below_at, read_at}
use Rattle.ed_members.proofs.Ranges.{Ranges}
use Rattle.ed_members.proofs.Clear.{in_either, no_first, kept_apart}
use Rattle.ed_members.proofs.Within.{AllRise, least_is, empty_below}

contains_in : {X : Type 0} (x : X) (xs : List X) → In x xs → Contains xs x
contains_in x [] has = absurd has
contains_in x (y ∷ ys) has = elim has [
  | inl e ↦ (0, omega arith, e)
  | inr later ↦ (let c : Contains ys x = contains_in x ys later in (suc c.0, (let l : c.0 < length ys = c.1 in omega arith), c.2))
]

-- ---- two members of one source, the first ending no later than the second begins

module _ (me source : ℕ) (s : SourceStep) (steps : ℕ → Option SourceStep) (is : steps source ≡ Some s) (ms : List Member) (rises : Rises 0 0 s.step.new_len s.step.kept)
    (inside : OwnInside me steps ms) (order : OwnInOrder me steps ms) where
  abbrev all : List Placed
  all = placed_on source (enumerate_from 0 ms)

  -- all that the first holds lies before all that the second holds
  held_rise : (m n : Placed) (p q : ℕ) → In m (placed_on source (enumerate_from 0 ms)) → In n (placed_on source (enumerate_from 0 ms)) → comes_after m n ≡ true → end_of m.bounds ≤ n.bounds.start → holds me s m p ≡ true → holds me s n q ≡ true → p < q
  held_rise m n p q m_in n_in after before held held' =
      let by_owner : Owns me s m p ⊎ Owns me s n q → p < q = λ o. order source p q s m n is (contains_in m (placed_on source (enumerate_from 0 ms)) m_in) (contains_in n (placed_on source (enumerate_from 0 ms)) n_in) (after_true m n after) held held' o in
      elim (or_cases (keeps s.step m.bounds p) (ends_with me (nat_eq m.index) (trail_at s p)) held) [
        | inr own ↦ by_owner (inl own)
        | inl kept ↦ elim (or_cases (keeps s.step n.bounds q) (ends_with me (nat_eq n.index) (trail_at s q)) held') [
          | inr own ↦ by_owner (inr own)
          | inl kept' ↦ (let a : (o : ℕ) × Mem o p s.step.kept × (m.bounds.start ≤ o) × (o < end_of m.bounds) = keeps_mem s.step m.bounds p kept in
              let b : (o : ℕ) × Mem o q s.step.kept × (n.bounds.start ≤ o) × (o < end_of n.bounds) = keeps_mem s.step n.bounds q kept' in
              let a_end : a.0 < end_of m.bounds = a.3 in
              let b_start : n.bounds.start ≤ b.0 = b.2 in
              elim (mem_rise 0 0 s.step.new_len a.0 p b.0 q s.step.kept rises a.1 b.1) [
                | inl l ↦ l.1
                | inr r ↦ elim r [ inl e ↦ absurd (omega (arith, e.0)) | inr g ↦ absurd (omega (arith, g.0)) ]
              ])
        ]
      ]
    where
      after_true : (m n : Placed) → comes_after m n ≡ true → IsTrue (comes_after m n)
      after_true m n e = e

  -- and before where an empty second goes
  held_below : (m : Placed) (p x : ℕ) → In m (placed_on source (enumerate_from 0 ms)) → end_of m.bounds ≤ x → holds me s m p ≡ true → p < positive_edge s.step x
  held_below m p x m_in before held =
      let up : positive_edge s.step (end_of m.bounds) ≤ positive_edge s.step x = positive_rises s.step (end_of m.bounds) x rises before in
      elim (or_cases (keeps s.step m.bounds p) (ends_with me (nat_eq m.index) (trail_at s p)) held) [
        | inl kept ↦ (let a : (o : ℕ) × Mem o p s.step.kept × (m.bounds.start ≤ o) × (o < end_of m.bounds) = keeps_mem s.step m.bounds p kept in
            (positive_is s.step x rises).below a.0 p a.1 (let l : a.0 < end_of m.bounds = a.3 in omega arith))
        | inr own ↦ (let i : (negative_edge s.step m.bounds.start ≤ p) × (p < positive_edge s.step (end_of m.bounds)) = inside source p s m is (contains_in m (placed_on source (enumerate_from 0 ms)) m_in) own in
            let l : p < positive_edge s.step (end_of m.bounds) = i.1 in omega arith)
      ]

  -- each two members of the source are apart and in order, and the next one that holds something is known
  module _ (pairs : (m n : Placed) → In m (placed_on source (enumerate_from 0 ms)) → In n (placed_on source (enumerate_from 0 ms)) → comes_after m n ≡ true → end_of m.bounds ≤ n.bounds.start)
      (known : (m : Placed) → In m (placed_on source (enumerate_from 0 ms)) → NextKnown me s (placed_on source (enumerate_from 0 ms)) m (next_start me s (placed_on source (enumerate_from 0 ms)) m)) where
    -- the ranges of two in order
    ranges_rise : (m n : Placed) (r t : Span) → In m (placed_on source (enumerate_from 0 ms)) → In n (placed_on source (enumerate_from 0 ms)) → comes_after m n ≡ true → held_range me s m ≡ Some r → held_range me s n ≡ Some t → (end_of r ≤ t.start) × (r.start ≤ t.start)
    ranges_rise m n r t m_in n_in after h h' =
        let a : Ranges (holds me s m) s.step.new_len r.start (end_of r) = least_is (holds me s m) s.step.new_len r h in
        let b : Ranges (holds me s n) s.step.new_len t.start (end_of t) = least_is (holds me s n) s.step.new_len t h' in
        let some : r.start < end_of r = a.some in
        let l : end_of r - 1 < t.start = held_rise m n (end_of r - 1) t.start m_in n_in after (pairs m n m_in n_in after) a.last b.first in
        (omega arith, omega arith)

    has_start : (o : Option Span) (x : ℕ) → option_map (λ r. r.start) o ≡ Some x → (r : Span) × (o ≡ Some r) × (r.start ≡ x)
    has_start None x e = absurd (cc)
    has_start (Some r) x e = (r, refl, cc)

    -- an empty member stands no later than where one begins that comes after it and holds something
    empty_before : (m n : Placed) (t : Span) → In m (placed_on source (enumerate_from 0 ms)) → In n (placed_on source (enumerate_from 0 ms)) → comes_after m n ≡ true → held_range me s n ≡ Some t → empty_place me s (placed_on source (enumerate_from 0 ms)) m ≤ t.start
    empty_before m n t m_in n_in after h = by_next (next_start me s (placed_on source (enumerate_from 0 ms)) m) (known m m_in)
      where
        by_next : (o : Option ℕ) → NextKnown me s (placed_on source (enumerate_from 0 ms)) m o → option_map_or (min (positive_edge s.step m.bounds.start)) o (positive_edge s.step m.bounds.start) ≤ t.start
        by_next None none = absurd (let e : is_some (held_range me s n) ≡ false = none n n_in after in let f : is_some (held_range me s n) ≡ true = ap is_some h in cc)
        by_next (Some x) k =
            let r : (r : Span) × (held_range me s k.0 ≡ Some r) × (r.start ≡ x) = has_start (held_range me s k.0) x k.3 in
            elim (k.4 n n_in after (ap is_some h)) [
              | inl e ↦ (let same : n ≡ k.0 = same_placed source ms n k.0 n_in k.1 e in
                  let alike : Some t ≡ Some r.0 = sym h ∙ (ap (held_range me s) same ∙ r.1) in
                  let starts : t.start ≡ r.0.start = ap (λ (r : Span). r.start) (let e' : t ≡ r.0 = cc in e') in
                  omega (arith, r.2))
              | inr before ↦ (let l : (end_of r.0 ≤ t.start) × (r.0.start ≤ t.start) = ranges_rise k.0 n r.0 t k.1 n_in (after_stands k.0 n before) r.1 h in omega (arith, l.1, r.2))
            ]

    -- what holds something ends no later than an empty one that comes after it stands
    held_before : (m n : Placed) (r : Span) → In m (placed_on source (enumerate_from 0 ms)) → In n (placed_on source (enumerate_from 0 ms)) → comes_after m n ≡ true → held_range me s m ≡ Some r → end_of r ≤ empty_place me s (placed_on source (enumerate_from 0 ms)) n
    held_before m n r m_in n_in after h = by_next (next_start me s (placed_on source (enumerate_from 0 ms)) n) (known n n_in)
      where
        edge : end_of r ≤ positive_edge s.step n.bounds.start
        edge =
            let a : Ranges (holds me s m) s.step.new_len r.start (end_of r) = least_is (holds me s m) s.step.new_len r h in
            let some : r.start < end_of r = a.some in
            let l : end_of r - 1 < positive_edge s.step n.bounds.start = held_below m (end_of r - 1) n.bounds.start m_in (pairs m n m_in n_in after) a.last in
            omega arith

        by_next : (o : Option ℕ) → NextKnown me s (placed_on source (enumerate_from 0 ms)) n o → end_of r ≤ option_map_or (min (positive_edge s.step n.bounds.start)) o (positive_edge s.step n.bounds.start)
        by_next None none = edge
        by_next (Some x) k =
            let t : (t : Span) × (held_range me s k.0 ≡ Some t) × (t.start ≡ x) = has_start (held_range me s k.0) x k.3 in
            let l : (end_of r ≤ t.0.start) × (r.start ≤ t.0.start) = ranges_rise m k.0 r t.0 m_in k.1 (after_stands m k.0 (stands_chain m n k.0 (stands_after m n after) (stands_after n k.0 k.2))) h t.1 in
            omega (arith, edge, l.0, t.2)

    -- two empty ones
    empty_rise : (m n : Placed) → In m (placed_on source (enumerate_from 0 ms)) → In n (placed_on source (enumerate_from 0 ms)) → comes_after m n ≡ true → empty_place me s (placed_on source (enumerate_from 0 ms)) m ≤ empty_place me s (placed_on source (enumerate_from 0 ms)) n
    empty_rise m n m_in n_in after = by_next (next_start me s (placed_on source (enumerate_from 0 ms)) n) (known n n_in)
      where
        edge : empty_place me s (placed_on source (enumerate_from 0 ms)) m ≤ positive_edge s.step n.bounds.start
        edge =
            let apart : end_of m.bounds ≤ n.bounds.start = pairs m n m_in n_in after in
            let up : positive_edge s.step m.bounds.start ≤ positive_edge s.step n.bounds.start = positive_rises s.step m.bounds.start n.bounds.start rises (omega arith) in
            let low : empty_place me s (placed_on source (enumerate_from 0 ms)) m ≤ positive_edge s.step m.bounds.start = empty_below me s (placed_on source (enumerate_from 0 ms)) m in
            omega arith

        by_next : (o : Option ℕ) → NextKnown me s (placed_on source (enumerate_from 0 ms)) n o → empty_place me s (placed_on source (enumerate_from 0 ms)) m ≤ option_map_or (min (positive_edge s.step n.bounds.start)) o (positive_edge s.step n.bounds.start)
        by_next None none = edge
        by_next (Some x) k =
            let t : (t : Span) × (held_range me s k.0 ≡ Some t) × (t.start ≡ x) = has_start (held_range me s k.0) x k.3 in
            let l : empty_place me s (placed_on source (enumerate_from 0 ms)) m ≤ t.0.start = empty_before m k.0 t.0 m_in k.1 (after_stands m k.0 (stands_chain m n k.0 (stands_after m n after) (stands_after n k.0 k.2))) t.1 in
            omega (arith, edge, l, t.2)

    abbrev place : Placed → Option Span → Span
    place m o = unwrap_or o (span_between (empty_place me s (placed_on source (enumerate_from 0 ms)) m) (empty_place me s (placed_on source (enumerate_from 0 ms)) m))

    -- the new bounds of two in order
    pub bounds_rise : (m n : Placed) (mode mode' : SpanMode) → is_inclusive mode ≡ false → is_inclusive mode' ≡ false → In m (placed_on source (enumerate_from 0 ms)) → In n (placed_on source (enumerate_from 0 ms)) → comes_after m n ≡ true
        → end_of (new_bounds me s (placed_on source (enumerate_from 0 ms)) mode m) ≤ (new_bounds me s (placed_on source (enumerate_from 0 ms)) mode' n).start
    unfolding new_bounds
    bounds_rise m n mode mode' free free' m_in n_in after = rw (free, free') (by_held (held_range me s m) (held_range me s n) refl refl)
      where
        by_held : (o o' : Option Span) → held_range me s m ≡ o → held_range me s n ≡ o' → end_of (place m o) ≤ (place n o').start
        by_held None None h h' = omega (arith, empty_rise m n m_in n_in after)
        by_held None (Some t) h h' = omega (arith, empty_before m n t m_in n_in after h')
        by_held (Some r) None h h' = held_before m n r m_in n_in after h
        by_held (Some r) (Some t) h h' = (ranges_rise m n r t m_in n_in after h h').0

-- ---- all members

or_none : {X : Type 0} (a b : Option X) → or_else a b ≡ None → (a ≡ None) × (b ≡ None)
or_none None b e = (refl, e)
or_none (Some x) b e = absurd (cc)

pub map_none : {X Y : Type 0} (f : X → Y) (o : Option X) → option_map f o ≡ None → o ≡ None
map_none f None e = refl
map_none f (Some x) e = absurd (cc)

find_false : {X : Type 0} (test : X → Bool) (xs : List X) (j : ℕ) (d : X) → find test xs ≡ None → j < length xs → test (get_or xs j d) ≡ false
find_false test [] j d none below = absurd (omega arith)
find_false test (x ∷ xs) j d none below = elim (cases_Bool (test x)) [
  | inl t ↦ absurd (let e : Some x ≡ None = rw t at none in cc)
  | inr f ↦ at j f (rw f at none) below (λ k l e. find_false test xs k d e l)
]
  where
    at : (j : ℕ) → test x ≡ false → find test xs ≡ None → j < length (x ∷ xs) → ((k : ℕ) → k < length xs → find test xs ≡ None → test (get_or xs k d) ≡ false) → test (get_or (x ∷ xs) j d) ≡ false
    at zero f none below rest = f
    at (suc k) f none below rest = rest k (omega arith) none

none_first : (xs : List (ℕ × Member)) (i j : ℕ) (d : ℕ × Member) → first_conflict xs ≡ None → i < j → j < length xs → conflict (get_or xs i d) (get_or xs j d) ≡ false
none_first [] i j d none l below = absurd (omega arith)
none_first (x ∷ xs) i zero d none l below = absurd (omega arith)
none_first (x ∷ xs) zero (suc j) d none l below =
    let parts : (option_map (λ (other : ℕ × Member). (x.0, other.0)) (find (conflict x) xs) ≡ None) × (first_conflict xs ≡ None) = or_none (option_map (λ (other : ℕ × Member). (x.0, other.0)) (find (conflict x) xs)) (first_conflict xs) none in
    find_false (conflict x) xs j d (map_none (λ (other : ℕ × Member). (x.0, other.0)) (find (conflict x) xs) parts.0) (omega arith)
none_first (x ∷ xs) (suc i) (suc j) d none l below =
    let parts : (option_map (λ (other : ℕ × Member). (x.0, other.0)) (find (conflict x) xs) ≡ None) × (first_conflict xs ≡ None) = or_none (option_map (λ (other : ℕ × Member). (x.0, other.0)) (find (conflict x) xs)) (first_conflict xs) none in
    none_first xs i j d parts.1 (omega arith) (omega arith)

enumerated : {X : Type 0} (k i : ℕ) (xs : List X) (x : X) → slice_get xs i ≡ Some x → slice_get (enumerate_from k xs) i ≡ Some (k + i, x)
enumerated k i [] x at = absurd (cc)
enumerated k zero (y ∷ xs) x at = (let same : y ≡ x = cc in ap (λ z. Some (k, z)) same ∙ ap (λ (n : ℕ). Some (n, x)) (let e : k ≡ k + 0 = omega arith in e))
enumerated k (suc i) (y ∷ xs) x at = enumerated (k + 1) i xs x at ∙ ap (λ (n : ℕ). Some (n, x)) (let e : (k + 1) + i ≡ k + suc i = omega arith in e)

enumerated_0 : {X : Type 0} (i : ℕ) (xs : List X) (x d : X) (n : ℕ) → slice_get xs i ≡ Some x → get_or (enumerate_from 0 xs) i (n, d) ≡ (i, x)
enumerated_0 i xs x d n at = read_at (enumerate_from 0 xs) i (i, x) (n, d) (enumerated 0 i xs x at ∙ ap (λ (n : ℕ). Some (n, x)) (let e : 0 + i ≡ i = omega arith in e))

record Free (t i i' o : Bool) : Type 0 where
  first : i ≡ false
  second : i' ≡ false
  order : o ≡ true

free_of : (i i' o : Bool) → (i || i' || not o) ≡ false → Free true i i' o
free_of true i' o e = absurd (cc)
free_of false true o e = absurd (cc)
free_of false false false e = absurd (cc)
free_of false false true e = record { first = refl; second = refl; order = refl }

no_clash : (source i j : ℕ) (x y : Span) (mode mode' : SpanMode) → conflict (i, Member.Tracked source x mode) (j, Member.Tracked source y mode') ≡ false → Free true (is_inclusive mode) (is_inclusive mode') (in_order (i, x) (j, y))
no_clash source i j x y mode mode' e = free_of (is_inclusive mode) (is_inclusive mode') (in_order (i, x) (j, y)) (rw (eq-eqb source source refl) at e)

-- of two in order the one that comes first ends no later than the other begins
apart_first : (i j : ℕ) (x y : Span) → in_order (i, x) (j, y) ≡ true → comes_after (placed i x) (placed j y) ≡ true → end_of x ≤ y.start
apart_first i j x y o after = elim (or_cases (stands_before (i, x) (j, y) && nat_le (end_of x) y.start) (stands_before (j, y) (i, x) && nat_le (end_of y) x.start) o) [
  | inl a ↦ leb-true (end_of x) y.start (and_parts (stands_before (i, x) (j, y)) (nat_le (end_of x) y.start) a).1
  | inr b ↦ absurd (stands_one_way (placed i x) (placed j y) (stands_after (placed i x) (placed j y) after) (stands_after (placed j y) (placed i x) (and_parts (stands_before (j, y) (i, x)) (nat_le (end_of y) x.start) b).0))
]

apart_second : (i j : ℕ) (x y : Span) → in_order (i, x) (j, y) ≡ true → comes_after (placed j y) (placed i x) ≡ true → end_of y ≤ x.start
apart_second i j x y o after = elim (or_cases (stands_before (i, x) (j, y) && nat_le (end_of x) y.start) (stands_before (j, y) (i, x) && nat_le (end_of y) x.start) o) [
  | inl a ↦ absurd (stands_one_way (placed j y) (placed i x) (stands_after (placed j y) (placed i x) after) (stands_after (placed i x) (placed j y) (and_parts (stands_before (i, x) (j, y)) (nat_le (end_of x) y.start) a).0))
  | inr b ↦ leb-true (end_of y) x.start (and_parts (stands_before (j, y) (i, x)) (nat_le (end_of y) x.start) b).1
]

either_after : (i j : ℕ) (x y : Span) → in_order (i, x) (j, y) ≡ true → (comes_after (placed i x) (placed j y) ≡ true) ⊎ (comes_after (placed j y) (placed i x) ≡ true)
either_after i j x y o = elim (or_cases (stands_before (i, x) (j, y) && nat_le (end_of x) y.start) (stands_before (j, y) (i, x) && nat_le (end_of y) x.start) o) [
  | inl a ↦ inl (and_parts (stands_before (i, x) (j, y)) (nat_le (end_of x) y.start) a).0
  | inr b ↦ inr (and_parts (stands_before (j, y) (i, x)) (nat_le (end_of y) x.start) b).0
]

module _ (me : ℕ) (steps : ℕ → Option SourceStep) (ms : List Member) (rise : AllRise steps)
    (known : (source : ℕ) (s : SourceStep) → steps source ≡ Some s → (m : Placed) → In m (placed_on source (enumerate_from 0 ms)) → NextKnown me s (placed_on source (enumerate_from 0 ms)) m (next_start me s (placed_on source (enumerate_from 0 ms)) m))
    (none : first_conflict (enumerate_from 0 ms) ≡ None) (inside : OwnInside me steps ms) (order : OwnInOrder me steps ms) where
  no_pair : (i j : ℕ) (x y : Member) → i < j → slice_get ms i ≡ Some x → slice_get ms j ≡ Some y → conflict (i, x) (j, y) ≡ false
  no_pair i j x y l at at' =
      let n : length (enumerate_from 0 ms) ≡ length ms = length-enumerate_from 0 ms in
      let below : j < length ms = below_at ms j y at' in
      subst (λ (a : ℕ × Member). conflict a (j, y) ≡ false) (enumerated_0 i ms x x 0 at)
      (subst (λ (b : ℕ × Member). conflict (get_or (enumerate_from 0 ms) i (0, x)) b ≡ false) (enumerated_0 j ms y x 0 at') (none_first (enumerate_from 0 ms) i j (0, x) none l (omega arith)))

  pairs : (source : ℕ) (m n : Placed) → In m (placed_on source (enumerate_from 0 ms)) → In n (placed_on source (enumerate_from 0 ms)) → comes_after m n ≡ true → end_of m.bounds ≤ n.bounds.start
  pairs source m n m_in n_in after =
      let a : IsPlaced source 0 ms m = there_placed source 0 ms m m_in in
      let b : IsPlaced source 0 ms n = there_placed source 0 ms n n_in in
      let i : m.index ≡ a.at = (let e : m.index ≡ 0 + a.at = a.index in omega arith) in
      let j : n.index ≡ b.at = (let e : n.index ≡ 0 + b.at = b.index in omega arith) in
      let after' : comes_after (placed a.at m.bounds) (placed b.at n.bounds) ≡ true = subst (λ (k : ℕ). comes_after (placed k m.bounds) (placed b.at n.bounds) ≡ true) i (subst (λ (k : ℕ). comes_after m (placed k n.bounds) ≡ true) j after) in
      elim (cases_lt a.at b.at) [
        | inl l ↦ apart_first a.at b.at m.bounds n.bounds (no_clash source a.at b.at m.bounds n.bounds a.mode b.mode (no_pair a.at b.at _ _ l a.here b.here)).order after'
        | inr g ↦ elim (cases_eq a.at b.at) [
          | inl e ↦ absurd (let same : m ≡ n = same_placed source ms m n m_in n_in (i ∙ (e ∙ sym j)) in
              let back : comes_after n m ≡ true = subst (λ (k : Placed). comes_after k m ≡ true) same (subst (λ (k : Placed). comes_after m k ≡ true) (sym same) after) in
              stands_one_way m n (stands_after m n after) (stands_after n m back))
          | inr ne ↦ apart_second b.at a.at n.bounds m.bounds (no_clash source b.at a.at n.bounds m.bounds b.mode a.mode (no_pair b.at a.at _ _ (omega arith) b.here a.here)).order after'
        ]
      ]

  in_all_at : (source i : ℕ) (x : Span) (mode : SpanMode) → slice_get ms i ≡ Some (Member.Tracked source x mode) → In (placed i x) (placed_on source (enumerate_from 0 ms))
  in_all_at source i x mode at = subst (λ (k : ℕ). In (placed k x) (placed_on source (enumerate_from 0 ms))) (let e : 0 + i ≡ i = omega arith in e) (placed_there source 0 i ms x mode at)

  same_source : (source i j : ℕ) (x y : Span) (mode mode' : SpanMode) → i ≢ j → slice_get ms i ≡ Some (Member.Tracked source x mode) → slice_get ms j ≡ Some (Member.Tracked source y mode') → conflict (i, Member.Tracked source x mode) (j, Member.Tracked source y mode') ≡ false
      → conflict (i, member_after me steps ms (i, Member.Tracked source x mode)) (j, member_after me steps ms (j, Member.Tracked source y mode')) ≡ false
  same_source source i j x y mode mode' ne at at' before = by_step (steps source) refl
    where
      by_step : (o : Option SourceStep) → steps source ≡ o
          → conflict (i, Member.Tracked source (option_map_or (λ (s : SourceStep). new_bounds me s (placed_on source (enumerate_from 0 ms)) mode (placed i x)) o x) mode)
          (j, Member.Tracked source (option_map_or (λ (s : SourceStep). new_bounds me s (placed_on source (enumerate_from 0 ms)) mode' (placed j y)) o y) mode') ≡ false
      by_step None is = before
      by_step (Some s) is =
          let free : Free true (is_inclusive mode) (is_inclusive mode') (in_order (i, x) (j, y)) = no_clash source i j x y mode mode' before in
          let m_in : In (placed i x) (placed_on source (enumerate_from 0 ms)) = in_all_at source i x mode at in
          let n_in : In (placed j y) (placed_on source (enumerate_from 0 ms)) = in_all_at source j y mode' at' in
          let x' : Span = new_bounds me s (placed_on source (enumerate_from 0 ms)) mode (placed i x) in
          let y' : Span = new_bounds me s (placed_on source (enumerate_from 0 ms)) mode' (placed j y) in
          let ordered : in_order (i, x') (j, y') ≡ true = elim (either_after i j x y free.order) [
            | inl after ↦ (in_either i j x' y' ne (bounds_rise me source s steps is ms (rise source s is) inside order (pairs source) (known source s is) (placed i x) (placed j y) mode mode' free.first free.second m_in n_in after)).0
            | inr after ↦ (in_either j i y' x' (λ e. ne (sym e)) (bounds_rise me source s steps is ms (rise source s is) inside order (pairs source) (known source s is) (placed j y) (placed i x) mode' mode free.second free.first n_in m_in after)).1
          ] in
          kept_apart (nat_eq source source) (is_inclusive mode) (is_inclusive mode') (in_order (i, x') (j, y')) (ap not free.first) (ap not free.second) ordered

  after_pair : (i j : ℕ) (x y : Member) → i < j → slice_get ms i ≡ Some x → slice_get ms j ≡ Some y → conflict (i, member_after me steps ms (i, x)) (j, member_after me steps ms (j, y)) ≡ false
  after_pair i j (Member.Literal u) (Member.Literal v) l at at' = refl
  after_pair i j (Member.Literal u) (Member.Tracked source y mode') l at at' = refl
  after_pair i j (Member.Tracked source x mode) (Member.Literal v) l at at' = refl
  after_pair i j (Member.Tracked source x mode) (Member.Tracked source' y mode') l at at' = elim (cases_eq source source') [
    | inl e ↦ subst (λ (b : ℕ). slice_get ms j ≡ Some (Member.Tracked b y mode') → conflict (i, member_after me steps ms (i, Member.Tracked source x mode)) (j, member_after me steps ms (j, Member.Tracked b y mode')) ≡ false) e
        (λ at''. same_source source i j x y mode mode' (λ f. omega arith) at at'' (no_pair i j (Member.Tracked source x mode) (Member.Tracked source y mode') l at at'')) at'
    | inr ne ↦ apart_sources source source' ne _
  ]
    where
      apart_sources : (a b : ℕ) → a ≢ b → (t : Bool) → (nat_eq a b && t) ≡ false
      apart_sources a b ne t = rw (ne_eqb a b ne) refl

  pub apart_after : first_conflict (enumerate_from 0 (members_after me steps ms)) ≡ None
  apart_after = no_first (enumerate_from 0 (members_after me steps ms)) (λ i j d l below.
      let n : length (enumerate_from 0 (members_after me steps ms)) ≡ length ms = length-enumerate_from 0 (members_after me steps ms) ∙ length_after me steps ms in
      let x : Member = get_or ms i d.1 in
      let y : Member = get_or ms j d.1 in
      let at : slice_get ms i ≡ Some x = slice_get-get_or ms i d.1 (omega arith) in
      let at' : slice_get ms j ≡ Some y = slice_get-get_or ms j d.1 (omega arith) in
      let here : get_or (enumerate_from 0 (members_after me steps ms)) i d ≡ (i, member_after me steps ms (i, x)) = enumerated_0 i (members_after me steps ms) (member_after me steps ms (i, x)) d.1 d.0 (after_at i x at) in
      let there : get_or (enumerate_from 0 (members_after me steps ms)) j d ≡ (j, member_after me steps ms (j, y)) = enumerated_0 j (members_after me steps ms) (member_after me steps ms (j, y)) d.1 d.0 (after_at j y at') in
      subst (λ (a : ℕ × Member). conflict a (get_or (enumerate_from 0 (members_after me steps ms)) j d) ≡ false) (sym here)
      (subst (λ (b : ℕ × Member). conflict (i, member_after me steps ms (i, x)) b ≡ false) (sym there) (after_pair i j x y l at at')))
    where
      after_at : (i : ℕ) (x : Member) → slice_get ms i ≡ Some x → slice_get (members_after me steps ms) i ≡ Some (member_after me steps ms (i, x))
      after_at i x at = slice_get-map (member_after me steps ms) (enumerate_from 0 ms) i ∙ ap (option_map (member_after me steps ms)) (enumerated 0 i ms x at ∙ ap (λ (n : ℕ). Some (n, x)) (let e : 0 + i ≡ i = omega arith in e))
