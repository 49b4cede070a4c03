-- Two sweeps over the members in order.
use Rattle.std.proofs.Common.{◌≡◌, ℕ, ◌+◌, ◌<◌, ◌≤◌, true, ◌⊎◌, inl, inr, List, length, drop, get_or, Option, Some, None, refl, sym, ◌∙◌, ap, subst, arith}
use Rattle.std.specs.Prelude.{slice_get, slice_index, IsPermutation}
use Rattle.std.specs.List.{enumerate_from}
use Rattle.std.proofs.lemmas.Bool.{cases_lt, cases_eq}
use Rattle.std.proofs.lemmas.Option.{slice_get-get_or}
use Rattle.ed_base.specs.declared.piece.Member.{Member}
use Rattle.ed_base.specs.Numbers.{places}
use Rattle.ed_layers.specs.Order.{first_conflict}
use Rattle.ed_members.proofs.Clear.{no_conflict, first_from, behind_first, behind_last, ahead_first, ahead_last, span_source}
use Rattle.ed_members.proofs.Following.{source_rises}
use Rattle.ed_members.proofs.Permuted.{place_of}
use Rattle.ed_members.specs.Nexts.{key_if, source_at}
use Rattle.ed_members.specs.declared.sweeps.Reach.{Reach}
use Rattle.ed_members.specs.Reaches.{reach_of, reach_if, reach_at, are_clear, spanning}
use Rattle.ed_members.specs.Sorted.{AreSorted}

reach_key : (o : Option Member) → (reach_if o).source ≡ key_if o
reach_key None = refl
reach_key (Some (Member.Literal u)) = refl
reach_key (Some (Member.Tracked s b m)) = refl

-- the ranges of members rise by their sources along the order
rises : (ms : List Member) (order : List ℕ) (p q : ℕ) → AreSorted ms order → p ≤ q → q < length order → (reach_at ms (slice_index order p)).source ≤ (reach_at ms (slice_index order q)).source
rises ms order p q sorted le below =
    let up : source_at ms (slice_index order p) ≤ source_at ms (slice_index order q) = source_rises ms order p q sorted le below in
    omega (arith, reach_key (slice_get ms (slice_index order p)), reach_key (slice_get ms (slice_index order q)), up)

pub here_at : (ms : List Member) (i : ℕ) (m : Member) → i < length ms → m ≡ get_or ms i m → reach_of m ≡ reach_at ms i
here_at ms i m below read = sym (ap reach_if (slice_get-get_or ms i m below ∙ ap Some (sym read)))

-- ---- from the first to the last

pub record SweptOn (ms : List Member) (order : List ℕ) (at least : ℕ) (before : Reach) : Type 0 where
  pub within : least ≤ length ms
  pub high : (p : ℕ) → at ≤ p → p < length order → before.source ≤ (reach_at ms (slice_index order p)).source
  pub guards : (q : ℕ) (c : Reach) → q < at → before.source ≤ c.source → are_clear before c ≡ true → are_clear (reach_at ms (slice_index order q)) c ≡ true
  pub clear : (q p : ℕ) → q < p → p < at → slice_index order p < least → are_clear (reach_at ms (slice_index order q)) (reach_at ms (slice_index order p)) ≡ true

pub on_start : (ms : List Member) (order : List ℕ) (before : Reach) → before.source ≡ 0 → SweptOn ms order 0 (length ms) before
on_start ms order before zero_is = record {
  within = omega arith;
  high = λ p le below. omega (arith, zero_is);
  guards = λ q c l. absurd (omega arith);
  clear = λ q p l below. absurd (omega arith);
}

pub on_more : (ms : List Member) (order : List ℕ) (at least least' : ℕ) (before here after : Reach) → AreSorted ms order → SweptOn ms order at least before → at < length order → here ≡ reach_at ms (slice_index order at)
    → least' ≤ least → ((are_clear before here ≡ true) ⊎ (least' ≤ slice_index order at)) → after ≡ spanning before here → SweptOn ms order (at + 1) least' after
on_more ms order at least least' before here after sorted s below is less tested after_is =
    let low : before.source ≤ here.source = omega (arith, s.high at (omega arith) below, ap (λ (r : Reach). r.source) is) in
    let same : (spanning before here).source ≡ here.source = span_source before here in
    subst (λ (r : Reach). SweptOn ms order (at + 1) least' r) (sym after_is)
    (record {
      within = omega (arith, s.within);
      high = λ p le inside. omega (arith, same, ap (λ (r : Reach). r.source) is, rises ms order at p sorted (omega arith) inside);
      guards = λ q c l up clear. elim (cases_lt q at) [
        | inl early ↦ s.guards q c early (omega (arith, low, same, up)) (behind_first before here c low (omega (arith, same, up)) clear)
        | inr last ↦ (let e : at ≡ q = omega arith in subst (λ (k : ℕ). are_clear (reach_at ms (slice_index order k)) c ≡ true) e (subst (λ (r : Reach). are_clear r c ≡ true) is (behind_last before here c clear)))
      ];
      clear = λ q p l inside small. elim (cases_lt p at) [
        | inl early ↦ s.clear q p l early (omega (arith, less, small))
        | inr last ↦ (let e : at ≡ p = omega arith in elim tested [
          | inl t ↦ subst (λ (k : ℕ). are_clear (reach_at ms (slice_index order q)) (reach_at ms (slice_index order k)) ≡ true) e
              (subst (λ (r : Reach). are_clear (reach_at ms (slice_index order q)) r ≡ true) is (s.guards q here (omega arith) low t))
          | inr small' ↦ absurd (omega (arith, small, small', ap (slice_index order) e))
        ])
      ];
    })

-- ---- from the last to the first

pub record SweptBack (ms : List Member) (order : List ℕ) (at least : ℕ) (behind : Reach) : Type 0 where
  pub within : least ≤ length ms
  pub there : at ≤ length order
  pub low : (p : ℕ) → p < at → at < length order → (reach_at ms (slice_index order p)).source ≤ behind.source
  pub guards : (q : ℕ) (c : Reach) → at ≤ q → q < length order → c.source ≤ behind.source → are_clear c behind ≡ true → are_clear c (reach_at ms (slice_index order q)) ≡ true
  pub clear : (p q : ℕ) → at ≤ p → p < q → q < length order → slice_index order p < least → are_clear (reach_at ms (slice_index order p)) (reach_at ms (slice_index order q)) ≡ true

pub back_start : (ms : List Member) (order : List ℕ) (behind : Reach) → SweptBack ms order (length order) (length ms) behind
back_start ms order behind = record {
  within = omega arith;
  there = omega arith;
  low = λ p l below. absurd (omega arith);
  guards = λ q c le below. absurd (omega arith);
  clear = λ p q le l below. absurd (omega arith);
}

pub back_more : (ms : List Member) (order : List ℕ) (at at' least least' : ℕ) (behind here after : Reach) → AreSorted ms order → SweptBack ms order at least behind → at ≡ at' + 1 → here ≡ reach_at ms (slice_index order at')
    → least' ≤ least → ((are_clear here behind ≡ true) ⊎ (least' ≤ slice_index order at')) → after ≡ spanning behind here → SweptBack ms order at' least' after
back_more ms order at at' least least' behind here after sorted s down is less tested after_is =
    let there : at ≤ length order = s.there in
    let same : (spanning behind here).source ≡ here.source = span_source behind here in
    subst (λ (r : Reach). SweptBack ms order at' least' r) (sym after_is)
    (record {
      within = omega (arith, s.within);
      there = omega arith;
      low = λ p l below. omega (arith, same, ap (λ (r : Reach). r.source) is, rises ms order p at' sorted (omega arith) below);
      guards = λ q c le below up clear. elim (cases_lt at' q) [
        | inl later ↦ (let high : here.source ≤ behind.source = omega (arith, s.low at' (omega arith) (omega arith), ap (λ (r : Reach). r.source) is) in
            s.guards q c (omega arith) below (omega (arith, high, same, up)) (ahead_first behind here c high (omega (arith, same, up)) clear))
        | inr first ↦ (let e : at' ≡ q = omega arith in subst (λ (k : ℕ). are_clear c (reach_at ms (slice_index order k)) ≡ true) e (subst (λ (r : Reach). are_clear c r ≡ true) is (ahead_last behind here c clear)))
      ];
      clear = λ p q le l below small. elim (cases_lt at' p) [
        | inl later ↦ s.clear p q (omega arith) l below (omega (arith, less, small))
        | inr first ↦ (let e : at' ≡ p = omega arith in elim tested [
          | inl t ↦ (let high : here.source ≤ behind.source = omega (arith, s.low at' (omega arith) (omega arith), ap (λ (r : Reach). r.source) is) in
              subst (λ (k : ℕ). are_clear (reach_at ms (slice_index order k)) (reach_at ms (slice_index order q)) ≡ true) e
              (subst (λ (r : Reach). are_clear r (reach_at ms (slice_index order q)) ≡ true) is (s.guards q here (omega arith) below high t)))
          | inr small' ↦ absurd (omega (arith, small, small', ap (slice_index order) e))
        ])
      ];
    })

-- ---- both

pub both_swept : (ms : List Member) (order : List ℕ) (k k' least : ℕ) → IsPermutation (places (length ms)) order → least ≤ k → least ≤ k' → least ≤ length ms
    → ((q p : ℕ) → q < p → p < length order → slice_index order p < k → are_clear (reach_at ms (slice_index order q)) (reach_at ms (slice_index order p)) ≡ true)
    → ((p q : ℕ) → p < q → q < length order → slice_index order p < k' → are_clear (reach_at ms (slice_index order p)) (reach_at ms (slice_index order q)) ≡ true)
    → first_conflict (enumerate_from least (drop least ms)) ≡ first_conflict (enumerate_from 0 ms)
both_swept ms order k k' least permuted le le' within on back =
    first_from ms least within
    (λ i j d l l' inside. let p : (p : ℕ) × (p < length order) × (slice_index order p ≡ i) = place_of (length ms) order permuted i (omega arith) in
    let q : (q : ℕ) × (q < length order) × (slice_index order q ≡ j) = place_of (length ms) order permuted j inside in
    let p_in : p.0 < length order = p.1 in
    let q_in : q.0 < length order = q.1 in
    let here : slice_get ms i ≡ Some (get_or ms i d) = slice_get-get_or ms i d (omega arith) in
    let there : slice_get ms j ≡ Some (get_or ms j d) = slice_get-get_or ms j d inside in
    let first : reach_at ms (slice_index order p.0) ≡ reach_of (get_or ms i d) = ap (reach_at ms) p.2 ∙ ap reach_if here in
    let second : reach_at ms (slice_index order q.0) ≡ reach_of (get_or ms j d) = ap (reach_at ms) q.2 ∙ ap reach_if there in
    elim (cases_lt p.0 q.0) [
      | inl ahead ↦ (no_conflict i j (get_or ms i d) (get_or ms j d) (λ e. omega arith)
          (subst (λ (r : Reach). are_clear r (reach_of (get_or ms j d)) ≡ true) first (subst (λ (r : Reach). are_clear (reach_at ms (slice_index order p.0)) r ≡ true) second (back p.0 q.0 ahead q_in (omega (arith, p.2, l, le')))))).0
      | inr g ↦ elim (cases_eq p.0 q.0) [
        | inl e ↦ absurd (let same : i ≡ j = sym p.2 ∙ (ap (slice_index order) e ∙ q.2) in omega (arith, same))
        | inr apart ↦ (no_conflict j i (get_or ms j d) (get_or ms i d) (λ e. omega arith)
            (subst (λ (r : Reach). are_clear r (reach_of (get_or ms i d)) ≡ true) second (subst (λ (r : Reach). are_clear (reach_at ms (slice_index order q.0)) r ≡ true) first (on q.0 p.0 (omega arith) p_in (omega (arith, p.2, l, le)))))).1
      ]
    ])
