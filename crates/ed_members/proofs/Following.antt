-- Going over the members in order from the last to the first: where the next begins that holds something.
use Rattle.std.proofs.Common.{◌≡◌, ◌≢◌, ℕ, zero, suc, ◌+◌, ◌<◌, ◌≤◌, List, ◌∷◌, length, drop, get_or, set, Option, Some, None, refl, sym, ap, subst, ◌∙◌, arith, inl, inr}
use Rattle.std.specs.Prelude.{slice_get, slice_index}
use Rattle.std.proofs.lemmas.Bool.{cases_lt, cases_eq, eq-eqb, ne_eqb}
use Rattle.std.proofs.lemmas.List.{get_or-set_same, get_or-set_other, drop_all, length-set}
use Rattle.std.proofs.lemmas.Grind.{get_or_default_zero}
use Rattle.ed_base.proofs.NormalLists.{rest_at}
use Rattle.ed_base.specs.Numbers.{or_else}
use Rattle.ed_base.specs.declared.piece.Member.{Member}
use Rattle.ed_members.specs.declared.held.Held.{Held}
use Rattle.ed_members.specs.declared.nexts.Carried.{Carried}
use Rattle.ed_members.specs.Nexts.{key_if, source_at, start_at, next_in, start_on}
use Rattle.ed_members.specs.Sorted.{Key, key_of, Precedes, AreSorted}

key_first : (o : Option Member) (i : ℕ) → (key_of o i).0 ≡ key_if o
key_first None i = refl
key_first (Some (Member.Literal u)) i = refl
key_first (Some (Member.Tracked s b m)) i = refl

never : (a : Key) → Precedes a a → ⊥
never a before = elim before [ inl l ↦ omega arith | inr e ↦ elim e.1 [ inl l ↦ omega arith | inr f ↦ elim f.1 [ inl l ↦ omega arith | inr g ↦ omega (arith, g.1) ] ] ]

first_rises : (a b : Key) → Precedes a b → a.0 ≤ b.0
first_rises a b before = elim before [ inl l ↦ omega arith | inr e ↦ omega (arith, e.0) ]

-- sources rise along the order
pub source_rises : (ms : List Member) (order : List ℕ) (p q : ℕ) → AreSorted ms order → p ≤ q → q < length order → source_at ms (slice_index order p) ≤ source_at ms (slice_index order q)
source_rises ms order p q sorted le below = elim (cases_lt p q) [
  | inl l ↦
      (let before : Precedes (key_of (slice_get ms (slice_index order p)) (slice_index order p)) (key_of (slice_get ms (slice_index order q)) (slice_index order q)) = sorted.each p q l below in
      let r : (key_of (slice_get ms (slice_index order p)) (slice_index order p)).0 ≤ (key_of (slice_get ms (slice_index order q)) (slice_index order q)).0 = first_rises _ _ before in
      omega (arith, key_first (slice_get ms (slice_index order p)) (slice_index order p), key_first (slice_get ms (slice_index order q)) (slice_index order q)))
  | inr g ↦ (let e : p ≡ q = omega arith in subst (λ (x : ℕ). source_at ms (slice_index order p) ≤ source_at ms (slice_index order x)) e (omega arith))
]

-- none of these is on a source before theirs
next_none : (ms : List Member) (held : List (Option Held)) (k : ℕ) (order : List ℕ) (at n : ℕ) → length order ≤ at + n → ((q : ℕ) → at ≤ q → q < length order → k < source_at ms (slice_index order q)) → next_in ms held k (drop at order) ≡ None
next_none ms held k order at zero size above = ap (next_in ms held k) (drop_all at order (omega arith))
next_none ms held k order at (suc n) size above = elim (cases_lt at (length order)) [
  | inl l ↦ (let here : k < source_at ms (slice_index order at) = above at (omega arith) l in
      let ne : source_at ms (slice_index order at) ≢ k = λ e. omega arith in
      ap (next_in ms held k) (rest_at order at (slice_index order at) l (sym (get_or_default_zero order at (slice_index order at) l)))
      ∙ rw (ne_eqb (source_at ms (slice_index order at)) k ne) (next_none ms held k order (at + 1) n (omega arith) (λ q le below. above q (omega arith) below)))
  | inr g ↦ ap (next_in ms held k) (drop_all at order g)
]

-- the walk has come down to a position
pub record Walked (ms : List Member) (held : List (Option Held)) (order : List ℕ) (at : ℕ) (nexts : List (Option ℕ)) (carried : Carried) : Type 0 where
  pub within : at ≤ length order
  pub long : length nexts ≡ length ms
  pub source : at < length order → carried.source ≡ source_at ms (slice_index order at)
  pub start : carried.start ≡ next_in ms held carried.source (drop at order)
  pub done : (p : ℕ) → at ≤ p → p < length order → get_or nexts (slice_index order p) None ≡ next_in ms held (source_at ms (slice_index order p)) (drop (p + 1) order)

pub walked_start : (ms : List Member) (held : List (Option Held)) (order : List ℕ) (nexts : List (Option ℕ)) → length nexts ≡ length ms → Walked ms held order (length order) nexts (record { source = 0; start = None })
walked_start ms held order nexts long = record {
  within = omega arith;
  long = long;
  source = λ l. absurd (omega arith);
  start = sym (ap (next_in ms held 0) (drop_all (length order) order (omega arith)));
  done = λ p le below. absurd (omega arith);
}

pub walked_more : (ms : List Member) (held : List (Option Held)) (order : List ℕ) (at at' : ℕ) (nexts : List (Option ℕ)) (carried : Carried) (i s : ℕ) (next start : Option ℕ) → AreSorted ms order → Walked ms held order at nexts carried → at ≡ at' + 1
    → i ≡ slice_index order at' → i < length ms → s ≡ source_at ms i → next ≡ start_on carried s → start ≡ or_else (start_at held i) next → Walked ms held order at' (set nexts i next) (record { source = s; start = start })
walked_more ms held order at at' nexts carried i s next start sorted w down is below on nexts_is start_is =
    let within : at ≤ length order = w.within in
    let l : at' < length order = omega arith in
    let source_is : s ≡ source_at ms (slice_index order at') = on ∙ ap (source_at ms) is in
    let behind : start_on carried s ≡ next_in ms held s (drop at order) = elim (cases_eq carried.source s) [
      | inl e ↦ rw (eq-eqb carried.source s e) (w.start ∙ ap (λ (k : ℕ). next_in ms held k (drop at order)) e)
      | inr ne ↦ rw (ne_eqb carried.source s ne) (sym (next_none ms held s order at (length order) (omega arith)
          (λ q le q_below. let first : carried.source ≡ source_at ms (slice_index order at) = w.source (omega arith) in
          let up : source_at ms (slice_index order at) ≤ source_at ms (slice_index order q) = source_rises ms order at q sorted le q_below in
          let low : source_at ms (slice_index order at') ≤ source_at ms (slice_index order at) = source_rises ms order at' at sorted (omega arith) (omega arith) in
          omega arith)))
    ] in
    let next_is : next ≡ next_in ms held (source_at ms (slice_index order at')) (drop (at' + 1) order) =
    nexts_is ∙ (behind ∙ (ap (λ (k : ℕ). next_in ms held k (drop at order)) source_is ∙ ap (λ (k : ℕ). next_in ms held (source_at ms (slice_index order at')) (drop k order)) down)) in
    let rest : drop at' order ≡ slice_index order at' ∷ drop (at' + 1) order = rest_at order at' (slice_index order at') l (sym (get_or_default_zero order at' (slice_index order at') l)) in
    let shape : next_in ms held s (drop at' order) ≡ or_else (start_at held i) (next_in ms held s (drop (at' + 1) order)) =
    ap (next_in ms held s) rest ∙ (rw (eq-eqb (source_at ms (slice_index order at')) s (sym source_is)) refl ∙ ap (λ (x : ℕ). or_else (start_at held x) (next_in ms held s (drop (at' + 1) order))) (sym is)) in
    record {
      within = omega arith;
      long = length-set nexts i next ∙ w.long;
      source = λ l. source_is;
      start = start_is ∙ (ap (or_else (start_at held i)) (nexts_is ∙ (behind ∙ ap (λ (k : ℕ). next_in ms held s (drop k order)) down)) ∙ sym shape);
      done = λ p le p_below. elim (cases_lt at' p) [
        | inl m ↦ (let le' : at ≤ p = omega arith in get_or-set_other nexts i (slice_index order p) next None (λ e. apart p m p_below (e ∙ is)) ∙ w.done p le' p_below)
        | inr g ↦ subst (λ (x : ℕ). get_or (set nexts i next) (slice_index order x) None ≡ next_in ms held (source_at ms (slice_index order x)) (drop (x + 1) order)) (let e : at' ≡ p = omega arith in e)
            (subst (λ (x : ℕ). get_or (set nexts i next) x None ≡ next_in ms held (source_at ms (slice_index order at')) (drop (at' + 1) order)) is
            (get_or-set_same nexts i next None (let n : length nexts ≡ length ms = w.long in omega arith) ∙ next_is))
      ];
    }
  where
    apart : (p : ℕ) → at' < p → p < length order → slice_index order p ≡ slice_index order at' → ⊥
    apart p m p_below e = never (key_of (slice_get ms (slice_index order at')) (slice_index order at'))
        (subst (λ (x : ℕ). Precedes (key_of (slice_get ms (slice_index order at')) (slice_index order at')) (key_of (slice_get ms x) x)) e (sorted.each at' p m p_below))
