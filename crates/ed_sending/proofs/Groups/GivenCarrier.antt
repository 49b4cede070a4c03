-- What a carrier is given: cuts that rise, components that aren't refused, members in order.
use Rattle.std.proofs.Common.{◌≡◌, ◌≢◌, ℕ, zero, suc, ◌+◌, ◌*◌, ◌/◌, ◌<◌, ◌≤◌, Bool, true, false, not, ◌&&◌, ◌||◌, List, [], ◌∷◌, length, Option, Some, None, inl, inr, refl, sym, ap, ◌∙◌, arith, if◌then◌else◌}
use Rattle.std.specs.Prelude.{nat_eq, nat_le, slice_get, option_map, find}
use Rattle.std.specs.List.{enumerate_from}
use Rattle.std.proofs.lemmas.Bool.{cases_lt}
use Rattle.std.proofs.lemmas.Bool.Decides.{nat_tests}
use Rattle.std.proofs.lemmas.Nat.{le-div}
use Rattle.std.proofs.Math.Nat.{div-mul-le_self, mul-div_cancel}
use Rattle.ed_base.specs.declared.refusal.Refusal.{Refusal}
use Rattle.ed_base.specs.declared.edit.Span.{Span}
use Rattle.ed_base.specs.declared.mode.SpanMode.{SpanMode}
use Rattle.ed_base.specs.declared.piece.Member.{Member}
use Rattle.ed_base.specs.declared.rule.CutRule.{CutRule}
use Rattle.ed_base.specs.Hooks.{cut}
use Rattle.ed_base.specs.Numbers.{or_else}
use Rattle.ed_base.specs.Spans.{end_of}
use Rattle.ed_layers.specs.Order.{stands_before, conflict, first_conflict, overlap_fault, in_order, is_inclusive}
use Rattle.ed_layers.specs.Pieces.{Component}
use Rattle.ed_layers.specs.Sending.{Target, targets, deleted_literal, share_start, share_end, component_fault}
use Rattle.ed_sending.proofs.Members.Shares.{CutsRise}

-- ---- cuts

even_rises : (n k i : ℕ) → 0 < k → n * (i + 1) / k ≤ n * (suc i + 1) / k
even_rises n k i some =
    let a : n * (i + 1) / k * k ≤ n * (i + 1) = div-mul-le_self (n * (i + 1)) k in
    let b : n * (suc i + 1) ≡ n * (i + 1) + n = grind arith in
    le-div (n * (i + 1) / k) (n * (suc i + 1)) k some (omega arith)

pub cuts_rise : (rule : Option CutRule) (n k : ℕ) → 0 < k → CutsRise rule n k
cuts_rise rule n k some = record { rise = rises rule; end = ends rule k refl some }
  where
    even : (m : ℕ) → m + 1 ≡ k → n * (m + 1) / k ≡ n
    even m e = ap (λ z. n * z / k) e ∙ mul-div_cancel n some

    ends : (rule : Option CutRule) (m : ℕ) → m ≡ k → 0 < m → share_start rule n k m ≡ n
    ends rule zero e some = absurd (omega arith)
    ends None (suc m) e some = (let t : nat_eq (m + 1) k ≡ true = grind (arith, nat_tests) in rw t refl)
    ends (Some rule) (suc m) e some = either (nat_eq k 1) refl rule
      where
        either : (b : Bool) → nat_eq k 1 ≡ b → (rule : CutRule) → (if b then n else cut rule n k m) ≡ n
        either true f rule = refl
        either false f CutRule.First = refl
        either false f CutRule.Last = (let t : nat_eq (m + 1) k ≡ true = grind (arith, nat_tests) in rw t refl)
        either false f CutRule.Even = even m (let g : m + 1 ≡ k = omega arith in g)

    rises : (rule : Option CutRule) (i : ℕ) → i < k → share_start rule n k i ≤ share_end rule n k i
    rises rule zero below = omega arith
    rises None (suc i) below = (let t : nat_eq (i + 1) k ≡ false = grind (arith, nat_tests) in rw t (omega arith))
    rises (Some rule) (suc i) below = either (nat_eq k 1) rule
      where
        either : (b : Bool) → (rule : CutRule) → (if b then n else cut rule n k i) ≤ (if b then n else cut rule n k (suc i))
        either true rule = omega arith
        either false CutRule.First = omega arith
        either false CutRule.Last = (let t : nat_eq (i + 1) k ≡ false = grind (arith, nat_tests) in rw t (omega arith))
        either false CutRule.Even = even_rises n k i (omega arith)

-- ---- refusals

-- members in order, of a list without a conflict
pub both : {Y Z : Type 0} (f : Y → Z) (o : Option Y) (p : Option Z) → or_else (option_map f o) p ≡ None → (o ≡ None) × (p ≡ None)
both f None p e = (refl, e)
both f (Some y) p e = cc

find_passes : {X : Type 0} (test : X → Bool) (xs : List X) (d : ℕ) (x : X) → find test xs ≡ None → slice_get xs d ≡ Some x → test x ≡ false
find_passes test [] d x none is = cc
find_passes test (y ∷ ys) d x none is = either (test y) refl d is none (λ e n i. find_passes test ys e x n i)
  where
    either : (b : Bool) → test y ≡ b → (d : ℕ) → slice_get (y ∷ ys) d ≡ Some x → (if b then Some y else find test ys) ≡ None → ((e : ℕ) → find test ys ≡ None → slice_get ys e ≡ Some x → test x ≡ false) → test x ≡ false
    either true t d is none later = absurd (let e : Some y ≡ None = none in cc)
    either false t zero is none later = let e : y ≡ x = cc in ap test (sym e) ∙ t
    either false t (suc d) is none later = later d none is

pub numbered_get : {X : Type 0} (k : ℕ) (xs : List X) (d : ℕ) (x : X) → slice_get xs d ≡ Some x → slice_get (enumerate_from k xs) d ≡ Some (k + d, x)
numbered_get k [] d x is = cc
numbered_get k (y ∷ ys) zero x is = let e : y ≡ x = cc in ap (λ z. Some (k, z)) e ∙ ap (λ z. Some (z, x)) (let f : k ≡ k + 0 = omega arith in f)
numbered_get k (y ∷ ys) (suc d) x is = numbered_get (k + 1) ys d x is ∙ ap (λ z. Some (z, x)) (let f : k + 1 + d ≡ k + suc d = omega arith in f)

pub no_conflicts : (k : ℕ) (ms : List Member) → first_conflict (enumerate_from k ms) ≡ None → (i j : ℕ) (a b : Member) → i < j → slice_get ms i ≡ Some a → slice_get ms j ≡ Some b → conflict (k + i, a) (k + j, b) ≡ false
no_conflicts k [] none i j a b below at bt = absurd (let e : None ≡ Some a = at in cc)
no_conflicts k (m ∷ ms) none zero zero a b below at bt = absurd (omega arith)
no_conflicts k (m ∷ ms) none zero (suc j) a b below at bt =
    let parts : (find (conflict (k, m)) (enumerate_from (k + 1) ms) ≡ None) × (first_conflict (enumerate_from (k + 1) ms) ≡ None) = both (λ (other : ℕ × Member). (k, other.0)) (find (conflict (k, m)) (enumerate_from (k + 1) ms)) (first_conflict (enumerate_from (k + 1) ms)) none in
    let e : m ≡ a = cc in
    let here : conflict (k, m) (k + 1 + j, b) ≡ false = find_passes (conflict (k, m)) (enumerate_from (k + 1) ms) j (k + 1 + j, b) parts.0 (numbered_get (k + 1) ms j b bt) in
    ap (λ z. conflict (z, a) (k + suc j, b)) (let f : k + 0 ≡ k = omega arith in f) ∙ ap (λ z. conflict (k, a) (z, b)) (let f : k + suc j ≡ k + 1 + j = omega arith in f) ∙ ap (λ z. conflict (k, z) (k + 1 + j, b)) (sym e) ∙ here
no_conflicts k (m ∷ ms) none (suc i) zero a b below at bt = absurd (omega arith)
no_conflicts k (m ∷ ms) none (suc i) (suc j) a b below at bt =
    let parts : (find (conflict (k, m)) (enumerate_from (k + 1) ms) ≡ None) × (first_conflict (enumerate_from (k + 1) ms) ≡ None) = both (λ (other : ℕ × Member). (k, other.0)) (find (conflict (k, m)) (enumerate_from (k + 1) ms)) (first_conflict (enumerate_from (k + 1) ms)) none in
    ap (λ z. conflict (z, a) (k + suc j, b)) (let e : k + suc i ≡ k + 1 + i = omega arith in e) ∙ ap (λ z. conflict (k + 1 + i, a) (z, b)) (let e : k + suc j ≡ k + 1 + j = omega arith in e) ∙ no_conflicts (k + 1) ms parts.1 i j a b (omega arith) at bt

pub has_target : (carrier : ℕ) (members : List Member) (c : Component) → component_fault carrier members c ≡ None → 0 < length (targets members c)
has_target carrier members c none = by (option_map (Refusal.Literal carrier) (deleted_literal members c)) (targets members c) none
  where
    by : (o : Option Refusal) (ts : List Target) → or_else o (elim ts [ [] ↦ Some (Refusal.NoPlace carrier c.start) | t ∷ ts ↦ None ]) ≡ None → 0 < length ts
    by None [] e = cc
    by (Some r) ts e = cc
    by None (t ∷ ts) e = omega arith

-- Members without a conflict are in order, and one that is to cover its source is alone.
pub in_order_of : (ms : List Member) → overlap_fault ms ≡ None → (i j b : ℕ) (x y : Span) (mode mode' : SpanMode) → i ≢ j → slice_get ms i ≡ Some (Member.Tracked b x mode) → slice_get ms j ≡ Some (Member.Tracked b y mode') → (in_order (i, x) (j, y) ≡ true) × (is_inclusive mode ≡ false)
in_order_of ms none i j b x y mode mode' other at bt = elim (cases_lt i j) [
  | inl below ↦ (
      let c : conflict (0 + i, Member.Tracked b x mode) (0 + j, Member.Tracked b y mode') ≡ false = no_conflicts 0 ms first i j (Member.Tracked b x mode) (Member.Tracked b y mode') below at bt in
      let d : conflict (i, Member.Tracked b x mode) (j, Member.Tracked b y mode') ≡ false = ap (λ z. conflict (z, Member.Tracked b x mode) (j, Member.Tracked b y mode')) (let e : i ≡ 0 + i = omega arith in e) ∙ ap (λ z. conflict (0 + i, Member.Tracked b x mode) (z, Member.Tracked b y mode')) (let e : j ≡ 0 + j = omega arith in e) ∙ c in
      let p : (is_inclusive mode ≡ false) × (is_inclusive mode' ≡ false) × (in_order (i, x) (j, y) ≡ true) = parts (nat_eq b b) (is_inclusive mode) (is_inclusive mode') (in_order (i, x) (j, y)) (grind (arith, nat_tests)) d in
      (p.2, p.0))
  | inr above ↦ (
      let c : conflict (0 + j, Member.Tracked b y mode') (0 + i, Member.Tracked b x mode) ≡ false = no_conflicts 0 ms first j i (Member.Tracked b y mode') (Member.Tracked b x mode) (omega (arith, other)) bt at in
      let d : conflict (j, Member.Tracked b y mode') (i, Member.Tracked b x mode) ≡ false = ap (λ z. conflict (z, Member.Tracked b y mode') (i, Member.Tracked b x mode)) (let e : j ≡ 0 + j = omega arith in e) ∙ ap (λ z. conflict (0 + j, Member.Tracked b y mode') (z, Member.Tracked b x mode)) (let e : i ≡ 0 + i = omega arith in e) ∙ c in
      let p : (is_inclusive mode' ≡ false) × (is_inclusive mode ≡ false) × (in_order (j, y) (i, x) ≡ true) = parts (nat_eq b b) (is_inclusive mode') (is_inclusive mode) (in_order (j, y) (i, x)) (grind (arith, nat_tests)) d in
      (turned (stands_before (j, y) (i, x) && nat_le (end_of y) x.start) (stands_before (i, x) (j, y) && nat_le (end_of x) y.start) p.2, p.1))
]
  where
    first : first_conflict (enumerate_from 0 ms) ≡ None
    first = by (first_conflict (enumerate_from 0 ms)) none
      where
        by : (o : Option (ℕ × ℕ)) → option_map (λ pair. Refusal.Overlap pair.0 pair.1) o ≡ None → o ≡ None
        by None e = refl
        by (Some p) e = cc

    parts : (s i i' o : Bool) → s ≡ true → (s && (i || i' || not o)) ≡ false → (i ≡ false) × (i' ≡ false) × (o ≡ true)
    parts true false false true e f = (refl, refl, refl)
    parts true false false false e f = absurd (let z : true ≡ false = f in cc)
    parts true false true o e f = absurd (let z : true ≡ false = f in cc)
    parts true true i' o e f = absurd (let z : true ≡ false = f in cc)
    parts false i i' o e f = absurd (let z : false ≡ true = e in cc)

    turned : (a b : Bool) → (a || b) ≡ true → (b || a) ≡ true
    turned true true e = refl
    turned true false e = refl
    turned false true e = refl
    turned false false e = e
