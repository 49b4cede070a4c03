-- What a member holds after a step: the units between its edges that were kept, and the runs that it owns.
use Rattle.std.proofs.Common.{◌≡◌, ℕ, suc, ◌+◌, ◌-◌, ◌<◌, ◌≤◌, Bool, true, false, ◌&&◌, ◌||◌, ◌⊎◌, inl, inr, List, [], ◌∷◌, length, Option, Some, None, refl, sym, ap, ◌∙◌, arith}
use Rattle.std.specs.Prelude.{nat_eq, nat_le, nat_lt, find, slice_get, option_map, unwrap_or}
use Rattle.std.specs.Option.{option_map_or}
use Rattle.std.specs.List.{list_any}
use Rattle.std.proofs.lemmas.Bool.{cases_Bool, cases_lt, cases_eq, eq-eqb, ne_eqb, lt-ltb}
use Rattle.std.proofs.lemmas.Bool.Decides.{nat_tests}
use Rattle.std.proofs.lemmas.List.FromFn.{get_or-range_with_len, length-range_with_len}
use Rattle.std.proofs.lemmas.Option.{slice_get-get_or, slice_get-map}
use Rattle.ed_base.specs.declared.edit.Span.{Span}
use Rattle.ed_base.specs.ChangeList.{step, new_len}
use Rattle.ed_base.specs.Numbers.{places, find_last}
use Rattle.ed_base.specs.Spans.{end_of, holds_place}
use Rattle.ed_base.specs.Step.{Step}
use Rattle.ed_base.specs.Tracking.{positive_edge, negative_edge}
use Rattle.ed_base.proofs.NormalSteps.{normal_new_len}
use Rattle.ed_layers.specs.Bounds.{holds, held_range}
use Rattle.ed_layers.specs.SourceStep as layers
use Rattle.ed_layers.specs.SourceStep.{kept_from, trail_at, ends_with}
use Rattle.ed_members.proofs.Bools.{or_first, not_true}
use Rattle.ed_members.specs.declared.held.Held.{Held}
use Rattle.ed_pieces.specs.declared.trails.TrailRun.{TrailRun}
use Rattle.ed_members.specs.declared.steps.SourceStep.{SourceStep}
use Rattle.ed_members.specs.Advance.{IsSound, held_span, kept_range, run_range, is_owner, with_run, with_runs, with_step, with_steps, index_from}
use Rattle.ed_pieces.specs.Trails.{AreRising, trail_in}
use Rattle.ed_members.specs.Steps.{step_seen, steps_seen}
use Rattle.ed_members.proofs.Indices.{index_above, index_here, index_later, seen_here, seen_later}
use Rattle.ed_members.proofs.Pairs.{Rises, Mem, mem_behind, mem_rise, from, mem_from, from_mem, FirstFrom, LastBefore, first_from, last_before, step_rises}
use Rattle.ed_members.proofs.Ranges.{Ranges, IsRange, range_same, range_is_least, range_joined, place_in, in_place, run_has_range}

-- ---- kept units

abbrev pub keeps : Step → Span → ℕ → Bool
keeps s x q = option_map_or (holds_place x) (kept_from s q) false

pub keeps_mem : (s : Step) (x : Span) (q : ℕ) → keeps s x q ≡ true → (p : ℕ) × Mem p q s.kept × (x.start ≤ p) × (p < end_of x)
keeps_mem s x q is = by_place (from s.kept q) refl
  where
    by_place : (o : Option ℕ) → from s.kept q ≡ o → (p : ℕ) × Mem p q s.kept × (x.start ≤ p) × (p < end_of x)
    by_place None e = absurd (let f : keeps s x q ≡ false = ap (λ (o : Option ℕ). option_map_or (holds_place x) o false) e in cc)
    by_place (Some p) e =
        let t : holds_place x p ≡ true = sym (ap (λ (o : Option ℕ). option_map_or (holds_place x) o false) e) ∙ is in
        let i : (x.start ≤ p) × (p < end_of x) = in_place x p t in
        (p, mem_from p q s.kept e, i.0, i.1)

mem_keeps : (s : Step) (x : Span) (p q : ℕ) → Rises 0 0 s.new_len s.kept → Mem p q s.kept → x.start ≤ p → p < end_of x → keeps s x q ≡ true
mem_keeps s x p q rises has above below =
    ap (λ (o : Option ℕ). option_map_or (holds_place x) o false) (from_mem 0 0 s.new_len p q s.kept rises has) ∙ place_in x p above below

-- the new place of the first kept unit from an old place on, and what lies before it
pub record PositiveEdge (s : Step) (x e : ℕ) : Type 0 where
  pub within : e ≤ s.new_len
  pub below : (p q : ℕ) → Mem p q s.kept → p < x → q < e
  pub above : (p q : ℕ) → Mem p q s.kept → x ≤ p → e ≤ q
  pub there : (e ≡ s.new_len) ⊎ ((p : ℕ) × Mem p e s.kept × (x ≤ p))

pub positive_is : (s : Step) (x : ℕ) → Rises 0 0 s.new_len s.kept → PositiveEdge s x (positive_edge s x)
positive_is s x rises = at_first (find (λ pair. nat_le x pair.0) s.kept) (first_from 0 0 s.new_len x s.kept rises)
  where
    at_first : (o : Option (ℕ × ℕ)) → FirstFrom x s.kept o → PositiveEdge s x (unwrap_or (option_map (λ pair. pair.1) o) s.new_len)
    at_first None none = record {
      within = omega arith;
      below = λ p q has before. (mem_behind 0 0 s.new_len p q s.kept rises has).2;
      above = λ p q has after. absurd (omega (arith, none p q has));
      there = inl refl;
    }
    at_first (Some y) first =
        let b : (0 ≤ y.0) × (0 ≤ y.1) × (y.1 < s.new_len) = mem_behind 0 0 s.new_len y.0 y.1 s.kept rises first.0 in
        let reached : x ≤ y.0 = first.1 in
        record {
          within = omega (arith, b.2);
          below = λ p q has before. elim (mem_rise 0 0 s.new_len p q y.0 y.1 s.kept rises has first.0) [
            | inl l ↦ l.1
            | inr r ↦ elim r [ inl e ↦ absurd (omega (arith, e.0)) | inr g ↦ absurd (omega (arith, g.0)) ]
          ];
          above = λ p q has after. let least : y.0 ≤ p = first.2 p q has after in elim (mem_rise 0 0 s.new_len p q y.0 y.1 s.kept rises has first.0) [
            | inl l ↦ absurd (omega (arith, l.0))
            | inr r ↦ elim r [ inl e ↦ omega (arith, e.1) | inr g ↦ omega (arith, g.1) ]
          ];
          there = inr (y.0, first.0, first.1);
        }

pub positive_rises : (s : Step) (x y : ℕ) → Rises 0 0 s.new_len s.kept → x ≤ y → positive_edge s x ≤ positive_edge s y
positive_rises s x y rises le =
    let a : PositiveEdge s x (positive_edge s x) = positive_is s x rises in
    let b : PositiveEdge s y (positive_edge s y) = positive_is s y rises in
    elim b.there [
      | inl end ↦ omega (arith, a.within, end)
      | inr at ↦ a.above at.0 (positive_edge s y) at.1 (let c : y ≤ at.0 = at.2 in omega arith)
    ]

record NegativeEdge (s : Step) (x e : ℕ) : Type 0 where
  below : (p q : ℕ) → Mem p q s.kept → p < x → q < e
  above : (p q : ℕ) → Mem p q s.kept → x ≤ p → e ≤ q
  there : (e ≡ 0) ⊎ ((p : ℕ) × (q : ℕ) × (e ≡ q + 1) × Mem p q s.kept × (p < x))

negative_is : (s : Step) (x : ℕ) → Rises 0 0 s.new_len s.kept → NegativeEdge s x (negative_edge s x)
negative_is s x rises = at_last (find_last (λ pair. nat_lt pair.0 x) s.kept) (last_before 0 0 s.new_len x s.kept rises)
  where
    at_last : (o : Option (ℕ × ℕ)) → LastBefore x s.kept o → NegativeEdge s x (unwrap_or (option_map (λ pair. pair.1 + 1) o) 0)
    at_last None none = record {
      below = λ p q has before. absurd (omega (arith, none p q has));
      above = λ p q has after. omega arith;
      there = inl refl;
    }
    at_last (Some y) last =
        let before_x : y.0 < x = last.1 in
        record {
          below = λ p q has before. let most : p ≤ y.0 = last.2 p q has before in elim (mem_rise 0 0 s.new_len p q y.0 y.1 s.kept rises has last.0) [
            | inl l ↦ omega (arith, l.1)
            | inr r ↦ elim r [ inl e ↦ omega (arith, e.1) | inr g ↦ absurd (omega (arith, g.0)) ]
          ];
          above = λ p q has after. elim (mem_rise 0 0 s.new_len p q y.0 y.1 s.kept rises has last.0) [
            | inl l ↦ absurd (omega (arith, l.0))
            | inr r ↦ elim r [ inl e ↦ absurd (omega (arith, e.0)) | inr g ↦ omega (arith, g.1) ]
          ];
          there = inr (y.0, y.1, refl, last.0, last.1);
        }

-- the units of a span that were kept lie between its edges
pub kept_has_range : (s : Step) (x : Span) → Rises 0 0 s.new_len s.kept → IsRange (keeps s x) s.new_len (kept_range s x)
kept_has_range s x rises =
    let a : ℕ = positive_edge s x.start in
    let b : ℕ = negative_edge s (end_of x) in
    let pos : PositiveEdge s x.start a = positive_is s x.start rises in
    let neg : NegativeEdge s (end_of x) b = negative_is s (end_of x) rises in
    elim (cases_lt a b) [
      | inl some ↦ rw (lt-ltb (positive_edge s x.start) (negative_edge s (end_of x)) some) (between a b pos neg some)
      | inr none ↦ rw (let f : nat_lt (positive_edge s x.start) (negative_edge s (end_of x)) ≡ false = grind (arith, nat_tests) in f)
          (λ q below. not_true (keeps s x q) (λ t. let k : (p : ℕ) × Mem p q s.kept × (x.start ≤ p) × (p < end_of x) = keeps_mem s x q t in
          let l : a ≤ q = pos.above k.0 q k.1 k.2 in let h : q < b = neg.below k.0 q k.1 k.3 in omega arith))
    ]
  where
    between : (a b : ℕ) → PositiveEdge s x.start a → NegativeEdge s (end_of x) b → a < b → Ranges (keeps s x) s.new_len a b
    between a b pos neg some = elim neg.there [
      | inl none ↦ absurd (omega arith)
      | inr end ↦ (let p : ℕ = end.0 in let q : ℕ = end.1 in
          let e : b ≡ q + 1 = end.2 in
          let has : Mem p q s.kept = end.3 in
          let inside : (0 ≤ p) × (0 ≤ q) × (q < s.new_len) = mem_behind 0 0 s.new_len p q s.kept rises has in
          let fits : q < s.new_len = inside.2 in
          let start_below : x.start ≤ p = elim (cases_lt p x.start) [ inl l ↦ absurd (let c : q < a = pos.below p q has l in omega arith) | inr g ↦ g ] in
          record {
            some = some;
            within = omega arith;
            first = elim pos.there [
              | inl at_end ↦ absurd (omega arith)
              | inr at ↦ (let p' : ℕ = at.0 in
                  let before : p' < end_of x = elim (cases_lt p' (end_of x)) [ inl l ↦ l | inr g ↦ absurd (let c : b ≤ a = neg.above p' a at.1 g in omega arith) ] in
                  mem_keeps s x p' a rises at.1 at.2 before)
            ];
            last = ap (keeps s x) (let f : b - 1 ≡ q = omega arith in f) ∙ mem_keeps s x p q rises has start_below end.4;
            all = λ r below t. let k : (p : ℕ) × Mem p r s.kept × (x.start ≤ p) × (p < end_of x) = keeps_mem s x r t in
                (pos.above k.0 r k.1 k.2, neg.below k.0 r k.1 k.3);
          })
    ]

-- ---- owned runs

abbrev pub owns_place : ℕ → ℕ → ℕ → TrailRun → Bool
owns_place carrier i q run = is_owner carrier i run && holds_place run.span q

with_one : (carrier n i : ℕ) (f : ℕ → Bool) (held : Option Held) (run : TrailRun) → IsRange f n held → IsRange (λ q. f q || owns_place carrier i q run) n (with_run carrier n i held run)
with_one carrier n i f held run r = elim (cases_Bool (is_owner carrier i run)) [
  | inl own ↦ rw own (range_joined f (holds_place run.span) n held (run_range n run) r (run_has_range n run))
  | inr other ↦ rw other (range_same f (λ q. f q || false) n held (λ q below. or_first (f q) false refl) r)
]

pub with_all : (carrier n i : ℕ) (f : ℕ → Bool) (held : Option Held) (runs : List TrailRun) → IsRange f n held → IsRange (λ q. f q || list_any (owns_place carrier i q) runs) n (with_runs carrier n i held runs)
with_all carrier n i f held [] r = range_same f (λ q. f q || false) n held (λ q below. or_first (f q) false refl) r
with_all carrier n i f held (run ∷ runs) r =
    range_same (λ q. (f q || owns_place carrier i q run) || list_any (owns_place carrier i q) runs) (λ q. f q || (owns_place carrier i q run || list_any (owns_place carrier i q) runs)) n
    (with_runs carrier n i (with_run carrier n i held run) runs)
    (λ q below. or_assoc (f q) (owns_place carrier i q run) (list_any (owns_place carrier i q) runs))
    (with_all carrier n i (λ q. f q || owns_place carrier i q run) (with_run carrier n i held run) runs (with_one carrier n i f held run r))
  where
    or_assoc : (a b c : Bool) → ((a || b) || c) ≡ (a || (b || c))
    or_assoc true b c = refl
    or_assoc false b c = refl

-- a place before all runs is owned by none
none_before : (carrier i p q : ℕ) (runs : List TrailRun) → AreRising p runs → q < p → list_any (owns_place carrier i q) runs ≡ false
none_before carrier i p q [] rising before = refl
none_before carrier i p q (run ∷ runs) rising before =
    let outside : holds_place run.span q ≡ false = not_true (holds_place run.span q) (λ t. let k : (run.span.start ≤ q) × (q < end_of run.span) = in_place run.span q t in omega (arith, k.0, rising.0)) in
    let rest : list_any (owns_place carrier i q) runs ≡ false = none_before carrier i (end_of run.span) q runs rising.1 (let a : p ≤ run.span.start = rising.0 in omega arith) in
    ap (λ b. (is_owner carrier i run && b) || list_any (owns_place carrier i q) runs) outside ∙ ap (λ b. (is_owner carrier i run && false) || b) rest ∙ and_false (is_owner carrier i run)
  where
    and_false : (b : Bool) → ((b && false) || false) ≡ false
    and_false true = refl
    and_false false = refl

pub owner_any : (carrier i p q : ℕ) (runs : List TrailRun) → AreRising p runs → ends_with carrier (nat_eq i) (trail_in runs q) ≡ list_any (owns_place carrier i q) runs
owner_any carrier i p q [] rising = refl
owner_any carrier i p q (run ∷ runs) rising = elim (cases_Bool (holds_place run.span q)) [
  | inl t ↦ (let k : (run.span.start ≤ q) × (q < end_of run.span) = in_place run.span q t in
      let rest : list_any (owns_place carrier i q) runs ≡ false = none_before carrier i (end_of run.span) q runs rising.1 k.1 in
      rw (t, rest) (and_true (is_owner carrier i run)))
  | inr f ↦ rw f (owner_any carrier i (end_of run.span) q runs rising.1 ∙ and_false (is_owner carrier i run) (list_any (owns_place carrier i q) runs))
]
  where
    and_true : (b : Bool) → b ≡ ((b && true) || false)
    and_true true = refl
    and_true false = refl

    and_false : (b c : Bool) → c ≡ ((b && false) || c)
    and_false true c = refl
    and_false false c = refl

place_at : (n q : ℕ) → q < n → slice_get (places n) q ≡ Some q
place_at n q below = slice_get-get_or (places n) q 0 (let l : length (places n) ≡ n = length-range_with_len 0 n in omega arith)
    ∙ ap Some (get_or-range_with_len 0 n q 0 below ∙ (let z : 0 + q ≡ q = omega arith in z))

pub trail_is : (x : SourceStep) (q : ℕ) → q < new_len x.changes → trail_at (step_seen x) q ≡ trail_in x.trails q
trail_is x q below = ap (λ (o : Option (List (ℕ × ℕ))). unwrap_or o []) (slice_get-map (trail_in x.trails) (places (new_len x.changes)) q ∙ ap (option_map (trail_in x.trails)) (place_at (new_len x.changes) q below))

-- ---- all that a member holds

pub held_has_range : (carrier i : ℕ) (x : SourceStep) (bounds : Span) → IsSound x
    → IsRange (holds carrier (step_seen x) (record { index = i; bounds = bounds })) (step x.changes).new_len (with_runs carrier (step x.changes).new_len i (kept_range (step x.changes) bounds) x.trails)
held_has_range carrier i x bounds sound =
    let n : ℕ = (step x.changes).new_len in
    let size : (step x.changes).new_len ≡ new_len x.changes = normal_new_len x.changes sound.normal in
    range_same (λ q. keeps (step x.changes) bounds q || list_any (owns_place carrier i q) x.trails) (holds carrier (step_seen x) (record { index = i; bounds = bounds }))
    (step x.changes).new_len (with_runs carrier (step x.changes).new_len i (kept_range (step x.changes) bounds) x.trails)
    (λ q below. ap (λ b. keeps (step x.changes) bounds q || b) (sym (owner_any carrier i 0 q x.trails sound.rising) ∙ ap (ends_with carrier (nat_eq i)) (sym (trail_is x q (omega arith)))))
    (with_all carrier (step x.changes).new_len i (keeps (step x.changes) bounds) (kept_range (step x.changes) bounds) x.trails (kept_has_range (step x.changes) bounds (step_rises x.changes sound.normal)))

pub held_is : (carrier i : ℕ) (x : SourceStep) (bounds : Span) → IsSound x
    → option_map held_span (with_runs carrier (step x.changes).new_len i (kept_range (step x.changes) bounds) x.trails) ≡ held_range carrier (step_seen x) (record { index = i; bounds = bounds })
held_is carrier i x bounds sound =
    range_is_least (holds carrier (step_seen x) (record { index = i; bounds = bounds })) (step x.changes).new_len (with_runs carrier (step x.changes).new_len i (kept_range (step x.changes) bounds) x.trails) (held_has_range carrier i x bounds sound)

-- ---- step by step

steps_past : (carrier k u i : ℕ) (held : Option Held) (ss : List SourceStep) → u < k → with_steps carrier k (Some (Some u)) i held ss ≡ held
steps_past carrier k u i held [] past = refl
steps_past carrier k u i held (s ∷ ss) past = rw (ne_eqb u k (λ e. omega arith)) (steps_past carrier (k + 1) u i held ss (omega arith))

-- the step of a source, with all that is known of it
pub record StepOf (carrier k b i : ℕ) (held : Option Held) (ss : List SourceStep) (s : layers.SourceStep) : Type 0 where
  pub given : SourceStep
  pub at : ℕ
  pub below : at < length ss
  pub here : slice_get ss at ≡ Some given
  pub seen : s ≡ step_seen given
  pub runs : with_steps carrier k (Some (index_from k b ss)) i held ss ≡ with_runs carrier (step given.changes).new_len i held given.trails

pub steps_one : (carrier k b i : ℕ) (held : Option Held) (ss : List SourceStep) (s : layers.SourceStep) → steps_seen ss b ≡ Some s → StepOf carrier k b i held ss s
steps_one carrier k b i held [] s is = absurd (cc)
steps_one carrier k b i held (x ∷ ss) s is = elim (cases_eq x.source b) [
  | inl e ↦ record {
    given = x;
    at = 0;
    below = omega arith;
    here = refl;
    seen = cc (seen_here b x ss e);
    runs = ap (λ (o : Option ℕ). with_steps carrier k (Some o) i held (x ∷ ss)) (index_here k b x ss e)
        ∙ rw (eq-eqb k k refl) (steps_past carrier (k + 1) k i (with_runs carrier (step x.changes).new_len i held x.trails) ss (omega arith));
  }
  | inr ne ↦ (let rest : StepOf carrier (k + 1) b i held ss s = steps_one carrier (k + 1) b i held ss s (sym (seen_later b x ss ne) ∙ is) in
      record {
        given = rest.given;
        at = suc rest.at;
        below = (let l : rest.at < length ss = rest.below in omega arith);
        here = rest.here;
        seen = rest.seen;
        runs = ap (λ (o : Option ℕ). with_steps carrier k (Some o) i held (x ∷ ss)) (index_later k b x ss ne)
            ∙ ap (λ (h : Option Held). with_steps carrier (k + 1) (Some (index_from (k + 1) b ss)) i h ss) (not_here (index_from (k + 1) b ss) refl)
            ∙ rest.runs;
      })
]
  where
    not_here : (o : Option ℕ) → index_from (k + 1) b ss ≡ o → with_step carrier k (Some o) i held x ≡ held
    not_here None e = refl
    not_here (Some t) e = rw (ne_eqb t k (λ f. let l : k + 1 ≤ t = index_above (k + 1) b ss t e in omega arith)) refl
