-- The ways of a source's units, handed up to the units of a carrier.
use Rattle.std.proofs.Common.{◌≡◌, ◌≢◌, ℕ, zero, suc, ◌+◌, ◌-◌, ◌<◌, ◌≤◌, Bool, true, false, ◌&&◌, inl, inr, List, [], ◌∷◌, ◌++◌, length, map, drop, take, get_or, Option, Some, None, refl, sym, ap, subst, ◌∙◌, arith}
use Rattle.std.specs.Prelude.{nat_eq, nat_lt, flat_map, max, min, slice_get, MatchOption, if◌then◌else◌}
use Rattle.std.specs.Option.{option_map_or}
use Rattle.std.specs.List.{range_with_len, enumerate_from}
use Rattle.std.specs.List.Sorted.{IsNonDecreasingBy}
use Rattle.std.proofs.lemmas.Bool.{cases_Bool, cases_lt, eq-eqb, ne_eqb, lt-ltb, ltb-true}
use Rattle.std.proofs.lemmas.Bool.Decides.{nat_tests}
use Rattle.std.proofs.lemmas.List.{append-nil, map-append, take_more, take_all, length-take-le}
use Rattle.std.proofs.lemmas.List.Concat.{flat_map-append}
use Rattle.std.proofs.lemmas.List.Sums.{sum_by-append, sum_by-cons}
use Rattle.ed_base.proofs.NormalSteps.{normal_new_len}
use Rattle.ed_base.specs.declared.edit.Span.{Span}
use Rattle.ed_base.specs.declared.mode.SpanMode.{SpanMode}
use Rattle.ed_base.specs.declared.piece.Member.{Member}
use Rattle.ed_base.specs.ChangeList.{step, new_len}
use Rattle.ed_base.specs.Numbers.{places}
use Rattle.ed_base.specs.Spans.{end_of, holds_place, shares_unit}
use Rattle.ed_layers.specs.CarrierStep.{Slot, member_slots, record_trails, slot_trail}
use Rattle.ed_layers.specs.Records.{member_len, members_len, placement, projection}
use Rattle.ed_layers.specs.SourceStep as layers
use Rattle.ed_layers.specs.SourceStep.{ends_with, trail_above, trail_at, without_last}
use Rattle.ed_pieces.specs.declared.trails.TrailRun.{TrailRun}
use Rattle.ed_pieces.specs.Trails.{AreRising, trail_in, trails_in}
use Rattle.ed_members.specs.Advance.{IsSound, owner_in}
use Rattle.ed_members.specs.declared.steps.SourceStep.{SourceStep}
use Rattle.ed_members.specs.Moving.{EndsInNew}
use Rattle.ed_members.specs.Steps.{step_seen, steps_seen}
use Rattle.ed_members.specs.Ways.{LieBetween, SayFurther, goes_on, place_above, run_above}
use Rattle.ed_members.proofs.Bools.{and_parts, not_true}
use Rattle.ed_members.proofs.Keeping.{trail_is}
use Rattle.ed_members.proofs.Putting.{below_at, owner_ends, read_at}
use Rattle.ed_members.proofs.Ranges.{place_in, in_place}

-- ---- one trail

-- whether it goes on, by the member that it names last
goes_on_is : (me : ℕ) (any : Bool) (i : ℕ) (trail : List (ℕ × ℕ)) (o : Option ℕ) → o ≡ owner_in me trail → goes_on me any i trail ≡ (option_map_or (λ j. if any then true else nat_eq j i) o false && nat_lt 1 (length trail))
goes_on_is me any i trail o is = ap (λ b. b && nat_lt 1 (length trail)) (owner_ends me (λ j. if any then true else nat_eq j i) trail ∙ ap (λ (o : Option ℕ). option_map_or (λ j. if any then true else nat_eq j i) o false) (sym is))

pub goes_on_own : (me : ℕ) (any : Bool) (i owner : ℕ) (trail : List (ℕ × ℕ)) → Some owner ≡ owner_in me trail → (if any then true else nat_eq owner i) ≡ true → nat_lt 1 (length trail) ≡ goes_on me any i trail
goes_on_own me any i owner trail is own = sym (goes_on_is me any i trail (Some owner) is ∙ ap (λ b. b && nat_lt 1 (length trail)) own)

pub goes_on_other : (me : ℕ) (any : Bool) (i owner : ℕ) (trail : List (ℕ × ℕ)) → Some owner ≡ owner_in me trail → (if any then true else nat_eq owner i) ≡ false → false ≡ goes_on me any i trail
goes_on_other me any i owner trail is other = sym (goes_on_is me any i trail (Some owner) is ∙ ap (λ b. b && nat_lt 1 (length trail)) other)

pub goes_on_none : (me : ℕ) (any : Bool) (i : ℕ) (trail : List (ℕ × ℕ)) → None ≡ owner_in me trail → false ≡ goes_on me any i trail
goes_on_none me any i trail is = sym (goes_on_is me any i trail None is)

pub without_last_is : (trail : List (ℕ × ℕ)) → take (length trail - 1) trail ≡ without_last trail
without_last_is [] = refl
without_last_is (p ∷ []) = refl
without_last_is (p ∷ q ∷ ps) =
    ap (λ n. take n (p ∷ q ∷ ps)) (let e : length (p ∷ q ∷ ps) - 1 ≡ suc (length (q ∷ ps) - 1) = omega arith in e)
    ∙ ap (λ rest. p ∷ rest) (without_last_is (q ∷ ps))

-- a trail that doesn't go on has nothing to hand up
ends_here : (me : ℕ) (any : Bool) (i : ℕ) (trail : List (ℕ × ℕ)) → goes_on me any i trail ≡ false → trail_above me (λ j. if any then true else nat_eq j i) trail ≡ []
ends_here me any i trail ends = elim (cases_Bool (ends_with me (λ j. if any then true else nat_eq j i) trail)) [
  | inl t ↦ rw t (short trail (let f : nat_lt 1 (length trail) ≡ false = sym (ap (λ b. b && nat_lt 1 (length trail)) t) ∙ ends in f))
  | inr f ↦ rw f refl
]
  where
    short : (trail : List (ℕ × ℕ)) → nat_lt 1 (length trail) ≡ false → without_last trail ≡ []
    short [] e = refl
    short (p ∷ []) e = refl
    short (p ∷ q ∷ ps) e = absurd (let t : nat_lt 1 (length (p ∷ q ∷ ps)) ≡ true = lt-ltb 1 (length (p ∷ q ∷ ps)) (omega arith) in cc)

-- ---- runs that lie between places

pub lie_within : (a b : ℕ) (runs : List TrailRun) → LieBetween a b runs → a ≤ b
lie_within a b [] lie = lie
lie_within a b (run ∷ runs) lie = let below : end_of run.span ≤ b = lie_within (end_of run.span) b runs lie.1 in omega (arith, lie.0)

lie_lower : (a b c : ℕ) (runs : List TrailRun) → a ≤ b → LieBetween b c runs → LieBetween a c runs
lie_lower a b c [] le lie = omega (arith, lie)
lie_lower a b c (run ∷ runs) le lie = (omega (arith, lie.0), lie.1)

lie_append : (a b c : ℕ) (xs ys : List TrailRun) → LieBetween a b xs → LieBetween b c ys → LieBetween a c (xs ++ ys)
lie_append a b c [] ys lie more = lie_lower a b c ys lie more
lie_append a b c (x ∷ xs) ys lie more = (lie.0, lie_append (end_of x.span) b c xs ys lie.1 more)

pub lie_rises : (a b : ℕ) (runs : List TrailRun) → LieBetween a b runs → AreRising a runs
lie_rises a b [] lie = tt
lie_rises a b (run ∷ runs) lie = (lie.0, lie_rises (end_of run.span) b runs lie.1)

-- ---- the trail of a unit

trail_here : (run : TrailRun) (runs : List TrailRun) (q : ℕ) → holds_place run.span q ≡ true → trail_in (run ∷ runs) q ≡ run.trail
trail_here run runs q t = rw t refl

trail_later : (run : TrailRun) (runs : List TrailRun) (q : ℕ) → holds_place run.span q ≡ false → trail_in (run ∷ runs) q ≡ trail_in runs q
trail_later run runs q f = rw f refl

outside : (x : Span) (q : ℕ) → (x.start ≤ q → q < end_of x → ⊥) → holds_place x q ≡ false
outside x q never = not_true (holds_place x q) (λ t. let k : (x.start ≤ q) × (q < end_of x) = in_place x q t in never k.0 k.1)

-- before all runs, and behind them
trail_before : (p q : ℕ) (runs : List TrailRun) → AreRising p runs → q < p → trail_in runs q ≡ []
trail_before p q [] rising before = refl
trail_before p q (run ∷ runs) rising before =
    trail_later run runs q (outside run.span q (λ above below. omega (arith, rising.0)))
    ∙ trail_before (end_of run.span) q runs rising.1 (omega (arith, rising.0))

trail_behind : (a b q : ℕ) (runs : List TrailRun) → LieBetween a b runs → b ≤ q → trail_in runs q ≡ []
trail_behind a b q [] lie behind = refl
trail_behind a b q (run ∷ runs) lie behind =
    let below : end_of run.span ≤ b = lie_within (end_of run.span) b runs lie.1 in
    trail_later run runs q (outside run.span q (λ above below'. omega arith))
    ∙ trail_behind (end_of run.span) b q runs lie.1 behind

trail_first : (a b c q : ℕ) (xs ys : List TrailRun) → LieBetween a b xs → LieBetween b c ys → q < b → trail_in (xs ++ ys) q ≡ trail_in xs q
trail_first a b c q [] ys lie more before = trail_before b q ys (lie_rises b c ys more) before
trail_first a b c q (x ∷ xs) ys lie more before = elim (cases_Bool (holds_place x.span q)) [
  | inl t ↦ trail_here x (xs ++ ys) q t ∙ sym (trail_here x xs q t)
  | inr f ↦ trail_later x (xs ++ ys) q f ∙ trail_first (end_of x.span) b c q xs ys lie.1 more before ∙ sym (trail_later x xs q f)
]

trail_second : (a b q : ℕ) (xs ys : List TrailRun) → LieBetween a b xs → b ≤ q → trail_in (xs ++ ys) q ≡ trail_in ys q
trail_second a b q [] ys lie behind = refl
trail_second a b q (x ∷ xs) ys lie behind =
    let below : end_of x.span ≤ b = lie_within (end_of x.span) b xs lie.1 in
    trail_later x (xs ++ ys) q (outside x.span q (λ above below'. omega arith)) ∙ trail_second (end_of x.span) b q xs ys lie.1 behind

-- ---- the runs of a source and those above them

module _ (me : ℕ) (any : Bool) (i p : ℕ) (bounds : Span) where
  abbrev above : List TrailRun → List TrailRun
  above runs = flat_map (run_above me any i p bounds) runs

  abbrev run_shown : TrailRun → TrailRun
  run_shown run = record { span = place_above p bounds run.span; trail = without_last run.trail }

  shown_is : (run : TrailRun) → shares_unit run.span bounds ≡ true → goes_on me any i run.trail ≡ true → run_above me any i p bounds run ≡ run_shown run ∷ []
  shown_is run shares on = rw (shares, on) refl

  apart_is : (run : TrailRun) → shares_unit run.span bounds ≡ false → run_above me any i p bounds run ≡ []
  apart_is run apart = rw apart refl

  ended_is : (run : TrailRun) → goes_on me any i run.trail ≡ false → run_above me any i p bounds run ≡ []
  ended_is run ends = elim (cases_Bool (shares_unit run.span bounds)) [ inl t ↦ rw (t, ends) refl | inr f ↦ rw f refl ]

  with_run : (run : TrailRun) (runs here : List TrailRun) → run_above me any i p bounds run ≡ here → above (run ∷ runs) ≡ here ++ above runs
  with_run run runs here is = ap (λ xs. xs ++ above runs) is

  -- where a place of the source lies above, or the nearest place to it
  abbrev placed : ℕ → ℕ
  placed q = p + min (q - bounds.start) bounds.len

  above_lie : (a : ℕ) (runs : List TrailRun) → AreRising a runs → LieBetween (placed a) (p + bounds.len) (above runs)
  above_lie a [] rising = omega arith
  above_lie a (run ∷ runs) rising =
      let rest : LieBetween (placed (end_of run.span)) (p + bounds.len) (above runs) = above_lie (end_of run.span) runs rising.1 in
      let le : a ≤ run.span.start = rising.0 in
      let passed : LieBetween (placed a) (p + bounds.len) (above runs) = lie_lower (placed a) (placed (end_of run.span)) (p + bounds.len) (above runs) (omega arith) rest in
      elim (cases_lt (max run.span.start bounds.start) (min (end_of run.span) (end_of bounds))) [
        | inr apart ↦ subst (λ xs. LieBetween (placed a) (p + bounds.len) xs) (sym (with_run run runs [] (apart_is run (let f : shares_unit run.span bounds ≡ false = grind (arith, nat_tests) in f)))) passed
        | inl shares ↦ elim (cases_Bool (goes_on me any i run.trail)) [
          | inr ends ↦ subst (λ xs. LieBetween (placed a) (p + bounds.len) xs) (sym (with_run run runs [] (ended_is run ends))) passed
          | inl on ↦ subst (λ xs. LieBetween (placed a) (p + bounds.len) xs) (sym (with_run run runs (run_shown run ∷ []) (shown_is run (lt-ltb _ _ shares) on)))
              (omega arith, lie_lower (end_of (run_shown run).span) (placed (end_of run.span)) (p + bounds.len) (above runs) (omega arith) rest)
        ]
      ]

  above_trail : (a q : ℕ) (runs : List TrailRun) → AreRising a runs → bounds.start ≤ q → q < end_of bounds → trail_in (above runs) (p + (q - bounds.start)) ≡ trail_above me (λ j. if any then true else nat_eq j i) (trail_in runs q)
  above_trail a q [] rising from to = refl
  above_trail a q (run ∷ runs) rising from to = with_rest (above_trail (end_of run.span) q runs rising.1 from to)
    where
      with_rest : trail_in (above runs) (p + (q - bounds.start)) ≡ trail_above me (λ j. if any then true else nat_eq j i) (trail_in runs q) → trail_in (above (run ∷ runs)) (p + (q - bounds.start)) ≡ trail_above me (λ j. if any then true else nat_eq j i) (trail_in (run ∷ runs) q)
      with_rest rest = elim (cases_Bool (holds_place run.span q)) [
        | inl t ↦ (let k : (run.span.start ≤ q) × (q < end_of run.span) = in_place run.span q t in
            let k0 : run.span.start ≤ q = k.0 in
            let k1 : q < end_of run.span = k.1 in
            let shares : max run.span.start bounds.start < min (end_of run.span) (end_of bounds) = omega arith in
            elim (cases_Bool (goes_on me any i run.trail)) [
              | inl on ↦ (let ends : ends_with me (λ j. if any then true else nat_eq j i) run.trail ≡ true = (and_parts _ _ on).0 in
                  ap (λ xs. trail_in xs (p + (q - bounds.start))) (with_run run runs (run_shown run ∷ []) (shown_is run (lt-ltb _ _ shares) on))
                  ∙ trail_here (run_shown run) (above runs) (p + (q - bounds.start)) (place_in (run_shown run).span (p + (q - bounds.start)) (omega arith) (omega arith))
                  ∙ sym (ap (trail_above me (λ j. if any then true else nat_eq j i)) (trail_here run runs q t) ∙ rw ends refl))
              | inr ends ↦ ap (λ xs. trail_in xs (p + (q - bounds.start))) (with_run run runs [] (ended_is run ends))
                  ∙ rest
                  ∙ ap (trail_above me (λ j. if any then true else nat_eq j i)) (trail_before (end_of run.span) q runs rising.1 k1)
                  ∙ sym (ap (trail_above me (λ j. if any then true else nat_eq j i)) (trail_here run runs q t) ∙ ends_here me any i run.trail ends)
            ])
        | inr f ↦ by_shown (shares_unit run.span bounds) (goes_on me any i run.trail) refl refl f ∙ sym (ap (trail_above me (λ j. if any then true else nat_eq j i)) (trail_later run runs q f))
      ]
        where
          by_shown : (s g : Bool) → shares_unit run.span bounds ≡ s → goes_on me any i run.trail ≡ g → holds_place run.span q ≡ false → trail_in (above (run ∷ runs)) (p + (q - bounds.start)) ≡ trail_above me (λ j. if any then true else nat_eq j i) (trail_in runs q)
          by_shown false g s_is g_is f = ap (λ xs. trail_in xs (p + (q - bounds.start))) (with_run run runs [] (apart_is run s_is)) ∙ rest
          by_shown true false s_is g_is f = ap (λ xs. trail_in xs (p + (q - bounds.start))) (with_run run runs [] (ended_is run g_is)) ∙ rest
          by_shown true true s_is g_is f =
              let shares : max run.span.start bounds.start < min (end_of run.span) (end_of bounds) = ltb-true _ _ s_is in
              ap (λ xs. trail_in xs (p + (q - bounds.start))) (with_run run runs (run_shown run ∷ []) (shown_is run s_is g_is))
              ∙ trail_later (run_shown run) (above runs) (p + (q - bounds.start))
              (outside (run_shown run).span (p + (q - bounds.start)) (λ low high. let t : holds_place run.span q ≡ true = place_in run.span q (omega arith) (omega arith) in cc))
              ∙ rest

  -- runs that lie before the member, and those behind it
  pub above_passed : (k : ℕ) (runs : List TrailRun) → ((j : ℕ) (r : TrailRun) → j < k → slice_get runs j ≡ Some r → end_of r.span ≤ bounds.start) → above (drop k runs) ≡ above runs
  above_passed zero runs before = refl
  above_passed (suc k) [] before = refl
  above_passed (suc k) (run ∷ runs) before =
      let low : end_of run.span ≤ bounds.start = before 0 run (omega arith) refl in
      above_passed k runs (λ j r l is. before (suc j) r (omega arith) is)
      ∙ sym (with_run run runs [] (apart_is run (let f : shares_unit run.span bounds ≡ false = grind (arith, nat_tests) in f)))

  above_none : (a : ℕ) (runs : List TrailRun) → AreRising a runs → end_of bounds ≤ a → above runs ≡ []
  above_none a [] rising past = refl
  above_none a (run ∷ runs) rising past =
      let le : a ≤ run.span.start = rising.0 in
      with_run run runs [] (apart_is run (let f : shares_unit run.span bounds ≡ false = grind (arith, nat_tests) in f)) ∙ above_none (end_of run.span) runs rising.1 (omega arith)

  pub above_ended : (a k : ℕ) (runs : List TrailRun) (run : TrailRun) → AreRising a runs → slice_get runs k ≡ Some run → end_of bounds ≤ run.span.start → above (drop k runs) ≡ []
  above_ended a k [] run rising is past = absurd (cc)
  above_ended a zero (r ∷ runs) run rising is past =
      let same : r ≡ run = cc in
      above_none r.span.start (r ∷ runs) (omega arith, rising.1) (let e : r.span.start ≡ run.span.start = ap (λ (x : TrailRun). x.span.start) same in omega arith)
  above_ended a (suc k) (r ∷ runs) run rising is past = above_ended (end_of r.span) k runs run rising.1 is past

-- ---- where runs end

end_at : (a j : ℕ) (d : TrailRun) (runs : List TrailRun) → AreRising a runs → j < length runs → a ≤ end_of (get_or runs j d).span
end_at a j d [] rising below = absurd (omega arith)
end_at a zero d (run ∷ runs) rising below = omega (arith, rising.0)
end_at a (suc j) d (run ∷ runs) rising below = let further : end_of run.span ≤ end_of (get_or runs j d).span = end_at (end_of run.span) j d runs rising.1 (omega arith) in omega (arith, rising.0)

pub ends_rise : (a : ℕ) (runs : List TrailRun) → AreRising a runs → IsNonDecreasingBy (λ (r : TrailRun). end_of r.span) runs
ends_rise a [] rising i j d le below = absurd (omega arith)
ends_rise a (run ∷ runs) rising zero zero d le below = omega arith
ends_rise a (run ∷ runs) rising zero (suc j) d le below = end_at (end_of run.span) j d runs rising.1 (omega arith)
ends_rise a (run ∷ runs) rising (suc i) zero d le below = absurd (omega arith)
ends_rise a (run ∷ runs) rising (suc i) (suc j) d le below = ends_rise (end_of run.span) runs rising.1 i j d (omega arith) (omega arith)

-- ---- the units of one member

-- what is the same of each place
same_each : {Y Z : Type 0} (f : ℕ → Z) (g : Y → Z) (h : ℕ → Y) (a b n : ℕ) → ((k : ℕ) → k < n → f (a + k) ≡ g (h (b + k))) → map f (range_with_len a n) ≡ map g (map h (range_with_len b n))
same_each f g h a b zero same = refl
same_each f g h a b (suc n) same =
    ap (λ z. z ∷ map f (range_with_len (a + 1) n)) (ap f (let e : a ≡ a + 0 = omega arith in e) ∙ same 0 (omega arith) ∙ ap (λ k. g (h k)) (let e : b + 0 ≡ b = omega arith in e))
    ∙ ap (λ zs. g (h b) ∷ zs) (same_each f g h (a + 1) (b + 1) n
    (λ k l. ap f (let e : (a + 1) + k ≡ a + (k + 1) = omega arith in e) ∙ same (k + 1) (omega arith) ∙ ap (λ k. g (h k)) (let e : b + (k + 1) ≡ (b + 1) + k = omega arith in e)))

abbrev slot_at : ℕ → Option ℕ → ℕ → Slot
slot_at i source p = record { member = i; source = source; place = p }

module _ (me : ℕ) (any : Bool) (i p : ℕ) (steps : ℕ → Option layers.SourceStep) (old : List TrailRun) (lie : LieBetween 0 p old) where
  abbrev ways : Member → List (List (ℕ × ℕ))
  ways m = map (slot_trail me any steps) (member_slots (i, m))

  -- a literal has none, nor has a member whose source didn't step
  pub literal_further : (units : List ℕ) → SayFurther old old p (length units) (ways (Member.Literal units))
  literal_further units = record {
    lie = lie_longer (length units);
    before = λ q l. refl;
    here = same_each (trail_in old) (slot_trail me any steps) (slot_at i None) p 0 (length units) (λ k l. trail_behind 0 p (p + k) old lie (omega arith));
  }
    where
      lie_longer : (n : ℕ) → LieBetween 0 (p + n) old
      lie_longer n = subst (λ xs. LieBetween 0 (p + n) xs) (append-nil old) (lie_append 0 p (p + n) old [] lie (omega arith))

  pub resting_further : (source : ℕ) (bounds : Span) (mode : SpanMode) → steps source ≡ None → SayFurther old old p bounds.len (ways (Member.Tracked source bounds mode))
  resting_further source bounds mode none = record {
    lie = subst (λ xs. LieBetween 0 (p + bounds.len) xs) (append-nil old) (lie_append 0 p (p + bounds.len) old [] lie (omega arith));
    before = λ q l. refl;
    here = same_each (trail_in old) (slot_trail me any steps) (slot_at i (Some source)) p bounds.start bounds.len
        (λ k l. trail_behind 0 p (p + k) old lie (omega arith) ∙ sym (rw none refl));
  }

  pub stepped_further : (source : ℕ) (bounds : Span) (mode : SpanMode) (s : SourceStep) (new : List TrailRun) → steps source ≡ Some (step_seen s) → IsSound s → end_of bounds ≤ (step s.changes).new_len → new ≡ old ++ flat_map (run_above me any i p bounds) s.trails
      → SayFurther old new p bounds.len (ways (Member.Tracked source bounds mode))
  stepped_further source bounds mode s new is sound within put = subst (λ xs. SayFurther old xs p bounds.len (ways (Member.Tracked source bounds mode))) (sym put) (record {
    lie = lie_append 0 p (p + bounds.len) old (flat_map (run_above me any i p bounds) s.trails) lie more;
    before = λ q l. trail_first 0 p (p + bounds.len) q old (flat_map (run_above me any i p bounds) s.trails) lie more l;
    here = same_each (trail_in (old ++ flat_map (run_above me any i p bounds) s.trails)) (slot_trail me any steps) (slot_at i (Some source)) p bounds.start bounds.len (λ k l. each k l);
  })
    where
      more : LieBetween p (p + bounds.len) (flat_map (run_above me any i p bounds) s.trails)
      more = lie_lower p (p + min (0 - bounds.start) bounds.len) (p + bounds.len) (flat_map (run_above me any i p bounds) s.trails) (omega arith) (above_lie me any i p bounds 0 s.trails sound.rising)

      each : (k : ℕ) → k < bounds.len → trail_in (old ++ flat_map (run_above me any i p bounds) s.trails) (p + k) ≡ slot_trail me any steps (slot_at i (Some source) (bounds.start + k))
      each k l =
          let size : (step s.changes).new_len ≡ new_len s.changes = normal_new_len s.changes sound.normal in
          trail_second 0 p (p + k) old (flat_map (run_above me any i p bounds) s.trails) lie (omega arith)
          ∙ ap (λ q. trail_in (flat_map (run_above me any i p bounds) s.trails) (p + q)) (let e : k ≡ (bounds.start + k) - bounds.start = omega arith in e)
          ∙ above_trail me any i p bounds 0 (bounds.start + k) s.trails sound.rising (omega arith) (omega arith)
          ∙ ap (trail_above me (λ j. if any then true else nat_eq j i)) (sym (trail_is s (bounds.start + k) (omega arith)))
          ∙ sym (rw is refl)

-- where its bounds end, by the step of its source
pub ends_within : (source : ℕ) (bounds : Span) (mode : SpanMode) (steps : List SourceStep) (s : SourceStep) → EndsInNew (steps_seen steps) (Member.Tracked source bounds mode) → steps_seen steps source ≡ Some (step_seen s) → end_of bounds ≤ (step s.changes).new_len
ends_within source bounds mode steps s within is = subst (λ (o : Option layers.SourceStep). MatchOption o (Unit {0}) (λ (x : layers.SourceStep). end_of bounds ≤ x.step.new_len)) is within

-- ---- all members

abbrev pub ways_of : ℕ → Bool → (ℕ → Option layers.SourceStep) → List (ℕ × Member) → List (List (ℕ × ℕ))
ways_of me any steps ms = map (slot_trail me any steps) (flat_map member_slots ms)

-- the runs say the ways of the first members
pub record SayFirst (me : ℕ) (any : Bool) (steps : ℕ → Option layers.SourceStep) (ms : List Member) (k : ℕ) (runs : List TrailRun) : Type 0 where
  pub lie : LieBetween 0 (members_len (take k ms)) runs
  pub ways : map (trail_in runs) (places (members_len (take k ms))) ≡ ways_of me any steps (enumerate_from 0 (take k ms))

pub say_none : (me : ℕ) (any : Bool) (steps : ℕ → Option layers.SourceStep) (ms : List Member) → SayFirst me any steps ms 0 []
say_none me any steps ms = record { lie = omega arith; ways = refl }

range_split : (n m a : ℕ) → range_with_len a (n + m) ≡ range_with_len a n ++ range_with_len (a + n) m
range_split zero m a = ap (λ i. range_with_len a i) (let e : 0 + m ≡ m = omega arith in e) ∙ ap (λ i. range_with_len i m) (let e : a ≡ a + 0 = omega arith in e)
range_split (suc n) m a =
    ap (λ i. range_with_len a i) (let e : suc n + m ≡ suc (n + m) = omega arith in e)
    ∙ ap (λ xs. a ∷ xs) (range_split n m (a + 1) ∙ ap (λ i. range_with_len (a + 1) n ++ range_with_len i m) (let e : (a + 1) + n ≡ a + suc n = omega arith in e))

map_same : (f g : ℕ → List (ℕ × ℕ)) (a n : ℕ) → ((q : ℕ) → a ≤ q → q < a + n → f q ≡ g q) → map f (range_with_len a n) ≡ map g (range_with_len a n)
map_same f g a zero same = refl
map_same f g a (suc n) same =
    ap (λ z. z ∷ map f (range_with_len (a + 1) n)) (same a (omega arith) (omega arith))
    ∙ ap (λ zs. g a ∷ zs) (map_same f g (a + 1) n (λ q from to. same q (omega arith) (omega arith)))

enumerate_append : (k : ℕ) (xs ys : List Member) → enumerate_from k (xs ++ ys) ≡ enumerate_from k xs ++ enumerate_from (k + length xs) ys
enumerate_append k [] ys = ap (λ n. enumerate_from n ys) (let e : k ≡ k + 0 = omega arith in e)
enumerate_append k (x ∷ xs) ys = ap (λ rest. (k, x) ∷ rest) (enumerate_append (k + 1) xs ys ∙ ap (λ n. enumerate_from (k + 1) xs ++ enumerate_from n ys) (let e : (k + 1) + length xs ≡ k + suc (length xs) = omega arith in e))

-- one member more
pub say_more : (me : ℕ) (any : Bool) (steps : ℕ → Option layers.SourceStep) (ms : List Member) (k p : ℕ) (m : Member) (old new : List TrailRun) → slice_get ms k ≡ Some m → p ≡ (placement ms k).start
    → SayFirst me any steps ms k old → SayFurther old new p (member_len m) (map (slot_trail me any steps) (member_slots (k, m))) → SayFirst me any steps ms (k + 1) new
say_more me any steps ms k p m old new is at said further =
    let below : k < length ms = below_at ms k m is in
    let start : p ≡ members_len (take k ms) = at in
    let next : take (k + 1) ms ≡ take k ms ++ m ∷ [] = take_more ms k m below ∙ ap (λ x. take k ms ++ x ∷ []) (read_at ms k m m is) in
    let long : members_len (take (k + 1) ms) ≡ p + member_len m =
    ap members_len next ∙ sum_by-append member_len (take k ms) (m ∷ []) ∙ (let e : members_len (take k ms) + members_len (m ∷ []) ≡ p + member_len m = omega (arith, sum_by-cons member_len m []) in e) in
    let size : length (take k ms) ≡ k = length-take-le k ms (omega arith) in
    let slots_next : flat_map member_slots (enumerate_from 0 (take (k + 1) ms)) ≡ flat_map member_slots (enumerate_from 0 (take k ms)) ++ member_slots (k, m) =
    ap (λ xs. flat_map member_slots (enumerate_from 0 xs)) next
    ∙ ap (flat_map member_slots) (enumerate_append 0 (take k ms) (m ∷ []))
    ∙ flat_map-append member_slots (enumerate_from 0 (take k ms)) (enumerate_from (0 + length (take k ms)) (m ∷ []))
    ∙ ap (λ xs. flat_map member_slots (enumerate_from 0 (take k ms)) ++ xs) (append-nil (member_slots (0 + length (take k ms), m)) ∙ ap (λ n. member_slots (n, m)) (let e : 0 + length (take k ms) ≡ k = omega arith in e)) in
    record {
      lie = subst (λ n. LieBetween 0 n new) (sym long) further.lie;
      ways = ap (λ n. map (trail_in new) (places n)) long
          ∙ ap (map (trail_in new)) (range_split p (member_len m) 0)
          ∙ map-append (trail_in new) (range_with_len 0 p) (range_with_len (0 + p) (member_len m))
          ∙ ap (λ xs. xs ++ map (trail_in new) (range_with_len (0 + p) (member_len m))) (map_same (trail_in new) (trail_in old) 0 p (λ q from to. further.before q (omega arith)) ∙ ap (λ n. map (trail_in old) (places n)) start ∙ said.ways)
          ∙ ap (λ xs. ways_of me any steps (enumerate_from 0 (take k ms)) ++ xs) (ap (λ n. map (trail_in new) (range_with_len n (member_len m))) (let e : 0 + p ≡ p = omega arith in e) ∙ further.here)
          ∙ sym (map-append (slot_trail me any steps) (flat_map member_slots (enumerate_from 0 (take k ms))) (member_slots (k, m)))
          ∙ ap (map (slot_trail me any steps)) (sym slots_next);
    }

pub say_all : (me : ℕ) (any : Bool) (steps : ℕ → Option layers.SourceStep) (ms : List Member) (k : ℕ) (runs : List TrailRun) → length ms ≤ k → SayFirst me any steps ms k runs → (sources : List (ℕ × ℕ)) → trails_in runs (members_len ms) ≡ record_trails me any steps (projection ms sources)
say_all me any steps ms k runs past said sources =
    subst (λ (xs : List Member). map (trail_in runs) (places (members_len xs)) ≡ ways_of me any steps (enumerate_from 0 xs)) (take_all k ms past) said.ways

pub placed_len : (ms : List Member) (k : ℕ) (m : Member) → slice_get ms k ≡ Some m → (placement ms k).len ≡ member_len m
placed_len ms k m is = ap (λ (o : Option Member). option_map_or member_len o 0) is
