-- New bounds lie within the new text.
use Rattle.std.proofs.Common.{◌≡◌, ℕ, ◌+◌, ◌-◌, ◌<◌, ◌≤◌, Bool, false, List, length, get_or, Option, Some, None, refl, sym, subst, ◌∙◌, arith, inl, inr}
use Rattle.std.specs.Prelude.{slice_get, min, unwrap_or, MatchOption}
use Rattle.std.specs.Option.{option_map_or}
use Rattle.std.specs.List.{All, enumerate_from}
use Rattle.std.proofs.lemmas.Bool.{cases_Bool}
use Rattle.std.proofs.lemmas.List.Elements.{All-map}
use Rattle.ed_base.specs.declared.edit.Span.{Span}
use Rattle.ed_base.specs.declared.mode.SpanMode.{SpanMode}
use Rattle.ed_base.specs.declared.piece.Member.{Member}
use Rattle.ed_base.specs.Runs.{least_range}
use Rattle.ed_base.specs.Spans.{end_of, span_between}
use Rattle.ed_base.specs.Tracking.{positive_edge}
use Rattle.ed_layers.specs.Bounds.{Placed, empty_place, holds, held_range, member_after, members_after, new_bounds, next_start, placed_on}
use Rattle.ed_layers.specs.Order.{is_inclusive}
use Rattle.ed_layers.specs.SourceStep.{SourceStep}
use Rattle.ed_members.specs.declared.held.Held.{Held}
use Rattle.ed_members.specs.declared.steps.SourceStep as given
use Rattle.ed_members.specs.Advance.{IsSound, held_span}
use Rattle.ed_members.specs.Moving.{EndsInNew}
use Rattle.ed_members.specs.Steps.{steps_seen}
use Rattle.ed_members.proofs.Keeping.{PositiveEdge, positive_is, StepOf, steps_one}
use Rattle.ed_members.proofs.Pairs.{Rises, step_rises}
use Rattle.ed_members.proofs.Ranges.{IsRange, Ranges, range_exists, range_is_least}

-- the kept pairs of each step rise
abbrev pub AllRise : (ℕ → Option SourceStep) → Type 0
AllRise steps = (source : ℕ) (s : SourceStep) → steps source ≡ Some s → Rises 0 0 s.step.new_len s.step.kept

pub all_rise : (steps : List given.SourceStep) → ((t : ℕ) (s : given.SourceStep) → t < length steps → slice_get steps t ≡ Some s → IsSound s) → AllRise (steps_seen steps)
all_rise steps sound = λ source s is.
    let st : StepOf 0 0 source 0 None steps s = steps_one 0 0 source 0 None steps s is in
    subst (λ (x : SourceStep). Rises 0 0 x.step.new_len x.step.kept) (sym st.seen) (step_rises st.given.changes (sound st.at st.given st.below st.here).normal)

-- what a least range is
pub least_is : (f : ℕ → Bool) (n : ℕ) (r : Span) → least_range f n ≡ Some r → Ranges f n r.start (end_of r)
least_is f n r is = by_range (range_exists f n).0 (range_exists f n).1
  where
    by_range : (o : Option Held) → IsRange f n o → Ranges f n r.start (end_of r)
    by_range None none = absurd (let e : None ≡ Some r = range_is_least f n None none ∙ is in cc)
    by_range (Some h) ranges =
        let some : h.start < h.end = ranges.some in
        let e : Some (held_span h) ≡ Some r = range_is_least f n (Some h) ranges ∙ is in
        let same : held_span h ≡ r = cc in
        subst (λ (x : Span). Ranges f n x.start (end_of x)) same (subst (λ (q : ℕ). Ranges f n h.start q) (let b : h.end ≡ h.start + (h.end - h.start) = omega arith in b) ranges)

pub none_is : (f : ℕ → Bool) (n : ℕ) → least_range f n ≡ None → (q : ℕ) → q < n → f q ≡ false
none_is f n is = by_range (range_exists f n).0 (range_exists f n).1
  where
    by_range : (o : Option Held) → IsRange f n o → (q : ℕ) → q < n → f q ≡ false
    by_range None none = none
    by_range (Some h) ranges = absurd (let e : Some (held_span h) ≡ None = range_is_least f n (Some h) ranges ∙ is in cc)

pub empty_below : (carrier : ℕ) (s : SourceStep) (all : List Placed) (m : Placed) → empty_place carrier s all m ≤ positive_edge s.step m.bounds.start
empty_below carrier s all m = by_next (next_start carrier s all m)
  where
    by_next : (o : Option ℕ) → option_map_or (min (positive_edge s.step m.bounds.start)) o (positive_edge s.step m.bounds.start) ≤ positive_edge s.step m.bounds.start
    by_next None = omega arith
    by_next (Some x) = omega arith

bounds_within : (carrier : ℕ) (s : SourceStep) (all : List Placed) (mode : SpanMode) (m : Placed) → Rises 0 0 s.step.new_len s.step.kept → end_of (new_bounds carrier s all mode m) ≤ s.step.new_len
unfolding new_bounds
bounds_within carrier s all mode m rises = elim (cases_Bool (is_inclusive mode)) [
  | inl t ↦ rw t (omega arith)
  | inr f ↦ rw f (by_held (held_range carrier s m) refl)
]
  where
    by_held : (o : Option Span) → held_range carrier s m ≡ o → end_of (unwrap_or o (span_between (empty_place carrier s all m) (empty_place carrier s all m))) ≤ s.step.new_len
    by_held None is =
        let pos : PositiveEdge s.step m.bounds.start (positive_edge s.step m.bounds.start) = positive_is s.step m.bounds.start rises in
        omega (arith, empty_below carrier s all m, pos.within)
    by_held (Some r) is = (least_is (holds carrier s m) s.step.new_len r is).within

after_one : (me : ℕ) (steps : ℕ → Option SourceStep) (ms : List Member) → AllRise steps → (im : ℕ × Member) → EndsInNew steps (member_after me steps ms im)
after_one me steps ms rise (i, Member.Literal u) = tt
after_one me steps ms rise (i, Member.Tracked source bounds mode) = by_step (steps source) refl
  where
    by_step : (o : Option SourceStep) → steps source ≡ o → MatchOption o (Unit {0}) (λ (s : SourceStep). end_of (option_map_or (λ (s : SourceStep). new_bounds me s (placed_on source (enumerate_from 0 ms)) mode (record { index = i; bounds = bounds })) o bounds) ≤ s.step.new_len)
    by_step None is = tt
    by_step (Some s) is = bounds_within me s (placed_on source (enumerate_from 0 ms)) mode (record { index = i; bounds = bounds }) (rise source s is)

pub after_within : (me : ℕ) (steps : ℕ → Option SourceStep) (ms : List Member) → AllRise steps → All (EndsInNew steps) (members_after me steps ms)
after_within me steps ms rise = All-map (EndsInNew steps) (member_after me steps ms) (enumerate_from 0 ms) (λ k d l. after_one me steps ms rise (get_or (enumerate_from 0 ms) k d))
