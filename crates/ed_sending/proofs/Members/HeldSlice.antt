-- A member after a step of its source shows just what it holds, where that stands in one run.
use Rattle.std.proofs.Common.{◌≡◌, ℕ, zero, suc, ◌+◌, ◌-◌, ◌<◌, ◌≤◌, Bool, true, false, List, [], ◌∷◌, ◌++◌, length, Some, None, inl, inr, refl, sym, ap, ◌∙◌, arith, append_assoc, length-append}
use Rattle.std.specs.Prelude.{slice_get, slice_range}
use Rattle.std.proofs.lemmas.List.{append-nil}
use Rattle.std.proofs.lemmas.Bool.{cases_lt}
use Rattle.std.proofs.Math.Seq.{drop-append_seam, take-append_seam}
use Rattle.ed_base.specs.declared.edit.Span.{Span}
use Rattle.ed_base.specs.declared.mode.SpanMode.{SpanMode}
use Rattle.ed_base.specs.Spans.{end_of, span_between}
use Rattle.ed_layers.specs.Order.{is_inclusive}
use Rattle.ed_layers.specs.Bounds.{Placed, holds, held_range, empty_place, new_bounds}
use Rattle.ed_layers.specs.SourceStep.{SourceStep}
use Rattle.ed_sending.proofs.Lists.SortedParts.{Each}
use Rattle.ed_sending.proofs.Lists.LeastRange.{least_none, least_run}
use Rattle.ed_sending.proofs.Texts.FullText.{Full, IsStepTo, held_by, holds_is}

-- an element of the middle part
pub each_at : {X : Type 0} (P : X → Type 0) (as_ bs cs : List X) (q : ℕ) → Each P bs → length as_ ≤ q → q < length as_ + length bs → (x : X) × (slice_get (as_ ++ (bs ++ cs)) q ≡ Some x) × P x
each_at P [] [] cs q a above below = absurd (omega arith)
each_at P [] (b ∷ bs) cs zero a above below = (b, refl, a.0)
each_at P [] (b ∷ bs) cs (suc q) a above below = each_at P [] bs cs q a.1 (omega arith) (omega arith)
each_at P (x ∷ as_) bs cs zero a above below = absurd (omega arith)
each_at P (x ∷ as_) bs cs (suc q) a above below = each_at P as_ bs cs q a (omega arith) (omega arith)

-- the middle part is what stands from the one place to the other
pub range_middle : {X : Type 0} (as_ bs cs : List X) → slice_range (as_ ++ (bs ++ cs)) (length as_) (length as_ + length bs) ≡ bs
range_middle as_ bs cs =
    let e : length as_ + length bs - length as_ ≡ length bs = omega arith in
    rw (e, drop-append_seam as_ (bs ++ cs)) (take-append_seam bs cs)

pub range_empty : {X : Type 0} (xs : List X) (p : ℕ) → slice_range xs p (p + (p - p)) ≡ []
range_empty xs p = let e : p + (p - p) - p ≡ 0 = omega arith in rw e refl

-- the new bounds, where it holds something and where it doesn't
pub bounds_held : (carrier : ℕ) (s : SourceStep) (all : List Placed) (mode : SpanMode) (m : Placed) (r : Span) → is_inclusive mode ≡ false → held_range carrier s m ≡ Some r → new_bounds carrier s all mode m ≡ r
unfolding new_bounds
bounds_held carrier s all mode m r exclusive is = rw (exclusive, is) refl

pub bounds_none : (carrier : ℕ) (s : SourceStep) (all : List Placed) (mode : SpanMode) (m : Placed) → is_inclusive mode ≡ false → held_range carrier s m ≡ None → new_bounds carrier s all mode m ≡ span_between (empty_place carrier s all m) (empty_place carrier s all m)
unfolding new_bounds
bounds_none carrier s all mode m exclusive is = rw (exclusive, is) refl

-- Where the member holds all units of one run and no other, the slice of its new bounds is that run, and as long.
pub source_slice : (carrier i : ℕ) (s : SourceStep) (all : List Placed) (mode : SpanMode) (bounds : Span) (before zone after : List Full) → IsStepTo s (before ++ (zone ++ after)) → Each (λ f. held_by carrier i bounds f ≡ false) before → Each (λ f. held_by carrier i bounds f ≡ true) zone → Each (λ f. held_by carrier i bounds f ≡ false) after → is_inclusive mode ≡ false → (slice_range (before ++ (zone ++ after)) (new_bounds carrier s all mode (record { index = i; bounds = bounds })).start (end_of (new_bounds carrier s all mode (record { index = i; bounds = bounds }))) ≡ zone) × ((new_bounds carrier s all mode (record { index = i; bounds = bounds })).len ≡ length zone)
source_slice carrier i s all mode bounds before zone after step none_before whole none_after exclusive = by_zone zone refl
  where
    m : Placed
    m = record { index = i; bounds = bounds }

    test : ℕ → Bool
    test q = holds carrier s m q

    fs : List Full
    fs = before ++ (zone ++ after)

    in_before : (q : ℕ) → q < length before → test q ≡ false
    in_before q below = let x : (f : Full) × (slice_get fs q ≡ Some f) × (held_by carrier i bounds f ≡ false) = each_at (λ f. held_by carrier i bounds f ≡ false) [] before (zone ++ after) q none_before (omega arith) (omega arith) in holds_is carrier s m fs q x.0 step x.1 ∙ x.2

    in_zone : (q : ℕ) → length before ≤ q → q < length before + length zone → test q ≡ true
    in_zone q above below = let x : (f : Full) × (slice_get fs q ≡ Some f) × (held_by carrier i bounds f ≡ true) = each_at (λ f. held_by carrier i bounds f ≡ true) before zone after q whole above below in holds_is carrier s m fs q x.0 step x.1 ∙ x.2

    in_after : (q : ℕ) → length before + length zone ≤ q → q < s.step.new_len → test q ≡ false
    in_after q above below =
        let total : length fs ≡ length before + (length zone + length after) = length-append before (zone ++ after) ∙ ap (λ n. length before + n) (length-append zone after) in
        let e : (before ++ zone) ++ (after ++ []) ≡ fs = ap (λ z. (before ++ zone) ++ z) (append-nil after) ∙ append_assoc before zone after in
        let x : (f : Full) × (slice_get ((before ++ zone) ++ (after ++ [])) q ≡ Some f) × (held_by carrier i bounds f ≡ false) =
        each_at (λ f. held_by carrier i bounds f ≡ false) (before ++ zone) after [] q none_after (omega (arith, length-append before zone)) (omega (arith, length-append before zone, total, step.new_len)) in
        holds_is carrier s m fs q x.0 step (ap (λ z. slice_get z q) (sym e) ∙ x.1) ∙ x.2

    by_zone : (z : List Full) → z ≡ zone → (slice_range fs (new_bounds carrier s all mode m).start (end_of (new_bounds carrier s all mode m)) ≡ zone) × ((new_bounds carrier s all mode m).len ≡ length zone)
    by_zone [] is =
        let empty : length zone ≡ 0 = ap (λ (z : List Full). length z) (sym is) in
        let none : held_range carrier s m ≡ None = least_none test s.step.new_len (λ q below. elim (cases_lt q (length before)) [
          | inl b ↦ in_before q b
          | inr a ↦ in_after q (omega arith) below
        ]) in
        let p : ℕ = empty_place carrier s all m in (
          ap (λ (b : Span). slice_range fs b.start (end_of b)) (bounds_none carrier s all mode m exclusive none) ∙ range_empty fs p ∙ is,
          ap (λ (b : Span). b.len) (bounds_none carrier s all mode m exclusive none) ∙ (let e : p - p ≡ 0 = omega arith in e) ∙ sym empty,
        )
    by_zone (f ∷ more) is =
        let some : length zone ≡ suc (length more) = ap (λ (z : List Full). length z) (sym is) in
        let total : length fs ≡ length before + (length zone + length after) = length-append before (zone ++ after) ∙ ap (λ n. length before + n) (length-append zone after) in
        let range : held_range carrier s m ≡ Some (record { start = length before; len = length zone }) =
        least_run test s.step.new_len (length before) (length zone) (omega arith) (omega (arith, step.new_len)) in_before in_zone in_after in (
          ap (λ (b : Span). slice_range fs b.start (end_of b)) (bounds_held carrier s all mode m (record { start = length before; len = length zone }) exclusive range) ∙ range_middle before zone after,
          ap (λ (b : Span). b.len) (bounds_held carrier s all mode m (record { start = length before; len = length zone }) exclusive range),
        )
