-- An elision buffer: its members are the shown runs; what is kept or its own stands there in the order of what arrived.
use Rattle.std.proofs.Common.{◌≡◌, ℕ, zero, suc, ◌+◌, ◌-◌, ◌<◌, ◌≤◌, true, false, List, [], ◌∷◌, length, map, take, Option, Some, None, inl, inr, refl, ap, ◌∙◌, arith, subst}
use Rattle.std.specs.Prelude.{slice_get, sum_by}
use Rattle.std.specs.List.{range_with_len, position_from}
use Rattle.std.proofs.lemmas.Bool.{cases_lt}
use Rattle.std.proofs.lemmas.Bool.Decides.{nat_tests}
use Rattle.std.proofs.lemmas.List.{map-append}
use Rattle.std.proofs.lemmas.List.FromFn.{length-range_with_len}
use Rattle.std.proofs.lemmas.List.{length-map}
use Rattle.std.proofs.lemmas.List.Sums.{sum_by-cons}
use Rattle.ed_base.specs.declared.edit.Span.{Span}
use Rattle.ed_base.specs.declared.mode.SpanMode.{SpanMode}
use Rattle.ed_base.specs.declared.piece.Member.{Member}
use Rattle.ed_base.specs.Numbers.{or_else}
use Rattle.ed_base.specs.Spans.{end_of, holds_place}
use Rattle.ed_layers.specs.CarrierStep.{is_same_slot}
use Rattle.ed_layers.specs.Records.{tracked}
use Rattle.ed_sending.proofs.Lists.SortedParts.{each_got}
use Rattle.ed_sending.proofs.Texts.GapOrder.{Stands}
use Rattle.ed_sending.proofs.Carriers.SlotPlaces.{slot_of, where_in, from_append, own_slots}
use Rattle.ed_risen.proofs.ShownRuns.{behind_in_order}
use Rattle.ed_risen.proofs.Runs.{AreInLine, places_of}
use Rattle.ed_sending.specs.Ready.{AreApart}

-- ---- spans as members

pub get_tracked : (source k : ℕ) (xs : List Span) (b : ℕ) (x : Span) (mode : SpanMode) → slice_get (map (tracked source) xs) k ≡ Some (Member.Tracked b x mode) → (slice_get xs k ≡ Some x) × (b ≡ source) × (mode ≡ SpanMode.EdgeExclusive)
get_tracked source k [] b x mode is = absurd (let e : None ≡ Some (Member.Tracked b x mode) = is in cc)
get_tracked source zero (y ∷ ys) b x mode is =
    let e : Some (Member.Tracked source y SpanMode.EdgeExclusive) ≡ Some (Member.Tracked b x mode) = is in
    (let f : y ≡ x = cc in ap Some f, (let f : b ≡ source = cc in f), (let f : mode ≡ SpanMode.EdgeExclusive = cc in f))
get_tracked source (suc k) (y ∷ ys) b x mode is = get_tracked source k ys b x mode is

apart_at : (xs : List Span) → AreInLine xs → (h i : ℕ) (w x : Span) → h < i → slice_get xs h ≡ Some w → slice_get xs i ≡ Some x → end_of w ≤ x.start
apart_at [] a h i w x less at bt = absurd (let e : None ≡ Some w = at in cc)
apart_at (y ∷ ys) a h zero w x less at bt = absurd (omega arith)
apart_at (y ∷ ys) a zero (suc i) w x less at bt = (let e : y ≡ w = cc in subst (λ (z : Span). end_of z ≤ x.start) e (each_got (λ (z : Span). end_of y ≤ z.start) ys i x a.0 bt))
apart_at (y ∷ ys) a (suc h) (suc i) w x less at bt = apart_at ys a.1 h i w x (omega arith) at bt

-- in line
pub spans_line : (xs : List Span) → AreInLine xs → (source b h i : ℕ) (w x : Span) (mode mode' : SpanMode) → h < i → slice_get (map (tracked source) xs) h ≡ Some (Member.Tracked b w mode) → slice_get (map (tracked source) xs) i ≡ Some (Member.Tracked b x mode') → Stands h w i x × (end_of w ≤ x.start)
spans_line xs a source b h i w x mode mode' less at bt =
    let l : end_of w ≤ x.start = apart_at xs a h i w x less (get_tracked source h xs b w mode at).0 (get_tracked source i xs b x mode' bt).0 in
    (record { starts = omega arith; lens = λ e. (omega arith); indices = λ e f. less }, l)

pub spans_apart : (xs : List Span) → AreInLine xs → (source b : ℕ) → AreApart (map (tracked source) xs) b
spans_apart xs a source b i j x y mode mode' other at bt =
    let x_there : slice_get xs i ≡ Some x = (get_tracked source i xs b x mode at).0 in
    let y_there : slice_get xs j ≡ Some y = (get_tracked source j xs b y mode' bt).0 in
    elim (cases_lt i j) [
      | inl less ↦ (behind_in_order i j x y less (apart_at xs a i j x y less x_there y_there)).0
      | inr more ↦ (let less : j < i = omega (arith, other) in (behind_in_order j i y x less (apart_at xs a j i y x less y_there x_there)).1)
    ]

-- ---- ranks

-- A place of a run, among the places of all.
pub rank_from : (a : Option ℕ) (source k : ℕ) (xs : List Span) → AreInLine xs → (i : ℕ) (x : Span) (o : ℕ) → slice_get xs i ≡ Some x → holds_place x o ≡ true → position_from (is_same_slot (slot_of 0 a o)) k (map (slot_of 0 (Some source)) (places_of xs)) ≡ Some (k + sum_by (λ (z : Span). z.len) (take i xs) + (o - x.start))
rank_from a source k [] apart i x o is held = absurd (let e : None ≡ Some x = is in cc)
rank_from a source k (y ∷ ys) apart zero x o is held =
    let same : y ≡ x = cc in
    let here : holds_place y o ≡ true = ap (λ z. holds_place z o) same ∙ held in
    let found : where_in y k o ≡ Some (k + (o - y.start)) = rw here refl in
    ap (position_from (is_same_slot (slot_of 0 a o)) k) (map-append (slot_of 0 (Some source)) (range_with_len y.start y.len) (places_of ys))
    ∙ from_append (is_same_slot (slot_of 0 a o)) k (map (slot_of 0 (Some source)) (range_with_len y.start y.len)) (map (slot_of 0 (Some source)) (places_of ys))
    ∙ ap (λ z. or_else z (position_from (is_same_slot (slot_of 0 a o)) (k + length (map (slot_of 0 (Some source)) (range_with_len y.start y.len))) (map (slot_of 0 (Some source)) (places_of ys)))) (own_slots 0 a (Some source) k y.start y.len o ∙ found)
    ∙ ap (λ n. Some (k + (o - n))) (ap (λ (z : Span). z.start) same) ∙ ap Some (let e : k + (o - x.start) ≡ k + 0 + (o - x.start) = omega arith in e)
rank_from a source k (y ∷ ys) apart (suc i) x o is held =
    let l : end_of y ≤ x.start = each_got (λ (z : Span). end_of y ≤ z.start) ys i x apart.0 is in
    let out : holds_place y o ≡ false = grind (arith, nat_tests) in
    let none : where_in y k o ≡ None = rw out refl in
    let size : length (map (slot_of 0 (Some source)) (range_with_len y.start y.len)) ≡ y.len = length-map (range_with_len y.start y.len) (slot_of 0 (Some source)) ∙ length-range_with_len y.start y.len in
    ap (position_from (is_same_slot (slot_of 0 a o)) k) (map-append (slot_of 0 (Some source)) (range_with_len y.start y.len) (places_of ys))
    ∙ from_append (is_same_slot (slot_of 0 a o)) k (map (slot_of 0 (Some source)) (range_with_len y.start y.len)) (map (slot_of 0 (Some source)) (places_of ys))
    ∙ ap (λ z. or_else z (position_from (is_same_slot (slot_of 0 a o)) (k + length (map (slot_of 0 (Some source)) (range_with_len y.start y.len))) (map (slot_of 0 (Some source)) (places_of ys)))) (own_slots 0 a (Some source) k y.start y.len o ∙ none)
    ∙ ap (λ n. position_from (is_same_slot (slot_of 0 a o)) (k + n) (map (slot_of 0 (Some source)) (places_of ys))) size
    ∙ rank_from a source (k + y.len) ys apart.1 i x o is held
    ∙ ap Some (let e : k + y.len + sum_by (λ (z : Span). z.len) (take i ys) + (o - x.start) ≡ k + sum_by (λ (z : Span). z.len) (take (suc i) (y ∷ ys)) + (o - x.start) = omega (arith, sum_by-cons (λ (z : Span). z.len) y (take i ys)) in e)
