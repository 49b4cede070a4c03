-- The step and the trails of a carrier's new record, read off what it shows.
use Rattle.std.proofs.Common.{◌≡◌, ℕ, zero, suc, ◌+◌, ◌-◌, ◌<◌, ◌≤◌, true, false, ◌&&◌, List, [], ◌∷◌, ◌++◌, length, map, take, drop, Option, Some, None, inl, inr, refl, sym, ap, ◌∙◌, arith, if◌then◌else◌, subst}
use Rattle.std.specs.Prelude.{nat_eq, slice_get, slice_range, option_map, option_and_then, position}
use Rattle.std.specs.Option.{option_map_or}
use Rattle.std.specs.List.{range_with_len}
use Rattle.std.proofs.lemmas.Bool.{cases_eq}
use Rattle.std.proofs.lemmas.Bool.Decides.{nat_tests}
use Rattle.ed_base.specs.declared.edit.Span.{Span}
use Rattle.ed_base.specs.declared.mode.SpanMode.{SpanMode}
use Rattle.ed_base.specs.declared.piece.Member.{Member}
use Rattle.ed_base.specs.Spans.{end_of, holds_place}
use Rattle.ed_layers.specs.Records.{members_len}
use Rattle.ed_layers.specs.SourceStep.{SourceStep, trail_at, trail_above, ends_with, without_last, kept_from}
use Rattle.ed_layers.specs.CarrierStep.{Slot, is_same_slot, member_slots, slot_before, slot_trail, all_stay}
use Rattle.ed_sending.proofs.Lists.SortedParts.{Each}
use Rattle.ed_sending.proofs.Texts.FullText.{Full, old_units}
use Rattle.ed_sending.proofs.Members.OwnPieces.{lifted}
use Rattle.ed_sending.proofs.Carriers.SlotPlaces.{slot_of, slots_from, placed}

-- the units from place to place, and the places
range_map : {X Y : Type 0} (P : X → Type 0) (f : X → Y) (g : ℕ → Y) (st len : ℕ) (xs : List X) → len ≤ length xs → Each P (take len xs) → ((d : ℕ) (x : X) → d < len → slice_get xs d ≡ Some x → P x → f x ≡ g (st + d)) → map f (take len xs) ≡ map g (range_with_len st len)
range_map P f g st zero xs below a same = refl
range_map P f g st (suc len) [] below a same = absurd (omega arith)
range_map P f g st (suc len) (x ∷ xs) below a same =
    ap (λ z. z ∷ map f (take len xs)) (same 0 x (omega arith) refl a.0 ∙ ap g (let e : st + 0 ≡ st = omega arith in e))
    ∙ ap (λ z. g st ∷ z) (range_map P f g (st + 1) len xs (omega arith) a.1 (λ d y b is p. same (suc d) y (omega arith) is p ∙ ap g (let e : st + suc d ≡ st + 1 + d = omega arith in e)))

drop_get : {X : Type 0} (xs : List X) (st d : ℕ) → slice_get (drop st xs) d ≡ slice_get xs (st + d)
drop_get xs zero d = ap (slice_get xs) (let e : d ≡ 0 + d = omega arith in e)
drop_get [] (suc st) d = refl
drop_get (x ∷ xs) (suc st) d = drop_get xs st d ∙ ap (slice_get (x ∷ xs)) (let e : suc (st + d) ≡ suc st + d = omega arith in e)

-- of a member's units, each kept one lies in its old bounds
abbrev pub LiesIn : Span → Full → Type 0
LiesIn x f = (o : ℕ) → f.0 ≡ Some o → holds_place x o ≡ true

-- where a slot was
abbrev pub origin_of_slot : (ℕ → Option SourceStep) → List Member → Slot → Option ℕ
origin_of_slot steps old slot = option_and_then (λ before. position (is_same_slot before) (slots_from 0 old)) (slot_before all_stay steps slot)

-- the step of a source tells of each new unit its old place and its trail; a source that didn't step keeps each place
abbrev pub place_told : Option SourceStep → ℕ → Option ℕ
place_told o q = option_map_or (λ s. kept_from s.step q) o (Some q)

abbrev pub trail_told : Option SourceStep → ℕ → List (ℕ × ℕ)
trail_told o q = option_map_or (λ s. trail_at s q) o []

abbrev pub Tells : Option SourceStep → List Full → Type 0
Tells o fs = (q : ℕ) (f : Full) → slice_get fs q ≡ Some f → (place_told o q ≡ f.0) × (trail_told o q ≡ f.1.1)

pub map_twice : {X Y Z : Type 0} (f : Y → Z) (g : X → Y) (xs : List X) → map f (map g xs) ≡ map (λ x. f (g x)) xs
map_twice f g [] = refl
map_twice f g (x ∷ xs) = ap (λ z. f (g x) ∷ z) (map_twice f g xs)

-- the test of a member, both ways round
pub ends_same : (carrier k : ℕ) (way : List (ℕ × ℕ)) → ends_with carrier (nat_eq k) way ≡ ends_with carrier (λ i. if false then true else nat_eq i k) way
ends_same carrier k [] = refl
ends_same carrier k (p ∷ []) = ap (λ z. nat_eq p.0 carrier && z) (turned k p.1)
  where
    turned : (a b : ℕ) → nat_eq a b ≡ nat_eq b a
    turned a b = elim (cases_eq a b) [
      | inl e ↦ (let f : nat_eq a b ≡ true = grind (arith, nat_tests) in let g : nat_eq b a ≡ true = grind (arith, nat_tests) in f ∙ sym g)
      | inr n ↦ (let f : nat_eq a b ≡ false = grind (arith, nat_tests) in let g : nat_eq b a ≡ false = grind (arith, nat_tests) in f ∙ sym g)
    ]
ends_same carrier k (p ∷ q ∷ ps) = ends_same carrier k (q ∷ ps)

module _ (carrier : ℕ) (steps : ℕ → Option SourceStep) (before : List Member) (after : List Member) where
  k : ℕ
  k = length before

  a : ℕ
  a = members_len before

  module _ (source : ℕ) (x : Span) (mode : SpanMode) (fs : List Full) (b : Span) (tells : Tells (steps source) fs) (within : b.len ≤ length (drop b.start fs)) (inside : Each (LiesIn x) (slice_range fs b.start (end_of b))) where
    old : List Member
    old = before ++ Member.Tracked source x mode ∷ after

    read : {Y : Type 0} (h : Full → Y) (g : Slot → Y) → ((q : ℕ) (f : Full) → slice_get fs q ≡ Some f → LiesIn x f → h (lifted carrier (length before) (members_len before) x f) ≡ g (slot_of (length before) (Some source) q)) → map h (map (lifted carrier (length before) (members_len before) x) (slice_range fs b.start (end_of b))) ≡ map g (member_slots (length before, Member.Tracked source b mode))
    read h g one =
        let size : b.start + b.len - b.start ≡ b.len = omega arith in
        map_twice h (lifted carrier (length before) (members_len before) x) (slice_range fs b.start (end_of b))
        ∙ ap (λ n. map (λ f. h (lifted carrier (length before) (members_len before) x f)) (take n (drop b.start fs))) size
        ∙ range_map (LiesIn x) (λ f. h (lifted carrier (length before) (members_len before) x f)) (λ q. g (slot_of (length before) (Some source) q)) b.start b.len (drop b.start fs) within (subst (λ n. Each (LiesIn x) (take n (drop b.start fs))) size inside)
        (λ d f below is lies. one (b.start + d) f (sym (drop_get fs b.start d) ∙ is) lies)
        ∙ sym (map_twice g (slot_of (length before) (Some source)) (range_with_len b.start b.len))

    -- the old places of the units that a tracked member shows
    pub member_origins : map (λ (f : Full). f.0) (map (lifted carrier (length before) (members_len before) x) (slice_range fs b.start (end_of b))) ≡ map (origin_of_slot steps (before ++ Member.Tracked source x mode ∷ after)) (member_slots (length before, Member.Tracked source b mode))
    member_origins = read (λ (f : Full). f.0) (origin_of_slot steps (before ++ Member.Tracked source x mode ∷ after)) one
      where
        at : (q : ℕ) (o : Option ℕ) → ((p : ℕ) → o ≡ Some p → holds_place x p ≡ true) → option_map (λ p. members_len before + (p - x.start)) o ≡ option_and_then (λ before'. position (is_same_slot before') (slots_from 0 (before ++ Member.Tracked source x mode ∷ after))) (option_map (λ p. slot_of (length before) (Some source) p) o)
        at q None lies = refl
        at q (Some o) lies =
            let held : holds_place x o ≡ true = lies o refl in
            sym (placed before (Member.Tracked source x mode) after (Some source) o (length before) refl ∙ (rw held refl))

        one : (q : ℕ) (f : Full) → slice_get fs q ≡ Some f → LiesIn x f → (lifted carrier (length before) (members_len before) x f).0 ≡ origin_of_slot steps (before ++ Member.Tracked source x mode ∷ after) (slot_of (length before) (Some source) q)
        one q f is lies =
            at q f.0 lies ∙ ap (λ z. option_and_then (λ before'. position (is_same_slot before') (slots_from 0 (before ++ Member.Tracked source x mode ∷ after))) (option_map (λ p. slot_of (length before) (Some source) p) z)) (sym (tells q f is).0)

    -- and their trails
    pub member_trails : map (λ (f : Full). f.1.1) (map (lifted carrier (length before) (members_len before) x) (slice_range fs b.start (end_of b))) ≡ map (slot_trail carrier false steps) (member_slots (length before, Member.Tracked source b mode))
    member_trails = read (λ (f : Full). f.1.1) (slot_trail carrier false steps) one
      where
        above : (way : List (ℕ × ℕ)) → trail_above carrier (nat_eq (length before)) way ≡ trail_above carrier (λ i. if false then true else nat_eq i (length before)) way
        above way = ap (λ z. if z then without_last way else []) (ends_same carrier (length before) way)

        told : (o : Option SourceStep) (q : ℕ) → trail_above carrier (λ i. if false then true else nat_eq i (length before)) (trail_told o q) ≡ option_map_or (λ s. trail_above carrier (λ i. if false then true else nat_eq i (length before)) (trail_at s q)) o []
        told None q = refl
        told (Some s) q = refl

        one : (q : ℕ) (f : Full) → slice_get fs q ≡ Some f → LiesIn x f → (lifted carrier (length before) (members_len before) x f).1.1 ≡ slot_trail carrier false steps (slot_of (length before) (Some source) q)
        one q f is lies = above f.1.1 ∙ ap (λ z. trail_above carrier (λ i. if false then true else nat_eq i (length before)) z) (sym (tells q f is).1) ∙ told (steps source) q

  -- the units of a literal
  literal_places : (units : List ℕ) (d : ℕ) (us : List ℕ) → d + length us ≤ length units → map (λ (f : Full). f.0) (old_units (members_len before + d) us) ≡ map (λ p. origin_of_slot steps (before ++ Member.Literal units ∷ after) (slot_of (length before) None p)) (range_with_len d (length us))
  literal_places units d [] within = refl
  literal_places units d (u ∷ us) within =
      let held : holds_place (record { start = 0; len = length units }) d ≡ true = grind (arith, nat_tests) in
      let at : origin_of_slot steps (before ++ Member.Literal units ∷ after) (slot_of (length before) None d) ≡ Some (members_len before + (d - 0)) = placed before (Member.Literal units) after None d (length before) refl ∙ (rw held refl) in
      let e : members_len before + (d - 0) ≡ members_len before + d = omega arith in
      ap (λ z. Some (members_len before + d) ∷ map (λ (f : Full). f.0) (old_units z us)) (let f : members_len before + d + 1 ≡ members_len before + (d + 1) = omega arith in f)
      ∙ ap (λ z. z ∷ map (λ (f : Full). f.0) (old_units (members_len before + (d + 1)) us)) (sym (at ∙ ap (λ z. Some z) e))
      ∙ ap (λ z. origin_of_slot steps (before ++ Member.Literal units ∷ after) (slot_of (length before) None d) ∷ z) (literal_places units (d + 1) us (omega arith))

  pub literal_origins : (units : List ℕ) → map (λ (f : Full). f.0) (old_units (members_len before) units) ≡ map (origin_of_slot steps (before ++ Member.Literal units ∷ after)) (member_slots (length before, Member.Literal units))
  literal_origins units =
      ap (λ z. map (λ (f : Full). f.0) (old_units z units)) (let e : members_len before ≡ members_len before + 0 = omega arith in e)
      ∙ literal_places units 0 units (omega arith)
      ∙ sym (map_twice (origin_of_slot steps (before ++ Member.Literal units ∷ after)) (slot_of (length before) None) (range_with_len 0 (length units)))

  pub literal_trails : (units : List ℕ) → map (λ (f : Full). f.1.1) (old_units (members_len before) units) ≡ map (slot_trail carrier false steps) (member_slots (length before, Member.Literal units))
  literal_trails units = none (members_len before) 0 units
    where
      none : (a d : ℕ) (us : List ℕ) → map (λ (f : Full). f.1.1) (old_units a us) ≡ map (slot_trail carrier false steps) (map (slot_of (length before) None) (range_with_len d (length us)))
      none a d [] = refl
      none a d (u ∷ us) = ap (λ z. [] ∷ z) (none (a + 1) (d + 1) us)
