-- How long what a carrier shows is.
use Rattle.std.proofs.Common.{◌≡◌, ℕ, zero, suc, ◌+◌, ◌-◌, ◌≤◌, Bool, true, false, List, [], ◌∷◌, ◌++◌, length, map, Option, Some, None, refl, sym, ◌∙◌, ap, arith, length-append, drop}
use Rattle.std.specs.Prelude.{flat_map, slice_range, slice_get, unwrap_or, nat_eq, if◌then◌else◌, option_and_then}
use Rattle.std.specs.List.{AllByRecursion as Each, enumerate_from, range_with_len}
use Rattle.std.proofs.lemmas.List.{length-take, length-drop, length-map}
use Rattle.std.proofs.lemmas.List.FromFn.{length-range_with_len}
use Rattle.std.proofs.lemmas.List.Sums.{sum_by-cons}
use Rattle.ed_base.specs.declared.Member.{Member}
use Rattle.ed_base.specs.Numbers.{places}
use Rattle.ed_base.specs.Spans.{end_of}
use Rattle.ed_layers.specs.Records.{Record, projection, member_len, members_len}
use Rattle.ed_layers.specs.SourceStep.{SourceStep, trail_at}
use Rattle.ed_layers.specs.CarrierStep.{Slot, member_slots, slots, slot_trail, record_trails}
use Rattle.ed_stock.specs.Versions.{step_in}
use Rattle.ed_risen.specs.Rising.{plain}
use Rattle.ed_layers.specs.Texts.{member_text, text_over}

-- ---- slots

length_slots_of : (i : ℕ) (m : Member) → length (member_slots (i, m)) ≡ member_len m
length_slots_of i (Member.Literal units) = length-map (places (length units)) _ ∙ length-range_with_len 0 (length units)
length_slots_of i (Member.Tracked source bounds mode) = length-map (range_with_len bounds.start bounds.len) _ ∙ length-range_with_len bounds.start bounds.len

length_slots_from : (i : ℕ) (ms : List Member) → length (flat_map member_slots (enumerate_from i ms)) ≡ members_len ms
length_slots_from i [] = refl
length_slots_from i (m ∷ ms) =
    omega (arith, length-append (member_slots (i, m)) (flat_map member_slots (enumerate_from (i + 1) ms)), length_slots_of i m, length_slots_from (i + 1) ms, sum_by-cons member_len m ms)

pub length_slots : (ms : List Member) (sources : List (ℕ × ℕ)) → length (slots (projection ms sources)) ≡ members_len ms
length_slots ms sources = length_slots_from 0 ms

-- ---- texts

-- the bounds of a member end in the text of its source
abbrev pub Fits : (ℕ → List ℕ) → Member → Type 0
Fits source_text (Member.Literal units) = Unit {0}
Fits source_text (Member.Tracked source bounds mode) = end_of bounds ≤ length (source_text source)

length_range : (xs : List ℕ) (start len : ℕ) → start + len ≤ length xs → length (slice_range xs start (start + len)) ≡ len
length_range xs start len h = omega (arith, length-take (start + len - start) (drop start xs), length-drop start xs)

length_member : (f : ℕ → List ℕ) (m : Member) → Fits f m → length (member_text f m) ≡ member_len m
length_member f (Member.Literal units) h = refl
length_member f (Member.Tracked source bounds mode) h = length_range (f source) bounds.start bounds.len h

pub length_text_over : (f : ℕ → List ℕ) (ms : List Member) → Each (Fits f) ms → length (text_over f ms) ≡ members_len ms
length_text_over f [] h = refl
length_text_over f (m ∷ ms) h = omega (arith, length-append (member_text f m) (text_over f ms), length_member f m h.0, length_text_over f ms h.1, sum_by-cons member_len m ms)

-- ---- trails

-- all steps are without trails
abbrev pub ArePlain : (ℕ → Option SourceStep) → Type 0
ArePlain steps = (b : ℕ) (m : SourceStep) → steps b ≡ Some m → m ≡ plain m.step

none_at : (xs : List ℕ) (q : ℕ) → unwrap_or (slice_get (map {B = List (ℕ × ℕ)} (λ x. []) xs) q) [] ≡ []
none_at [] q = refl
none_at (x ∷ xs) zero = refl
none_at (x ∷ xs) (suc q) = none_at xs q

pub no_trail : (m : SourceStep) → m ≡ plain m.step → (q : ℕ) → trail_at m q ≡ []
no_trail m is q = ap (λ x. trail_at x q) is ∙ none_at (places m.step.new_len) q

module _ (carrier : ℕ) (steps : ℕ → Option SourceStep) (all : ArePlain steps) where
  trail_by : (of_elision : Bool) (slot : Slot) (o : Option ℕ) (p : Option SourceStep) → slot.source ≡ o → option_and_then steps o ≡ p → slot_trail carrier of_elision steps slot ≡ []
  trail_by of_elision slot None p is q = rw is refl
  trail_by of_elision slot (Some source) None is q = rw (is, q) refl
  trail_by of_elision slot (Some source) (Some m) is q = rw (is, q, no_trail m (all source m q) slot.place) refl

  trails_of : (of_elision : Bool) (ss : List Slot) → map (slot_trail carrier of_elision steps) ss ≡ map (λ q. []) ss
  trails_of of_elision [] = refl
  trails_of of_elision (x ∷ xs) = rw (trail_by of_elision x x.source (option_and_then steps x.source) refl refl, trails_of of_elision xs) refl

  pub plain_trails : (of_elision : Bool) (r : Record) (n : ℕ) → length (slots r) ≡ n → record_trails carrier of_elision steps r ≡ map (λ q. []) (places n)
  plain_trails of_elision r n is = trails_of of_elision (slots r) ∙ same_length (slots r) (places n) (is ∙ sym (length-range_with_len 0 n))
    where
      same_length : {X Y : Type 0} (xs : List X) (ys : List Y) → length xs ≡ length ys → map {B = List (ℕ × ℕ)} (λ x. []) xs ≡ map (λ y. []) ys
      same_length [] [] h = refl
      same_length [] (y ∷ ys) h = absurd (omega arith)
      same_length (x ∷ xs) [] h = absurd (omega arith)
      same_length (x ∷ xs) (y ∷ ys) h = ap (λ zs. [] ∷ zs) (same_length xs ys (omega arith))

-- ---- one step more

pub step_in_old : (ms : List (ℕ × SourceStep)) (b c : ℕ) (x m : SourceStep) → step_in ms c ≡ Some m → step_in (ms ++ (b, x) ∷ []) c ≡ Some m
step_in_old [] b c x m h = absurd (cc)
step_in_old (n ∷ ns) b c x m h = by (nat_eq n.0 c) refl h (step_in_old ns b c x m)
  where
    by : (t : Bool) → nat_eq n.0 c ≡ t → (if t then Some n.1 else step_in ns c) ≡ Some m → (step_in ns c ≡ Some m → step_in (ns ++ (b, x) ∷ []) c ≡ Some m) → step_in ((n ∷ ns) ++ (b, x) ∷ []) c ≡ Some m
    by true t h more = rw t h
    by false t h more = rw t (more h)

pub step_in_push : (ms : List (ℕ × SourceStep)) (b c : ℕ) (x : SourceStep) → step_in ms c ≡ None → step_in (ms ++ (b, x) ∷ []) c ≡ (if nat_eq b c then Some x else None)
step_in_push [] b c x h = refl
step_in_push (n ∷ ns) b c x h = by (nat_eq n.0 c) refl h (step_in_push ns b c x)
  where
    by : (t : Bool) → nat_eq n.0 c ≡ t → (if t then Some n.1 else step_in ns c) ≡ None → (step_in ns c ≡ None → step_in (ns ++ (b, x) ∷ []) c ≡ (if nat_eq b c then Some x else None)) → step_in ((n ∷ ns) ++ (b, x) ∷ []) c ≡ (if nat_eq b c then Some x else None)
    by true t h more = absurd (cc)
    by false t h more = rw t (more h)
