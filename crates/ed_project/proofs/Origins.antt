-- The kept pairs of a carrier's step, member by member.
use Rattle.std.proofs.Common.{◌≡◌, ℕ, zero, suc, ◌+◌, ◌-◌, ◌<◌, ◌≤◌, true, false, List, [], ◌∷◌, ◌++◌, length, map, Option, Some, None, inl, inr, refl, sym, ap, ◌∙◌, arith}
use Rattle.std.specs.Prelude.{find, nat_eq, nat_lt, option_and_then, option_map, position}
use Rattle.std.specs.List.{range_with_len}
use Rattle.std.proofs.lemmas.Bool.{cases_Bool}
use Rattle.std.proofs.lemmas.Bool.Decides.{eqb_tells, nat_tests}
use Rattle.ed_base.specs.declared.edit.Span.{Span}
use Rattle.ed_base.specs.declared.mode.SpanMode.{SpanMode}
use Rattle.ed_base.specs.declared.piece.Member.{Member}
use Rattle.ed_base.specs.Spans.{holds_place}
use Rattle.ed_base.specs.Step.{pairs_from}
use Rattle.ed_layers.specs.Records.{member_len, members_len}
use Rattle.ed_layers.specs.SourceStep.{SourceStep}
use Rattle.ed_layers.specs.CarrierStep.{Slot, is_same_slot, member_slots, slot_before}
use Rattle.ed_project.specs.declared.kept.Move.{Move}
use Rattle.ed_kept.specs.Kept.{ArePairsRising, run_pairs}
use Rattle.ed_project.specs.Kept.{bounds_of, move, shown_pairs}
use Rattle.ed_project.proofs.Showing.{shows}
use Rattle.ed_project.proofs.Placing.{slot_of, source_of, slots_are, slots_from, where_in, placed, bounds_len}

-- ---- a row of places, each by where it was

-- as far as all lie in the old bounds
row_pairs : (s : Span) (k q start len : ℕ) → s.start ≤ start → start + len ≤ s.start + s.len → pairs_from q (map (where_in s k) (range_with_len start len)) ≡ run_pairs (k + (start - s.start)) q len
row_pairs s k q start zero above below = refl
row_pairs s k q start (suc len) above below =
    let held : holds_place s start ≡ true = grind (arith, nat_tests) in
    let next : k + (start + 1 - s.start) ≡ k + (start - s.start) + 1 = omega arith in
    rw held (ap (λ zs. (k + (start - s.start), q) ∷ zs) (row_pairs s k (q + 1) (start + 1) len (omega arith) (omega arith) ∙ ap (λ x. run_pairs x (q + 1) len) next))

-- where a place of the new source was in the old projection, by the kept pairs of the source
abbrev old_in : Span → ℕ → List (ℕ × ℕ) → ℕ → Option ℕ
old_in s k ps q = option_and_then (where_in s k) (option_map (λ pair. pair.0) (find (λ pair. nat_eq pair.1 q) ps))

old_skip : (s : Span) (k : ℕ) (p : ℕ × ℕ) (ps : List (ℕ × ℕ)) (q : ℕ) → p.1 < q → old_in s k (p ∷ ps) q ≡ old_in s k ps q
old_skip s k p ps q below = let no : nat_eq p.1 q ≡ false = grind (arith, nat_tests) in rw no refl

skip_all : (s : Span) (k : ℕ) (p : ℕ × ℕ) (ps : List (ℕ × ℕ)) (start len : ℕ) → p.1 < start → map (old_in s k (p ∷ ps)) (range_with_len start len) ≡ map (old_in s k ps) (range_with_len start len)
skip_all s k p ps start zero below = refl
skip_all s k p ps start (suc len) below =
    ap (λ o. o ∷ map (old_in s k (p ∷ ps)) (range_with_len (start + 1) len)) (old_skip s k p ps start below)
    ∙ ap (λ os. old_in s k ps start ∷ os) (skip_all s k p ps (start + 1) len (omega arith))

old_none : (s : Span) (k i j n m : ℕ) (ps : List (ℕ × ℕ)) (q : ℕ) → ArePairsRising i j n m ps → q < j → old_in s k ps q ≡ None
old_none s k i j n m [] q r below = refl
old_none s k i j n m (p ∷ ps) q r below =
    let order : j ≤ p.1 = r.1 in
    let no : nat_eq p.1 q ≡ false = grind (arith, nat_tests) in
    rw no (old_none s k (p.0 + 1) (p.1 + 1) n m ps q r.2 (omega arith))

-- nothing is shown of what lies behind the new bounds
shown_past : (m : Move) (i j n k : ℕ) (ps : List (ℕ × ℕ)) → ArePairsRising i j n k ps → m.new.start + m.new.len ≤ j → shown_pairs m ps ≡ []
shown_past m i j n k [] r behind = refl
shown_past m i j n k (p ∷ ps) r behind =
    let order : j ≤ p.1 = r.1 in
    let no : shows m p.0 p.1 ≡ false = grind (arith, nat_tests) in
    rw no (shown_past m (p.0 + 1) (p.1 + 1) n k ps r.2 (omega arith))

-- The places of the new bounds from one on, where no earlier pair is left.
places_shown : (m : Move) (q i j n k start len : ℕ) (ps : List (ℕ × ℕ)) → ArePairsRising i j n k ps → start ≤ j → m.new.start ≤ start → start + len ≡ m.new.start + m.new.len → q ≡ m.to + (start - m.new.start) → pairs_from q (map (old_in m.old m.from ps) (range_with_len start len)) ≡ shown_pairs m ps
places_shown m q i j n k start zero ps r left above ends at = sym (shown_past m i j n k ps r (omega arith))
places_shown m q i j n k start (suc len) [] r left above ends at =
    places_shown m (q + 1) i (j + 1) n (k + 1) (start + 1) len [] (omega (arith, r.0), omega (arith, r.1)) (omega arith) (omega arith) (omega arith) (omega arith)
places_shown m q i j n k start (suc len) (p ∷ ps) r left above ends at =
    elim (eqb_tells p.1 start) [
      | inl same ↦
          let rest : pairs_from (q + 1) (map (old_in m.old m.from (p ∷ ps)) (range_with_len (start + 1) len)) ≡ shown_pairs m ps =
          ap (pairs_from (q + 1)) (skip_all m.old m.from p ps (start + 1) len (omega (arith, same.1))) ∙ places_shown m (q + 1) (p.0 + 1) (p.1 + 1) n k (start + 1) len ps r.2 (omega (arith, same.1)) (omega arith) (omega arith) (omega arith) in
          let held : holds_place m.new p.1 ≡ true = grind (arith, nat_tests, same.1) in
          let here : q ≡ m.to + (p.1 - m.new.start) = omega (arith, same.1) in
          elim (cases_Bool (holds_place m.old p.0)) [
            | inl t ↦
                rw (same.0, t, held) (ap (λ x. (m.from + (p.0 - m.old.start), x) ∷ pairs_from (q + 1) (map (old_in m.old m.from (p ∷ ps)) (range_with_len (start + 1) len))) here ∙ ap (λ zs. (m.from + (p.0 - m.old.start), m.to + (p.1 - m.new.start)) ∷ zs) rest)
            | inr f ↦
                rw (same.0, f) rest
          ]
      | inr other ↦
          let none : old_in m.old m.from (p ∷ ps) start ≡ None = old_none m.old m.from p.0 (start + 1) n k (p ∷ ps) start (omega arith, omega (arith, r.1, other.1), r.2) (omega arith) in
          ap (λ o. pairs_from q (o ∷ map (old_in m.old m.from (p ∷ ps)) (range_with_len (start + 1) len))) none
          ∙ places_shown m (q + 1) i (start + 1) n k (start + 1) len (p ∷ ps) (r.0, omega (arith, r.1, other.1), r.2) (omega arith) (omega arith) (omega arith) (omega arith)
    ]

-- all of the new bounds
bounds_shown : (m : Move) (i j n k : ℕ) (ps : List (ℕ × ℕ)) → ArePairsRising i j n k ps → pairs_from m.to (map (old_in m.old m.from ps) (range_with_len m.new.start m.new.len)) ≡ shown_pairs m ps
bounds_shown m i j n k [] r =
    places_shown m m.to i (j + m.new.start) n (k + m.new.start) m.new.start m.new.len [] (r.0, omega (arith, r.1)) (omega arith) (omega arith) refl (omega arith)
bounds_shown m i j n k (p ∷ ps) r =
    elim (cases_Bool (nat_lt p.1 m.new.start)) [
      | inl t ↦
          let below : p.1 < m.new.start = grind (arith, nat_tests) in
          let no : shows m p.0 p.1 ≡ false = grind (arith, nat_tests) in
          rw no (ap (pairs_from m.to) (skip_all m.old m.from p ps m.new.start m.new.len below) ∙ bounds_shown m (p.0 + 1) (p.1 + 1) n k ps r.2)
      | inr f ↦
          let above : m.new.start ≤ p.1 = grind (arith, nat_tests) in
          places_shown m m.to p.0 p.1 n k m.new.start m.new.len (p ∷ ps) (omega arith, omega arith, r.2) above (omega arith) refl (omega arith)
    ]

-- ---- one member

-- where a slot was
abbrev pub origin : (ℕ → Option ℕ) → (ℕ → Option SourceStep) → List Slot → Slot → Option ℕ
origin stays steps old slot = option_and_then (λ before. position (is_same_slot before) old) (slot_before stays steps slot)

map_slots : {Y : Type 0} (f : Slot → Y) (i : ℕ) (a : Option ℕ) (ps : List ℕ) → map f (map (slot_of i a) ps) ≡ map (λ p. f (slot_of i a p)) ps
map_slots f i a [] = refl
map_slots f i a (p ∷ ps) = ap (λ zs. f (slot_of i a p) ∷ zs) (map_slots f i a ps)

map_same : {Y : Type 0} (f g : ℕ → Y) (ps : List ℕ) → ((p : ℕ) → f p ≡ g p) → map f ps ≡ map g ps
map_same f g [] same = refl
map_same f g (p ∷ ps) same = ap (λ y. y ∷ map f ps) (same p) ∙ ap (λ ys. g p ∷ ys) (map_same f g ps same)

-- a slot of a member that was at index x, on a source that didn't step, or on none
origin_stays : (stays : ℕ → Option ℕ) (steps : ℕ → Option SourceStep) (before : List Member) (m : Member) (after : List Member) (a : Option ℕ) (y p : ℕ) → stays y ≡ Some (length before) → option_and_then steps a ≡ None → origin stays steps (slots_from 0 (before ++ m ∷ after)) (slot_of y a p) ≡ where_in (bounds_of m) (members_len before) p
origin_stays stays steps before m after None y p from still = rw from (placed before m after None p (length before) refl)
origin_stays stays steps before m after (Some source) y p from still = rw (from, still) (placed before m after (Some source) p (length before) refl)

origin_moved : (stays : ℕ → Option ℕ) (steps : ℕ → Option SourceStep) (before : List Member) (m : Member) (after : List Member) (source y p : ℕ) (s : SourceStep) → stays y ≡ Some (length before) → steps source ≡ Some s → origin stays steps (slots_from 0 (before ++ m ∷ after)) (slot_of y (Some source) p) ≡ old_in (bounds_of m) (members_len before) s.step.kept p
origin_moved stays steps before m after source y p s from stepped = rw (from, stepped) (go (find (λ pair. nat_eq pair.1 p) s.step.kept))
  where
    go : (o : Option (ℕ × ℕ)) → option_and_then (λ slot. position (is_same_slot slot) (slots_from 0 (before ++ m ∷ after))) (option_map (λ x. slot_of (length before) (Some source) x) (option_map (λ pair. pair.0) o)) ≡ option_and_then (where_in (bounds_of m) (members_len before)) (option_map (λ pair. pair.0) o)
    go None = refl
    go (Some pair) = placed before m after (Some source) pair.0 (length before) refl

-- the kept pairs of a new member
abbrev pub pairs_in : (ℕ → Option ℕ) → (ℕ → Option SourceStep) → List Member → ℕ → ℕ → Member → List (ℕ × ℕ)
pairs_in stays steps old q y m = pairs_from q (map (origin stays steps (slots_from 0 old)) (member_slots (y, m)))

slots_mapped : {Y : Type 0} (f : Slot → Y) (g : ℕ → Y) (y : ℕ) (m : Member) → ((p : ℕ) → f (slot_of y (source_of m) p) ≡ g p) → map f (member_slots (y, m)) ≡ map g (range_with_len (bounds_of m).start (bounds_of m).len)
slots_mapped f g y m same =
    ap (map f) (slots_are y m) ∙ map_slots f y (source_of m) (range_with_len (bounds_of m).start (bounds_of m).len) ∙ map_same (λ p. f (slot_of y (source_of m) p)) g (range_with_len (bounds_of m).start (bounds_of m).len) same

-- one that stays where it is in its source
pub pairs_stay : (stays : ℕ → Option ℕ) (steps : ℕ → Option SourceStep) (before : List Member) (m : Member) (after : List Member) (new : Member) (q y : ℕ) → stays y ≡ Some (length before) → option_and_then steps (source_of new) ≡ None → bounds_of new ≡ bounds_of m → pairs_in stays steps (before ++ m ∷ after) q y new ≡ run_pairs (members_len before) q (member_len new)
pairs_stay stays steps before m after new q y from still same =
    let k : ℕ = members_len before in
    let s : Span = bounds_of m in
    ap (pairs_from q) (slots_mapped (origin stays steps (slots_from 0 (before ++ m ∷ after))) (where_in s k) y new (λ p. origin_stays stays steps before m after (source_of new) y p from still))
    ∙ ap (λ (b : Span). pairs_from q (map (where_in s k) (range_with_len b.start b.len))) same
    ∙ row_pairs s k q s.start s.len (omega arith) (omega arith)
    ∙ ap (λ x. run_pairs x q s.len) (let e : k + (s.start - s.start) ≡ k = omega arith in e)
    ∙ ap (run_pairs k q) (sym (ap (λ (b : Span). b.len) same) ∙ bounds_len new)

-- one whose source stepped
pub pairs_moved : (stays : ℕ → Option ℕ) (steps : ℕ → Option SourceStep) (before : List Member) (m : Member) (after : List Member) (source : ℕ) (bounds : Span) (mode : SpanMode) (q y : ℕ) (s : SourceStep) → stays y ≡ Some (length before) → steps source ≡ Some s → ArePairsRising 0 0 s.step.old_len s.step.new_len s.step.kept → pairs_in stays steps (before ++ m ∷ after) q y (Member.Tracked source bounds mode) ≡ shown_pairs (move (bounds_of m) bounds (members_len before) q) s.step.kept
pairs_moved stays steps before m after source bounds mode q y s from stepped rising =
    ap (pairs_from q) (slots_mapped (origin stays steps (slots_from 0 (before ++ m ∷ after))) (old_in (bounds_of m) (members_len before) s.step.kept) y (Member.Tracked source bounds mode) (λ p. origin_moved stays steps before m after source y p s from stepped))
    ∙ bounds_shown (move (bounds_of m) bounds (members_len before) q) 0 0 s.step.old_len s.step.new_len s.step.kept rising

-- one that is put in anew
pub pairs_new : (stays : ℕ → Option ℕ) (steps : ℕ → Option SourceStep) (old : List Member) (m : Member) (q y : ℕ) → stays y ≡ None → pairs_in stays steps old q y m ≡ []
pairs_new stays steps old m q y gone =
    ap (pairs_from q) (slots_mapped (origin stays steps (slots_from 0 old)) (λ p. None) y m (λ p. rw gone refl)) ∙ none q (range_with_len (bounds_of m).start (bounds_of m).len)
  where
    none : (x : ℕ) (ps : List ℕ) → pairs_from x (map (λ p. None) ps) ≡ []
    none x [] = refl
    none x (p ∷ ps) = none (x + 1) ps
