-- Literals stand in the text of a projection where they lie, and stay there.
use Rattle.std.proofs.Common.{◌≡◌, ℕ, zero, suc, ◌+◌, ◌-◌, ◌<◌, ◌≤◌, true, false, List, [], ◌∷◌, ◌++◌, length, take, drop, Option, Some, None, inl, inr, refl, sym, ap, subst, ◌∙◌, arith, append_assoc, length-append}
use Rattle.std.specs.Prelude.{All, MatchOption, slice_get, slice_range, unwrap_or, nat_lt, nat_le}
use Rattle.std.specs.Option.{option_map_or}
use Rattle.std.proofs.lemmas.Bool.Decides.{nat_tests}
use Rattle.std.proofs.lemmas.Bool.{cases_lt}
use Rattle.std.proofs.lemmas.List.{length-take, length-drop}
use Rattle.std.proofs.Math.Seq.{drop-append-add, take-append_seam}
use Rattle.std.proofs.lemmas.List.Sums.{sum_by-cons}
use Rattle.ed_base.specs.declared.piece.Member.{Member}
use Rattle.ed_base.specs.Spans.{end_of}
use Rattle.ed_layers.specs.CarrierStep.{stay_around}
use Rattle.ed_layers.specs.Records.{member_len, members_len, placement}
use Rattle.ed_layers.specs.SourceStep.{SourceStep}
use Rattle.ed_members.specs.Faults.{replaced}
use Rattle.ed_version.specs.declared.snapshot.Snapshot.{Snapshot}
use Rattle.ed_project.specs.declared.shown.Shown.{Shown}
use Rattle.ed_project.specs.Kept.{AllBecome, Becomes}
use Rattle.ed_project.specs.Records.{HasLiterals}
use Rattle.ed_project.specs.Texts.{HasSource, LiteralsStay, StaysAt, found_text, member_text, no_steps, text_in, text_over}
use Rattle.ed_kept.proofs.Components.{length_part}
use Rattle.ed_project.proofs.Walking.{all_get}

-- ---- the part of a text that a member shows

range_first : (xs ys : List ℕ) (n : ℕ) → length xs ≡ n → slice_range (xs ++ ys) 0 (0 + n) ≡ xs
range_first xs ys n len = let e : 0 + n - 0 ≡ length xs = omega arith in ap (λ k. take k (xs ++ ys)) e ∙ take-append_seam xs ys

range_past : (xs ys : List ℕ) (a n : ℕ) → slice_range (xs ++ ys) (length xs + a) (length xs + a + n) ≡ slice_range ys a (a + n)
range_past xs ys a n =
    let e : length xs + a + n - (length xs + a) ≡ a + n - a = omega arith in
    ap (λ k. take k (drop (length xs + a) (xs ++ ys))) e ∙ ap (take (a + n - a)) (drop-append-add xs ys a)

-- each member shows as many units as it has
abbrev pub AreWhole : (ℕ → List ℕ) → List Member → Type 0
AreWhole f ms = (k : ℕ) (m : Member) → slice_get ms k ≡ Some m → length (member_text f m) ≡ member_len m

part_at : (f : ℕ → List ℕ) (ms : List Member) → AreWhole f ms → (i : ℕ) (m : Member) → slice_get ms i ≡ Some m → slice_range (text_over f ms) (members_len (take i ms)) (members_len (take i ms) + member_len m) ≡ member_text f m
part_at f [] whole i m is = absurd (let impossible : ⊥ = cc in impossible)
part_at f (n ∷ ms) whole zero m is =
    let same : n ≡ m = cc in
    ap (λ x. slice_range (member_text f x ++ text_over f ms) 0 (0 + member_len m)) same ∙ range_first (member_text f m) (text_over f ms) (member_len m) (whole zero m is)
part_at f (n ∷ ms) whole (suc i) m is =
    let len : length (member_text f n) ≡ member_len n = whole zero n refl in
    let e : members_len (take (suc i) (n ∷ ms)) ≡ length (member_text f n) + members_len (take i ms) = omega (arith, sum_by-cons member_len n (take i ms)) in
    ap (λ a. slice_range (text_over f (n ∷ ms)) a (a + member_len m)) e
    ∙ range_past (member_text f n) (text_over f ms) (members_len (take i ms)) (member_len m)
    ∙ part_at f ms (λ k x h. whole (suc k) x h) i m is

member_whole : (snapshots : List Snapshot) (m : Member) → HasSource no_steps snapshots m → length (member_text (text_in snapshots) m) ≡ member_len m
member_whole snapshots (Member.Literal units) has = refl
member_whole snapshots (Member.Tracked source bounds mode) has = by (found_text snapshots source) has
  where
    by : (o : Option (List ℕ)) → MatchOption o ⊥ (λ t. end_of bounds ≤ length t) → length (slice_range (unwrap_or o []) bounds.start (end_of bounds)) ≡ bounds.len
    by None h = absurd h
    by (Some t) h = length_part t bounds.start (end_of bounds) (omega arith) h ∙ omega arith

pub has_literals : (snapshots : List Snapshot) (ms : List Member) (text : List ℕ) → All (HasSource no_steps snapshots) ms → text ≡ text_over (text_in snapshots) ms → HasLiterals ms text
has_literals snapshots ms text has is = λ i units at.
    let start : ℕ = members_len (take i ms) in
    ap (λ t. slice_range t start (end_of (placement ms i))) is
    ∙ ap (λ o. slice_range (text_over (text_in snapshots) ms) start (start + option_map_or member_len o 0)) at
    ∙ part_at (text_in snapshots) ms (λ k m h. member_whole snapshots m (all_get (HasSource no_steps snapshots) ms has k m h)) i (Member.Literal units) at

-- ---- literals that stay

stays_at : (ms : List Member) (i : ℕ) (m : Member) → slice_get ms i ≡ Some m → StaysAt (Some i) ms m
stays_at ms i (Member.Literal units) is = is
stays_at ms i (Member.Tracked source bounds mode) is = tt

stay_all : (k : ℕ) → stay_around 0 0 0 k ≡ Some k
stay_all k =
    let f : nat_lt k 0 ≡ false = grind (arith, nat_tests) in
    let t : nat_le 0 k ≡ true = grind (arith, nat_tests) in
    let e : k - 0 + 0 ≡ k = omega arith in
    rw (f, t, e) refl

becomes_at : (steps : ℕ → Option SourceStep) (o n : Member) (os : List Member) → Becomes steps o n → StaysAt (Some 0) (o ∷ os) n
becomes_at steps (Member.Literal units) (Member.Literal units') os same = ap (λ us. Some (Member.Literal us)) same
becomes_at steps (Member.Tracked source bounds mode) (Member.Literal units') os become = absurd become
becomes_at steps o (Member.Tracked source bounds mode) os become = tt

later_at : (k : ℕ) (o m : Member) (os : List Member) → StaysAt (Some k) os m → StaysAt (Some (suc k)) (o ∷ os) m
later_at k o (Member.Literal units) os stays = stays
later_at k o (Member.Tracked source bounds mode) os stays = tt

become_at : (steps : ℕ → Option SourceStep) (os ns : List Member) → AllBecome steps os ns → (k : ℕ) (m : Member) → slice_get ns k ≡ Some m → StaysAt (Some k) os m
become_at steps [] [] become k m is = absurd (let impossible : ⊥ = cc in impossible)
become_at steps [] (n ∷ ns) become k m is = absurd become
become_at steps (o ∷ os) [] become k m is = absurd become
become_at steps (o ∷ os) (n ∷ ns) become zero m is = let same : n ≡ m = cc in subst (StaysAt (Some 0) (o ∷ os)) same (becomes_at steps o n os become.0)
become_at steps (o ∷ os) (n ∷ ns) become (suc k) m is = later_at k o m os (become_at steps os ns become.1 k m is)

pub literals_become : (steps : ℕ → Option SourceStep) (os ns : List Member) → AllBecome steps os ns → LiteralsStay (stay_around 0 0 0) os ns
literals_become steps os ns become = λ k m is. subst (λ o. StaysAt o os m) (sym (stay_all k)) (become_at steps os ns become k m is)

-- a literal among those that stay, where there is an old version
pub stays_here : (o : Option Shown) (stays : ℕ → Option ℕ) (ms : List Member) (i : ℕ) (m : Member) (before : Option ℕ) → MatchOption o (Unit {0}) (λ x. LiteralsStay stays x.members ms) → slice_get ms i ≡ Some m → before ≡ stays i → MatchOption o (Unit {0}) (λ x. StaysAt before x.members m)
stays_here None stays ms i m before all at is = tt
stays_here (Some x) stays ms i m before all at is = subst (λ b. StaysAt b x.members m) (sym is) (all i m at)

-- ---- the same where some members are replaced

get_taken : {X : Type 0} (xs ys : List X) (n k : ℕ) → k < n → n ≤ length xs → slice_get (take n xs ++ ys) k ≡ slice_get xs k
get_taken xs ys zero k below within = absurd (omega arith)
get_taken [] ys (suc n) k below within = absurd (omega arith)
get_taken (x ∷ xs) ys (suc n) zero below within = refl
get_taken (x ∷ xs) ys (suc n) (suc k) below within = get_taken xs ys n k (omega arith) (omega arith)

get_behind : {X : Type 0} (xs ys : List X) (j : ℕ) → slice_get (xs ++ ys) (length xs + j) ≡ slice_get ys j
get_behind [] ys j = let e : 0 + j ≡ j = omega arith in ap (slice_get ys) e
get_behind (x ∷ xs) ys j = let e : length (x ∷ xs) + j ≡ suc (length xs + j) = omega arith in ap (slice_get ((x ∷ xs) ++ ys)) e ∙ get_behind xs ys j

get_dropped : {X : Type 0} (xs : List X) (n j : ℕ) → slice_get (drop n xs) j ≡ slice_get xs (n + j)
get_dropped xs zero j = let e : j ≡ 0 + j = omega arith in ap (slice_get xs) e
get_dropped [] (suc n) j = refl
get_dropped (x ∷ xs) (suc n) j = let e : suc (n + j) ≡ suc n + j = omega arith in get_dropped xs n j ∙ ap (slice_get (x ∷ xs)) e

module _ (old added : List Member) (first removed count : ℕ) (within : first + removed ≤ length old) (size : count ≡ length (replaced old first removed added) - (first + (length old - (first + removed)))) where
  abbrev new : List Member
  new = replaced old first removed added

  in_order : new ≡ take first old ++ (added ++ drop (first + removed) old)
  in_order = append_assoc (take first old) added (drop (first + removed) old)

  counted : length added ≡ count
  counted = omega (arith, ap length in_order, length-append (take first old) (added ++ drop (first + removed) old), length-append added (drop (first + removed) old), length-take first old, length-drop (first + removed) old)

  old_before : (k : ℕ) → k < first → stay_around first removed count k ≡ Some k
  old_before k below = let t : nat_lt k first ≡ true = grind (arith, nat_tests) in rw t refl

  old_none : (k : ℕ) → first ≤ k → k < first + count → stay_around first removed count k ≡ None
  old_none k from below =
      let f : nat_lt k first ≡ false = grind (arith, nat_tests) in
      let g : nat_le (first + count) k ≡ false = grind (arith, nat_tests) in
      rw (f, g) refl

  old_behind : (k : ℕ) → first + count ≤ k → stay_around first removed count k ≡ Some (k - count + removed)
  old_behind k from =
      let f : nat_lt k first ≡ false = grind (arith, nat_tests) in
      let t : nat_le (first + count) k ≡ true = grind (arith, nat_tests) in
      rw (f, t) refl

  get_before : (k : ℕ) → k < first → slice_get new k ≡ slice_get old k
  get_before k below = ap (λ l. slice_get l k) in_order ∙ get_taken old (added ++ drop (first + removed) old) first k below (omega arith)

  get_after : (k : ℕ) → first + count ≤ k → slice_get new k ≡ slice_get old (k - count + removed)
  get_after k from =
      let taken : length (take first old) ≡ first = omega (arith, length-take first old) in
      let a : k ≡ length (take first old) + (length added + (k - (first + count))) = omega (arith, counted) in
      let b : first + removed + (k - (first + count)) ≡ k - count + removed = omega arith in
      ap (slice_get new) a
      ∙ ap (λ l. slice_get l (length (take first old) + (length added + (k - (first + count))))) in_order
      ∙ get_behind (take first old) (added ++ drop (first + removed) old) (length added + (k - (first + count)))
      ∙ get_behind added (drop (first + removed) old) (k - (first + count))
      ∙ get_dropped old (first + removed) (k - (first + count))
      ∙ ap (slice_get old) b

  pub replaced_stay : LiteralsStay (stay_around first removed count) old new
  replaced_stay = λ k m is. elim (cases_lt k first) [
    | inl below ↦ subst (λ o. StaysAt o old m) (sym (old_before k below)) (stays_at old k m (sym (get_before k below) ∙ is))
    | inr from ↦ elim (cases_lt k (first + count)) [
      | inl inside ↦ subst (λ o. StaysAt o old m) (sym (old_none k from inside)) tt
      | inr behind ↦ subst (λ o. StaysAt o old m) (sym (old_behind k behind)) (stays_at old (k - count + removed) m (sym (get_after k behind) ∙ is))
    ]
  ]
