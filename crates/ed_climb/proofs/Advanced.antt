-- What is planned of a buffer that is held.
use Rattle.std.proofs.Common.{◌≡◌, ℕ, zero, suc, ◌<◌, ◌≤◌, ◌^◌, true, ◌⊎◌, inl, inr, List, [], ◌∷◌, length, map, Option, Some, None, Ok, Err, refl, sym, ap, ◌∙◌, subst, arith}
use Rattle.std.specs.Prelude.{Result, slice_get, slice_set, slice_index_or, nat_lt, All}
use Rattle.std.proofs.lemmas.Bool.{cases_lt, lt-ltb}
use Rattle.ed_base.specs.declared.Member.{Member}
use Rattle.ed_layers.specs.CarrierStep.{all_stay}
use Rattle.ed_layers.specs.Records.{Record, base, projection, elision, is_carrier, members_len, members_of}
use Rattle.ed_layers.specs.SourceStep.{SourceStep}
use Rattle.ed_members.specs.Moving.{EndsInNew}
use Rattle.ed_project.specs.Planning.{Answers, EndsWithin, too_long}
use Rattle.ed_project.specs.Texts.{versions_of}
use Rattle.ed_project.specs.declared.ProjectionFault.{ProjectionFault}
use Rattle.ed_version.specs.declared.Snapshot.{Snapshot}
use Rattle.ed_held.specs.declared.held.Held.{Held}
use Rattle.ed_held.specs.declared.moves.Move.{Move}
use Rattle.ed_held.specs.declared.moves.Planned.{Planned}
use Rattle.ed_held.specs.Advancing.{Advances, CanGoOn, next_of}
use Rattle.ed_held.specs.Following.{Follows}
use Rattle.ed_held.specs.Seen.{known}
use Rattle.ed_climb.specs.Climbing.{HasRisen, record_after, source_snapshots}

pub get_index : {X : Type 0} (xs : List X) (i : ℕ) (d : X) → i < length xs → slice_get xs i ≡ Some (slice_index_or xs i d)
get_index [] i d h = absurd (omega arith)
get_index (x ∷ xs) zero d h = refl
get_index (x ∷ xs) (suc i) d h = get_index xs i d (omega arith)

pub map_set : {X Y : Type 0} (f : X → Y) (xs : List X) (i : ℕ) (x y : X) → slice_get xs i ≡ Some x → f y ≡ f x → map f (slice_set xs i y) ≡ map f xs
map_set f [] i x y is same = refl
map_set f (z ∷ zs) zero x y is same = let e : z ≡ x = cc in ap (λ w. w ∷ map f zs) (same ∙ ap f (sym e))
map_set f (z ∷ zs) (suc i) x y is same = ap (λ ws. f z ∷ ws) (map_set f zs i x y is same)

none_long : (n : ℕ) → too_long n ≡ None → n ≤ 2 ^ 22
none_long n h = elim (cases_lt (2 ^ 22) n) [
  | inl l ↦ (let t : nat_lt (2 ^ 22) n ≡ true = lt-ltb (2 ^ 22) n l in absurd (let e : too_long n ≡ Some (ProjectionFault.Units n) = rw t refl in cc))
  | inr le ↦ le
]

answered_ok : {X : Type 0} (o : Option ProjectionFault) (x : X) → Answers o (Ok x) → o ≡ None
answered_ok None x h = refl
answered_ok (Some f) x h = absurd h

answered_err : (steps : ℕ → Option SourceStep) (ms : List Member) (o : Option ProjectionFault) (e : ProjectionFault) → Answers {X = Planned} o (Err e) → EndsWithin {X = Planned} steps ms (Err e) → (e ≡ ProjectionFault.OutOfMemory) ⊎ ((o ≡ Some e) × All (EndsInNew steps) ms)
answered_err steps ms None e h within = inl h
answered_err steps ms (Some f) e (inr oom) within = inl oom
answered_err steps ms (Some f) (ProjectionFault.Units n) (inl same) within = inr (ap Some (sym same), within)
answered_err steps ms (Some f) ProjectionFault.OutOfMemory (inl same) within = inl refl

-- an element that was looked up, by two names
pub element : {X : Type 0} (xs : List X) (b i : ℕ) (d e : X) → i ≡ b → b < length xs → e ≡ slice_index_or xs i e → (slice_get xs b ≡ Some (slice_index_or xs i d)) × (e ≡ slice_index_or xs i d)
element xs b i d e same below is =
    let below' : i < length xs = subst (λ j. j < length xs) (sym same) below in
    let got : slice_get xs i ≡ Some (slice_index_or xs i d) = get_index xs i d below' in
    let both : Some e ≡ Some (slice_index_or xs i d) = ap Some is ∙ sym (get_index xs i e below') ∙ got in
    (ap (slice_get xs) (sym same) ∙ got, cc)

module _ (hs : List Held) (ms : List Move) (steps : ℕ → Option SourceStep) (b : ℕ) (old new : Held) where
  abbrev then_ : Record
  then_ = record_after hs ms steps (known old)

  pub risen_by : (result : Result Planned ProjectionFault) → Advances steps (source_snapshots hs ms (known old)) old new result → HasRisen hs (slice_set hs b new) ms steps b old result
  risen_by (Ok p) h =
      let follows : Follows all_stay steps (source_snapshots hs ms (known old)) (known old) (record_after hs ms steps (known old)) p = h.next in
      let fits : members_len (members_of (record_after hs ms steps (known old))) ≤ 2 ^ 22 = none_long (members_len (members_of then_)) (answered_ok (too_long (members_len (members_of then_))) p h.fault) in
      record {
        held = new;
        set = refl;
        same = h.same;
        made = h.made;
        follows = h.next;
        ends = subst (λ r. All (EndsInNew steps) (members_of r)) (sym follows.record_is) h.within;
        fits = subst (λ r. members_len (members_of r) ≤ 2 ^ 22) (sym follows.record_is) fits;
      }
  risen_by (Err e) h = answered_err steps (members_of then_) (too_long (members_len (members_of then_))) e h.fault h.within

-- what can go along is a carrier, and so is what comes next
pub goes_on : (b : ℕ) (steps : ℕ → Option SourceStep) (sources : List Snapshot) (x : Record) → CanGoOn b steps sources x → is_carrier (next_of b steps (versions_of sources) x) ≡ true
goes_on b steps sources (base text reiterated) can = absurd can
goes_on b steps sources (projection members versions) can = refl
goes_on b steps sources (elision flags source version) can = refl
