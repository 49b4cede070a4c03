-- The snapshots and steps that a buffer on the way is shown.
use Rattle.std.proofs.Common.{◌≡◌, ℕ, ◌+◌, ◌-◌, ◌<◌, ◌≤◌, Bool, true, false, inl, inr, List, [], ◌∷◌, length, map, Option, Some, None, refl, sym, ap, ◌∙◌, subst}
use Rattle.std.specs.Prelude.{All, slice_get, unwrap_or, nat_eq, MatchOption, if◌then◌else◌}
use Rattle.std.specs.Option.{option_map_or}
use Rattle.std.specs.List.{AllByRecursion as Each, enumerate_from}
use Rattle.std.proofs.lemmas.Bool.{eqb-true}
use Rattle.ed_base.specs.declared.Member.{Member}
use Rattle.ed_base.specs.declared.Span.{Span}
use Rattle.ed_base.specs.declared.SpanMode.{SpanMode}
use Rattle.ed_base.specs.Spans.{end_of}
use Rattle.ed_layers.specs.Records.{version_in}
use Rattle.ed_layers.specs.Cells.{text}
use Rattle.ed_layers.specs.SourceStep.{SourceStep, trail_at, ends_with}
use Rattle.ed_layers.specs.Bounds.{Placed, member_after, new_bounds, placed_on}
use Rattle.ed_layers.specs.Owning.{Owns}
use Rattle.ed_members.specs.Moving.{EndsInOld, EndsInNew}
use Rattle.ed_project.specs.Texts.{HasSource, found_text, text_in, versions_of}
use Rattle.ed_stock.specs.Stock.{Stock, Buffer, buffer, now, record_at, record_now, text_at, text_now, count}
use Rattle.ed_stock.specs.Versions.{at_now}
use Rattle.ed_version.specs.declared.Snapshot.{Snapshot}
use Rattle.ed_held.specs.declared.held.Held.{Held}
use Rattle.ed_held.specs.declared.moves.Move.{Move}
use Rattle.ed_held.specs.Moves.{move_of, newest_of, snapshot_now}
use Rattle.ed_risen.specs.Rising.{EndsIn, IsSettled, HasStepped}
use Rattle.ed_climb.specs.Route.{AreTrue, KeepTheirs, newest}
use Rattle.ed_held.specs.Seen.{Known, known, last_of, stock, text_of}
use Rattle.ed_held.proofs.KindLemmas.{texts_count}
use Rattle.ed_risen.proofs.Settled.{all_of}
use Rattle.ed_risen.proofs.FoundedLemmas.{each_weaker, each_version}
use Rattle.ed_risen.proofs.Lengths.{ArePlain, no_trail}
use Rattle.ed_risen.proofs.Growth.{missing}
use Rattle.ed_risen.proofs.RisingLemmas.{get_last}
use Rattle.ed_risen.proofs.Texts.{named_text}
use Rattle.ed_risen.proofs.Lists.{get_map}

-- ---- buffers that are held

pub held_buffer : (hs : List Held) (b : ℕ) (h : Held) → slice_get hs b ≡ Some h → buffer (stock hs) b ≡ (known h).buffer
held_buffer hs b h is = ap (λ o. unwrap_or o missing) (get_map (λ (k : Known). k.buffer) (map known hs) b (known h) (get_map known hs b h is))

pub held_record : (hs : List Held) (b : ℕ) (h : Held) → slice_get hs b ≡ Some h → record_now (stock hs) b ≡ last_of (known h).buffer
held_record hs b h is = ap last_of (held_buffer hs b h is)

-- ---- the current versions

abbrev newest_at : ℕ → ℕ → List ℕ → Snapshot
newest_at b w u = record { buffer = b; version = w; text = u }

module _ (hs : List Held) (true_ : AreTrue (map known hs)) (settled : IsSettled (stock hs)) where
  pub snapshot_is : (b : ℕ) (h : Held) → slice_get hs b ≡ Some h → b < count (stock hs) → snapshot_now hs b ≡ newest (stock hs) b
  snapshot_is b h is there =
      let k : slice_get (map known hs) b ≡ Some (known h) = get_map known hs b h is in
      let buf : buffer (stock hs) b ≡ (known h).buffer = held_buffer hs b h is in
      let n : ℕ = length (known h).buffer.records in
      let some : 0 < length (buffer (stock hs) b).records = settled.some b there in
      let last : slice_get (known h).texts (n - 1) ≡ Some (text_of (known h) (n - 1)) =
      ap (λ k. slice_get (known h).texts (k - 1)) (sym (texts_count h)) ∙ get_last (known h).texts (rw (texts_count h) (subst (λ (x : Buffer). 0 < length x.records) buf some)) [] ∙ ap (λ k. Some (text_of (known h) (k - 1))) (texts_count h) in
      let now_is : now (stock hs) b ≡ n - 1 = ap (λ (x : Buffer). length x.records - 1) buf in
      let text_is : text_of (known h) (n - 1) ≡ text_now (stock hs) b =
      sym (true_.texts b (n - 1) (known h) (text_of (known h) (n - 1)) k last) ∙ ap (text_at (stock hs) b) (sym now_is) in
      rw is (whole (known h).number b (n - 1) (now (stock hs) b) (text_of (known h) (n - 1)) (text_now (stock hs) b) (true_.numbered b (known h) k) (sym now_is) text_is)
    where
      whole : (a b v w : ℕ) (t u : List ℕ) → a ≡ b → v ≡ w → t ≡ u → (record { buffer = a; version = v; text = t }) ≡ newest_at b w u
      whole a b v w t u e f g = rw (e, f, g) refl

  -- the text that is kept as the current one is the one that the definitions give
  pub text_held : (b : ℕ) (h : Held) → slice_get hs b ≡ Some h → b < count (stock hs) → text_of (known h) (length (known h).buffer.records - 1) ≡ text_now (stock hs) b
  text_held b h is there =
      ap (λ o. (option_map_or (λ (x : Held). newest_of (known x)) o (newest_at b 0 [])).text) (sym is) ∙ ap (λ (y : Snapshot). y.text) (snapshot_is b h is there)

-- ---- once some have moved

pub found_buffer : (ms : List Move) (b : ℕ) (m : Move) → move_of ms b ≡ Some m → m.buffer ≡ b
found_buffer [] b m h = absurd (cc)
found_buffer (n ∷ ns) b m h = by (nat_eq n.buffer b) refl h (found_buffer ns b m)
  where
    by : (t : Bool) → nat_eq n.buffer b ≡ t → (if t then Some n else move_of ns b) ≡ Some m → (move_of ns b ≡ Some m → m.buffer ≡ b) → m.buffer ≡ b
    by true t h more = let e : n ≡ m = cc in subst (λ x. x.buffer ≡ b) e (eqb-true n.buffer b t)
    by false t h more = more h

pub found_each : (P : Move → Type 0) (ms : List Move) (b : ℕ) (m : Move) → Each P ms → move_of ms b ≡ Some m → P m
found_each P [] b m all h = absurd (cc)
found_each P (n ∷ ns) b m all h = by (nat_eq n.buffer b) refl h (found_each P ns b m all.1)
  where
    by : (t : Bool) → nat_eq n.buffer b ≡ t → (if t then Some n else move_of ns b) ≡ Some m → (move_of ns b ≡ Some m → P m) → P m
    by true t h more = let e : n ≡ m = cc in subst P e all.0
    by false t h more = more h

pub newest_same : (s t : Stock) (b : ℕ) → now t b ≡ now s b → text_now t b ≡ text_now s b → newest s b ≡ newest t b
newest_same s t b n x = ap (λ v. newest_at b v (text_now s b)) (sym n) ∙ ap (newest_at b (now t b)) (sym x)

-- the snapshots of sources, and their texts and versions
module _ (t : Stock) where
  abbrev pub snaps : List (ℕ × ℕ) → List Snapshot
  snaps vs = map (λ v. newest t v.0) vs

  pub snaps_versions : (vs : List (ℕ × ℕ)) → versions_of (snaps vs) ≡ at_now t vs
  snaps_versions [] = refl
  snaps_versions (v ∷ vs) = ap (λ xs. (v.0, now t v.0) ∷ xs) (snaps_versions vs)

  found_snap : (vs : List (ℕ × ℕ)) (c : ℕ) → unwrap_or (found_text (snaps vs) c) [] ≡ named_text (record_at t) (at_now t vs) c
  found_snap [] c = refl
  found_snap (v ∷ vs) c = by (nat_eq v.0 c) refl (found_snap vs c)
    where
      by : (q : Bool) → nat_eq v.0 c ≡ q → unwrap_or (found_text (snaps vs) c) [] ≡ named_text (record_at t) (at_now t vs) c → unwrap_or (found_text (snaps (v ∷ vs)) c) [] ≡ named_text (record_at t) (at_now t (v ∷ vs)) c
      by true q rest = rw q (ap (λ x. text (record_at t) x (now t v.0)) (eqb-true v.0 c q))
      by false q rest = rw q rest

  pub snaps_text : (vs : List (ℕ × ℕ)) → text_in (snaps vs) ≡ named_text (record_at t) (at_now t vs)
  snaps_text vs = λ i c. found_snap vs c i

  pub snap_there : (vs : List (ℕ × ℕ)) (c w : ℕ) → version_in vs c ≡ Some w → found_text (snaps vs) c ≡ Some (text_now t c)
  snap_there [] c w h = absurd (cc)
  snap_there (v ∷ vs) c w h = by (nat_eq v.0 c) refl h (snap_there vs c w)
    where
      by : (q : Bool) → nat_eq v.0 c ≡ q → (if q then Some v.1 else version_in vs c) ≡ Some w → (version_in vs c ≡ Some w → found_text (snaps vs) c ≡ Some (text_now t c)) → found_text (snaps (v ∷ vs)) c ≡ Some (text_now t c)
      by true q h more = rw q (ap (λ x. Some (text_now t x)) (eqb-true v.0 c q))
      by false q h more = rw q (more h)

  pub named_now : (vs : List (ℕ × ℕ)) (c w : ℕ) → version_in vs c ≡ Some w → version_in (at_now t vs) c ≡ Some (now t c)
  named_now [] c w h = absurd (cc)
  named_now (v ∷ vs) c w h = by (nat_eq v.0 c) refl h (named_now vs c w)
    where
      by : (q : Bool) → nat_eq v.0 c ≡ q → (if q then Some v.1 else version_in vs c) ≡ Some w → (version_in vs c ≡ Some w → version_in (at_now t vs) c ≡ Some (now t c)) → version_in (at_now t (v ∷ vs)) c ≡ Some (now t c)
      by true q h more = rw q (ap (λ x. Some (now t x)) (eqb-true v.0 c q))
      by false q h more = rw q (more h)

-- ---- where no unit has a way, no member owns one

module _ (steps : ℕ → Option SourceStep) (plain : ArePlain steps) where
  none_owned : (carrier source q : ℕ) (x : SourceStep) (m : Placed) → steps source ≡ Some x → Owns carrier x m q → ⊥
  none_owned carrier source q x m is owned = let e : ends_with carrier (nat_eq m.index) (trail_at x q) ≡ false = ap (ends_with carrier (nat_eq m.index)) (no_trail x (plain source x is) q) in absurd (cc)

  pub plain_theirs : (carrier : ℕ) (ms : List Member) → KeepTheirs carrier steps ms
  plain_theirs carrier ms = record {
    inside = λ source q x m is contained owned. absurd (none_owned carrier source q x m is owned);
    order = λ source p q x m n is has_m has_n after holds_m holds_n owned. absurd (elim owned [
      | inl o ↦ none_owned carrier source p x m is o
      | inr o ↦ none_owned carrier source q x n is o
    ]);
  }

-- ---- what a projection needs, of the members that lie inside

module _ (s t : Stock) (steps : ℕ → Option SourceStep) (stepped : (b : ℕ) (m : SourceStep) → steps b ≡ Some m → HasStepped s t b m)
    (still : (b : ℕ) → b < count s → steps b ≡ None → text_now t b ≡ text_now s b) (sources : List (ℕ × ℕ)) (there : Each (λ v. v.0 < count s) sources) where
  ends_in_old : (m : Member) → EndsIn s sources m → EndsInOld steps m
  ends_in_old (Member.Literal units) h = tt
  ends_in_old (Member.Tracked source bounds mode) h = by (steps source) refl
    where
      by : (o : Option SourceStep) → steps source ≡ o → MatchOption o (Unit {0}) (λ x. end_of bounds ≤ x.step.old_len)
      by None is = tt
      by (Some x) is = subst (λ n. end_of bounds ≤ n) (sym (stepped source x is).from) h.1

  has_source : (m : Member) → EndsIn s sources m → HasSource steps (snaps t sources) m
  has_source (Member.Literal units) h = tt
  has_source (Member.Tracked source bounds mode) h =
      subst (λ o. MatchOption o ⊥ (λ x. MatchOption (steps source) (end_of bounds ≤ length x) (λ y. y.step.new_len ≡ length x))) (sym (snap_there t sources source (now s source) h.0)) (by (steps source) refl)
    where
      by : (o : Option SourceStep) → steps source ≡ o → MatchOption o (end_of bounds ≤ length (text_now t source)) (λ y. y.step.new_len ≡ length (text_now t source))
      by None is = subst (λ x. end_of bounds ≤ length x) (sym (still source (each_version (λ v. v.0 < count s) sources source (now s source) there h.0) is)) h.1
      by (Some x) is = (stepped source x is).to

  pub within_old : (ms : List Member) → Each (EndsIn s sources) ms → All (EndsInOld steps) ms
  within_old ms h = all_of (EndsInOld steps) ms (each_weaker (EndsIn s sources) (EndsInOld steps) ends_in_old ms h)

  pub have_sources : (ms : List Member) → Each (EndsIn s sources) ms → All (HasSource steps (snaps t sources)) ms
  have_sources ms h = all_of (HasSource steps (snaps t sources)) ms (each_weaker (EndsIn s sources) (HasSource steps (snaps t sources)) has_source ms h)

  -- the members afterwards lie inside the sources as they are then
  abbrev bounds_by : ℕ → List Member → ℕ → ℕ → Span → SpanMode → Option SourceStep → Span
  bounds_by carrier all i source bounds mode o = option_map_or (λ x. new_bounds carrier x (placed_on source (enumerate_from 0 all)) mode (record { index = i; bounds = bounds })) o bounds

  bounds_inside : (carrier : ℕ) (all : List Member) (i source : ℕ) (bounds : Span) (mode : SpanMode) → EndsIn s sources (Member.Tracked source bounds mode) → (o : Option SourceStep) → steps source ≡ o
      → MatchOption o (Unit {0}) (λ x. end_of (bounds_by carrier all i source bounds mode o) ≤ x.step.new_len) → end_of (bounds_by carrier all i source bounds mode o) ≤ length (text_now t source)
  bounds_inside carrier all i source bounds mode h None is new = subst (λ x. end_of bounds ≤ length x) (sym (still source (each_version (λ v. v.0 < count s) sources source (now s source) there h.0) is)) h.1
  bounds_inside carrier all i source bounds mode h (Some x) is new = subst (λ n. end_of (bounds_by carrier all i source bounds mode (Some x)) ≤ n) (stepped source x is).to new

  moved_inside : (carrier : ℕ) (all : List Member) (i : ℕ) (m : Member) → EndsIn s sources m → EndsInNew steps (member_after carrier steps all (i, m)) → EndsIn t (at_now t sources) (member_after carrier steps all (i, m))
  moved_inside carrier all i (Member.Literal units) h new = tt
  moved_inside carrier all i (Member.Tracked source bounds mode) h new = (named_now t sources source (now s source) h.0, bounds_inside carrier all i source bounds mode h (steps source) refl new)

  pub members_inside : (carrier : ℕ) (all : List Member) (i : ℕ) (ms : List Member) → Each (EndsIn s sources) ms → Each (EndsInNew steps) (map (member_after carrier steps all) (enumerate_from i ms)) → Each (EndsIn t (at_now t sources)) (map (member_after carrier steps all) (enumerate_from i ms))
  members_inside carrier all i [] h new = tt
  members_inside carrier all i (m ∷ ms) h new = (moved_inside carrier all i m h.0 new.0, members_inside carrier all (i + 1) ms h.1 new.1)
