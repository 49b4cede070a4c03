-- What the versions of a group leave is a stock again.
use Rattle.std.proofs.Common.{◌≡◌, ◌≢◌, ℕ, zero, suc, ◌<◌, Bool, true, false, ◌⊎◌, List, [], ◌∷◌, ◌++◌, length, map, fold, Option, Some, None, refl, sym, ap, ◌∙◌, subst, inl, inr, arith, length-set}
use Rattle.std.specs.Prelude.{nat_eq, option_map, slice_get, slice_set, if◌then◌else◌}
use Rattle.std.specs.Option.{option_map_or}
use Rattle.std.specs.List.{AllByRecursion as Each}
use Rattle.std.proofs.lemmas.Bool.{cases_eq, eq-eqb, eqb-true, ne_eqb}
use Rattle.std.proofs.lemmas.List.{length-map}
use Rattle.std.proofs.lemmas.Option.{slice_get_within}
use Rattle.ed_base.specs.Numbers.{is_among, places, first_some}
use Rattle.ed_stock.specs.Limits.{inserted, placements, stock_limits, versions}
use Rattle.ed_stock.specs.Stock.{Stock, Buffer, buffer, count, now, record_at, sources_now, text_at, text_now}
use Rattle.ed_stock.specs.Versions.{Rising}
use Rattle.ed_version.specs.declared.Snapshot.{Snapshot}
use Rattle.ed_climb.specs.Counted.{AreCounts}
use Rattle.ed_held.specs.Making.{known_grown}
use Rattle.ed_climb.specs.Group.{known_moved, set_known}
use Rattle.ed_climb.specs.Kept.{IsKept}
use Rattle.ed_risen.specs.Laws.{OneVector}
use Rattle.ed_held.specs.Moves.{step_of, AreApart, move_of, rising_of, snapshot_of, with_move}
use Rattle.ed_risen.specs.Rising.{HasStepped, IsSettled, Rises}
use Rattle.ed_climb.specs.Route.{IsNewest, newest}
use Rattle.ed_held.specs.Seen.{Known, known, stock, stock_of}
use Rattle.ed_climb.specs.declared.counts.Counts.{Counts}
use Rattle.ed_held.specs.declared.held.Held.{Held}
use Rattle.ed_held.proofs.KindLemmas.{texts_count}
use Rattle.ed_held.specs.declared.moves.Move.{Move}
use Rattle.ed_climb.proofs.Committed.{stock_folded}
use Rattle.ed_risen.proofs.Settled.{one_vector, settles}
use Rattle.ed_risen.proofs.Growth.{set_here, set_other}
use Rattle.ed_risen.proofs.Lists.{clash}
use Rattle.ed_climb.proofs.Moved.{step_of_move}
use Rattle.ed_risen.proofs.Texts.{same_text}
use Rattle.ed_climb.proofs.Snapshots.{found_buffer, found_each}

-- ---- what is known of one buffer then

abbrev pub grown_by : List Move → ℕ → Known → Known
grown_by ms b k = option_map_or (λ m. known_grown k m) (move_of ms b) k

none_found : (ms : List Move) (b : ℕ) → Each (λ n. n.buffer ≢ b) ms → move_of ms b ≡ None
none_found [] b h = refl
none_found (m ∷ ms) b h = rw (ne_eqb m.buffer b h.0) (none_found ms b h.1)

pub set_at : (ks : List Known) (f : Known → Known) (b c : ℕ) → slice_get (set_known f b ks) c ≡ (if nat_eq b c then option_map f (slice_get ks c) else slice_get ks c)
set_at ks f b c = by (slice_get ks b) refl (nat_eq b c) refl
  where
    here : (k : Known) → slice_get ks b ≡ Some k → c ≡ b → slice_get (slice_set ks b (f k)) c ≡ option_map f (slice_get ks c)
    here k is e = subst (λ d. slice_get (slice_set ks b (f k)) d ≡ option_map f (slice_get ks d)) (sym e) (set_here ks b (f k) (slice_get_within ks b k is) ∙ ap (option_map f) (sym is))

    by : (o : Option Known) → slice_get ks b ≡ o → (t : Bool) → nat_eq b c ≡ t → slice_get (option_map_or (λ k. slice_set ks b (f k)) o ks) c ≡ (if t then option_map f (slice_get ks c) else slice_get ks c)
    by None is true t = (let e : slice_get ks c ≡ None = ap (slice_get ks) (sym (eqb-true b c t)) ∙ is in e ∙ sym (ap (option_map f) e))
    by None is false t = refl
    by (Some k) is true t = here k is (sym (eqb-true b c t))
    by (Some k) is false t = elim (cases_eq c b) [
      | inl e ↦ absurd (clash (nat_eq b c) (eq-eqb b c (sym e)) t)
      | inr ne ↦ set_other ks b c (f k) ne
    ]

pub moved_at : (ms : List Move) (ks : List Known) (b : ℕ) → AreApart ms → slice_get (fold known_moved ks ms) b ≡ option_map (grown_by ms b) (slice_get ks b)
moved_at [] ks b apart = by (slice_get ks b)
  where
    by : (o : Option Known) → o ≡ option_map (λ k. k) o
    by None = refl
    by (Some k) = refl
moved_at (m ∷ ms) ks b apart = moved_at ms (known_moved ks m) b apart.1 ∙ ap (option_map (grown_by ms b)) (set_at ks (λ k. known_grown k m) m.buffer b) ∙ by (nat_eq m.buffer b) refl (slice_get ks b)
  where
    by : (t : Bool) → nat_eq m.buffer b ≡ t → (o : Option Known) → option_map (grown_by ms b) (if t then option_map (λ k. known_grown k m) o else o) ≡ option_map (λ k. option_map_or (λ n. known_grown k n) (if t then Some m else move_of ms b) k) o
    by true t None = refl
    by true t (Some k) = rw (none_found ms b (subst (λ d. Each (λ n. n.buffer ≢ d) ms) (eqb-true m.buffer b t) apart.0)) refl
    by false t None = refl
    by false t (Some k) = refl

moved_length : (ms : List Move) (ks : List Known) → length (fold known_moved ks ms) ≡ length ks
moved_length [] ks = refl
moved_length (m ∷ ms) ks = moved_length ms (known_moved ks m) ∙ by (slice_get ks m.buffer)
  where
    by : (o : Option Known) → length (option_map_or (λ k. slice_set ks m.buffer (known_grown k m)) o ks) ≡ length ks
    by None = refl
    by (Some k) = length-set ks m.buffer (known_grown k m)

-- ---- texts

-- the last of a list, or one before
push_get : (xs : List (List ℕ)) (x y : List ℕ) (v : ℕ) → slice_get (xs ++ x ∷ []) v ≡ Some y → (slice_get xs v ≡ Some y) ⊎ ((v ≡ length xs) × (y ≡ x))
push_get [] x y zero h = inr (refl, (cc))
push_get [] x y (suc v) h = absurd (cc)
push_get (z ∷ zs) x y zero h = inl h
push_get (z ∷ zs) x y (suc v) h = elim (push_get zs x y v h) [
  | inl e ↦ inl e
  | inr e ↦ inr (ap suc e.0, e.1)
]

held_of : (hs : List Held) (b : ℕ) (k : Known) → slice_get (map known hs) b ≡ Some k → (h : Held) × (known h ≡ k)
held_of [] b k is = absurd (cc)
held_of (h ∷ hs) zero k is = (h, (cc))
held_of (h ∷ hs) (suc b) k is = held_of hs b k is

known_at : (hs : List Held) (b : ℕ) (k : Known) → slice_get (map known hs) b ≡ Some k → buffer (stock hs) b ≡ k.buffer
known_at [] b k is = absurd (cc)
known_at (h ∷ hs) zero k is = ap (λ (x : Known). x.buffer) (let e : known h ≡ k = (cc) in e)
known_at (h ∷ hs) (suc b) k is = known_at hs b k is

-- ---- the stock that is left

module _ (hs hs' : List Held) (same : map known hs' ≡ map known hs) (graph graph' : List (List ℕ)) (counts counts' : Counts) (kept : IsKept (map known hs) graph counts)
    (height : ℕ → ℕ) (start done : List ℕ) (ms : List Move) (rises : Rises (stock hs) height start done (rising_of (stock hs) ms)) (apart : AreApart ms) (news : Each (IsNewest (rising_of (stock hs) ms).stock) ms)
    (all : (b : ℕ) → b < count (stock hs) → is_among b done ≡ true) where
  abbrev s : Stock
  s = stock hs

  abbrev r : Rising
  r = rising_of (stock hs) ms

  abbrev t : Stock
  t = fold with_move (stock hs) ms

  abbrev ks : List Known
  ks = fold known_moved (map known hs) ms

  -- it is the stock of what is known then
  left : stock_of ks ≡ t
  left = stock_folded (map known hs) ms

  here : (b : ℕ) (k : Known) → slice_get ks b ≡ Some k → (k' : Known) × (slice_get (map known hs) b ≡ Some k') × (k ≡ grown_by ms b k')
  here b k is = by (slice_get (map known hs) b) refl (sym (moved_at ms (map known hs) b apart) ∙ is)
    where
      by : (o : Option Known) → slice_get (map known hs) b ≡ o → option_map (grown_by ms b) o ≡ Some k → (k' : Known) × (slice_get (map known hs) b ≡ Some k') × (k ≡ grown_by ms b k')
      by None i h = absurd (cc)
      by (Some x) i h = (x, i, (cc))

  numbers : (b : ℕ) (k : Known) → slice_get ks b ≡ Some k → k.number ≡ b
  numbers b k is =
      let h : (k' : Known) × (slice_get (map known hs) b ≡ Some k') × (k ≡ grown_by ms b k') = here b k is in
      ap (λ (x : Known). x.number) h.2 ∙ by (move_of ms b) h.0 ∙ kept.numbered b h.0 h.1
    where
      by : (o : Option Move) (k' : Known) → (option_map_or (λ m. known_grown k' m) o k').number ≡ k'.number
      by None k' = refl
      by (Some m) k' = refl

  -- an old version shows what it showed
  old_text : (b v : ℕ) (k : Known) (x : List ℕ) → slice_get (map known hs) b ≡ Some k → slice_get k.texts v ≡ Some x → text_at t b v ≡ x
  old_text b v k x is got =
      let h : (h : Held) × (known h ≡ k) = held_of hs b k is in
      let long : length k.texts ≡ length k.buffer.records = subst (λ (y : Known). length y.texts ≡ length y.buffer.records) h.1 (texts_count h.0) in
      let below : v < length k.texts = slice_get_within k.texts v x got in
      let there : v < length (buffer s b).records = subst (λ (y : Buffer). v < length y.records) (sym (known_at hs b k is)) (omega arith) in
      same_text (record_at s) (record_at t) rises.extends b v (kept.settled.founded b v there) ∙ kept.texts b v k x is got

  new_text : (b v : ℕ) (k : Known) (m : Move) (x : List ℕ) → slice_get (map known hs) b ≡ Some k → move_of ms b ≡ Some m → v ≡ length k.texts → x ≡ (snapshot_of m.planned).text → text_at t b v ≡ x
  new_text b v k m x is found at same_x =
      let h : (h : Held) × (known h ≡ k) = held_of hs b k is in
      let long : length k.texts ≡ length k.buffer.records = subst (λ (y : Known). length y.texts ≡ length y.buffer.records) h.1 (texts_count h.0) in
      let was : length (buffer s b).records ≡ length k.buffer.records = ap (λ (y : Buffer). length y.records) (known_at hs b k is) in
      let stepped : HasStepped s t b (step_of m) = rises.moved b (step_of m) (step_of_move ms b ∙ ap (option_map (λ n. step_of n)) found) in
      let longer : length (buffer t b).records ≡ suc (length (buffer s b).records) = stepped.longer in
      let e : v ≡ now t b = omega arith in
      let new : snapshot_of m.planned ≡ newest t m.buffer = found_each (IsNewest t) ms b m news found in
      ap (text_at t b) e ∙ ap (text_now t) (sym (found_buffer ms b m found)) ∙ ap (λ (y : Snapshot). y.text) (sym new) ∙ sym same_x

  texts_then : (b v : ℕ) (k : Known) (x : List ℕ) → slice_get ks b ≡ Some k → slice_get k.texts v ≡ Some x → text_at t b v ≡ x
  texts_then b v k x is got =
      let h : (k' : Known) × (slice_get (map known hs) b ≡ Some k') × (k ≡ grown_by ms b k') = here b k is in
      by h.0 h.1 (move_of ms b) refl (ap (λ (y : Known). slice_get y.texts v) (sym h.2) ∙ got)
    where
      by : (k' : Known) → slice_get (map known hs) b ≡ Some k' → (o : Option Move) → move_of ms b ≡ o → slice_get (option_map_or (λ m. known_grown k' m) o k').texts v ≡ Some x → text_at t b v ≡ x
      by k' at None found got' = old_text b v k' x at got'
      by k' at (Some m) found got' = elim (push_get k'.texts (snapshot_of m.planned).text x v got') [
        | inl old ↦ old_text b v k' x at old
        | inr new ↦ new_text b v k' m x at found new.0 new.1
      ]

  settled_then : IsSettled t
  settled_then = settles s height kept.settled start done r rises all

  pub kept_then : graph' ≡ map (sources_now t) (places (length hs)) → first_some (stock_limits t) ≡ None → AreCounts counts' t → IsKept ks graph' counts'
  kept_then linked within are = record {
    numbered = numbers;
    texts = λ b v k x is got. ap (λ y. text_at y b v) left ∙ texts_then b v k x is got;
    linked = linked ∙ ap (λ n. map (sources_now t) (places n)) (sym (moved_length ms (map known hs) ∙ length-map hs known)) ∙ ap (λ y. map (sources_now y) (places (length ks))) (sym left);
    settled = subst IsSettled (sym left) settled_then;
    one = subst OneVector (sym left) (one_vector s height kept.settled start done r rises all kept.one);
    within = ap (λ y. first_some (stock_limits y)) left ∙ within;
    inserted = are.inserted ∙ ap inserted (sym left);
    versions = are.versions ∙ ap versions (sym left);
    placements = are.placements ∙ ap placements (sym left);
  }
