-- The beginning of a group that hides other places.
use Rattle.std.proofs.Common.{◌≡◌, ◌≢◌, ℕ, zero, suc, ◌+◌, ◌<◌, ◌≤◌, ◌^◌, Bool, true, false, ◌||◌, ◌&&◌, List, [], ◌∷◌, length, map, filter, Option, Some, None, Ok, Err, refl, sym, ap, ◌∙◌, subst, arith}
use Rattle.std.specs.Prelude.{IfOk, MatchOption, Result, count_by, nat_eq, not, slice_get, unwrap_or, if◌then◌else◌}
use Rattle.std.specs.List.{AllByRecursion as Each, enumerate_from, list_any}
use Rattle.std.proofs.lemmas.Bool.{eq-eqb}
use Rattle.std.proofs.lemmas.List.{length-map}
use Rattle.std.proofs.lemmas.List.FromFn.{length-range_with_len}
use Rattle.std.proofs.lemmas.List.Sums.{count_by-le-length, length-filter}
use Rattle.ed_base.specs.declared.OutOfMemory.{OutOfMemory}
use Rattle.ed_base.specs.Numbers.{first_some, places}
use Rattle.ed_base.specs.declared.Span.{Span}
use Rattle.ed_climb.specs.Begins.{Begins, LeadsTo, turned_rising, way}
use Rattle.ed_climb.specs.Climbing.{move_to}
use Rattle.ed_climb.specs.Kept.{IsKept}
use Rattle.ed_climb.specs.Route.{Climbs, newest}
use Rattle.ed_climb.specs.declared.beginning.FirstMoves.{FirstMoves}
use Rattle.ed_climb.specs.declared.counts.Counts.{Counts}
use Rattle.ed_climb.proofs.Groups.{leads}
use Rattle.ed_climb.proofs.KeptNumbers.{count_len}
use Rattle.ed_climb.proofs.Moved.{most_moved}
use Rattle.ed_climb.proofs.Snapshots.{held_record, snap_there, snaps}
use Rattle.ed_climb.proofs.Theirs.{plain_way}
use Rattle.ed_climb.proofs.TurnedKept.{may_turn}
use Rattle.ed_graph.specs.Standing.{IsLevelled, order_in, sources_in as graph_sources}
use Rattle.ed_group.specs.Answers.{hidden_fault}
use Rattle.ed_group.specs.Hiding.{HasBegunHidden, HasHiddenAt, hidden_first}
use Rattle.ed_group.specs.Spanning.{below, carrier_route}
use Rattle.ed_group.proofs.Begins.{not_only}
use Rattle.ed_group.proofs.Current.{current, past}
use Rattle.ed_group.proofs.FirstCarrier.{carrier_begins, same_names}
use Rattle.ed_group.proofs.NewBuffer.{named_there}
use Rattle.ed_held.specs.Advancing.{AreOfSource, CanGoOn, next_of, record_then}
use Rattle.ed_held.specs.Following.{Follows}
use Rattle.ed_held.specs.Making.{CanTurn}
use Rattle.ed_held.specs.Moves.{move_seen, rising_of, snapshot_now}
use Rattle.ed_held.specs.Rehiding.{CanRehide, with_flags}
use Rattle.ed_held.specs.Seen.{known, last_of, stock, stock_of}
use Rattle.ed_held.specs.declared.held.Held.{Held}
use Rattle.ed_held.specs.declared.moves.Move.{Move}
use Rattle.ed_held.specs.declared.moves.Planned.{Planned}
use Rattle.ed_landing.specs.Landings.{StandOn}
use Rattle.ed_landing.proofs.Beginning.{stand_on}
use Rattle.ed_layers.specs.CarrierStep.{Slot, all_stay}
use Rattle.ed_layers.specs.Hidden.{elided, in_some}
use Rattle.ed_layers.specs.Records.{Record, base, projection, elision, is_elision, is_shown, members_len, members_of, sources_of, version_in}
use Rattle.ed_members.specs.Steps.{step_seen}
use Rattle.ed_project.specs.Texts.{found_text, no_steps, versions_of}
use Rattle.ed_risen.specs.Rising.{EndsIn, Inside}
use Rattle.ed_risen.specs.Start.{IsStart}
use Rattle.ed_risen.proofs.Counting.{new_buffer}
use Rattle.ed_risen.proofs.Lengths.{ArePlain}
use Rattle.ed_risen.proofs.Limits.{texts_fit}
use Rattle.ed_risen.proofs.PlainTurns.{plain_record}
use Rattle.ed_risen.proofs.ShownRuns.{slots_len, stands}
use Rattle.ed_stock.specs.Limits.{stock_limits}
use Rattle.ed_stock.specs.Making.{elide_set, flags_of, hidden_set, is_same_set}
use Rattle.ed_stock.specs.Stock.{Stock, count, now, record_now, sources_now, text_now}
use Rattle.ed_stock.specs.Versions.{Rising, none_given, risen, step_in, with_record}
use Rattle.ed_version.specs.declared.Snapshot.{Snapshot}

-- ---- sets of places

pub same_itself : (xs : List Bool) → is_same_set xs xs ≡ true
same_itself [] = refl
same_itself (true ∷ xs) = same_itself xs
same_itself (false ∷ xs) = same_itself xs

pub same_only : (xs ys : List Bool) → is_same_set xs ys ≡ true → xs ≡ ys
same_only [] [] e = refl
same_only [] (y ∷ ys) e = absurd (cc)
same_only (true ∷ xs) [] e = absurd (cc)
same_only (false ∷ xs) [] e = absurd (cc)
same_only (true ∷ xs) (true ∷ ys) e = ap (λ zs. true ∷ zs) (same_only xs ys e)
same_only (true ∷ xs) (false ∷ ys) e = absurd (cc)
same_only (false ∷ xs) (true ∷ ys) e = absurd (cc)
same_only (false ∷ xs) (false ∷ ys) e = ap (λ zs. false ∷ zs) (same_only xs ys e)

pub not_same : (xs ys : List Bool) → xs ≢ ys → is_same_set xs ys ≡ false
not_same xs ys ne = by (is_same_set xs ys) refl
  where
    by : (t : Bool) → is_same_set xs ys ≡ t → is_same_set xs ys ≡ false
    by true e = absurd (ne (same_only xs ys e))
    by false e = e

pub elided_len : (flags : List Bool) (hide show : List Span) → length (elided flags hide show) ≡ length flags
elided_len flags hide show = length-map (enumerate_from 0 flags) _ ∙ counted 0 flags
  where
    counted : (k : ℕ) (xs : List Bool) → length (enumerate_from k xs) ≡ length xs
    counted k [] = refl
    counted k (x ∷ xs) = ap suc (counted (k + 1) xs)

-- hiding first and showing then, in two calls
pub in_two : (flags : List Bool) (hide show : List Span) → elided (elided flags hide []) [] show ≡ elided flags hide show
in_two flags hide show = from 0 flags
  where
    bit : (f h s : Bool) → ((((f || h) && not false) || false) && not s) ≡ ((f || h) && not s)
    bit true h s = refl
    bit false true s = refl
    bit false false s = refl

    one : List Span → List Span → ℕ × Bool → Bool
    one hide show pf = (pf.1 || in_some hide pf.0) && not (in_some show pf.0)

    from : (k : ℕ) (xs : List Bool) → map (one [] show) (enumerate_from k (map (one hide []) (enumerate_from k xs))) ≡ map (one hide show) (enumerate_from k xs)
    from k [] = refl
    from k (x ∷ xs) = ap (λ ys. ((((x || in_some hide k) && not false) || false) && not (in_some show k)) ∷ ys) (from (k + 1) xs) ∙ ap (λ y. y ∷ map (one hide show) (enumerate_from (k + 1) xs)) (bit x (in_some hide k) (in_some show k))

abbrev shown_slot : ℕ → ℕ → Slot
shown_slot source p = record { member = 0; source = Some source; place = p }

-- an elision buffer shows no more than there is
pub shows_part : (flags : List Bool) (source version : ℕ) → members_len (members_of (elision flags source version)) ≤ length flags
shows_part flags source version =
    omega (arith, slots_len (elision flags source version), length-map (filter (is_shown flags) (places (length flags))) (shown_slot source), length-filter (is_shown flags) (places (length flags)), count_by-le-length (is_shown flags) (places (length flags)), length-range_with_len 0 (length flags))

-- the parts of the record of an elision buffer
pub elision_is : (r : Record) → is_elision r ≡ true → (flags : List Bool) × (source : ℕ) × (version : ℕ) × (r ≡ elision flags source version)
elision_is (base text reiterated) e = absurd (cc)
elision_is (projection members sources) e = absurd (cc)
elision_is (elision flags source version) e = (flags, source, version, refl)

-- ---- the way begins

module _ (hs : List Held) (graph : List (List ℕ)) (counts : Counts) (kept : IsKept (map known hs) graph counts) (levelled : IsLevelled graph) (b : ℕ) (there : b < count (stock hs)) (flags : List Bool) (source version : ℕ) (is : record_now (stock hs) b ≡ elision flags source version) where
  abbrev s : Stock
  s = stock hs

  on : StandOn hs graph
  on = stand_on hs graph counts kept levelled

  inside_was : (version ≡ now (stock hs) source) × (length flags ≡ length (text_now (stock hs) source))
  inside_was = subst (Inside (stock hs)) is (kept.settled.inside b there)

  pub here_are : graph_sources graph b ≡ source ∷ []
  here_are = ap (λ (f : ℕ → List ℕ). f b) on.names ∙ ap (λ r. map (λ v. v.0) (sources_of r)) is

  others_are : (c : ℕ) → c ≢ b → graph_sources graph c ≡ sources_now (stock hs) c
  others_are c ne = ap (λ (f : ℕ → List ℕ). f c) on.names

  source_there : source < count (stock hs)
  source_there =
      let named : Each (λ (v : ℕ × ℕ). v.0 < length (map known hs)) (sources_of (record_now (stock hs) b)) =
      named_there (map known hs) (record { number = 0; buffer = new_buffer (base [] 0) None; texts = [] }) (base [] 0) None refl kept.settled b (subst (λ n. b < n) (count_len (map known hs) graph counts kept) there) in
      let low : source < length (map known hs) = (subst (λ r. Each (λ (v : ℕ × ℕ). v.0 < length (map known hs)) (sources_of r)) is named).0 in
      subst (λ n. source < n) (sym (count_len (map known hs) graph counts kept)) low

  -- the snapshots of its sources
  pub snaps_are : (cs : List ℕ) (ss : List Snapshot) → cs ≡ graph_sources graph b → ss ≡ map (snapshot_now hs) cs → ss ≡ snaps (stock hs) ((source, now (stock hs) source) ∷ [])
  snaps_are cs ss cs_is ss_is = ss_is ∙ ap (map (snapshot_now hs)) (cs_is ∙ here_are) ∙ ap (λ z. z ∷ []) (current hs graph counts kept source source_there)

  -- what is needed to plan it
  pub can_rehide : (ss : List Snapshot) → ss ≡ snaps (stock hs) ((source, now (stock hs) source) ∷ []) → (new : List Bool) → length new ≡ length flags → (h : Held) → slice_get hs b ≡ Some h → CanRehide ss h new
  can_rehide ss ss_is new size h held =
      let last : elision flags source version ≡ last_of (known h).buffer = sym is ∙ held_record hs b h held in
      let found : found_text ss source ≡ Some (text_now (stock hs) source) = ap (λ xs. found_text xs source) ss_is ∙ snap_there (stock hs) ((source, now (stock hs) source) ∷ []) source (now (stock hs) source) (rw (eq-eqb source source refl) refl) in
      record {
        hides = ap is_elision (sym last);
        size = size ∙ ap (λ r. length (flags_of r)) last;
        there = subst (CanGoOn (known h).number no_steps ss) last (subst (λ o. MatchOption o ⊥ (AreOfSource no_steps source (length flags))) (sym found) (texts_fit (stock hs) kept.within source source_there, inside_was.1));
      }

  module _ (new : List Bool) (size : length new ≡ length flags) where
    abbrev record_new : Record
    record_new = elision new source version

    with_new_is : with_flags new (record_now (stock hs) b) ≡ record_new
    with_new_is = ap (with_flags new) is

    names : sources_of record_new ≡ map (λ c. (c, now (stock hs) c)) (source ∷ [])
    names = ap (λ v. (source, v) ∷ []) inside_was.0

    inside_new : Inside (stock hs) record_new
    inside_new = (inside_was.0, size ∙ inside_was.1)

    ends : Each (EndsIn (stock hs) (sources_of record_new)) (members_of record_new)
    ends = (stands (stock hs) record_new inside_new).ends

    fits : members_len (members_of record_new) ≤ 2 ^ 22
    fits = omega (arith, shows_part new source version, size, inside_was.1, texts_fit (stock hs) kept.within source source_there)

    pub has_begun : (hs' : List Held) (h : Held) → b < length hs → slice_get hs b ≡ Some h → (ss : List Snapshot) → ss ≡ snaps (stock hs) ((source, now (stock hs) source) ∷ []) → (n : Planned) → HasHiddenAt ss hs hs' b h new (Ok n) → HasBegunHidden hs hs' graph b new n
    has_begun hs' h inside held ss ss_is n planned =
        let last : last_of (known h).buffer ≡ elision flags source version = sym (held_record hs b h held) ∙ is in
        let then_is : with_flags new (record_then no_steps ss (known h)) ≡ record_new =
        ap (λ r. with_flags new (next_of (known h).number no_steps (versions_of ss) r)) last
        ∙ ap (λ xs. elision new source (unwrap_or (version_in (versions_of xs) source) version)) ss_is
        ∙ ap (λ o. elision new source (unwrap_or o version)) (found_version (now (stock hs) source))
        ∙ ap (elision new source) (sym inside_was.0) in
        let follows : Follows all_stay no_steps (snaps (stock hs) (map (λ c. (c, now (stock hs) c)) (source ∷ []))) (known h) record_new n =
        subst (λ r. Follows all_stay no_steps (snaps (stock hs) ((source, now (stock hs) source) ∷ [])) (known h) r n) then_is (subst (λ xs. Follows all_stay no_steps xs (known h) (with_flags new (record_then no_steps ss (known h))) n) ss_is planned.hidden.next) in
        record {
          climbs = subst (λ r. Climbs (carrier_route hs graph b (hidden_of r)) [] (b ∷ below graph b) hs' (move_to b n [] ∷ [])) (sym with_new_is)
              (carrier_begins hs kept.settled graph on.as_long levelled b there others_are (source ∷ []) here_are record_new names refl ends hs' (record { numbered = kept.numbered; texts = kept.texts }) (texts_fit (stock hs) kept.within) inside
              h planned.held held planned.set planned.hidden.same n planned.hidden.made all_stay follows inside_new fits);
        }
      where
        hidden_of : Record → Rising
        hidden_of r = with_record (record { stock = stock hs; moves = [] }) b all_stay r

        found_version : (v : ℕ) → version_in ((source, v) ∷ []) source ≡ Some v
        found_version v = rw (eq-eqb source source refl) refl

    pub if_begun : (hs' : List Held) (ss : List Snapshot) → ss ≡ snaps (stock hs) ((source, now (stock hs) source) ∷ []) → b < length hs → (result : Result Planned OutOfMemory)
        → ((h : Held) → slice_get hs b ≡ Some h → HasHiddenAt ss hs hs' b h new result) → IfOk result (HasBegunHidden hs hs' graph b new)
    if_begun hs' ss ss_is inside (Err e) told = tt
    if_begun hs' ss ss_is inside (Ok n) told = by (slice_get hs b) refl
      where
        by : (o : Option Held) → slice_get hs b ≡ o → HasBegunHidden hs hs' graph b new n
        by None e = absurd (past hs b e inside)
        by (Some h) e = has_begun hs' h inside e ss ss_is n (told h e)

    -- ---- handed on

    module _ (hs₁ : List Held) (n : Planned) (start : HasBegunHidden hs hs₁ graph b new n) where
      abbrev move : Move
      move = move_to b n []

      abbrev next : Rising
      next = rising_of (stock hs) (move_to b n [] ∷ [])

      begins_is : hidden_first (stock hs) b new ≡ rising_of (stock hs) (move_to b n [] ∷ [])
      begins_is = start.climbs.folded

      start_next : IsStart (stock hs) graph next
      start_next = record {
        levelled = levelled;
        len = on.as_long;
        same_count = start.climbs.rises.same_count;
        same_most = most_moved s move;
        names = ap (λ (u : Rising). sources_now u.stock) (sym begins_is) ∙ ap (λ r. sources_now (with_record (record { stock = stock hs; moves = [] }) b all_stay r).stock) with_new_is
            ∙ same_names hs kept.settled graph on.as_long levelled b there others_are (source ∷ []) here_are record_new names refl ends all_stay;
      }

      plain_next : ArePlain (step_in next.moves)
      plain_next = subst (λ (u : Rising). ArePlain (step_in u.moves)) begins_is
          (plain_record (record { stock = s; moves = [] }) b all_stay (with_flags new (record_now (stock hs) b)) (λ c m found. absurd (let e : None ≡ Some m = found in cc)))

      begins_next : Begins (map known hs) hs₁ graph (move_to b n [] ∷ []) (b ∷ []) (b ∷ below graph b)
      begins_next = record {
        is_start = start_next;
        others = λ c out. others_are c (not_only b c out);
        theirs = plain_way s next (order_in graph) plain_next;
        climbs = subst (λ u. Climbs (way (map known hs) graph (b ∷ []) (b ∷ below graph b) u) [] (b ∷ below graph b) hs₁ (move_to b n [] ∷ [])) begins_is start.climbs;
      }

      -- what the definitions make of the command
      lands : (hide show : List Span) → new ≡ elided flags hide show → flags ≢ new → turned_rising (Some b) (risen none_given next) ≡ elide_set (stock hs) b hide show
      unfolding elide_set
      lands hide show new_is other =
          ap (λ u. turned_rising (Some b) (risen none_given u)) (sym begins_is)
          ∙ ap (λ r. turned_rising (Some b) (risen none_given (with_record (record { stock = stock hs; moves = [] }) b all_stay r))) with_new_is
          ∙ sym (ap (λ r. hidden_set (stock hs) b r (elided (flags_of r) hide show)) is ∙ ap (hidden_set (stock hs) b (elision flags source version)) (sym new_is) ∙ rw (not_same flags new other) refl)

      pub hidden_lead : (hide show : List Span) → new ≡ elided flags hide show → flags ≢ new → ((h : Held) → slice_get hs b ≡ Some h → CanTurn h) → (f : FirstMoves) → f.graph ≡ graph → f.moves.items ≡ move_to b n [] ∷ [] → f.turned ≡ Some b → map (λ x. (x.source, step_seen x)) f.steps.items ≡ map move_seen f.moves.items
          → LeadsTo hs₁ (hidden_fault (stock hs) b hide show) (elide_set (stock hs) b hide show) f
      hidden_lead hide show new_is other could f graph_is moves turned seen =
          leads hs hs₁ start.climbs.same f graph (move_to b n [] ∷ []) (Some b) graph_is moves turned (b ∷ []) (b ∷ below graph b) begins_next seen
          (may_turn hs graph counts kept b there hs₁ start.climbs.same could) (hidden_fault (stock hs) b hide show) (elide_set (stock hs) b hide show)
          (lands hide show new_is other) refl

  -- the same places: nothing happens
  pub nothing_set : (hide show : List Span) → elided flags hide show ≡ flags → elide_set (stock hs) b hide show ≡ rising_of (stock hs) []
  unfolding elide_set
  nothing_set hide show same =
      ap (λ r. hidden_set (stock hs) b r (elided (flags_of r) hide show)) is ∙ ap (hidden_set (stock hs) b (elision flags source version)) same ∙ rw (same_itself flags) refl
