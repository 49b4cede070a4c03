-- One buffer further on the way.
use Rattle.std.proofs.Common.{◌≡◌, ◌≢◌, ℕ, ◌-◌, ◌<◌, ◌≤◌, ◌^◌, Bool, true, false, ◌&&◌, ◌⊎◌, inl, inr, List, [], ◌∷◌, ◌++◌, length, map, Option, Some, None, refl, sym, ap, ◌∙◌, subst, length-set}
use Rattle.std.specs.Prelude.{All, slice_get, option_map, nat_eq, is_some, is_none, MatchOption, if◌then◌else◌}
use Rattle.std.specs.List.{AllByRecursion as Each, list_any}
use Rattle.std.proofs.lemmas.Bool.{cases_Bool, cases_eq, eq-eqb, ne_eqb}
use Rattle.std.proofs.lemmas.List.{length-map, map-append}
use Rattle.ed_base.specs.declared.Member.{Member}
use Rattle.ed_base.specs.Numbers.{is_among}
use Rattle.ed_base.specs.Step.{Step}
use Rattle.ed_base.specs.ChangeList.{change_list, new_len, step}
use Rattle.ed_layers.specs.Records.{Record, base, projection, elision, is_carrier, is_elision, members_len, members_of, sources_of}
use Rattle.ed_layers.specs.SourceStep.{SourceStep}
use Rattle.ed_layers.specs.CarrierStep.{all_stay, carrier_step, record_trails}
use Rattle.ed_members.specs.Moving.{EndsInNew}
use Rattle.ed_project.specs.Texts.{found_text, text_in, text_over, versions_of}
use Rattle.ed_stock.specs.Stock.{Stock, Buffer, buffer, now, record_at, record_now, text_at, text_now, count, with_buffer}
use Rattle.ed_stock.specs.Versions.{Rising, step_in, at_now, is_moved, risen_at, none_given, next_record, with_record, with_version}
use Rattle.ed_held.specs.declared.held.Held.{Held}
use Rattle.ed_held.specs.declared.moves.Move.{Move}
use Rattle.ed_held.specs.declared.moves.Planned.{Planned}
use Rattle.ed_held.specs.Advancing.{AreOfSource, CanGoOn, next_of}
use Rattle.ed_layers.specs.Order.{overlap_fault}
use Rattle.ed_pieces.specs.Trails.{trails_in}
use Rattle.ed_pieces.specs.declared.trails.TrailRun.{TrailRun}
use Rattle.ed_climb.specs.Climbing.{CanRise, HandsUp, HasNext, is_over, record_after, source_snapshots}
use Rattle.ed_risen.specs.Founded.{Founded}
use Rattle.ed_risen.specs.Growing.{Grows}
use Rattle.ed_held.specs.Moves.{AreApart, IsPlannedAt, CanMake, changes_of, move_of, move_seen, record_of, rising_of, snapshot_after, snapshot_of, step_of, with_move}
use Rattle.ed_risen.specs.Rising.{EndsIn, HasStepped, Inside, IsLow, IsSettled, Rises}
use Rattle.ed_climb.specs.Route.{AreTrue, Climbs, IsNewest, IsReached, IsRoute, KeepTheirs, Route, newest}
use Rattle.ed_held.specs.Seen.{known, last_of, stock, stock_of, text_of}
use Rattle.ed_version.specs.declared.Snapshot.{Snapshot}
use Rattle.ed_climb.proofs.Advanced.{map_set}
use Rattle.ed_risen.proofs.Settled.{all_of}
use Rattle.ed_risen.proofs.FoundedLemmas.{each_weaker, founded_more}
use Rattle.ed_risen.proofs.Growth.{grown_now, grown_now_other, grown_record_other, grown_text_now, set_grows, set_here, set_other, version_grows}
use Rattle.ed_risen.proofs.NextRecords.{fits_named, grown_carrier_at, grown_carrier_text, next_carries, next_hidden, next_sources}
use Rattle.ed_risen.proofs.ShownRuns.{slots_len, stands}
use Rattle.ed_risen.proofs.Covering.{risen_cover}
use Rattle.ed_risen.proofs.Lengths.{Fits, length_text_over, step_in_old, step_in_push}
use Rattle.ed_risen.proofs.Texts.{named_text}
use Rattle.ed_climb.proofs.Moved.{any_moved, step_of_move}
use Rattle.ed_risen.proofs.RisingLemmas.{at_now_each, carrier_steps, levels, other_than, same_record, some_records, stays, unmoved_text}
use Rattle.ed_climb.proofs.Snapshots.{found_buffer, found_each, have_sources, held_buffer, members_inside, newest_same, snap_there, snaps, snaps_text, snaps_versions, snapshot_is, text_held, within_old}
use Rattle.ed_risen.proofs.Lists.{get_map, each_of, among_itself, among_last, among_more, among_push, any_same, each_push, fold_push, got, push_among}
use Rattle.ed_risen.proofs.Turns.{rests}

-- ---- small ones

some_none : (x : SourceStep) → Some x ≡ None → ⊥
some_none x h = absurd (cc)

abbrev pub stepped_by : Step → List (List (ℕ × ℕ)) → SourceStep
stepped_by x trails = record { step = x; trails = trails }

abbrev pub snapshot_by : ℕ → ℕ → List ℕ → Snapshot
snapshot_by b v text = record { buffer = b; version = v; text = text }

abbrev pub rising_to : Stock → List (ℕ × SourceStep) → Rising
rising_to x moves = record { stock = x; moves = moves }

-- what comes next by the definitions, over the sources as they are
next_again : (t : Stock) (b : ℕ) (steps : ℕ → Option SourceStep) (x : Record) → next_record t b steps None x ≡ next_of b steps (at_now t (sources_of x)) x
next_again t b steps (base text reiterated) = refl
next_again t b steps (projection members sources) = refl
next_again t b steps (elision flags source version) = rw (eq-eqb source source refl) refl

pub apart_push : (ms : List Move) (m : Move) → AreApart ms → Each (λ n. n.buffer ≢ m.buffer) ms → AreApart (ms ++ m ∷ [])
apart_push [] m h k = (tt, tt)
apart_push (n ∷ ns) m h k = (each_push (λ x. x.buffer ≢ n.buffer) ns m h.0 (λ e. k.0 (sym e)), apart_push ns m h.1 k.1)

none_of : (ms : List Move) (b : ℕ) → move_of ms b ≡ None → Each (λ m. m.buffer ≢ b) ms
none_of [] b h = tt
none_of (m ∷ ms) b h = by (nat_eq m.buffer b) refl h (none_of ms b)
  where
    by : (t : Bool) → nat_eq m.buffer b ≡ t → (if t then Some m else move_of ms b) ≡ None → (move_of ms b ≡ None → Each (λ n. n.buffer ≢ b) ms) → Each (λ n. n.buffer ≢ b) (m ∷ ms)
    by true t h more = absurd (cc)
    by false t h more = ((λ e. let f : nat_eq m.buffer b ≡ true = eq-eqb m.buffer b e in absurd (cc)), more h)

move_stays : (ms : List Move) (m : Move) (c : ℕ) → is_some (move_of ms c) ≡ true → is_some (move_of (ms ++ m ∷ []) c) ≡ true
move_stays [] m c h = absurd (cc)
move_stays (n ∷ ns) m c h = by (nat_eq n.buffer c) refl h (move_stays ns m c)
  where
    by : (t : Bool) → nat_eq n.buffer c ≡ t → is_some (if t then Some n else move_of ns c) ≡ true → (is_some (move_of ns c) ≡ true → is_some (move_of (ns ++ m ∷ []) c) ≡ true) → is_some (move_of ((n ∷ ns) ++ m ∷ []) c) ≡ true
    by true t h more = rw t refl
    by false t h more = rw t (more h)

held_count : (hs : List Held) → count (stock hs) ≡ length hs
held_count hs = length-map (map known hs) (λ k. k.buffer) ∙ length-map hs known

module _ (w : Route) (order : List ℕ) (route : IsRoute w order) (passed done : List ℕ) (hs : List Held) (ms : List Move) (climbs : Climbs w passed done hs ms) where
  abbrev s : Stock
  s = stock_of w.before

  abbrev r : Rising
  r = rising_of (stock_of w.before) ms

  abbrev t : Stock
  t = r.stock

  pub same_stock : stock hs ≡ stock_of w.before
  same_stock = ap stock_of climbs.same

  pub true_hs : AreTrue (map known hs)
  true_hs = subst AreTrue (sym climbs.same) route.true

  settled_hs : IsSettled (stock hs)
  settled_hs = subst IsSettled (sym same_stock) route.settled

  pub there_held : (c : ℕ) → c < count s → c < length hs
  there_held c there = subst (λ n. c < n) (ap count (sym same_stock) ∙ held_count hs) there

  -- the snapshot of a buffer that is there
  snapshot_newest : (c : ℕ) → c < count s → (o : Option Move) → move_of ms c ≡ o → snapshot_after hs ms c ≡ newest t c
  snapshot_newest c there (Some m) is = rw is (found_each (IsNewest t) ms c m climbs.newest is ∙ ap (newest t) (found_buffer ms c m is))
  snapshot_newest c there None is =
      let h : (h : Held) × (slice_get hs c ≡ Some h) = got hs c (there_held c there) in
      let still : step_in r.moves c ≡ None = step_of_move ms c ∙ ap (option_map _) is in
      let n : now t c ≡ now s c = ap (λ rs. length rs - 1) (climbs.rises.unmoved c still) in
      rw is (snapshot_is hs true_hs settled_hs c h.0 h.1 (subst (λ x. c < count x) (sym same_stock) there)
      ∙ ap (λ x. newest x c) same_stock
      ∙ newest_same s t c n (unmoved_text s w.height route.settled w.start done r climbs.rises c there still))

  pub snapshots_newest : (vs : List (ℕ × ℕ)) → Each (λ v. v.0 < count s) vs → map (λ v. snapshot_after hs ms v.0) vs ≡ snaps t vs
  snapshots_newest [] h = refl
  snapshots_newest (v ∷ vs) h = rw (snapshot_newest v.0 h.0 (move_of ms v.0) refl, snapshots_newest vs h.1) refl

  module _ (rest : List ℕ) (b : ℕ) (split : order ≡ passed ++ b ∷ rest) where
    pub reached : IsReached w passed b
    reached = route.reached passed rest b split

    -- what is done and comes now was done before the way began, and rests
    quiet_here : is_among b done ≡ true → is_moved r b ≡ false
    quiet_here in_ = elim (climbs.origin b in_) [
      | inl before ↦ absurd (let f : is_among b passed ≡ false = reached.fresh in cc)
      | inr at_start ↦ climbs.quiet b at_start
    ]

    not_begun : move_of ms b ≡ None → is_among b w.start ≡ false
    not_begun is = elim (cases_Bool (is_among b w.start)) [
      | inl in_ ↦ absurd (let e : is_some (move_of ms b) ≡ true = climbs.begun b in_ in let f : is_some (move_of ms b) ≡ false = ap is_some is in cc)
      | inr out ↦ out
    ]

    low_all : is_among b done ≡ false → Each (λ v. (is_among v.0 passed ≡ true) × (v.0 < count s) × (w.height v.0 < w.height b)) (sources_of (record_now s b))
    low_all out = reached.low (climbs.rises.started b out)

    pub closed : is_among b done ≡ false → Each (λ v. is_among v.0 done ≡ true) (sources_of (record_now s b))
    closed out = each_weaker (λ v. (is_among v.0 passed ≡ true) × (v.0 < count s) × (w.height v.0 < w.height b)) (λ v. is_among v.0 done ≡ true) (λ v h. climbs.covers v.0 h.0) (sources_of (record_now s b)) (low_all out)

    pub low : is_among b done ≡ false → IsLow s w.height b
    low out = each_weaker (λ (v : ℕ × ℕ). (is_among v.0 passed ≡ true) × (v.0 < count s) × (w.height v.0 < w.height b)) (λ (v : ℕ × ℕ). (v.0 < count s) × (w.height v.0 < w.height b)) (λ v h. (h.1, h.2)) (sources_of (record_now s b)) (low_all out)

    stayed : is_moved r b ≡ false → risen_at none_given r b ≡ r
    stayed rests = rw rests refl

    origin_more : (c : ℕ) → is_among c (b ∷ done) ≡ true → (is_among c (passed ++ b ∷ []) ≡ true) ⊎ (is_among c w.initial ≡ true)
    origin_more c i = elim (cases_eq c b) [
      | inl e ↦ inl (subst (λ x. is_among x (passed ++ b ∷ []) ≡ true) (sym e) (among_last passed b))
      | inr ne ↦ elim (climbs.origin c (other c ne i)) [ inl p ↦ inl (push_among passed b c p) | inr q ↦ inr q ]
    ]
      where
        other : (c : ℕ) → c ≢ b → is_among c (b ∷ done) ≡ true → is_among c done ≡ true
        other c ne i = let e : is_among c (b ∷ done) ≡ is_among c done = rw (ne_eqb c b ne) refl in sym e ∙ i

    covers_more : (c : ℕ) → is_among c (passed ++ b ∷ []) ≡ true → is_among c (b ∷ done) ≡ true
    covers_more c i = elim (among_push passed b c i) [
      | inl p ↦ among_more b c done (climbs.covers c p)
      | inr e ↦ subst (λ x. is_among x (b ∷ done) ≡ true) (sym e) (among_itself b done)
    ]

    -- ---- it stays

    pub passes : is_moved r b ≡ false → (done' : List ℕ) × Climbs w (passed ++ b ∷ []) done' hs ms
    passes rests = elim (cases_Bool (is_among b done)) [
      | inl in_ ↦ (
        done,
        record {
          same = climbs.same;
          rises = climbs.rises;
          folded = fold_push (risen_at none_given) w.first passed b ∙ ap (λ x. risen_at none_given x b) climbs.folded ∙ stayed rests;
          planned = climbs.planned;
          apart = climbs.apart;
          known_buffers = climbs.known_buffers;
          at_once = climbs.at_once;
          newest = climbs.newest;
          quiet = climbs.quiet;
          begun = climbs.begun;
          origin = λ c i. elim (climbs.origin c i) [ inl p ↦ inl (push_among passed b c p) | inr q ↦ inr q ];
          covers = λ c i. elim (among_push passed b c i) [ inl p ↦ climbs.covers c p | inr e ↦ subst (λ x. is_among x done ≡ true) (sym e) in_ ];
          fits = climbs.fits;
        },
      )
      | inr out ↦ (
        b ∷ done,
        record {
          same = climbs.same;
          rises = stays s w.height route.settled w.start done r climbs.rises b reached.there out (closed out) (low out) reached.shallow rests;
          folded = fold_push (risen_at none_given) w.first passed b ∙ ap (λ x. risen_at none_given x b) climbs.folded ∙ stayed rests;
          planned = climbs.planned;
          apart = climbs.apart;
          known_buffers = climbs.known_buffers;
          at_once = λ c i. among_more b c done (climbs.at_once c i);
          newest = climbs.newest;
          quiet = climbs.quiet;
          begun = climbs.begun;
          origin = origin_more;
          covers = covers_more;
          fits = climbs.fits;
        },
      )
    ]

    module _ (h : Held) (held : slice_get hs b ≡ Some h) where
      buffer_is : buffer s b ≡ (known h).buffer
      buffer_is = ap (λ x. buffer x b) (sym same_stock) ∙ held_buffer hs b h held

      -- its record, and the sources that it names
      pub record_is : record_now s b ≡ last_of (known h).buffer
      record_is = ap last_of buffer_is

      pub sources_are : sources_of (record_now s b) ≡ sources_of (last_of (known h).buffer)
      sources_are = ap sources_of record_is

      -- whether it has moved already, or a source of it has
      sources_moved : (is_among b w.start ≡ false) → is_moved r b ≡ is_over ms h
      sources_moved low =
          ap (λ cs. list_any (λ source. is_some (step_in r.moves source)) cs) (climbs.rises.names b low ∙ ap (map (λ v. v.0)) sources_are) ∙ any_moved ms (sources_of (last_of (known h).buffer))

      moves_by : (o : Option Move) (d : Bool) → move_of ms b ≡ o → is_among b done ≡ d → (is_none o && is_over ms h) ≡ is_moved r b
      moves_by (Some m) true is in_ = sym (quiet_here in_)
      moves_by (Some m) false is out = absurd (let e : Some (step_of m) ≡ None = ap (option_map (λ x. step_of x)) (sym is) ∙ sym (step_of_move ms b) ∙ climbs.rises.later b out in cc)
      moves_by None true is in_ = sym (sources_moved (not_begun is))
      moves_by None false is out = sym (sources_moved (climbs.rises.started b out))

      pub moves_here : (is_none (move_of ms b) && is_over ms h) ≡ is_moved r b
      moves_here = moves_by (move_of ms b) (is_among b done) refl refl

      -- ---- it goes along

      pub out_of : is_moved r b ≡ true → is_among b done ≡ false
      out_of moved = elim (cases_Bool (is_among b done)) [
        | inl in_ ↦ absurd (let f : is_moved r b ≡ false = quiet_here in_ in cc)
        | inr out ↦ out
      ]

      inside_by : (x : Record) → record_now s b ≡ x → Inside s x
      inside_by x is = subst (Inside s) is (route.settled.inside b reached.there)

      pub there_sources : is_moved r b ≡ true → Each (λ v. v.0 < count s) (sources_of (record_now s b))
      there_sources moved =
          each_weaker (λ (v : ℕ × ℕ). (v.0 < count s) × (w.height v.0 < w.height b)) (λ v. v.0 < count s) (λ v l. l.0) (sources_of (record_now s b)) (low (out_of moved))

      there_by : is_moved r b ≡ true → (x : Record) → record_now s b ≡ x → Each (λ v. v.0 < count s) (sources_of x)
      there_by moved x is = subst (λ y. Each (λ v. v.0 < count s) (sources_of y)) is (there_sources moved)

      -- a buffer that stands on others is a carrier
      carries : is_moved r b ≡ true → is_carrier (record_now s b) ≡ true
      carries moved = by (record_now s b) refl
        where
          by : (x : Record) → record_now s b ≡ x → is_carrier x ≡ true
          by (projection members sources) is = refl
          by (elision flags source version) is = refl
          by (base text reiterated) is =
              absurd (let f : is_moved r b ≡ false = ap (λ cs. list_any (λ source. is_some (step_in r.moves source)) cs) (climbs.rises.names b (climbs.rises.started b (out_of moved)) ∙ ap (λ x. map (λ v. v.0) (sources_of x)) is) in cc)

      still_text : (c : ℕ) → c < count s → step_in r.moves c ≡ None → text_now t c ≡ text_now s c
      still_text c there still = unmoved_text s w.height route.settled w.start done r climbs.rises c there still

      number : (known h).number ≡ b
      number = true_hs.numbered b (known h) (get_map known hs b h held)

      shown_are : is_moved r b ≡ true → source_snapshots hs ms (known h) ≡ snaps t (sources_of (record_now s b))
      shown_are moved = ap (map (λ v. snapshot_after hs ms v.0)) (sym sources_are) ∙ snapshots_newest (sources_of (record_now s b)) (there_sources moved)

      theirs_here : is_moved r b ≡ true → (members : List Member) (sources : List (ℕ × ℕ)) → record_now s b ≡ projection members sources → KeepTheirs b (step_in r.moves) members
      theirs_here moved members sources is =
          subst (λ (x : Rising). KeepTheirs b (step_in x.moves) members) climbs.folded (route.theirs passed rest b members sources split is (ap (λ x. is_moved x b) climbs.folded ∙ moved))

      go_by : is_moved r b ≡ true → (x : Record) → record_now s b ≡ x → CanGoOn b (step_in r.moves) (snaps t (sources_of x)) x
      go_by moved (base text reiterated) is = absurd (let e : is_carrier (base text reiterated) ≡ true = ap is_carrier (sym is) ∙ carries moved in cc)
      go_by moved (projection members sources) is =
          let there : Each (λ v. v.0 < count s) sources = there_by moved (projection members sources) is in
          let inside : Each (EndsIn s sources) members = (inside_by (projection members sources) is).ends in
          let theirs : KeepTheirs b (step_in r.moves) members = theirs_here moved members sources is in
          record {
            within = within_old s t (step_in r.moves) climbs.rises.moved still_text sources there members inside;
            inside = theirs.inside;
            order = theirs.order;
            there = have_sources s t (step_in r.moves) climbs.rises.moved still_text sources there members inside;
          }
      go_by moved (elision flags source version) is =
          let long : length flags ≡ length (text_now s source) = (inside_by (elision flags source version) is).1 in
          let there : source < count s = (there_by moved (elision flags source version) is).0 in
          let found : found_text (snaps t ((source, version) ∷ [])) source ≡ Some (text_now t source) = snap_there t ((source, version) ∷ []) source version (rw (eq-eqb source source refl) refl) in
          subst (λ o. MatchOption o ⊥ (AreOfSource (step_in r.moves) source (length flags))) (sym found) (climbs.fits source there, by long there (step_in r.moves source) refl)
        where
          by : length flags ≡ length (text_now s source) → source < count s → (o : Option SourceStep) → step_in r.moves source ≡ o → MatchOption o (length flags ≡ length (text_now t source)) (λ x. (x.step.old_len ≡ length flags) × (x.step.new_len ≡ length (text_now t source)))
          by long there None still = long ∙ ap length (sym (still_text source there still))
          by long there (Some x) stepped = (let h : HasStepped s t source x = climbs.rises.moved source x stepped in (h.from ∙ sym long, h.to))

      pub can_rise : is_moved r b ≡ true → CanRise hs ms (step_in r.moves) h
      can_rise moved = (
        subst (All (λ v. v.0 < length hs)) sources_are
            (all_of (λ (v : ℕ × ℕ). v.0 < length hs) (sources_of (record_now s b)) (each_weaker (λ (v : ℕ × ℕ). v.0 < count s) (λ (v : ℕ × ℕ). v.0 < length hs) (λ v l. there_held v.0 l) (sources_of (record_now s b)) (there_sources moved))),
        subst (λ c. CanGoOn c (step_in r.moves) (source_snapshots hs ms (known h)) (last_of (known h).buffer)) (sym number)
            (subst (CanGoOn b (step_in r.moves) (source_snapshots hs ms (known h))) record_is
            (subst (λ ss. CanGoOn b (step_in r.moves) ss (record_now s b)) (sym (shown_are moved)) (go_by moved (record_now s b) refl))),
      )

      -- ---- what comes next

      module _ (moved : is_moved r b ≡ true) where
        abbrev out : is_among b done ≡ false
        out = out_of moved

        -- the record that comes next by the definitions
        abbrev pub new : Record
        new = next_record t b (step_in r.moves) None (record_now s b)

        names : sources_of new ≡ at_now t (sources_of (record_now s b))
        names = next_sources t b (step_in r.moves) None (record_now s b)

        carries_new : is_carrier new ≡ true
        carries_new = next_carries t b (step_in r.moves) None (record_now s b) ∙ carries moved

        pub after_is : record_after hs ms (step_in r.moves) (known h) ≡ new
        after_is =
            ap (λ c. next_of c (step_in r.moves) (versions_of (source_snapshots hs ms (known h))) (last_of (known h).buffer)) number
            ∙ ap (λ vs. next_of b (step_in r.moves) vs (last_of (known h).buffer)) (ap versions_of (shown_are moved) ∙ snaps_versions t (sources_of (record_now s b)))
            ∙ ap (next_of b (step_in r.moves) (at_now t (sources_of (record_now s b)))) (sym record_is)
            ∙ sym (next_again t b (step_in r.moves) (record_now s b))

        texts_are : text_in (source_snapshots hs ms (known h)) ≡ named_text (record_at t) (sources_of new)
        texts_are = ap text_in (shown_are moved) ∙ snaps_text t (sources_of (record_now s b)) ∙ ap (named_text (record_at t)) (sym names)

        pub levels_now : (k : ℕ) → w.height b ≤ k → Each (Founded (record_at t) k) (sources_of new)
        levels_now k le = subst (Each (Founded (record_at t) k)) (sym names)
            (at_now_each t (Founded (record_at t) k) (sources_of (record_now s b))
            (each_weaker (λ (v : ℕ × ℕ). Founded (record_at t) (w.height b) (v.0, now t v.0)) (λ v. Founded (record_at t) k (v.0, now t v.0)) (λ v f. founded_more (record_at t) (w.height b) k (v.0, now t v.0) le f) (sources_of (record_now s b))
            (levels s w.height route.settled w.start done r climbs.rises b reached.there out (closed out) (low out) reached.shallow)))

        -- its members end inside their sources
        ends_if : (x : Record) → record_now s b ≡ x → All (EndsInNew (step_in r.moves)) (members_of new) → Each (EndsIn t (sources_of (next_record t b (step_in r.moves) None x))) (members_of (next_record t b (step_in r.moves) None x))
        ends_if (base text reiterated) is ends = tt
        ends_if (projection members sources) is ends =
            members_inside s t (step_in r.moves) climbs.rises.moved still_text sources (there_by moved (projection members sources) is) b members 0 members (inside_by (projection members sources) is).ends
            (subst (Each (EndsInNew (step_in r.moves))) (ap (λ x. members_of (next_record t b (step_in r.moves) None x)) is) (each_of (EndsInNew (step_in r.moves)) (members_of new) ends))
        ends_if (elision flags source version) is ends =
            (stands t (next_record t b (step_in r.moves) None (elision flags source version)) (next_hidden s w.height route.settled w.start done r climbs.rises b flags source version (there_by moved (elision flags source version) is).0 (inside_by (elision flags source version) is))).ends

        -- and it stands there, where none of them conflict
        inside_if : (x : Record) → record_now s b ≡ x → All (EndsInNew (step_in r.moves)) (members_of new) → overlap_fault (members_of new) ≡ None → Inside t (next_record t b (step_in r.moves) None x)
        inside_if (base text reiterated) is ends apart = tt
        inside_if (projection members sources) is ends apart = record {
          ends = ends_if (projection members sources) is ends;
          apart = ap (λ x. overlap_fault (members_of (next_record t b (step_in r.moves) None x))) (sym is) ∙ apart;
          cover = risen_cover s w.height route.settled w.start done r climbs.rises b sources members (there_by moved (projection members sources) is) (inside_by (projection members sources) is);
        }
        inside_if (elision flags source version) is ends apart =
            next_hidden s w.height route.settled w.start done r climbs.rises b flags source version (there_by moved (elision flags source version) is).0 (inside_by (elision flags source version) is)

        pub record_still : record_now t b ≡ record_now s b
        record_still = same_record s w.height route.settled w.start done r climbs.rises b reached.there out (closed out) (low out) reached.shallow

        there_now : b < count t
        there_now = subst (λ k. b < k) (sym climbs.rises.same_count) reached.there

        -- a stock that has it
        module _ (x : Stock) (grows : Grows t x b (next_record t b (step_in r.moves) None (record_now s b))) where
          pub next_text : text_now x b ≡ text_over (text_in (source_snapshots hs ms (known h))) (members_of new)
          next_text = grown_carrier_text t x b new grows (levels_now 8 reached.shallow) carries_new ∙ ap (λ f. text_over f (members_of new)) (sym texts_are)

          pub next_text_at : text_at x b (length (buffer t b).records) ≡ text_over (text_in (source_snapshots hs ms (known h))) (members_of new)
          next_text_at = grown_carrier_at t x b new grows (levels_now 8 reached.shallow) carries_new ∙ ap (λ f. text_over f (members_of new)) (sym texts_are)

          pub next_long : All (EndsInNew (step_in r.moves)) (members_of new) → length (text_now x b) ≡ members_len (members_of new)
          next_long ends =
              ap length (grown_carrier_text t x b new grows (levels_now 8 reached.shallow) carries_new)
              ∙ length_text_over (named_text (record_at t) (sources_of new)) (members_of new) (each_weaker (EndsIn t (sources_of new)) (Fits (named_text (record_at t) (sources_of new))) (fits_named t (sources_of new)) (members_of new) (ends_if (record_now s b) refl ends))

        module _ (hs' : List Held) (n : Planned) (next : HasNext hs hs' ms (step_in r.moves) b h n) (apart : overlap_fault (members_of (record_of n)) ≡ None) (ways : List TrailRun) (handed : HandsUp b (step_in r.moves) (record_of n) ways) where
          abbrev move : Move
          move = record { buffer = b; planned = n; trails = ways }

          abbrev made : Record
          made = record_of n

          made_is : record_of n ≡ new
          made_is = next.follows.record_is ∙ after_is

          inside_made : Inside t made
          inside_made = subst (Inside t) (sym made_is)
              (inside_if (record_now s b) refl (subst (λ x. All (EndsInNew (step_in r.moves)) (members_of x)) made_is next.ends) (ap (λ x. overlap_fault (members_of x)) (sym made_is) ∙ apart))

          names_made : sources_of made ≡ at_now t (sources_of (record_now s b))
          names_made = ap sources_of made_is ∙ names

          abbrev u : Stock
          u = with_move t move

          grows : Grows t u b made
          grows = version_grows t b made (changes_of n) there_now

          text_made : text_over (text_in (source_snapshots hs ms (known h))) (members_of new) ≡ (snapshot_of n).text
          text_made = ap (λ x. text_over (text_in (source_snapshots hs ms (known h))) (members_of x)) (sym after_is) ∙ sym next.follows.text

          text_then : text_now u b ≡ (snapshot_of n).text
          text_then = next_text u (subst (Grows t u b) made_is grows) ∙ text_made

          long : length (snapshot_of n).text ≡ members_len (members_of made)
          long = next.follows.long ∙ ap (λ x. members_len (members_of x)) (sym next.follows.record_is)

          -- the step
          text_was : text_of (known h) (length (known h).buffer.records - 1) ≡ text_now s b
          text_was = text_held hs true_hs settled_hs b h held (subst (λ x. b < count x) (sym same_stock) reached.there) ∙ ap (λ x. text_now x b) same_stock

          from_len : (step (changes_of n)).old_len ≡ length (text_now s b)
          from_len = next.follows.from ∙ ap length text_was

          step_is : step (changes_of n) ≡ carrier_step all_stay (step_in r.moves) (record_now t b) made
          step_is = next.follows.step ∙ ap (λ x. carrier_step all_stay (step_in r.moves) x (record_after hs ms (step_in r.moves) (known h))) (sym (record_still ∙ record_is)) ∙ ap (carrier_step all_stay (step_in r.moves) (record_now t b)) (sym next.follows.record_is)

          to_len : (step (changes_of n)).new_len ≡ length (text_now u b)
          unfolding carrier_step
          to_len = ap (λ x. x.new_len) step_is ∙ slots_len made ∙ sym long ∙ ap length (sym text_then)

          -- the same by the definitions
          abbrev with_text : Stock
          with_text = with_buffer t b (record (buffer t b) { records = (buffer t b).records ++ made ∷ [] })

          text_same : text_at with_text b (length (buffer t b).records) ≡ (snapshot_of n).text
          text_same = next_text_at with_text (subst (Grows t with_text b) made_is (set_grows t b made (record (buffer t b) { records = (buffer t b).records ++ made ∷ [] }) there_now refl)) ∙ text_made

          trails_are : record_trails b (is_elision made) (step_in r.moves) made ≡ trails_in ways (new_len (changes_of n))
          trails_are = sym handed ∙ ap (trails_in ways) (sym (next.follows.to ∙ long))

          changes_are : changes_of n ≡ change_list (carrier_step all_stay (step_in r.moves) (record_now t b) made) (text_at with_text b (length (buffer t b).records))
          changes_are = next.follows.changes ∙ ap (λ x. change_list x (snapshot_of n).text) (sym next.follows.step ∙ step_is) ∙ ap (change_list (carrier_step all_stay (step_in r.moves) (record_now t b) made)) (sym text_same)

          step_seen_is : (record { step = carrier_step all_stay (step_in r.moves) (record_now t b) made; trails = record_trails b (is_elision made) (step_in r.moves) made }) ≡ step_of move
          step_seen_is = ap (λ x. stepped_by x (record_trails b (is_elision made) (step_in r.moves) made)) (sym step_is) ∙ ap (stepped_by (step (changes_of n))) trails_are

          made_by_definition : with_record r b all_stay made ≡ record { stock = u; moves = r.moves ++ move_seen move ∷ [] }
          unfolding with_record
          made_by_definition =
              ap (λ c. rising_to (with_version t b made c) (r.moves ++ (b, stepped_by (carrier_step all_stay (step_in r.moves) (record_now t b) made) (record_trails b (is_elision made) (step_in r.moves) made)) ∷ [])) (sym changes_are)
              ∙ ap (λ x. rising_to u (r.moves ++ (b, x) ∷ [])) step_seen_is

          pushed : rising_of s (ms ++ move ∷ []) ≡ record { stock = u; moves = r.moves ++ move_seen move ∷ [] }
          pushed = ap (λ x. rising_to x (map move_seen (ms ++ move ∷ []))) (fold_push with_move s ms move) ∙ ap (rising_to u) (map-append move_seen ms (move ∷ []))

          rises_so : risen_at none_given r b ≡ rising_of s (ms ++ move ∷ [])
          rises_so = rw moved (ap (λ x. with_record r b all_stay (next_record t b (step_in r.moves) None x)) record_still ∙ ap (with_record r b all_stay) (sym made_is) ∙ made_by_definition ∙ sym pushed)

          -- ---- the way so far

          other : (c : ℕ) → is_among c done ≡ true → c ≢ b
          other c in_ = other_than done b c out in_

          unmoved_here : move_of ms b ≡ None
          unmoved_here = none_by (move_of ms b) refl
            where
              none_by : (o : Option Move) → move_of ms b ≡ o → o ≡ None
              none_by None found = refl
              none_by (Some m) found = absurd (some_none (step_of m) (ap (option_map (λ x. step_of x)) (sym found) ∙ sym (step_of_move ms b) ∙ climbs.rises.later b out))

          others : Each (λ m. m.buffer ≢ b) ms
          others = none_of ms b unmoved_here

          same_count : count u ≡ count t
          unfolding with_version
          same_count = length-set t.buffers b _

          rises_then : Rises s w.height w.start (b ∷ done) (record { stock = u; moves = r.moves ++ move_seen move ∷ [] })
          rises_then = carrier_steps s w.height route.settled w.start done r climbs.rises b reached.there out (closed out) (low out) reached.shallow made names_made (step_of move) u grows same_count from_len to_len inside_made

          newest_still : (m : Move) → (m.buffer ≢ b) → m.buffer < count s → IsNewest t m → IsNewest u m
          newest_still m ne in_ was = was ∙ newest_same t u m.buffer (grown_now_other t u b made grows m.buffer ne)
              (grown_text_now t u b made grows climbs.rises.founded m.buffer ne (some_records s w.height route.settled w.start done r climbs.rises m.buffer in_))

          newest_all : (xs : List Move) → Each (λ m. m.buffer ≢ b) xs → Each (λ m. m.buffer < count s) xs → Each (IsNewest t) xs → Each (IsNewest u) xs
          newest_all [] ne in_ was = tt
          newest_all (x ∷ xs) ne in_ was = (newest_still x ne.0 in_.0 was.0, newest_all xs ne.1 in_.1 was.1)

          newest_here : IsNewest u move
          newest_here = whole next.follows.number (next.follows.version ∙ sym versions_now) (sym text_then)
            where
              versions_now : now u b ≡ length (known h).buffer.records
              versions_now = grown_now t u b made grows ∙ ap length (climbs.rises.unmoved b (climbs.rises.later b out)) ∙ ap (λ (x : Buffer). length x.records) buffer_is

              whole : (snapshot_of n).buffer ≡ (known h).number → (snapshot_of n).version ≡ now u b → (snapshot_of n).text ≡ text_now u b → snapshot_of n ≡ newest u b
              whole e f g = ap (λ x. snapshot_by x (snapshot_of n).version (snapshot_of n).text) (e ∙ number) ∙ ap (λ x. snapshot_by b x (snapshot_of n).text) f ∙ ap (snapshot_by b (now u b)) g

          sources_still : (c : ℕ) → is_among c done ≡ true → is_moved (record { stock = u; moves = r.moves ++ move_seen move ∷ [] }) c ≡ is_moved r c
          sources_still c in_ =
              ap (λ (x : Record). list_any (λ source. is_some (step_in (r.moves ++ move_seen move ∷ []) source)) (map (λ v. v.0) (sources_of x))) (grown_record_other t u b made grows c (other c in_))
              ∙ any_same (λ source. is_some (step_in (r.moves ++ move_seen move ∷ []) source)) (λ source. is_some (step_in r.moves source)) (sources_of (record_now t c))
              (each_weaker (λ v. is_among v.0 done ≡ true) (λ v. is_some (step_in (r.moves ++ move_seen move ∷ []) v.0) ≡ is_some (step_in r.moves v.0)) (λ v i. step_still v.0 (other v.0 i) (step_in r.moves v.0) refl) (sources_of (record_now t c)) (climbs.rises.risen c in_).closed)
            where
              step_still : (d : ℕ) → d ≢ b → (o : Option SourceStep) → step_in r.moves d ≡ o → is_some (step_in (r.moves ++ move_seen move ∷ []) d) ≡ is_some (step_in r.moves d)
              step_still d ne (Some x) found = ap is_some (step_in_old r.moves b d (step_of move) x found ∙ sym found)
              step_still d ne None found = ap is_some (step_in_push r.moves b d (step_of move) found ∙ ap (λ z. if z then Some (step_of move) else None) (ne_eqb b d (λ e. ne (sym e))) ∙ sym found)

          fits_then : (c : ℕ) → c < count s → length (text_now u c) ≤ 2 ^ 22
          fits_then c in_ = elim (cases_eq c b) [
            | inl e ↦ subst (λ x. length (text_now u x) ≤ 2 ^ 22) (sym e) (subst (λ xs. length xs ≤ 2 ^ 22) (sym text_then) (subst (λ k. k ≤ 2 ^ 22) (sym long) next.fits))
            | inr ne ↦ subst (λ xs. length xs ≤ 2 ^ 22) (sym (grown_text_now t u b made grows climbs.rises.founded c ne (some_records s w.height route.settled w.start done r climbs.rises c in_))) (climbs.fits c in_)
          ]

          below : b < length hs
          below = there_held b reached.there

          planned_still : (m : Move) → m.buffer ≢ b → IsPlannedAt hs m → IsPlannedAt hs' m
          planned_still m ne was = subst (λ o. MatchOption o ⊥ (λ x. CanMake x m.planned)) (sym (ap (λ xs. slice_get xs m.buffer) next.set ∙ set_other hs b m.buffer next.held ne)) was

          planned_all : (xs : List Move) → Each (λ m. m.buffer ≢ b) xs → Each (IsPlannedAt hs) xs → Each (IsPlannedAt hs') xs
          planned_all [] ne was = tt
          planned_all (x ∷ xs) ne was = (planned_still x ne.0 was.0, planned_all xs ne.1 was.1)

          planned_here : IsPlannedAt hs' move
          planned_here = subst (λ o. MatchOption o ⊥ (λ x. CanMake x n)) (sym (ap (λ xs. slice_get xs b) next.set ∙ set_here hs b next.held below)) next.made

          pub climbs_on : Climbs w (passed ++ b ∷ []) (b ∷ done) hs' (ms ++ move ∷ [])
          climbs_on = record {
            same = ap (map known) next.set ∙ map_set known hs b h next.held held next.same ∙ climbs.same;
            rises = subst (Rises s w.height w.start (b ∷ done)) (sym pushed) rises_then;
            folded = fold_push (risen_at none_given) w.first passed b ∙ ap (λ x. risen_at none_given x b) climbs.folded ∙ rises_so;
            planned = each_push (IsPlannedAt hs') ms move (planned_all ms others climbs.planned) planned_here;
            apart = apart_push ms move climbs.apart others;
            known_buffers = each_push (λ m. m.buffer < count s) ms move climbs.known_buffers reached.there;
            at_once = λ c i. among_more b c done (climbs.at_once c i);
            newest = subst (λ x. Each (IsNewest x.stock) (ms ++ move ∷ [])) (sym pushed) (each_push (IsNewest u) ms move (newest_all ms others climbs.known_buffers climbs.newest) newest_here);
            quiet = λ c i. subst (λ x. is_moved x c ≡ false) (sym pushed) (sources_still c (climbs.at_once c i) ∙ climbs.quiet c i);
            begun = λ c i. move_stays ms move c (climbs.begun c i);
            origin = origin_more;
            covers = covers_more;
            fits = λ c in_. subst (λ x. length (text_now x.stock c) ≤ 2 ^ 22) (sym pushed) (fits_then c in_);
          }
