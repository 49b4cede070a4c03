-- The beginning of a group that replaces members of a projection.
use Rattle.std.proofs.Common.{◌≡◌, ◌≢◌, ℕ, zero, suc, ◌+◌, ◌-◌, ◌<◌, ◌≤◌, ◌^◌, true, false, inl, inr, List, [], ◌∷◌, ◌++◌, length, map, Option, Some, None, refl, sym, ap, ◌∙◌, subst, arith, append_assoc, length-append}
use Rattle.std.specs.Prelude.{All, Result, Ok, Err, IsErr, IsErrAnd, MatchResult, take, drop, slice_get, if◌then◌else◌}
use Rattle.std.proofs.lemmas.Bool.{cases_lt, le-ltb, lt-ltb}
use Rattle.std.proofs.lemmas.List.{length-drop, length-take-le}
use Rattle.ed_base.specs.declared.Member.{Member}
use Rattle.ed_base.specs.declared.Refusal.{Refusal}
use Rattle.ed_base.specs.declared.Which.{Which}
use Rattle.ed_base.specs.Numbers.{first_some, is_among}
use Rattle.ed_graph.specs.Standing.{IsLevelled, linked, sources_in as graph_sources}
use Rattle.ed_layers.specs.CarrierStep.{stay_around}
use Rattle.ed_layers.specs.Order.{mode_fault, overlap_fault}
use Rattle.ed_layers.specs.Records.{is_carrier, is_elision, members_len, members_of, projection}
use Rattle.ed_project.specs.Planning.{added_in}
use Rattle.ed_project.specs.Texts.{no_steps, versions_of}
use Rattle.ed_stock.specs.Limits.{stock_limits}
use Rattle.ed_stock.specs.Making.{sources_in, spans_replaced, spans_set}
use Rattle.ed_stock.specs.Stock.{count, now, record_now, sources_now, text_now}
use Rattle.ed_stock.specs.Versions.{at_now}
use Rattle.ed_version.specs.declared.Snapshot.{Snapshot}
use Rattle.ed_group.specs.Answers.{LiesIn, members_now, spans_fault}
use Rattle.ed_climb.specs.Refusals.{Refuses}
use Rattle.ed_group.specs.Begun.{HasBegunSpans}
use Rattle.ed_climb.specs.declared.counts.Counts.{Counts}
use Rattle.ed_climb.specs.declared.fault.PlanFault.{PlanFault}
use Rattle.ed_held.specs.declared.held.Held.{Held}
use Rattle.ed_held.specs.declared.moves.Planned.{Planned}
use Rattle.ed_held.specs.Following.{Follows}
use Rattle.ed_climb.specs.Kept.{IsKept}
use Rattle.ed_climb.specs.Limited.{passed}
use Rattle.ed_held.specs.Seen.{known, stock}
use Rattle.ed_held.specs.Respanning.{CanRespan, held_members}
use Rattle.ed_group.specs.Spanning.{HasReshown}
use Rattle.ed_climb.proofs.KeptNumbers.{held_count, held_len, refuses_this}
use Rattle.ed_risen.proofs.Lists.{among_itself, clash}
use Rattle.ed_group.proofs.Respanned.{linked_here, linked_len, linked_other, shown_lies}
use Rattle.ed_climb.proofs.Snapshots.{held_record, snaps, snaps_versions}
use Rattle.ed_group.proofs.Spanned.{spans_begin, spans_too_long}
use Rattle.ed_risen.proofs.Limits.{few_buffers, texts_fit}
use Rattle.ed_risen.proofs.RisingLemmas.{levels}

-- ---- lists

drop_front : {X : Type 0} (n : ℕ) (xs ys : List X) → n ≤ length xs → drop n (take n xs ++ ys) ≡ ys
drop_front zero xs ys le = refl
drop_front (suc n) [] ys le = absurd (omega arith)
drop_front (suc n) (x ∷ xs) ys le = drop_front n xs ys (omega arith)

take_front : {X : Type 0} (xs ys : List X) → take (length xs) (xs ++ ys) ≡ xs
take_front [] ys = refl
take_front (x ∷ xs) ys = ap (λ zs. x ∷ zs) (take_front xs ys)

-- what was put in is what stands in place of the part
pub added_is : (old : List Member) (first removed : ℕ) (added : List Member) → first + removed ≤ length old → added_in first removed old (spans_replaced old first removed added) ≡ added
added_is old first removed added part =
    let all : List Member = (take first old ++ added) ++ drop (first + removed) old in
    let long : length ((take first old ++ added) ++ drop (first + removed) old) - (length old - (first + removed)) - first ≡ length added =
    omega (arith, length-append (take first old ++ added) (drop (first + removed) old), length-append (take first old) added, length-take-le first old (omega arith), length-drop (first + removed) old) in
    ap (λ k. take k (drop first ((take first old ++ added) ++ drop (first + removed) old))) long
    ∙ ap (λ xs. take (length added) (drop first xs)) (append_assoc (take first old) added (drop (first + removed) old))
    ∙ ap (take (length added)) (drop_front first old (added ++ drop (first + removed) old) (omega arith))
    ∙ take_front added (drop (first + removed) old)

-- a buffer that isn't the only one
pub not_only : (b c : ℕ) → is_among c (b ∷ []) ≡ false → c ≢ b
not_only b c out e = clash (is_among c (b ∷ [])) (subst (λ d. is_among d (b ∷ []) ≡ true) (sym e) (among_itself b [])) out

-- a refusal that is handed on
pub handed_on : (X : Type 0) (o : Option Refusal) (result : Result X PlanFault) (e : PlanFault) → IsErr result × IsErrAnd result (λ f. f ≡ e) → Refuses {X = Unit {0}} o (Err e) → MatchResult result (λ r. Unit {0}) (λ f. Refuses {X = Unit {0}} o (Err f))
handed_on X o (Ok x) e h r = absurd h.1
handed_on X o (Err f) e h r = subst (λ g. Refuses {X = Unit {0}} o (Err g)) (sym h.1) r

-- ---- among the buffers that are held

module _ (hs : List Held) (graph : List (List ℕ)) (counts : Counts) (kept : IsKept (map known hs) graph counts) (b : ℕ) (inside : b < length hs) (carrier : is_carrier (record_now (stock hs) b) ≡ true) where
  pub there : b < count (stock hs)
  there = let a : length graph ≡ length hs = held_len hs graph counts kept in let e : length graph ≡ count (stock hs) = held_count hs graph counts kept in omega arith

  pub members_are : (h : Held) → slice_get hs b ≡ Some h → members_now (stock hs) b ≡ held_members h
  members_are h is = ap members_of (held_record hs b h is)

  module _ (plain : is_elision (record_now (stock hs) b) ≡ false) (first removed : ℕ) (part : first + removed ≤ length (members_now (stock hs) b)) (added : List Member) where
    -- what was put in, of the members that are held
    pub added_here : (h : Held) → slice_get hs b ≡ Some h → added_in first removed (held_members h) (spans_replaced (members_now (stock hs) b) first removed added) ≡ added
    added_here h is =
        let are : members_now (stock hs) b ≡ held_members h = members_are h is in
        ap (λ xs. added_in first removed (held_members h) (spans_replaced xs first removed added)) are ∙ added_is (held_members h) first removed added (subst (λ xs. first + removed ≤ length xs) are part)

    pub can_respan : (h : Held) → slice_get hs b ≡ Some h → (ms : List Member) → ms ≡ spans_replaced (members_now (stock hs) b) first removed added → CanRespan h first removed ms
    can_respan h is ms ms_is =
        let are : members_now (stock hs) b ≡ held_members h = members_are h is in
        record {
          carrier = subst (λ x. is_carrier x ≡ true) (held_record hs b h is) carrier;
          plain = subst (λ x. is_elision x ≡ false) (held_record hs b h is) plain;
          part = record {
            part = subst (λ xs. first + removed ≤ length xs) are part;
            others = ms_is ∙ ap (λ xs. spans_replaced xs first removed added) are ∙ ap (spans_replaced (held_members h) first removed) (sym (ap (added_in first removed (held_members h)) ms_is ∙ added_here h is));
          };
        }

    module _ (levelled : IsLevelled graph) (lies : All (LiesIn (stock hs)) added) where
      abbrev shown : List Member
      shown = spans_replaced (members_now (stock hs) b) first removed added

      abbrev sources : List ℕ
      sources = sources_in [] (spans_replaced (members_now (stock hs) b) first removed added)

      abbrev named : List (ℕ × ℕ)
      named = map (λ c. (c, now (stock hs) c)) (sources_in [] (spans_replaced (members_now (stock hs) b) first removed added))

      -- too long a text
      pub long_refused : IsLevelled (linked graph b (sources_in [] (spans_replaced (members_now (stock hs) b) first removed added))) → spans_fault (stock hs) b first removed added ≡ first_some (stock_limits (spans_set (stock hs) b first removed added).stock)
          → (r : Refusal) (k : ℕ) → k ≡ members_len (spans_replaced (members_now (stock hs) b) first removed added) → passed Which.Units (2 ^ 22) k ≡ Some r → Refuses {X = Unit {0}} (spans_fault (stock hs) b first removed added) (Err (PlanFault.Refused r))
      long_refused then_levelled limits r k k_is over = elim (cases_lt (2 ^ 22) k) [
        | inr le ↦ absurd (none_some r (let e : passed Which.Units (2 ^ 22) k ≡ None = ap (λ t. if t then Some (Refusal.Limit Which.Units k) else None) (le-ltb (2 ^ 22) k le) in sym e ∙ over))
        | inl l ↦ refuses_this (Unit {0}) (spans_fault (stock hs) b first removed added) r
            (limits
            ∙ spans_too_long hs kept.settled (linked graph b sources) (linked_len hs graph counts kept levelled b there first removed added lies sources) then_levelled b there (linked_other hs graph counts kept levelled b there first removed added lies sources) shown
            (linked_here hs graph counts kept levelled b there first removed added lies sources) (shown_lies hs graph counts kept levelled b there first removed added lies) first removed added refl (few_buffers (stock hs) kept.within) (texts_fit (stock hs) kept.within) (subst (λ n. 2 ^ 22 < n) k_is l)
            ∙ ap (λ n. Some (Refusal.Limit Which.Units n)) (sym k_is)
            ∙ sym (ap (λ t. if t then Some (Refusal.Limit Which.Units k) else None) (lt-ltb (2 ^ 22) k l)) ∙ over)
      ]
        where
          none_some : (r : Refusal) → None ≡ Some r → ⊥
          none_some r h = absurd (cc)

      at_now_by : (xs : List ℕ) → at_now (stock hs) (map (λ c. (c, now (stock hs) c)) xs) ≡ map (λ c. (c, now (stock hs) c)) xs
      at_now_by [] = refl
      at_now_by (x ∷ xs) = ap (λ rest. (x, now (stock hs) x) ∷ rest) (at_now_by xs)

      -- it begins
      pub has_begun : (g : List (List ℕ)) → g ≡ linked graph b (sources_in [] (spans_replaced (members_now (stock hs) b) first removed added)) → IsLevelled g → spans_fault (stock hs) b first removed added ≡ first_some (stock_limits (spans_set (stock hs) b first removed added).stock)
          → overlap_fault (spans_replaced (members_now (stock hs) b) first removed added) ≡ None → mode_fault (λ c. length (text_now (stock hs) c)) (spans_replaced (members_now (stock hs) b) first removed added) ≡ None
          → (hs' : List Held) (h : Held) → slice_get hs b ≡ Some h → (ms : List Member) → ms ≡ spans_replaced (members_now (stock hs) b) first removed added → members_len ms ≤ 2 ^ 22
          → (ss : List Snapshot) → ss ≡ snaps (stock hs) (map (λ c. (c, now (stock hs) c)) (sources_in [] (spans_replaced (members_now (stock hs) b) first removed added)))
          → (n : Planned) → HasReshown ss hs hs' b h first removed ms (Ok n) → HasBegunSpans hs hs' graph b first removed added (g, n)
      has_begun g g_is levels limits apart cover hs' h is ms ms_is fits ss ss_is n planned =
          let graph_len : length g ≡ count (stock hs) = ap length g_is ∙ linked_len hs graph counts kept levelled b there first removed added lies sources in
          let others : (c : ℕ) → c ≢ b → graph_sources g c ≡ sources_now (stock hs) c = λ c ne. ap (λ x. graph_sources x c) g_is ∙ linked_other hs graph counts kept levelled b there first removed added lies sources c ne in
          let here : graph_sources g b ≡ sources_in [] shown = ap (λ x. graph_sources x b) g_is ∙ linked_here hs graph counts kept levelled b there first removed added lies sources in
          let named_is : versions_of ss ≡ named = ap versions_of ss_is ∙ snaps_versions (stock hs) named ∙ at_now_by sources in
          let follows : Follows (stay_around first removed (length added)) no_steps (snaps (stock hs) named) (known h) (projection shown named) n =
          subst (λ xs. Follows (stay_around first removed (length xs)) no_steps (snaps (stock hs) named) (known h) (projection shown named) n) (added_here h is)
          (subst (λ xs. Follows (stay_around first removed (length (added_in first removed (held_members h) xs))) no_steps (snaps (stock hs) named) (known h) (projection xs named) n) ms_is
          (subst (λ vs. Follows (stay_around first removed (length (added_in first removed (held_members h) ms))) no_steps (snaps (stock hs) named) (known h) (projection ms vs) n) named_is
          (subst (λ xs. Follows (stay_around first removed (length (added_in first removed (held_members h) ms))) no_steps xs (known h) (projection ms (versions_of ss)) n) ss_is planned.shown.next))) in
          record {
            graph_is = g_is;
            levelled = levels;
            limits = limits;
            climbs = spans_begin hs kept.settled g graph_len levels b there others shown here (shown_lies hs graph counts kept levelled b there first removed added lies) hs' (record { numbered = kept.numbered; texts = kept.texts }) (texts_fit (stock hs) kept.within) inside
                h planned.held is planned.set planned.shown.same n planned.shown.made (stay_around first removed (length added)) follows apart cover (subst (λ xs. members_len xs ≤ 2 ^ 22) ms_is fits);
          }
