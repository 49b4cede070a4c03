-- What the first versions of a group lead to.
use Rattle.std.proofs.Common.{◌≡◌, ℕ, ◌<◌, ◌^◌, true, List, [], length, map, fold, Option, Some, None, Result, Ok, Err, refl, sym, ap, ◌∙◌, subst, inl, inr}
use Rattle.std.specs.Prelude.{IfOk, MatchOption, slice_get}
use Rattle.std.specs.Option.{option_map_or}
use Rattle.std.specs.List.{AllByRecursion as Each}
use Rattle.std.proofs.lemmas.List.{length-map}
use Rattle.std.proofs.lemmas.Option.{slice_get_within}
use Rattle.ed_base.specs.Numbers.{first_some, is_among, places}
use Rattle.ed_base.specs.declared.Refusal.{Refusal}
use Rattle.ed_base.specs.declared.Which.{Which}
use Rattle.ed_graph.specs.Standing.{height_in, order_in}
use Rattle.ed_layers.specs.SourceStep.{SourceStep}
use Rattle.ed_project.specs.declared.ProjectionFault.{ProjectionFault}
use Rattle.ed_stock.specs.Limits.{over, some_over, stock_limits}
use Rattle.ed_stock.specs.Stock.{Stock, count, graph_order, now, record_at, sources_now, text_now}
use Rattle.ed_stock.specs.Versions.{Rising, none_given, risen, versions_made}
use Rattle.ed_risen.specs.Counting.{member_count, turned_in}
use Rattle.ed_risen.specs.Founded.{Extends}
use Rattle.ed_climb.specs.Refusals.{Refuses}
use Rattle.ed_climb.specs.Begins.{Begins, CanBegin, LeadsTo, landed_from, turned_rising, way}
use Rattle.ed_climb.specs.declared.beginning.FirstMoves.{FirstMoves}
use Rattle.ed_members.specs.Steps.{step_seen}
use Rattle.ed_climb.specs.Counted.{AreCounts, counts_after, told}
use Rattle.ed_climb.specs.Refusals.{carried_fault}
use Rattle.ed_climb.specs.Group.{IsPlanned, MayTurn, Plan, known_after, known_made, known_moved, outcome, set_known}
use Rattle.ed_held.specs.Making.{CanTurn, known_turned}
use Rattle.ed_climb.specs.Kept.{IsKept}
use Rattle.ed_climb.specs.Limited.{count_then, limit_of}
use Rattle.ed_held.specs.Moves.{AreApart, IsPlannedAt, move_seen, rising_of, with_move}
use Rattle.ed_climb.specs.Route.{AreTrue, Climbs, HasClimbed, IsRoute, IsTooLong, Route}
use Rattle.ed_held.specs.Seen.{Known, known, stock, stock_of, seen}
use Rattle.ed_climb.specs.declared.counts.Counts.{Counts}
use Rattle.ed_climb.specs.declared.fault.PlanFault.{PlanFault}
use Rattle.ed_held.specs.declared.held.Held.{Held}
use Rattle.ed_held.specs.declared.moves.Move.{Move}
use Rattle.ed_risen.proofs.FoundedLemmas.{each_weaker}
use Rattle.ed_risen.proofs.Limits.{few_buffers, units_fit}
use Rattle.ed_risen.proofs.Starts.{all_there, count_left, few_left, linked_left, order_left, risen_is}
use Rattle.ed_risen.proofs.Turning.{same_now, same_records, turned_limits}
use Rattle.ed_climb.proofs.AddedUp.{all_counts}
use Rattle.ed_climb.proofs.Committed.{stock_folded}
use Rattle.ed_climb.proofs.CountedThen.{counts_are}
use Rattle.ed_climb.proofs.Leaving.{kept_then}
use Rattle.ed_climb.proofs.Moved.{told_made}
use Rattle.ed_climb.proofs.Refused.{too_long_refused}
use Rattle.ed_climb.proofs.Routes.{all_come, is_route}
use Rattle.ed_climb.proofs.TurnedKept.{may_turn, turned_kept}
use Rattle.ed_climb.proofs.Within.{limits_are}

-- ---- answers

pub refuses_memory : (X : Type 0) (o : Option Refusal) (e : PlanFault) → e ≡ PlanFault.OutOfMemory → Refuses {X = X} o (Err e)
refuses_memory X None e h = h
refuses_memory X (Some r) e h = inr h

pub refuses_told : (X : Type 0) (o : Option Refusal) (r : Refusal) → o ≡ Some r → Refuses {X = X} o (Err (PlanFault.Refused r))
refuses_told X o r h = rw h (inl refl)

-- the refusal of the first buffer in this order that has too many members once the moves are made
abbrev pub over_then : List Held → List Move → List ℕ → Option Refusal
over_then hs ms order = some_over Which.Members 1024 (map (count_then hs ms) order)

held_count : (hs : List Held) → count (stock hs) ≡ length hs
held_count hs = length-map (map known hs) (λ (k : Known). k.buffer) ∙ length-map hs known

module _ (hs : List Held) (graph : List (List ℕ)) (counts : Counts) (kept : IsKept (map known hs) graph counts) (g : List (List ℕ)) (ms₁ : List Move) (start initial : List ℕ) (begins : Begins (map known hs) hs g ms₁ start initial) where
  abbrev s : Stock
  s = stock hs

  abbrev first : Rising
  first = rising_of (stock hs) ms₁

  abbrev w : Route
  w = way (map known hs) g start initial (rising_of (stock hs) ms₁)

  true_here : AreTrue (map known hs)
  true_here = record { numbered = kept.numbered; texts = kept.texts }

  pub route : IsRoute (way (map known hs) g start initial (rising_of (stock hs) ms₁)) (order_in g)
  route = is_route w g begins.is_start.len begins.others begins.is_start.levelled refl true_here kept.settled begins.theirs

  -- a buffer whose members can be set once more
  may_there : (c : ℕ) → MayTurn hs c → c < count s
  may_there c may = by (slice_get hs c) refl may
    where
      by : (o : Option Held) → slice_get hs c ≡ o → MatchOption o ⊥ CanTurn → c < count s
      by None is m = absurd m
      by (Some h) is m = subst (λ n. c < n) (sym (held_count hs)) (slice_get_within hs c h is)

  turned_same : (o : Option ℕ) → MatchOption o (Unit {0}) (MayTurn hs) → (t : Stock) → count t ≡ count s → first_some (stock_limits (turned_in t o)) ≡ first_some (stock_limits t)
  turned_same None may t same = refl
  turned_same (Some c) may t same = turned_limits t c (subst (λ n. c < n) (sym same) (may_there c may))

  count_risen : count (risen none_given first).stock ≡ count s
  count_risen = ap (λ (u : Rising). count u.stock) (risen_is s g first begins.is_start) ∙ count_left s g first begins.is_start

  -- ---- a text on the way would be too long

  too_long : (len : ℕ) → IsTooLong w (order_in g) len → first_some (stock_limits (risen none_given first).stock) ≡ Some (Refusal.Limit Which.Units len)
  too_long len long =
      ap (λ (u : Rising). first_some (stock_limits u.stock)) (risen_is s g first begins.is_start)
      ∙ too_long_refused w (order_in g) route (all_there s g first begins.is_start) len long (order_left s g first begins.is_start) (few_left s g first begins.is_start (few_buffers s kept.within))

  pub stopped : (o : Option ℕ) → MatchOption o (Unit {0}) (MayTurn hs) → (X : Type 0) (hs₂ : List Held) (ms : List Move) (f : ProjectionFault) → HasClimbed (way (map known hs) g start initial (rising_of (stock hs) ms₁)) (order_in g) hs₂ ms (Err f)
      → Refuses {X = X} (first_some (stock_limits (turned_rising o (risen none_given (rising_of (stock hs) ms₁))).stock)) (Err (carried_fault f))
  stopped o may X hs₂ ms f climbed = elim climbed [
    | inl memory ↦ refuses_memory X (first_some (stock_limits (turned_in (risen none_given first).stock o))) (carried_fault f) (ap carried_fault memory)
    | inr why ↦ subst (λ e. Refuses {X = X} (first_some (stock_limits (turned_in (risen none_given first).stock o))) (Err (carried_fault e))) (sym why.1)
        (refuses_told X (first_some (stock_limits (turned_in (risen none_given first).stock o))) (Refusal.Limit Which.Units why.0) (turned_same o may (risen none_given first).stock count_risen ∙ too_long why.0 why.2))
  ]

  -- ---- the way is gone

  module _ (hs₂ : List Held) (done : List ℕ) (ms : List Move) (climbs : Climbs (way (map known hs) g start initial (rising_of (stock hs) ms₁)) (order_in g) done hs₂ ms) where
    abbrev t : Stock
    t = fold with_move (stock hs) ms

    abbrev ks : List Known
    ks = fold known_moved (map known hs) ms

    ends : risen none_given first ≡ rising_of s ms
    ends = risen_is s g first begins.is_start ∙ climbs.folded

    all_done : (d : ℕ) → d < count s → is_among d done ≡ true
    all_done d in_ = climbs.covers d (all_come w g begins.is_start.len begins.others begins.is_start.levelled refl true_here kept.settled begins.theirs d in_)

    ordered : graph_order t ≡ order_in g
    ordered = ap (λ (u : Rising). graph_order u.stock) (sym climbs.folded) ∙ order_left s g first begins.is_start

    -- the members of all buffers, counted anew
    pub order_held : Each (λ b. b < length hs₂) (order_in g)
    order_held = each_weaker (λ b. b < count s) (λ b. b < length hs₂) (λ b l. subst (λ n. b < n) (ap (λ xs. count (stock_of xs)) (sym climbs.same) ∙ held_count hs₂) l) (order_in g) (all_there s g first begins.is_start)

    limited : some_over Which.Members 1024 (map (member_count t) (graph_order t)) ≡ over_then hs₂ ms (order_in g)
    limited =
        ap (λ xs. some_over Which.Members 1024 (map (member_count t) xs)) ordered
        ∙ ap (λ xs. some_over Which.Members 1024 (map (member_count (fold with_move (stock_of xs) ms)) (order_in g))) (sym climbs.same)
        ∙ ap (some_over Which.Members 1024) (counts_are hs₂ ms climbs.apart (order_in g) order_held)

    are_then : AreCounts (counts_after counts ms) t
    are_then = all_counts ms s counts climbs.known_buffers (record { inserted = kept.inserted; versions = kept.versions; placements = kept.placements }) kept.settled.some

    left : stock_of ks ≡ t
    left = stock_folded (map known hs) ms

    limits_then : first_some (stock_limits t) ≡ limit_of None (counts_after counts ms) (over_then hs₂ ms (order_in g))
    limits_then =
        ap (λ y. first_some (stock_limits y)) (sym left)
        ∙ limits_are ks (counts_after counts ms) (subst (AreCounts (counts_after counts ms)) (sym left) are_then) None (over_then hs₂ ms (order_in g))
        (ap (over Which.Buffers 64) (ap count left ∙ climbs.rises.same_count) ∙ few_buffers s kept.within)
        (ap (λ y. some_over Which.Units (2 ^ 22) (map (λ d. length (text_now y d)) (graph_order y))) left ∙ units_fit t (λ d in_. climbs.fits d (subst (λ n. d < n) climbs.rises.same_count in_)))
        (ap (λ y. some_over Which.Members 1024 (map (member_count y) (graph_order y))) left ∙ limited)

    linked_then : g ≡ map (sources_now t) (places (length hs))
    linked_then =
        linked_left s g first begins.is_start
        ∙ ap (λ (u : Rising). map (sources_now u.stock) (places (count s))) climbs.folded
        ∙ ap (λ n. map (sources_now t) (places n)) (held_count hs)

    now_turned : (o : Option ℕ) → MatchOption o (Unit {0}) (MayTurn hs) → now (turned_in t o) ≡ now t
    now_turned None may = refl
    now_turned (Some c) may = same_now t c (subst (λ n. c < n) (sym climbs.rises.same_count) (may_there c may))

    records_turned : (o : Option ℕ) → MatchOption o (Unit {0}) (MayTurn hs) → record_at (turned_in t o) ≡ record_at t
    records_turned None may = refl
    records_turned (Some c) may = same_records t c (subst (λ n. c < n) (sym climbs.rises.same_count) (may_there c may))

    may_then : (o : Option ℕ) → MatchOption o (Unit {0}) (MayTurn hs) → MatchOption o (Unit {0}) (MayTurn hs₂)
    may_then None may = tt
    may_then (Some c) may = may_turn hs graph counts kept c (may_there c may) hs₂ climbs.same (λ h is. subst (λ (o : Option Held). MatchOption o ⊥ CanTurn) is may)

    -- what an answer says, where one buffer may have turned once more
    module _ (o : Option ℕ) (may : MatchOption o (Unit {0}) (MayTurn hs)) where
      pub fault_is : first_some (stock_limits (turned_rising o (risen none_given (rising_of (stock hs) ms₁))).stock) ≡ limit_of None (counts_after counts ms) (over_then hs₂ ms (order_in g))
      fault_is = turned_same o may (risen none_given first).stock count_risen ∙ ap (λ (u : Rising). first_some (stock_limits u.stock)) ends ∙ limits_then

      module _ (plan : Plan) (moves : plan.moves ≡ ms) (turned : plan.turned ≡ o) (graph_is : plan.graph ≡ g) (counts_are : plan.counts ≡ counts_after counts ms) (versions : plan.versions ≡ map told ms) (limit : limit_of None (counts_after counts ms) (over_then hs₂ ms (order_in g)) ≡ None) where
        stock_then : outcome s plan ≡ turned_in t o
        stock_then = ap (λ x. turned_in (fold with_move s plan.moves) x) turned ∙ ap (λ xs. turned_in (fold with_move s xs) o) moves

        pub outcome_is : outcome (stock hs) plan ≡ (turned_rising o (risen none_given (rising_of (stock hs) ms₁))).stock
        outcome_is = stock_then ∙ ap (λ (u : Rising). turned_in u.stock o) (sym ends)

        pub versions_are : plan.versions ≡ versions_made (turned_rising o (risen none_given (rising_of (stock hs) ms₁)))
        versions_are =
            versions ∙ told_made t ms climbs.newest
            ∙ ap (λ (f : ℕ → ℕ). map (λ (m : ℕ × SourceStep). (m.0, f m.0)) (map move_seen ms)) (sym (now_turned o may))
            ∙ ap (λ (u : Rising). versions_made (turned_rising o u)) (sym ends)

        kept_before : IsKept ks plan.graph plan.counts
        kept_before = kept_then hs hs₂ climbs.same graph plan.graph counts plan.counts kept (height_in g) start done ms climbs.rises climbs.apart climbs.newest all_done
            (graph_is ∙ linked_then) (limits_then ∙ limit) (subst (λ y. AreCounts y t) (sym counts_are) are_then)

        kept_after : (x : Option ℕ) → MatchOption x (Unit {0}) (MayTurn hs) → IsKept (option_map_or (λ c. set_known known_turned c ks) x ks) plan.graph plan.counts
        kept_after None m = kept_before
        kept_after (Some c) m = turned_kept ks c plan.graph plan.counts kept_before (subst (λ n. c < n) (sym (ap count left ∙ climbs.rises.same_count)) (may_there c m))

        known_is : known_after (map known hs₂) plan ≡ option_map_or (λ c. set_known known_turned c ks) o ks
        known_is =
            ap (λ k. known_made k plan.moves plan.turned) climbs.same
            ∙ ap (λ x. known_made (map known hs) plan.moves x) turned
            ∙ ap (λ xs. option_map_or (λ c. set_known known_turned c (fold known_moved (map known hs) xs)) o (fold known_moved (map known hs) xs)) moves

        pub group_planned : IsPlanned hs₂ plan
        group_planned = record {
          made = subst (Each (IsPlannedAt hs₂)) (sym moves) climbs.planned;
          apart = subst AreApart (sym moves) climbs.apart;
          turning = subst (λ x. MatchOption x (Unit {0}) (MayTurn hs₂)) (sym turned) (may_then o may);
          kept = subst (λ k. IsKept k plan.graph plan.counts) (sym known_is) (kept_after o may);
          extends = subst (λ y. Extends (record_at y) (record_at (outcome y plan))) (sym (ap stock_of climbs.same)) (subst (λ y. Extends (record_at s) (record_at y)) (sym stock_then)
              (subst (Extends (record_at s)) (sym (records_turned o may)) climbs.rises.extends));
        }

-- ---- first versions as they are handed on

module _ (hs hs₁ : List Held) (same : map known hs₁ ≡ map known hs) (f : FirstMoves) (g : List (List ℕ)) (ms : List Move) (o : Option ℕ) (graph_is : f.graph ≡ g) (moves_are : f.moves.items ≡ ms) (turned_is : f.turned ≡ o) where
  pub leads : (start initial : List ℕ) → Begins (map known hs) hs₁ g ms start initial → map (λ s. (s.source, step_seen s)) f.steps.items ≡ map move_seen f.moves.items
      → MatchOption o (Unit {0}) (MayTurn hs₁)
      → (fault : Option Refusal) (landed : Rising) → turned_rising o (risen none_given (rising_of (stock hs) ms)) ≡ landed → fault ≡ first_some (stock_limits landed.stock) → LeadsTo hs₁ fault landed f
  leads start initial begins seen turning fault landed lands allowed = record {
    begun = record {
      begins = (
        start,
        initial,
        subst (λ ks. Begins ks hs₁ f.graph f.moves.items start initial) (sym same)
            (subst (λ x. Begins (map known hs) hs₁ x f.moves.items start initial) (sym graph_is) (subst (λ xs. Begins (map known hs) hs₁ g xs start initial) (sym moves_are) begins)),
      );
      seen = seen;
      turning = subst (λ x. MatchOption x (Unit {0}) (MayTurn hs₁)) (sym turned_is) turning;
    };
    lands =
        ap (λ ks. landed_from (stock_of ks) f) same
        ∙ ap (λ xs. turned_rising f.turned (risen none_given (rising_of (stock hs) xs))) moves_are
        ∙ ap (λ x. turned_rising x (risen none_given (rising_of (stock hs) ms))) turned_is
        ∙ lands;
    allowed = allowed;
  }

-- ---- what an answer says

module _ (hs : List Held) (graph : List (List ℕ)) (counts : Counts) (kept : IsKept (map known hs) graph counts) (f : FirstMoves) (begun : CanBegin hs f) (order : List ℕ) (ordered : order ≡ order_in f.graph) where
  abbrev the_way : Route
  the_way = way (map known hs) f.graph begun.begins.0 begun.begins.1 (rising_of (stock hs) f.moves.items)

  the_route : IsRoute the_way order
  the_route = subst (IsRoute the_way) (sym ordered) (route hs graph counts kept f.graph f.moves.items begun.begins.0 begun.begins.1 begun.begins.2)

  pub on_way : (v : Route) × (done : List ℕ) × IsRoute v order × Climbs v [] done hs f.moves.items
  on_way = (the_way, begun.begins.1, the_route, begun.begins.2.climbs)

  climbed_by : (hs₂ : List Held) (ms : List Move) (r : Result (Unit {0}) ProjectionFault) → ((v : Route) (done : List ℕ) → IsRoute v order → Climbs v [] done hs f.moves.items → HasClimbed v order hs₂ ms r) → HasClimbed the_way (order_in f.graph) hs₂ ms r
  climbed_by hs₂ ms r climbed = subst (λ xs. HasClimbed the_way xs hs₂ ms r) ordered (climbed the_way begun.begins.1 the_route begun.begins.2.climbs)

  pub stopped_on_way : (X : Type 0) (hs₂ : List Held) (ms : List Move) (e : ProjectionFault) → ((v : Route) (done : List ℕ) → IsRoute v order → Climbs v [] done hs f.moves.items → HasClimbed v order hs₂ ms (Err e))
      → Refuses {X = X} (first_some (stock_limits (landed_from (stock hs) f).stock)) (Err (carried_fault e))
  stopped_on_way X hs₂ ms e climbed = stopped hs graph counts kept f.graph f.moves.items begun.begins.0 begun.begins.1 begun.begins.2 f.turned begun.turning X hs₂ ms e (climbed_by hs₂ ms (Err e) climbed)

  -- once the way is gone
  pub record Ends (hs₂ : List Held) (ms : List Move) : Type 0 where
    pub there : Each (λ b. b < length hs₂) (order_in f.graph)
    pub fault : first_some (stock_limits (landed_from (stock hs) f).stock) ≡ limit_of None (counts_after counts ms) (over_then hs₂ ms (order_in f.graph))
    pub group : (plan : Plan) → plan.moves ≡ ms → plan.turned ≡ f.turned → plan.graph ≡ f.graph → plan.counts ≡ counts_after counts ms → plan.versions ≡ map told ms → limit_of None (counts_after counts ms) (over_then hs₂ ms (order_in f.graph)) ≡ None
        → IsPlanned hs₂ plan × (outcome (stock hs) plan ≡ (landed_from (stock hs) f).stock) × (plan.versions ≡ versions_made (landed_from (stock hs) f))

  pub ended_on_way : (hs₂ : List Held) (ms : List Move) → ((v : Route) (done : List ℕ) → IsRoute v order → Climbs v [] done hs f.moves.items → HasClimbed v order hs₂ ms (Ok tt)) → Ends hs₂ ms
  ended_on_way hs₂ ms climbed =
      let end : HasClimbed the_way (order_in f.graph) hs₂ ms (Ok tt) = climbed_by hs₂ ms (Ok tt) climbed in
      record {
        there = order_held hs graph counts kept f.graph f.moves.items begun.begins.0 begun.begins.1 begun.begins.2 hs₂ end.0 ms end.1;
        fault = fault_is hs graph counts kept f.graph f.moves.items begun.begins.0 begun.begins.1 begun.begins.2 hs₂ end.0 ms end.1 f.turned begun.turning;
        group = λ plan moves turned graph_is counts_are versions limit. (
          group_planned hs graph counts kept f.graph f.moves.items begun.begins.0 begun.begins.1 begun.begins.2 hs₂ end.0 ms end.1 f.turned begun.turning plan moves turned graph_is counts_are versions limit,
          outcome_is hs graph counts kept f.graph f.moves.items begun.begins.0 begun.begins.1 begun.begins.2 hs₂ end.0 ms end.1 f.turned begun.turning plan moves turned graph_is counts_are versions limit,
          versions_are hs graph counts kept f.graph f.moves.items begun.begins.0 begun.begins.1 begun.begins.2 hs₂ end.0 ms end.1 f.turned begun.turning plan moves turned graph_is counts_are versions limit,
        );
      }

-- what is so of each group that is answered
pub if_grouped : {P Q R S T U : Plan → Type 0} (o : Option Refusal) (result : Result Plan PlanFault) → Refuses o result → IfOk result P → IfOk result Q → IfOk result R → IfOk result S → IfOk result T → ((g : Plan) → P g → Q g → R g → S g → T g → o ≡ None → U g) → IfOk result U
if_grouped o (Err e) h p q r s t k = tt
if_grouped (Some f) (Ok g) h p q r s t k = absurd h
if_grouped None (Ok g) h p q r s t k = k g p q r s t refl
