-- The beginning of a group that replaces members of a projection, handed on.
use Rattle.std.proofs.Common.{◌≡◌, ◌≢◌, ℕ, ◌<◌, List, [], ◌∷◌, length, map, Option, Some, None, refl, sym, ap, ◌∙◌, subst}
use Rattle.std.specs.Prelude.{All, slice_get}
use Rattle.std.specs.List.{AllByRecursion as Each}
use Rattle.std.proofs.lemmas.List.{length-map}
use Rattle.ed_base.specs.declared.Member.{Member}
use Rattle.ed_graph.specs.Standing.{IsLevelled, order_in, sources_in as graph_sources}
use Rattle.ed_layers.specs.CarrierStep.{stay_around}
use Rattle.ed_held.specs.declared.moves.Planned.{Planned}
use Rattle.ed_stock.specs.Making.{projection_of, sources_in, spans_replaced, spans_set}
use Rattle.ed_stock.specs.Stock.{Stock, count, sources_now}
use Rattle.ed_stock.specs.Versions.{Rising, step_in}
use Rattle.ed_group.specs.Answers.{LiesIn, members_now, spans_fault}
use Rattle.ed_group.specs.Begun.{HasBegunSpans}
use Rattle.ed_climb.specs.Begins.{Begins, LeadsTo, way}
use Rattle.ed_climb.specs.declared.beginning.FirstMoves.{FirstMoves}
use Rattle.ed_members.specs.Steps.{step_seen}
use Rattle.ed_risen.specs.Start.{IsStart}
use Rattle.ed_held.specs.Moves.{changes_of, move_seen, record_of, rising_of, with_move}
use Rattle.ed_group.proofs.Begins.{not_only}
use Rattle.ed_climb.proofs.Groups.{leads}
use Rattle.ed_climb.proofs.Moved.{most_moved}
use Rattle.ed_climb.proofs.Theirs.{plain_way}
use Rattle.ed_risen.proofs.Lengths.{ArePlain}
use Rattle.ed_risen.proofs.PlainTurns.{plain_record}
use Rattle.ed_climb.proofs.TurnedKept.{may_turn}
use Rattle.ed_climb.specs.Climbing.{move_to}
use Rattle.ed_held.specs.Making.{CanTurn}
use Rattle.ed_risen.specs.Growing.{Grows}
use Rattle.ed_climb.specs.Kept.{IsKept}
use Rattle.ed_climb.specs.Route.{Climbs}
use Rattle.ed_held.specs.Seen.{Known, known, stock, seen}
use Rattle.ed_group.specs.Spanning.{below, spans_first}
use Rattle.ed_climb.specs.declared.counts.Counts.{Counts}
use Rattle.ed_held.specs.declared.held.Held.{Held}
use Rattle.ed_held.specs.declared.moves.Move.{Move}
use Rattle.ed_risen.proofs.Growth.{version_grows}
use Rattle.ed_group.proofs.Respanned.{linked_here, linked_len, linked_other, shown_lies}
use Rattle.ed_group.proofs.Spanned.{names_spans, spans_land}

-- ---- one turn more

pub below_held : (hs : List Held) (b : ℕ) → b < count (stock hs) → b < length hs
below_held hs b there = subst (λ n. b < n) (length-map (map known hs) (λ (k : Known). k.buffer) ∙ length-map hs known) there

module _ (hs : List Held) (graph : List (List ℕ)) (counts : Counts) (kept : IsKept (map known hs) graph counts) (before : IsLevelled graph) (b : ℕ) (there : b < count (stock hs)) (first removed : ℕ) (added : List Member) (lies : All (LiesIn (stock hs)) added)
    (hs₁ : List Held) (g : List (List ℕ)) (n : Planned) (start : HasBegunSpans hs hs₁ graph b first removed added (g, n)) where
  abbrev s : Stock
  s = stock hs

  abbrev shown : List Member
  shown = spans_replaced (members_now (stock hs) b) first removed added

  abbrev stays : ℕ → Option ℕ
  stays = stay_around first removed (length added)

  abbrev begins : Rising
  begins = spans_first (stock hs) b (stay_around first removed (length added)) (spans_replaced (members_now (stock hs) b) first removed added)

  len : length g ≡ count s
  len = ap length start.graph_is ∙ linked_len hs graph counts kept before b there first removed added lies (sources_in [] shown)

  others : (c : ℕ) → c ≢ b → graph_sources g c ≡ sources_now s c
  others c ne = ap (λ x. graph_sources x c) start.graph_is ∙ linked_other hs graph counts kept before b there first removed added lies (sources_in [] shown) c ne

  here : graph_sources g b ≡ sources_in [] shown
  here = ap (λ x. graph_sources x b) start.graph_is ∙ linked_here hs graph counts kept before b there first removed added lies (sources_in [] shown)

  lie : Each (LiesIn s) shown
  lie = shown_lies hs graph counts kept before b there first removed added lies

  begins_is : begins ≡ rising_of s (move_to b n [] ∷ [])
  begins_is = start.climbs.folded

  grows : Grows s (with_move s (move_to b n [])) b (record_of n)
  grows = version_grows s b (record_of n) (changes_of n) there

  -- ---- it begins a group

  abbrev move : Move
  move = move_to b n []

  abbrev next : Rising
  next = rising_of (stock hs) (move_to b n [] ∷ [])

  start_next : IsStart (stock hs) g next
  start_next = record {
    levelled = start.levelled;
    len = len;
    same_count = start.climbs.rises.same_count;
    same_most = most_moved s move;
    names = ap (λ (u : Rising). sources_now u.stock) (sym begins_is) ∙ names_spans hs kept.settled g len start.levelled b there others shown here lie stays;
  }

  -- no unit of the one version came through another carrier
  plain_next : ArePlain (step_in next.moves)
  plain_next = subst (λ (u : Rising). ArePlain (step_in u.moves)) begins_is
      (plain_record (record { stock = s; moves = [] }) b stays (projection_of s shown) (λ c m found. absurd (let e : None ≡ Some m = found in cc)))

  begins_next : Begins (map known hs) hs₁ g (move_to b n [] ∷ []) (b ∷ []) (b ∷ below g b)
  begins_next = record {
    is_start = start_next;
    others = λ c out. others c (not_only b c out);
    theirs = plain_way s next (order_in g) plain_next;
    climbs = subst (λ u. Climbs (way (map known hs) g (b ∷ []) (b ∷ below g b) u) [] (b ∷ below g b) hs₁ (move_to b n [] ∷ [])) begins_is start.climbs;
  }

  pub spans_lead : ((h : Held) → slice_get hs b ≡ Some h → CanTurn h) → (f : FirstMoves) → f.graph ≡ g → f.moves.items ≡ move_to b n [] ∷ [] → f.turned ≡ Some b → map (λ s. (s.source, step_seen s)) f.steps.items ≡ map move_seen f.moves.items → LeadsTo hs₁ (spans_fault (stock hs) b first removed added) (spans_set (stock hs) b first removed added) f
  spans_lead could f graph_is moves turned seen =
      leads hs hs₁ start.climbs.same f g (move_to b n [] ∷ []) (Some b) graph_is moves turned (b ∷ []) (b ∷ below g b) begins_next seen
      (may_turn hs graph counts kept b there hs₁ start.climbs.same could) (spans_fault s b first removed added) (spans_set s b first removed added)
      (spans_land hs kept.settled g len start.levelled b there others shown here lie first removed added refl next begins_is) start.limits
