-- The beginning of a group that replaces members of a projection.
use Rattle.std.specs.Prelude.{◌≡◌, ℕ, List, [], ◌∷◌, length}
use Rattle.ed_base.specs.declared.Member.{Member}
use Rattle.ed_base.specs.Numbers.{first_some}
use Rattle.ed_graph.specs.Standing.{IsLevelled, linked}
use Rattle.ed_layers.specs.CarrierStep.{stay_around}
use Rattle.ed_stock.specs.Limits.{stock_limits}
use Rattle.ed_stock.specs.Making.{sources_in, spans_replaced, spans_set}
use Rattle.ed_group.specs.Answers.{members_now, spans_fault}
use Rattle.ed_climb.specs.Climbing.{move_to}
use Rattle.ed_held.specs.declared.held.Held.{Held}
use Rattle.ed_held.specs.declared.moves.Planned.{Planned}
use Rattle.ed_climb.specs.Route.{Climbs}
use Rattle.ed_held.specs.Seen.{stock}
use Rattle.ed_group.specs.Spanning.{below, spans_first, carrier_route}

-- the members as they will be
abbrev pub members_then : List Held → ℕ → ℕ → ℕ → List Member → List Member
members_then hs b first removed added = spans_replaced (members_now (stock hs) b) first removed added

-- Nothing but a limit can forbid it now; the way goes through the order of the new graph, and begins with the one version.
pub record HasBegunSpans (hs hs' : List Held) (graph : List (List ℕ)) (b first removed : ℕ) (added : List Member) (r : List (List ℕ) × Planned) : Type 0 where
  pub graph_is : r.0 ≡ linked graph b (sources_in [] (members_then hs b first removed added))
  pub levelled : IsLevelled r.0
  pub limits : spans_fault (stock hs) b first removed added ≡ first_some (stock_limits (spans_set (stock hs) b first removed added).stock)
  pub climbs : Climbs (carrier_route hs r.0 b (spans_first (stock hs) b (stay_around first removed (length added)) (members_then hs b first removed added))) [] (b ∷ below r.0 b) hs' (move_to b r.1 [] ∷ [])
