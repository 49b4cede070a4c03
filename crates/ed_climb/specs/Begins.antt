-- The first versions of a group, and what they lead to.
use Rattle.std.specs.Prelude.{◌≡◌, ℕ, List, [], map, false, Option, MatchOption}
use Rattle.ed_base.specs.declared.refusal.Refusal.{Refusal}
use Rattle.ed_base.specs.Numbers.{first_some, is_among}
use Rattle.ed_graph.specs.Standing.{height_in, order_in, sources_in}
use Rattle.ed_members.specs.Steps.{step_seen}
use Rattle.ed_risen.specs.Counting.{turned_in}
use Rattle.ed_risen.specs.Start.{IsStart}
use Rattle.ed_stock.specs.Limits.{stock_limits}
use Rattle.ed_stock.specs.Stock.{Stock, sources_now}
use Rattle.ed_stock.specs.Versions.{Rising, none_given, risen}
use Rattle.ed_climb.specs.declared.beginning.FirstMoves.{FirstMoves}
use Rattle.ed_held.specs.declared.held.Held.{Held}
use Rattle.ed_held.specs.declared.moves.Move.{Move}
use Rattle.ed_climb.specs.Group.{MayTurn}
use Rattle.ed_held.specs.Moves.{move_seen, rising_of}
use Rattle.ed_climb.specs.Route.{AllKeepTheirs, Climbs, Route}
use Rattle.ed_held.specs.Seen.{Known, known, stock, stock_of}

-- the way over this graph: the buffers of the one list may have other sources than before, those of the other are done before it begins
abbrev pub way : List Known → List (List ℕ) → List ℕ → List ℕ → Rising → Route
way ks graph start initial first = record { before = ks; height = height_in graph; start = start; initial = initial; first = first }

-- These versions, for which the buffers have room, begin the way over this graph.
pub record Begins (ks : List Known) (hs : List Held) (graph : List (List ℕ)) (ms : List Move) (start initial : List ℕ) : Type 0 where
  pub is_start : IsStart (stock_of ks) graph (rising_of (stock_of ks) ms)
  pub others : (c : ℕ) → is_among c start ≡ false → sources_in graph c ≡ sources_now (stock_of ks) c
  pub theirs : AllKeepTheirs (stock_of ks) (rising_of (stock_of ks) ms) (order_in graph)
  pub climbs : Climbs (way ks graph start initial (rising_of (stock_of ks) ms)) [] initial hs ms

-- all that the definitions make of first versions, where the members of one buffer may have been set once more
abbrev pub turned_rising : Option ℕ → Rising → Rising
turned_rising turned r = record { stock = turned_in r.stock turned; moves = r.moves }

abbrev pub landed_from : Stock → FirstMoves → Rising
landed_from s f = turned_rising f.turned (risen none_given (rising_of s f.moves.items))

-- A group can begin with these first versions.
pub record CanBegin (hs : List Held) (f : FirstMoves) : Type 0 where
  pub begins : (start : List ℕ) × (initial : List ℕ) × Begins (map known hs) hs f.graph f.moves.items start initial
  pub seen : map (λ s. (s.source, step_seen s)) f.steps.items ≡ map move_seen f.moves.items
  pub turning : MatchOption f.turned (Unit {0}) (MayTurn hs)

-- They lead to what the definitions make of the command, and nothing but a limit can forbid it now.
pub record LeadsTo (hs : List Held) (fault : Option Refusal) (landed : Rising) (f : FirstMoves) : Type 0 where
  pub begun : CanBegin hs f
  pub lands : landed_from (stock hs) f ≡ landed
  pub allowed : fault ≡ first_some (stock_limits landed.stock)
