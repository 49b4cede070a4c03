-- A stock that is kept is ready for an edit.
use Rattle.std.proofs.Common.{ℕ, List, map}
use Rattle.ed_graph.specs.Standing.{IsLevelled}
use Rattle.ed_sending.proofs.Groups.SettledStocks.{names_lower_of}
use Rattle.ed_held.specs.declared.held.Held.{Held}
use Rattle.ed_held.specs.Seen.{known, stock}
use Rattle.ed_climb.specs.Kept.{IsKept}
use Rattle.ed_climb.specs.declared.counts.Counts.{Counts}
use Rattle.ed_landing.proofs.Beginning.{can_send, stand_on}
use Rattle.ed_sending.specs.Ready.{IsReady, NamesLower}

module _ (hs : List Held) (graph : List (List ℕ)) (counts : Counts) (kept : IsKept (map known hs) graph counts) (levelled : IsLevelled graph) where
  pub kept_ready : IsReady (stock hs)
  kept_ready = (can_send hs graph counts kept levelled).ready

  pub kept_low : NamesLower (stock hs)
  kept_low = let on = stand_on hs graph counts kept levelled in names_lower_of (stock hs) graph on.settled levelled on.as_long on.names
