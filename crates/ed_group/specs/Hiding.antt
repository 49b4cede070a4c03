-- Elision buffers that are new, or hide other places.
use Rattle.std.specs.Prelude.{◌≡◌, ℕ, Bool, List, [], ◌∷◌, length, slice_set, Option, Result}
use Rattle.ed_base.specs.declared.Span.{Span}
use Rattle.ed_base.specs.declared.OutOfMemory.{OutOfMemory}
use Rattle.ed_climb.specs.Climbing.{move_to}
use Rattle.ed_climb.specs.Route.{Climbs}
use Rattle.ed_elide.specs.Records.{Elision, shown_of}
use Rattle.ed_held.specs.Rehiding.{HasRehidden, with_flags}
use Rattle.ed_held.specs.Seen.{stock}
use Rattle.ed_held.specs.declared.held.Held.{Held}
use Rattle.ed_held.specs.declared.moves.Planned.{Planned}
use Rattle.ed_layers.specs.CarrierStep.{all_stay}
use Rattle.ed_layers.specs.Hidden.{hidden_by}
use Rattle.ed_stock.specs.Stock.{Stock, record_now}
use Rattle.ed_stock.specs.Versions.{Rising, with_record}
use Rattle.ed_version.specs.declared.Snapshot.{Snapshot}
use Rattle.ed_group.specs.Spanning.{below, carrier_route}

-- a new elision buffer, which hides these places of a source at this snapshot
pub record IsOpened (b : ℕ) (source : Snapshot) (hide : List Span) (resolver : Option (List ℕ)) (e : Elision) : Type 0 where
  pub buffer : e.buffer ≡ b
  pub source_is : e.source ≡ source.buffer
  pub versions : e.versions ≡ shown_of (hidden_by (length source.text) hide) source.buffer source.version source.text ∷ []
  pub changes : e.changes ≡ []
  pub resolver_is : e.resolver ≡ resolver

-- the buffer has its version that hides these places
abbrev pub hidden_first : Stock → ℕ → List Bool → Rising
hidden_first s b new = with_record (record { stock = s; moves = [] }) b all_stay (with_flags new (record_now s b))

-- a buffer among those that are held hides other places: the others stay
pub record HasHiddenAt (sources : List Snapshot) (hs hs' : List Held) (b : ℕ) (h : Held) (new : List Bool) (result : Result Planned OutOfMemory) : Type 0 where
  pub held : Held
  pub set : hs' ≡ slice_set hs b held
  pub hidden : HasRehidden sources h held new result

-- the way goes through the order of the graph, and begins with the one version
pub record HasBegunHidden (hs hs' : List Held) (graph : List (List ℕ)) (b : ℕ) (new : List Bool) (n : Planned) : Type 0 where
  pub climbs : Climbs (carrier_route hs graph b (hidden_first (stock hs) b new)) [] (b ∷ below graph b) hs' (move_to b n [] ∷ [])
