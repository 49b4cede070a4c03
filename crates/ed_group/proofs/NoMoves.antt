-- A group that changes nothing.
use Rattle.std.proofs.Common.{◌≡◌, ℕ, ◌<◌, ◌^◌, Bool, false, true, List, [], ◌∷◌, length, map, fold, Option, Some, None, Ok, Err, refl, sym, ap, ◌∙◌, subst}
use Rattle.std.specs.Prelude.{IfOk, Result, is_some, if◌then◌else◌}
use Rattle.std.specs.List.{list_any}
use Rattle.ed_base.specs.declared.OutOfMemory.{OutOfMemory}
use Rattle.ed_base.specs.declared.Refusal.{Refusal}
use Rattle.ed_base.specs.Numbers.{first_some}
use Rattle.ed_climb.specs.Begins.{Begins, LeadsTo, way}
use Rattle.ed_climb.specs.Kept.{IsKept}
use Rattle.ed_climb.specs.Route.{Climbs}
use Rattle.ed_climb.specs.declared.beginning.FirstMoves.{FirstMoves}
use Rattle.ed_climb.specs.declared.counts.Counts.{Counts}
use Rattle.ed_climb.proofs.Groups.{leads}
use Rattle.ed_climb.proofs.Theirs.{plain_way}
use Rattle.ed_graph.specs.Standing.{IsLevelled, height_in, order_in}
use Rattle.ed_held.specs.Moves.{move_seen, rising_of}
use Rattle.ed_held.specs.Seen.{known, stock}
use Rattle.ed_held.specs.declared.held.Held.{Held}
use Rattle.ed_landing.specs.Landings.{StandOn}
use Rattle.ed_landing.proofs.Beginning.{stand_on}
use Rattle.ed_members.specs.Steps.{step_seen}
use Rattle.ed_risen.specs.Rising.{Rises}
use Rattle.ed_risen.specs.Start.{IsStart}
use Rattle.ed_risen.proofs.Limits.{texts_fit}
use Rattle.ed_risen.proofs.Starts.{risen_is}
use Rattle.ed_stock.specs.Limits.{stock_limits}
use Rattle.ed_stock.specs.Stock.{Stock, count, sources_now, text_now}
use Rattle.ed_stock.specs.Versions.{Rising, is_moved, none_given, risen, risen_at, step_in}

module _ (hs : List Held) (graph : List (List ℕ)) (counts : Counts) (kept : IsKept (map known hs) graph counts) (levelled : IsLevelled graph) where
  abbrev s : Stock
  s = stock hs

  abbrev none : Rising
  none = rising_of (stock hs) []

  on : StandOn hs graph
  on = stand_on hs graph counts kept levelled

  is_start : IsStart (stock hs) graph none
  is_start = record { levelled = levelled; len = on.as_long; same_count = refl; same_most = refl; names = sym on.names }

  rises : Rises (stock hs) (height_in graph) [] [] none
  rises = record {
    same_count = refl;
    extends = λ b v r is. is;
    founded = on.settled.founded;
    names = λ b out. refl;
    started = λ b out. refl;
    unmoved = λ b still. refl;
    moved = λ b m is. absurd (cc);
    known = λ b i. absurd (cc);
    later = λ b out. refl;
    risen = λ b i. absurd (cc);
  }

  climbs : Climbs (way (map known hs) graph [] [] none) [] [] hs []
  climbs = record {
    same = refl;
    rises = rises;
    folded = refl;
    planned = tt;
    apart = tt;
    known_buffers = tt;
    at_once = λ c i. i;
    newest = tt;
    quiet = λ c i. absurd (cc);
    begun = λ c i. absurd (cc);
    origin = λ c i. absurd (cc);
    covers = λ c i. absurd (cc);
    fits = texts_fit (stock hs) kept.within;
  }

  begins : Begins (map known hs) hs graph [] [] []
  begins = record {
    is_start = is_start;
    others = λ c out. ap (λ (f : ℕ → List ℕ). f c) on.names;
    theirs = plain_way s none (order_in graph) (λ c m is. absurd (let e : None ≡ Some m = is in cc));
    climbs = climbs;
  }

  -- nothing rises over nothing
  none_moved : (xs : List ℕ) → list_any (λ source. is_some (step_in [] source)) xs ≡ false
  none_moved [] = refl
  none_moved (x ∷ xs) = none_moved xs

  none_risen : (xs : List ℕ) → fold (risen_at none_given) none xs ≡ none
  none_risen [] = refl
  none_risen (x ∷ xs) = rw (none_moved (sources_now s x)) (none_risen xs)

  rests : risen none_given none ≡ none
  rests = risen_is s graph none is_start ∙ none_risen (order_in graph)

  none_lead : (f : FirstMoves) → f.graph ≡ graph → f.moves.items ≡ [] → f.turned ≡ None → map (λ x. (x.source, step_seen x)) f.steps.items ≡ map move_seen f.moves.items → (fault : Option Refusal) (landed : Rising) → landed ≡ none → fault ≡ first_some (stock_limits landed.stock) → LeadsTo hs fault landed f
  none_lead f graph_is moves turned seen fault landed is limits =
      leads hs hs refl f graph [] None graph_is moves turned [] [] begins seen tt fault landed (rests ∙ sym is) limits

  pub if_unchanged : (result : Result FirstMoves OutOfMemory) → IfOk result (λ f. (f.graph ≡ graph) × (f.moves.items ≡ []) × (f.steps.items ≡ []) × (f.turned ≡ None)) → (fault : Option Refusal) (landed : Rising) → landed ≡ none → fault ≡ first_some (stock_limits landed.stock) → IfOk result (LeadsTo hs fault landed)
  if_unchanged (Err e) told fault landed is limits = tt
  if_unchanged (Ok f) told fault landed is limits = none_lead f told.0 told.1 told.3 (rw (told.2, told.1) refl) fault landed is limits
