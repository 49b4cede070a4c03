-- What a stock between groups gives to edits, and what they lead to.
use Rattle.std.proofs.Common.{◌≡◌, ℕ, ◌+◌, ◌<◌, ◌≤◌, ◌^◌, false, List, [], ◌∷◌, ◌++◌, length, map, Option, Some, None, Ok, Err, refl, sym, ap, ◌∙◌, subst, arith}
use Rattle.std.specs.Prelude.{slice_index_or}
use Rattle.std.specs.List.{AllByRecursion as Each}
use Rattle.std.proofs.lemmas.Bool.{ltb-false}
use Rattle.std.proofs.lemmas.List.{length-map}
use Rattle.ed_base.specs.declared.Change.{Change}
use Rattle.ed_base.specs.declared.Piece.{Piece}
use Rattle.ed_base.specs.declared.refusal.Refusal.{Refusal}
use Rattle.ed_base.specs.Hooks.{HookTable}
use Rattle.ed_base.specs.Numbers.{first_some, or_else, places}
use Rattle.ed_buffer.specs.Planning.{put_in}
use Rattle.ed_graph.specs.Standing.{IsLevelled, order_in}
use Rattle.ed_layers.specs.Records.{is_carrier, members_of}
use Rattle.ed_pieces.specs.Arrivals.{AllWithin}
use Rattle.ed_members.specs.Steps.{step_seen}
use Rattle.ed_stock.specs.Landing.{denial, down_fault, pieces_at, pieces_of_changes, sent_down}
use Rattle.ed_stock.specs.Limits.{stock_limits}
use Rattle.ed_stock.specs.Stock.{Stock, count, graph_order, record_now, sources_now, text_now}
use Rattle.ed_base.specs.declared.refusal.Which.{Which}
use Rattle.ed_risen.specs.Counting.{member_count}
use Rattle.ed_risen.proofs.Limits.{few_members, texts_fit}
use Rattle.ed_risen.proofs.OneLimit.{none_of, none_past}
use Rattle.ed_risen.proofs.Order.{in_order}
use Rattle.ed_sending.proofs.Groups.SettledStocks.{ready_of}
use Rattle.ed_descent.specs.Edits.{own_units, pieces_of_edits, units_of_carriers}
use Rattle.ed_descent.specs.Refusals.{Refuses as Descends}
use Rattle.ed_descent.specs.Sends.{CanSend}
use Rattle.ed_descent.specs.declared.edit.BufferEdit.{BufferEdit}
use Rattle.ed_held.specs.declared.held.Held.{Held}
use Rattle.ed_held.specs.declared.moves.Move.{Move}
use Rattle.ed_held.specs.Moves.{move_seen}
use Rattle.ed_held.specs.Seen.{Known, known, stock}
use Rattle.ed_climb.specs.Begins.{LeadsTo}
use Rattle.ed_climb.specs.Kept.{IsKept}
use Rattle.ed_climb.specs.Refusals.{Refuses}
use Rattle.ed_climb.specs.declared.fault.PlanFault.{PlanFault}
use Rattle.ed_climb.specs.declared.beginning.FirstMoves.{FirstMoves}
use Rattle.ed_climb.specs.declared.counts.Counts.{Counts}
use Rattle.ed_climb.proofs.Groups.{leads}
use Rattle.ed_climb.proofs.Routes.{graph_len, order_same, sources_same}
use Rattle.ed_landing.specs.EditedStock.{edits_fault, edits_landed, edits_sent}
use Rattle.ed_landing.specs.Landings.{AllLanded, HaveArrived, StandOn, landing_fault}
use Rattle.ed_landing.proofs.Ended.{begins, lands_all, theirs_kept}

few_each : (s : Stock) → first_some (stock_limits s) ≡ None → (c : ℕ) → c < count s → length (members_of (record_now s c)) ≤ 1024
few_each s within c there = ltb-false 1024 (member_count s c) (none_past 1024 (member_count s) (graph_order s) c (none_of Which.Members 1024 (map (member_count s) (graph_order s)) (few_members s within)) (in_order s c there))

module _ (hs : List Held) (graph : List (List ℕ)) (counts : Counts) (kept : IsKept (map known hs) graph counts) (levelled : IsLevelled graph) where
  linked_here : graph ≡ map (sources_now (stock hs)) (places (count (stock hs)))
  linked_here = kept.linked ∙ ap (λ n. map (sources_now (stock hs)) (places n)) (sym (length-map (map known hs) (λ (k : Known). k.buffer)))

  pub stand_on : StandOn hs graph
  stand_on = record {
    true = record { numbered = kept.numbered; texts = kept.texts };
    settled = kept.settled;
    levelled = levelled;
    as_long = graph_len (stock hs) graph linked_here;
    names = sources_same (stock hs) graph linked_here;
    within = kept.within;
  }

  pub can_send : CanSend hs
  can_send = record {
    ready = ready_of (stock hs) graph kept.settled levelled (graph_len (stock hs) graph linked_here) (sources_same (stock hs) graph linked_here);
    short = texts_fit (stock hs) kept.within;
    few = few_each (stock hs) kept.within;
  }

  pub order_of : (order : List ℕ) → order ≡ order_in graph → order ≡ graph_order (stock hs)
  order_of order is = is ∙ order_same (stock hs) graph linked_here

-- ---- pieces of edits

own_plain : (b : ℕ) (cs : List Change) → Each (λ bp. bp.1.trail ≡ []) (pieces_of_changes b cs)
own_plain b [] = tt
own_plain b (c ∷ cs) = (refl, own_plain b cs)

each_both : (P : ℕ × Piece → Type 0) (xs ys : List (ℕ × Piece)) → Each P xs → Each P ys → Each P (xs ++ ys)
each_both P [] ys a b = b
each_both P (x ∷ xs) ys a b = (a.0, each_both P xs ys a.1 b)

edits_plain : (edits : List BufferEdit) → Each (λ bp. bp.1.trail ≡ []) (pieces_of_edits edits)
edits_plain [] = tt
edits_plain (e ∷ es) = each_both (λ bp. bp.1.trail ≡ []) (pieces_of_changes e.buffer e.changes.changes) (pieces_of_edits es) (own_plain e.buffer e.changes.changes) (edits_plain es)

-- ---- what has arrived

module _ (hooks : HookTable) (hs : List Held) (edits : List BufferEdit) (boxes : List (List Piece)) (each : length boxes ≡ count (stock hs))
    (pieces : (b : ℕ) → b < count (stock hs) → slice_index_or boxes b [] ≡ pieces_at (sent_down hooks (stock hs) (pieces_of_edits edits)) b)
    (inside : (b : ℕ) → b < count (stock hs) → AllWithin (length (text_now (stock hs) b)) (slice_index_or boxes b []))
    (units : (b : ℕ) → b < count (stock hs) → is_carrier (record_now (stock hs) b) ≡ false → put_in (slice_index_or boxes b []) ≤ own_units edits b + units_of_carriers (stock hs) edits)
    (few : (b : ℕ) → is_carrier (record_now (stock hs) b) ≡ false → own_units edits b + units_of_carriers (stock hs) edits ≤ 2 ^ 27) where
  pub have_arrived : HaveArrived (stock hs) (edits_sent hooks (stock hs) edits) boxes
  have_arrived = record {
    each = each;
    pieces = λ b there bare. pieces b there;
    inside = λ b there bare. subst (AllWithin (length (text_now (stock hs) b))) (pieces b there) (inside b there);
    put_in = λ b there bare. subst (λ ps. put_in ps ≤ 2 ^ 27) (pieces b there) (let u : put_in (slice_index_or boxes b []) ≤ own_units edits b + units_of_carriers (stock hs) edits = units b there bare in let f : own_units edits b + units_of_carriers (stock hs) edits ≤ 2 ^ 27 = few b bare in omega (arith, u, f));
  }

-- ---- what it leads to

or_none : {X : Type 0} (o : Option X) → or_else o None ≡ o
or_none None = refl
or_none (Some x) = refl

module _ (hooks : HookTable) (hs : List Held) (graph : List (List ℕ)) (on : StandOn hs graph) (edits : List BufferEdit) (accepted : down_fault hooks (stock hs) (pieces_of_edits edits) ≡ None) (hs' : List Held) (same : map known hs' ≡ map known hs) (ms : List Move)
    (all : AllLanded hooks hs graph (edits_sent hooks (stock hs) edits) hs' ms) where
  abbrev limits : Option Refusal
  limits = first_some (stock_limits (edits_landed hooks (stock hs) edits).stock)

  allowed : edits_fault hooks (stock hs) edits ≡ first_some (stock_limits (edits_landed hooks (stock hs) edits).stock)
  allowed =
      ap (λ o. first_some (o ∷ denial hooks (stock hs) (edits_sent hooks (stock hs) edits) ∷ limits ∷ [])) accepted
      ∙ ap (λ o. first_some (None ∷ o ∷ limits ∷ [])) all.0
      ∙ or_none limits

  pub leads_to : (f : FirstMoves) → f.graph ≡ graph → f.moves.items ≡ ms → f.turned ≡ None → map (λ x. (x.source, step_seen x)) f.steps.items ≡ map move_seen f.moves.items
      → LeadsTo hs' (edits_fault hooks (stock hs) edits) (edits_landed hooks (stock hs) edits) f
  leads_to f graph_is moves_are turned seen =
      leads hs hs' same f graph ms None graph_is moves_are turned [] all.1.done
      (begins hooks hs graph on (edits_sent hooks (stock hs) edits) hs' ms same all.1
      (theirs_kept hooks hs graph on (edits_sent hooks (stock hs) edits) hs' ms same all.1 (pieces_of_edits edits) refl (edits_plain edits) accepted))
      seen tt
      (edits_fault hooks (stock hs) edits) (edits_landed hooks (stock hs) edits) (lands_all hooks hs graph on (edits_sent hooks (stock hs) edits) hs' ms same all.1) allowed

-- what was answered wasn't refused
pub not_refused : {X : Type 0} (o : Option Refusal) (x : X) → Descends o (Ok x) → o ≡ None
not_refused None x h = refl
not_refused (Some r) x h = absurd h

-- what isn't refused on the way down is refused as what lands
pub refused_there : (hooks : HookTable) (s : Stock) (edits : List BufferEdit) → down_fault hooks s (pieces_of_edits edits) ≡ None → (e : PlanFault) → Refuses {X = Unit {0}} (landing_fault hooks s (edits_sent hooks s edits)) (Err e) → Refuses {X = Unit {0}} (edits_fault hooks s edits) (Err e)
refused_there hooks s edits none e h =
    subst (λ (o : Option Refusal). Refuses {X = Unit {0}} o (Err e))
    (sym (ap (λ (o : Option Refusal). first_some (o ∷ denial hooks s (edits_sent hooks s edits) ∷ first_some (stock_limits (edits_landed hooks s edits).stock) ∷ [])) none)) h
