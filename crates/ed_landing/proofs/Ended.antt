-- Once all buffers have been looked at: what a text that would be too long comes to, and how the way up begins.
use Rattle.std.proofs.Common.{◌≡◌, ◌≢◌, ℕ, ◌<◌, ◌≤◌, ◌^◌, false, List, [], ◌∷◌, length, map, fold, Option, Some, None, Ok, Err, Result, refl, sym, ap, ◌∙◌, subst, inl, inr, arith}
use Rattle.std.specs.Prelude.{MatchResult}
use Rattle.std.specs.Result.{IsErr, IsErrAnd}
use Rattle.std.specs.List.{AllByRecursion as Each}
use Rattle.std.proofs.lemmas.Bool.{cases_Bool}
use Rattle.std.proofs.lemmas.List.{length-map}
use Rattle.ed_base.specs.declared.Piece.{Piece}
use Rattle.ed_base.specs.declared.refusal.Refusal.{Refusal}
use Rattle.ed_base.specs.declared.refusal.Which.{Which}
use Rattle.ed_base.specs.Hooks.{HookTable}
use Rattle.ed_base.specs.Numbers.{first_some}
use Rattle.ed_graph.specs.Standing.{height_in, order_in}
use Rattle.ed_layers.specs.Pieces.{marked_text}
use Rattle.ed_stock.specs.Landing.{denial, down_fault, landed, pieces_at, sent_down}
use Rattle.ed_stock.specs.Limits.{stock_limits}
use Rattle.ed_stock.specs.Stock.{Stock, count, graph_order, sources_now, text_now}
use Rattle.ed_stock.specs.Versions.{Rising, is_moved, none_given, risen, risen_at, step_in}
use Rattle.ed_layers.specs.Graph as layers
use Rattle.ed_risen.specs.Rising.{Rises}
use Rattle.ed_risen.specs.Start.{IsStart}
use Rattle.ed_risen.proofs.Limits.{few_buffers, texts_fit}
use Rattle.ed_risen.proofs.Lists.{each_behind}
use Rattle.ed_risen.proofs.Starts.{all_there}
use Rattle.ed_sending.proofs.Groups.Advances.{advances_along}
use Rattle.ed_sending.proofs.Groups.SettledStocks.{ready_of}
use Rattle.ed_sending.proofs.Groups.LandedBases.{AreLanded, landed_all, landed_start, long_refused, quiet, text_landed, text_still}
use Rattle.ed_held.specs.declared.held.Held.{Held}
use Rattle.ed_held.specs.declared.moves.Move.{Move}
use Rattle.ed_held.specs.Moves.{rising_of}
use Rattle.ed_held.specs.Seen.{known, stock}
use Rattle.ed_climb.specs.Begins.{Begins, way}
use Rattle.ed_climb.specs.Refusals.{Refuses}
use Rattle.ed_climb.specs.Route.{AllKeepTheirs, Climbs, KeepTheirs}
use Rattle.ed_climb.specs.declared.fault.PlanFault.{PlanFault}
use Rattle.ed_landing.specs.Landings.{AllLanded, HaveArrived, HaveLanded, IsFirstLong, SoFar, StandOn, landing_fault}
use Rattle.ed_landing.proofs.LandMore.{none_yet}
use Rattle.ed_sending.specs.LandedBelow.{is_reached, landed_below}

module _ (hooks : HookTable) (hs : List Held) (graph : List (List ℕ)) (on : StandOn hs graph) (pending : List (ℕ × Piece)) (hs' : List Held) (ms : List Move) where
  abbrev s : Stock
  s = stock hs

  short : (c : ℕ) → c < count s → length (text_now s c) ≤ 2 ^ 22
  short = texts_fit s on.within

  -- a text would be too long
  pub ends_long : (n : ℕ) → SoFar hooks hs graph pending (count (stock hs)) hs' ms (Some n) → Refuses {X = Unit {0}} (landing_fault hooks (stock hs) pending) (Err (PlanFault.Refused (Refusal.Limit Which.Units n)))
  ends_long n so_far =
      let f : IsFirstLong s pending (count s) n = so_far.going in
      let limits : first_some (stock_limits (landed s pending none_given none_given).stock) ≡ Some (Refusal.Limit Which.Units n) =
      long_refused s graph on.settled on.levelled on.as_long on.names pending (few_buffers s on.within) short f.b f.below f.is (subst (λ m. 2 ^ 22 < m) (sym f.len) f.long) f.earlier
      ∙ ap (λ m. Some (Refusal.Limit Which.Units m)) f.len in
      let none : denial hooks s pending ≡ None = so_far.allowed in
      subst (λ (o : Option Refusal). Refuses {X = Unit {0}} o (Err (PlanFault.Refused (Refusal.Limit Which.Units n))))
      (sym (ap (λ (o : Option Refusal). first_some (o ∷ first_some (stock_limits (landed s pending none_given none_given).stock) ∷ [])) none ∙ ap (λ (o : Option Refusal). first_some (None ∷ o ∷ [])) limits)) (inl refl)

  -- all have landed
  pub ends_landed : SoFar hooks hs graph pending (count (stock hs)) hs' ms None → AllLanded hooks hs graph pending hs' ms
  ends_landed so_far = (so_far.allowed, so_far.going)

  -- ---- the way up

  module _ (same : map known hs' ≡ map known hs) (h : HaveLanded hs graph pending (count (stock hs)) hs' ms) where
    abbrev first : Rising
    first = rising_of (stock hs) ms

    are : AreLanded (stock hs) graph on.settled on.levelled on.as_long on.names pending (count (stock hs)) h.done
    are = record { rises = h.rises; below = h.below; reached = h.reached }

    start : IsStart s graph first
    start = subst (IsStart s graph) (sym h.landed) (landed_start s graph on.settled on.levelled on.as_long on.names pending (count s) (omega arith))

    fits : (c : ℕ) → c < count s → length (text_now first.stock c) ≤ 2 ^ 22
    fits c there = subst (λ (z : Rising). length (text_now z.stock c) ≤ 2 ^ 22) (sym h.landed) (elim (cases_Bool (is_reached s pending c)) [
      | inl is ↦ subst (λ xs. length xs ≤ 2 ^ 22) (sym (text_landed s graph on.settled on.levelled on.as_long on.names pending (count s) c there (omega arith) is))
          (subst (λ n. n ≤ 2 ^ 22) (sym (length-map (marked_text (pieces_at pending c) (text_now s c)) (λ (u : ℕ × List (ℕ × ℕ)). u.0))) (h.short c there is))
      | inr out ↦ subst (λ xs. length xs ≤ 2 ^ 22) (sym (text_still s graph on.settled on.levelled on.as_long on.names pending (count s) c (omega arith) there (inl out))) (short c there)
    ])

    pub climbs : Climbs (way (map known hs) graph [] h.done (rising_of (stock hs) ms)) [] h.done hs' ms
    climbs = record {
      same = same;
      rises = subst (Rises s (height_in graph) [] h.done) (sym h.landed) h.rises;
      folded = refl;
      planned = h.planned;
      apart = h.apart;
      known_buffers = h.there;
      at_once = λ c i. i;
      newest = h.newest;
      quiet = λ c i. subst (λ (z : Rising). is_moved z c ≡ false) (sym h.landed) (quiet s graph on.settled on.levelled on.as_long on.names pending (count s) h.done are c i);
      begun = λ c i. absurd (cc);
      origin = λ c i. inr i;
      covers = λ c i. absurd (cc);
      fits = fits;
    }

    pub lands_all : risen none_given (rising_of (stock hs) ms) ≡ landed (stock hs) pending none_given none_given
    lands_all = ap (risen none_given) h.landed ∙ sym (landed_all s pending)

    order_is : order_in graph ≡ graph_order s
    order_is = ap (λ f. layers.graph_order f (length graph)) on.names ∙ ap (layers.graph_order (sources_now s)) on.as_long

    pub begins : AllKeepTheirs (stock hs) (rising_of (stock hs) ms) (order_in graph) → Begins (map known hs) hs' graph ms [] h.done
    begins theirs = record {
      is_start = start;
      others = λ c out. ap (λ (f : ℕ → List ℕ). f c) on.names;
      theirs = theirs;
      climbs = climbs;
    }

    -- what was sent down by pieces of the edits' own, where nothing was refused on the way
    module _ (own : List (ℕ × Piece)) (sent : pending ≡ sent_down hooks (stock hs) own) (plain : Each (λ bp. bp.1.trail ≡ []) own) (accepted : down_fault hooks (stock hs) own ≡ None) where
      pub theirs_kept : AllKeepTheirs (stock hs) (rising_of (stock hs) ms) (order_in graph)
      theirs_kept = λ passed rest b members sources split is moved.
          let there : b < count s = (each_behind (λ c. c < count s) passed (b ∷ rest) (subst (Each (λ c. c < count s)) split (all_there s graph first start))).0 in
          let both = advances_along hooks s (ready_of s graph on.settled on.levelled on.as_long on.names) own plain accepted none_given passed rest b (sym order_is ∙ split) there members sources is in
          subst (λ (z : Rising). KeepTheirs b (step_in (fold (risen_at none_given) z passed).moves) members) (sym (h.landed ∙ ap (λ ps. landed_below s ps (count s)) sent)) (record { inside = both.0; order = both.1 })

-- ---- the loop

pub none_so_far : (hooks : HookTable) (hs : List Held) (graph : List (List ℕ)) (on : StandOn hs graph) (pending : List (ℕ × Piece)) (ms : List Move) → ms ≡ [] → SoFar hooks hs graph pending 0 hs ms None
none_so_far hooks hs graph on pending ms none = subst (λ ns. SoFar hooks hs graph pending 0 hs ns None) (sym none) (record { same = refl; allowed = refl; going = none_yet hs graph on pending })

-- all have been looked at
pub all_seen : (hooks : HookTable) (hs : List Held) (graph : List (List ℕ)) (pending : List (ℕ × Piece)) (boxes : List (List Piece)) → HaveArrived (stock hs) pending boxes → (index n : ℕ) → n ≡ length boxes → index ≤ n → n ≤ index → (hs' : List Held) (ms : List Move) (long : Option ℕ)
    → SoFar hooks hs graph pending index hs' ms long → SoFar hooks hs graph pending (count (stock hs)) hs' ms long
all_seen hooks hs graph pending boxes arrived index n long_is low high hs' ms long so_far =
    subst (λ k. SoFar hooks hs graph pending k hs' ms long) (let e : length boxes ≡ count (stock hs) = arrived.each in omega (arith, long_is, e, low, high)) so_far

-- a refusal that is handed on
pub handed : (X : Type 0) (P : X → Type 0) (o : Option Refusal) (result : Result X PlanFault) (e : PlanFault) → IsErr result × IsErrAnd result (λ f. f ≡ e) → Refuses {X = Unit {0}} o (Err e) → MatchResult result P (λ f. Refuses {X = Unit {0}} o (Err f))
handed X P o (Ok x) e h r = absurd h.1
handed X P o (Err f) e h r = subst (λ g. Refuses {X = Unit {0}} o (Err g)) (sym h.1) r

pub not_some : (o : Option ℕ) → ((n : ℕ) → o ≢ Some n) → o ≡ None
not_some None other = refl
not_some (Some n) other = absurd (other n refl)
