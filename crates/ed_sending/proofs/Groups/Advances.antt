-- What each projection's advance requires, at its turn in the order of the graph.
use Rattle.std.proofs.Common.{◌≡◌, ◌≢◌, ℕ, ◌<◌, List, [], ◌∷◌, ◌++◌, fold, Option, None, refl, sym, ap, ◌∙◌, subst}
use Rattle.ed_base.specs.declared.piece.Member.{Member}
use Rattle.ed_base.specs.declared.piece.Piece.{Piece}
use Rattle.ed_base.specs.Hooks.{HookTable}
use Rattle.ed_layers.specs.Owning.{OwnInside, OwnInOrder}
use Rattle.ed_layers.specs.Records.{projection}
use Rattle.ed_sending.proofs.Groups.AcceptedEdit.{group_advances}
use Rattle.ed_sending.proofs.Groups.LandedSteps.{based, turn}
use Rattle.ed_sending.proofs.Groups.Turns.{Splits}
use Rattle.ed_sending.proofs.Lists.SortedParts.{Each}
use Rattle.ed_stock.specs.Landing.{bases_reached, down_fault, landed_at, sent_down}
use Rattle.ed_stock.specs.Stock.{Stock, count, graph_order, record_now}
use Rattle.ed_stock.specs.Versions.{none_given, risen_at, step_in}
use Rattle.ed_sending.specs.Ready.{IsReady, height_now}

-- the list would have what it doesn't have
behind : (c : ℕ) (xs ys : List ℕ) → Each (λ d. d ≢ c) (xs ++ c ∷ ys) → ⊥
behind c [] ys a = a.0 refl
behind c (x ∷ xs) ys a = behind c xs ys a.1

-- a list in which one stands once is split there in one way
pub same_front : (c : ℕ) (xs ys front back : List ℕ) → xs ++ c ∷ ys ≡ front ++ c ∷ back → Each (λ d. d ≢ c) xs → Each (λ d. d ≢ c) ys → xs ≡ front
same_front c [] ys [] back e before after = refl
same_front c [] ys (f ∷ front) back e before after = absurd (let rest : ys ≡ front ++ c ∷ back = cc in behind c front back (subst (Each (λ d. d ≢ c)) rest after))
same_front c (x ∷ xs) ys [] back e before after = absurd (before.0 (let g : x ≡ c = cc in g))
same_front c (x ∷ xs) ys (f ∷ front) back e before after =
    let rest : xs ++ c ∷ ys ≡ front ++ c ∷ back = cc in
    let first : x ≡ f = cc in
    ap (λ z. z ∷ xs) first ∙ ap (λ zs. f ∷ zs) (same_front c xs ys front back rest before.1 after)

module _ (hooks : HookTable) (s : Stock) (ready : IsReady s) (start : List (ℕ × Piece)) (own : Each (λ bp. bp.1.trail ≡ []) start) (accepted : down_fault hooks s start ≡ None) (reiterated : ℕ → Option ℕ) where
  -- what the members of a projection own lies inside them, and in order, once all buffers before it have had their turns
  pub advances_along : (front back : List ℕ) (c : ℕ) → graph_order s ≡ front ++ c ∷ back → c < count s → (members : List Member) (from : List (ℕ × ℕ)) → record_now s c ≡ projection members from →
      OwnInside c (λ b. step_in (fold (risen_at none_given) (fold (landed_at (sent_down hooks s start) reiterated) (record { stock = s; moves = [] }) (bases_reached s (sent_down hooks s start))) front).moves b) members
      × OwnInOrder c (λ b. step_in (fold (risen_at none_given) (fold (landed_at (sent_down hooks s start) reiterated) (record { stock = s; moves = [] }) (bases_reached s (sent_down hooks s start))) front).moves b) members
  advances_along front back c split there members from is =
      let own_turn : Splits (height_now s) (graph_order s) c = turn s (sent_down hooks s start) reiterated c there in
      let same : own_turn.front ≡ front = same_front c own_turn.front own_turn.back front back (sym own_turn.is ∙ split) own_turn.before own_turn.after in
      subst (λ (ds : List ℕ). OwnInside c (λ b. step_in (fold (risen_at none_given) (based s (sent_down hooks s start) reiterated) ds).moves b) members × OwnInOrder c (λ b. step_in (fold (risen_at none_given) (based s (sent_down hooks s start) reiterated) ds).moves b) members) same
      (group_advances hooks s ready start own accepted reiterated c there members from is)
