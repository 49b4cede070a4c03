-- All that arrives at a buffer, where carriers send one after another, each only to such as come later.
use Rattle.std.proofs.Common.{◌≡◌, ℕ, List, [], ◌∷◌, ◌++◌, sym, ap, ◌∙◌, append_assoc}
use Rattle.std.specs.Prelude.{flat_map, fold}
use Rattle.std.proofs.lemmas.List.{append-nil}
use Rattle.ed_base.specs.declared.piece.Piece.{Piece}
use Rattle.ed_stock.specs.Landing.{pieces_at}
use Rattle.ed_sending.proofs.Lists.SortedParts.{Each}
use Rattle.ed_sending.proofs.Carriers.SentPieces.{pieces_append}
use Rattle.ed_sending.proofs.Members.DealtPieces.{flat_none}

-- `send c arrived` is what carrier c sends on of the pieces that arrived there.
module _ (send : ℕ → List Piece → List (ℕ × Piece)) where
  abbrev pub sent_on : List (ℕ × Piece) → ℕ → List (ℕ × Piece)
  sent_on pending c = pending ++ send c (pieces_at pending c)

  -- no carrier sends to itself, nor a later one to an earlier one
  abbrev pub SendLater : List ℕ → Type 0
  SendLater [] = Unit {0}
  SendLater (c ∷ cs) = ((arrived : List Piece) → pieces_at (send c arrived) c ≡ []) × Each (λ d. (arrived : List Piece) → pieces_at (send d arrived) c ≡ []) cs × SendLater cs

  -- What arrives at a buffer is what was there at the start, and then what each carrier sends there of all that arrives at it.
  pub all_sent : (start : List (ℕ × Piece)) (order : List ℕ) → SendLater order → (b : ℕ) → pieces_at (fold sent_on start order) b ≡ pieces_at start b ++ flat_map (λ c. pieces_at (send c (pieces_at (fold sent_on start order) c)) b) order
  all_sent start [] later b = sym (append-nil (pieces_at start b))
  all_sent start (c ∷ cs) later b =
      let next : List (ℕ × Piece) = sent_on start c in
      let final : List (ℕ × Piece) = fold sent_on next cs in
      let none : (cs : List ℕ) → Each (λ d. (arrived : List Piece) → pieces_at (send d arrived) c ≡ []) cs → Each (λ d. pieces_at (send d (pieces_at final d)) c ≡ []) cs = none_to final in
      let settled : pieces_at final c ≡ pieces_at start c =
      all_sent next cs later.2 c ∙ ap (λ z. pieces_at next c ++ z) (flat_none (λ d. pieces_at (send d (pieces_at final d)) c) cs (none cs later.1)) ∙ append-nil (pieces_at next c)
      ∙ pieces_append start (send c (pieces_at start c)) c ∙ ap (λ z. pieces_at start c ++ z) (later.0 (pieces_at start c)) ∙ append-nil (pieces_at start c) in
      all_sent next cs later.2 b
      ∙ ap (λ z. z ++ flat_map (λ d. pieces_at (send d (pieces_at final d)) b) cs) (pieces_append start (send c (pieces_at start c)) b ∙ ap (λ z. pieces_at start b ++ pieces_at (send c z) b) (sym settled))
      ∙ append_assoc (pieces_at start b) (pieces_at (send c (pieces_at final c)) b) (flat_map (λ d. pieces_at (send d (pieces_at final d)) b) cs)
    where
      none_to : (final : List (ℕ × Piece)) (cs : List ℕ) → Each (λ d. (arrived : List Piece) → pieces_at (send d arrived) c ≡ []) cs → Each (λ d. pieces_at (send d (pieces_at final d)) c ≡ []) cs
      none_to final [] a = tt
      none_to final (d ∷ ds) a = (a.0 (pieces_at final d), none_to final ds a.1)

  -- What stands at a carrier when its turn comes is all that ever arrives there.
  pub settled : (start : List (ℕ × Piece)) (c : ℕ) (cs : List ℕ) → SendLater (c ∷ cs) → pieces_at (fold sent_on (sent_on start c) cs) c ≡ pieces_at start c
  settled start c cs later =
      let next : List (ℕ × Piece) = sent_on start c in
      let final : List (ℕ × Piece) = fold sent_on next cs in
      all_sent next cs later.2 c ∙ ap (λ z. pieces_at next c ++ z) (flat_none (λ d. pieces_at (send d (pieces_at final d)) c) cs (none cs later.1)) ∙ append-nil (pieces_at next c)
      ∙ pieces_append start (send c (pieces_at start c)) c ∙ ap (λ z. pieces_at start c ++ z) (later.0 (pieces_at start c)) ∙ append-nil (pieces_at start c)
    where
      none : (ds : List ℕ) → Each (λ d. (arrived : List Piece) → pieces_at (send d arrived) c ≡ []) ds → Each (λ d. pieces_at (send d (pieces_at (fold sent_on (sent_on start c) cs) d)) c ≡ []) ds
      none [] a = tt
      none (d ∷ ds) a = (a.0 (pieces_at (fold sent_on (sent_on start c) cs) d), none ds a.1)
