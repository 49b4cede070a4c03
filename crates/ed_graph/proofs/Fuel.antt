-- Heights and reaching by how many rounds they were searched.
use Rattle.std.proofs.Common.{◌≡◌, ℕ, zero, suc, ◌+◌, ◌-◌, ◌<◌, ◌≤◌, List, [], ◌∷◌, map, fold, max, refl, ◌∙◌, ap, arith}
use Rattle.std.specs.List.{AllByRecursion as Each}
use Rattle.ed_layers.specs.Graph.{height_within}
use Rattle.ed_graph.proofs.Lists.{each, each_weaker, map_agree, greatest_rises, greatest_within}

-- the same sources give the same heights, however many buffers there are
pub same_heights : (S S' : ℕ → List ℕ) (n n' : ℕ) → ((b : ℕ) → S b ≡ S' b) → (k b : ℕ) → height_within S n k b ≡ height_within S' n' k b
unfolding height_within
same_heights S S' n n' e zero b = refl
same_heights S S' n n' e (suc k) b =
    ap (λ xs. fold max 0 xs) (map_agree (λ s. height_within S n k s + 1) (λ s. height_within S' n' k s + 1) (S b) (each _ (λ s. ap (λ h. h + 1) (same_heights S S' n n' e k s)) (S b)) ∙ ap (map (λ s. height_within S' n' k s + 1)) (e b))

module _ (S : ℕ → List ℕ) (n : ℕ) where
  pub rises : (k b : ℕ) → height_within S n k b ≤ height_within S n (suc k) b
  unfolding height_within
  rises zero b = omega arith
  rises (suc k) b = greatest_rises _ _ (λ s. let h : height_within S n k s ≤ height_within S n (suc k) s = rises k s in omega arith) (S b) 0 0 (omega arith)

  pub within_rounds : (k b : ℕ) → height_within S n k b ≤ k
  unfolding height_within
  within_rounds zero b = omega arith
  within_rounds (suc k) b = greatest_within _ (suc k) (S b) (each _ (λ s. let h : height_within S n k s ≤ k = within_rounds k s in omega arith) (S b)) 0 (omega arith)

  -- where each source ranks below its buffer, a buffer's height is found after as many rounds as its rank
  module _ (r : ℕ → ℕ) (ranked : (b : ℕ) → Each (λ s. r s < r b) (S b)) where
    none : (ss : List ℕ) → Each (λ s. r s < 0) ss → ss ≡ []
    none [] e = refl
    none (s ∷ ss) e = absurd (let h : r s < 0 = e.0 in omega arith)

    one_more : (k b : ℕ) → r b ≤ k → height_within S n (suc k) b ≡ height_within S n k b
    unfolding height_within
    one_more zero b h = ap (λ ss. fold max 0 (map (λ s. height_within S n 0 s + 1) ss)) (none (S b) (each_weaker _ _ (λ s l. omega arith) (S b) (ranked b)))
    one_more (suc k) b h =
        ap (λ xs. fold max 0 xs) (map_agree (λ s. height_within S n (suc k) s + 1) (λ s. height_within S n k s + 1) (S b)
        (each_weaker _ _ (λ s l. ap (λ x. x + 1) (one_more k s (omega arith))) (S b) (ranked b)))

    after_rank : (k b : ℕ) → height_within S n (k + r b) b ≡ height_within S n (r b) b
    after_rank zero b = ap (λ j. height_within S n j b) (let e : 0 + r b ≡ r b = omega arith in e)
    after_rank (suc k) b =
        ap (λ j. height_within S n j b) (let e : suc k + r b ≡ suc (k + r b) = omega arith in e) ∙ (one_more (k + r b) b (omega arith) ∙ after_rank k b)

    pub found : (k b : ℕ) → r b ≤ k → height_within S n k b ≡ height_within S n (r b) b
    found k b h = ap (λ j. height_within S n j b) (let e : k ≡ (k - r b) + r b = omega arith in e) ∙ after_rank (k - r b) b
