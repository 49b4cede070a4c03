-- What a join and the end of the lock come to.
use Rattle.std.proofs.Common.{◌≡◌, ℕ, ◌+◌, ◌≤◌, List, length, sym, ap, ◌∙◌, subst, arith, append-nil, Option, Some}
use mathlib.Core.Option.{some, some-injective}
use lib.ListN.{get_elem?}
use Rattle.atomic_table.specs.Table.{Final, Seen}
use Rattle.atomic_table.specs.Seated.{TableId}
use Rattle.ed_turns.specs.declared.view.View.{View}
use Rattle.ed_turns.specs.declared.view.Held.{Held}
use Rattle.ed_turns.specs.Known.{Known, known, resting, IsResting}
use Rattle.ed_turns.specs.Rule.{Seated, Kept, all_numbers, both, Merges}
use Rattle.ed_turns.specs.Called.{state_after, IsHistory}
use Rattle.ed_turns.specs.Joined.{Joined}
use Rattle.ed_turns.proofs.Ending.{ends}

same_some : {H : Type 0} → (x y : H) → Some x ≡ Some y → x ≡ y
same_some x y e = cc

module _ {M A E R : Type 0} where
  -- the seat x took in the seat y, and is then w
  pub meets : (v k : Known M A E R) (z u z' : TableId) (n i : ℕ) (x y j w : Seated M A E R) → known z n x.0 ≡ v → IsResting z n x.0 → known u i y.0 ≡ k → IsResting u i y.0 → z' ≡ z → j ≡ (both x.0 y.0, x.1) → Merges j w → Joined v k (known z' n w.0)
  meets v k z u z' n i x y j w seen rests seen_too rests_too same joined merged_is =
      let one : x.0 ≡ resting v = rests ∙ ap resting seen in let two : y.0 ≡ resting k = rests_too ∙ ap resting seen_too in
      let path : ◌≡◌ {A = Seated M A E R} j (both (resting v) (resting k), x.1) = joined ∙ (λ c. (both (one c) (two c), x.1)) in
      let m = subst (λ (q : Seated M A E R). Merges q w) path merged_is in
      let name : z' ≡ v.lock.name = same ∙ ap (λ q. q.lock.name) seen in let number : n ≡ v.number = ap (λ q. q.number) seen in
      let front = ap (λ (q : Seated M A E R). q.0.front) m.0 in (
        (λ c. known (name c) (number c) (m.0 c).0),
        (m.2.0, front ∙ m.2.1, m.2.2),
        (m.3.0, front ∙ m.3.1, m.3.2),
      )

module _ {M A E L R : Type 0} (fits : M → A → ℕ → E → L → Type 0) (reply : M → A → ℕ → E → R) (after : M → A → ℕ → E → M) (m : M) (a : A) (most : ℕ) where
  -- the value that comes out of a table whose every number the seat v has
  pub closes : (k : Known M A E R) (z : TableId) (n id : ℕ) (v : View M A E R) (ws : List ℕ) (xs : List (Option (Held M E R))) (r : Option (Held M E R)) → known z n v ≡ k → IsResting z n v → length k.taken + 1 ≡ most
      → Final (Seen (Kept fits reply after m a most) id v) ws xs → get_elem? xs 0 ≡ some r
      → (h : Held M E R) × (r ≡ Some h) × (h.history.items ≡ k.front) × (h.machine ≡ state_after fits reply after k.lock k.front) × IsHistory fits reply after k.lock k.front
  closes k z n id v ws xs r seen rests count final found =
      let is : v ≡ resting k = rests ∙ ap resting seen in
      let every : most ≤ length (all_numbers v) = subst (λ (u : View M A E R). most ≤ length (all_numbers u)) (sym is) (let e = ap length (append-nil k.taken) in omega arith) in
      let t = ends fits reply after m a most final.0 final.1.0 id v final.1.1 (ap (λ u. u.has_slot) is) (ap (λ u. u.aside) is) every (ap (λ u. u.is_live) is) in
      let path : ◌≡◌ {A = Known M A E R} (known z n v) k = seen in (
        t.0,
        some-injective r (Some t.0) (sym found ∙ final.4 0 (Some t.0) t.1),
        t.2 ∙ ap (λ q. q.front) path,
        t.3 ∙ ap (λ (q : Known M A E R). state_after fits reply after q.lock q.front) path,
        subst (λ (q : Known M A E R). IsHistory fits reply after q.lock q.front) path t.4,
      )

  -- the same of what is taken out
  pub closed_value : (k : Known M A E R) (z : TableId) (n id : ℕ) (v : View M A E R) (ws : List ℕ) (xs : List (Option (Held M E R))) (r : Option (Held M E R)) (u : Held M E R) → known z n v ≡ k → IsResting z n v → length k.taken + 1 ≡ most
      → Final (Seen (Kept fits reply after m a most) id v) ws xs → get_elem? xs 0 ≡ some r → r ≡ Some u
      → (u.history.items ≡ k.front) × (u.machine ≡ state_after fits reply after k.lock k.front) × IsHistory fits reply after k.lock k.front
  closed_value k z n id v ws xs r u seen rests count final found is = let t = closes k z n id v ws xs r seen rests count final found in
      let same : u ≡ t.0 = same_some u t.0 (sym is ∙ t.1) in (ap (λ (h : Held M E R). h.history.items) same ∙ t.2, ap (λ (h : Held M E R). h.machine) same ∙ t.3, t.4)
