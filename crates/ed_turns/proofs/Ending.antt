-- The lock at its start, and at its end, where one seat has every number.
use Rattle.std.proofs.Common.{◌≡◌, ◌≢◌, ℕ, zero, suc, ◌^◌, ◌<◌, ◌≤◌, List, [], ◌∷◌, ◌++◌, map, length, true, false, true≢false, arith, sym, refl, ap, ◌∙◌, subst, ⊎_elim, inl, Option, Some, None, append-nil}
use mathlib.Core.Option.{some, some-injective, some-ne-none}
use mathlib.Core.Logic.{dite}
use native.Mathlib.Decide.{ℕ_discrete, dec_lt}
use lib.ListN.{get_elem?}
use Rattle.atomic_table.specs.Table.{State, opening}
use Rattle.atomic_table.proofs.Lists.{at_map}
use Rattle.ed_turns.specs.declared.view.View.{View}
use Rattle.ed_turns.specs.declared.view.Held.{Held}
use Rattle.ed_turns.specs.History.{Entry, Among, NoneBy, leaves, IsLegal}
use Rattle.ed_turns.specs.Rule.{number_list, numbers, all_numbers, newcomer, AtHome, Kept, Sits}
use Rattle.ed_turns.proofs.Totals.{total_two}
use Rattle.ed_turns.proofs.Numbers.{among_none}
use Rattle.ed_turns.proofs.Tickets.{no_ticket}
use Rattle.ed_turns.proofs.Histories.{none_by_back}

module _ {V : Type 0} where
  only : (x y : V) (i : ℕ) → get_elem? (x ∷ []) i ≡ some y → (i ≡ 0) × (x ≡ y)
  only x y zero e = (refl, some-injective x y e)
  only x y (suc i) e = absurd (some-ne-none y (sym e))

module _ {V B : Type 0} where
  at_map_back : (f : V → B) (l : List V) (i : ℕ) (b : B) → get_elem? (map f l) i ≡ some b → (v : V) × (get_elem? l i ≡ some v) × (f v ≡ b)
  at_map_back f [] i b e = absurd (some-ne-none b (sym e))
  at_map_back f (x ∷ xs) zero b e = (x, refl, some-injective (f x) b e)
  at_map_back f (x ∷ xs) (suc i) b e = at_map_back f xs i b e

-- a history without a call of anyone is empty
by_nobody : {E R : Type 0} → (es : List (Entry E R)) → ((n : ℕ) → NoneBy n es) → es ≡ []
by_nobody [] h = refl
by_nobody (x ∷ xs) h = absurd ((h x.0).0 refl)

module _ {M A E L R : Type 0} (fits : M → A → ℕ → E → L → Type 0) (reply : M → A → ℕ → E → R) (after : M → A → ℕ → E → M) (m : M) (a : A) (most : ℕ) where
  pub opens : (h : Held M E R) → most < 2 ^ 32 → h.machine ≡ m → h.history.items ≡ [] → h.shut ≡ false → Kept fits reply after m a most (opening (0 ∷ 0 ∷ 0 ∷ []) (Some h ∷ []) (newcomer m a))
  opens h small machine items shut = record {
    serving = 0;
    ticket = 0;
    count = 0;
    log = [];
    flag = false;
    words_are = refl;
    few = omega arith;
    small = small;
    seats = record {
      number_count = refl;
      all_below = λ i n ns e x. absurd (subst (Among n) (sym (only [] ns i e).1) x);
      each_stands = λ n x. absurd (omega arith);
      stands_once = λ i j n ns ms e f x y. absurd (subst (Among n) (sym (only [] ns i e).1) x);
    };
    turns = record {
      out = refl;
      within = λ i t e. absurd (no_ticket t (only None (Some t) i e).1);
      once = λ i j t e f. absurd (no_ticket t (only None (Some t) i e).1);
    };
    legal = tt;
    by_seats = λ n _. tt;
    each_sits = λ i v e. subst (Sits fits reply after m a 0 [] false) (only (newcomer m a) v i e).1 record {
      same_ground = λ _. (refl, refl);
      later = [];
      begins = refl;
      others = λ n _. tt;
      aside_later = [];
      aside_begins = refl;
      aside_others = λ n _. tt;
      has_number = λ t z. absurd (no_ticket t z);
      is_served = λ z. absurd (true≢false (sym z));
      knows = λ z. ⊎_elim (λ y. absurd (true≢false (sym y))) (λ y. absurd (true≢false (sym y))) z;
    };
    value_is = inl (h, refl, items, machine, shut, λ i v e. ap (λ u. u.has_slot) (sym (only (newcomer m a) v i e).1));
  }

  module _ (s : State (Option (Held M E R)) (View M A E R)) (k : Kept fits reply after m a most s) (id : ℕ) (v : View M A E R) (at : get_elem? s.views id ≡ some v) (home : v.has_slot ≡ false) (bare : v.aside ≡ []) (every : most ≤ length (all_numbers v)) where
    -- no other seat has a number
    nobody : (j : ℕ) (u : View M A E R) → j ≢ id → get_elem? s.views j ≡ some u → length (all_numbers u) ≡ 0
    nobody j u apart there =
        let two = total_two length (map all_numbers s.views) id j (all_numbers v) (all_numbers u) (λ e. apart (sym e)) (at_map all_numbers s.views id v at) (at_map all_numbers s.views j u there) in
        let sum = k.seats.number_count in let few = k.few in omega arith

    no_slot : (j : ℕ) (u : View M A E R) → j ≢ id → get_elem? s.views j ≡ some u → u.has_slot ≡ true → ⊥
    no_slot j u apart there has = let o = k.each_sits j u there in let n = o.has_number k.serving (o.is_served has).0 in
        among_none n.0 (all_numbers u) (nobody j u apart there) (subst (λ (x : Option ℕ). Among n.0 ((number_list x ++ u.taken) ++ u.aside)) (sym n.1) (inl refl))

    at_home : AtHome fits reply after m a k.log k.flag s
    at_home = ⊎_elim (λ t. t) (λ t. absurd (dite (ℕ_discrete t.0 id)
        (λ e. let same : t.1 ≡ v = some-injective t.1 v (sym t.2 ∙ (ap (get_elem? s.views) e ∙ at)) in true≢false (sym t.3 ∙ (ap (λ u. u.has_slot) same ∙ home)))
        (λ ne. no_slot t.0 t.1 ne t.2 t.3))) k.value_is

    none_later : (n : ℕ) → NoneBy n (k.each_sits id v at).later
    none_later n = let o = k.each_sits id v at in dite (dec_lt n k.count)
        (λ below. let t = k.seats.each_stands n below in let u = at_map_back all_numbers s.views t.0 t.1 t.2 in dite (ℕ_discrete t.0 id)
        (λ e. let same : u.0 ≡ v = some-injective u.0 v (sym u.1 ∙ (ap (get_elem? s.views) e ∙ at)) in
        let mine : Among n (all_numbers v) = subst (Among n) (sym u.2 ∙ ap all_numbers same) t.3 in
        o.others n (subst (Among n) (ap (λ (z : List ℕ). numbers v ++ z) bare ∙ append-nil (numbers v)) mine))
        (λ ne. absurd (among_none n (all_numbers u.0) (nobody t.0 u.0 ne u.1) (subst (Among n) (sym u.2) t.3))))
        (λ above. none_by_back n v.front o.later (subst (NoneBy n) o.begins (k.by_seats n (omega arith))))

    -- the value that lies in the slot has the history that the last seat has seen
    pub ends : v.is_live ≡ true → (h : Held M E R) × (get_elem? s.homes 0 ≡ some (some (Some h))) × (h.history.items ≡ v.front) × (h.machine ≡ leaves fits reply after v.aid v.opening v.front) × IsLegal fits reply after v.aid v.opening v.front
    ends live = let t = at_home in let o = k.each_sits id v at in let ground = o.same_ground live in
        let whole : k.log ≡ v.front = o.begins ∙ (ap (λ (z : List (Entry E R)). v.front ++ z) (by_nobody o.later none_later) ∙ append-nil v.front) in
        let path : ◌≡◌ {A = A × M × List (Entry E R)} (a, m, k.log) (v.aid, v.opening, v.front) = λ i. (sym ground.1 i, sym ground.0 i, whole i) in (
          t.0,
          ap (λ hs. get_elem? hs 0) t.1,
          t.2 ∙ whole,
          t.3 ∙ ap (λ (z : A × M × List (Entry E R)). leaves fits reply after z.0 z.1 z.2) path,
          subst (λ (z : A × M × List (Entry E R)). IsLegal fits reply after z.0 z.1 z.2) path k.legal,
        )
