-- The step of an elision buffer: the kept pairs of its source of which both places are shown, each told by the number of shown places before it.
use Rattle.std.proofs.Common.{◌≡◌, MatchOption, ℕ, zero, suc, ◌+◌, ◌-◌, ◌<◌, ◌≤◌, Bool, true, false, true≢false, ◌&&◌, List, [], ◌∷◌, length, map, filter, nat_eq, find, position, Option, Some, None, option_map, option_and_then, sum_by, inl, inr, refl, sym, ap, subst, ◌∙◌, arith}
use Rattle.std.specs.List.{range_with_len, position_from}
use Rattle.std.specs.Option.{option_map_or}
use Rattle.std.proofs.lemmas.Bool.{cases_lt, eq-eqb, ne_eqb}
use Rattle.std.proofs.lemmas.Iterator.Adapters.{position_from-zero}
use Rattle.ed_base.specs.Step.{Step, pairs_from}
use Rattle.std.proofs.lemmas.List.{append-nil}
use Rattle.ed_base.specs.declared.edit.Change.{Change}
use Rattle.ed_base.specs.ChangeList.{ChangeList, IsNormal, step, new_len}
use Rattle.ed_kept.specs.Kept.{ArePairsRising, pairs_of, run_pairs, runs_from}
use Rattle.ed_kept.proofs.RunLemmas.{step_kept, step_len}
use Rattle.ed_elide.specs.Steps.{Steps}
use Rattle.ed_kept.proofs.Rising.{rising_within}
use Rattle.ed_layers.specs.Records.{elision, is_shown}
use Rattle.ed_layers.specs.SourceStep.{SourceStep, kept_from}
use Rattle.ed_layers.specs.CarrierStep.{Slot, carrier_step, all_stay, is_same_slot, slots, origins}
use Rattle.ed_layers.specs.Hidden.{nearest}
use Rattle.ed_elide.specs.AfterStep.{shown_pairs, shown_step}
use Rattle.ed_elide.proofs.NearestLemmas.{one_if}
use Rattle.ed_elide.proofs.PairLemmas.{AreFrom, at, none_at_from}
use Rattle.ed_elide.proofs.RankLemmas.{rank, nearest_rank, length_filter, rank_next}

-- ---- where a place stands among those that pass

place_found : (t : ℕ → Bool) (p k a m d : ℕ) → p ≡ a + d → d < m → t p ≡ true → position_from (nat_eq p) k (filter t (range_with_len a m)) ≡ Some (k + rank t a d)
place_found t p k a zero d is less passes = absurd (omega arith)
place_found t p k a (suc m) zero is less passes = let e : p ≡ a = omega (arith, is) in let here : t a ≡ true = ap t (sym e) ∙ passes in let z : k ≡ k + 0 = omega arith in rw (here, eq-eqb p a e) (ap Some z)
place_found t p k a (suc m) (suc d) is less passes = front (t a) refl (λ j. place_found t p j (a + 1) m d (omega (arith, is)) (omega arith) passes)
  where
    front : (b : Bool) → t a ≡ b → ((j : ℕ) → position_from (nat_eq p) j (filter t (range_with_len (a + 1) m)) ≡ Some (j + rank t (a + 1) d)) → position_from (nat_eq p) k (filter t (range_with_len a (suc m))) ≡ Some (k + (one_if (t a) + rank t (a + 1) d))
    front true is_one rest =
        let e : k + 1 + rank t (a + 1) d ≡ k + (1 + rank t (a + 1) d) = omega arith in
        rw (is_one, ne_eqb p a (λ e. omega (arith, is, e))) (rest (k + 1) ∙ ap Some e)
    front false not_so rest = let e : k + rank t (a + 1) d ≡ k + (0 + rank t (a + 1) d) = omega arith in rw not_so (rest k ∙ ap Some e)

place_lost : (t : ℕ → Bool) (p k a m : ℕ) → (a ≤ p → p < a + m → t p ≡ false) → position_from (nat_eq p) k (filter t (range_with_len a m)) ≡ None
place_lost t p k a zero fails = refl
place_lost t p k a (suc m) fails = front (t a) refl (λ j. place_lost t p j (a + 1) m (λ more less. fails (omega (arith, more)) (omega (arith, less))))
  where
    front : (b : Bool) → t a ≡ b → ((j : ℕ) → position_from (nat_eq p) j (filter t (range_with_len (a + 1) m)) ≡ None) → position_from (nat_eq p) k (filter t (range_with_len a (suc m))) ≡ None
    front true is rest = rw (is, ne_eqb p a (λ e. clash e)) (rest (k + 1))
      where
        clash : p ≡ a → ⊥
        clash e = true≢false (sym is ∙ ap t (sym e) ∙ fails (omega (arith, e)) (omega (arith, e)))
    front false is rest = rw is (rest k)

-- ---- the kept pairs, by new place

module _ (old new : ℕ → Bool) (n : ℕ) where
  -- the place of an old unit among the shown ones
  abbrev pub where_old : ℕ → Option ℕ
  where_old p = position_from (nat_eq p) 0 (filter old (range_with_len 0 n))

  abbrev pub both_shown : List (ℕ × ℕ) → List (ℕ × ℕ)
  both_shown kept = map (λ pair. (rank old 0 pair.0, rank new 0 pair.1)) (filter (λ pair. old pair.0 && new pair.1) kept)

  where_shown : (p : ℕ) → p < n → old p ≡ true → where_old p ≡ Some (rank old 0 p)
  where_shown p below is = let z : 0 + rank old 0 p ≡ rank old 0 p = omega arith in place_found old p 0 0 n p (omega arith) below is ∙ ap Some z

  where_hidden : (p : ℕ) → old p ≡ false → where_old p ≡ None
  where_hidden p is = place_lost old p 0 0 n (λ from less. is)

  abbrev pub shown_origin : (ℕ → Option ℕ) → ℕ → Option ℕ
  shown_origin came q = option_and_then where_old (came q)

  abbrev pub CameFrom : (ℕ → Option ℕ) → ℕ → ℕ → List (ℕ × ℕ) → Type 0
  CameFrom came a m kept = (q : ℕ) → a ≤ q → q < m → came q ≡ option_map (λ (pair : ℕ × ℕ). pair.0) (find (at q) kept)

  -- a new place to which no unit was kept
  put_in_next : (came : ℕ → Option ℕ) (a k c : ℕ) (ps : List (ℕ × ℕ)) → came a ≡ None → c ≡ rank new 0 a
      → ((d : ℕ) → d ≡ rank new 0 (a + 1) → pairs_from d (map (shown_origin came) (filter new (range_with_len (a + 1) k))) ≡ ps)
      → pairs_from c (map (shown_origin came) (filter new (range_with_len a (suc k)))) ≡ ps
  put_in_next came a k c ps none count rest = front (new a) refl
    where
      next : rank new 0 (a + 1) ≡ rank new 0 a + one_if (new a)
      next = let e : a + 1 ≡ suc a = omega arith in let z : 0 + a ≡ a = omega arith in ap (rank new 0) e ∙ rank_next new 0 a ∙ ap (λ x. rank new 0 a + one_if (new x)) z

      front : (b : Bool) → new a ≡ b → pairs_from c (map (shown_origin came) (filter new (range_with_len a (suc k)))) ≡ ps
      front true is = let one : one_if (new a) ≡ 1 = ap one_if is in rw (is, none) (rest (c + 1) (omega (arith, count, next, one)))
      front false is = let one : one_if (new a) ≡ 0 = ap one_if is in rw is (rest c (omega (arith, count, next, one)))

  -- a kept unit
  kept_next : (came : ℕ → Option ℕ) (p a k c : ℕ) (kept : List (ℕ × ℕ)) → p < n → came a ≡ Some p → c ≡ rank new 0 a
      → ((d : ℕ) → d ≡ rank new 0 (a + 1) → pairs_from d (map (shown_origin came) (filter new (range_with_len (a + 1) k))) ≡ both_shown kept)
      → pairs_from c (map (shown_origin came) (filter new (range_with_len a (suc k)))) ≡ both_shown ((p, a) ∷ kept)
  kept_next came p a k c kept below some count rest = front (new a) (old p) refl refl
    where
      next : rank new 0 (a + 1) ≡ rank new 0 a + one_if (new a)
      next = let e : a + 1 ≡ suc a = omega arith in let z : 0 + a ≡ a = omega arith in ap (rank new 0) e ∙ rank_next new 0 a ∙ ap (λ x. rank new 0 a + one_if (new x)) z

      front : (b b' : Bool) → new a ≡ b → old p ≡ b' → pairs_from c (map (shown_origin came) (filter new (range_with_len a (suc k)))) ≡ both_shown ((p, a) ∷ kept)
      front false true is is' = let one : one_if (new a) ≡ 0 = ap one_if is in rw (is, is') (rest c (omega (arith, count, next, one)))
      front false false is is' = let one : one_if (new a) ≡ 0 = ap one_if is in rw (is, is') (rest c (omega (arith, count, next, one)))
      front true true is is' = let one : one_if (new a) ≡ 1 = ap one_if is in rw (is, is', some, where_shown p below is') (ap (λ x. (rank old 0 p, x) ∷ pairs_from (c + 1) (map (shown_origin came) (filter new (range_with_len (a + 1) k)))) count ∙ ap (λ u. (rank old 0 p, rank new 0 a) ∷ u) (rest (c + 1) (omega (arith, count, next, one))))
      front true false is is' = let one : one_if (new a) ≡ 1 = ap one_if is in rw (is, is', some, where_hidden p is') (rest (c + 1) (omega (arith, count, next, one)))

  rising_from : (i j b m : ℕ) (kept : List (ℕ × ℕ)) → ArePairsRising i j b m kept → AreFrom j kept
  rising_from i j b m [] r = tt
  rising_from i j b m (pair ∷ kept) r = (r.1, from_later (pair.1 + 1) j kept (omega (arith, r.1)) (rising_from (pair.0 + 1) (pair.1 + 1) b m kept r.2))
    where
      from_later : (x y : ℕ) (ps : List (ℕ × ℕ)) → y ≤ x → AreFrom x ps → AreFrom y ps
      from_later x y [] le a = tt
      from_later x y (z ∷ ps) le a = (omega (arith, le, a.0), from_later x y ps le a.1)

  -- from new place a on, of which c stand shown before; `came` tells where a unit comes from
  pub pairs_shown : (came : ℕ → Option ℕ) (i a k c : ℕ) (kept : List (ℕ × ℕ)) → ArePairsRising i a n (a + k) kept → CameFrom came a (a + k) kept → c ≡ rank new 0 a
      → pairs_from c (map (shown_origin came) (filter new (range_with_len a k))) ≡ both_shown kept
  pairs_shown came i a zero c [] rising same count = refl
  pairs_shown came i a zero c (pair ∷ kept) rising same count = let ends : (pair.0 + 1 ≤ n) × (pair.1 + 1 ≤ a + 0) = rising_within (pair.0 + 1) (pair.1 + 1) n (a + 0) kept rising.2 in absurd (omega (arith, rising.1, ends.1))
  pairs_shown came i a (suc k) c [] rising same count =
      put_in_next came a k c [] (same a (omega arith) (omega arith)) count
      (λ d is. pairs_shown came i (a + 1) k d [] (rising.0, omega arith) (λ q from below. same q (omega arith) (omega arith)) is)
  pairs_shown came i a (suc k) c (pair ∷ kept) rising same count = elim (cases_lt a pair.1) [
    | inl later ↦ (
        let len : a + suc k ≡ a + 1 + k = omega arith in
        let all : ArePairsRising i (a + 1) n (a + 1 + k) (pair ∷ kept) = (rising.0, omega (arith, later), subst (λ m. ArePairsRising (pair.0 + 1) (pair.1 + 1) n m kept) len rising.2) in
        put_in_next came a k c (both_shown (pair ∷ kept)) (same a (omega arith) (omega arith) ∙ ap (option_map (λ (x : ℕ × ℕ). x.0)) (none_at_from a (a + 1) (pair ∷ kept) (omega arith) (rising_from i (a + 1) n (a + 1 + k) (pair ∷ kept) all))) count
        (λ d is. pairs_shown came i (a + 1) k d (pair ∷ kept) all (λ q from below. same q (omega arith) (omega arith)) is))
    | inr here ↦ (
        let e : pair.1 ≡ a = omega (arith, here, rising.1) in
        let len : a + suc k ≡ a + 1 + k = omega arith in
        let all : ArePairsRising (pair.0 + 1) (a + 1) n (a + 1 + k) kept = subst (λ x. ArePairsRising (pair.0 + 1) (x + 1) n (a + 1 + k) kept) e (subst (λ m. ArePairsRising (pair.0 + 1) (pair.1 + 1) n m kept) len rising.2) in
        let below : (pair.0 + 1 ≤ n) × (a + 1 ≤ a + 1 + k) = rising_within (pair.0 + 1) (a + 1) n (a + 1 + k) kept all in
        let some : came a ≡ Some pair.0 = same a (omega arith) (omega arith) ∙ rw (eq-eqb pair.1 a e) refl in
        kept_next came pair.0 a k c kept (omega (arith, below.0)) some count
        (λ d is. pairs_shown came (pair.0 + 1) (a + 1) k d kept all (λ q from less. same q (omega arith) (omega arith) ∙ rw (ne_eqb pair.1 q (λ x. omega (arith, e, from, x))) refl) is)
        ∙ ap (λ x. both_shown ((pair.0, x) ∷ kept)) (sym e))
  ]

-- ---- the carrier's step

abbrev slot_at : ℕ → ℕ → Slot
slot_at b p = record { member = 0; source = Some b; place = p }

slots_are : (flags : List Bool) (b v : ℕ) → slots (elision flags b v) ≡ map (slot_at b) (filter (is_shown flags) (range_with_len 0 (length flags)))
slots_are flags b v = refl

slot_found : (b p k : ℕ) (ps : List ℕ) → position_from (is_same_slot (slot_at b p)) k (map (slot_at b) ps) ≡ position_from (nat_eq p) k ps
slot_found b p k [] = refl
slot_found b p k (q ∷ ps) = rw (slot_found b p (k + 1) ps) refl

length_map : {X Y : Type 0} (f : X → Y) (xs : List X) → length (map f xs) ≡ length xs
length_map f [] = refl
length_map f (x ∷ xs) = rw (length_map f xs) refl

origins_are : (b : ℕ) (came : ℕ → Option ℕ) (steps : ℕ → Option SourceStep) (old qs : List ℕ) → ((q : ℕ) → option_map_or (λ s. kept_from s.step q) (steps b) (Some q) ≡ came q)
    → origins all_stay steps (map (slot_at b) old) (map (slot_at b) qs) ≡ map (λ q. option_and_then (λ p. position_from (nat_eq p) 0 old) (came q)) qs
origins_are b came steps old [] is = refl
origins_are b came steps old (q ∷ qs) is = rw (is q, origins_are b came steps old qs is) (ap (λ o. o ∷ map (λ q. option_and_then (λ p. position_from (nat_eq p) 0 old) (came q)) qs) (front (came q)))
  where
    front : (o : Option ℕ) → option_and_then (λ before. position (is_same_slot before) (map (slot_at b) old)) (option_map (λ p. slot_at b p) o) ≡ option_and_then (λ p. position_from (nat_eq p) 0 old) o
    front None = refl
    front (Some p) = position_from-zero (is_same_slot (slot_at b p)) (map (slot_at b) old) ∙ slot_found b p 0 old

length_shown : (flags : List Bool) (b v : ℕ) → length (slots (elision flags b v)) ≡ nearest flags (length flags)
length_shown flags b v = length_map (slot_at b) (filter (is_shown flags) (range_with_len 0 (length flags))) ∙ length_filter (is_shown flags) 0 (length flags) ∙ sym (nearest_rank flags (length flags) (omega arith))

-- the old place of a unit of the source
abbrev pub came_from : (ℕ → Option SourceStep) → ℕ → ℕ → Option ℕ
came_from steps b q = option_map_or (λ s. kept_from s.step q) (steps b) (Some q)

both_are_pairs : (old new : List Bool) (n m : ℕ) (i j : ℕ) (kept : List (ℕ × ℕ)) → n ≡ length old → m ≡ length new → ArePairsRising i j n m kept → both_shown (is_shown old) (is_shown new) n kept ≡ shown_pairs old new kept
both_are_pairs old new n m i j [] len len' rising = refl
both_are_pairs old new n m i j (pair ∷ kept) len len' rising =
    let within : (pair.0 + 1 ≤ n) × (pair.1 + 1 ≤ m) = rising_within (pair.0 + 1) (pair.1 + 1) n m kept rising.2 in
    let x : rank (is_shown old) 0 pair.0 ≡ nearest old pair.0 = sym (nearest_rank old pair.0 (omega (arith, within.0, len))) in
    let y : rank (is_shown new) 0 pair.1 ≡ nearest new pair.1 = sym (nearest_rank new pair.1 (omega (arith, within.1, len'))) in
    front (is_shown old pair.0 && is_shown new pair.1) refl x y (both_are_pairs old new n m (pair.0 + 1) (pair.1 + 1) kept len len' rising.2)
  where
    front : (b : Bool) → (is_shown old pair.0 && is_shown new pair.1) ≡ b → rank (is_shown old) 0 pair.0 ≡ nearest old pair.0 → rank (is_shown new) 0 pair.1 ≡ nearest new pair.1 → both_shown (is_shown old) (is_shown new) n kept ≡ shown_pairs old new kept → both_shown (is_shown old) (is_shown new) n (pair ∷ kept) ≡ shown_pairs old new (pair ∷ kept)
    front true is x y rest = rw (is, x, y) (ap (λ u. (nearest old pair.0, nearest new pair.1) ∷ u) rest)
    front false is x y rest = rw is rest

-- The step of an elision buffer whose source keeps these pairs.
pub carrier_shown : (old new : List Bool) (b v w : ℕ) (steps : ℕ → Option SourceStep) (s : Step) → s.old_len ≡ length old → s.new_len ≡ length new → ArePairsRising 0 0 (length old) (length new) s.kept → ((q : ℕ) → q < length new → came_from steps b q ≡ option_map (λ (pair : ℕ × ℕ). pair.0) (find (at q) s.kept))
    → carrier_step all_stay steps (elision old b v) (elision new b w) ≡ shown_step old new s
unfolding carrier_step
carrier_shown old new b v w steps s len len' rising same = cc (olds, news, kept)
  where
    olds : length (slots (elision old b v)) ≡ nearest old s.old_len
    olds = length_shown old b v ∙ ap (nearest old) (sym len)

    news : length (slots (elision new b w)) ≡ nearest new s.new_len
    news = length_shown new b w ∙ ap (nearest new) (sym len')

    kept : pairs_from 0 (origins all_stay steps (slots (elision old b v)) (slots (elision new b w))) ≡ shown_pairs old new s.kept
    kept =
        ap (pairs_from 0) (origins_are b (came_from steps b) steps (filter (is_shown old) (range_with_len 0 (length old))) (filter (is_shown new) (range_with_len 0 (length new))) (λ q. refl))
        ∙ pairs_shown (is_shown old) (is_shown new) (length old) (came_from steps b) 0 0 (length new) 0 s.kept (let z : length new ≡ 0 + length new = omega arith in subst (λ m. ArePairsRising 0 0 (length old) m s.kept) z rising) (λ q from below. same q (omega (arith, below))) refl
        ∙ both_are_pairs old new (length old) (length new) 0 0 s.kept refl refl rising

-- ---- where the source steps by changes, or stays

run_pairs_found : (n q : ℕ) → q < n → option_map (λ (pair : ℕ × ℕ). pair.0) (find (at q) (run_pairs 0 0 n)) ≡ Some q
run_pairs_found n q below = from 0 n q (omega arith) (omega (arith, below))
  where
    from : (a k q : ℕ) → a ≤ q → q < a + k → option_map (λ (pair : ℕ × ℕ). pair.0) (find (at q) (run_pairs a a k)) ≡ Some q
    from a zero q le less = absurd (omega arith)
    from a (suc k) q le less = elim (cases_lt a q) [
      | inl later ↦ rw (ne_eqb a q (λ e. omega (arith, later, e))) (from (a + 1) k q (omega (arith, later)) (omega (arith, less)))
      | inr here ↦ (let e : a ≡ q = omega (arith, le, here) in rw (eq-eqb a q e) (ap Some e))
    ]

stays_kept : (c : ChangeList) → IsNormal c → c.changes ≡ [] → (step c).kept ≡ run_pairs 0 0 c.old_len
stays_kept c normal none =
    let e : c.old_len - 0 ≡ c.old_len = omega arith in
    step_kept c normal ∙ ap (λ cs. pairs_of (runs_from 0 0 c.old_len cs)) none ∙ append-nil (run_pairs 0 0 (c.old_len - 0)) ∙ ap (run_pairs 0 0) e

-- The step of an elision buffer across the changes of its source.
pub steps_shown : (old new : List Bool) (b v w : ℕ) (steps : ℕ → Option SourceStep) (c : ChangeList) → IsNormal c → c.old_len ≡ length old → new_len c ≡ length new → ArePairsRising 0 0 (length old) (length new) (step c).kept → Steps steps b c
    → carrier_step all_stay steps (elision old b v) (elision new b w) ≡ shown_step old new (step c)
steps_shown old new b v w steps c normal len len' rising is = carrier_shown old new b v w steps (step c) len (step_len c normal ∙ len') rising (same (steps b) refl is)
  where
    long : c.changes ≡ [] → length new ≡ c.old_len
    long none = sym len' ∙ omega (arith, ap (λ cs. sum_by (λ (x : Change). length x.text) cs) none, ap (λ cs. sum_by (λ (x : Change). x.old_len) cs) none)

    same : (o : Option SourceStep) → steps b ≡ o → MatchOption o (c.changes ≡ []) (λ s. s.step ≡ step c) → (q : ℕ) → q < length new → came_from steps b q ≡ option_map (λ (pair : ℕ × ℕ). pair.0) (find (at q) (step c).kept)
    same None is none q below = rw (is, stays_kept c normal none) (sym (run_pairs_found c.old_len q (omega (arith, below, long none))))
    same (Some s) is by q below = rw is (ap (λ (t : Step). kept_from t q) by)
