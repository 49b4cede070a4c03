-- What is so once one more buffer has been looked at: it is passed by, a version lands on it, its text would be too long, or a region denies it.
use Rattle.std.proofs.Common.{◌≡◌, ℕ, zero, suc, ◌+◌, ◌-◌, ◌<◌, ◌^◌, Bool, true, false, not, ◌&&◌, List, [], ◌∷◌, ◌++◌, length, map, Option, Some, None, Ok, Err, refl, sym, ap, ◌∙◌, subst, inl, inr, arith, append_assoc}
use Rattle.std.specs.Prelude.{filter, nat_eq, nat_lt, option_map, slice_get, slice_index_or, unwrap_or, if◌then◌else◌}
use Rattle.std.specs.List.{range_with_len}
use Rattle.std.proofs.lemmas.Bool.{cases_Bool, ltb-true}
use Rattle.std.proofs.lemmas.List.{length-map}
use Rattle.ed_base.specs.declared.Piece.{Piece}
use Rattle.ed_base.specs.declared.refusal.Refusal.{Refusal}
use Rattle.ed_base.specs.ChangeList.{ChangeList, change_list, new_len}
use Rattle.ed_base.specs.Denial.{first_denied}
use Rattle.ed_base.specs.Hooks.{HookTable}
use Rattle.ed_base.specs.Numbers.{first_some, or_else, places}
use Rattle.ed_base.proofs.NormalSteps.{normal_new_len}
use Rattle.ed_buffer.specs.Planning.{Base, changes_left, text_left, too_long}
use Rattle.ed_buffer.specs.declared.BaseFault.{BaseFault}
use Rattle.ed_layers.specs.Pieces.{marked_text, step_of_pieces}
use Rattle.ed_layers.specs.Records.{is_carrier}
use Rattle.ed_version.specs.Chain as chain
use Rattle.ed_stock.specs.Landing.{base_changes, denial, denied_in, landed, pieces_at}
use Rattle.ed_stock.specs.Limits.{stock_limits}
use Rattle.ed_stock.specs.Stock.{Stock, Buffer, buffer, count, now, record_now, text_now}
use Rattle.ed_stock.specs.Versions.{none_given}
use Rattle.ed_risen.specs.Rising.{IsSettled}
use Rattle.ed_sending.proofs.Groups.LandedBases.{reached_next, reached_not}
use Rattle.ed_sending.proofs.Texts.PiecesAgain.{marked_length, pieces_normal, step_again}
use Rattle.ed_held.specs.declared.held.Held.{Held}
use Rattle.ed_held.specs.declared.moves.Move.{Move}
use Rattle.ed_held.specs.Seen.{known, last_of, stock, stock_of}
use Rattle.ed_climb.specs.Refusals.{Refuses}
use Rattle.ed_climb.specs.Route.{AreTrue}
use Rattle.ed_climb.specs.declared.fault.PlanFault.{PlanFault}
use Rattle.ed_climb.proofs.Snapshots.{held_buffer}
use Rattle.ed_held.specs.Landing.{IsNextBy}
use Rattle.ed_landing.specs.Bases.{HasLandedOn, IsLanded, is_met}
use Rattle.ed_landing.specs.Landings.{Going, HaveArrived, HaveLanded, IsFirstLong, SoFar, StandOn, landing_fault, len_left}
use Rattle.ed_landing.proofs.LandMore.{lands_too, passed_by, text_held, versions_held}
use Rattle.ed_sending.specs.LandedBelow.{is_reached, reached_below}

-- ---- lists

or_else_none : {X : Type 0} (o : Option X) → or_else o None ≡ o
or_else_none None = refl
or_else_none (Some x) = refl

split_range : (test : ℕ → Bool) (a m k : ℕ) → filter test (range_with_len a (m + k)) ≡ filter test (range_with_len a m) ++ filter test (range_with_len (a + m) k)
split_range test a zero k = ap (λ n. filter test (range_with_len a n)) (let e : 0 + k ≡ k = omega arith in e) ∙ ap (λ n. filter test (range_with_len n k)) (let e : a ≡ a + 0 = omega arith in e)
split_range test a (suc m) k = ap (λ n. filter test (range_with_len a n)) (let e : suc m + k ≡ suc (m + k) = omega arith in e) ∙ either (test a) (split_range test (a + 1) m k ∙ ap (λ n. filter test (range_with_len (a + 1) m) ++ filter test (range_with_len n k)) (let e : a + 1 + m ≡ a + suc m = omega arith in e))
  where
    either : (t : Bool) → filter test (range_with_len (a + 1) (m + k)) ≡ filter test (range_with_len (a + 1) m) ++ filter test (range_with_len (a + suc m) k)
        → (if t then a ∷ filter test (range_with_len (a + 1) (m + k)) else filter test (range_with_len (a + 1) (m + k))) ≡ (if t then a ∷ filter test (range_with_len (a + 1) m) else filter test (range_with_len (a + 1) m)) ++ filter test (range_with_len (a + suc m) k)
    either true rest = ap (λ xs. a ∷ xs) rest
    either false rest = rest

-- ---- what is denied

module _ (hooks : HookTable) (s : Stock) (pending : List (ℕ × Piece)) where
  abbrev pub denied_at : ℕ → Option ℕ
  denied_at b = first_denied hooks (buffer s b).regions (now s b) (base_changes s pending b).changes

  denied_append : (xs ys : List ℕ) → denied_in hooks s pending xs ≡ None → denied_in hooks s pending (xs ++ ys) ≡ denied_in hooks s pending ys
  denied_append [] ys none = refl
  denied_append (x ∷ xs) ys none = by (option_map (Refusal.ReadOnly x) (denied_at x)) none (λ e. denied_append xs ys e)
    where
      by : (o : Option Refusal) → or_else o (denied_in hooks s pending xs) ≡ None → (denied_in hooks s pending xs ≡ None → denied_in hooks s pending (xs ++ ys) ≡ denied_in hooks s pending ys) → or_else o (denied_in hooks s pending (xs ++ ys)) ≡ denied_in hooks s pending ys
      by None none more = more none
      by (Some r) none more = absurd (cc)

  pub allowed_more : (k : ℕ) → is_reached s pending k ≡ true → denied_at k ≡ None → denied_in hooks s pending (reached_below s pending k) ≡ None → denied_in hooks s pending (reached_below s pending (k + 1)) ≡ None
  allowed_more k is none before =
      ap (denied_in hooks s pending) (reached_next s pending k is) ∙ denied_append (reached_below s pending k) (k ∷ []) before
      ∙ ap (λ o. or_else (option_map (Refusal.ReadOnly k) o) None) none

  pub denied_here : (k region : ℕ) → k < count s → is_reached s pending k ≡ true → denied_at k ≡ Some region → denied_in hooks s pending (reached_below s pending k) ≡ None → denial hooks s pending ≡ Some (Refusal.ReadOnly k region)
  denied_here k region there is denied before =
      let n : ℕ = count s - (k + 1) in
      let long : count s ≡ (k + 1) + n = omega (arith, there) in
      ap (λ m. denied_in hooks s pending (filter (is_reached s pending) (places m))) long
      ∙ ap (denied_in hooks s pending) (split_range (is_reached s pending) 0 (k + 1) n ∙ ap (λ xs. xs ++ filter (is_reached s pending) (range_with_len (0 + (k + 1)) n)) (reached_next s pending k is) ∙ append_assoc (reached_below s pending k) (k ∷ []) (filter (is_reached s pending) (range_with_len (0 + (k + 1)) n)))
      ∙ denied_append (reached_below s pending k) (k ∷ filter (is_reached s pending) (range_with_len (0 + (k + 1)) n)) before
      ∙ ap (λ o. or_else (option_map (Refusal.ReadOnly k) o) (denied_in hooks s pending (filter (is_reached s pending) (range_with_len (0 + (k + 1)) n)))) denied

-- ---- the next buffer

module _ (hooks : HookTable) (hs : List Held) (graph : List (List ℕ)) (on : StandOn hs graph) (pending : List (ℕ × Piece)) (boxes : List (List Piece)) (arrived : HaveArrived (stock hs) pending boxes) (k : ℕ) (there : k < count (stock hs))
    (hs' : List Held) (ms : List Move) (long : Option ℕ) (so_far : SoFar hooks hs graph pending k hs' ms long) (h : Held) (held : slice_get hs' k ≡ Some h) where
  abbrev s : Stock
  s = stock hs

  abbrev box : List Piece
  box = slice_index_or boxes k []

  same_stock : stock hs' ≡ stock hs
  same_stock = ap stock_of so_far.same

  buffer_is : buffer s k ≡ (known h).buffer
  buffer_is = ap (λ z. buffer z k) (sym same_stock) ∙ held_buffer hs' k h held

  carrier_is : is_carrier (last_of (known h).buffer) ≡ is_carrier (record_now s k)
  carrier_is = ap (λ x. is_carrier (last_of x)) (sym buffer_is)

  pub met_is : is_met h box ≡ is_reached s pending k
  met_is = ap (λ t. not t && not (nat_eq (length box) 0)) carrier_is ∙ by (is_carrier (record_now s k)) refl
    where
      by : (t : Bool) → is_carrier (record_now s k) ≡ t → (not t && not (nat_eq (length box) 0)) ≡ (not t && not (nat_eq (length (pieces_at pending k)) 0))
      by true e = refl
      by false e = ap (λ ps. not (nat_eq (length ps) 0)) (arrived.pieces k there e)

  weaker : (n : ℕ) → IsFirstLong s pending k n → IsFirstLong s pending (k + 1) n
  weaker n f = record { b = f.b; below = (let l : f.b < k = f.below in omega (arith, l)); is = f.is; len = f.len; long = f.long; earlier = f.earlier }

  -- it is passed by
  pub passes : is_met h box ≡ false → SoFar hooks hs graph pending (k + 1) hs' ms long
  passes out =
      let not_reached : is_reached s pending k ≡ false = sym met_is ∙ out in
      record {
        same = so_far.same;
        allowed = ap (denied_in hooks s pending) (reached_not s pending k not_reached) ∙ so_far.allowed;
        going = by long so_far.going not_reached;
      }
    where
      by : (o : Option ℕ) → Going hs graph pending k hs' ms o → is_reached s pending k ≡ false → Going hs graph pending (k + 1) hs' ms o
      by None g out = passed_by hs graph on pending k out hs' ms g
      by (Some n) g out = weaker n g

  -- ---- pieces land

  module _ (met : is_met h box ≡ true) where
    is : is_reached s pending k ≡ true
    is = sym met_is ∙ met

    base_here : is_carrier (record_now s k) ≡ false
    base_here = by (is_carrier (record_now s k)) (nat_eq (length (pieces_at pending k)) 0) is
      where
        by : (t e : Bool) → (not t && not e) ≡ true → t ≡ false
        by false e h = refl
        by true e h = absurd (let z : false ≡ true = h in cc)

    box_is : box ≡ pieces_at pending k
    box_is = arrived.pieces k there base_here

    module _ (x : Base) (base_is : h ≡ Held.Base x) where
      held_base : slice_get hs' k ≡ Some (Held.Base x)
      held_base = held ∙ ap Some base_is

      text_is : chain.text_now x.chain.versions ≡ text_now s k
      text_is = text_held hs' (subst AreTrue (sym so_far.same) on.true) (subst IsSettled (sym same_stock) on.settled) k (subst (λ z. k < count z) (sym same_stock) there) x held_base ∙ ap (λ z. text_now z k) same_stock

      now_is : now s k ≡ chain.now x.chain.versions
      now_is = ap (λ n. n - 1) (ap (λ z. length (buffer z k).records) (sym same_stock) ∙ versions_held hs' (subst AreTrue (sym so_far.same) on.true) (subst IsSettled (sym same_stock) on.settled) k (subst (λ z. k < count z) (sym same_stock) there) x held_base)

      changes_are : base_changes s pending k ≡ changes_left box (chain.text_now x.chain.versions)
      unfolding base_changes
      changes_are = ap (λ t. changes_left (pieces_at pending k) t) (sym text_is) ∙ ap (λ ps. changes_left ps (chain.text_now x.chain.versions)) (sym box_is)

      denied_is : denied_at hooks s pending k ≡ first_denied hooks x.regions.regions (chain.now x.chain.versions) (changes_left box (chain.text_now x.chain.versions)).changes
      denied_is =
          ap (λ (y : Buffer). first_denied hooks y.regions (now s k) (base_changes s pending k).changes) (buffer_is ∙ ap (λ (x : Held). (known x).buffer) base_is)
          ∙ ap (λ n. first_denied hooks x.regions.regions n (base_changes s pending k).changes) now_is
          ∙ ap (λ (c : ChangeList). first_denied hooks x.regions.regions (chain.now x.chain.versions) c.changes) changes_are

      no_denial : (o : Option ℕ) (t : Option BaseFault) → or_else (option_map BaseFault.ReadOnly o) t ≡ None → o ≡ None
      no_denial None t h = refl
      no_denial (Some r) t h = absurd (cc)

      len_is : new_len (changes_left box (chain.text_now x.chain.versions)) ≡ len_left s pending k
      unfolding base_changes
      len_is =
          ap new_len (sym changes_are) ∙ len_again (text_now s k)
        where
          len_again : (t : List ℕ) → new_len (change_list (step_of_pieces (pieces_at pending k) (length t)) (text_left (pieces_at pending k) t)) ≡ length (marked_text (pieces_at pending k) t)
          len_again t =
              let long : length (text_left (pieces_at pending k) t) ≡ (step_of_pieces (pieces_at pending k) (length t)).new_len = length-map (marked_text (pieces_at pending k) t) (λ (z : ℕ × List (ℕ × ℕ)). z.0) ∙ marked_length (pieces_at pending k) t in
              sym (normal_new_len (change_list (step_of_pieces (pieces_at pending k) (length t)) (text_left (pieces_at pending k) t)) (pieces_normal (pieces_at pending k) (length t) (text_left (pieces_at pending k) t) long))
              ∙ ap (λ z. z.new_len) (step_again (pieces_at pending k) (length t) (text_left (pieces_at pending k) t) long)
              ∙ sym (marked_length (pieces_at pending k) t)

      abbrev pub left : ChangeList
      left = changes_left (slice_index_or boxes k []) (chain.text_now x.chain.versions)

      module _ (hs'' : List Held) (ms' : List Move) (same' : map known hs'' ≡ map known hs') where
        pub lands_on : HasLandedOn hooks hs' hs'' ms ms' k x box (Ok tt) → SoFar hooks hs graph pending (k + 1) hs'' ms' long
        lands_on landed = record {
          same = same' ∙ so_far.same;
          allowed = allowed_more hooks s pending k is (denied_is ∙ no_denial (first_denied hooks x.regions.regions (chain.now x.chain.versions) left.changes) (too_long left) landed.0) so_far.allowed;
          going = by long so_far.going;
        }
          where
            made : IsLanded hs' hs'' ms ms' k x box
            made = landed.1

            by : (o : Option ℕ) → Going hs graph pending k hs' ms o → Going hs graph pending (k + 1) hs'' ms' o
            by None g = subst (HaveLanded hs graph pending (k + 1) hs'') (sym made.moves)
                (lands_too hs graph on pending k there is hs' ms so_far.same g x made.base held_base hs'' made.set made.same made.next made.planned (subst (λ ps. IsNextBy x ps made.next) box_is made.by))
            by (Some n) g = weaker n g

        -- ---- its text would be too long

        units_of : (d : Option ℕ) (n : ℕ) → or_else (option_map BaseFault.ReadOnly d) (too_long left) ≡ Some (BaseFault.Units n) → (d ≡ None) × (n ≡ new_len left) × (2 ^ 22 < new_len left)
        units_of (Some region) n h = absurd (let e : BaseFault.ReadOnly region ≡ BaseFault.Units n = cc in clash_kind region n e)
          where
            clash_kind : (region n : ℕ) → BaseFault.ReadOnly region ≡ BaseFault.Units n → ⊥
            clash_kind region n e = absurd (cc)
        units_of None n h = elim (cases_Bool (nat_lt (2 ^ 22) (new_len left))) [
          | inl t ↦ (refl, (let e : too_long left ≡ Some (BaseFault.Units (new_len left)) = rw t refl in let f : Some (BaseFault.Units (new_len left)) ≡ Some (BaseFault.Units n) = sym e ∙ h in cc), ltb-true (2 ^ 22) (new_len left) t)
          | inr f ↦ absurd (let e : too_long left ≡ None = rw f refl in let g : None ≡ Some (BaseFault.Units n) = sym e ∙ h in cc)
        ]

        pub long_on : (n : ℕ) → HasLandedOn hooks hs' hs'' ms ms' k x box (Err (BaseFault.Units n)) → SoFar hooks hs graph pending (k + 1) hs'' ms' (Some (unwrap_or long n))
        long_on n (inl memory) = absurd (cc)
        long_on n (inr fault) =
            let u : (first_denied hooks x.regions.regions (chain.now x.chain.versions) left.changes ≡ None) × (n ≡ new_len left) × (2 ^ 22 < new_len left) = units_of (first_denied hooks x.regions.regions (chain.now x.chain.versions) left.changes) n fault.0 in
            record {
              same = same' ∙ so_far.same;
              allowed = allowed_more hooks s pending k is (denied_is ∙ u.0) so_far.allowed;
              going = by long so_far.going u.1 u.2;
            }
          where
            by : (o : Option ℕ) → Going hs graph pending k hs' ms o → n ≡ new_len left → 2 ^ 22 < new_len left → Going hs graph pending (k + 1) hs'' ms' (Some (unwrap_or o n))
            by None g size over = record {
              b = k;
              below = omega arith;
              is = is;
              len = sym len_is ∙ sym size;
              long = subst (λ m. 2 ^ 22 < m) (sym size) over;
              earlier = λ c l reached. g.short c l reached;
            }
            by (Some m) g size over = weaker m g

      -- ---- a region denies it

      region_of : (d : Option ℕ) (t : Option BaseFault) (region : ℕ) → ((n : ℕ) → t ≡ Some (BaseFault.ReadOnly n) → ⊥) → or_else (option_map BaseFault.ReadOnly d) t ≡ Some (BaseFault.ReadOnly region) → d ≡ Some region
      region_of (Some r) t region other h = (cc)
      region_of None t region other h = absurd (other region h)

      never : (c : ChangeList) (n : ℕ) → too_long c ≡ Some (BaseFault.ReadOnly n) → ⊥
      never c n = by (nat_lt (2 ^ 22) (new_len c))
        where
          by : (t : Bool) → (if t then Some (BaseFault.Units (new_len c)) else None) ≡ Some (BaseFault.ReadOnly n) → ⊥
          by true h = absurd (cc)
          by false h = absurd (cc)

      pub denied_on : (hs'' : List Held) (ms' : List Move) (region : ℕ) → HasLandedOn hooks hs' hs'' ms ms' k x box (Err (BaseFault.ReadOnly region)) → Refuses {X = Unit {0}} (landing_fault hooks s pending) (Err (PlanFault.Refused (Refusal.ReadOnly k region)))
      denied_on hs'' ms' region (inl memory) = absurd (cc)
      denied_on hs'' ms' region (inr fault) =
          let d : first_denied hooks x.regions.regions (chain.now x.chain.versions) left.changes ≡ Some region = region_of (first_denied hooks x.regions.regions (chain.now x.chain.versions) left.changes) (too_long left) region (never left) fault.0 in
          subst (λ (o : Option Refusal). Refuses {X = Unit {0}} (first_some (o ∷ first_some (stock_limits (landed s pending none_given none_given).stock) ∷ [])) (Err (PlanFault.Refused (Refusal.ReadOnly k region))))
          (sym (denied_here hooks s pending k region there is (denied_is ∙ d) so_far.allowed)) (inl refl)
