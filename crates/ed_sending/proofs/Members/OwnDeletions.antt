-- What the pieces of a carrier take away from a member in its source is what the components take from it.
use Rattle.std.proofs.Common.{◌≡◌, ◌≢◌, ℕ, suc, ◌+◌, ◌-◌, ◌<◌, ◌≤◌, Bool, true, false, ◌&&◌, ◌||◌, List, [], ◌∷◌, length, map, take, Option, Some, None, inl, inr, refl, sym, ap, ◌∙◌, arith, if◌then◌else◌}
use Rattle.std.specs.Prelude.{nat_eq, nat_le, nat_lt, max, min, flat_map, slice_get, sum_by}
use Rattle.std.specs.Option.{option_map_or}
use Rattle.std.specs.List.{enumerate_from, filter_map, cons_option, list_any}
use Rattle.std.proofs.lemmas.Bool.{cases_lt, cases_eq}
use Rattle.std.proofs.lemmas.Bool.Decides.{nat_tests}
use Rattle.std.proofs.lemmas.List.Folds.{list_any-append}
use Rattle.ed_base.specs.declared.edit.Span.{Span}
use Rattle.ed_base.specs.declared.mode.SpanMode.{SpanMode}
use Rattle.ed_base.specs.declared.piece.Member.{Member}
use Rattle.ed_base.specs.declared.piece.Piece.{Piece}
use Rattle.ed_base.specs.Hooks.{CutRules}
use Rattle.ed_base.specs.Spans.{end_of, is_empty, shares_unit}
use Rattle.ed_layers.specs.Records.{placement, member_len}
use Rattle.ed_layers.specs.Pieces.{Component, gone_at}
use Rattle.ed_layers.specs.Sending.{Target, target_at, targets, range_of, share, Run, trail_runs, piece_of, target_pieces, sent}
use Rattle.ed_stock.specs.Landing.{pieces_at}
use Rattle.ed_sending.proofs.Lists.SortedParts.{Each}
use Rattle.ed_sending.proofs.Texts.GapOrder.{in_order_cases}
use Rattle.ed_sending.proofs.Members.Targets.{rule_for, IsTarget, all_targets}
use Rattle.ed_sending.proofs.Carriers.CarrierText.{taken_of}
use Rattle.ed_sending.proofs.Carriers.SentPieces.{target_part, part_to, pieces_sent, numbered_each}
use Rattle.ed_sending.specs.Ready.{AreApart}

any_flat : {X Y : Type 0} (f : Y → Bool) (h : X → List Y) (xs : List X) → list_any f (flat_map h xs) ≡ list_any (λ x. list_any f (h x)) xs
any_flat f h [] = refl
any_flat f h (x ∷ xs) = list_any-append f (h x) (flat_map h xs) ∙ ap (λ z. list_any f (h x) || z) (any_flat f h xs)

any_same : {X : Type 0} (f g : X → Bool) (xs : List X) → Each (λ x. f x ≡ g x) xs → list_any f xs ≡ list_any g xs
any_same f g [] a = refl
any_same f g (x ∷ xs) a = rw (a.0, any_same f g xs a.1) refl

abbrev covers : ℕ → Piece → Bool
covers q p = nat_le p.start q && nat_lt q (p.start + p.len)

-- the pieces of a target take just its part
any_pieces : (carrier : ℕ) (t : Target) (q : ℕ) (rs : List Run) → list_any (covers q) (target_pieces carrier t rs) ≡ (nat_le t.part.start q && nat_lt q (t.part.start + t.part.len))
any_pieces carrier t q [] = either (is_empty t.part) refl
  where
    either : (z : Bool) → is_empty t.part ≡ z → list_any (covers q) (if z then [] else piece_of carrier t t.part.len (record { trail = []; units = [] }) ∷ []) ≡ (nat_le t.part.start q && nat_lt q (t.part.start + t.part.len))
    either true e = grind (arith, nat_tests)
    either false e = or_none (nat_le t.part.start q && nat_lt q (t.part.start + t.part.len))
      where
        or_none : (z : Bool) → (z || false) ≡ z
        or_none true = refl
        or_none false = refl
any_pieces carrier t q (r ∷ rs) = ap (λ z. (nat_le t.part.start q && nat_lt q (t.part.start + t.part.len)) || z) (rest rs) ∙ or_none (nat_le t.part.start q && nat_lt q (t.part.start + t.part.len))
  where
    or_none : (z : Bool) → (z || false) ≡ z
    or_none true = refl
    or_none false = refl

    rest : (rs : List Run) → list_any (covers q) (map (piece_of carrier t 0) rs) ≡ false
    rest [] = refl
    rest (r ∷ rs) = let e : (nat_le t.part.start q && nat_lt q (t.part.start + 0)) ≡ false = grind (arith, nat_tests) in rw e (rest rs)

module _ (carrier : ℕ) (members : List Member) (resolver : Option CutRules) (b k : ℕ) (x : Span) (mode : SpanMode) (here : slice_get members k ≡ Some (Member.Tracked b x mode)) (apart : AreApart members b) (d : ℕ) (inside : d < x.len) where
  abbrev a : ℕ
  a = sum_by member_len (take k members)

  abbrev takes_here : Component → Bool
  takes_here c = nat_le c.start (a + d) && nat_lt (a + d) (c.start + c.old_len)

  one_target : (c : Component) (t : Target) (rs : List Run) → IsTarget members c t → list_any (covers (x.start + d)) (if nat_eq t.source b then target_pieces carrier t rs else []) ≡ (if nat_eq t.member k then takes_here c else false)
  one_target c t rs is = elim (cases_eq t.member k) [
    | inl same ↦ (
        let e : Some (Member.Tracked t.source t.bounds is.mode) ≡ Some (Member.Tracked b x mode) = sym is.there ∙ ap (slice_get members) same ∙ here in
        let s : t.source ≡ b = cc in
        let y : t.bounds ≡ x = cc in
        let y0 : t.bounds.start ≡ x.start = ap (λ (z : Span). z.start) y in
        let y1 : t.bounds.len ≡ x.len = ap (λ (z : Span). z.len) y in
        let st : is.start ≡ a = is.start_is ∙ ap (λ z. sum_by member_len (take z members)) same in
        let p : t.part.start ≡ t.bounds.start + (is.at - is.start) = is.part in
        let from : is.start ≤ is.at = is.from in
        let n : nat_eq t.source b ≡ true = grind (arith, nat_tests) in
        let m : nat_eq t.member k ≡ true = grind (arith, nat_tests) in
        let part : (nat_le t.part.start (x.start + d) && nat_lt (x.start + d) (t.part.start + t.part.len)) ≡ (nat_le is.at (a + d) && nat_lt (a + d) (is.at + t.part.len)) =
        moved_test t.part.start (t.part.start + t.part.len) (x.start + d) is.at (is.at + t.part.len) (a + d) (λ l. omega arith) (λ l. omega arith) (λ l. omega arith) (λ l. omega arith) in
        rw (n, m) (any_pieces carrier t (x.start + d) rs ∙ part ∙ is.covers (a + d) (omega arith) (omega arith)))
    | inr other ↦ (
        let m : nat_eq t.member k ≡ false = grind (arith, nat_tests) in
        rw m (none_of (nat_eq t.source b) refl other))
  ]
    where
      moved_test : (i j q k l r : ℕ) → (i ≤ q → k ≤ r) → (k ≤ r → i ≤ q) → (q < j → r < l) → (r < l → q < j) → (nat_le i q && nat_lt q j) ≡ (nat_le k r && nat_lt r l)
      moved_test i j q k l r a b c d = elim (cases_lt q i) [
        | inl out ↦ (let f : nat_le i q ≡ false = grind (arith, nat_tests) in let g : nat_le k r ≡ false = (elim (cases_lt r k) [ inl o ↦ grind (arith, nat_tests) | inr n ↦ absurd (let z : i ≤ q = b n in omega arith) ]) in rw (f, g) refl)
        | inr in_ ↦ elim (cases_lt q j) [
          | inl low ↦ (let u : k ≤ r = a in_ in let v : r < l = c low in let f : nat_le i q ≡ true = grind (arith, nat_tests) in let g : nat_lt q j ≡ true = grind (arith, nat_tests) in let h : nat_le k r ≡ true = grind (arith, nat_tests) in let e : nat_lt r l ≡ true = grind (arith, nat_tests) in rw (f, g, h, e) refl)
          | inr high ↦ (let u : k ≤ r = a in_ in let f : nat_le i q ≡ true = grind (arith, nat_tests) in let g : nat_lt q j ≡ false = grind (arith, nat_tests) in let h : nat_le k r ≡ true = grind (arith, nat_tests) in let e : nat_lt r l ≡ false = (elim (cases_lt r l) [ inl n ↦ absurd (let z : q < j = d n in omega arith) | inr o ↦ grind (arith, nat_tests) ]) in rw (f, g, h, e) refl)
        ]
      ]

      outside : t.source ≡ b → t.member ≢ k → (nat_le t.part.start (x.start + d) && nat_lt (x.start + d) (t.part.start + t.part.len)) ≡ false
      outside s other =
          let there : slice_get members t.member ≡ Some (Member.Tracked b t.bounds is.mode) = is.there ∙ ap (λ z. Some (Member.Tracked z t.bounds is.mode)) s in
          let p : t.part.start ≡ t.bounds.start + (is.at - is.start) = is.part in
          let to : is.at + t.part.len ≤ is.start + t.bounds.len = is.to in
          let from : is.start ≤ is.at = is.from in
          elim (in_order_cases t.member k t.bounds x (apart t.member k t.bounds x is.mode mode other there here)) [
            | inl l ↦ (let e : end_of t.bounds ≤ x.start = l.1 in let f : nat_lt (x.start + d) (t.part.start + t.part.len) ≡ false = grind (arith, nat_tests) in rw f (and_false (nat_le t.part.start (x.start + d))))
            | inr r ↦ (let e : end_of x ≤ t.bounds.start = r.1 in let f : nat_le t.part.start (x.start + d) ≡ false = grind (arith, nat_tests) in rw f refl)
          ]
        where
          and_false : (z : Bool) → (z && false) ≡ false
          and_false true = refl
          and_false false = refl

      none_of : (z : Bool) → nat_eq t.source b ≡ z → t.member ≢ k → list_any (covers (x.start + d)) (if z then target_pieces carrier t rs else []) ≡ false
      none_of true e other = any_pieces carrier t (x.start + d) rs ∙ outside (grind (arith, nat_tests)) other
      none_of false e other = refl

  -- a member from which the component takes something is among its targets
  found : (c : Component) → takes_here c ≡ true → (t : Target) × (target_at c (placement members k) (k, Member.Tracked b x mode) ≡ Some t) × (t.member ≡ k)
  found c takes =
      let len_is : option_map_or member_len (slice_get members k) 0 ≡ x.len = ap (λ (m : Option Member). option_map_or member_len m 0) here in
      let some : nat_eq c.old_len 0 ≡ false = grind (arith, nat_tests) in
      let lo : c.start ≤ a + d = grind (arith, nat_tests) in
      let hi : a + d < c.start + c.old_len = grind (arith, nat_tests) in
      let less : max a c.start < min (a + x.len) (c.start + c.old_len) = omega arith in
      let shares : shares_unit (record { start = a; len = x.len }) (range_of c) ≡ true = grind (arith, nat_tests) in
      let t : Target = record { member = k; source = b; bounds = x; part = record { start = x.start + (max a c.start - a); len = min (a + x.len) (c.start + c.old_len) - max a c.start } } in
      let is : target_at c (record { start = a; len = x.len }) (k, Member.Tracked b x mode) ≡ Some t = rw (some, shares) refl in
      (t, ap (λ n. target_at c (record { start = a; len = n }) (k, Member.Tracked b x mode)) len_is ∙ is, refl)

  among : (c : Component) → takes_here c ≡ true → (i : ℕ) (rest : List Member) → i ≤ k → ((e : ℕ) → slice_get rest e ≡ slice_get members (i + e)) → list_any (λ t. nat_eq t.member k) (filter_map (λ im. target_at c (placement members im.0) im) (enumerate_from i rest)) ≡ true
  among c takes i [] below same =
      absurd (let e : None ≡ Some (Member.Tracked b x mode) = same (k - i) ∙ ap (slice_get members) (let z : i + (k - i) ≡ k = omega arith in z) ∙ here in cc)
  among c takes i (m ∷ rest) below same = elim (cases_lt i k) [
    | inl later ↦ skip (target_at c (placement members i) (i, m)) (among c takes (i + 1) rest (omega arith) (λ e. same (suc e) ∙ ap (slice_get members) (let z : i + suc e ≡ (i + 1) + e = omega arith in z)))
    | inr now ↦ (
        let at : i ≡ k = omega arith in
        let e : Some m ≡ Some (Member.Tracked b x mode) = same 0 ∙ ap (slice_get members) (let z : i + 0 ≡ k = omega arith in z) ∙ here in
        let y : m ≡ Member.Tracked b x mode = cc in
        let f : (t : Target) × (target_at c (placement members k) (k, Member.Tracked b x mode) ≡ Some t) × (t.member ≡ k) = found c takes in
        found_here (ap (λ z. target_at c (placement members z) (z, m)) at ∙ ap (λ z. target_at c (placement members k) (k, z)) y ∙ f.1) f.2)
  ]
    where
      skip : (o : Option Target) → list_any (λ t. nat_eq t.member k) (filter_map (λ im. target_at c (placement members im.0) im) (enumerate_from (i + 1) rest)) ≡ true → list_any (λ t. nat_eq t.member k) (cons_option o (filter_map (λ im. target_at c (placement members im.0) im) (enumerate_from (i + 1) rest))) ≡ true
      skip None e = e
      skip (Some t) e = rw e (or_true (nat_eq t.member k))
        where
          or_true : (z : Bool) → (z || true) ≡ true
          or_true true = refl
          or_true false = refl

      found_here : {t : Target} → target_at c (placement members i) (i, m) ≡ Some t → t.member ≡ k → list_any (λ t. nat_eq t.member k) (cons_option (target_at c (placement members i) (i, m)) (filter_map (λ im. target_at c (placement members im.0) im) (enumerate_from (i + 1) rest))) ≡ true
      found_here {t = t} is same = let n : nat_eq t.member k ≡ true = grind (arith, nat_tests) in rw (is, n) refl

  one_taken : (c : Component) → list_any (covers (x.start + d)) (part_to carrier members resolver b c) ≡ takes_here c
  one_taken c =
      let n : ℕ = length (targets members c) in
      let its : List (ℕ × Target) = enumerate_from 0 (targets members c) in
      any_flat (covers (x.start + d)) (λ it. if nat_eq it.1.source b then target_part carrier (rule_for resolver c) c n it else []) its
      ∙ any_same (λ it. list_any (covers (x.start + d)) (if nat_eq it.1.source b then target_part carrier (rule_for resolver c) c n it else [])) (λ it. if nat_eq it.1.member k then takes_here c else false) its
      (numbered_each members c (λ it. list_any (covers (x.start + d)) (if nat_eq it.1.source b then target_part carrier (rule_for resolver c) c n it else []) ≡ (if nat_eq it.1.member k then takes_here c else false)) (λ j t is. one_target c t (trail_runs (share (rule_for resolver c) c.text n j)) is) 0 0 (targets members c) (all_targets members c))
      ∙ any_own (takes_here c) 0 (targets members c) ∙ ends (takes_here c) refl
    where
      any_own : (z : Bool) (j : ℕ) (ts : List Target) → list_any (λ (it : ℕ × Target). if nat_eq it.1.member k then z else false) (enumerate_from j ts) ≡ (list_any (λ t. nat_eq t.member k) ts && z)
      any_own z j [] = refl
      any_own z j (t ∷ ts) = ap (λ w. (if nat_eq t.member k then z else false) || w) (any_own z (j + 1) ts) ∙ either (nat_eq t.member k) z (list_any (λ t. nat_eq t.member k) ts)
        where
          either : (u v w : Bool) → ((if u then v else false) || (w && v)) ≡ ((u || w) && v)
          either true true w = refl
          either true false true = refl
          either true false false = refl
          either false v w = refl

      ends : (z : Bool) → takes_here c ≡ z → (list_any (λ t. nat_eq t.member k) (targets members c) && z) ≡ z
      ends true e = rw (among c e 0 members (omega arith) (λ f. ap (slice_get members) (let w : f ≡ 0 + f = omega arith in w))) refl
      ends false e = and_false (list_any (λ t. nat_eq t.member k) (targets members c))
        where
          and_false : (z : Bool) → (z && false) ≡ false
          and_false true = refl
          and_false false = refl

  -- In the member, the pieces take just what the components take.
  pub own_taken : (cs : List Component) → gone_at (pieces_at (sent carrier members resolver cs) b) (x.start + d) ≡ taken_of cs (a + d)
  own_taken cs =
      ap (λ z. gone_at z (x.start + d)) (pieces_sent carrier members resolver b cs)
      ∙ any_flat (covers (x.start + d)) (part_to carrier members resolver b) cs
      ∙ any_same (λ c. list_any (covers (x.start + d)) (part_to carrier members resolver b c)) takes_here cs (all cs)
    where
      all : (cs : List Component) → Each (λ c. list_any (covers (x.start + d)) (part_to carrier members resolver b c) ≡ takes_here c) cs
      all [] = tt
      all (c ∷ cs) = (one_taken c, all cs)
