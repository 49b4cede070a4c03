-- What the pieces that a carrier sends make of a source: before a member, in it, and after it.
use Rattle.std.proofs.Common.{◌≡◌, ◌≢◌, ℕ, suc, ◌+◌, ◌<◌, ◌≤◌, Bool, true, false, not, ◌&&◌, List, [], ◌∷◌, ◌++◌, length, map, filter, Option, Some, None, inl, inr, refl, sym, ap, ◌∙◌, arith, if◌then◌else◌, subst}
use Rattle.std.specs.Prelude.{slice_get, nat_eq, flat_map}
use Rattle.std.proofs.lemmas.Bool.Decides.{nat_tests}
use Rattle.std.proofs.lemmas.Bool.{cases_eq}
use Rattle.ed_base.specs.declared.edit.Span.{Span}
use Rattle.ed_base.specs.declared.mode.SpanMode.{SpanMode}
use Rattle.ed_base.specs.declared.piece.Member.{Member}
use Rattle.ed_base.specs.declared.piece.Piece.{Piece}
use Rattle.ed_base.specs.Edit.{woven}
use Rattle.ed_base.specs.Sorting.{sorted_by}
use Rattle.ed_base.specs.Spans.{end_of}
use Rattle.ed_layers.specs.Order.{stands_before}
use Rattle.ed_layers.specs.Pieces.{piece_before, put_at, marked_units, last_pair}
use Rattle.ed_layers.specs.Sending.{side_at}
use Rattle.ed_layers.specs.SourceStep.{ends_with}
use Rattle.ed_sending.proofs.Lists.SortedParts.{Each, each_append, each_more, sorted_each, filter_each, not_false}
use Rattle.ed_sending.proofs.Texts.PiecesAtGap.{put_parts, put_none}
use Rattle.ed_sending.proofs.Texts.FullText.{Full, old_units}
use Rattle.ed_sending.proofs.Texts.GapOrder.{Stands, stands_is, stands_so, in_order_cases, stands_once, stands_chain, piece_order}
use Rattle.ed_sending.specs.Ready.{AreApart}

-- what each piece has, what is put in has
pub put_each : (P : ℕ × List (ℕ × ℕ) → Type 0) (pieces : List Piece) (g : ℕ) → Each (λ p. (u : ℕ) → P (u, p.trail)) pieces → Each P (put_at pieces g)
put_each P pieces g a = flat_each (sorted_by piece_before (filter (λ p. nat_eq p.start g) pieces))
    (sorted_each piece_before (λ p. (u : ℕ) → P (u, p.trail)) (filter (λ p. nat_eq p.start g) pieces)
    (each_more (λ p. ((u : ℕ) → P (u, p.trail)) × (nat_eq p.start g ≡ true)) (λ p. (u : ℕ) → P (u, p.trail)) (filter (λ p. nat_eq p.start g) pieces) (λ p h. h.0) (filter_each (λ p. (u : ℕ) → P (u, p.trail)) (λ p. nat_eq p.start g) pieces a)))
  where
    one_each : (way : List (ℕ × ℕ)) (us : List ℕ) → ((u : ℕ) → P (u, way)) → Each P (map (λ u. (u, way)) us)
    one_each way [] h = tt
    one_each way (u ∷ us) h = (h u, one_each way us h)

    flat_each : (ps : List Piece) → Each (λ p. (u : ℕ) → P (u, p.trail)) ps → Each P (flat_map marked_units ps)
    flat_each [] a = tt
    flat_each (p ∷ ps) a = each_append P (marked_units p) (flat_map marked_units ps) (one_each p.trail p.text a.0) (flat_each ps a.1)

pub woven_each : {X : Type 0} (P : X → Type 0) (put : ℕ → List X) (gone : ℕ → Bool) (p : ℕ) (xs : List X) → ((q : ℕ) → Each P (put q)) → Each P xs → Each P (woven put gone p xs)
woven_each P put gone p [] puts all = puts p
woven_each P put gone p (x ∷ xs) puts all = each_append P (put p) (if gone p then woven put gone (p + 1) xs else x ∷ woven put gone (p + 1) xs) (puts p) (either (gone p) (woven_each P put gone (p + 1) xs puts all.1))
  where
    either : (b : Bool) → Each P (woven put gone (p + 1) xs) → Each P (if b then woven put gone (p + 1) xs else x ∷ woven put gone (p + 1) xs)
    either true rest = rest
    either false rest = (all.0, rest)

pub old_each : (P : Full → Type 0) (p : ℕ) (us : List ℕ) → ((q u : ℕ) → p ≤ q → q < p + length us → P (Some q, (u, []))) → Each P (old_units p us)
old_each P p [] h = tt
old_each P p (u ∷ us) h = (h p u (omega arith) (omega arith), old_each P (p + 1) us (λ q v above below. h q v (omega arith) (omega arith)))

pub old_append : (p : ℕ) (xs ys : List ℕ) → old_units p (xs ++ ys) ≡ old_units p xs ++ old_units (p + length xs) ys
old_append p [] ys = ap (λ q. old_units q ys) (let e : p ≡ p + length {A = ℕ} [] = omega arith in e)
old_append p (x ∷ xs) ys = ap (λ z. (Some p, (x, [])) ∷ z) (old_append (p + 1) xs ys ∙ ap (λ q. old_units (p + 1) xs ++ old_units q ys) (let e : p + 1 + length xs ≡ p + length (x ∷ xs) = omega arith in e))

pub length_old : (p : ℕ) (us : List ℕ) → length (old_units p us) ≡ length us
length_old p [] = refl
length_old p (u ∷ us) = ap (λ n. suc n) (length_old (p + 1) us)

-- the last pair of a way says with what it ends
pub ends_last : (carrier : ℕ) (test : ℕ → Bool) (way : List (ℕ × ℕ)) (pair : ℕ × ℕ) → last_pair way ≡ Some pair → ends_with carrier test way ≡ (nat_eq pair.0 carrier && test pair.1)
ends_last carrier test [] pair is = absurd (let e : None ≡ Some pair = is in cc)
ends_last carrier test (p ∷ []) pair is = let e : p ≡ pair = (let z : Some p ≡ Some pair = is in cc) in ap (λ (z : ℕ × ℕ). nat_eq z.0 carrier && test z.1) e
ends_last carrier test (p ∷ q ∷ ps) pair is = ends_last carrier test (q ∷ ps) pair is

-- ---- the pieces of one carrier on one source

-- a piece that was sent through a member of the carrier
pub record IsFor (carrier : ℕ) (members : List Member) (source : ℕ) (p : Piece) : Type 0 where
  pub member : ℕ
  pub bounds : Span
  pub mode : SpanMode
  pub there : slice_get members member ≡ Some (Member.Tracked source bounds mode)
  pub last : last_pair p.trail ≡ Some (carrier, member)
  pub from : bounds.start ≤ p.start
  pub to : p.start + p.len ≤ end_of bounds
  pub side : p.side ≡ side_at bounds p.start

abbrev bounds_in : Option Member → Span
bounds_in None = record { start = 0; len = 0 }
bounds_in (Some (Member.Literal units)) = record { start = 0; len = 0 }
bounds_in (Some (Member.Tracked source bounds mode)) = bounds

-- whether the pair's member stands before this one
abbrev is_earlier : List Member → ℕ → Span → Option (ℕ × ℕ) → Bool
is_earlier members i x None = false
is_earlier members i x (Some pair) = stands_before (pair.1, bounds_in (slice_get members pair.1)) (i, x)

abbrev pub is_first : List Member → ℕ → Span → Piece → Bool
is_first members i x p = is_earlier members i x (last_pair p.trail)

abbrev pub is_of : ℕ → ℕ → Piece → Bool
is_of carrier i p = ends_with carrier (nat_eq i) p.trail

pub first_is : (carrier : ℕ) (members : List Member) (source i : ℕ) (x : Span) (p : Piece) → (h : IsFor carrier members source p) → is_first members i x p ≡ stands_before (h.member, h.bounds) (i, x)
first_is carrier members source i x p h = ap (is_earlier members i x) h.last ∙ ap (λ (m : Option Member). stands_before (h.member, bounds_in m) (i, x)) h.there

pub of_is : (carrier : ℕ) (members : List Member) (source i : ℕ) (p : Piece) → (h : IsFor carrier members source p) → is_of carrier i p ≡ nat_eq i h.member
of_is carrier members source i p h = ends_last carrier (nat_eq i) p.trail (carrier, h.member) h.last ∙ (let e : nat_eq carrier carrier ≡ true = grind (arith, nat_tests) in rw e refl)

-- the pieces of earlier members, of this one, and of later ones
abbrev pub earlier_of : List Member → ℕ → Span → List Piece → List Piece
earlier_of members i x pieces = filter (is_first members i x) pieces

abbrev pub others_of : List Member → ℕ → Span → List Piece → List Piece
others_of members i x pieces = filter (λ p. not (is_first members i x p)) pieces

abbrev pub own_of : ℕ → List Member → ℕ → Span → List Piece → List Piece
own_of carrier members i x pieces = filter (is_of carrier i) (others_of members i x pieces)

abbrev pub later_of : ℕ → List Member → ℕ → Span → List Piece → List Piece
later_of carrier members i x pieces = filter (λ p. not (is_of carrier i p)) (others_of members i x pieces)

module _ (carrier : ℕ) (members : List Member) (source : ℕ) (i : ℕ) (x : Span) (mode : SpanMode) (here : slice_get members i ≡ Some (Member.Tracked source x mode)) (apart : AreApart members source) where
  -- of a piece that stands before
  pub earlier_member : (p : Piece) (h : IsFor carrier members source p) → is_first members i x p ≡ true → Stands h.member h.bounds i x
  earlier_member p h first = stands_is h.member i h.bounds x (sym (first_is carrier members source i x p h) ∙ first)

  pub earlier_other : (p : Piece) (h : IsFor carrier members source p) → is_first members i x p ≡ true → h.member ≢ i
  earlier_other p h first same =
      let s : Stands h.member h.bounds i x = earlier_member p h first in
      let b : h.bounds ≡ x = (let e : Some (Member.Tracked source h.bounds h.mode) ≡ Some (Member.Tracked source x mode) = sym h.there ∙ ap (slice_get members) same ∙ here in cc) in
      let l : h.member < i = s.indices (ap (λ (z : Span). z.start) b) (ap (λ (z : Span). z.len) b) in
      omega arith

  pub earlier_ends : (p : Piece) (h : IsFor carrier members source p) → is_first members i x p ≡ true → end_of h.bounds ≤ x.start
  earlier_ends p h first = elim (in_order_cases h.member i h.bounds x (apart h.member i h.bounds x h.mode mode (earlier_other p h first) h.there here)) [
    | inl a ↦ a.1
    | inr b ↦ absurd (stands_once h.member i h.bounds x (earlier_member p h first) b.0)
  ]

  pub same_bounds : (p : Piece) (h : IsFor carrier members source p) → h.member ≡ i → h.bounds ≡ x
  same_bounds p h same = (let e : Some (Member.Tracked source h.bounds h.mode) ≡ Some (Member.Tracked source x mode) = sym h.there ∙ ap (slice_get members) same ∙ here in cc)

  -- of a piece that is neither earlier nor of the member
  pub later_member : (p : Piece) (h : IsFor carrier members source p) → is_first members i x p ≡ false → h.member ≢ i → Stands i x h.member h.bounds × (end_of x ≤ h.bounds.start)
  later_member p h first other = elim (in_order_cases h.member i h.bounds x (apart h.member i h.bounds x h.mode mode other h.there here)) [
    | inl a ↦ absurd (let t : is_first members i x p ≡ true = first_is carrier members source i x p h ∙ stands_so h.member i h.bounds x a.0 in let f : false ≡ true = sym first ∙ t in cc)
    | inr b ↦ b
  ]

  -- the pieces of earlier members stand before all others at a gap
  pub first_apart : (p q : Piece) → IsFor carrier members source p → IsFor carrier members source q → p.start ≡ q.start → is_first members i x p ≡ true → is_first members i x q ≡ false → (piece_before p q ≡ true) × (piece_before q p ≡ false)
  first_apart p q h k same fp fq = elim (cases_eq h.member k.member) [
    | inl e ↦ absurd (
        let b : h.bounds ≡ k.bounds = (let z : Some (Member.Tracked source h.bounds h.mode) ≡ Some (Member.Tracked source k.bounds k.mode) = sym h.there ∙ ap (slice_get members) e ∙ k.there in cc) in
        let t : is_first members i x q ≡ true = first_is carrier members source i x q k ∙ ap (λ z. stands_before (k.member, z) (i, x)) (sym b) ∙ ap (λ z. stands_before (z, h.bounds) (i, x)) (sym e) ∙ sym (first_is carrier members source i x p h) ∙ fp in
        let f : false ≡ true = sym fq ∙ t in cc)
    | inr ne ↦ elim (in_order_cases h.member k.member h.bounds k.bounds (apart h.member k.member h.bounds k.bounds h.mode k.mode ne h.there k.there)) [
      | inl a ↦ (let u : h.bounds.start ≤ p.start = h.from in let v : p.start + p.len ≤ end_of h.bounds = h.to in let w : k.bounds.start ≤ q.start = k.from in
          piece_order carrier h.member k.member h.bounds k.bounds p q a.0 a.1 same (omega arith) w h.side k.side h.last k.last)
      | inr b ↦ absurd (
          let c : Stands k.member k.bounds i x = stands_chain k.member h.member i k.bounds h.bounds x b.0 (earlier_member p h fp) in
          let t : is_first members i x q ≡ true = first_is carrier members source i x q k ∙ stands_so k.member i k.bounds x c in
          let f : false ≡ true = sym fq ∙ t in cc)
    ]
  ]

  -- the pieces of the member itself stand before those of later ones
  pub of_apart : (p q : Piece) → IsFor carrier members source p × (not (is_first members i x p) ≡ true) → IsFor carrier members source q × (not (is_first members i x q) ≡ true) → p.start ≡ q.start → is_of carrier i p ≡ true → is_of carrier i q ≡ false → (piece_before p q ≡ true) × (piece_before q p ≡ false)
  of_apart p q (h, hf) (k, kf) same op oq =
      let e : h.member ≡ i = (let z : nat_eq i h.member ≡ true = sym (of_is carrier members source i p h) ∙ op in grind (arith, nat_tests)) in
      let b : h.bounds ≡ x = same_bounds p h e in
      let ne : nat_eq i k.member ≡ false = sym (of_is carrier members source i q k) ∙ oq in
      let l : Stands i x k.member k.bounds × (end_of x ≤ k.bounds.start) = later_member q k (not_false (is_first members i x q) kf) (λ z. grind (arith, nat_tests)) in
      let to : p.start + p.len ≤ end_of x = subst (λ (z : Span). p.start + p.len ≤ end_of z) b h.to in
      piece_order carrier i k.member x k.bounds p q l.0 l.1 same (omega arith) k.from (subst (λ (z : Span). p.side ≡ side_at z p.start) b h.side) k.side (subst (λ z. last_pair p.trail ≡ Some (carrier, z)) e h.last) k.last

  abbrev pub Others : Piece → Type 0
  Others p = IsFor carrier members source p × (not (is_first members i x p) ≡ true)

  pub puts_are : (pieces : List Piece) → Each (IsFor carrier members source) pieces → (g : ℕ) → put_at pieces g ≡ put_at (earlier_of members i x pieces) g ++ (put_at (own_of carrier members i x pieces) g ++ put_at (later_of carrier members i x pieces) g)
  puts_are pieces a g =
      put_parts (IsFor carrier members source) (is_first members i x) pieces first_apart a g
      ∙ ap (λ z. put_at (earlier_of members i x pieces) g ++ z) (put_parts Others (is_of carrier i) (others_of members i x pieces) of_apart (filter_each (IsFor carrier members source) (λ p. not (is_first members i x p)) pieces a) g)

  -- where they start
  pub earlier_puts : (pieces : List Piece) → Each (IsFor carrier members source) pieces → (q : ℕ) → x.start < q → put_at (earlier_of members i x pieces) q ≡ []
  earlier_puts pieces a q above = put_none (earlier_of members i x pieces) q (each_more (λ p. IsFor carrier members source p × (is_first members i x p ≡ true)) (λ p. nat_eq p.start q ≡ false) (earlier_of members i x pieces) (λ p h.
      let e : end_of h.0.bounds ≤ x.start = earlier_ends p h.0 h.1 in let t : p.start + p.len ≤ end_of h.0.bounds = h.0.to in let l : p.start < q = omega arith in grind (arith, nat_tests)) (filter_each (IsFor carrier members source) (is_first members i x) pieces a))

  abbrev pub Own : Piece → Type 0
  Own p = Others p × (is_of carrier i p ≡ true)

  pub own_there : (p : Piece) → Own p → (x.start ≤ p.start) × (p.start + p.len ≤ end_of x)
  own_there p h =
      let e : h.0.0.member ≡ i = (let z : nat_eq i h.0.0.member ≡ true = sym (of_is carrier members source i p h.0.0) ∙ h.1 in grind (arith, nat_tests)) in
      let b : h.0.0.bounds ≡ x = same_bounds p h.0.0 e in
      (subst (λ (z : Span). z.start ≤ p.start) b h.0.0.from, subst (λ (z : Span). p.start + p.len ≤ end_of z) b h.0.0.to)

  pub own_each : (pieces : List Piece) → Each (IsFor carrier members source) pieces → Each Own (own_of carrier members i x pieces)
  own_each pieces a = filter_each Others (is_of carrier i) (others_of members i x pieces) (filter_each (IsFor carrier members source) (λ p. not (is_first members i x p)) pieces a)

  pub own_before : (pieces : List Piece) → Each (IsFor carrier members source) pieces → (q : ℕ) → q < x.start → put_at (own_of carrier members i x pieces) q ≡ []
  own_before pieces a q below = put_none (own_of carrier members i x pieces) q (each_more Own (λ p. nat_eq p.start q ≡ false) (own_of carrier members i x pieces) (λ p h. let t : x.start ≤ p.start = (own_there p h).0 in let l : q < p.start = omega arith in grind (arith, nat_tests)) (own_each pieces a))

  pub own_after : (pieces : List Piece) → Each (IsFor carrier members source) pieces → (q : ℕ) → end_of x < q → put_at (own_of carrier members i x pieces) q ≡ []
  own_after pieces a q above = put_none (own_of carrier members i x pieces) q (each_more Own (λ p. nat_eq p.start q ≡ false) (own_of carrier members i x pieces) (λ p h. let t : p.start + p.len ≤ end_of x = (own_there p h).1 in let l : p.start < q = omega arith in grind (arith, nat_tests)) (own_each pieces a))

  abbrev pub Later : Piece → Type 0
  Later p = Others p × (not (is_of carrier i p) ≡ true)

  pub later_each : (pieces : List Piece) → Each (IsFor carrier members source) pieces → Each Later (later_of carrier members i x pieces)
  later_each pieces a = filter_each Others (λ p. not (is_of carrier i p)) (others_of members i x pieces) (filter_each (IsFor carrier members source) (λ p. not (is_first members i x p)) pieces a)

  pub later_puts : (pieces : List Piece) → Each (IsFor carrier members source) pieces → (q : ℕ) → q < end_of x → put_at (later_of carrier members i x pieces) q ≡ []
  later_puts pieces a q below = put_none (later_of carrier members i x pieces) q (each_more Later (λ p. nat_eq p.start q ≡ false) (later_of carrier members i x pieces) (λ p h.
      let ne : nat_eq i h.0.0.member ≡ false = sym (of_is carrier members source i p h.0.0) ∙ not_false (is_of carrier i p) h.1 in
      let l : end_of x ≤ h.0.0.bounds.start = (later_member p h.0.0 (not_false (is_first members i x p) h.0.1) (λ z. grind (arith, nat_tests))).1 in
      let t : h.0.0.bounds.start ≤ p.start = h.0.0.from in let m : q < p.start = omega arith in grind (arith, nat_tests)) (later_each pieces a))
