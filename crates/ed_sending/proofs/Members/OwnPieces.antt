-- The pieces of one member: what they put in and take away is the member's share of what arrived.
use Rattle.std.proofs.Common.{◌≡◌, ℕ, ◌+◌, ◌-◌, ◌≤◌, Bool, true, false, not, List, [], ◌∷◌, ◌++◌, length, map, take, filter, Option, Some, None, inl, inr, refl, sym, ap, ◌∙◌, arith, if◌then◌else◌}
use Rattle.std.specs.Prelude.{nat_eq, nat_lt, flat_map, slice_get, option_map, sum_by}
use Rattle.std.specs.List.{enumerate_from}
use Rattle.std.proofs.lemmas.Bool.{cases_eq}
use Rattle.std.proofs.lemmas.Bool.Decides.{nat_tests}
use Rattle.std.proofs.lemmas.List.{append-nil, map-append}
use Rattle.std.proofs.lemmas.List.Elements.{filter-append}
use Rattle.std.proofs.lemmas.Grind.{flat_map-append}
use Rattle.ed_base.specs.declared.edit.Span.{Span}
use Rattle.ed_base.specs.declared.mode.SpanMode.{SpanMode}
use Rattle.ed_base.specs.declared.piece.Member.{Member}
use Rattle.ed_base.specs.declared.piece.Piece.{Piece}
use Rattle.ed_base.specs.declared.piece.Side.{Side}
use Rattle.ed_base.specs.Hooks.{CutRules}
use Rattle.ed_base.specs.Sorting.{placed_in, sorted_by}
use Rattle.ed_base.specs.Spans.{is_empty}
use Rattle.ed_layers.specs.Order.{stands_before}
use Rattle.ed_layers.specs.Records.{member_len}
use Rattle.ed_layers.specs.Pieces.{Component, marked_units, piece_before, side_rank, last_pair, put_at}
use Rattle.ed_layers.specs.Sending.{Target, targets, share, Run, trail_runs, piece_of, target_pieces, sent, side_at}
use Rattle.ed_layers.specs.SourceStep.{trail_above}
use Rattle.ed_stock.specs.Landing.{pieces_at}
use Rattle.ed_sending.proofs.Lists.SortedParts.{Each, each_more, filter_each, filter_all, filter_none}
use Rattle.ed_sending.proofs.Texts.PiecesAtGap.{filter_twice}
use Rattle.ed_sending.proofs.Members.SourceParts.{IsFor, is_first, is_of, others_of, own_of, first_is, of_is}
use Rattle.ed_sending.proofs.Members.Shares.{run_units, runs_are}
use Rattle.ed_sending.proofs.Texts.FullText.{Full, put_in}
use Rattle.ed_sending.proofs.Members.Targets.{lowest, rule_for, entry_of, dealt_of, IsTarget, all_targets}
use Rattle.ed_sending.proofs.Carriers.MemberChunks.{own_at, own_put}
use Rattle.ed_sending.proofs.Carriers.SentPieces.{target_part, part_to, pieces_sent, all_for, flat_through, flat_same, numbered_each, above_added, piece_for}

-- what all pieces of a target have
target_each : (carrier : ℕ) (t : Target) (P : Piece → Type 0) → ((len : ℕ) (r : Run) → len ≤ t.part.len → P (piece_of carrier t len r)) → (rs : List Run) → Each P (target_pieces carrier t rs)
target_each carrier t P f [] = either (is_empty t.part)
  where
    either : (b : Bool) → Each P (if b then [] else piece_of carrier t t.part.len (record { trail = []; units = [] }) ∷ [])
    either true = tt
    either false = (f t.part.len (record { trail = []; units = [] }) (omega arith), tt)
target_each carrier t P f (r ∷ rs) = (f t.part.len r (omega arith), rest rs)
  where
    rest : (rs : List Run) → Each P (map (piece_of carrier t 0) rs)
    rest [] = tt
    rest (r ∷ rs) = (f 0 r (omega arith), rest rs)

module _ (carrier : ℕ) (members : List Member) (resolver : Option CutRules) (b k : ℕ) (x : Span) (mode : SpanMode) (here : slice_get members k ≡ Some (Member.Tracked b x mode)) where
  abbrev own : List Piece → List Piece
  own ps = own_of carrier members k x ps

  own_append : (ps qs : List Piece) → own (ps ++ qs) ≡ own ps ++ own qs
  own_append ps qs = ap (λ z. filter (is_of carrier k) z) (filter-append (λ p. not (is_first members k x p)) ps qs) ∙ filter-append (is_of carrier k) (others_of members k x ps) (others_of members k x qs)

  -- of one target: all its pieces, or none
  own_target : (c : Component) (t : Target) (rs : List Run) → IsTarget members c t → own (if nat_eq t.source b then target_pieces carrier t rs else []) ≡ (if nat_eq t.member k then target_pieces carrier t rs else [])
  own_target c t rs is = elim (cases_eq t.member k) [
    | inl same ↦ (
        let e : Some (Member.Tracked t.source t.bounds is.mode) ≡ Some (Member.Tracked b x mode) = sym is.there ∙ ap (slice_get members) same ∙ here in
        let s : t.source ≡ b = cc in
        let y : t.bounds ≡ x = cc in
        let n : nat_eq t.source b ≡ true = grind (arith, nat_tests) in
        let m : nat_eq t.member k ≡ true = grind (arith, nat_tests) in
        let firsts : Each (λ p. not (is_first members k x p) ≡ true) (target_pieces carrier t rs) = target_each carrier t (λ p. not (is_first members k x p) ≡ true) (λ len r less.
        ap not (first_is carrier members b k x (piece_of carrier t len r) (piece_for carrier members b c t len r is s less)
        ∙ ap (λ z. stands_before (t.member, z) (k, x)) y ∙ ap (λ z. stands_before (z, x) (k, x)) same ∙ itself k x)) rs in
        let ofs : Each (λ p. is_of carrier k p ≡ true) (target_pieces carrier t rs) = target_each carrier t (λ p. is_of carrier k p ≡ true) (λ len r less.
        of_is carrier members b k (piece_of carrier t len r) (piece_for carrier members b c t len r is s less) ∙ (grind (arith, nat_tests))) rs in
        rw (n, m) (ap (λ z. filter (is_of carrier k) z) (filter_all (λ p. not (is_first members k x p)) (target_pieces carrier t rs) firsts) ∙ filter_all (is_of carrier k) (target_pieces carrier t rs) ofs))
    | inr other ↦ (
        let m : nat_eq t.member k ≡ false = grind (arith, nat_tests) in
        let ofs : nat_eq t.source b ≡ true → Each (λ p. is_of carrier k p ≡ false) (target_pieces carrier t rs) = λ n. target_each carrier t (λ p. is_of carrier k p ≡ false) (λ len r less.
        of_is carrier members b k (piece_of carrier t len r) (piece_for carrier members b c t len r is (grind (arith, nat_tests)) less) ∙ (grind (arith, nat_tests))) rs in
        rw m (none_of (nat_eq t.source b) ofs))
  ]
    where
      itself : (k : ℕ) (x : Span) → stands_before (k, x) (k, x) ≡ false
      itself k x = grind (arith, nat_tests)

      none_of : (z : Bool) → (z ≡ true → Each (λ p. is_of carrier k p ≡ false) (target_pieces carrier t rs)) → own (if z then target_pieces carrier t rs else []) ≡ []
      none_of true a = filter_twice (is_of carrier k) (λ p. not (is_first members k x p)) (target_pieces carrier t rs) ∙ ap (λ z. filter (λ p. not (is_first members k x p)) z) (filter_none (is_of carrier k) (target_pieces carrier t rs) (a refl))
      none_of false a = refl

  abbrev pub own_part : Component → List Piece
  own_part c = flat_map (λ it. if nat_eq it.1.member k then target_part carrier (rule_for resolver c) c (length (targets members c)) it else []) (enumerate_from 0 (targets members c))

  pub own_pieces : (cs : List Component) → own (pieces_at (sent carrier members resolver cs) b) ≡ flat_map own_part cs
  own_pieces cs =
      ap own (pieces_sent carrier members resolver b cs) ∙ flat_through own (part_to carrier members resolver b) cs refl own_append ∙ flat_same (λ c. own (part_to carrier members resolver b c)) own_part cs (all cs)
    where
      one : (c : Component) → own (part_to carrier members resolver b c) ≡ own_part c
      one c =
          flat_through own (λ it. if nat_eq it.1.source b then target_part carrier (rule_for resolver c) c (length (targets members c)) it else []) (enumerate_from 0 (targets members c)) refl own_append
          ∙ flat_same (λ it. own (if nat_eq it.1.source b then target_part carrier (rule_for resolver c) c (length (targets members c)) it else [])) (λ it. if nat_eq it.1.member k then target_part carrier (rule_for resolver c) c (length (targets members c)) it else []) (enumerate_from 0 (targets members c))
          (numbered_each members c (λ it. own (if nat_eq it.1.source b then target_part carrier (rule_for resolver c) c (length (targets members c)) it else []) ≡ (if nat_eq it.1.member k then target_part carrier (rule_for resolver c) c (length (targets members c)) it else [])) (λ j t is. own_target c t (trail_runs (share (rule_for resolver c) c.text (length (targets members c)) j)) is) 0 0 (targets members c) (all_targets members c))

      all : (cs : List Component) → Each (λ c. own (part_to carrier members resolver b c) ≡ own_part c) cs
      all [] = tt
      all (c ∷ cs) = (one c, all cs)

-- ---- what they put in

sorted_same : {X : Type 0} (before : X → X → Bool) (P : X → Type 0) (xs : List X) → ((x y : X) → P x → P y → before x y ≡ false) → Each P xs → sorted_by before xs ≡ xs
sorted_same before P [] same a = refl
sorted_same {X = X} before P (x ∷ xs) same a = ap (λ z. placed_in before x z) (sorted_same before P xs same a.1) ∙ stays xs a.1
  where
    stays : (ys : List X) → Each P ys → placed_in before x ys ≡ x ∷ ys
    stays [] b = refl
    stays (y ∷ ys) b = rw (same y x b.0 a.0) refl

same_eq : (a b c d : ℕ) → (a ≡ b → c ≡ d) → (c ≡ d → a ≡ b) → nat_eq a b ≡ nat_eq c d
same_eq a b c d f g = elim (cases_eq a b) [
  | inl e ↦ (let h : c ≡ d = f e in let p : nat_eq a b ≡ true = grind (arith, nat_tests) in let q : nat_eq c d ≡ true = grind (arith, nat_tests) in p ∙ sym q)
  | inr ne ↦ (let p : nat_eq a b ≡ false = grind (arith, nat_tests) in let q : nat_eq c d ≡ false = (elim (cases_eq c d) [ inl h ↦ absurd (ne (g h)) | inr o ↦ grind (arith, nat_tests) ]) in p ∙ sym q)
]

pub never_before : (carrier k : ℕ) (s : Side) (p q : Piece) → p.side ≡ s → q.side ≡ s → last_pair p.trail ≡ Some (carrier, k) → last_pair q.trail ≡ Some (carrier, k) → piece_before p q ≡ false
never_before carrier k s p q a b c d =
    let e : nat_lt (side_rank s) (side_rank s) ≡ false = grind (arith, nat_tests) in
    let f : nat_eq (side_rank s) (side_rank s) ≡ true = grind (arith, nat_tests) in
    let g : nat_lt carrier carrier ≡ false = grind (arith, nat_tests) in
    let h : nat_lt k k ≡ false = grind (arith, nat_tests) in
    let i : nat_eq carrier carrier ≡ true = grind (arith, nat_tests) in
    rw (a, b, c, d, e, f, g, i, h) refl

if_same : (z : Bool) (xs : List Full) → xs ≡ (if z then xs else xs)
if_same true xs = refl
if_same false xs = refl

-- a unit of the source as the carrier has it, whose member stands from place a on
abbrev pub lifted : ℕ → ℕ → ℕ → Span → Full → Full
lifted carrier k a x f = (option_map (λ o. a + (o - x.start)) f.0, (f.1.0, trail_above carrier (nat_eq k) f.1.1))

flat_mapped : {X Y Z : Type 0} (f : Y → List Z) (g : X → Y) (xs : List X) → flat_map f (map g xs) ≡ flat_map (λ x. f (g x)) xs
flat_mapped f g [] = refl
flat_mapped f g (x ∷ xs) = ap (λ z. f (g x) ++ z) (flat_mapped f g xs)

module _ (carrier : ℕ) (members : List Member) (resolver : Option CutRules) (b k : ℕ) (x : Span) (mode : SpanMode) (here : slice_get members k ≡ Some (Member.Tracked b x mode)) (g : ℕ) where
  -- what pieces put in at the gap, in the order in which they came
  abbrev shown : List Piece → List Full
  shown ps = map (lifted carrier k (sum_by member_len (take k members)) x) (map put_in (flat_map marked_units (filter (λ p. nat_eq p.start g) ps)))

  shown_append : (ps qs : List Piece) → shown (ps ++ qs) ≡ shown ps ++ shown qs
  shown_append ps qs =
      let f : ℕ × List (ℕ × ℕ) → Full = put_in in
      let l : Full → Full = lifted carrier k (sum_by member_len (take k members)) x in
      let ps' : List Piece = filter (λ p. nat_eq p.start g) ps in
      let qs' : List Piece = filter (λ p. nat_eq p.start g) qs in
      ap (λ z. map l (map f (flat_map marked_units z))) (filter-append (λ p. nat_eq p.start g) ps qs)
      ∙ ap (λ z. map l (map f z)) (flat_map-append marked_units ps' qs')
      ∙ ap (λ z. map l z) (map-append f (flat_map marked_units ps') (flat_map marked_units qs'))
      ∙ map-append l (map f (flat_map marked_units ps')) (map f (flat_map marked_units qs'))

  shown_units : (way : List (ℕ × ℕ)) (us : List ℕ) → map (lifted carrier k (sum_by member_len (take k members)) x) (map put_in (map (λ u. (u, way ++ ((carrier, k) ∷ []))) us)) ≡ map put_in (map (λ u. (u, way)) us)
  shown_units way [] = refl
  shown_units way (u ∷ us) = ap (λ z. (None, (u, z)) ∷ map (lifted carrier k (sum_by member_len (take k members)) x) (map put_in (map (λ u. (u, way ++ ((carrier, k) ∷ []))) us))) (above_added carrier k way) ∙ ap (λ z. (None, (u, way)) ∷ z) (shown_units way us)

  shown_piece : (t : Target) (len : ℕ) (r : Run) → t.member ≡ k → shown (piece_of carrier t len r ∷ []) ≡ (if nat_eq t.part.start g then map put_in (run_units r) else [])
  shown_piece t len r same = either (nat_eq t.part.start g)
    where
      plain : map (lifted carrier k (sum_by member_len (take k members)) x) (map put_in (map (λ u. (u, r.trail ++ ((carrier, t.member) ∷ []))) r.units)) ≡ map put_in (run_units r)
      plain = ap (λ m. map (lifted carrier k (sum_by member_len (take k members)) x) (map put_in (map (λ u. (u, r.trail ++ ((carrier, m) ∷ []))) r.units))) same ∙ shown_units r.trail r.units

      either : (z : Bool) → map (lifted carrier k (sum_by member_len (take k members)) x) (map put_in (flat_map marked_units (if z then piece_of carrier t len r ∷ [] else []))) ≡ (if z then map put_in (run_units r) else [])
      either true = ap (λ w. map (lifted carrier k (sum_by member_len (take k members)) x) (map put_in w)) (append-nil (marked_units (piece_of carrier t len r))) ∙ plain
      either false = refl

  shown_rest : (t : Target) (rs : List Run) → t.member ≡ k → shown (map (piece_of carrier t 0) rs) ≡ (if nat_eq t.part.start g then map put_in (flat_map run_units rs) else [])
  shown_rest t [] same = if_same (nat_eq t.part.start g) []
  shown_rest t (r ∷ rs) same =
      shown_append (piece_of carrier t 0 r ∷ []) (map (piece_of carrier t 0) rs)
      ∙ ap (λ z. z ++ shown (map (piece_of carrier t 0) rs)) (shown_piece t 0 r same)
      ∙ ap (λ z. (if nat_eq t.part.start g then map put_in (run_units r) else []) ++ z) (shown_rest t rs same)
      ∙ two (nat_eq t.part.start g)
    where
      two : (z : Bool) → (if z then map put_in (run_units r) else []) ++ (if z then map put_in (flat_map run_units rs) else []) ≡ (if z then map put_in (run_units r ++ flat_map run_units rs) else [])
      two true = sym (map-append put_in (run_units r) (flat_map run_units rs))
      two false = refl

  shown_target : (t : Target) (ms : List (ℕ × List (ℕ × ℕ))) → t.member ≡ k → shown (target_pieces carrier t (trail_runs ms)) ≡ (if nat_eq t.part.start g then map put_in ms else [])
  shown_target t ms same = by_runs (trail_runs ms) refl
    where
      by_runs : (rs : List Run) → rs ≡ trail_runs ms → shown (target_pieces carrier t rs) ≡ (if nat_eq t.part.start g then map put_in ms else [])
      by_runs [] is =
          let none : ms ≡ [] = sym (runs_are ms) ∙ ap (λ z. flat_map run_units z) (sym is) in
          rw none (nothing (is_empty t.part))
        where
          nothing : (z : Bool) → shown (if z then [] else piece_of carrier t t.part.len (record { trail = []; units = [] }) ∷ []) ≡ (if nat_eq t.part.start g then [] else [])
          nothing true = if_same (nat_eq t.part.start g) []
          nothing false = shown_piece t t.part.len (record { trail = []; units = [] }) same
      by_runs (r ∷ rs) is =
          shown_append (piece_of carrier t t.part.len r ∷ []) (map (piece_of carrier t 0) rs)
          ∙ ap (λ z. z ++ shown (map (piece_of carrier t 0) rs)) (shown_piece t t.part.len r same)
          ∙ ap (λ z. (if nat_eq t.part.start g then map put_in (run_units r) else []) ++ z) (shown_rest t rs same)
          ∙ two (nat_eq t.part.start g)
          ∙ ap (λ z. if nat_eq t.part.start g then map put_in z else []) (ap (λ z. flat_map run_units z) is ∙ runs_are ms)
        where
          two : (z : Bool) → (if z then map put_in (run_units r) else []) ++ (if z then map put_in (flat_map run_units rs) else []) ≡ (if z then map put_in (run_units r ++ flat_map run_units rs) else [])
          two true = sym (map-append put_in (run_units r) (flat_map run_units rs))
          two false = refl

  -- of all components: what is dealt to the member at the gap of the carrier
  module _ (d : ℕ) (at_gap_is : g ≡ x.start + d) where
    one_share : (c : Component) (n j : ℕ) (t : Target) → IsTarget members c t → shown (if nat_eq t.member k then target_part carrier (rule_for resolver c) c n (j, t) else []) ≡ own_at k (sum_by member_len (take k members) + d) (entry_of members (rule_for resolver c) c n (j, t))
    one_share c n j t is = either (nat_eq t.member k) refl
      where
        either : (z : Bool) → nat_eq t.member k ≡ z → shown (if z then target_part carrier (rule_for resolver c) c n (j, t) else []) ≡ (if z then (if nat_eq (lowest members c t.member) (sum_by member_len (take k members) + d) then map put_in (share (rule_for resolver c) c.text n j) else []) else [])
        either false e = refl
        either true e =
            let same : t.member ≡ k = grind (arith, nat_tests) in
            let there : Some (Member.Tracked t.source t.bounds is.mode) ≡ Some (Member.Tracked b x mode) = sym is.there ∙ ap (slice_get members) same ∙ here in
            let y : t.bounds ≡ x = cc in
            let y0 : t.bounds.start ≡ x.start = ap (λ (z : Span). z.start) y in
            let s : is.start ≡ sum_by member_len (take k members) = is.start_is ∙ ap (λ z. sum_by member_len (take z members)) same in
            let low : is.at ≡ lowest members c t.member = is.at_is in
            let p : t.part.start ≡ t.bounds.start + (is.at - is.start) = is.part in
            let from : is.start ≤ is.at = is.from in
            let one : nat_eq t.part.start g ≡ nat_eq (lowest members c t.member) (sum_by member_len (take k members) + d) =
            same_eq t.part.start g (lowest members c t.member) (sum_by member_len (take k members) + d) (λ h. omega arith) (λ h. omega arith) in
            shown_target t (share (rule_for resolver c) c.text n j) same ∙ ap (λ z. if z then map put_in (share (rule_for resolver c) c.text n j) else []) one

    one_component : (c : Component) → shown (own_part carrier members resolver b k x mode here c) ≡ flat_map (own_at k (sum_by member_len (take k members) + d)) (dealt_of members resolver c).entries
    one_component c =
        let n : ℕ = length (targets members c) in
        let its : List (ℕ × Target) = enumerate_from 0 (targets members c) in
        flat_through shown (λ it. if nat_eq it.1.member k then target_part carrier (rule_for resolver c) c n it else []) its refl shown_append
        ∙ flat_same (λ it. shown (if nat_eq it.1.member k then target_part carrier (rule_for resolver c) c n it else [])) (λ it. own_at k (sum_by member_len (take k members) + d) (entry_of members (rule_for resolver c) c n it)) its
        (numbered_each members c (λ it. shown (if nat_eq it.1.member k then target_part carrier (rule_for resolver c) c n it else []) ≡ own_at k (sum_by member_len (take k members) + d) (entry_of members (rule_for resolver c) c n it)) (λ j t is. one_share c n j t is) 0 0 (targets members c) (all_targets members c))
        ∙ sym (flat_mapped (own_at k (sum_by member_len (take k members) + d)) (entry_of members (rule_for resolver c) c n) its)

    all_components : (cs : List Component) → shown (flat_map (own_part carrier members resolver b k x mode here) cs) ≡ own_put k (map (dealt_of members resolver) cs) (sum_by member_len (take k members) + d)
    all_components cs =
        flat_through shown (own_part carrier members resolver b k x mode here) cs refl shown_append
        ∙ flat_same (λ c. shown (own_part carrier members resolver b k x mode here c)) (λ c. flat_map (own_at k (sum_by member_len (take k members) + d)) (dealt_of members resolver c).entries) cs (all cs)
        ∙ sym (flat_mapped (λ dd. flat_map (own_at k (sum_by member_len (take k members) + d)) dd.entries) (dealt_of members resolver) cs)
      where
        all : (cs : List Component) → Each (λ c. shown (own_part carrier members resolver b k x mode here c) ≡ flat_map (own_at k (sum_by member_len (take k members) + d)) (dealt_of members resolver c).entries) cs
        all [] = tt
        all (c ∷ cs) = (one_component c, all cs)

    -- What the member's own pieces put in at a gap of the source is what is dealt to it at the gap of the carrier.
    pub own_puts : (cs : List Component) → map (lifted carrier k (sum_by member_len (take k members)) x) (map put_in (put_at (own_of carrier members k x (pieces_at (sent carrier members resolver cs) b)) g)) ≡ own_put k (map (dealt_of members resolver) cs) (sum_by member_len (take k members) + d)
    own_puts cs =
        let ps : List Piece = own_of carrier members k x (pieces_at (sent carrier members resolver cs) b) in
        ap (λ z. map (lifted carrier k (sum_by member_len (take k members)) x) (map put_in (flat_map marked_units z))) (sorted_same piece_before IsAlike (filter (λ p. nat_eq p.start g) ps) alike (all_alike cs))
        ∙ ap shown (own_pieces carrier members resolver b k x mode here cs) ∙ all_components cs
      where
        IsAlike : Piece → Type 0
        IsAlike p = (p.side ≡ side_at x g) × (last_pair p.trail ≡ Some (carrier, k))

        alike : (p q : Piece) → IsAlike p → IsAlike q → piece_before p q ≡ false
        alike p q u v = never_before carrier k (side_at x g) p q u.0 v.0 u.1 v.1

        one_alike : (p : Piece) → ((IsFor carrier members b p × (not (is_first members k x p) ≡ true)) × (is_of carrier k p ≡ true)) × (nat_eq p.start g ≡ true) → IsAlike p
        one_alike p ((h, first), at) =
            let same : h.0.member ≡ k = (let z : nat_eq k h.0.member ≡ true = sym (of_is carrier members b k p h.0) ∙ first in grind (arith, nat_tests)) in
            let there : Some (Member.Tracked b h.0.bounds h.0.mode) ≡ Some (Member.Tracked b x mode) = sym h.0.there ∙ ap (slice_get members) same ∙ here in
            let y : h.0.bounds ≡ x = cc in
            let e : p.start ≡ g = grind (arith, nat_tests) in
            (h.0.side ∙ ap (λ z. side_at z p.start) y ∙ ap (λ z. side_at x z) e, h.0.last ∙ ap (λ z. Some (carrier, z)) same)

        all_alike : (cs : List Component) → Each IsAlike (filter (λ p. nat_eq p.start g) (own_of carrier members k x (pieces_at (sent carrier members resolver cs) b)))
        all_alike cs =
            let ps : List Piece = pieces_at (sent carrier members resolver cs) b in
            let A : Piece → Type 0 = IsFor carrier members b in
            let B : Piece → Type 0 = λ p. A p × (not (is_first members k x p) ≡ true) in
            let C : Piece → Type 0 = λ p. B p × (is_of carrier k p ≡ true) in
            each_more (λ p. C p × (nat_eq p.start g ≡ true)) IsAlike (filter (λ p. nat_eq p.start g) (own_of carrier members k x ps)) one_alike
            (filter_each C (λ p. nat_eq p.start g) (own_of carrier members k x ps)
            (filter_each B (is_of carrier k) (others_of members k x ps) (filter_each A (λ p. not (is_first members k x p)) ps (all_for carrier members resolver b cs))))
