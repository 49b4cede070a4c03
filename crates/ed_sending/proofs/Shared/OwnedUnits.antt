-- What `Members::advance` requires: what a member owns lies inside it, and of two members in order the earlier holds what stands before.
use Rattle.std.proofs.Common.{◌≡◌, ◌≢◌, ℕ, zero, suc, ◌+◌, ◌-◌, ◌<◌, ◌≤◌, Bool, true, false, List, [], ◌∷◌, ◌++◌, length, map, take, drop, filter, Option, Some, None, inl, inr, refl, sym, ap, ◌∙◌, arith, subst, if◌then◌else◌}
use Rattle.std.specs.Prelude.{slice_get, slice_range, nat_eq, nat_le, nat_lt, find, option_map, unwrap_or, Contains}
use Rattle.std.specs.List.{enumerate_from, slice_index_or}
use Rattle.std.proofs.lemmas.Bool.{cases_lt}
use Rattle.std.proofs.lemmas.Bool.Decides.{nat_tests}
use Rattle.std.proofs.lemmas.List.{take-append-drop, drop-drop, length-take, length-drop}
use Rattle.ed_base.specs.declared.edit.Span.{Span}
use Rattle.ed_base.specs.declared.mode.SpanMode.{SpanMode}
use Rattle.ed_base.specs.declared.piece.Member.{Member}
use Rattle.ed_base.specs.declared.piece.Piece.{Piece}
use Rattle.ed_base.specs.Hooks.{CutRules}
use Rattle.ed_base.specs.Numbers.{find_last, or_else}
use Rattle.ed_base.specs.Spans.{end_of}
use Rattle.ed_base.specs.Step.{pairs_from}
use Rattle.ed_base.specs.Tracking.{positive_edge, negative_edge}
use Rattle.ed_layers.specs.Bounds.{Placed, placed_on}
use Rattle.ed_layers.specs.Owning.{OwnInside, OwnInOrder}
use Rattle.ed_layers.specs.Pieces.{Component}
use Rattle.ed_layers.specs.Sending.{sent}
use Rattle.ed_layers.specs.SourceStep.{SourceStep, trail_at, ends_with}
use Rattle.ed_stock.specs.Landing.{pieces_at}
use Rattle.ed_sending.proofs.Lists.SortedParts.{Each, each_more}
use Rattle.ed_sending.proofs.Texts.FullText.{Full, full_text, held_by}
use Rattle.ed_sending.proofs.Texts.GapOrder.{Stands, stands_is, in_order_cases, stands_once}
use Rattle.ed_sending.proofs.Members.SourceParts.{IsFor}
use Rattle.ed_sending.proofs.Carriers.SentPieces.{all_for}
use Rattle.ed_sending.proofs.Texts.FilteredText.{passing, full_passing}
use Rattle.ed_sending.proofs.Lists.Subsequences.{Sub, Cut, sub_trans, sub_map, sub_filter, filter_sub, filter_map_is, cut_sub, cut_map, cut_unfilter, cut_at}
use Rattle.ed_sending.proofs.Shared.SourceSigns.{Sign, sign_of, is_told, Comes, sign_at, signs_tell, signs_past, holds_sign, ends_at, ends_any, sub_both}
use Rattle.ed_sending.proofs.Members.SourceCuts.{start_cut, end_cut, order_cut}
use Rattle.ed_sending.proofs.Shared.ProjectionSigns.{AreShared}
use Rattle.ed_sending.specs.Ready.{AreApart, AreFitting}

-- ---- members on a source

contains_each : {X : Type 0} (P : X → Type 0) (xs : List X) (x : X) → Each P xs → (k : ℕ) → k < length xs → slice_index_or xs k x ≡ x → P x
contains_each P [] x a k below is = absurd (omega arith)
contains_each P (y ∷ ys) x a zero below is = subst P is a.0
contains_each P (y ∷ ys) x a (suc k) below is = contains_each P ys x a.1 k (omega arith) is

abbrev IsThere : List Member → ℕ → Placed → Type 0
IsThere members source m = (mode : SpanMode) × (slice_get members m.index ≡ Some (Member.Tracked source m.bounds mode))

placed_each : (members : List Member) (source k : ℕ) (ms : List Member) → ((d : ℕ) → slice_get ms d ≡ slice_get members (k + d)) → Each (IsThere members source) (placed_on source (enumerate_from k ms))
placed_each members source k [] same = tt
placed_each members source k (Member.Literal units ∷ ms) same = placed_each members source (k + 1) ms (λ d. same (suc d) ∙ ap (slice_get members) (let e : k + suc d ≡ (k + 1) + d = omega arith in e))
placed_each members source k (Member.Tracked from x mode ∷ ms) same =
    either (nat_eq from source) refl (placed_each members source (k + 1) ms (λ d. same (suc d) ∙ ap (slice_get members) (let e : k + suc d ≡ (k + 1) + d = omega arith in e)))
  where
    either : (b : Bool) → nat_eq from source ≡ b → Each (IsThere members source) (placed_on source (enumerate_from (k + 1) ms)) → Each (IsThere members source) (if b then record { index = k; bounds = x } ∷ placed_on source (enumerate_from (k + 1) ms) else placed_on source (enumerate_from (k + 1) ms))
    either false e rest = rest
    either true e rest = ((mode, ap (slice_get members) (let f : k ≡ k + 0 = omega arith in f) ∙ sym (same 0) ∙ ap (λ z. Some (Member.Tracked z x mode)) (let f : from ≡ source = grind (arith, nat_tests) in f)), rest)

pub placed_is : (members : List Member) (source : ℕ) (m : Placed) → Contains (placed_on source (enumerate_from 0 members)) m → (mode : SpanMode) × (slice_get members m.index ≡ Some (Member.Tracked source m.bounds mode))
placed_is members source m c = contains_each (IsThere members source) (placed_on source (enumerate_from 0 members)) m (placed_each members source 0 members (λ d. ap (slice_get members) (let e : d ≡ 0 + d = omega arith in e))) c.0 c.1 c.2

-- ---- the kept pairs

abbrev IsPair : ℕ → List (Option ℕ) → ℕ × ℕ → Type 0
IsPair k os pair = (d : ℕ) × (pair.1 ≡ k + d) × (slice_get os d ≡ Some (Some pair.0))

pairs_are : (k : ℕ) (os : List (Option ℕ)) → Each (IsPair k os) (pairs_from k os)
pairs_are k [] = tt
pairs_are k (None ∷ os) = each_more (IsPair (k + 1) os) (IsPair k (None ∷ os)) (pairs_from (k + 1) os) (λ pair h. (let e : pair.1 ≡ k + 1 + h.0 = h.1 in (suc h.0, omega arith, h.2))) (pairs_are (k + 1) os)
pairs_are k (Some p ∷ os) = ((0, (let e : k ≡ k + 0 = omega arith in e), refl), each_more (IsPair (k + 1) os) (IsPair k (Some p ∷ os)) (pairs_from (k + 1) os) (λ pair h. (let e : pair.1 ≡ k + 1 + h.0 = h.1 in (suc h.0, omega arith, h.2))) (pairs_are (k + 1) os))

found : {X : Type 0} (P : X → Type 0) (test : X → Bool) (xs : List X) (x : X) → Each P xs → find test xs ≡ Some x → P x × (test x ≡ true)
found P test [] x a is = absurd (let e : None ≡ Some x = is in cc)
found {X = X} P test (y ∷ ys) x a is = either (test y) refl is (λ i. found P test ys x a.1 i)
  where
    either : (b : Bool) → test y ≡ b → (if b then Some y else find test ys) ≡ Some x → (find test ys ≡ Some x → P x × (test x ≡ true)) → P x × (test x ≡ true)
    either true t is rest = let e : y ≡ x = cc in (subst P e a.0, ap test (sym e) ∙ t)
    either false t is rest = rest is

found_last : {X : Type 0} (P : X → Type 0) (test : X → Bool) (xs : List X) (x : X) → Each P xs → find_last test xs ≡ Some x → P x × (test x ≡ true)
found_last P test [] x a is = absurd (let e : None ≡ Some x = is in cc)
found_last {X = X} P test (y ∷ ys) x a is = by (find_last test ys) (test y) refl is (λ i. found_last P test ys x a.1 i) refl
  where
    by : (o : Option X) (b : Bool) → test y ≡ b → or_else o (if b then Some y else None) ≡ Some x → (find_last test ys ≡ Some x → P x × (test x ≡ true)) → find_last test ys ≡ o → P x × (test x ≡ true)
    by (Some z) b t is rest same = rest (same ∙ is)
    by None true t is rest same = let e : y ≡ x = cc in (subst P e a.0, ap test (sym e) ∙ t)
    by None false t is rest same = absurd (let e : None ≡ Some x = is in cc)

-- ---- of one source

-- kept, or the carrier's own
abbrev pub is_near : ℕ → Sign → Bool
is_near carrier (Some p, way) = true
is_near carrier (None, way) = ends_at carrier way

near_told : (carrier : ℕ) (f : Sign) → is_near carrier f ≡ true → is_told f ≡ true
near_told carrier (Some p, way) e = refl
near_told carrier (None, []) e = absurd (let z : false ≡ true = e in cc)
near_told carrier (None, (p ∷ way)) e = refl

owned_near : (carrier i : ℕ) (f : Sign) → ends_with carrier (nat_eq i) f.1 ≡ true → is_near carrier f ≡ true
owned_near carrier i (Some p, way) e = refl
owned_near carrier i (None, way) e = ends_any carrier (nat_eq i) way e

held_near : (carrier i : ℕ) (x : Span) (f : Sign) → holds_sign carrier i x f ≡ true → is_near carrier f ≡ true
held_near carrier i x (Some p, way) e = refl
held_near carrier i x (None, way) e = ends_any carrier (nat_eq i) way e

get_there : {X : Type 0} (xs : List X) (q : ℕ) → q < length xs → (x : X) × (slice_get xs q ≡ Some x)
get_there [] q below = absurd (omega arith)
get_there (x ∷ xs) zero below = (x, refl)
get_there (x ∷ xs) (suc q) below = get_there xs q (omega arith)

unmap : (fs : List Sign) (d : ℕ) (o : Option ℕ) → slice_get (map (λ (f : Sign). f.0) fs) d ≡ Some o → (f : Sign) × (slice_get fs d ≡ Some f) × (f.0 ≡ o)
unmap [] d o is = absurd (let e : None ≡ Some o = is in cc)
unmap (f ∷ fs) zero o is = (f, refl, (let e : f.0 ≡ o = cc in e))
unmap (f ∷ fs) (suc d) o is = unmap fs d o is

module _ (carrier : ℕ) (members : List Member) (source : ℕ) (s : SourceStep) (ps own : List Piece) (text : List ℕ) (comes : Comes (Some s) ps text) (given : passing (ends_at carrier) ps ≡ own) (each : Each (IsFor carrier members source) own) (apart : AreApart members source) where
  abbrev signs : List Sign
  signs = comes.signs

  own_among : Sub (filter (is_near carrier) signs) (map sign_of (full_text own text))
  own_among =
      let N : Sign → Bool = is_near carrier in
      let H : Full → Bool = λ f. N (sign_of f) in
      let one : Sub (filter N signs) (filter N (filter is_told signs)) = sub_both N N is_told signs (λ f e. (e, near_told carrier f e)) in
      let two : Sub (filter N (filter is_told signs)) (filter N (map sign_of (full_text ps text))) = sub_filter N (filter is_told signs) (map sign_of (full_text ps text)) comes.among in
      let three : Sub (filter H (full_text ps text)) (filter H (full_text (passing (ends_at carrier) ps) text)) = full_passing H (ends_at carrier) (λ m e. e) ps text in
      let four : Sub (filter H (full_text ps text)) (full_text own text) =
      subst (λ z. Sub (filter H (full_text ps text)) (full_text z text)) given (sub_trans (filter H (full_text ps text)) (filter H (full_text (passing (ends_at carrier) ps) text)) (full_text (passing (ends_at carrier) ps) text) three (filter_sub H (full_text (passing (ends_at carrier) ps) text))) in
      let five : Sub (filter N (map sign_of (full_text ps text))) (map sign_of (full_text own text)) =
      subst (λ z. Sub z (map sign_of (full_text own text))) (sym (filter_map_is sign_of N (full_text ps text))) (sub_map sign_of (filter H (full_text ps text)) (full_text own text) four) in
      sub_trans (filter N signs) (filter N (filter is_told signs)) (map sign_of (full_text own text)) one (sub_trans (filter N (filter is_told signs)) (filter N (map sign_of (full_text ps text))) (map sign_of (full_text own text)) two five)

  -- a cut of what the carrier's own pieces make is one of all, as far as that is near
  cut_place : (P Q : Sign → Type 0) → Cut (λ f. P (sign_of f)) (λ f. Q (sign_of f)) (full_text own text) → (n : ℕ) × ((q : ℕ) (f : Sign) → slice_get signs q ≡ Some f → is_near carrier f ≡ true → (q < n → P f) × (n ≤ q → Q f))
  cut_place P Q c =
      let N : Sign → Bool = is_near carrier in
      let at : (n : ℕ) × ((q : ℕ) (f : Sign) → slice_get signs q ≡ Some f → (q < n → N f ≡ true → P f) × (n ≤ q → N f ≡ true → Q f)) =
      cut_at (λ f. N f ≡ true → P f) (λ f. N f ≡ true → Q f) signs (cut_unfilter P Q N signs (cut_sub P Q (filter N signs) (map sign_of (full_text own text)) own_among (cut_map sign_of P Q (full_text own text) c))) in
      (at.0, λ q f is near. ((λ below. (at.1 q f is).0 below near), (λ above. (at.1 q f is).1 above near)))

  -- an element with a trail or an old place stands in the text
  told_there : (q : ℕ) → is_told (sign_at (Some s) q) ≡ true → (f : Sign) × (slice_get signs q ≡ Some f) × (sign_at (Some s) q ≡ f) × (q < length signs)
  told_there q told = elim (cases_lt q (length signs)) [
    | inl below ↦ (let g : (f : Sign) × (slice_get signs q ≡ Some f) = get_there signs q below in (g.0, g.1, signs_tell (Some s) text signs comes.signed q g.0 g.1, below))
    | inr past ↦ absurd (let e : false ≡ true = ap is_told (sym (signs_past s signs comes.signed q past)) ∙ told in cc)
  ]

  module _ (i : ℕ) (x : Span) (mode : SpanMode) (here : slice_get members i ≡ Some (Member.Tracked source x mode)) (within : end_of x ≤ length text) where
    abbrev xs : List ℕ
    xs = take x.start text

    abbrev ys : List ℕ
    ys = slice_range text x.start (end_of x)

    abbrev zs : List ℕ
    zs = drop (x.start + x.len) text

    whole : xs ++ (ys ++ zs) ≡ text
    whole =
        let size : x.start + x.len - x.start ≡ x.len = omega arith in
        ap (λ n. xs ++ (take n (drop x.start text) ++ zs)) size ∙ ap (λ z. xs ++ (take x.len (drop x.start text) ++ z)) (sym (drop-drop x.len x.start text)) ∙ ap (λ z. xs ++ z) (take-append-drop x.len (drop x.start text)) ∙ take-append-drop x.start text

    ex : length xs ≡ x.start
    ex = omega (arith, length-take x.start text, within)

    ey : length ys ≡ x.len
    ey = omega (arith, length-take (x.start + x.len - x.start) (drop x.start text), length-drop x.start text, within)

    abbrev Foreign : Sign → Type 0
    Foreign f = ends_with carrier (nat_eq i) f.1 ≡ false

    abbrev From : Sign → Type 0
    From f = (o : ℕ) → f.0 ≡ Some o → x.start ≤ o

    abbrev To : Sign → Type 0
    To f = (o : ℕ) → f.0 ≡ Some o → o < end_of x

    inside : (q : ℕ) → ends_with carrier (nat_eq i) (trail_at s q) ≡ true → (negative_edge s.step x.start ≤ q) × (q < positive_edge s.step (end_of x))
    inside q owned =
        let first : (n : ℕ) × ((q : ℕ) (f : Sign) → slice_get signs q ≡ Some f → is_near carrier f ≡ true → (q < n → Foreign f) × (n ≤ q → From f)) =
        cut_place Foreign From (subst (λ t. Cut (λ (f : Full). Foreign (sign_of f)) (λ (f : Full). From (sign_of f)) (full_text own t)) whole (start_cut carrier members source i x mode here apart own each xs ys zs ex ey)) in
        let last : (n : ℕ) × ((q : ℕ) (f : Sign) → slice_get signs q ≡ Some f → is_near carrier f ≡ true → (q < n → To f) × (n ≤ q → Foreign f)) =
        cut_place To Foreign (subst (λ t. Cut (λ (f : Full). To (sign_of f)) (λ (f : Full). Foreign (sign_of f)) (full_text own t)) whole (end_cut carrier members source i x mode here apart own each xs ys zs ex ey)) in
        let near : is_near carrier (sign_at (Some s) q) ≡ true = owned_near carrier i (sign_at (Some s) q) owned in
        let f : (f : Sign) × (slice_get signs q ≡ Some f) × (sign_at (Some s) q ≡ f) × (q < length signs) = told_there q (near_told carrier (sign_at (Some s) q) near) in
        let f_near : is_near carrier f.0 ≡ true = ap (is_near carrier) (sym f.2) ∙ near in
        let f_owned : ends_with carrier (nat_eq i) f.0.1 ≡ true = ap (λ (z : Sign). ends_with carrier (nat_eq i) z.1) (sym f.2) ∙ owned in
        let after : first.0 ≤ q = elim (cases_lt q first.0) [
          | inl below ↦ absurd (let e : true ≡ false = sym f_owned ∙ (first.1 q f.0 f.1 f_near).0 below in cc)
          | inr above ↦ above
        ] in
        let before : q < last.0 = elim (cases_lt q last.0) [
          | inl below ↦ below
          | inr above ↦ absurd (let e : true ≡ false = sym f_owned ∙ (last.1 q f.0 f.1 f_near).1 above in cc)
        ] in
        (low first.0 first.1 after, high last.0 last.1 before f.3)
      where
        os : List (Option ℕ)
        os = map (λ (f : Sign). f.0) signs

        kept_near : (f : Sign) (o : ℕ) → f.0 ≡ Some o → is_near carrier f ≡ true
        kept_near (Some p, way) o e = refl
        kept_near (None, way) o e = absurd (let z : None ≡ Some o = e in cc)

        at : (pair : ℕ × ℕ) → IsPair 0 os pair → (f : Sign) × (slice_get signs pair.1 ≡ Some f) × (f.0 ≡ Some pair.0)
        at pair h = let e : h.0 ≡ pair.1 = (let g : pair.1 ≡ 0 + h.0 = h.1 in omega arith) in
            let u : (f : Sign) × (slice_get signs h.0 ≡ Some f) × (f.0 ≡ Some pair.0) = unmap signs h.0 (Some pair.0) h.2 in
            (u.0, ap (slice_get signs) (sym e) ∙ u.1, u.2)

        low : (n : ℕ) → ((r : ℕ) (f : Sign) → slice_get signs r ≡ Some f → is_near carrier f ≡ true → (r < n → Foreign f) × (n ≤ r → From f)) → n ≤ q → negative_edge s.step x.start ≤ q
        low n cut after = by (find_last (λ (pair : ℕ × ℕ). nat_lt pair.0 x.start) s.step.kept) refl
          where
            by : (o : Option (ℕ × ℕ)) → find_last (λ (pair : ℕ × ℕ). nat_lt pair.0 x.start) s.step.kept ≡ o → unwrap_or (option_map (λ (pair : ℕ × ℕ). pair.1 + 1) o) 0 ≤ q
            by None e = omega arith
            by (Some pair) e =
                let h : IsPair 0 os pair × (nat_lt pair.0 x.start ≡ true) = found_last (IsPair 0 os) (λ (pair : ℕ × ℕ). nat_lt pair.0 x.start) (pairs_from 0 os) pair (pairs_are 0 os) (ap (find_last (λ (pair : ℕ × ℕ). nat_lt pair.0 x.start)) (sym comes.signed.kept) ∙ e) in
                let g : (f : Sign) × (slice_get signs pair.1 ≡ Some f) × (f.0 ≡ Some pair.0) = at pair h.0 in
                elim (cases_lt pair.1 n) [
                  | inl below ↦ omega arith
                  | inr above ↦ absurd (let t : x.start ≤ pair.0 = (cut pair.1 g.0 g.1 (kept_near g.0 pair.0 g.2)).1 above pair.0 g.2 in let z : nat_lt pair.0 x.start ≡ true = h.1 in grind (arith, nat_tests))
                ]

        high : (n : ℕ) → ((r : ℕ) (f : Sign) → slice_get signs r ≡ Some f → is_near carrier f ≡ true → (r < n → To f) × (n ≤ r → Foreign f)) → q < n → q < length signs → q < positive_edge s.step (end_of x)
        high n cut before there = by (find (λ (pair : ℕ × ℕ). nat_le (end_of x) pair.0) s.step.kept) refl
          where
            by : (o : Option (ℕ × ℕ)) → find (λ (pair : ℕ × ℕ). nat_le (end_of x) pair.0) s.step.kept ≡ o → q < unwrap_or (option_map (λ (pair : ℕ × ℕ). pair.1) o) s.step.new_len
            by None e = let t : s.step.new_len ≡ length signs = comes.signed.new_len in omega arith
            by (Some pair) e =
                let h : IsPair 0 os pair × (nat_le (end_of x) pair.0 ≡ true) = found (IsPair 0 os) (λ (pair : ℕ × ℕ). nat_le (end_of x) pair.0) (pairs_from 0 os) pair (pairs_are 0 os) (ap (find (λ (pair : ℕ × ℕ). nat_le (end_of x) pair.0)) (sym comes.signed.kept) ∙ e) in
                let g : (f : Sign) × (slice_get signs pair.1 ≡ Some f) × (f.0 ≡ Some pair.0) = at pair h.0 in
                elim (cases_lt pair.1 n) [
                  | inl below ↦ absurd (let t : pair.0 < end_of x = (cut pair.1 g.0 g.1 (kept_near g.0 pair.0 g.2)).0 below pair.0 g.2 in let z : nat_le (end_of x) pair.0 ≡ true = h.1 in grind (arith, nat_tests))
                  | inr above ↦ omega arith
                ]

    -- and behind what an earlier member holds
    in_order_held : (h : ℕ) (w : Span) (mode' : SpanMode) → slice_get members h ≡ Some (Member.Tracked source w mode') → Stands h w i x → end_of w ≤ x.start → h ≢ i → (p q : ℕ) → holds_sign carrier h w (sign_at (Some s) p) ≡ true → holds_sign carrier i x (sign_at (Some s) q) ≡ true → p < q
    in_order_held h w mode' there stands ends other p q ph qh =
        let cut : (n : ℕ) × ((q : ℕ) (f : Sign) → slice_get signs q ≡ Some f → is_near carrier f ≡ true → (q < n → holds_sign carrier i x f ≡ false) × (n ≤ q → holds_sign carrier h w f ≡ false)) =
        cut_place (λ f. holds_sign carrier i x f ≡ false) (λ f. holds_sign carrier h w f ≡ false) (subst (λ t. Cut (λ f. held_by carrier i x f ≡ false) (λ f. held_by carrier h w f ≡ false) (full_text own t)) whole (order_cut carrier members source i x mode here apart h w mode' there stands ends other own each xs ys zs ex ey)) in
        let np : is_near carrier (sign_at (Some s) p) ≡ true = held_near carrier h w (sign_at (Some s) p) ph in
        let nq : is_near carrier (sign_at (Some s) q) ≡ true = held_near carrier i x (sign_at (Some s) q) qh in
        let f : (f : Sign) × (slice_get signs p ≡ Some f) × (sign_at (Some s) p ≡ f) × (p < length signs) = told_there p (near_told carrier (sign_at (Some s) p) np) in
        let g : (f : Sign) × (slice_get signs q ≡ Some f) × (sign_at (Some s) q ≡ f) × (q < length signs) = told_there q (near_told carrier (sign_at (Some s) q) nq) in
        let fp : holds_sign carrier h w f.0 ≡ true = ap (holds_sign carrier h w) (sym f.2) ∙ ph in
        let gq : holds_sign carrier i x g.0 ≡ true = ap (holds_sign carrier i x) (sym g.2) ∙ qh in
        let before : p < cut.0 = elim (cases_lt p cut.0) [
          | inl below ↦ below
          | inr above ↦ absurd (let e : true ≡ false = sym fp ∙ (cut.1 p f.0 f.1 (ap (is_near carrier) (sym f.2) ∙ np)).1 above in cc)
        ] in
        let after : cut.0 ≤ q = elim (cases_lt q cut.0) [
          | inl below ↦ absurd (let e : true ≡ false = sym gq ∙ (cut.1 q g.0 g.1 (ap (is_near carrier) (sym g.2) ∙ nq)).0 below in cc)
          | inr above ↦ above
        ] in omega arith

-- ---- of all sources

-- What `Members::advance` requires of a carrier's members and the steps of its sources.
pub own_inside : (carrier : ℕ) (members : List Member) (resolver : Option CutRules) (cs : List Component) (texts : ℕ → List ℕ) (steps : ℕ → Option SourceStep) (arrives : ℕ → List Piece) → AreShared carrier members resolver cs texts steps arrives → AreFitting members texts → OwnInside carrier steps members
own_inside carrier members resolver cs texts steps arrives shared fitting source q s m stepped there owned =
    let is : (mode : SpanMode) × (slice_get members m.index ≡ Some (Member.Tracked source m.bounds mode)) = placed_is members source m there in
    let given : Comes (steps source) (arrives source) (texts source) × (passing (ends_at carrier) (arrives source) ≡ pieces_at (sent carrier members resolver cs) source) = shared m.index source m.bounds is.0 is.1 in
    inside carrier members source s (arrives source) (pieces_at (sent carrier members resolver cs) source) (texts source) (subst (λ o. Comes o (arrives source) (texts source)) stepped given.0) given.1 (all_for carrier members resolver source cs) (fitting.apart source) m.index m.bounds is.0 is.1 (fitting.inside m.index source m.bounds is.0 is.1) q owned

pub own_in_order : (carrier : ℕ) (members : List Member) (resolver : Option CutRules) (cs : List Component) (texts : ℕ → List ℕ) (steps : ℕ → Option SourceStep) (arrives : ℕ → List Piece) → AreShared carrier members resolver cs texts steps arrives → AreFitting members texts → OwnInOrder carrier steps members
own_in_order carrier members resolver cs texts steps arrives shared fitting source p q s m n stepped m_there n_there comes hm hn some =
    let im : (mode : SpanMode) × (slice_get members m.index ≡ Some (Member.Tracked source m.bounds mode)) = placed_is members source m m_there in
    let jn : (mode : SpanMode) × (slice_get members n.index ≡ Some (Member.Tracked source n.bounds mode)) = placed_is members source n n_there in
    let stands : Stands m.index m.bounds n.index n.bounds = stands_is m.index n.index m.bounds n.bounds comes in
    let other : m.index ≢ n.index = λ same.
    (let b : m.bounds ≡ n.bounds = (let e : Some (Member.Tracked source m.bounds im.0) ≡ Some (Member.Tracked source n.bounds jn.0) = sym im.1 ∙ ap (slice_get members) same ∙ jn.1 in cc) in
    let l : m.index < n.index = stands.indices (ap (λ (z : Span). z.start) b) (ap (λ (z : Span). z.len) b) in omega arith) in
    let ends : end_of m.bounds ≤ n.bounds.start = elim (in_order_cases m.index n.index m.bounds n.bounds (fitting.apart source m.index n.index m.bounds n.bounds im.0 jn.0 other im.1 jn.1)) [
      | inl a ↦ a.1
      | inr b ↦ absurd (stands_once m.index n.index m.bounds n.bounds stands b.0)
    ] in
    let given : Comes (steps source) (arrives source) (texts source) × (passing (ends_at carrier) (arrives source) ≡ pieces_at (sent carrier members resolver cs) source) = shared n.index source n.bounds jn.0 jn.1 in
    in_order_held carrier members source s (arrives source) (pieces_at (sent carrier members resolver cs) source) (texts source) (subst (λ o. Comes o (arrives source) (texts source)) stepped given.0) given.1 (all_for carrier members resolver source cs) (fitting.apart source)
    n.index n.bounds jn.0 jn.1 (fitting.inside n.index source n.bounds jn.0 jn.1) m.index m.bounds im.0 im.1 stands ends other p q hm hn
