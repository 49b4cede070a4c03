-- Members that stand one behind the other on one source: what any of them holds of its new text is what the first holds, then the next, and so on.
use Rattle.std.proofs.Common.{◌≡◌, ℕ, ◌+◌, ◌-◌, ◌<◌, ◌≤◌, Bool, true, false, ◌||◌, List, [], ◌∷◌, ◌++◌, length, take, drop, filter, Some, inl, inr, refl, sym, ap, ◌∙◌, arith, subst, if◌then◌else◌}
use Rattle.std.specs.Prelude.{slice_get, slice_range}
use Rattle.std.proofs.lemmas.List.{take-append-drop, drop-drop, length-take, length-drop}
use Rattle.ed_base.specs.declared.edit.Span.{Span}
use Rattle.ed_base.specs.declared.mode.SpanMode.{SpanMode}
use Rattle.ed_base.specs.declared.piece.Member.{Member}
use Rattle.ed_base.specs.declared.piece.Piece.{Piece}
use Rattle.ed_base.specs.Spans.{end_of}
use Rattle.ed_sending.proofs.Lists.SortedParts.{Each, filter_none}
use Rattle.ed_sending.proofs.Texts.FullText.{Full, full_text, held_by}
use Rattle.ed_sending.proofs.Texts.GapOrder.{Stands}
use Rattle.ed_sending.proofs.Members.SourceParts.{IsFor}
use Rattle.ed_sending.proofs.Lists.Subsequences.{Cut}
use Rattle.ed_sending.proofs.Members.SourceCuts.{order_cut}
use Rattle.ed_sending.specs.Ready.{AreApart}

-- two cuts with the same behind
pub cut_both : {X : Type 0} (P P' Q : X → Type 0) (xs : List X) → Cut P Q xs → Cut P' Q xs → Cut (λ x. P x × P' x) Q xs
cut_both P P' Q [] a b = tt
cut_both P P' Q (x ∷ xs) (inr all) b = inr all
cut_both P P' Q (x ∷ xs) (inl a) (inr all) = inr all
cut_both P P' Q (x ∷ xs) (inl a) (inl b) = inl ((a.0, b.0), cut_both P P' Q xs a.1 b.1)

pub cut_more : {X : Type 0} (P P' Q : X → Type 0) (xs : List X) → ((x : X) → P x → P' x) → Cut P Q xs → Cut P' Q xs
cut_more P P' Q [] f a = tt
cut_more P P' Q (x ∷ xs) f (inl a) = inl (f x a.0, cut_more P P' Q xs f a.1)
cut_more P P' Q (x ∷ xs) f (inr all) = inr all

pub cut_all : {X : Type 0} (P Q : X → Type 0) (xs : List X) → Each P xs → Cut P Q xs
cut_all P Q [] a = tt
cut_all P Q (x ∷ xs) a = inl (a.0, cut_all P Q xs a.1)

filter_alike : {X : Type 0} (f g : X → Bool) (xs : List X) → Each (λ x. f x ≡ g x) xs → filter f xs ≡ filter g xs
filter_alike f g [] a = refl
filter_alike f g (x ∷ xs) a = ap (λ b. if b then x ∷ filter f xs else filter f xs) a.0 ∙ ap (λ z. if g x then x ∷ z else z) (filter_alike f g xs a.1)

pub filter_each_alike : {X : Type 0} (f g : X → Bool) (xs : List X) → Each (λ x. f x ≡ g x) xs → filter f xs ≡ filter g xs
filter_each_alike f g xs a = filter_alike f g xs a

-- where none of the one stands behind and none of the other in front
pub filter_cut : {X : Type 0} (f g : X → Bool) (xs : List X) → Cut (λ x. g x ≡ false) (λ x. f x ≡ false) xs → filter (λ x. f x || g x) xs ≡ filter f xs ++ filter g xs
filter_cut f g [] c = refl
filter_cut {X = X} f g (x ∷ xs) (inr all) =
    filter_alike (λ x. f x || g x) g (x ∷ xs) (same (x ∷ xs) all) ∙ sym (ap (λ z. z ++ filter g (x ∷ xs)) (filter_none f (x ∷ xs) all))
  where
    same : (ys : List X) → Each (λ y. f y ≡ false) ys → Each (λ y. (f y || g y) ≡ g y) ys
    same [] a = tt
    same (y ∷ ys) a = ((rw a.0 refl), same ys a.1)
filter_cut {X = X} f g (x ∷ xs) (inl c) = either (f x) (filter_cut f g xs c.1)
  where
    either : (b : Bool) → filter (λ x. f x || g x) xs ≡ filter f xs ++ filter g xs → (if b || g x then x ∷ filter (λ x. f x || g x) xs else filter (λ x. f x || g x) xs) ≡ (if b then x ∷ filter f xs else filter f xs) ++ filter g (x ∷ xs)
    either true rest = (ap (λ z. x ∷ z) rest) ∙ (rw c.0 refl)
    either false rest = (rw c.0 rest)

-- ---- members in line

-- whether a member from index k on holds the unit
abbrev pub some_holds : ℕ → ℕ → List Span → Full → Bool
some_holds carrier k [] f = false
some_holds carrier k (x ∷ xs) f = held_by carrier k x f || some_holds carrier (k + 1) xs f

-- what each holds, one after another
abbrev pub all_held : ℕ → ℕ → List Span → List Full → List Full
all_held carrier k [] fs = []
all_held carrier k (x ∷ xs) fs = filter (held_by carrier k x) fs ++ all_held carrier (k + 1) xs fs

module _ (carrier : ℕ) (members : List Member) (source : ℕ) (apart : AreApart members source) (own : List Piece) (each : Each (IsFor carrier members source) own) (text : List ℕ) (inside : (k : ℕ) (x : Span) (mode : SpanMode) → slice_get members k ≡ Some (Member.Tracked source x mode) → end_of x ≤ length text) (line : (h i : ℕ) (w x : Span) (mode mode' : SpanMode) → h < i → slice_get members h ≡ Some (Member.Tracked source w mode) → slice_get members i ≡ Some (Member.Tracked source x mode') → Stands h w i x × (end_of w ≤ x.start)) where
  -- the spans of the members from index k on
  abbrev pub AreFrom : ℕ → List Span → Type 0
  AreFrom k [] = Unit {0}
  AreFrom k (x ∷ xs) = ((mode : SpanMode) × (slice_get members k ≡ Some (Member.Tracked source x mode))) × AreFrom (k + 1) xs

  abbrev full : List Full
  full = full_text own text

  pair_cut : (h i : ℕ) (w x : Span) (mode mode' : SpanMode) → h < i → slice_get members h ≡ Some (Member.Tracked source w mode) → slice_get members i ≡ Some (Member.Tracked source x mode') → Cut (λ f. held_by carrier i x f ≡ false) (λ f. held_by carrier h w f ≡ false) full
  pair_cut h i w x mode mode' less at bt =
      let xs : List ℕ = take x.start text in
      let ys : List ℕ = slice_range text x.start (end_of x) in
      let zs : List ℕ = drop (x.start + x.len) text in
      let within : end_of x ≤ length text = inside i x mode' bt in
      let size : x.start + x.len - x.start ≡ x.len = omega arith in
      let whole : xs ++ (ys ++ zs) ≡ text = ap (λ n. xs ++ (take n (drop x.start text) ++ zs)) size ∙ ap (λ z. xs ++ (take x.len (drop x.start text) ++ z)) (sym (drop-drop x.len x.start text)) ∙ ap (λ z. xs ++ z) (take-append-drop x.len (drop x.start text)) ∙ take-append-drop x.start text in
      let ex : length xs ≡ x.start = omega (arith, length-take x.start text, within) in
      let ey : length ys ≡ x.len = omega (arith, length-take (x.start + x.len - x.start) (drop x.start text), length-drop x.start text, within) in
      let l : Stands h w i x × (end_of w ≤ x.start) = line h i w x mode mode' less at bt in
      subst (λ t. Cut (λ f. held_by carrier i x f ≡ false) (λ f. held_by carrier h w f ≡ false) (full_text own t)) whole
      (order_cut carrier members source i x mode' bt apart h w mode at l.0 l.1 (λ e. omega arith) own each xs ys zs ex ey)

  later_cut : (h : ℕ) (w : Span) (mode : SpanMode) → slice_get members h ≡ Some (Member.Tracked source w mode) → (k : ℕ) (xs : List Span) → h < k → AreFrom k xs → Cut (λ f. some_holds carrier k xs f ≡ false) (λ f. held_by carrier h w f ≡ false) full
  later_cut h w mode at k [] less are = cut_all (λ f. false ≡ false) (λ f. held_by carrier h w f ≡ false) full (all full)
    where
      all : (fs : List Full) → Each (λ f. false ≡ false) fs
      all [] = tt
      all (f ∷ fs) = (refl, all fs)
  later_cut h w mode at k (x ∷ xs) less are =
      cut_more (λ f. (held_by carrier k x f ≡ false) × (some_holds carrier (k + 1) xs f ≡ false)) (λ f. some_holds carrier k (x ∷ xs) f ≡ false) (λ f. held_by carrier h w f ≡ false) full (λ f e. (rw e.0 e.1))
      (cut_both (λ f. held_by carrier k x f ≡ false) (λ f. some_holds carrier (k + 1) xs f ≡ false) (λ f. held_by carrier h w f ≡ false) full (pair_cut h k w x mode are.0.0 less at are.0.1) (later_cut h w mode at (k + 1) xs (omega arith) are.1))

  -- what any holds
  pub held_in_line : (k : ℕ) (xs : List Span) → AreFrom k xs → filter (some_holds carrier k xs) full ≡ all_held carrier k xs full
  held_in_line k [] are = filter_none (λ f. false) full (all full)
    where
      all : (fs : List Full) → Each (λ f. false ≡ false) fs
      all [] = tt
      all (f ∷ fs) = (refl, all fs)
  held_in_line k (x ∷ xs) are =
      filter_cut (held_by carrier k x) (some_holds carrier (k + 1) xs) full (later_cut k x are.0.0 are.0.1 (k + 1) xs (omega arith) are.1)
      ∙ ap (λ z. filter (held_by carrier k x) full ++ z) (held_in_line (k + 1) xs are.1)
