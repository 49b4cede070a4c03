-- What some of the pieces put in, taken out of what all of them put in.
use Rattle.std.proofs.Common.{◌≡◌, ℕ, ◌+◌, Bool, true, false, ◌&&◌, ◌||◌, List, [], ◌∷◌, ◌++◌, map, filter, if◌then◌else◌, Option, Some, None, inl, refl, sym, ap, ◌∙◌, arith, subst}
use Rattle.std.specs.Prelude.{nat_eq, nat_lt, nat_le, flat_map}
use Rattle.std.proofs.lemmas.Bool.Decides.{nat_tests}
use Rattle.std.proofs.lemmas.List.Elements.{filter-append}
use Rattle.ed_base.specs.declared.piece.Piece.{Piece}
use Rattle.ed_base.specs.Edit.{woven}
use Rattle.ed_base.specs.Sorting.{placed_in, sorted_by}
use Rattle.ed_layers.specs.Pieces.{side_rank, last_pair, pair_before, piece_before, put_at, gone_at, marked_units}
use Rattle.ed_sending.proofs.Lists.SortedParts.{Each}
use Rattle.ed_sending.proofs.Texts.FullText.{Full, old_units, put_in, full_text}
use Rattle.ed_sending.proofs.Texts.PiecesAtGap.{filter_twice}
use Rattle.ed_sending.proofs.Lists.Subsequences.{Sub, sub_append, sub_skip, sub_filter, filter_again}

-- ---- sorting and leaving out

-- each stands before none in front of it
abbrev pub Rises : {X : Type 0} → (X → X → Bool) → List X → Type 0
Rises before [] = Unit {0}
Rises before (x ∷ xs) = Each (λ z. before z x ≡ false) xs × Rises before xs

-- an order in which what isn't ordered is alike
pub record IsWeak {X : Type 0} (before : X → X → Bool) : Type 0 where
  pub once : (x y : X) → before x y ≡ true → before y x ≡ false
  pub chain : (x y z : X) → before z y ≡ false → before y x ≡ false → before z x ≡ false

chain_each : {X : Type 0} (before : X → X → Bool) (weak : IsWeak before) (x y : X) (zs : List X) → before y x ≡ false → Each (λ z. before z y ≡ false) zs → Each (λ z. before z x ≡ false) zs
chain_each before weak x y [] e a = tt
chain_each before weak x y (z ∷ zs) e a = (weak.chain x y z a.0 e, chain_each before weak x y zs e a.1)

placed_none : {X : Type 0} (before : X → X → Bool) (P : X → Type 0) (x : X) (xs : List X) → P x → Each P xs → Each P (placed_in before x xs)
placed_none before P x [] px a = (px, tt)
placed_none before P x (y ∷ ys) px a = either (before y x) (placed_none before P x ys px a.1)
  where
    either : (b : Bool) → Each P (placed_in before x ys) → Each P (if b then y ∷ placed_in before x ys else x ∷ y ∷ ys)
    either true rest = (a.0, rest)
    either false rest = (px, a)

placed_rises : {X : Type 0} (before : X → X → Bool) (weak : IsWeak before) (x : X) (xs : List X) → Rises before xs → Rises before (placed_in before x xs)
placed_rises before weak x [] r = (tt, tt)
placed_rises before weak x (y ∷ ys) r = either (before y x) refl (placed_rises before weak x ys r.1)
  where
    either : (b : Bool) → before y x ≡ b → Rises before (placed_in before x ys) → Rises before (if b then y ∷ placed_in before x ys else x ∷ y ∷ ys)
    either true e rest = (placed_none before (λ z. before z y ≡ false) x ys (weak.once y x e) r.0, rest)
    either false e rest = ((e, chain_each before weak x y ys e r.0), r)

sorted_rises : {X : Type 0} (before : X → X → Bool) (weak : IsWeak before) (xs : List X) → Rises before (sorted_by before xs)
sorted_rises before weak [] = tt
sorted_rises before weak (x ∷ xs) = placed_rises before weak x (sorted_by before xs) (sorted_rises before weak xs)

placed_first : {X : Type 0} (before : X → X → Bool) (x : X) (xs : List X) → Each (λ z. before z x ≡ false) xs → placed_in before x xs ≡ x ∷ xs
placed_first before x [] a = refl
placed_first before x (y ∷ ys) a = rw a.0 refl

pub filter_keeps : {X : Type 0} (P : X → Type 0) (f : X → Bool) (xs : List X) → Each P xs → Each P (filter f xs)
filter_keeps P f [] a = tt
filter_keeps P f (x ∷ xs) a = either (f x) (filter_keeps P f xs a.1)
  where
    either : (b : Bool) → Each P (filter f xs) → Each P (if b then x ∷ filter f xs else filter f xs)
    either true rest = (a.0, rest)
    either false rest = rest

filter_placed_out : {X : Type 0} (before : X → X → Bool) (f : X → Bool) (x : X) (xs : List X) → f x ≡ false → filter f (placed_in before x xs) ≡ filter f xs
filter_placed_out before f x [] e = rw e refl
filter_placed_out before f x (y ∷ ys) e = either (before y x) (filter_placed_out before f x ys e)
  where
    either : (b : Bool) → filter f (placed_in before x ys) ≡ filter f ys → filter f (if b then y ∷ placed_in before x ys else x ∷ y ∷ ys) ≡ filter f (y ∷ ys)
    either true rest = ap (λ z. if f y then y ∷ z else z) rest
    either false rest = rw e refl

filter_placed : {X : Type 0} (before : X → X → Bool) (weak : IsWeak before) (f : X → Bool) (x : X) (xs : List X) → f x ≡ true → Rises before xs → filter f (placed_in before x xs) ≡ placed_in before x (filter f xs)
filter_placed before weak f x [] e r = rw e refl
filter_placed before weak f x (y ∷ ys) e r = either (before y x) refl (f y) (filter_placed before weak f x ys e r.1)
  where
    either : (b : Bool) → before y x ≡ b → (c : Bool) → filter f (placed_in before x ys) ≡ placed_in before x (filter f ys) → filter f (if b then y ∷ placed_in before x ys else x ∷ y ∷ ys) ≡ placed_in before x (filter f (y ∷ ys))
    either true t c rest = again (f y)
      where
        again : (c : Bool) → (if c then y ∷ filter f (placed_in before x ys) else filter f (placed_in before x ys)) ≡ placed_in before x (if c then y ∷ filter f ys else filter f ys)
        again true = ap (λ z. y ∷ z) rest ∙ (rw t refl)
        again false = rest
    either false t c rest = (rw e refl) ∙ sym (placed_first before x (filter f (y ∷ ys)) (filter_keeps (λ z. before z x ≡ false) f (y ∷ ys) (t, chain_each before weak x y ys t r.0)))

pub filter_sorted : {X : Type 0} (before : X → X → Bool) (weak : IsWeak before) (f : X → Bool) (xs : List X) → filter f (sorted_by before xs) ≡ sorted_by before (filter f xs)
filter_sorted before weak f [] = refl
filter_sorted before weak f (x ∷ xs) = either (f x) refl (filter_sorted before weak f xs)
  where
    either : (b : Bool) → f x ≡ b → filter f (sorted_by before xs) ≡ sorted_by before (filter f xs) → filter f (placed_in before x (sorted_by before xs)) ≡ sorted_by before (if b then x ∷ filter f xs else filter f xs)
    either true e rest = filter_placed before weak f x (sorted_by before xs) e (sorted_rises before weak xs) ∙ ap (placed_in before x) rest
    either false e rest = filter_placed_out before f x (sorted_by before xs) e ∙ rest

-- ---- the order of pieces

pairs_once : (a b : Option (ℕ × ℕ)) → pair_before a b ≡ true → pair_before b a ≡ false
pairs_once None None e = refl
pairs_once None (Some b) e = refl
pairs_once (Some a) None e = absurd (let z : false ≡ true = e in cc)
pairs_once (Some a) (Some b) e = grind (arith, nat_tests)

pairs_chain : (a b c : Option (ℕ × ℕ)) → pair_before c b ≡ false → pair_before b a ≡ false → pair_before c a ≡ false
pairs_chain None None None e f = refl
pairs_chain None None (Some c) e f = refl
pairs_chain None (Some b) None e f = refl
pairs_chain None (Some b) (Some c) e f = refl
pairs_chain (Some a) None c e f = absurd (let z : true ≡ false = f in cc)
pairs_chain (Some a) (Some b) None e f = absurd (let z : true ≡ false = e in cc)
pairs_chain (Some a) (Some b) (Some c) e f = grind (arith, nat_tests)

pub pieces_weak : IsWeak piece_before
pieces_weak = record {
  once = λ p q e. once (side_rank p.side) (side_rank q.side) (pair_before (last_pair p.trail) (last_pair q.trail)) (pair_before (last_pair q.trail) (last_pair p.trail)) (pairs_once (last_pair p.trail) (last_pair q.trail)) e;
  chain = λ x y z e f. chain (side_rank x.side) (side_rank y.side) (side_rank z.side) (pair_before (last_pair z.trail) (last_pair y.trail)) (pair_before (last_pair y.trail) (last_pair x.trail)) (pair_before (last_pair z.trail) (last_pair x.trail)) (pairs_chain (last_pair x.trail) (last_pair y.trail) (last_pair z.trail)) e f;
}
  where
    once : (s t : ℕ) (b c : Bool) → (b ≡ true → c ≡ false) → (nat_lt s t || nat_eq s t && b) ≡ true → (nat_lt t s || nat_eq t s && c) ≡ false
    once s t true true h e = absurd (let z : true ≡ false = h refl in cc)
    once s t true false h e = grind (arith, nat_tests)
    once s t false c h e = grind (arith, nat_tests)

    chain : (x y z : ℕ) (b c d : Bool) → (b ≡ false → c ≡ false → d ≡ false) → (nat_lt z y || nat_eq z y && b) ≡ false → (nat_lt y x || nat_eq y x && c) ≡ false → (nat_lt z x || nat_eq z x && d) ≡ false
    chain x y z b c false h e f = grind (arith, nat_tests)
    chain x y z false false true h e f = absurd (let z : true ≡ false = h refl refl in cc)
    chain x y z true c true h e f = grind (arith, nat_tests)
    chain x y z b true true h e f = grind (arith, nat_tests)

-- ---- pieces that pass

abbrev pub passing : (List (ℕ × ℕ) → Bool) → List Piece → List Piece
passing t pieces = filter (λ p. t p.trail) pieces

units_pass : (t : List (ℕ × ℕ) → Bool) (way : List (ℕ × ℕ)) (b : Bool) → t way ≡ b → (us : List ℕ) → filter (λ (m : ℕ × List (ℕ × ℕ)). t m.1) (map (λ u. (u, way)) us) ≡ (if b then map (λ u. (u, way)) us else [])
units_pass t way true e [] = refl
units_pass t way false e [] = refl
units_pass t way true e (u ∷ us) = rw e (ap (λ z. (u, way) ∷ z) (units_pass t way true e us))
units_pass t way false e (u ∷ us) = rw e (units_pass t way false e us)

marked_pass : (t : List (ℕ × ℕ) → Bool) (ps : List Piece) → filter (λ (m : ℕ × List (ℕ × ℕ)). t m.1) (flat_map marked_units ps) ≡ flat_map marked_units (passing t ps)
marked_pass t [] = refl
marked_pass t (p ∷ ps) = filter-append (λ (m : ℕ × List (ℕ × ℕ)). t m.1) (marked_units p) (flat_map marked_units ps) ∙ either (t p.trail) refl (marked_pass t ps)
  where
    either : (b : Bool) → t p.trail ≡ b → filter (λ (m : ℕ × List (ℕ × ℕ)). t m.1) (flat_map marked_units ps) ≡ flat_map marked_units (passing t ps) → filter (λ (m : ℕ × List (ℕ × ℕ)). t m.1) (marked_units p) ++ filter (λ (m : ℕ × List (ℕ × ℕ)). t m.1) (flat_map marked_units ps) ≡ flat_map marked_units (if b then p ∷ passing t ps else passing t ps)
    either true e rest = ap (λ z. z ++ filter (λ (m : ℕ × List (ℕ × ℕ)). t m.1) (flat_map marked_units ps)) (units_pass t p.trail true e p.text) ∙ ap (λ z. marked_units p ++ z) rest
    either false e rest = ap (λ z. z ++ filter (λ (m : ℕ × List (ℕ × ℕ)). t m.1) (flat_map marked_units ps)) (units_pass t p.trail false e p.text) ∙ rest

pub put_passing : (t : List (ℕ × ℕ) → Bool) (pieces : List Piece) (g : ℕ) → filter (λ (m : ℕ × List (ℕ × ℕ)). t m.1) (put_at pieces g) ≡ put_at (passing t pieces) g
put_passing t pieces g =
    marked_pass t (sorted_by piece_before (filter (λ p. nat_eq p.start g) pieces))
    ∙ ap (λ z. flat_map marked_units z) (filter_sorted piece_before pieces_weak (λ p. t p.trail) (filter (λ p. nat_eq p.start g) pieces))
    ∙ ap (λ z. flat_map marked_units (sorted_by piece_before z)) (filter_twice (λ p. t p.trail) (λ p. nat_eq p.start g) pieces)

gone_fewer : (f : Piece → Bool) (pieces : List Piece) (q : ℕ) → gone_at (filter f pieces) q ≡ true → gone_at pieces q ≡ true
gone_fewer f [] q e = e
gone_fewer f (p ∷ ps) q e = either (f p) (λ z. gone_fewer f ps q z) e
  where
    one : (c : Bool) → (gone_at (filter f ps) q ≡ true → gone_at ps q ≡ true) → (c || gone_at (filter f ps) q) ≡ true → (c || gone_at ps q) ≡ true
    one true rest e = refl
    one false rest e = rest e

    none : (c : Bool) → gone_at ps q ≡ true → (c || gone_at ps q) ≡ true
    none true e = refl
    none false e = e

    either : (b : Bool) → (gone_at (filter f ps) q ≡ true → gone_at ps q ≡ true) → gone_at (if b then p ∷ filter f ps else filter f ps) q ≡ true → gone_at (p ∷ ps) q ≡ true
    either true rest e = one (nat_le p.start q && nat_lt q (p.start + p.len)) rest e
    either false rest e = none (nat_le p.start q && nat_lt q (p.start + p.len)) (rest e)

-- what passes of all that is put in and kept
put_sub : (h : Full → Bool) (t : List (ℕ × ℕ) → Bool) → ((m : ℕ × List (ℕ × ℕ)) → h (put_in m) ≡ true → t m.1 ≡ true) → (ms : List (ℕ × List (ℕ × ℕ))) → Sub (filter h (map put_in ms)) (map put_in (filter (λ m. t m.1) ms))
put_sub h t less [] = tt
put_sub h t less (m ∷ ms) = either (h (put_in m)) (t m.1) refl refl (put_sub h t less ms)
  where
    either : (a b : Bool) → h (put_in m) ≡ a → t m.1 ≡ b → Sub (filter h (map put_in ms)) (map put_in (filter (λ m. t m.1) ms)) → Sub (if a then put_in m ∷ filter h (map put_in ms) else filter h (map put_in ms)) (map put_in (if b then m ∷ filter (λ m. t m.1) ms else filter (λ m. t m.1) ms))
    either true true p q rest = inl (refl, rest)
    either true false p q rest = absurd (let e : true ≡ false = sym (less m p) ∙ q in cc)
    either false true p q rest = sub_skip (filter h (map put_in ms)) (put_in m) (map put_in (filter (λ m. t m.1) ms)) rest
    either false false p q rest = rest

woven_sub : (h : Full → Bool) (put put' : ℕ → List Full) (gone gone' : ℕ → Bool) (p : ℕ) (us : List Full) → ((q : ℕ) → Sub (filter h (put q)) (put' q)) → ((q : ℕ) → gone' q ≡ true → gone q ≡ true) → Sub (filter h (woven put gone p us)) (woven put' gone' p us)
woven_sub h put put' gone gone' p [] puts goes = puts p
woven_sub h put put' gone gone' p (u ∷ us) puts goes =
    subst (λ z. Sub z (woven put' gone' p (u ∷ us))) (sym (filter-append h (put p) (if gone p then woven put gone (p + 1) us else u ∷ woven put gone (p + 1) us)))
    (sub_append (filter h (put p)) (put' p) (filter h (if gone p then woven put gone (p + 1) us else u ∷ woven put gone (p + 1) us)) (if gone' p then woven put' gone' (p + 1) us else u ∷ woven put' gone' (p + 1) us) (puts p)
    (either (gone p) (gone' p) (h u) refl refl refl (woven_sub h put put' gone gone' (p + 1) us puts goes)))
  where
    either : (a b c : Bool) → gone p ≡ a → gone' p ≡ b → h u ≡ c → Sub (filter h (woven put gone (p + 1) us)) (woven put' gone' (p + 1) us) → Sub (filter h (if a then woven put gone (p + 1) us else u ∷ woven put gone (p + 1) us)) (if b then woven put' gone' (p + 1) us else u ∷ woven put' gone' (p + 1) us)
    either true true c ea eb ec rest = rest
    either true false c ea eb ec rest = sub_skip (filter h (woven put gone (p + 1) us)) u (woven put' gone' (p + 1) us) rest
    either false true c ea eb ec rest = absurd (let e : false ≡ true = sym ea ∙ goes p eb in cc)
    either false false true ea eb ec rest = rw ec (inl (refl, rest))
    either false false false ea eb ec rest = rw ec (sub_skip (filter h (woven put gone (p + 1) us)) u (woven put' gone' (p + 1) us) rest)

-- What passes of the new text is, in this order, among what passes where only the pieces are done whose way passes.
pub full_passing : (h : Full → Bool) (t : List (ℕ × ℕ) → Bool) → ((m : ℕ × List (ℕ × ℕ)) → h (put_in m) ≡ true → t m.1 ≡ true) → (pieces : List Piece) (text : List ℕ) → Sub (filter h (full_text pieces text)) (filter h (full_text (passing t pieces) text))
full_passing h t less pieces text =
    subst (λ z. Sub z (filter h (full_text (passing t pieces) text))) (filter_again h (full_text pieces text))
    (sub_filter h (filter h (full_text pieces text)) (full_text (passing t pieces) text)
    (woven_sub h (λ g. map put_in (put_at pieces g)) (λ g. map put_in (put_at (passing t pieces) g)) (gone_at pieces) (gone_at (passing t pieces)) 0 (old_units 0 text)
    (λ q. subst (λ z. Sub (filter h (map put_in (put_at pieces q))) (map put_in z)) (put_passing t pieces q) (put_sub h t less (put_at pieces q)))
    (λ q. gone_fewer (λ p. t p.trail) pieces q)))
