-- The parts of pieces that are sorted by their starts, piece by piece.
use Rattle.std.proofs.Common.{◌≡◌, ℕ, zero, suc, ◌+◌, ◌-◌, ◌<◌, ◌≤◌, max, Bool, true, false, ◌||◌, nat_eq, nat_lt, nat_le, List, [], ◌∷◌, ◌++◌, length, map, take, drop, refl, ap, ◌∙◌, arith, length-append, append_assoc, inl, inr}
use Rattle.std.proofs.lemmas.List.{append-nil, map-append, drop-drop, drop_all, length-drop, length-take}
use Rattle.std.proofs.lemmas.Bool.{cases_Bool, cases_lt}
use Rattle.std.proofs.lemmas.Bool.Decides.{nat_tests}
use Rattle.ed_base.specs.declared.piece.Piece.{Piece}
use Rattle.ed_layers.specs.Pieces.{marked_units, gone_at}
use Rattle.ed_pieces.specs.Order.{text_at}
use Rattle.ed_pieces.specs.Arrivals.{component_if, sweep}
use Rattle.ed_pieces.proofs.Parts.{Units, part, forth, parts}

-- the starts rise from p on, and no piece passes n
abbrev pub RisesFrom : ℕ → ℕ → List Piece → Type 0
RisesFrom p n [] = Unit {0}
RisesFrom p n (r ∷ rs) = (p ≤ r.start) × (r.start + r.len ≤ n) × RisesFrom r.start n rs

pub text_none : (p n q : ℕ) (rs : List Piece) → RisesFrom p n rs → q < p → text_at rs q ≡ []
text_none p n q [] h l = refl
text_none p n q (r ∷ rs) h l =
    let f : nat_eq r.start q ≡ false = grind (arith, nat_tests, h.0) in
    rw f (text_none r.start n q rs h.2 (omega (arith, h.0)))

pub gone_none : (p n q : ℕ) (rs : List Piece) → RisesFrom p n rs → q < p → gone_at rs q ≡ false
gone_none p n q [] h l = refl
gone_none p n q (r ∷ rs) h l =
    let f : nat_le r.start q ≡ false = grind (arith, nat_tests, h.0) in
    rw f (gone_none r.start n q rs h.2 (omega (arith, h.0)))

-- only what is put in and deleted from here on matters, and what is put in here may be counted as put in already
pub parts_same : {X : Type 0} (put put' : ℕ → Units) (gone gone' : ℕ → Bool) (p i j : ℕ) (old : List X) (new new' : Units) (xs : List X) → ((q : ℕ) → p < q → put q ≡ put' q) → ((q : ℕ) → p ≤ q → gone q ≡ gone' q) → new ++ put p ≡ new' ++ put' p → parts put gone p i j old new xs ≡ parts put' gone' p i j old new' xs
parts_same put put' gone gone' p i j old new new' [] hp hg e = ap (λ ns. part i j old ns) e
parts_same put put' gone gone' p i j old new new' (x ∷ xs) hp hg e =
    let hp' : (q : ℕ) → p + 1 < q → put q ≡ put' q = λ q l. hp q (omega arith) in
    let hg' : (q : ℕ) → p + 1 ≤ q → gone q ≡ gone' q = λ q l. hg q (omega arith) in
    let n : put (p + 1) ≡ put' (p + 1) = hp (p + 1) (omega arith) in
    elim (cases_Bool (gone' p)) [
      | inl t ↦ rw (hg p (omega arith), t) (parts_same put put' gone gone' (p + 1) i j (old ++ x ∷ []) (new ++ put p) (new' ++ put' p) xs hp' hg' (rw (e, n) refl))
      | inr f ↦ rw (hg p (omega arith), f, e) (ap (λ ps. part i j old (new' ++ put' p) ++ ps) (parts_same put put' gone gone' (p + 1) (p + 1) (j + length (new' ++ put' p) + 1) [] [] [] xs hp' hg' n))
    ]

module _ {X : Type 0} (put : ℕ → Units) (gone : ℕ → Bool) where
  -- a run of units that are deleted, with nothing put in
  pub parts_gone : (d p i j : ℕ) (old : List X) (new : Units) (xs : List X) → d ≤ length xs → ((q : ℕ) → p ≤ q → q < p + d → put q ≡ []) → ((q : ℕ) → p ≤ q → q < p + d → gone q ≡ true) → parts put gone p i j old new xs ≡ parts put gone (p + d) i j (old ++ take d xs) new (drop d xs)
  parts_gone zero p i j old new xs l hp hg = rw append-nil (grind arith)
  parts_gone (suc d) p i j old new [] l hp hg = absurd (omega arith)
  parts_gone (suc d) p i j old new (x ∷ xs) l hp hg =
      let ih = parts_gone d (p + 1) i j (old ++ x ∷ []) new xs (omega arith) (λ q a b. hp q (omega arith) (omega arith)) (λ q a b. hg q (omega arith) (omega arith)) in
      let w : p + 1 + d ≡ p + suc d = omega arith in
      rw (hg p (omega arith) (omega arith), hp p (omega arith) (omega arith), append-nil, ih, w, append_assoc) refl

  -- a run of units that are kept
  pub parts_kept : (d p j : ℕ) (xs : List X) → d ≤ length xs → ((q : ℕ) → p ≤ q → q < p + d → put q ≡ []) → ((q : ℕ) → p ≤ q → q < p + d → gone q ≡ false) → parts put gone p p j [] [] xs ≡ parts put gone (p + d) (p + d) (j + d) [] [] (drop d xs)
  parts_kept zero p j xs l hp hg = grind arith
  parts_kept (suc d) p j [] l hp hg = absurd (omega arith)
  parts_kept (suc d) p j (x ∷ xs) l hp hg =
      let ih = parts_kept d (p + 1) (j + 0 + 1) xs (omega arith) (λ q a b. hp q (omega arith) (omega arith)) (λ q a b. hg q (omega arith) (omega arith)) in
      let w : p + 1 + d ≡ p + suc d = omega arith in
      let v : j + 0 + 1 + d ≡ j + suc d = omega arith in
      rw (hg p (omega arith) (omega arith), hp p (omega arith) (omega arith), ih, w, v) refl

  -- where nothing happens any more
  pub parts_none : (p j : ℕ) (xs : List X) → ((q : ℕ) → p ≤ q → put q ≡ []) → ((q : ℕ) → p ≤ q → gone q ≡ false) → parts put gone p p j [] [] xs ≡ []
  parts_none p j [] hp hg = rw (hp p (omega arith)) refl
  parts_none p j (x ∷ xs) hp hg = rw (hg p (omega arith), hp p (omega arith)) (parts_none (p + 1) (j + 0 + 1) xs (λ q a. hp q (omega arith)) (λ q a. hg q (omega arith)))

component_if_part : {X : Type 0} (i j e : ℕ) (old : List X) (new : Units) → i + length old ≡ e → map forth (part i j old new) ≡ component_if i e new
component_if_part i j e [] [] h = grind (arith, nat_tests)
component_if_part i j e [] (u ∷ us) h = let w : e - i ≡ 0 = omega arith in rw w refl
component_if_part i j e (o ∷ os) [] h =
    let w : e - i ≡ length (o ∷ os) = omega arith in
    let f : nat_eq i e ≡ false = grind (arith, nat_tests) in
    rw (f, w) refl
component_if_part i j e (o ∷ os) (u ∷ us) h = let w : e - i ≡ length (o ∷ os) = omega arith in rw w refl

-- what is deleted: up to e, and what the pieces delete
abbrev pub gone_by : ℕ → List Piece → ℕ → Bool
gone_by e rs q = nat_lt q e || gone_at rs q

gone_before : (e q : ℕ) (rs : List Piece) → q < e → gone_by e rs q ≡ true
gone_before e q rs l = grind (arith, nat_tests)

gone_after : (e p n q : ℕ) (rs : List Piece) → e ≤ q → q < p → RisesFrom p n rs → gone_by e rs q ≡ false
gone_after e p n q rs l m h = rw (gone_none p n q rs h m) (grind (arith, nat_tests))

module _ {X : Type 0} (put : ℕ → Units) (gone : ℕ → Bool) where
  -- the open part ends at a unit that is kept
  close_here : (p i j : ℕ) (old : List X) (new : Units) (xs : List X) → i + length old ≡ p → 0 < length xs → put p ≡ [] → gone p ≡ false → map forth (parts put gone p i j old new xs) ≡ component_if i p new ++ map forth (parts put gone (p + 1) (p + 1) (j + length new + 1) [] [] (drop 1 xs))
  close_here p i j old new [] ei l hp hg = absurd (omega arith)
  close_here p i j old new (x ∷ xs) ei l hp hg = rw (hg, hp, append-nil, map-append, component_if_part i j p old new ei) refl

  -- the open part up to e, where a unit is kept
  close : (p i j e : ℕ) (old : List X) (new : Units) (xs : List X) → i + length old ≡ p → p ≤ e → e < p + length xs → ((q : ℕ) → p ≤ q → q ≤ e → put q ≡ []) → ((q : ℕ) → p ≤ q → q < e → gone q ≡ true) → gone e ≡ false → map forth (parts put gone p i j old new xs) ≡ component_if i e new ++ map forth (parts put gone (e + 1) (e + 1) (j + length new + 1) [] [] (drop (e - p + 1) xs))
  close p i j e old new xs ei l lx hp hg f =
      let w : p + (e - p) ≡ e = omega arith in
      let run : parts put gone p i j old new xs ≡ parts put gone e i j (old ++ take (e - p) xs) new (drop (e - p) xs) = rw w at (parts_gone put gone (e - p) p i j old new xs (omega arith) (λ q a b. hp q a (omega arith)) (λ q a b. hg q a (omega arith))) in
      let ei' : i + length (old ++ take (e - p) xs) ≡ e = grind (arith, length-append, length-take) in
      let lx' : 0 < length (drop (e - p) xs) = omega (arith, length-drop (e - p) xs) in
      rw run (close_here e i j (old ++ take (e - p) xs) new (drop (e - p) xs) ei' lx' (hp e l (omega arith)) f ∙ rw (drop-drop 1 (e - p) xs) refl)

-- the pieces from r on, where r begins
gone_first : (e q : ℕ) (r : Piece) (rs : List Piece) → r.start ≤ q → gone_by e (r ∷ rs) q ≡ gone_by (max e (r.start + r.len)) rs q
gone_first e q r rs l = grind (arith, nat_tests)

put_first : (n : ℕ) (r : Piece) (rs : List Piece) → text_at (r ∷ rs) r.start ≡ marked_units r ++ text_at rs r.start
put_first n r rs = let t : nat_eq r.start r.start ≡ true = grind (arith, nat_tests) in rw t refl

put_later : (q : ℕ) (r : Piece) (rs : List Piece) → r.start < q → text_at (r ∷ rs) q ≡ text_at rs q
put_later q r rs l = let f : nat_eq r.start q ≡ false = grind (arith, nat_tests) in rw f refl

-- a piece that begins in the open change, or at its end
joined : {X : Type 0} (r : Piece) (rs : List Piece) (p i j e n : ℕ) (old : List X) (new : Units) (xs : List X) → RisesFrom p n (r ∷ rs) → n ≡ p + length xs → r.start ≤ e → parts (text_at (r ∷ rs)) (gone_by e (r ∷ rs)) p i j old new xs ≡ parts (text_at rs) (gone_by (max e (r.start + r.len)) rs) r.start i j (old ++ take (r.start - p) xs) (new ++ marked_units r) (drop (r.start - p) xs)
joined r rs p i j e n old new xs h en l =
    let low : p ≤ r.start = h.0 in
    let high : r.start + r.len ≤ n = h.1 in
    let w : p + (r.start - p) ≡ r.start = omega arith in
    let here : RisesFrom r.start n (r ∷ rs) = (omega arith, high, h.2) in
    let run : parts (text_at (r ∷ rs)) (gone_by e (r ∷ rs)) p i j old new xs ≡ parts (text_at (r ∷ rs)) (gone_by e (r ∷ rs)) r.start i j (old ++ take (r.start - p) xs) new (drop (r.start - p) xs) =
    rw w at (parts_gone (text_at (r ∷ rs)) (gone_by e (r ∷ rs)) (r.start - p) p i j old new xs (omega arith) (λ q a b. text_none r.start n q (r ∷ rs) here (omega arith)) (λ q a b. gone_before e q (r ∷ rs) (omega arith))) in
    run ∙ parts_same (text_at (r ∷ rs)) (text_at rs) (gone_by e (r ∷ rs)) (gone_by (max e (r.start + r.len)) rs) r.start i j (old ++ take (r.start - p) xs) new (new ++ marked_units r) (drop (r.start - p) xs) (λ q a. put_later q r rs a) (λ q a. gone_first e q r rs a) (rw (put_first n r rs, append_assoc) refl)

-- a piece that begins behind a unit that is kept
apart : {X : Type 0} (r : Piece) (rs : List Piece) (p i j e n : ℕ) (old : List X) (new : Units) (xs : List X) → RisesFrom p n (r ∷ rs) → p ≤ e → i + length old ≡ p → n ≡ p + length xs → e < r.start → map forth (parts (text_at (r ∷ rs)) (gone_by e (r ∷ rs)) p i j old new xs) ≡ component_if i e new ++ map forth (parts (text_at rs) (gone_by (r.start + r.len) rs) r.start r.start (j + length new + 1 + (r.start - (e + 1))) [] (marked_units r) (drop (r.start - p) xs))
apart r rs p i j e n old new xs h le ei en l =
    let low : p ≤ r.start = h.0 in
    let high : r.start + r.len ≤ n = h.1 in
    let here : RisesFrom r.start n (r ∷ rs) = (omega arith, high, h.2) in
    let put : ℕ → Units = text_at (r ∷ rs) in
    let gone : ℕ → Bool = gone_by e (r ∷ rs) in
    let closed : map forth (parts put gone p i j old new xs) ≡ component_if i e new ++ map forth (parts put gone (e + 1) (e + 1) (j + length new + 1) [] [] (drop (e - p + 1) xs)) =
    close put gone p i j e old new xs ei le (omega arith) (λ q a b. text_none r.start n q (r ∷ rs) here (omega arith)) (λ q a b. gone_before e q (r ∷ rs) b) (gone_after e r.start n e (r ∷ rs) (omega arith) l here) in
    let d : ℕ = r.start - (e + 1) in
    let w : e + 1 + d ≡ r.start = omega arith in
    let v : e - p + 1 + d ≡ r.start - p = omega arith in
    let len : length (drop (e - p + 1) xs) ≡ length xs - (e - p + 1) = length-drop (e - p + 1) xs in
    let kept : parts put gone (e + 1) (e + 1) (j + length new + 1) [] [] (drop (e - p + 1) xs) ≡ parts put gone r.start r.start (j + length new + 1 + d) [] [] (drop (r.start - p) xs) =
    rw (w, drop-drop d (e - p + 1) xs, v) at (parts_kept put gone d (e + 1) (j + length new + 1) (drop (e - p + 1) xs) (omega arith) (λ q a b. text_none r.start n q (r ∷ rs) here (omega arith)) (λ q a b. gone_after e r.start n q (r ∷ rs) (omega arith) (omega arith) here)) in
    let begun : parts put gone r.start r.start (j + length new + 1 + d) [] [] (drop (r.start - p) xs) ≡ parts (text_at rs) (gone_by (r.start + r.len) rs) r.start r.start (j + length new + 1 + d) [] (marked_units r) (drop (r.start - p) xs) =
    parts_same put (text_at rs) gone (gone_by (r.start + r.len) rs) r.start r.start (j + length new + 1 + d) [] [] (marked_units r) (drop (r.start - p) xs) (λ q a. put_later q r rs a) (λ q a. let x : max e (r.start + r.len) ≡ r.start + r.len = omega arith in rw x at (gone_first e q r rs a)) (put_first n r rs) in
    closed ∙ ap (λ ps. component_if i e new ++ map forth ps) (kept ∙ begun)

-- no piece is left
ended : {X : Type 0} (p i j e n : ℕ) (old : List X) (new : Units) (xs : List X) → p ≤ e → e ≤ n → i + length old ≡ p → n ≡ p + length xs → map forth (parts (text_at []) (gone_by e []) p i j old new xs) ≡ component_if i e new
ended p i j e n old new xs le ln ei en = elim (cases_lt e n) [
  | inl l ↦
      let none : parts (text_at []) (gone_by e []) (e + 1) (e + 1) (j + length new + 1) [] [] (drop (e - p + 1) xs) ≡ [] = parts_none (text_at []) (gone_by e []) (e + 1) (j + length new + 1) (drop (e - p + 1) xs) (λ q a. refl) (λ q a. gone_after e (q + 1) n q [] (omega arith) (omega arith) tt) in
      close (text_at []) (gone_by e []) p i j e old new xs ei le (omega arith) (λ q a b. refl) (λ q a b. gone_before e q [] b) (gone_after e (e + 1) n e [] (omega arith) (omega arith) tt) ∙ rw (none, append-nil) refl
  | inr l ↦
      let w : p + (e - p) ≡ e = omega arith in
      let nil : drop (e - p) xs ≡ [] = drop_all (e - p) xs (omega arith) in
      let run : parts (text_at []) (gone_by e []) p i j old new xs ≡ parts (text_at []) (gone_by e []) e i j (old ++ take (e - p) xs) new (drop (e - p) xs) =
      rw w at (parts_gone (text_at []) (gone_by e []) (e - p) p i j old new xs (omega arith) (λ q a b. refl) (λ q a b. gone_before e q [] (omega arith))) in
      rw (run, nil, append-nil) (component_if_part i j e (old ++ take (e - p) xs) new (grind (arith, length-append, length-take)))
]

-- the parts of sorted pieces, seen forward, are what the sweep finds
pub sweep_parts : {X : Type 0} (rs : List Piece) (p i j e n : ℕ) (old : List X) (new : Units) (xs : List X) → RisesFrom p n rs → p ≤ e → e ≤ n → i + length old ≡ p → n ≡ p + length xs → map forth (parts (text_at rs) (gone_by e rs) p i j old new xs) ≡ sweep i e new rs
sweep_parts [] p i j e n old new xs h le ln ei en = ended p i j e n old new xs le ln ei en
sweep_parts (r ∷ rs) p i j e n old new xs h le ln ei en =
    let low : p ≤ r.start = h.0 in
    let high : r.start + r.len ≤ n = h.1 in
    let len : length (drop (r.start - p) xs) ≡ length xs - (r.start - p) = length-drop (r.start - p) xs in
    elim (cases_lt e r.start) [
      | inl l ↦
          let f : nat_le r.start e ≡ false = grind (arith, nat_tests) in
          rw f (apart r rs p i j e n old new xs h le ei en l ∙ ap (λ cs. component_if i e new ++ cs) (sweep_parts rs r.start r.start (j + length new + 1 + (r.start - (e + 1))) (r.start + r.len) n [] (marked_units r) (drop (r.start - p) xs) h.2 (omega arith) high (omega arith) (omega arith)))
      | inr l ↦
          let t : nat_le r.start e ≡ true = grind (arith, nat_tests) in
          rw (t, joined r rs p i j e n old new xs h en l) (sweep_parts rs r.start i j (max e (r.start + r.len)) n (old ++ take (r.start - p) xs) (new ++ marked_units r) (drop (r.start - p) xs) h.2 (omega arith) (omega arith) (grind (arith, length-append, length-take)) (omega arith))
    ]

-- the same for the whole text
pub sweep_all : {X : Type 0} (rs : List Piece) (xs : List X) → RisesFrom 0 (length xs) rs → map forth (parts (text_at rs) (gone_at rs) 0 0 0 [] [] xs) ≡ sweep 0 0 [] rs
sweep_all rs xs h =
    let same : parts (text_at rs) (gone_at rs) 0 0 0 [] [] xs ≡ parts (text_at rs) (gone_by 0 rs) 0 0 0 [] [] xs = parts_same (text_at rs) (text_at rs) (gone_at rs) (gone_by 0 rs) 0 0 0 [] [] [] xs (λ q a. refl) (λ q a. grind (arith, nat_tests)) refl in
    rw same (sweep_parts rs 0 0 0 0 (length xs) [] [] xs h (omega arith) (omega arith) (omega arith) (omega arith))
