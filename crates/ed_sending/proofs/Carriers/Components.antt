-- The components of what arrives at a carrier make of its text what the pieces make of it.
use Rattle.std.proofs.Common.{◌≡◌, ℕ, zero, suc, ◌+◌, ◌-◌, ◌<◌, ◌≤◌, Bool, true, false, ◌&&◌, List, [], ◌∷◌, ◌++◌, length, map, Option, Some, None, refl, sym, ap, ◌∙◌, arith, if◌then◌else◌, subst, append_assoc, length-append}
use Rattle.std.specs.Prelude.{nat_eq, nat_le, nat_lt, slice_range, replicate}
use Rattle.std.specs.List.{range_with_len}
use Rattle.std.proofs.lemmas.Bool.Decides.{nat_tests}
use Rattle.std.proofs.lemmas.List.{append-nil, map-append, length-map, length-replicate}
use Rattle.std.proofs.lemmas.List.FromFn.{length-range_with_len}
use Rattle.ed_sending.proofs.Lists.Weaves.{woven_length}
use Rattle.ed_base.specs.declared.piece.Piece.{Piece}
use Rattle.ed_base.specs.Edit.{woven}
use Rattle.ed_base.specs.Step.{pairs_from}
use Rattle.ed_base.specs.ChangeList.{component, components}
use Rattle.ed_base.proofs.NormalSteps.{woven_same, woven_puts, woven_drops, pairs_append}
use Rattle.ed_layers.specs.Pieces as pieces
use Rattle.ed_layers.specs.Pieces.{Component, Marked, put_at, gone_at, unmarked, marked_text, arrived}
use Rattle.ed_sending.proofs.Lists.SortedParts.{Each}
use Rattle.ed_sending.proofs.Texts.FullText.{Full, old_units, put_in, full_text}
use Rattle.ed_sending.proofs.Members.HeldSlice.{range_middle}
use Rattle.ed_sending.proofs.Members.SourceParts.{length_old}
use Rattle.ed_sending.proofs.Carriers.CarrierText.{taken_of, put_of, AreComponents}

-- ---- lists of components

apart_lower : (p q : ℕ) (cs : List Component) → p ≤ q → AreComponents q cs → AreComponents p cs
apart_lower p q [] below a = tt
apart_lower p q (c ∷ cs) below a = (omega (arith, a.0), a.1)

put_before : (p q : ℕ) (cs : List Component) → q < p → AreComponents p cs → put_of cs q ≡ []
put_before p q [] below a = refl
put_before p q (c ∷ cs) below a =
    let e : nat_eq c.start q ≡ false = (let l : p ≤ c.start = a.0 in grind (arith, nat_tests)) in
    rw e (put_before (c.start + c.old_len + 1) q cs (omega (arith, a.0)) a.1)

taken_before : (p q : ℕ) (cs : List Component) → q < p → AreComponents p cs → taken_of cs q ≡ false
taken_before p q [] below a = refl
taken_before p q (c ∷ cs) below a =
    let e : nat_le c.start q ≡ false = (let l : p ≤ c.start = a.0 in grind (arith, nat_tests)) in
    rw e (taken_before (c.start + c.old_len + 1) q cs (omega (arith, a.0)) a.1)

abbrev by_components : List Component → ℕ → List Full → List Full
by_components cs p xs = woven (λ g. map put_in (put_of cs g)) (taken_of cs) p xs

-- the first component, at its start
component_done : (c : Component) (cs : List Component) (ws ys : List Full) → length ws ≡ c.old_len → AreComponents (c.start + c.old_len + 1) cs → by_components (c ∷ cs) c.start (ws ++ ys) ≡ map put_in c.text ++ by_components cs (c.start + c.old_len) ys
component_done c cs ws ys size a =
    let put : ℕ → List Full = λ g. map put_in (put_of (c ∷ cs) g) in
    let put' : ℕ → List Full = λ g. map put_in (put_of cs g) in
    let gone : ℕ → Bool = taken_of (c ∷ cs) in
    let end : ℕ = c.start + c.old_len in
    let here : put c.start ≡ map put_in c.text =
    (let e : nat_eq c.start c.start ≡ true = grind (arith, nat_tests) in rw e (ap (λ z. map put_in (c.text ++ z)) (put_before (end + 1) c.start cs (omega arith) a) ∙ ap (λ z. map put_in z) (append-nil c.text))) in
    let first : woven put gone c.start (ws ++ ys) ≡ put c.start ++ woven put' gone c.start (ws ++ ys) =
    woven_puts put put' gone c.start (ws ++ ys) (ap (λ z. map put_in z) (put_before (end + 1) c.start cs (omega arith) a))
    (λ q behind. (let e : nat_eq c.start q ≡ false = grind (arith, nat_tests) in rw e refl)) in
    let over : woven put' gone c.start (ws ++ ys) ≡ woven put' gone (c.start + length ws) ys =
    woven_drops put' gone c.start ws ys
    (λ q above below. ap (λ z. map put_in z) (put_before (end + 1) q cs (omega arith) a))
    (λ q above below. (let e : nat_le c.start q ≡ true = grind (arith, nat_tests) in let f : nat_lt q end ≡ true = grind (arith, nat_tests) in rw (e, f) refl)) in
    let next : woven put' gone end ys ≡ woven put' (taken_of cs) end ys =
    woven_same put' put' gone (taken_of cs) end ys (λ q above. refl) (λ q above. (let e : nat_lt q end ≡ false = grind (arith, nat_tests) in let f : nat_le c.start q ≡ true = grind (arith, nat_tests) in rw (e, f) refl)) in
    first ∙ ap (λ z. z ++ woven put' gone c.start (ws ++ ys)) here ∙ ap (λ z. map put_in c.text ++ z) (over ∙ ap (λ p. woven put' gone p ys) (ap (λ d. c.start + d) size) ∙ next)

-- a unit that no component takes, where nothing is put in
unit_kept : (cs : List Component) (p : ℕ) (x : Full) (xs : List Full) → AreComponents (p + 1) cs → by_components cs p (x ∷ xs) ≡ x ∷ by_components cs (p + 1) xs
unit_kept cs p x xs a = rw (put_before (p + 1) p cs (omega arith) a, taken_before (p + 1) p cs (omega arith) a) refl

nothing : {X : Type 0} (l : List X) → length l ≡ 0 → l ≡ []
nothing [] e = refl
nothing (x ∷ xs) e = absurd (omega arith)

-- ---- along the text

pairs_none : (q : ℕ) (ms : List (ℕ × List (ℕ × ℕ))) → pairs_from q (map (λ u. None) ms) ≡ []
pairs_none q [] = refl
pairs_none q (m ∷ ms) = pairs_none (q + 1) ms

module _ (put : ℕ → List (ℕ × List (ℕ × ℕ))) (gone : ℕ → Bool) (n : ℕ) where
  abbrev origins_from : ℕ → ℕ → List (Option ℕ)
  origins_from p k = woven (λ g. map (λ u. None) (put g)) gone p (map (λ q. Some q) (range_with_len p k))

  abbrev put_full : ℕ → List Full
  put_full g = map put_in (put g)

  abbrev listed : List (ℕ × List (ℕ × ℕ)) → ℕ → ℕ → List (ℕ × ℕ) → List Component
  listed new i j pairs = components pieces.component new i j pairs n (length new)

  record Same (i p : ℕ) (acc : List (ℕ × List (ℕ × ℕ))) (k : ℕ) (cs : List Component) : Type 0 where
    apart : AreComponents i cs
    inside : Each (λ c. c.start + c.old_len ≤ n) cs
    same : (ws xs : List Full) → length ws ≡ p - i → length xs ≡ k → by_components cs i (ws ++ xs) ≡ map put_in acc ++ woven put_full gone p xs

  -- what stands between two kept units, as one component or none
  one_gap : (i j p q : ℕ) (before text behind : List (ℕ × List (ℕ × ℕ))) (cs : List Component) → i ≤ p → p ≤ n → length before ≡ j → q ≡ j + length text → AreComponents (p + 1) cs → Each (λ c. c.start + c.old_len ≤ n) cs →
      AreComponents i (component pieces.component (before ++ (text ++ behind)) i j p q ++ cs) × Each (λ c. c.start + c.old_len ≤ n) (component pieces.component (before ++ (text ++ behind)) i j p q ++ cs) ×
      ((ws ys : List Full) → length ws ≡ p - i → by_components (component pieces.component (before ++ (text ++ behind)) i j p q ++ cs) i (ws ++ ys) ≡ map put_in text ++ by_components cs p ys)
  one_gap i j p q before text behind cs below within size at a inside = either (nat_eq i p) (nat_eq j q) refl refl
    where
      new : List (ℕ × List (ℕ × ℕ))
      new = before ++ (text ++ behind)

      c : Component
      c = record { start = i; old_len = p - i; text = slice_range new j q }

      text_is : slice_range new j q ≡ text
      text_is = ap (λ z. slice_range new z q) (sym size) ∙ ap (λ z. slice_range new (length before) z) (at ∙ ap (λ z. z + length text) (sym size)) ∙ range_middle before text behind

      end_is : i + (p - i) ≡ p
      end_is = omega arith

      apart_c : AreComponents (c.start + c.old_len + 1) cs
      apart_c = subst (λ z. AreComponents (z + 1) cs) (sym end_is) a

      some : AreComponents i (c ∷ cs) × Each (λ c. c.start + c.old_len ≤ n) (c ∷ cs) × ((ws ys : List Full) → length ws ≡ p - i → by_components (c ∷ cs) i (ws ++ ys) ≡ map put_in text ++ by_components cs p ys)
      some = ((omega arith, apart_c), (omega (arith, end_is), inside), λ ws ys e. component_done c cs ws ys e apart_c ∙ ap (λ z. map put_in z ++ by_components cs (i + (p - i)) ys) text_is ∙ ap (λ z. map put_in text ++ by_components cs z ys) end_is)

      either : (u v : Bool) → nat_eq i p ≡ u → nat_eq j q ≡ v →
          AreComponents i ((if u && v then [] else c ∷ []) ++ cs) × Each (λ c. c.start + c.old_len ≤ n) ((if u && v then [] else c ∷ []) ++ cs) × ((ws ys : List Full) → length ws ≡ p - i → by_components ((if u && v then [] else c ∷ []) ++ cs) i (ws ++ ys) ≡ map put_in text ++ by_components cs p ys)
      either true true e f =
          let no_text : text ≡ [] = nothing text (let g : j ≡ q = grind (arith, nat_tests) in omega (arith, at)) in
          let same : i ≡ p = grind (arith, nat_tests) in (
            apart_lower i (p + 1) cs (omega arith) a,
            inside,
            λ ws ys g.
                (let no_ws : ws ≡ [] = nothing ws (omega (arith, g)) in ap (λ z. by_components cs i (z ++ ys)) no_ws ∙ ap (λ z. by_components cs z ys) same ∙ ap (λ z. map put_in z ++ by_components cs p ys) (sym no_text)),
          )
      either true false e f = some
      either false v e f = some

  pairs_behind : (q : ℕ) (ms : List (ℕ × List (ℕ × ℕ))) (os : List (Option ℕ)) → pairs_from q (map (λ u. None) ms ++ os) ≡ pairs_from (q + length ms) os
  pairs_behind q ms os =
      pairs_append q (map (λ u. None) ms) os ∙ ap (λ z. z ++ pairs_from (q + length (map {B = Option ℕ} (λ u. None) ms)) os) (pairs_none q ms) ∙ ap (λ z. pairs_from (q + z) os) (length-map ms (λ u. None))

  -- from old place p on, where `acc` was put in since the kept unit before old place i
  along : (k i j p : ℕ) (before acc us : List (ℕ × List (ℕ × ℕ))) → i ≤ p → p + k ≡ n → length before ≡ j → length us ≡ k → Same i p acc k (listed (before ++ (acc ++ woven put gone p us)) i j (pairs_from (j + length acc) (origins_from p k)))
  along zero i j p before acc [] below end size len = at_end
    where
      new : List (ℕ × List (ℕ × ℕ))
      new = before ++ (acc ++ put p)

      total : length new ≡ j + length (acc ++ put p)
      total = length-append before (acc ++ put p) ∙ ap (λ z. z + length (acc ++ put p)) size

      pn : p ≡ n
      pn = omega arith

      gap : AreComponents i (component pieces.component (before ++ ((acc ++ put p) ++ [])) i j p (length new) ++ []) × Each (λ c. c.start + c.old_len ≤ n) (component pieces.component (before ++ ((acc ++ put p) ++ [])) i j p (length new) ++ []) ×
          ((ws ys : List Full) → length ws ≡ p - i → by_components (component pieces.component (before ++ ((acc ++ put p) ++ [])) i j p (length new) ++ []) i (ws ++ ys) ≡ map put_in (acc ++ put p) ++ by_components [] p ys)
      gap = one_gap i j p (length new) before (acc ++ put p) [] [] below (omega arith) size total tt tt

      lists : component pieces.component (before ++ ((acc ++ put p) ++ [])) i j p (length new) ++ [] ≡ listed new i j (pairs_from (j + length acc) (origins_from p 0))
      lists = append-nil (component pieces.component (before ++ ((acc ++ put p) ++ [])) i j p (length new)) ∙ ap (λ z. component pieces.component (before ++ z) i j p (length new)) (append-nil (acc ++ put p)) ∙ ap (λ z. component pieces.component new i j z (length new)) pn ∙ ap (λ z. listed new i j z) (sym (pairs_none (j + length acc) (put p)))

      same_end : (ws xs : List Full) → length ws ≡ p - i → length xs ≡ 0 → by_components (component pieces.component (before ++ ((acc ++ put p) ++ [])) i j p (length new) ++ []) i (ws ++ xs) ≡ map put_in acc ++ woven put_full gone p xs
      same_end ws [] e f = gap.2 ws [] e ∙ append-nil (map put_in (acc ++ put p)) ∙ map-append put_in acc (put p)
      same_end ws (x ∷ xs) e f = absurd (omega arith)

      at_end : Same i p acc 0 (listed new i j (pairs_from (j + length acc) (origins_from p 0)))
      at_end = subst (λ z. Same i p acc 0 z) lists (record { apart = gap.0; inside = gap.1; same = same_end })
  along zero i j p before acc (u ∷ us) below end size len = absurd (omega arith)
  along (suc k) i j p before acc [] below end size len = absurd (omega arith)
  along (suc k) i j p before acc (u ∷ us) below end size len =
      either (gone p) refl
      (along k i j (p + 1) before (acc ++ put p) us (omega arith) (omega arith) size (omega arith))
      (along k (p + 1) (j + length acc + length (put p) + 1) (p + 1) (before ++ ((acc ++ put p) ++ (u ∷ []))) [] us (omega arith) (omega arith) (omega (arith, size, length-append before ((acc ++ put p) ++ (u ∷ [])), length-append (acc ++ put p) (u ∷ []), length-append acc (put p))) (omega arith))
    where
      Q : ℕ
      Q = j + length acc + length (put p)

      us' : List (ℕ × List (ℕ × ℕ))
      us' = woven put gone (p + 1) us

      os : List (Option ℕ)
      os = origins_from (p + 1) k

      either : (b : Bool) → gone p ≡ b →
          Same i (p + 1) (acc ++ put p) k (listed (before ++ ((acc ++ put p) ++ us')) i j (pairs_from (j + length (acc ++ put p)) os)) →
          Same (p + 1) (p + 1) [] k (listed ((before ++ ((acc ++ put p) ++ (u ∷ []))) ++ ([] ++ us')) (p + 1) (Q + 1) (pairs_from (Q + 1 + length {A = ℕ × List (ℕ × ℕ)} []) os)) →
          Same i p acc (suc k) (listed (before ++ (acc ++ (put p ++ (if gone p then us' else u ∷ us')))) i j (pairs_from (j + length acc) (map (λ u. None) (put p) ++ (if gone p then os else Some p ∷ os))))
      either true e more later = rw e (subst (λ z. Same i p acc (suc k) z) lists (record { apart = more.apart; inside = more.inside; same = same_gone }))
        where
          lists : listed (before ++ ((acc ++ put p) ++ us')) i j (pairs_from (j + length (acc ++ put p)) os) ≡ listed (before ++ (acc ++ (put p ++ us'))) i j (pairs_from (j + length acc) (map (λ u. None) (put p) ++ os))
          lists =
              ap (λ z. listed (before ++ z) i j (pairs_from (j + length (acc ++ put p)) os)) (append_assoc acc (put p) us')
              ∙ ap (λ z. listed (before ++ (acc ++ (put p ++ us'))) i j z) (ap (λ z. pairs_from z os) (let f : j + length (acc ++ put p) ≡ j + length acc + length (put p) = omega (arith, length-append acc (put p)) in f) ∙ sym (pairs_behind (j + length acc) (put p) os))

          same_gone : (ws xs : List Full) → length ws ≡ p - i → length xs ≡ suc k → by_components (listed (before ++ ((acc ++ put p) ++ us')) i j (pairs_from (j + length (acc ++ put p)) os)) i (ws ++ xs) ≡ map put_in acc ++ woven put_full gone p xs
          same_gone ws [] f g = absurd (omega arith)
          same_gone ws (x ∷ xs) f g =
              let cs : List Component = listed (before ++ ((acc ++ put p) ++ us')) i j (pairs_from (j + length (acc ++ put p)) os) in
              ap (λ z. by_components cs i z) (sym (append_assoc ws (x ∷ []) xs))
              ∙ more.same (ws ++ (x ∷ [])) xs (omega (arith, length-append ws (x ∷ []))) (omega arith)
              ∙ ap (λ z. z ++ woven put_full gone (p + 1) xs) (map-append put_in acc (put p)) ∙ append_assoc (map put_in acc) (map put_in (put p)) (woven put_full gone (p + 1) xs)
              ∙ ap (λ z. map put_in acc ++ (map put_in (put p) ++ (if z then woven put_full gone (p + 1) xs else x ∷ woven put_full gone (p + 1) xs))) (sym e)
      either false e more later = rw e (kept_here (subst (λ z. Same (p + 1) (p + 1) [] k z) later_lists later))
        where
          new : List (ℕ × List (ℕ × ℕ))
          new = before ++ ((acc ++ put p) ++ (u ∷ us'))

          rest : List Component
          rest = listed new (p + 1) (Q + 1) (pairs_from (Q + 1) os)

          text_is : (before ++ ((acc ++ put p) ++ (u ∷ []))) ++ us' ≡ new
          text_is = append_assoc before ((acc ++ put p) ++ (u ∷ [])) us' ∙ ap (λ z. before ++ z) (append_assoc (acc ++ put p) (u ∷ []) us')

          later_lists : listed ((before ++ ((acc ++ put p) ++ (u ∷ []))) ++ us') (p + 1) (Q + 1) (pairs_from (Q + 1 + length {A = ℕ × List (ℕ × ℕ)} []) os) ≡ rest
          later_lists = ap (λ z. listed z (p + 1) (Q + 1) (pairs_from (Q + 1 + length {A = ℕ × List (ℕ × ℕ)} []) os)) text_is ∙ ap (λ z. listed new (p + 1) (Q + 1) (pairs_from z os)) (let f : Q + 1 + length {A = ℕ × List (ℕ × ℕ)} [] ≡ Q + 1 = omega arith in f)

          kept_here : Same (p + 1) (p + 1) [] k rest → Same i p acc (suc k) (listed (before ++ (acc ++ (put p ++ (u ∷ us')))) i j (pairs_from (j + length acc) (map (λ u. None) (put p) ++ (Some p ∷ os))))
          kept_here r = subst (λ z. Same i p acc (suc k) z) lists (record { apart = gap.0; inside = gap.1; same = same_kept })
            where
              gap : AreComponents i (component pieces.component new i j p Q ++ rest) × Each (λ c. c.start + c.old_len ≤ n) (component pieces.component new i j p Q ++ rest) ×
                  ((ws ys : List Full) → length ws ≡ p - i → by_components (component pieces.component new i j p Q ++ rest) i (ws ++ ys) ≡ map put_in (acc ++ put p) ++ by_components rest p ys)
              gap = one_gap i j p Q before (acc ++ put p) (u ∷ us') rest below (omega arith) size (omega (arith, length-append acc (put p))) r.apart r.inside

              lists : component pieces.component new i j p Q ++ rest ≡ listed (before ++ (acc ++ (put p ++ (u ∷ us')))) i j (pairs_from (j + length acc) (map (λ u. None) (put p) ++ (Some p ∷ os)))
              lists = ap (λ z. listed (before ++ z) i j ((p, Q) ∷ pairs_from (Q + 1) os)) (append_assoc acc (put p) (u ∷ us')) ∙ ap (λ z. listed (before ++ (acc ++ (put p ++ (u ∷ us')))) i j z) (sym (pairs_behind (j + length acc) (put p) (Some p ∷ os)))

              same_kept : (ws xs : List Full) → length ws ≡ p - i → length xs ≡ suc k → by_components (component pieces.component new i j p Q ++ rest) i (ws ++ xs) ≡ map put_in acc ++ woven put_full gone p xs
              same_kept ws [] f g = absurd (omega arith)
              same_kept ws (x ∷ xs) f g =
                  gap.2 ws (x ∷ xs) f
                  ∙ ap (λ z. map put_in (acc ++ put p) ++ z) (unit_kept rest p x xs r.apart ∙ ap (λ z. x ∷ z) (r.same [] xs (omega arith) (omega arith)))
                  ∙ ap (λ z. z ++ (x ∷ woven put_full gone (p + 1) xs)) (map-append put_in acc (put p)) ∙ append_assoc (map put_in acc) (map put_in (put p)) (x ∷ woven put_full gone (p + 1) xs)
                  ∙ ap (λ z. map put_in acc ++ (map put_in (put p) ++ (if z then woven put_full gone (p + 1) xs else x ∷ woven put_full gone (p + 1) xs))) (sym e)

-- What the pieces make of a text, their components make of it.
pub record AreArrived (ps : List Piece) (text : List ℕ) (cs : List Component) : Type 0 where
  pub apart : AreComponents 0 cs
  pub inside : Each (λ c. c.start + c.old_len ≤ length text) cs
  pub same : woven (λ g. map put_in (put_of cs g)) (taken_of cs) 0 (old_units 0 text) ≡ full_text ps text

pub arrived_are : (ps : List Piece) (text : List ℕ) → AreArrived ps text (arrived ps (length text))
unfolding arrived
arrived_are ps text = given (along (put_at ps) (gone_at ps) n n 0 0 0 [] [] us (omega arith) (omega arith) refl (length-map (replicate n 0) unmarked ∙ length-replicate n 0))
  where
    n : ℕ
    n = length text

    us : List (ℕ × List (ℕ × ℕ))
    us = map unmarked (replicate n 0)

    new : List (ℕ × List (ℕ × ℕ))
    new = marked_text ps (replicate n 0)

    os : List (Option ℕ)
    os = pieces.piece_origins ps n

    sizes : length new ≡ length os
    sizes = woven_length (put_at ps) (λ g. map (λ u. None) (put_at ps g)) (gone_at ps) (λ p. sym (length-map (put_at ps p) (λ u. None))) 0 us (map (λ q. Some q) (range_with_len 0 n))
        (length-map (replicate n 0) unmarked ∙ length-replicate n 0 ∙ sym (length-map (range_with_len 0 n) (λ q. Some q) ∙ length-range_with_len 0 n))

    lists : components pieces.component new 0 0 (pairs_from (0 + length {A = ℕ × List (ℕ × ℕ)} []) os) n (length new) ≡ components pieces.component new 0 0 (pairs_from 0 os) n (length os)
    lists = ap (λ z. components pieces.component new 0 0 (pairs_from z os) n (length new)) (let e : 0 + length {A = ℕ × List (ℕ × ℕ)} [] ≡ 0 = omega arith in e) ∙ ap (λ z. components pieces.component new 0 0 (pairs_from 0 os) n z) sizes

    given : Same (put_at ps) (gone_at ps) n 0 0 [] n (components pieces.component new 0 0 (pairs_from (0 + length {A = ℕ × List (ℕ × ℕ)} []) os) n (length new)) → AreArrived ps text (components pieces.component new 0 0 (pairs_from 0 os) n (length os))
    given s = subst (λ z. AreArrived ps text z) lists (record { apart = s.apart; inside = s.inside; same = s.same [] (old_units 0 text) refl (length_old 0 text) })
