-- What is printed for the first units of a text.
use Rattle.std.proofs.Common.{◌≡◌, ℕ, ◌+◌, ◌<◌, ◌≤◌, true, false, cond, ◌&&◌, List, [], ◌∷◌, ◌++◌, length, get_or, drop, take, sym, ap, ◌∙◌, append-nil, append_assoc, take_at, arith}
use Rattle.std.proofs.lemmas.List.{drop_all, drop-drop, take-append-le}
use Rattle.std.specs.Prelude.{encode_utf8}
use Rattle.std.specs.Char.Utf16.{is_high_surrogate, is_low_surrogate, surrogate_pair_char}
use Rattle.ed_units.specs.Quoted.{quoted_unit, quoted_units}

pub first_pair : (units rest : List ℕ) → 1 < length units
    → (is_high_surrogate (get_or units 0 0) && is_low_surrogate (get_or units 1 0)) ≡ true
    → quoted_units (units ++ rest) ≡ encode_utf8 (surrogate_pair_char (get_or units 0 0) (get_or units 1 0)) ++ quoted_units (drop 2 units ++ rest)
unfolding quoted_units
first_pair [] rest long pair = absurd (omega arith)
first_pair (u ∷ []) rest long pair = absurd (omega arith)
first_pair (u ∷ v ∷ us) rest long pair =
    ap (λ t. cond t (encode_utf8 (surrogate_pair_char u v) ++ quoted_units (us ++ rest)) (quoted_unit u ++ quoted_units (v ∷ (us ++ rest)))) pair

pub first_alone : (units rest : List ℕ) → 0 < length units → (length units ≤ 1 → rest ≡ [])
    → (1 < length units → (is_high_surrogate (get_or units 0 0) && is_low_surrogate (get_or units 1 0)) ≡ false)
    → quoted_units (units ++ rest) ≡ quoted_unit (get_or units 0 0) ++ quoted_units (drop 1 units ++ rest)
unfolding quoted_units
first_alone [] rest some end alone = absurd (omega arith)
first_alone (u ∷ []) rest some end alone =
    let none : rest ≡ [] = end (omega arith) in
    rw none (sym (append-nil (quoted_unit u)))
first_alone (u ∷ v ∷ us) rest some end alone =
    ap (λ t. cond t (encode_utf8 (surrogate_pair_char u v) ++ quoted_units (us ++ rest)) (quoted_unit u ++ quoted_units (v ∷ (us ++ rest)))) (alone (omega arith))

-- a part was printed, and what is left follows it
pub joined : (old new part rest whole : List ℕ) → new ≡ old ++ part → whole ≡ part ++ rest → new ++ rest ≡ old ++ whole
joined old new part rest whole printed is =
    ap (λ l. l ++ rest) printed ∙ append_assoc old part rest ∙ ap (λ l. old ++ l) (sym is)

-- nothing is left to be printed
pub none_left : (units old new : List ℕ) (n : ℕ) → n ≡ length units → new ++ quoted_units (drop n units ++ []) ≡ old ++ quoted_units (units ++ []) → new ≡ old ++ quoted_units units
unfolding quoted_units
none_left units old new n all is =
    let past : drop n units ≡ [] = drop_all n units (omega (arith, all)) in
    sym (append-nil new) ∙ (ap (λ l. new ++ quoted_units (l ++ [])) (sym past) ∙ (is ∙ ap (λ l. old ++ quoted_units l) (append-nil units)))

-- what is left after the next part
pub left_after : (units rest : List ℕ) (at n : ℕ) → drop n (drop at units) ++ rest ≡ drop (at + n) units ++ rest
left_after units rest at n = ap (λ l. l ++ rest) (drop-drop n at units)

-- what stood there before is the front of what stands there now
pub front_kept : (n : ℕ) (old new rest more : List ℕ) → n ≡ length old → n ≤ length new → new ++ rest ≡ old ++ more → take n new ≡ old
front_kept n old new rest more long grown is =
    sym (take-append-le n new rest grown) ∙ ap (take n) is ∙ take_at old more n (sym long)
