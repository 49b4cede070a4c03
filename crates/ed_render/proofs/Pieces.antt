-- A text that is printed piece by piece.
use Rattle.std.proofs.Common.{◌≡◌, ℕ, ◌+◌, ◌-◌, ◌≤◌, List, ◌++◌, length, take, drop, sym, ap, ◌∙◌, append-nil, length-drop, arith}
use Rattle.std.specs.Prelude.{slice_range}
use Rattle.std.proofs.lemmas.List.{drop-drop, drop_all, drop-append-le, length-take-le, take-append-drop}
use Rattle.ed_units.specs.Quoted.{quoted_units}

-- a piece and what follows it
piece_and_rest : (us : List ℕ) (at k : ℕ) → slice_range us at (at + k) ++ drop (at + k) us ≡ drop at us
piece_and_rest us at k =
    let n : at + k - at ≡ k = omega arith in
    ap (λ m. take m (drop at us) ++ drop (at + k) us) n ∙ (ap (λ l. take k (drop at us) ++ l) (sym (drop-drop k at us)) ∙ take-append-drop k (drop at us))

pub piece_len : (us : List ℕ) (at k : ℕ) → at + k ≤ length us → length (slice_range us at (at + k)) ≡ k
piece_len us at k h =
    let n : at + k - at ≡ k = omega arith in
    ap (λ m. length (take m (drop at us))) n ∙ length-take-le k (drop at us) (omega (arith, h, length-drop at us))

pub next_piece : (us old new piece whole : List ℕ) (at k n : ℕ) → piece ≡ slice_range us at (at + k) → n ≤ length piece
    → new ++ quoted_units (drop n piece ++ drop (at + k) us) ≡ old ++ quoted_units (piece ++ drop (at + k) us)
    → old ++ quoted_units (drop at us) ≡ whole → new ++ quoted_units (drop (at + n) us) ≡ whole
next_piece us old new piece whole at k n is within step before =
    let rest = drop (at + k) us in
    let all : piece ++ rest ≡ drop at us = ap (λ l. l ++ rest) is ∙ piece_and_rest us at k in
    let left : drop (at + n) us ≡ drop n piece ++ rest = sym (drop-drop n at us) ∙ (ap (drop n) (sym all) ∙ drop-append-le n piece rest within) in
    ap (λ l. new ++ quoted_units l) left ∙ (step ∙ (ap (λ l. old ++ quoted_units l) all ∙ before))

pub last_piece : (us new whole : List ℕ) (at : ℕ) → length us ≤ at → new ++ quoted_units (drop at us) ≡ whole → new ≡ whole
unfolding quoted_units
last_piece us new whole at past is = sym (append-nil new) ∙ (ap (λ l. new ++ quoted_units l) (sym (drop_all at us past)) ∙ is)
