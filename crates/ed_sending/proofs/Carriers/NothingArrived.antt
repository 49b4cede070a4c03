-- Where nothing arrives there is no component, and the text stays.
use Rattle.std.proofs.Common.{◌≡◌, ℕ, zero, suc, ◌+◌, true, false, List, [], ◌∷◌, length, replicate, Some, refl, ap, ◌∙◌, arith}
use Rattle.std.specs.Prelude.{nat_eq}
use Rattle.std.specs.List.{range_with_len}
use Rattle.std.proofs.lemmas.Bool.Decides.{nat_tests}
use Rattle.std.proofs.lemmas.List.{length-map}
use Rattle.std.proofs.lemmas.List.FromFn.{length-range_with_len}
use Rattle.ed_base.proofs.NormalSteps.{olds, pairs_olds, run}
use Rattle.ed_base.specs.ChangeList.{components}
use Rattle.ed_base.specs.Edit.{woven}
use Rattle.ed_base.specs.Step.{pairs_from}
use Rattle.ed_layers.specs.Pieces.{arrived, component, marked_text, piece_origins}
use Rattle.ed_sending.proofs.Texts.FullText.{full_text, old_units}

nothing_woven : {X : Type 0} (p : ℕ) (xs : List X) → woven (λ q. []) (λ q. false) p xs ≡ xs
nothing_woven p [] = refl
nothing_woven p (x ∷ xs) = ap (λ ys. x ∷ ys) (nothing_woven (p + 1) xs)

nothing_between : {X C : Type 0} (make : ℕ → ℕ → List X → C) (new : List X) (i k n : ℕ) → n ≡ i + k → components make new i i (run i i k) n n ≡ []
nothing_between make new i zero n end = let e : nat_eq i n ≡ true = grind (arith, nat_tests) in rw e refl
nothing_between make new i (suc k) n end =
    let e : nat_eq i i ≡ true = grind (arith, nat_tests) in
    rw e (nothing_between make new (i + 1) k n (omega arith))

pub nothing_arrived : (n : ℕ) → arrived [] n ≡ []
unfolding arrived
nothing_arrived n =
    let same : piece_origins [] n ≡ olds 0 n = nothing_woven 0 (olds 0 n) in
    let kept : pairs_from 0 (piece_origins [] n) ≡ run 0 0 n = ap (pairs_from 0) same ∙ pairs_olds 0 0 n in
    let len : length (piece_origins [] n) ≡ n = ap length same ∙ length-map (range_with_len 0 n) (λ p. Some p) ∙ length-range_with_len 0 n in
    ap (λ k. components component (marked_text [] (replicate n 0)) 0 0 k n (length (piece_origins [] n))) kept
    ∙ ap (λ m. components component (marked_text [] (replicate n 0)) 0 0 (run 0 0 n) n m) len
    ∙ nothing_between component (marked_text [] (replicate n 0)) 0 n n (omega arith)

pub nothing_full : (text : List ℕ) → full_text [] text ≡ old_units 0 text
nothing_full text = nothing_woven 0 (old_units 0 text)
