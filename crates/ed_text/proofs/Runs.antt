-- Spans of a text that are read run by run.
use Rattle.std.proofs.Common.{◌≡◌, ℕ, ◌+◌, ◌-◌, ◌≤◌, List, ◌++◌, length, take, drop, slice_range, arith, ap, sym, ◌∙◌, append_assoc, length-take}
use Rattle.std.proofs.Math.Seq.{take-add}
use Rattle.std.proofs.lemmas.List.{drop-drop, take-append-le}

-- a span is its first run and what is left of it
pub range_cut : (us : List ℕ) (at n end : ℕ) → at + n ≤ end → slice_range us at end ≡ slice_range us at (at + n) ++ slice_range us (at + n) end
range_cut us at n end h =
    let whole : end - at ≡ n + (end - (at + n)) = omega (arith, h) in
    let run : n ≡ at + n - at = omega arith in
    ap (λ k. take k (drop at us)) whole ∙ (take-add n (end - (at + n)) (drop at us)
    ∙ (ap (λ k. take k (drop at us) ++ take (end - (at + n)) (drop n (drop at us))) run ∙ ap (λ l. slice_range us at (at + n) ++ take (end - (at + n)) l) (drop-drop n at us)))

-- the run moves from what is left to what is copied
pub copied_run : (old into new run us : List ℕ) (start at end : ℕ) → at + length run ≤ end → run ≡ slice_range us at (at + length run) → new ≡ into ++ run → into ++ slice_range us at end ≡ old ++ slice_range us start end → new ++ slice_range us (at + length run) end ≡ old ++ slice_range us start end
copied_run old into new run us start at end h r n e =
    let rest = slice_range us (at + length run) end in
    ap (λ l. l ++ rest) n ∙ (append_assoc into run rest ∙ (ap (λ l. into ++ (l ++ rest)) r ∙ (ap (λ l. into ++ l) (sym (range_cut us at (length run) end h)) ∙ e)))

-- what was there stays in front
pub front_stays : (old into run : List ℕ) → take (length old) into ≡ old → take (length old) (into ++ run) ≡ old
front_stays old into run e = take-append-le (length old) into run (omega (arith, ap length e, length-take (length old) into)) ∙ e
