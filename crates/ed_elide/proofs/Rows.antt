-- Small examples, computed.
use Rattle.std.proofs.Common.{◌≡◌, ℕ, Bool, true, false, List, [], ◌∷◌, Some, None, refl}
use Rattle.std.specs.Prelude.{nat_eq, if◌then◌else◌}
use Rattle.ed_base.specs.declared.edit.Span.{Span}
use Rattle.ed_base.specs.ChangeList.{ChangeList, step, change}
use Rattle.ed_layers.specs.Records.{elision}
use Rattle.ed_layers.specs.SourceStep.{SourceStep}
use Rattle.ed_layers.specs.CarrierStep.{carrier_step, all_stay}
use Rattle.ed_layers.specs.Hidden.{hidden_by, elided, flags_after, nearest}
use Rattle.ed_spans.specs.SpanSets.{gaps}
use Rattle.ed_elide.specs.AfterStep.{after_changes, shown_step}

abbrev span : ℕ → ℕ → Span
span a k = record { start = a; len = k }

-- a text of eight units: [1, 3) and [5, 8) are hidden
abbrev old : List Bool
old = hidden_by 8 (span 1 2 ∷ span 5 3 ∷ [])

-- one unit replaced at the seam, one put in among hidden, two at the end; the last went through buffer 4
abbrev changes : ChangeList
changes = record { old_len = 8; changes = change 2 2 (9 ∷ []) ∷ change 6 0 (9 ∷ 9 ∷ []) ∷ change 8 0 (9 ∷ 9 ∷ []) ∷ [] }

abbrev moved : SourceStep
moved = record { step = step changes; trails = [] ∷ [] ∷ [] ∷ [] ∷ [] ∷ [] ∷ ((4, 0) ∷ []) ∷ [] ∷ [] ∷ [] ∷ ((4, 0) ∷ []) ∷ [] }

abbrev new : List Bool
new = flags_after 4 moved old

row_after : flags_after 4 moved old ≡ after_changes 4 moved old 8 0 0 changes.changes
row_after = refl

row_flags : new ≡ false ∷ true ∷ false ∷ false ∷ true ∷ true ∷ false ∷ true ∷ true ∷ true ∷ false ∷ []
row_flags = refl

row_gaps : gaps 0 8 (span 1 2 ∷ span 5 3 ∷ []) ≡ span 0 1 ∷ span 3 2 ∷ []
row_gaps = refl

row_nearest : nearest old 6 ≡ 3
row_nearest = refl

row_pairs : carrier_step all_stay (λ b. if nat_eq b 0 then Some moved else None) (elision old 0 0) (elision new 0 1) ≡ shown_step old new moved.step
unfolding carrier_step
row_pairs = refl

-- two kept units are shown that were hidden, and one is hidden
row_elided : carrier_step all_stay (λ b. None) (elision old 0 0) (elision (elided old (span 3 1 ∷ []) (span 1 1 ∷ span 6 1 ∷ [])) 0 0)
    ≡ shown_step old (elided old (span 3 1 ∷ []) (span 1 1 ∷ span 6 1 ∷ [])) (step (record { old_len = 8; changes = [] }))
unfolding carrier_step
row_elided = refl
