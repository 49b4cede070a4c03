-- What changes without a change do to a text: nothing.
use Rattle.std.proofs.Common.{◌≡◌, ℕ, ◌+◌, List, [], ◌∷◌, length, refl, ap, ◌∙◌}
use Rattle.std.proofs.lemmas.List.{nil_from_length}
use Rattle.ed_base.specs.Edit.{woven, is_deleted, inserted_at}
use Rattle.ed_base.specs.ChangeList.{ChangeList, applied}

woven_nothing : (p : ℕ) (text : List ℕ) → woven (inserted_at []) (is_deleted []) p text ≡ text
woven_nothing p [] = refl
woven_nothing p (u ∷ us) = ap (λ xs. u ∷ xs) (woven_nothing (p + 1) us)

pub applied_nothing : (c : ChangeList) (text : List ℕ) → length c.changes ≡ 0 → applied c text ≡ text
applied_nothing c text empty =
    ap (λ cs. applied (record { old_len = c.old_len; changes = cs }) text) (nil_from_length c.changes empty) ∙ woven_nothing 0 text
