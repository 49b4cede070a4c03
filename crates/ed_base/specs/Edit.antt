-- Texts and edits. A text is the list of its units. An edit is a list of replaces, whose places all refer to one text.
use Rattle.std.specs.Prelude.{ℕ, ◌+◌, Bool, ◌&&◌, List, [], ◌∷◌, ◌++◌, length, nat_lt, nat_le, nat_eq, filter, map, flat_map, sum_by, Option, Some, None, if◌then◌else◌}
use Rattle.std.specs.List.{list_any}
use Rattle.ed_base.specs.declared.edit.Replace.{Replace}
use Rattle.ed_base.specs.Numbers.{places}

-- whether the unit at the place lies in the range of a replace
abbrev pub is_deleted : List Replace → ℕ → Bool
is_deleted replaces p = list_any (λ r. nat_le r.start p && nat_lt p (r.start + r.len)) replaces

-- what is put in at the gap: the texts of the replaces that start there, in their order
abbrev pub inserted_at : List Replace → ℕ → List ℕ
inserted_at replaces p = flat_map (λ r. r.text) (filter (λ r. nat_eq r.start p) replaces)

-- A list with something put in at each gap and some elements gone: from gap p on, what is put in there, and then the element, if it stays.
abbrev pub woven : {X : Type 0} → (ℕ → List X) → (ℕ → Bool) → ℕ → List X → List X
woven put gone p [] = put p
woven put gone p (x ∷ xs) = put p ++ (if gone p then woven put gone (p + 1) xs else x ∷ woven put gone (p + 1) xs)

-- the text after an edit
abbrev pub edited : List Replace → List ℕ → List ℕ
edited replaces text = woven (inserted_at replaces) (is_deleted replaces) 0 text

-- the units of the new text by where they come from: the old place of a unit that was kept, and none for one that was put in
abbrev pub origins : List Replace → ℕ → List (Option ℕ)
origins replaces n = woven (λ p. map (λ u. None) (inserted_at replaces p)) (is_deleted replaces) 0 (map (λ p. Some p) (places n))

-- how many units the replaces put in
abbrev pub units_put_in : List Replace → ℕ
units_put_in replaces = sum_by (λ r. length r.text) replaces
