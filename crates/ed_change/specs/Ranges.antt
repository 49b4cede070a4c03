-- Where the replaces of an edit lie.
use Rattle.std.specs.Prelude.{◌≡◌, ℕ, ◌+◌, ◌≤◌, List, [], nat_lt, find, Option}
use Rattle.std.specs.List.{All}
use Rattle.ed_base.specs.declared.edit.Replace.{Replace}

-- the first replace that ends past a text of length n
abbrev pub first_past : ℕ → List Replace → Option Replace
first_past n replaces = find (λ r. nat_lt n (r.start + r.len)) replaces

-- each ends within a text of length n
abbrev pub AllWithin : ℕ → List Replace → Type 0
AllWithin n replaces = All (λ r. r.start + r.len ≤ n) replaces

-- none deletes or puts in anything
abbrev pub AllIdle : List Replace → Type 0
AllIdle replaces = All (λ r. (r.len ≡ 0) × (r.text ≡ [])) replaces
