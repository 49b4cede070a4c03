-- Change lists: what a step does, one change for each part of the text between two kept units.
use Rattle.std.specs.Prelude.{ℕ, ◌+◌, ◌-◌, ◌<◌, ◌≤◌, ◌^◌, ◌&&◌, List, [], ◌∷◌, ◌++◌, length, map, nat_eq, slice_range, replicate, sum_by, if◌then◌else◌}
use Rattle.ed_base.specs.declared.edit.Replace.{Replace}
use Rattle.ed_base.specs.declared.edit.Change.{Change}
use Rattle.ed_base.specs.Edit.{edited}
use Rattle.ed_base.specs.Step.{Step, step_of, inverse_step}

-- the length of the text that is changed, and the changes by rising place
pub record ChangeList : Type 0 where
  pub old_len : ℕ
  pub changes : List Change

-- What stands between two neighbouring kept units, from old place i up to i' and from new place j up to j': a change, if there is anything.
module _ {X C : Type 0} (make : ℕ → ℕ → List X → C) (new : List X) where
  abbrev pub component : ℕ → ℕ → ℕ → ℕ → List C
  component i j i' j' = if nat_eq i i' && nat_eq j j' then [] else make i (i' - i) (slice_range new j j') ∷ []

  -- all of them, from old place i and new place j up to the ends n and m
  abbrev pub components : ℕ → ℕ → List (ℕ × ℕ) → ℕ → ℕ → List C
  components i j [] n m = component i j n m
  components i j (pair ∷ pairs) n m = component i j pair.0 pair.1 ++ components (pair.0 + 1) (pair.1 + 1) pairs n m

abbrev pub change : ℕ → ℕ → List ℕ → Change
change start old_len text = record { start = start; old_len = old_len; text = text }

-- the change list of a step to the text
abbrev pub change_list : Step → List ℕ → ChangeList
change_list s new = record { old_len = s.old_len; changes = components change new 0 0 s.kept s.old_len s.new_len }

-- The change list of an edit of a text of length n: its normal form. A change holds only units that were put in, so zeros stand for the units of the text.
abbrev pub normal_form : List Replace → ℕ → ChangeList
normal_form replaces n = change_list (step_of replaces n) (edited replaces (replicate n 0))

-- a change list is itself an edit
abbrev pub as_edit : ChangeList → List Replace
as_edit c = map (λ x. record { start = x.start; len = x.old_len; text = x.text }) c.changes

-- the text that it leads to, and its step
abbrev pub applied : ChangeList → List ℕ → List ℕ
applied c text = edited (as_edit c) text

abbrev pub step : ChangeList → Step
step c = step_of (as_edit c) c.old_len

-- the change list back, from the text that it leads to
abbrev pub inverse : ChangeList → List ℕ → ChangeList
inverse c text = change_list (inverse_step (step c)) text

abbrev pub inserted_len : ChangeList → ℕ
inserted_len c = sum_by (λ x. length x.text) c.changes

abbrev pub new_len : ChangeList → ℕ
new_len c = c.old_len + inserted_len c - sum_by (λ x. x.old_len) c.changes

-- Changes in normal form from place p on, where the text goes up to n: each lies inside and does something, and a kept unit stands before the next.
abbrev pub AreNormalFrom : ℕ → ℕ → List Change → Type 0
AreNormalFrom p n [] = Unit {0}
AreNormalFrom p n (c ∷ cs) = (p ≤ c.start) × (c.start + c.old_len ≤ n) × (0 < c.old_len + length c.text) × AreNormalFrom (c.start + c.old_len + 1) n cs

pub record IsNormal (c : ChangeList) : Type 0 where
  pub changes : AreNormalFrom 0 c.old_len c.changes
  pub fits : new_len c < 2 ^ 32
