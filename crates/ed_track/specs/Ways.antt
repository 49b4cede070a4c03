-- A step, gone forward or back.
use Rattle.std.specs.Prelude.{ℕ, ◌+◌, ◌-◌, List, [], ◌∷◌, length, map}
use Rattle.ed_base.specs.declared.edit.Change.{Change}
use Rattle.ed_base.specs.Step.{Step, inverse_step}
use Rattle.ed_base.specs.ChangeList.{ChangeList, step, new_len}
use Rattle.ed_base.specs.NewStarts.{new_starts}
use Rattle.ed_track.specs.declared.edge.Way.{Way}
use Rattle.ed_track.specs.declared.edge.Part.{Part}

abbrev pub way_step : Way → ChangeList → Step
way_step Way.Forward c = step c
way_step Way.Back c = inverse_step (step c)

-- the lengths of the text that is left and of the text that is reached
abbrev pub from_len : Way → ChangeList → ℕ
from_len Way.Forward c = c.old_len
from_len Way.Back c = new_len c

abbrev pub to_len : Way → ChangeList → ℕ
to_len Way.Forward c = new_len c
to_len Way.Back c = c.old_len

-- where the changes begin in the text that is left
abbrev pub starts : Way → ChangeList → List ℕ
starts Way.Forward c = map (λ x. x.start) c.changes
starts Way.Back c = new_starts c

-- the changes as they are seen forward, from old place i and new place j on
abbrev pub parts_from : ℕ → ℕ → List Change → List Part
parts_from i j [] = []
parts_from i j (c ∷ cs) = record { from = c.start; from_len = c.old_len; to = j + (c.start - i); to_len = length c.text } ∷ parts_from (c.start + c.old_len) (j + (c.start - i) + length c.text) cs

abbrev pub turned : Part → Part
turned q = record { from = q.to; from_len = q.to_len; to = q.from; to_len = q.from_len }

-- the changes on the way
abbrev pub parts : Way → ChangeList → List Part
parts Way.Forward c = parts_from 0 0 c.changes
parts Way.Back c = map turned (parts_from 0 0 c.changes)
