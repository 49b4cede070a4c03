-- What components make of a text that takes them: its changes, and the ways of what they put in.
use Rattle.std.specs.Prelude.{ℕ, ◌+◌, ◌-◌, List, [], ◌∷◌, ◌++◌, length, map}
use Rattle.ed_base.specs.declared.edit.Change.{Change}
use Rattle.ed_base.specs.ChangeList.{change}
use Rattle.ed_layers.specs.Pieces.{Component}
use Rattle.ed_layers.specs.Sending.{Run, trail_runs}
use Rattle.ed_pieces.specs.declared.trails.TrailRun.{TrailRun}

-- the change that a component is, without the ways
abbrev pub change_of : Component → Change
change_of c = change c.start c.old_len (map (λ u. u.0) c.text)

-- units that begin at this place and came one way
abbrev pub way : ℕ → ℕ → List (ℕ × ℕ) → TrailRun
way at len trail = record { span = record { start = at; len = len }; trail = trail }

-- none where they came through no carrier
abbrev pub way_if : ℕ → ℕ → List (ℕ × ℕ) → List TrailRun
way_if at len [] = []
way_if at len (pair ∷ trail) = way at len (pair ∷ trail) ∷ []

-- the ways of runs that stand one behind the other, the first at this place
abbrev pub ways_of : ℕ → List Run → List TrailRun
ways_of at [] = []
ways_of at (r ∷ rs) = way_if at (length r.units) r.trail ++ ways_of (at + length r.units) rs

-- those of the components' texts, from old place i and new place j on
abbrev pub ways_from : ℕ → ℕ → List Component → List TrailRun
ways_from i j [] = []
ways_from i j (c ∷ cs) = ways_of (j + (c.start - i)) (trail_runs c.text) ++ ways_from (c.start + c.old_len) (j + (c.start - i) + length c.text) cs
