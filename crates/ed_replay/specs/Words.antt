-- What the words of a command line ask for.
use Rattle.std.specs.Prelude.{ℕ, List, [], ◌∷◌, codes, if◌then◌else◌}
use Rattle.std.specs.Str.{bytes_eq}
use Rattle.ed_replay.specs.Headline.{Asked, replay, nothing_known}

-- a replay, by the one word `replay`
abbrev pub asked : List (List ℕ) → Asked
asked [] = nothing_known
asked (w ∷ []) = if bytes_eq w (codes "replay") then replay else nothing_known
asked (w ∷ v ∷ ws) = nothing_known
