-- A version that is made, and members that are set once more.
use Rattle.std.specs.Prelude.{◌+◌, ◌<◌, ◌^◌, [], ◌∷◌, ◌++◌}
use Rattle.ed_base.specs.Denial.{regions_after}
use Rattle.ed_base.specs.ChangeList.{step}
use Rattle.ed_risen.specs.Counting.{turn}
use Rattle.ed_held.specs.declared.held.Held.{Held}
use Rattle.ed_held.specs.declared.moves.Move.{Move}
use Rattle.ed_held.specs.Moves.{changes_of, record_of, snapshot_of}
use Rattle.ed_held.specs.Seen.{Known}

-- what is known of the buffer then
abbrev pub known_grown : Known → Move → Known
known_grown k m = record {
  number = k.number;
  buffer = record k.buffer { records = k.buffer.records ++ record_of m.planned ∷ []; changes = k.buffer.changes ++ changes_of m.planned ∷ []; regions = regions_after (step (changes_of m.planned)) k.buffer.regions };
  texts = k.texts ++ (snapshot_of m.planned).text ∷ [];
}

abbrev pub known_turned : Known → Known
known_turned k = record k { buffer = turn k.buffer }

-- a buffer that can be changed once more otherwise than by an edit
abbrev pub CanTurn : Held → Type 0
CanTurn (Held.Base x) = ⊥
CanTurn (Held.Projection p turns) = turns + 1 < 2 ^ 32
CanTurn (Held.Elision e turns) = turns + 1 < 2 ^ 32
