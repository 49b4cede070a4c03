-- What a reply weighs: the numbers, lines and changes in it, with the units of the changes.
use Rattle.std.specs.Prelude.{ℕ, ◌+◌, length}
use Rattle.ed_base.specs.ChangeList.{inserted_len}
use Rattle.ed_entry.specs.declared.Reply.{Reply}

abbrev pub weight : Reply → ℕ
weight (Reply.Lines lines) = length lines
weight (Reply.Changes changes) = length changes.changes + inserted_len changes
weight (Reply.Versions numbers) = length numbers
weight _ = 0
