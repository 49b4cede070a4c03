use Rattle.std.proofs.Common.{◌≡◌, List, ◌++◌}
use Rattle.std.specs.Vec.Iter.{into_iter_items}
use Rattle.ed_callbacks.specs.HookLists.{hook_table}
use Rattle.ed_machine.specs.History.{alone, alone_from}
use Rattle.ed_entry.specs.declared.Entry.{Entry}
use Rattle.ed_replay.specs.Lawful.{AreLawful, AreLawfulFrom}
use Rattle.ed_replay.proofs.telling.tell_all.Given as goal

abbrev pub invariant-loop-command : goal.invariant-loop-command
invariant-loop-command g l = record {
  history : alone (hook_table l.hooks) l.fn.commands.items ≡ l.entries.items ++ alone_from (hook_table l.hooks) l.core (into_iter_items l.command-iterator);
  lawful : (es : List Entry) → AreLawfulFrom (hook_table l.hooks) l.core es → AreLawful (hook_table l.hooks) (l.entries.items ++ es);
}
