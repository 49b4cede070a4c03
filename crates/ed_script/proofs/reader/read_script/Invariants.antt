use Rattle.std.proofs.Common.{◌≡◌, ◌+◌, ◌≤◌, ◌^◌, length}
use Rattle.ed_script.specs.Script.{script_of, unread, with_commands}
use Rattle.ed_script.proofs.reader.read_script.Given as goal

abbrev pub invariant-loop-end : goal.invariant-loop-end
invariant-loop-end l = record {
  before : script_of l.bytes l.ended ≡ with_commands l.commands.items (unread l.ended l.number l.rest);
  few : l.number + length l.rest ≤ 2 ^ 20 + 1;
}

abbrev pub decreases-loop-end : goal.decreases-loop-end
decreases-loop-end l = length l.rest
