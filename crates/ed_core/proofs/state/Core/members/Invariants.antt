use Rattle.std.specs.List.{All}
use Rattle.ed_core.specs.Asking.{HasSource}
use Rattle.ed_core.proofs.Reaching.{AskedUpTo}
use Rattle.ed_core.proofs.state.Core.members.Given as goal

abbrev pub invariant-loop-span : goal.invariant-loop-span
invariant-loop-span l = record {
  asked : AskedUpTo l.self l.spans l.span-index l.members.items;
  there : All (HasSource l.self) l.members.items;
}
