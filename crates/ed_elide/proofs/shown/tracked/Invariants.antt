use Rattle.std.proofs.Common.{◌≡◌, ◌++◌, map, drop}
use Rattle.ed_layers.specs.Records.{tracked}
use Rattle.ed_elide.proofs.shown.tracked.Given as goal

abbrev pub invariant-loop-span : goal.invariant-loop-span
invariant-loop-span l = l.list.items ++ map (tracked l.source) (drop l.span-index l.spans) ≡ map (tracked l.source) l.spans
