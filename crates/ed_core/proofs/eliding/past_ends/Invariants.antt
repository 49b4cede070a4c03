use Rattle.std.proofs.Common.{◌≡◌, drop, take}
use Rattle.std.specs.List.{All}
use Rattle.ed_machine.specs.Refusals.{ends_of, past}
use Rattle.ed_spans.specs.SpanSets.{EndsWithin}
use Rattle.ed_core.proofs.eliding.past_ends.Given as goal

abbrev pub invariant-loop-span : goal.invariant-loop-span
invariant-loop-span l = record {
  rest : past (ends_of (drop l.span-index l.spans)) l.len ≡ past (ends_of l.spans) l.len;
  within : All (EndsWithin l.len) (take l.span-index l.spans);
}
