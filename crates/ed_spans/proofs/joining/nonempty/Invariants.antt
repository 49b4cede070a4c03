use Rattle.std.proofs.Common.{◌≡◌, ◌++◌, drop, filter, nat_lt}
use Rattle.ed_spans.proofs.joining.nonempty.Given as goal

abbrev pub invariant-loop-span : goal.invariant-loop-span
invariant-loop-span l = l.list.items ++ filter (λ s. nat_lt 0 s.len) (drop l.span-index l.spans) ≡ filter (λ s. nat_lt 0 s.len) l.spans
