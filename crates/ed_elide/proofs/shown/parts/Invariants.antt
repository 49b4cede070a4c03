use Rattle.std.proofs.Common.{◌≡◌, ◌++◌, map, drop, slice_range}
use Rattle.ed_base.specs.Spans.{end_of}
use Rattle.ed_elide.proofs.shown.parts.Given as goal

abbrev pub invariant-loop-span : goal.invariant-loop-span
invariant-loop-span l = l.parts.items ++ map (λ s. slice_range l.text s.start (end_of s)) (drop l.span-index l.spans) ≡ map (λ s. slice_range l.text s.start (end_of s)) l.spans
