-- What is copied and what is left make the span.
use Rattle.std.proofs.Common.{◌≡◌, ◌≤◌, ◌-◌, ◌++◌, length, take, slice_range}
use Rattle.ed_text.proofs.tree.TreeText.copy_runs.Given as goal

abbrev pub invariant-loop-at : goal.invariant-loop-at
invariant-loop-at l = record {
  within : l.at ≤ l.end;
  units : l.into ++ slice_range l.self l.at l.end ≡ l.fn.into ++ slice_range l.self l.fn.span.start l.end;
  front : take (length l.fn.into) l.into ≡ l.fn.into;
}

abbrev pub decreases-loop-at : goal.decreases-loop-at
decreases-loop-at l = l.end - l.at
