use Rattle.std.proofs.Common.{◌≡◌, ◌≤◌, length}
use Rattle.ed_callbacks.specs.HookLists.{hook_table}
use Rattle.ed_descent.specs.InBoxes.{boxes_of}
use Rattle.ed_descent.proofs.Descending.{IsOn}
use Rattle.ed_descent.proofs.descent.sent_down.Given as goal

abbrev pub invariant-loop-left : goal.invariant-loop-left
invariant-loop-left g l = record {
  order : l.left ≤ length l.order;
  count : length l.boxes.items ≡ length l.buffers;
  on : IsOn (hook_table l.hooks) l.buffers l.edits l.order l.left (boxes_of l.boxes.items);
}

abbrev pub decreases-loop-left : goal.decreases-loop-left
decreases-loop-left g l = l.left
