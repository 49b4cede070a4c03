use Rattle.std.proofs.Common.{◌≡◌, drop, map}
use Rattle.ed_base.specs.declared.refusal.Which.{Which}
use Rattle.ed_stock.specs.Limits.{some_over}
use Rattle.ed_climb.specs.Limited.{count_then}
use Rattle.ed_climb.proofs.members.members_over.Given as goal

abbrev pub invariant-loop-buffer : goal.invariant-loop-buffer
invariant-loop-buffer l = some_over Which.Members 1024 (map (count_then l.buffers l.moves) (drop l.buffer-index l.order)) ≡ some_over Which.Members 1024 (map (count_then l.buffers l.moves) l.order)
