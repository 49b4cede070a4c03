use Rattle.std.proofs.Common.{length}
use Rattle.ed_text.proofs.leaf.+push_leaves.Given as goal

abbrev pub decreases-push_leaves : goal.decreases-push_leaves
decreases-push_leaves g l = length l.content.now
