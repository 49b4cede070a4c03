use Rattle.std.proofs.Common.{length, arith, ap}
use Rattle.ed_text.proofs.leaf.push_content.Goals as goal

pub returns-then-len-gt-LEAF_MOST-clause-half_full : goal.returns-then-len-gt-LEAF_MOST-clause-half_full
returns-then-len-gt-LEAF_MOST-clause-half_full g c = λ h n. c.in_ok-push_leaves.ensures.half_full h (omega (arith, n, ap length c.as_slice.ensures.value))
