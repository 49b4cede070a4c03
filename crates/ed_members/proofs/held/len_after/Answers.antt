-- The new length of a step of a normal list.
use Rattle.std.proofs.Common.{sym, ◌∙◌}
use Rattle.ed_base.proofs.NormalSteps.{normal_new_len}
use Rattle.ed_members.proofs.held.len_after.Goals as goal

pub returns-clause-len : goal.returns-clause-len
returns-clause-len c = c.new_len.ensures ∙ sym (normal_new_len c.args.changes.now c.as_slice-normal.ensures.normal.changes)
