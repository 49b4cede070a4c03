use Rattle.std.proofs.Common.{sym, ◌∙◌, arith}
use Rattle.ed_project.proofs.SourceRuns.{stop_at_end, stop_at_is}
use Rattle.ed_project.proofs.sources.stop_of.Goals as goal

pub returns-then-i-count : goal.returns-then-i-count
returns-then-i-count c = sym (stop_at_is c.args.changes.now.old_len c.args.changes.now.changes c.args.i c.get.result.now (omega arith) c.get.ensures)

pub returns : goal.returns
returns c = c.old_len.ensures ∙ sym (stop_at_end c.args.changes.now.old_len c.args.changes.now.changes c.args.i (omega arith))
