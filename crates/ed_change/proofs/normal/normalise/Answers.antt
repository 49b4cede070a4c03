-- No replace was found that ends past the text.
use Rattle.std.proofs.Common.{sym}
use Rattle.ed_change.proofs.Whole.{none_past}
use Rattle.ed_change.proofs.normal.normalise.Goals as goal

pub merged-requires-clause-within : goal.merged-requires-clause-within
merged-requires-clause-within c = none_past c.args.len c.args.replaces.now (sym (rw c.in_default.is at c.past.ensures))
