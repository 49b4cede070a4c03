use Rattle.std.proofs.Common.{drop}
use Rattle.ed_elide.proofs.PutLemmas.{Putting}
use Rattle.ed_elide.proofs.hidden.Hidden.put_spans.Given as goal

abbrev pub invariant-loop-change : goal.invariant-loop-change
invariant-loop-change l = Putting l.self l.changes l.old l.new l.spans.items (drop l.change-index l.list)
