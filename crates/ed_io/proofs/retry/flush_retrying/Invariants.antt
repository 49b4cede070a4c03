-- A call that was interrupted added no byte.
use Rattle.std.proofs.Common.{[]}
use Rattle.ed_io.specs.Bytes.{Added}
use Rattle.ed_io.proofs.retry.flush_retrying.Given as goal

abbrev pub invariant-loop : goal.invariant-loop
invariant-loop g l = Added (g.W.Write.contents l.fn.writer) [] (g.W.Write.contents l.writer)
