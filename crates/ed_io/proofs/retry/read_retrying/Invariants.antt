-- A read that was interrupted took no byte.
use Rattle.std.proofs.Common.{[]}
use Rattle.ed_io.specs.Bytes.{Took}
use Rattle.ed_io.proofs.retry.read_retrying.Given as goal

abbrev pub invariant-loop : goal.invariant-loop
invariant-loop g l = Took (g.R.Read.remaining l.fn.reader) [] (g.R.Read.remaining l.reader)
