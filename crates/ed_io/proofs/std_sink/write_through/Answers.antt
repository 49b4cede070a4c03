use Rattle.std.proofs.Common.{rules}
use Rattle.ed_io.specs.Bytes.{AddedFront}
use Rattle.ed_io.proofs.Moving.{AddedFront-cut}
use Rattle.ed_io.proofs.std_sink.write_through.Goals as goal

pub returns-in_err-flush_retrying-clause-failed : goal.returns-in_err-flush_retrying-clause-failed
returns-in_err-flush_retrying-clause-failed g c =
    let cut : AddedFront (g.W.Write.contents c.args.writer.now) c.args.piece.now (g.W.Write.contents c.flush_retrying.new.writer) =
    AddedFront-cut _ _ _ c.args.piece.now c.in_ok-count.count c.in_ok-count.ensures.added c.flush_retrying.ensures in
    search rules
