use Rattle.std.proofs.Common.{arith, rules}
use Rattle.std.proofs.lemmas.Grind.{common_steps}
use Rattle.ed_io.specs.Bytes.{AddedFront}
use Rattle.ed_io.proofs.Moving.{Added-more, AddedFront-cut}
use Rattle.ed_io.proofs.writing.write_all.Goals as goal

pub returns-in_err-done-clause-cut_off : goal.returns-in_err-done-clause-cut_off
returns-in_err-done-clause-cut_off g c =
    let cut : AddedFront (g.O.Sink.held c.args.sink.now) c.args.bytes.now (g.O.Sink.held c.write_some.new.sink) =
    AddedFront-cut _ _ _ c.args.bytes.now c.loop-done.done c.loop-done.invariant.added c.in_err-done.ensures.not_added in
    search rules

pub loop-done-preserved : goal.loop-done-preserved
loop-done-preserved g c = record {
  added = Added-more _ _ _ c.args.bytes.now c.loop-done.done c.in_ok-done.field-0 c.loop-done.invariant.added c.in_ok-done.ensures.added;
  within = grind (arith, common_steps);
  later = omega (arith, c.loop-done.invariant.later, c.in_ok-done.ensures.cause.later);
}
