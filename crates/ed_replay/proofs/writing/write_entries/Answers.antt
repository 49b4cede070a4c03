use Rattle.std.proofs.Common.{◌+◌, ap, arith}
use Rattle.ed_replay.proofs.Rendered.{one_more, cut}
use Rattle.ed_replay.proofs.writing.write_entries.Goals as goal

pub returns-in_err-write_entry-clause-front : goal.returns-in_err-write_entry-clause-front
returns-in_err-write_entry-clause-front g c = cut c.args.entries.now (c.loop-entry.position + 1) c.loop-entry.entry-index c.entry-item.result _ _ _ c.loop-entry.invariant.written c.loop-entry-test.true c.entry-item.is c.in_err-write_entry.ensures.cut_off

pub loop-entry-preserved : goal.loop-entry-preserved
loop-entry-preserved g c = record {
  position = ap (λ n. n + 1) c.loop-entry.invariant.position;
  written = one_more c.args.entries.now (c.loop-entry.position + 1) c.loop-entry.entry-index c.entry-item.result _ _ _ c.loop-entry.invariant.written c.loop-entry-test.true c.entry-item.is c.in_ok-write_entry.ensures.written;
  later = omega (arith, c.loop-entry.invariant.later, c.write_entry.ensures.later);
}
