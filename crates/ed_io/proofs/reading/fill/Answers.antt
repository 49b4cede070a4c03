use Rattle.std.proofs.Common.{arith}
use Rattle.ed_io.proofs.Moving.{Took-more}
use Rattle.ed_io.proofs.reading.fill.Goals as goal

pub loop-filled-preserved : goal.loop-filled-preserved
loop-filled-preserved g c = record {
  taken = Took-more _ _ _ c.loop-filled.bytes.items _ c.loop-filled.filled c.in-Ok.count c.in-Ok.ensures.front c.loop-filled.invariant.taken c.in-Ok.ensures.taken;
  within = c.in-Ok.ensures.fits;
  bound = c.in-Ok.ensures.bound;
  later = omega (arith, c.loop-filled.invariant.later, c.in-Ok.ensures.later);
}
