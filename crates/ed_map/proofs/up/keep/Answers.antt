use Rattle.std.proofs.Common.{refl, arith}
use Rattle.ed_map.proofs.up.keep.Goals as goal

pub returns : goal.returns
returns c = record {
  entry = record { buffer = c.args.b; version = c.args.v; spans = c.in_ok-spans.spans };
  buffer = refl;
  version = refl;
  spans = c.in_ok-spans.ensures.joined;
  within = omega (arith, c.slot_of-at.ensures, c.deref.ensures.len);
  put = c.in_ok-insert.ensures.items;
}
