-- The pass over the sorted pieces gives what arrives.
use Rattle.std.proofs.Common.{◌^◌, map, arith, ◌∙◌}
use Rattle.ed_pieces.proofs.Arriving.{lent_within, swept_arrived, swept_within}
use Rattle.ed_pieces.proofs.Changing.{swept_normal, swept_put_in}
use Rattle.ed_pieces.proofs.arrived.Arrived.of.Goals as goal

pub swept-requires : goal.swept-requires
swept-requires c = rw c.deref.ensures.value (lent_within (2 ^ 32) c.args.len c.args.pieces.now c.in_ok-order.order.items c.in_ok-order.ensures c.requires.within (omega arith))

pub returns-clause-components : goal.returns-clause-components
returns-clause-components c = rw c.deref.ensures.value at c.in_ok-parts.ensures ∙ swept_arrived c.args.len c.args.pieces.now (map (λ p. p.now) c.in_ok-order.order.items) c.in_ok-order.ensures c.requires.within

pub invariant_of-result : goal.invariant_of-result
invariant_of-result c = rw (c.in_ok-parts.ensures, c.deref.ensures.value) (record {
  short = c.requires.len;
  within = swept_within c.args.len c.args.pieces.now (map (λ p. p.now) c.in_ok-order.order.items) c.in_ok-order.ensures c.requires.within;
  normal = swept_normal c.args.len c.args.pieces.now (map (λ p. p.now) c.in_ok-order.order.items) c.in_ok-order.ensures c.requires.within;
  few = omega (arith, swept_put_in c.args.pieces.now (map (λ p. p.now) c.in_ok-order.order.items) c.in_ok-order.ensures, c.requires.put_in);
})
