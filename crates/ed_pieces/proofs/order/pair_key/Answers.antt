-- The last pair.
use Rattle.std.proofs.Common.{◌+◌, None, ap, sym, ◌∙◌}
use Rattle.ed_pieces.specs.Order.{pair_key_of}
use Rattle.ed_pieces.proofs.Cutting.{last_get}
use Rattle.ed_pieces.proofs.order.pair_key.Goals as goal

pub returns-in-Some : goal.returns-in-Some
returns-in-Some c = ap (λ n. (n + 1, c.in-Some.field-0.now.1)) (c.from.ensures ∙ c.carrier.view_is) ∙ ap pair_key_of (sym (last_get None c.args.trail.now c.in-Some.field-0.now (sym (rw c.in-Some.is at c.last.ensures.value))))
