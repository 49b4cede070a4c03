use Rattle.std.proofs.Common.{ap, sym, ◌∙◌, ◌++◌, ◌∷◌, [], arith}
use Rattle.ed_risen.proofs.Lists.{places_push}
use Rattle.ed_held.proofs.held.numbers_to.Goals as goal

pub loop-number-preserved : goal.loop-number-preserved
loop-number-preserved c = record {
  items = c.in_ok-push.ensures.items ∙ ap (λ xs. xs ++ c.loop-number.number ∷ []) c.loop-number.invariant.items ∙ sym (places_push c.loop-number.number);
  within = omega (arith, c.loop-number-test.true);
}
