use Rattle.std.proofs.Common.{take, [], refl, ap, ◌∙◌, vec_len, arith}
use Rattle.ed_units.proofs.FirstUnits.{front_kept}
use Rattle.ed_units.proofs.quoting.write_units.Goals as goal

pub returns-clause-front : goal.returns-clause-front
returns-clause-front c =
    front_kept _ c.args.out.now.items c.loop-at.out.items _ _ (omega arith) (omega arith) (c.loop-at.invariant.whole [] (λ _. refl))

pub returns-in_err-at-clause-front : goal.returns-in_err-at-clause-front
returns-in_err-at-clause-front c =
    ap (take (vec_len c.args.out.now)) c.in_err-at.ensures.err
    ∙ front_kept _ c.args.out.now.items c.loop-at.out.items _ _ (omega arith) (omega arith) (c.loop-at.invariant.whole [] (λ _. refl))
