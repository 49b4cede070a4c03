use Rattle.std.proofs.Common.{[], map, subst, arith}
use Rattle.ed_climb.specs.Kept.{IsKept}
use Rattle.ed_climb.proofs.KeptNumbers.{held_few}
use Rattle.ed_held.specs.Seen.{known}
use Rattle.ed_group.proofs.Elided.{judged_deep, judged_fit, source_linked}
use Rattle.ed_group.proofs.Refusing.{passed_on}
use Rattle.ed_group.proofs.stock.Stock.judge_elision.Goals as goal

pub placed-requires-clause-few : goal.placed-requires-clause-few
placed-requires-clause-few c =
    let kept : IsKept (map known c.args.self.now) c.self.inside.graph c.self.inside.counts = subst (λ hs. IsKept (map known hs) c.self.inside.graph c.self.inside.counts) c.self.view_is c.self.invariant in
    omega (arith, held_few c.args.self.now c.self.inside.graph c.self.inside.counts kept)

pub placed-requires-clause-there : goal.placed-requires-clause-there
placed-requires-clause-there c =
    let kept : IsKept (map known c.args.self.now) c.self.inside.graph c.self.inside.counts = subst (λ hs. IsKept (map known hs) c.self.inside.graph c.self.inside.counts) c.self.view_is c.self.invariant in
    source_linked c.args.self.now c.self.inside.graph c.self.inside.counts kept c.args.source c.requires.there []

pub returns-in_err-placed : goal.returns-in_err-placed
returns-in_err-placed c =
    let kept : IsKept (map known c.args.self.now) c.self.inside.graph c.self.inside.counts = subst (λ hs. IsKept (map known hs) c.self.inside.graph c.self.inside.counts) c.self.view_is c.self.invariant in
    passed_on _ _ c.from_residual.result c.in_err-placed.field-0.0 c.from_residual.ensures (judged_deep c.args.self.now c.self.inside.graph c.self.inside.counts kept c.args.source c.requires.there [] _ _ c.in_err-placed.field-0.0 c.in_err-placed.ensures.fault)

pub returns : goal.returns
returns c =
    let kept : IsKept (map known c.args.self.now) c.self.inside.graph c.self.inside.counts = subst (λ hs. IsKept (map known hs) c.self.inside.graph c.self.inside.counts) c.self.view_is c.self.invariant in
    judged_fit c.args.self.now c.self.inside.graph c.self.inside.counts kept c.args.source c.requires.there [] _ _ c.in_ok-placed.field-0 tt c.in_ok-placed.ensures.fault
