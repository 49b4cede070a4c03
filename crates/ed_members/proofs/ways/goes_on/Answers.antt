-- The member that the trail names last.
use Rattle.std.proofs.Common.{sym, ◌∙◌}
use Rattle.ed_members.proofs.HandingUp.{goes_on_own, goes_on_other, goes_on_none}
use Rattle.ed_members.proofs.ways.goes_on.Goals as goal

pub returns-then-is_own : goal.returns-then-is_own
returns-then-is_own c = goes_on_own c.args.me c.args.of_elision c.args.member c.in-Some.owner c.args.trail.now c.in-Some.ensures (sym c.is_own.ensures ∙ c.if-is_own.true)

pub returns-else-is_own : goal.returns-else-is_own
returns-else-is_own c = c.if-is_own.false ∙ goes_on_other c.args.me c.args.of_elision c.args.member c.in-Some.owner c.args.trail.now c.in-Some.ensures (sym c.is_own.ensures ∙ c.if-is_own.false)

pub returns-in-None : goal.returns-in-None
returns-in-None c = goes_on_none c.args.me c.args.of_elision c.args.member c.args.trail.now c.in-None.ensures
