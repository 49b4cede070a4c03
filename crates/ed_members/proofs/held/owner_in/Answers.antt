-- The last pair.
use Rattle.std.proofs.Common.{sym, ◌∙◌}
use Rattle.ed_members.proofs.Putting.{named_last, other_last}
use Rattle.ed_members.proofs.held.owner_in.Goals as goal

pub returns-then-eq : goal.returns-then-eq
returns-then-eq c = named_last c.args.me c.args.trail.now c.in_ok-carrier.field-0.now c.in_ok-carrier.ensures.value (sym c.eq.ensures ∙ c.if-eq.true)

pub returns-else-eq : goal.returns-else-eq
returns-else-eq c = other_last c.args.me c.args.trail.now c.in_ok-carrier.field-0.now c.in_ok-carrier.ensures.value (sym c.eq.ensures ∙ c.if-eq.false)
