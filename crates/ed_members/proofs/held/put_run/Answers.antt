-- The member of the run, and the others.
use Rattle.std.proofs.Common.{◌≡◌, ◌<◌, true, length, None, Some, sym, ◌∙◌, ap, arith}
use Rattle.std.specs.Prelude.{slice_get}
use Rattle.std.proofs.lemmas.List.{get_or_read}
use Rattle.ed_members.specs.Advance.{is_step, joined, owner_in, run_range}
use Rattle.ed_members.proofs.Putting.{run_taken, run_passed, run_stays, is_step_below}
use Rattle.ed_members.proofs.held.put_run.Goals as goal

pub returns-in_default-clause-each : goal.returns-in_default-clause-each
returns-in_default-clause-each c =
    run_passed c.args.me c.args.len c.args.index c.args.indices.now c.args.held.now.items c.args.run.now (ap (owner_in c.args.me) (sym c.as_slice.ensures) ∙ sym c.in_default.ensures)

pub returns-then-is_step-clause-each : goal.returns-then-is_step-clause-each
returns-then-is_step-clause-each c =
    let owner : owner_in c.args.me c.args.run.now.trail ≡ Some c.in-Some.owner = ap (owner_in c.args.me) (sym c.as_slice.ensures) ∙ sym c.in-Some.ensures in
    let taken : is_step c.args.index (slice_get c.args.indices.now c.in-Some.owner) ≡ true = sym c.is_step.ensures ∙ c.if-is_step.true in
    let there : c.in-Some.owner < length c.args.indices.now = is_step_below c.args.index c.in-Some.owner c.args.indices.now taken in
    let below : c.in-Some.owner < length c.args.held.now.items = omega (arith, c.requires) in
    run_taken c.args.me c.args.len c.args.index c.args.indices.now c.args.held.now.items c.args.run.now c.in-Some.owner c.widened.result owner taken below
    (c.widened.ensures ∙ ap (λ h. joined h (run_range c.args.len c.args.run.now)) (get_or_read c.args.held.now.items c.in-Some.owner c.index.result.now below c.index.ensures None))

pub returns-else-is_step-clause-each : goal.returns-else-is_step-clause-each
returns-else-is_step-clause-each c =
    run_stays c.args.me c.args.len c.args.index c.args.indices.now c.args.held.now.items c.args.run.now c.in-Some.owner
    (ap (owner_in c.args.me) (sym c.as_slice.ensures) ∙ sym c.in-Some.ensures) (sym c.is_step.ensures ∙ c.if-is_step.false)
