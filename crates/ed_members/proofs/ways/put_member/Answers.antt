-- By what the member is, and whether its source stepped.
use Rattle.std.proofs.Common.{map, sym, subst}
use Rattle.std.specs.Prelude.{OnOk}
use Rattle.std.proofs.lemmas.Result.{on_ok_weaker}
use Rattle.ed_base.specs.declared.piece.Member.{Member}
use Rattle.ed_layers.specs.CarrierStep.{member_slots, slot_trail}
use Rattle.ed_layers.specs.Records.{member_len}
use Rattle.ed_members.specs.Moving.{EndsInNew}
use Rattle.ed_members.specs.Steps.{steps_seen}
use Rattle.ed_members.specs.Ways.{SayFurther}
use Rattle.ed_members.proofs.HandingUp.{ends_within, literal_further, resting_further, stepped_further}
use Rattle.ed_members.proofs.ways.put_member.Goals as goal

pub returns-in-Literal : goal.returns-in-Literal
returns-in-Literal c =
    subst (λ (m : Member). SayFurther c.args.list.now.items c.args.list.now.items c.args.place (member_len m) (map (slot_trail c.args.me c.args.of_elision (steps_seen c.args.steps.now)) (member_slots (c.args.index, m)))) (sym c.in-Literal.is)
    (literal_further c.args.me c.args.of_elision c.args.index c.args.place (steps_seen c.args.steps.now) c.args.list.now.items c.requires.lie c.in-Literal.field-0)

pub returns-in-None : goal.returns-in-None
returns-in-None c =
    subst (λ (m : Member). SayFurther c.args.list.now.items c.args.list.now.items c.args.place (member_len m) (map (slot_trail c.args.me c.args.of_elision (steps_seen c.args.steps.now)) (member_slots (c.args.index, m)))) (sym c.in-Tracked.is)
    (resting_further c.args.me c.args.of_elision c.args.index c.args.place (steps_seen c.args.steps.now) c.args.list.now.items c.requires.lie c.in-Tracked.source c.in-Tracked.bounds c.in-Tracked.mode c.in-None.ensures)

pub returns-in-Some : goal.returns-in-Some
returns-in-Some c =
    subst (λ (m : Member). OnOk c.put_step.result (SayFurther c.args.list.now.items c.put_step.new.list.items c.args.place (member_len m) (map (slot_trail c.args.me c.args.of_elision (steps_seen c.args.steps.now)) (member_slots (c.args.index, m))))) (sym c.in-Tracked.is)
    (on_ok_weaker c.put_step.result
    (λ put. stepped_further c.args.me c.args.of_elision c.args.index c.args.place (steps_seen c.args.steps.now) c.args.list.now.items c.requires.lie c.in-Tracked.source c.in-Tracked.bounds c.in-Tracked.mode c.in-Some.step.now c.put_step.new.list.items
    c.in-Some.ensures c.put_step.ensures.sound (ends_within c.in-Tracked.source c.in-Tracked.bounds c.in-Tracked.mode c.args.steps.now c.in-Some.step.now (subst (EndsInNew (steps_seen c.args.steps.now)) c.in-Tracked.is c.requires.within) c.in-Some.ensures) put)
    c.put_step.ensures.put)
