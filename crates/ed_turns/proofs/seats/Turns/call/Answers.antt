use Rattle.std.proofs.Common.{rules, sym, ap, ◌∙◌}
use Rattle.ed_turns.proofs.Answering.{took, may_step, turned_away, answered}
use Rattle.ed_turns.proofs.seats.Turns.call.Goals as goal

pub returns-then-held : goal.returns-then-held
returns-then-held g c = let m = g.M.Machine in let t = took m.fits m.reply m.after c.args.seat.now c.seat.inside.pass.table_id c.seat.inside.number c.seat.inside.pass.me c.enter-held.new.pass.me c.enter-held.result c.seat.view_is c.seat.invariant.0 c.enter-held.ensures.turn in
    let a = turned_away m.fits m.reply m.after t (λ _. Unit {0}) c.leave.new.pass.table_id c.leave.new.pass.me (search rules) c.leave.ensures.turn c.if-held.true in record {
      called = tt;
      refused = a.0;
      shut = search rules;
      kept = a.1;
    }

pub make-requires-clause-fits : goal.make-requires-clause-fits
make-requires-clause-fits g c κs within = let m = g.M.Machine in let law = g.met.M.Machine g.world.𝓛 g.world.𝓜 g.world.𝓡 ((λ s x. x), (λ x. x), (λ x. x), λ x. x) in let t = took m.fits m.reply m.after c.args.seat.now c.seat.inside.pass.table_id c.seat.inside.number c.seat.inside.pass.me c.enter-held.new.pass.me c.enter-held.result c.seat.view_is c.seat.invariant.0 c.enter-held.ensures.turn in
    may_step m.fits m.reply m.after t law.lasts c.args.event c.args.load c.args.aid.now (c.requires.aid ∙ sym (ap (λ l. l.aid) c.requires.own)) c.requires.fits

pub returns : goal.returns
returns g c = let m = g.M.Machine in let law = g.met.M.Machine g.world.𝓛 g.world.𝓜 g.world.𝓡 ((λ s x. x), (λ x. x), (λ x. x), λ x. x) in let t = took m.fits m.reply m.after c.args.seat.now c.seat.inside.pass.table_id c.seat.inside.number c.seat.inside.pass.me c.enter-held.new.pass.me c.enter-held.result c.seat.view_is c.seat.invariant.0 c.enter-held.ensures.turn in
    let a = answered m.fits m.reply m.after t law.lasts c.args.event c.args.load c.args.aid.now (c.requires.aid ∙ sym (ap (λ l. l.aid) c.requires.own)) c.requires.fits c.if-held.false c.make.new.pass.table_id c.make.new.pass.me (search rules) (λ _. Unit {0}) c.make.result tt c.make.ensures.made in record {
      called = a.0;
      refused = a.1;
      shut = search rules;
      kept = a.2;
    }
