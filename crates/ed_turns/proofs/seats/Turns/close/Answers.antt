use Rattle.std.proofs.Common.{rules, sym, refl, ap, ◌∙◌, subst, IsSome}
use Rattle.ed_turns.specs.Called.{state_after, IsHistory}
use Rattle.ed_turns.proofs.Meeting.{closes, closed_value}
use Rattle.ed_turns.proofs.seats.Turns.close.Goals as goal

pub unwrap-held-requires : goal.unwrap-held-requires
unwrap-held-requires g c = let m = g.M.Machine in
    subst IsSome (sym (closes m.fits m.reply m.after _ _ c.self.inside.table.shared.key.2 c.args.seat c.seat.inside.pass.table_id c.seat.inside.number c.seat.inside.pass.id c.seat.inside.pass.me.0 _ _ c.take.result c.seat.view_is c.seat.invariant.0
    (c.requires.all ∙ sym (ap (λ p. p.seats) c.self.view_is)) c.close_with-closed.ensures.values.2 c.take.ensures.value).1) refl

pub returns : goal.returns
returns g c = let m = g.M.Machine in
    let t = closed_value m.fits m.reply m.after _ _ c.self.inside.table.shared.key.2 c.args.seat c.seat.inside.pass.table_id c.seat.inside.number c.seat.inside.pass.id c.seat.inside.pass.me.0 _ _ c.take.result c.unwrap-held.result c.seat.view_is c.seat.invariant.0
    (c.requires.all ∙ sym (ap (λ p. p.seats) c.self.view_is)) c.close_with-closed.ensures.values.2 c.take.ensures.value (search rules) in record {
      history = t.0;
      machine = t.1 ∙ ap (λ l. state_after m.fits m.reply m.after l c.args.seat.front) c.requires.own;
      legal = subst (λ l. IsHistory m.fits m.reply m.after l c.args.seat.front) c.requires.own t.2;
    }
