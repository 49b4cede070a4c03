use Rattle.std.proofs.Common.{rules, ap, ◌∙◌}
use Rattle.ed_turns.proofs.Seating.{join_allowed, merge_allowed}
use Rattle.ed_turns.proofs.Meeting.{meets}
use Rattle.ed_turns.proofs.seats.Turns.join.Goals as goal

pub join_seat-requires : goal.join_seat-requires
join_seat-requires g c = let m = g.M.Machine in let mine = c.into.invariant.0 in let theirs = c.seat.invariant.0 in (
  search rules,
  search rules,
  search rules,
  search rules,
  join_allowed m.fits m.reply m.after _ _ _ m.blank m.blank_aid _ _ c.into.inside.pass.me.0 c.seat.inside.pass.me.0 (ap (λ v. v.aside) mine) (ap (λ v. v.ticket) theirs) (ap (λ v. v.has_slot) theirs) (ap (λ v. v.aside) theirs),
)

pub load-requires : goal.load-requires
load-requires g c = let m = g.M.Machine in (search rules, search rules, merge_allowed m.fits m.reply m.after _ _ _ _ _ c.join_seat.new.seat.me (ap (λ x. x.0.has_slot) c.join_seat.ensures.2 ∙ ap (λ v. v.has_slot) c.into.invariant.0))

pub returns : goal.returns
returns g c = meets c.args.into.now c.args.seat c.into.inside.pass.table_id c.seat.inside.pass.table_id c.load.new.seat.table_id c.into.inside.number c.seat.inside.number c.into.inside.pass.me c.seat.inside.pass.me c.join_seat.new.seat.me c.load.new.seat.me
    c.into.view_is c.into.invariant.0 c.seat.view_is c.seat.invariant.0 (search rules) c.join_seat.ensures.2 c.load.ensures.2
