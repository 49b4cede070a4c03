use Rattle.ed_climb.proofs.Committed.{may_turn}
use Rattle.ed_climb.proofs.making.carry_out.Goals as goal

pub turn-requires : goal.turn-requires
turn-requires c = may_turn c.args.buffers.now c.make_all.new.buffers c.args.turned c.make_all.ensures.turning c.requires.turning
