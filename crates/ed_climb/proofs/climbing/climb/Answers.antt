use Rattle.std.proofs.Common.{◌∙◌}
use Rattle.ed_climb.proofs.Looped.{turn_can, turn_ended, turn_on, turn_stopped, turn_there}
use Rattle.ed_climb.proofs.climbing.climb.Goals as goal

pub turn-requires-clause-there : goal.turn-requires-clause-there
turn-requires-clause-there c =
    let w = c.requires.on_way in
    turn_there w.0 c.args.order.now w.2 c.loop-buffer.buffer-index c.loop-buffer.buffers c.loop-buffer.moves.items (c.loop-buffer.invariant.climbs w.0 w.1 w.2 w.3) c.buffer-item.result c.loop-buffer-test.true c.buffer-item.is

pub turn-requires-clause-can : goal.turn-requires-clause-can
turn-requires-clause-can c =
    let w = c.requires.on_way in
    turn_can w.0 c.args.order.now w.2 c.loop-buffer.buffer-index c.loop-buffer.buffers c.loop-buffer.moves.items (c.loop-buffer.invariant.climbs w.0 w.1 w.2 w.3) c.buffer-item.result c.loop-buffer-test.true c.buffer-item.is

pub returns-in-Err-clause-climbed : goal.returns-in-Err-clause-climbed
returns-in-Err-clause-climbed c = λ w done route climbs.
    turn_stopped w c.args.order.now route c.loop-buffer.buffer-index c.loop-buffer.buffers c.loop-buffer.moves.items (c.loop-buffer.invariant.climbs w done route climbs) c.buffer-item.result c.loop-buffer-test.true c.buffer-item.is
    c.turn.new.buffers c.turn.new.moves.items c.in-Err.fault c.in-Err.ensures.turned

pub loop-buffer-preserved : goal.loop-buffer-preserved
loop-buffer-preserved c = record {
  seen = c.in_default.ensures.seen;
  same = c.in_default.ensures.same ∙ c.loop-buffer.invariant.same;
  climbs = λ w done route climbs. turn_on w c.args.order.now route c.loop-buffer.buffer-index c.loop-buffer.buffers c.loop-buffer.moves.items (c.loop-buffer.invariant.climbs w done route climbs) c.buffer-item.result c.loop-buffer-test.true c.buffer-item.is
      c.turn.new.buffers c.turn.new.moves.items c.in_default.field-0 c.in_default.ensures.turned;
}

pub returns-clause-climbed : goal.returns-clause-climbed
returns-clause-climbed c = λ w done route climbs. turn_ended w c.args.order.now route c.loop-buffer.buffer-index c.loop-buffer.buffers c.loop-buffer.moves.items (c.loop-buffer.invariant.climbs w done route climbs) c.loop-buffer-test.false
