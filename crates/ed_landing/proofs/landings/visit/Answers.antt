use Rattle.std.proofs.Common.{sym}
use Rattle.ed_callbacks.specs.HookLists.{hook_table}
use Rattle.ed_risen.proofs.Lists.{got}
use Rattle.ed_landing.proofs.Visits.{on_fault, on_landing, on_passing}
use Rattle.ed_landing.proofs.landings.visit.Goals as goal

pub returns-then-not-is_met-clause-on : goal.returns-then-not-is_met-clause-on
returns-then-not-is_met-clause-on g c = λ hs graph pending boxes on arrived box so_far.
    on_passing (hook_table c.args.hooks.now) c.args.buffers.now c.args.buffers.now c.args.moves.now.items c.args.moves.now.items c.args.buffer c.args.pieces.now c.args.long c.requires.there hs graph pending boxes on arrived box so_far c.if-not-is_met.ensures

pub land-requires-clause-put_in : goal.land-requires-clause-put_in
land-requires-clause-put_in g c =
    let h = got c.args.buffers.now c.args.buffer c.requires.there in
    c.requires.put_in h.0 h.1 (sym (c.if-not-is_met.ensures h.0 h.1))

pub returns-in-Ok-clause-on : goal.returns-in-Ok-clause-on
returns-in-Ok-clause-on g c = λ hs graph pending boxes on arrived box so_far.
    on_landing (hook_table c.args.hooks.now) c.args.buffers.now c.land.new.buffers c.args.moves.now.items c.land.new.moves.items c.args.buffer c.args.pieces.now c.args.long c.requires.there hs graph pending boxes on arrived box so_far c.if-not-is_met.ensures c.land.ensures.same c.in-Ok.ensures.landed

pub returns-in-Err-clause-on : goal.returns-in-Err-clause-on
returns-in-Err-clause-on g c = λ hs graph pending boxes on arrived box so_far.
    on_fault (hook_table c.args.hooks.now) c.args.buffers.now c.land.new.buffers c.args.moves.now.items c.land.new.moves.items c.args.buffer c.args.pieces.now c.args.long c.requires.there hs graph pending boxes on arrived box so_far c.if-not-is_met.ensures c.land.ensures.same c.in-Err.fault c.in-Err.ensures.landed c.after.result c.after.ensures
