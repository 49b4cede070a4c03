-- What is made of the components is what the pieces leave.
use Rattle.ed_pieces.proofs.Marking.{is_landed}
use Rattle.ed_pieces.proofs.landing.land.Goals as goal

pub returns : goal.returns
returns c =
    let is = is_landed c.args.pieces.now c.args.len c.in_ok-arrived.arrived.old_len c.in_ok-arrived.arrived.components c.in_ok-landing.landing.changes c.in_ok-landing.landing.trails c.in_ok-arrived.ensures.old_len c.in_ok-arrived.ensures.components c.in_ok-landing.ensures.changes c.in_ok-landing.ensures.trails in
    record { changes = is.changes; step = is.step; text = is.text; trails = is.trails }
