use Rattle.std.proofs.Common.{refl}
use Rattle.ed_held.proofs.Landed.{lands_by}
use Rattle.ed_held.proofs.lands.base_landing.Goals as goal

pub returns : goal.returns
returns g c =
    lands_by _ c.args.base.now c.plan.new.self c.args.pieces.now c.plan.result c.plan.ensures.same c.plan.ensures.fault c.plan.ensures.changes c.plan.ensures.text (c.plan.ensures.own_number refl) c.plan.ensures.trails c.plan.ensures.planned
