use Rattle.std.proofs.Common.{◌∙◌, ap, Some, None}
use Rattle.std.specs.Prelude.{option_map}
use Rattle.ed_layers.specs.Mapping.{beside}
use Rattle.ed_map.proofs.ShownLemmas.{placed_as}
use Rattle.ed_map.proofs.PointSteps.{down_pointed}
use Rattle.ed_map.proofs.points.down_point.Goals as goal

pub returns-in_err-unit : goal.returns-in_err-unit
returns-in_err-unit g c =
    down_pointed (g.L.Layers.record_at c.args.layers.now) (g.L.Layers.rank c.args.layers.now) c.placed.ensures.layers c.args.top c.args.v c.args.p c.len-len.result c.args.to c.args.side c.requires.is None c.from_residual.result c.requires.there c.requires.within
    (c.len-len.ensures c.requires.is (placed_as (g.L.Layers.record_at c.args.layers.now c.args.top c.args.v) c.requires.is c.placed.result c.requires.there c.placed.ensures.placed)) c.in_err-unit.ensures c.from_residual.ensures

pub returns-in_err-place : goal.returns-in_err-place
returns-in_err-place g c =
    down_pointed (g.L.Layers.record_at c.args.layers.now) (g.L.Layers.rank c.args.layers.now) c.placed.ensures.layers c.args.top c.args.v c.args.p c.len-len.result c.args.to c.args.side c.requires.is (Some (c.in_ok-unit.unit, c.in_ok-unit.before)) c.from_residual-in_err-place.result c.requires.there c.requires.within
    (c.len-len.ensures c.requires.is (placed_as (g.L.Layers.record_at c.args.layers.now c.args.top c.args.v) c.requires.is c.placed.result c.requires.there c.placed.ensures.placed)) c.in_ok-unit.ensures (c.from_residual-in_err-place.ensures ∙ ap (option_map (beside c.in_ok-unit.before)) c.in_err-place.ensures.place)

pub returns : goal.returns
returns g c =
    down_pointed (g.L.Layers.record_at c.args.layers.now) (g.L.Layers.rank c.args.layers.now) c.placed.ensures.layers c.args.top c.args.v c.args.p c.len-len.result c.args.to c.args.side c.requires.is (Some (c.in_ok-unit.unit, c.in_ok-unit.before)) (Some c.beside.result) c.requires.there c.requires.within
    (c.len-len.ensures c.requires.is (placed_as (g.L.Layers.record_at c.args.layers.now c.args.top c.args.v) c.requires.is c.placed.result c.requires.there c.placed.ensures.placed)) c.in_ok-unit.ensures (ap Some c.beside.ensures ∙ ap (option_map (beside c.in_ok-unit.before)) c.in_ok-place.ensures.place)
