use Rattle.std.proofs.Common.{◌≡◌, ◌+◌, ◌∙◌, ap, Some, None, arith}
use Rattle.std.specs.Prelude.{option_map}
use Rattle.ed_layers.specs.Mapping.{beside}
use Rattle.ed_map.specs.Layers.{record_len}
use Rattle.ed_map.specs.Up.{first_within}
use Rattle.ed_map.proofs.ShownLemmas.{placed_as, there_is}
use Rattle.ed_map.proofs.PointSteps.{up_pointed, up_unreached}
use Rattle.ed_map.proofs.points.up_point.Goals as goal

pub returns-in_err-version : goal.returns-in_err-version
returns-in_err-version g c =
    let r = there_is (g.L.Layers.record_at c.args.layers.now c.args.top c.args.v) c.requires in
    c.from_residual.ensures ∙ up_unreached (g.L.Layers.record_at c.args.layers.now) (g.L.Layers.rank c.args.layers.now) c.placed.ensures.layers c.args.top c.args.v c.args.p c.args.of c.args.side r.0 r.1 c.in_err-version.ensures.version

pub returns-in_err-unit : goal.returns-in_err-unit
returns-in_err-unit g c =
    let r = there_is (g.L.Layers.record_at c.args.layers.now c.args.top c.args.v) c.requires in
    let x = there_is (g.L.Layers.record_at c.args.layers.now c.args.of c.in_ok-version.version) c.in_ok-version.ensures.there in
    let long = c.len-len.ensures x.0 (placed_as (g.L.Layers.record_at c.args.layers.now c.args.of c.in_ok-version.version) x.0 c.placed-2.result x.1 c.placed-2.ensures.placed) in
    up_pointed (g.L.Layers.record_at c.args.layers.now) (g.L.Layers.rank c.args.layers.now) c.placed.ensures.layers c.args.top c.args.v c.args.p c.in_ok-version.version c.len-len.result c.args.of c.args.side r.0 x.0 None c.from_residual-in_err-unit.result r.1 c.in_ok-version.ensures.version x.1 long c.in_err-unit.ensures (c.from_residual-in_err-unit.ensures)

pub returns-in_err-first : goal.returns-in_err-first
returns-in_err-first g c =
    let r = there_is (g.L.Layers.record_at c.args.layers.now c.args.top c.args.v) c.requires in
    let x = there_is (g.L.Layers.record_at c.args.layers.now c.args.of c.in_ok-version.version) c.in_ok-version.ensures.there in
    let long = c.len-len.ensures x.0 (placed_as (g.L.Layers.record_at c.args.layers.now c.args.of c.in_ok-version.version) x.0 c.placed-2.result x.1 c.placed-2.ensures.placed) in
    let whole = c.len.ensures r.0 (placed_as (g.L.Layers.record_at c.args.layers.now c.args.top c.args.v) r.0 c.placed.result r.1 c.placed.ensures.placed) in
    let end : 0 + c.len.result ≡ record_len r.0 = omega (arith, whole) in
    up_pointed (g.L.Layers.record_at c.args.layers.now) (g.L.Layers.rank c.args.layers.now) c.placed.ensures.layers c.args.top c.args.v c.args.p c.in_ok-version.version c.len-len.result c.args.of c.args.side r.0 x.0 (Some (c.in_ok-unit.unit, c.in_ok-unit.before)) c.from_residual-in_err-first.result r.1 c.in_ok-version.ensures.version x.1 long c.in_ok-unit.ensures (c.from_residual-in_err-first.ensures ∙ ap (option_map (beside c.in_ok-unit.before)) (c.in_err-first.ensures.first ∙ ap (first_within (g.L.Layers.record_at c.args.layers.now) 9 c.args.of c.in_ok-unit.unit c.args.top c.args.v 0) end))

pub returns : goal.returns
returns g c =
    let r = there_is (g.L.Layers.record_at c.args.layers.now c.args.top c.args.v) c.requires in
    let x = there_is (g.L.Layers.record_at c.args.layers.now c.args.of c.in_ok-version.version) c.in_ok-version.ensures.there in
    let long = c.len-len.ensures x.0 (placed_as (g.L.Layers.record_at c.args.layers.now c.args.of c.in_ok-version.version) x.0 c.placed-2.result x.1 c.placed-2.ensures.placed) in
    let whole = c.len.ensures r.0 (placed_as (g.L.Layers.record_at c.args.layers.now c.args.top c.args.v) r.0 c.placed.result r.1 c.placed.ensures.placed) in
    let end : 0 + c.len.result ≡ record_len r.0 = omega (arith, whole) in
    up_pointed (g.L.Layers.record_at c.args.layers.now) (g.L.Layers.rank c.args.layers.now) c.placed.ensures.layers c.args.top c.args.v c.args.p c.in_ok-version.version c.len-len.result c.args.of c.args.side r.0 x.0 (Some (c.in_ok-unit.unit, c.in_ok-unit.before)) (Some c.beside.result) r.1 c.in_ok-version.ensures.version x.1 long c.in_ok-unit.ensures (ap Some c.beside.ensures ∙ ap (option_map (beside c.in_ok-unit.before)) (c.in_ok-first.ensures.first ∙ ap (first_within (g.L.Layers.record_at c.args.layers.now) 9 c.args.of c.in_ok-unit.unit c.args.top c.args.v 0) end))
