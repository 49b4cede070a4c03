use Rattle.std.proofs.Common.{◌≡◌, ap, sym, ◌∙◌, arith}
use Rattle.std.specs.Prelude.{is_some}
use Rattle.ed_map.proofs.ShownLemmas.{placed_members, placed_base, there_is}
use Rattle.ed_map.proofs.LowerSteps.{lower_begins, lower_none, named_at, lower_same}
use Rattle.ed_map.proofs.lower.+lower_version.Goals as goal

pub returns-then-eq-clause-version : goal.returns-then-eq-clause-version
returns-then-eq-clause-version g t c = lower_same (g.L.Layers.record_at c.args.layers.now) c.args.of c.args.top c.args.v (sym c.if-eq.ensures)

pub loop-entry-init : goal.loop-entry-init
loop-entry-init g t c =
    let r = there_is (g.L.Layers.record_at c.args.layers.now c.args.top c.args.v) c.requires in
    let p = placed_members (g.L.Layers.record_at c.args.layers.now c.args.top c.args.v) r.0 c.in-Carrier.members c.in-Carrier.sources r.1 c.in-Carrier.ensures.placed in
    lower_begins (g.L.Layers.record_at c.args.layers.now) (g.L.Layers.rank c.args.layers.now) c.placed-placed.ensures.layers c.args.of c.args.top c.args.v r.0 c.as_slice-entry-items.result.now r.1 (sym c.if-eq.ensures) (c.as_slice-entry-items.ensures ∙ p.1)

pub lower_version-requires : goal.lower_version-requires
lower_version-requires g t c κs within =
    let r = there_is (g.L.Layers.record_at c.args.layers.now c.args.top c.args.v) c.requires in
    let p = placed_members (g.L.Layers.record_at c.args.layers.now c.args.top c.args.v) r.0 c.in-Carrier.members c.in-Carrier.sources r.1 c.in-Carrier.ensures.placed in
    let l = named_at (g.L.Layers.record_at c.args.layers.now) (g.L.Layers.rank c.args.layers.now) c.placed-placed.ensures.layers c.args.top c.args.v c.loop-entry.entry-index r.0 c.as_slice-entry-items.result.now c.entry-item.result r.1 (c.as_slice-entry-items.ensures ∙ p.1) c.loop-entry-test.true c.entry-item.is in
    let d : g.L.Layers.rank c.args.layers.now c.args.top c.args.v ≡ t = c.decreases in
    (omega (arith, d, l.lower), (within, ap is_some l.there))

pub returns-in-Base-clause-version : goal.returns-in-Base-clause-version
returns-in-Base-clause-version g t c =
    let r = there_is (g.L.Layers.record_at c.args.layers.now c.args.top c.args.v) c.requires in
    lower_none (g.L.Layers.record_at c.args.layers.now) (g.L.Layers.rank c.args.layers.now) c.placed-placed.ensures.layers c.args.of c.args.top c.args.v r.0 r.1 (sym c.if-eq.ensures) (placed_base (g.L.Layers.record_at c.args.layers.now c.args.top c.args.v) r.0 c.in-Base.len r.1 c.in-Base.ensures.placed).1
