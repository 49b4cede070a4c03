-- One run more.
use Rattle.std.proofs.Common.{◌≡◌, ◌∷◌, subst, List}
use Rattle.std.specs.Vec.Iter.{into_iter_items}
use Rattle.ed_layers.specs.Sending.{Run}
use Rattle.ed_pieces.proofs.Laying.{Running, running_next}
use Rattle.ed_pieces.proofs.landing.put_in.Goals as goal

pub loop-run-preserved : goal.loop-run-preserved
loop-run-preserved c =
    let rest : List Run = into_iter_items c.next.new.self in
    let left : into_iter_items c.loop-run.run-iterator ≡ c.in-Some.run' ∷ rest = c.in-Some.ensures.steps.0 in
    let next = running_next c.args.runs.items c.args.ways.now.items c.args.at c.loop-run.text c.loop-run.ways.items c.loop-run.start c.in-Some.run' rest (subst (λ (z : List Run). Running c.args.runs.items c.args.ways.now.items c.args.at c.loop-run.text c.loop-run.ways.items c.loop-run.start z) left c.loop-run.invariant) in
    let a = c.into_parts-trail.ensures in
    let b = c.as_slice.ensures in
    let d = c.in_ok-put_way.ensures in
    let e = c.in_ok-text.ensures in
    rw (e, d, b, a.trail, a.units) next
