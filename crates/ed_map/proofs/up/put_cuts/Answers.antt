use Rattle.std.proofs.Common.{◌≡◌, ◌++◌, ◌-◌, ◌^◌, Some, ap, arith}
use Rattle.std.specs.Prelude.{flat_map, slice_get, slice_index_or}
use Rattle.std.proofs.lemmas.Option.{slice_get-get_or}
use Rattle.ed_base.specs.declared.edit.Span.{Span}
use Rattle.ed_map.specs.Up.{cut_to}
use Rattle.ed_map.proofs.CutSteps.{apart_get, cuts_skip, cuts_done}
use Rattle.ed_map.proofs.up.put_cuts.Goals as goal

pub loop-index-init : goal.loop-index-init
loop-index-init c = ap (λ xs. c.args.cuts.now.items ++ xs) (cuts_skip c.args.bounds c.args.at c.first_span_behind-index.result c.args.spans.now c.first_span_behind-index.ensures.before)

pub returns-then-end-span : goal.returns-then-end-span
returns-then-end-span c =
    let d : Span = record { start = 0; len = 0 } in
    let i = c.loop-index.index in
    let at : slice_get c.args.spans.now i ≡ Some (slice_index_or c.args.spans.now i d) = slice_get-get_or c.args.spans.now i d c.loop-index-test.true in
    cuts_done c.args.bounds c.args.at (2 ^ 32 - 1) i c.args.spans.now (slice_index_or c.args.spans.now i d) c.loop-index.cuts.items (c.args.cuts.now.items ++ flat_map (cut_to c.args.bounds c.args.at) c.args.spans.now) c.requires.apart at c.if-end-span.true c.loop-index.invariant

pub put_cut-requires-clause-span : goal.put_cut-requires-clause-span
put_cut-requires-clause-span c =
    let d : Span = record { start = 0; len = 0 } in
    let i = c.loop-index.index in
    let at : slice_get c.args.spans.now i ≡ Some (slice_index_or c.args.spans.now i d) = slice_get-get_or c.args.spans.now i d c.loop-index-test.true in
    omega (arith, (apart_get 0 (2 ^ 32 - 1) i c.args.spans.now (slice_index_or c.args.spans.now i d) c.requires.apart at).1)
