use Rattle.std.proofs.Common.{◌+◌, ◌-◌, [], arith, ◌∙◌, ap}
use Rattle.ed_text.specs.Splices.{spliced}
use Rattle.ed_text.proofs.Rows.{slice_twice}
use Rattle.ed_text.proofs.tree.slice_with.Goals as goal

pub returns : goal.returns
returns g c =
    let s = c.args.span.start in
    let e = c.args.span.start + c.args.span.len in
    c.in_ok-part.ensures.text ∙ (ap (λ us. spliced us 0 (0 + s) []) c.in_ok-front.ensures.text ∙ slice_twice c.args.text.now s c.args.span.len (e + (c.len-len.result - e)) (omega arith) (omega arith))
