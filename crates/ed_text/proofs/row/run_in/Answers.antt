-- The run of the node that has the place is one of the row.
use Rattle.std.proofs.Common.{◌-◌, length, arith, ◌∙◌, sym}
use Rattle.ed_text.proofs.Rows.{row_range_into}
use Rattle.ed_text.proofs.row.run_in.Goals as goal

pub returns-clause-units : goal.returns-clause-units
returns-clause-units g c =
    let p = c.locate-place in
    c.run.ensures.units ∙ sym (row_range_into g.C.Level.units c.args.row.now p.result.front.now p.result.back.now p.result.child.now c.args.at (p.result.at - 1) (length c.run.result.now) p.ensures.row (omega arith) (omega arith))
