-- The units around the place tell the break there.
use Rattle.std.proofs.Common.{◌≡◌, ◌+◌, ◌-◌, ◌++◌, length, ap, ◌∙◌, arith}
use Rattle.std.specs.Prelude.{slice_range}
use Rattle.ed_units.specs.Breaks.{break_len}
use Rattle.ed_lines.proofs.Around.{break_around}
use Rattle.ed_lines.proofs.finding.break_at.Goals as goal

pub returns-then-run-around : goal.returns-then-run-around
returns-then-run-around g c =
    let us = g.T.Text.units c.args.text.now in
    let start = c.saturating_sub-start.result in
    let end = c.min-end.result in
    let whole : start + length c.run-run.result.now ≡ end = omega arith in
    c.break_len.ensures ∙ (ap (λ l. break_len l (c.args.at - start)) (c.run-run.ensures.units ∙ ap (slice_range us start) whole)
    ∙ break_around us start end c.args.at (omega arith) (omega arith) (λ some. omega (arith, some)) (λ more. omega (arith, more)))

pub returns : goal.returns
returns g c =
    let us = g.T.Text.units c.args.text.now in
    let start = c.saturating_sub-start.result in
    let end = c.min-end.result in
    let whole : start + (end - start) ≡ end = omega arith in
    c.break_len-2.ensures ∙ (ap (λ l. break_len l (c.args.at - start)) (c.as_slice.ensures ∙ (c.in_ok-copy_out.ensures.ok ∙ (ap (λ l. l ++ slice_range us start (start + (end - start))) c.new-units.ensures ∙ ap (slice_range us start) whole)))
    ∙ break_around us start end c.args.at (omega arith) (omega arith) (λ some. omega (arith, some)) (λ more. omega (arith, more)))
