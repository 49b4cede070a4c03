-- A unit of the run is one of the text.
use Rattle.std.proofs.Common.{◌≡◌, ◌+◌, ◌-◌, ◌<◌, Some, length, get_or, sym, ap, ◌∙◌, arith}
use Rattle.std.specs.Prelude.{slice_get}
use Rattle.std.proofs.lemmas.Option.{slice_get-get_or}
use Rattle.ed_lines.proofs.Around.{get_part, plain_break}
use Rattle.ed_lines.proofs.finding.behind_plain.Goals as goal

pub returns-clause-none : goal.returns-clause-none
returns-clause-none g c = λ q le lt.
    let us = g.T.Text.units c.args.text.now in
    let run = c.run-run.result.now in
    let inside : q - c.args.at < length run = omega (arith, le, lt, c.plain_len.ensures.within) in
    let is : slice_get run (q - c.args.at) ≡ Some (get_or run (q - c.args.at) 0) = slice_get-get_or run (q - c.args.at) 0 inside in
    let there : slice_get us q ≡ Some (get_or run (q - c.args.at) 0) = sym (get_part us c.args.at (c.args.at + length run) q le (omega (arith, le, inside))) ∙ (ap (λ l. slice_get l (q - c.args.at)) (sym c.run-run.ensures.units) ∙ is) in
    plain_break us q (get_or run (q - c.args.at) 0) there (c.plain_len.ensures.plain (q - c.args.at) 0 (omega arith) (omega (arith, le, lt)))
