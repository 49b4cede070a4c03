-- A break ends a line, and the last line ends with the text.
use Rattle.std.proofs.Common.{◌<◌, arith}
use Rattle.ed_units.specs.Breaks.{break_len}
use Rattle.ed_lines.proofs.Ahead.{found_up_to, found_line, found_all}
use Rattle.ed_lines.proofs.finding.lines_of.Goals as goal

pub loop-at-preserved-then-next-at : goal.loop-at-preserved-then-next-at
loop-at-preserved-then-next-at g c = found_up_to (g.T.Text.units c.args.text.now) c.loop-at.lines.items c.loop-at.start c.loop-at.at c.behind_plain-next.result c.behind_plain-next.ensures.behind c.behind_plain-next.ensures.within c.behind_plain-next.ensures.none c.loop-at.invariant

pub loop-at-preserved : goal.loop-at-preserved
loop-at-preserved g c =
    let us = g.T.Text.units c.args.text.now in
    let some : 0 < break_len us c.loop-at.at = omega (arith, c.in_ok-found.ensures, c.if-found-eq0.false) in
    rw (c.in_ok-push.ensures.items, c.line.ensures, c.in_ok-found.ensures)
    (found_line us c.loop-at.lines.items c.loop-at.start c.loop-at.at (omega arith) some c.loop-at.invariant)

pub returns-clause-rising : goal.returns-clause-rising
returns-clause-rising g c =
    rw (c.in_ok-push-2.ensures.items, c.line-2.ensures, c.len-len.ensures.value)
    (found_all (g.T.Text.units c.args.text.now) c.loop-at.lines.items c.loop-at.start c.loop-at.at (omega arith) c.loop-at.invariant).rising
