-- Without a change the text stays.
use Rattle.std.proofs.Common.{◌≡◌, length, arith, sym, ◌∙◌}
use Rattle.ed_text.proofs.Idle.{applied_nothing}
use Rattle.ed_text.proofs.plain.PlainTextText.replace.Goals as goal

pub returns-then-count-eq0-clause-text : goal.returns-then-count-eq0-clause-text
returns-then-count-eq0-clause-text c =
    let none : length c.args.changes.now.changes ≡ 0 = omega (arith, c.count.ensures, c.if-count-eq0.true) in
    c.in_ok-same.ensures ∙ sym (applied_nothing c.args.changes.now c.args.self.now none)
