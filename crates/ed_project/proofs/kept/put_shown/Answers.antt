use Rattle.std.proofs.Common.{◌≡◌, ◌++◌, OnOk, ap, sym, subst, ◌∙◌, arith}
use Rattle.std.proofs.lemmas.List.{append-nil}
use Rattle.ed_kept.specs.Kept.{pairs_of}
use Rattle.ed_project.proofs.Showing.{IsPart, is_part, part_none, part_some}
use Rattle.ed_project.proofs.kept.put_shown.Goals as goal
use Rattle.ed_project.proofs.kept.put_shown.Goals.{After-min-end}

part : (c : After-min-end) → IsPart c.args.shift.now c.args.run.old c.args.run.new c.args.run.len c.max-first.result c.min-end.result
part c = is_part c.args.shift.now c.args.run.old c.args.run.new c.args.run.len c.max-first.result c.min-end.result (omega arith) (omega arith)

pub returns-then-first-end : goal.returns-then-first-end
returns-then-first-end c =
    sym (ap (λ zs. pairs_of c.args.runs.now.items ++ zs) (part_none c.args.shift.now c.args.run.old c.args.run.new c.args.run.len c.max-first.result c.min-end.result (part (goal.at.returns-then-first-end c).After-min-end) (omega (arith, c.if-first-end.true)))
    ∙ append-nil (pairs_of c.args.runs.now.items))

pub returns : goal.returns
returns c =
    subst (λ zs. OnOk c.put_run.result (pairs_of c.put_run.new.runs.items ≡ pairs_of c.args.runs.now.items ++ zs))
    (sym (part_some c.args.shift.now c.args.run.old c.args.run.new c.args.run.len c.max-first.result c.min-end.result (part (goal.at.returns c).After-min-end) (omega (arith, c.if-first-end.false))))
    c.put_run.ensures
