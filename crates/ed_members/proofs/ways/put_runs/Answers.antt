-- What lies before the member and behind it says nothing.
use Rattle.std.proofs.Common.{◌≡◌, ◌++◌, List, Some, ap, sym, ◌∙◌}
use Rattle.std.specs.Prelude.{slice_get}
use Rattle.std.proofs.lemmas.List.{append-nil}
use Rattle.std.proofs.lemmas.Option.{slice_get-get_or}
use Rattle.ed_pieces.specs.declared.trails.TrailRun.{TrailRun}
use Rattle.ed_members.proofs.HandingUp.{above_passed, above_ended}
use Rattle.ed_members.proofs.ways.put_runs.Goals as goal

pub loop-at-init : goal.loop-at-init
loop-at-init c = ap (λ (xs : List TrailRun). c.args.list.now.items ++ xs) (above_passed c.args.me c.args.of_elision c.args.member c.args.place c.args.bounds c.first_behind-at.result c.args.runs.now c.first_behind-at.ensures.before)

pub returns-then-end-run : goal.returns-then-end-run
returns-then-end-run c =
    let here : slice_get c.args.runs.now c.loop-at.at ≡ Some c.index-runs-at.result = slice_get-get_or c.args.runs.now c.loop-at.at c.index-runs-at.result c.loop-at-test.true ∙ ap Some (sym c.index-runs-at.is) in
    sym (append-nil c.loop-at.list.items)
    ∙ ap (λ (xs : List TrailRun). c.loop-at.list.items ++ xs) (sym (above_ended c.args.me c.args.of_elision c.args.member c.args.place c.args.bounds 0 c.loop-at.at c.args.runs.now c.index-runs-at.result c.requires.rising here c.if-end-run.true))
    ∙ c.loop-at.invariant
