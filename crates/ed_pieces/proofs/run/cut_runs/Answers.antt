-- The runs of a cut are the cut of the runs.
use Rattle.std.proofs.Common.{◌≡◌, ◌++◌, [], ◌∙◌, drop, sym}
use Rattle.std.proofs.lemmas.List.{append-nil, drop_all}
use Rattle.ed_pieces.specs.Runs.{runs_cut}
use Rattle.ed_pieces.proofs.Cutting.{cut_runs}
use Rattle.ed_pieces.proofs.run.cut_runs.Goals as goal

pub returns : goal.returns
returns c =
    let none : drop c.loop-run.run-index c.args.runs.now ≡ [] = drop_all c.loop-run.run-index c.args.runs.now c.loop-run-test.false in
    let kept : c.loop-run.share.items ++ runs_cut c.loop-run.start c.loop-run.end (drop c.loop-run.run-index c.args.runs.now) ≡ runs_cut c.args.from c.args.to c.args.runs.now = c.loop-run.invariant in
    let done : c.loop-run.share.items ++ [] ≡ runs_cut c.args.from c.args.to c.args.runs.now = rw none at kept in
    sym (append-nil c.loop-run.share.items) ∙ done ∙ cut_runs c.args.from c.args.to c.args.runs.now c.requires
