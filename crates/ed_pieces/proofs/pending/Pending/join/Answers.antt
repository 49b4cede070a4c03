-- One run more.
use Rattle.std.proofs.Common.{◌≡◌, ◌∙◌, ap, sym, rules, subst}
use Rattle.ed_pieces.specs.Runs.{AreRuns, text_of, put_run}
use Rattle.ed_pieces.proofs.Cutting.{put_text, put_are}
use Rattle.ed_pieces.proofs.pending.Pending.join.Goals as goal

pub returns-clause-text : goal.returns-clause-text
returns-clause-text c =
    let put : c.put_run.new.runs.items ≡ put_run c.args.self.now.runs.items c.args.piece.now.trail c.args.piece.now.text = search rules in
    ap text_of put ∙ put_text c.args.self.now.runs.items c.args.piece.now.trail c.args.piece.now.text

pub returns-clause-runs : goal.returns-clause-runs
returns-clause-runs c =
    let put : c.put_run.new.runs.items ≡ put_run c.args.self.now.runs.items c.args.piece.now.trail c.args.piece.now.text = search rules in
    subst AreRuns (sym put) (put_are c.args.self.now.runs.items c.args.piece.now.trail c.args.piece.now.text c.requires.runs)
