-- The runs of a text that is made of runs are those runs.
use Rattle.std.proofs.Common.{ap, sym, ◌∙◌}
use Rattle.ed_layers.specs.Pieces.{Component}
use Rattle.ed_layers.specs.Sending.{trail_runs}
use Rattle.ed_pieces.proofs.Cutting.{runs_again}
use Rattle.ed_pieces.proofs.part.Part.into_runs.Goals as goal

pub returns-clause-runs : goal.returns-clause-runs
returns-clause-runs c = sym (runs_again c.self.inside.runs.items c.self.invariant) ∙ ap (λ (p : Component). trail_runs p.text) c.self.view_is
