use Rattle.std.proofs.Common.{◌≡◌, length, sym, ap, ◌∙◌}
use Rattle.ed_base.specs.Runs.{runs}
use Rattle.ed_layers.specs.Records.{is_hidden}
use Rattle.ed_elide.proofs.FlagLemmas.{length_flags, runs_of_flags}
use Rattle.ed_elide.proofs.hidden.Hidden.runs.Goals as goal
use Rattle.ed_elide.proofs.hidden.Hidden.runs.Goals.{After-self}

len_is : (c : After-self) → c.self.inside.len ≡ length c.args.self.now
len_is c = sym (length_flags c.self.inside.len c.self.inside.spans.items) ∙ ap length c.self.view_is

pub returns-clause-runs : goal.returns-clause-runs
returns-clause-runs c =
    c.as_slice.ensures.value ∙ sym (runs_of_flags c.self.inside.len c.self.inside.spans.items c.self.invariant.apart) ∙ ap (λ fs. runs (is_hidden fs) c.self.inside.len) c.self.view_is ∙ ap (runs (is_hidden c.args.self.now)) (len_is (goal.at.returns-clause-runs c).After-self)

pub returns-clause-apart : goal.returns-clause-apart
returns-clause-apart c = rw (c.as_slice.ensures.value, ← len_is (goal.at.returns-clause-apart c).After-self) c.self.invariant.apart

pub returns-clause-flags : goal.returns-clause-flags
returns-clause-flags c = rw (c.as_slice.ensures.value, ← len_is (goal.at.returns-clause-flags c).After-self) c.self.view_is
