use Rattle.std.proofs.Common.{◌≡◌, length, sym, ap, ◌∙◌}
use Rattle.ed_base.specs.Runs.{runs}
use Rattle.ed_layers.specs.Hidden.{nearest}
use Rattle.ed_layers.specs.Records.{is_shown}
use Rattle.ed_spans.specs.SpanSets.{gaps, held_below, in_spans}
use Rattle.ed_elide.proofs.ShownLemmas.{shown_runs}
use Rattle.ed_elide.proofs.ShownPairs.{gaps_nearest, gaps_shown}
use Rattle.ed_elide.proofs.hidden.Hidden.shown_runs.Goals as goal
use Rattle.ed_elide.proofs.hidden.Hidden.shown_runs.Goals.{In_ok-shown}

all : (c : In_ok-shown) → c.in_ok-shown.shown.items ≡ gaps 0 (length c.args.self.now) c.runs.result.now
all c = c.in_ok-shown.ensures.gaps ∙ ap (λ n. gaps 0 n c.runs.result.now) c.len.ensures

pub returns-clause-runs : goal.returns-clause-runs
returns-clause-runs c = all c ∙ sym (shown_runs (length c.args.self.now) c.runs.result.now c.runs.ensures.apart) ∙ ap (λ fs. runs (is_shown fs) (length c.args.self.now)) c.runs.ensures.flags

pub returns-clause-shown : goal.returns-clause-shown
returns-clause-shown c q below = ap (λ ss. in_spans ss q) (all c) ∙ gaps_shown (length c.args.self.now) q c.runs.result.now c.runs.ensures.apart below ∙ ap (λ fs. is_shown fs q) c.runs.ensures.flags

pub returns-clause-near : goal.returns-clause-near
returns-clause-near c p within = ap (held_below p) (all c) ∙ gaps_nearest (length c.args.self.now) p c.runs.result.now c.runs.ensures.apart within ∙ ap (λ fs. nearest fs p) c.runs.ensures.flags
