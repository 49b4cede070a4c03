use Rattle.std.proofs.Common.{length, ap, sym, subst, ◌∙◌}
use Rattle.ed_layers.specs.CarrierStep.{all_stay, stay_around}
use Rattle.ed_members.specs.Steps.{steps_seen}
use Rattle.ed_kept.specs.Kept.{pairs_of}
use Rattle.ed_project.specs.Kept.{AllBecome}
use Rattle.ed_project.specs.Planning.{IsNext}
use Rattle.ed_project.specs.Records.{shown}
use Rattle.ed_project.specs.Texts.{LiteralsStay}
use Rattle.ed_project.proofs.Literals.{literals_become}
use Rattle.ed_project.proofs.Nexts.{found_rising, next_is}
use Rattle.ed_project.proofs.Walking.{become_after, sources_after}
use Rattle.ed_project.proofs.Whole.{all_kept}
use Rattle.ed_project.proofs.shown.advanced.Goals as goal
use Rattle.ed_project.proofs.shown.advanced.Goals.{In_ok-members}

become : (c : In_ok-members) → AllBecome (steps_seen c.args.steps.now) c.args.old.now.members c.in_ok-members.members
become c = become_after c.args.me (steps_seen c.args.steps.now) c.args.old.now.members c.in_ok-members.members c.in_ok-members.ensures.members c.requires.within c.in_ok-members.ensures.within

pub text_of-requires-clause-there : goal.text_of-requires-clause-there
text_of-requires-clause-there c =
    sources_after (steps_seen c.args.steps.now) c.args.sources.now c.args.old.now.members c.in_ok-members.members (become (goal.at.text_of-requires-clause-there c).In_ok-members) c.requires.there c.in_ok-members.ensures.within

pub text_of-requires-clause-stays : goal.text_of-requires-clause-stays
text_of-requires-clause-stays c =
    subst (λ s. LiteralsStay (stay_around s.first s.removed s.added) c.args.old.now.members c.in_ok-members.members) (sym c.all.ensures)
    (literals_become (steps_seen c.args.steps.now) c.args.old.now.members c.in_ok-members.members (become (goal.at.text_of-requires-clause-stays c).In_ok-members))

pub kept_runs-requires-clause-becoming : goal.kept_runs-requires-clause-becoming
kept_runs-requires-clause-becoming c = become (goal.at.kept_runs-requires-clause-becoming c).In_ok-members

pub changes_between-requires : goal.changes_between-requires
changes_between-requires c =
    found_rising (steps_seen c.args.steps.now) c.args.old.now.members c.in_ok-members.members c.len-old_len.result (length c.in_ok-text.text) (pairs_of c.deref.result.now)
    (ap pairs_of c.deref.ensures.value ∙ c.in_ok-runs.ensures.pairs) (c.len-old_len.ensures.value ∙ c.requires.whole.long) c.in_ok-text.ensures.len (become (goal.at.changes_between-requires c).In_ok-members) c.in_ok-runs.ensures.rise

pub returns-clause-next : goal.returns-clause-next
returns-clause-next c =
    let kept = all_kept (steps_seen c.args.steps.now) c.args.old.now.members c.in_ok-members.members (become (goal.at.returns-clause-next c).In_ok-members) c.in_ok-runs.ensures.rise in
    subst (λ ms. IsNext all_stay (steps_seen c.args.steps.now) c.args.old.now (shown ms c.in_ok-versions_of.field-0 c.in_ok-text.text) c.in_ok-changes.changes) (sym c.members.view_is)
    (next_is all_stay (steps_seen c.args.steps.now) c.args.old.now (shown c.in_ok-members.members c.in_ok-versions_of.field-0 c.in_ok-text.text) c.deref.result.now c.len-old_len.result c.in_ok-changes.changes
    (kept ∙ sym (ap pairs_of c.deref.ensures.value ∙ c.in_ok-runs.ensures.pairs)) c.len-old_len.ensures.value c.requires.whole.long c.in_ok-text.ensures.len c.in_ok-changes.ensures.changes c.in_ok-changes.ensures.step c.in_ok-changes.ensures.len)
