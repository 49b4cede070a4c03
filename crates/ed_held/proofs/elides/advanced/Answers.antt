use Rattle.std.proofs.Common.{◌≡◌, Bool, List, length, Some, None, sym, ap, ◌∙◌, subst}
use Rattle.std.specs.Prelude.{IfOk}
use Rattle.std.specs.Option.{option_copied}
use Rattle.ed_elide.specs.Records.{shown_now, version_at}
use Rattle.ed_members.specs.Steps.{steps_seen}
use Rattle.ed_held.specs.OfElisions.{found_snapshot, found_step}
use Rattle.ed_held.proofs.ElisionLemmas.{found_here, none_stepped, of_source, rests, rests_by, source_there}
use Rattle.ed_held.proofs.elides.advanced.Goals as goal

pub unreachable-requires : goal.unreachable-requires
unreachable-requires c =
    source_there c.args.elision.now.buffer (steps_seen c.args.steps.now) c.args.sources.now c.args.elision.now c.requires.can
    (ap (found_snapshot c.args.sources.now) (sym c.source.ensures) ∙ sym c.snapshot_in.ensures ∙ ap option_copied c.in_default.is)

pub set_hidden-requires-clause-source : goal.set_hidden-requires-clause-source
set_hidden-requires-clause-source c =
    (found_here c.args.sources.now c.args.elision.now.source c.in-Some.source.now (ap (found_snapshot c.args.sources.now) (sym c.source.ensures) ∙ sym c.snapshot_in.ensures ∙ ap option_copied c.in-Some.is)).0

pub set_hidden-requires-clause-new : goal.set_hidden-requires-clause-new
set_hidden-requires-clause-new c =
    let e = c.args.elision.now in
    let same : c.in_ok-hidden-in-None.hidden ≡ (shown_now e).hidden = c.in_ok-hidden-in-None.ensures ∙ c.hidden.ensures ∙ ap (λ v. (version_at e.versions v).hidden) c.now.ensures.version in
    let found : found_snapshot c.args.sources.now e.source ≡ Some c.in-Some.source.now = ap (found_snapshot c.args.sources.now) (sym c.source.ensures) ∙ sym c.snapshot_in.ensures ∙ ap option_copied c.in-Some.is in
    let none : found_step c.args.steps.now e.source ≡ None = ap (found_step c.args.steps.now) (sym c.source-2.ensures) ∙ sym c.step_in.ensures ∙ ap option_copied c.in-None.is in
    ap length same ∙ rests (steps_seen c.args.steps.now) e.source _ c.in-Some.source.now.text (of_source e.buffer (steps_seen c.args.steps.now) c.args.sources.now e c.in-Some.source.now c.requires.can found) (none_stepped c.args.steps.now e.source none)

pub returns-in_ok-hidden-in-None : goal.returns-in_ok-hidden-in-None
returns-in_ok-hidden-in-None c =
    let e = c.args.elision.now in
    let told = c.set_hidden.ensures in
    let same : c.in_ok-hidden-in-None.hidden ≡ (shown_now e).hidden = c.in_ok-hidden-in-None.ensures ∙ c.hidden.ensures ∙ ap (λ v. (version_at e.versions v).hidden) c.now.ensures.version in
    let none : found_step c.args.steps.now e.source ≡ None = ap (found_step c.args.steps.now) (sym c.source-2.ensures) ∙ sym c.step_in.ensures ∙ ap option_copied c.in-None.is in
    rests_by (steps_seen c.args.steps.now) c.args.sources.now e c.set_hidden.new.self c.in-Some.source.now c.set_hidden.result
    (ap (found_snapshot c.args.sources.now) (sym c.source.ensures) ∙ sym c.snapshot_in.ensures ∙ ap option_copied c.in-Some.is)
    (none_stepped c.args.steps.now e.source none)
    told.same (subst (λ (h : List Bool). IfOk c.set_hidden.result (λ n. n.hidden ≡ h)) same told.hidden) told.version told.text told.step told.planned
