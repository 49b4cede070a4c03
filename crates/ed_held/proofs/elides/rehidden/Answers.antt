use Rattle.std.proofs.Common.{◌≡◌, Some, refl, sym, ap, ◌∙◌}
use Rattle.std.specs.Option.{option_copied}
use Rattle.ed_project.specs.Texts.{no_steps}
use Rattle.ed_held.specs.OfElisions.{found_snapshot}
use Rattle.ed_held.proofs.ElisionLemmas.{found_here, of_source, rehides_by, rests, source_there}
use Rattle.ed_held.proofs.elides.rehidden.Goals as goal

pub unreachable-requires : goal.unreachable-requires
unreachable-requires c =
    source_there c.args.elision.now.buffer no_steps c.args.sources.now c.args.elision.now c.requires.can
    (ap (found_snapshot c.args.sources.now) (sym c.source.ensures) ∙ sym c.snapshot_in.ensures ∙ ap option_copied c.in_default.is)

pub set_hidden-requires-clause-source : goal.set_hidden-requires-clause-source
set_hidden-requires-clause-source c =
    (found_here c.args.sources.now c.args.elision.now.source c.in-Some.source.now (ap (found_snapshot c.args.sources.now) (sym c.source.ensures) ∙ sym c.snapshot_in.ensures ∙ ap option_copied c.in-Some.is)).0

pub set_hidden-requires-clause-new : goal.set_hidden-requires-clause-new
set_hidden-requires-clause-new c =
    let e = c.args.elision.now in
    let found : found_snapshot c.args.sources.now e.source ≡ Some c.in-Some.source.now = ap (found_snapshot c.args.sources.now) (sym c.source.ensures) ∙ sym c.snapshot_in.ensures ∙ ap option_copied c.in-Some.is in
    c.requires.size ∙ rests no_steps e.source _ c.in-Some.source.now.text (of_source e.buffer no_steps c.args.sources.now e c.in-Some.source.now c.requires.can found) refl

pub returns : goal.returns
returns c =
    let told = c.set_hidden.ensures in
    rehides_by c.args.sources.now c.args.elision.now c.set_hidden.new.self c.in-Some.source.now c.args.hidden c.set_hidden.result
    (ap (found_snapshot c.args.sources.now) (sym c.source.ensures) ∙ sym c.snapshot_in.ensures ∙ ap option_copied c.in-Some.is)
    told.same told.hidden told.version told.text told.step told.planned
