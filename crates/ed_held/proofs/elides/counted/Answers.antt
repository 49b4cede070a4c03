use Rattle.ed_members.specs.Steps.{step_seen, steps_seen}
use Rattle.ed_held.proofs.ElisionLemmas.{found_here, goes, goes_by, of_source, stepped_here}
use Rattle.ed_held.proofs.elides.counted.Goals as goal

pub advance-requires-clause-source : goal.advance-requires-clause-source
advance-requires-clause-source g c = (found_here c.args.sources.now c.args.elision.now.source c.args.source.now c.requires.found).0

pub advance-requires-clause-steps : goal.advance-requires-clause-steps
advance-requires-clause-steps g c = (stepped_here c.args.steps.now c.args.elision.now.source c.args.step.now c.requires.stepped).0

pub advance-requires-clause-old : goal.advance-requires-clause-old
advance-requires-clause-old g c =
    let e = c.args.elision.now in
    (goes (steps_seen c.args.steps.now) e.source _ c.args.source.now.text (step_seen c.args.step.now) (of_source e.buffer (steps_seen c.args.steps.now) c.args.sources.now e c.args.source.now c.requires.can c.requires.found) (stepped_here c.args.steps.now e.source c.args.step.now c.requires.stepped).1).0

pub advance-requires-clause-new : goal.advance-requires-clause-new
advance-requires-clause-new g c =
    let e = c.args.elision.now in
    (goes (steps_seen c.args.steps.now) e.source _ c.args.source.now.text (step_seen c.args.step.now) (of_source e.buffer (steps_seen c.args.steps.now) c.args.sources.now e c.args.source.now c.requires.can c.requires.found) (stepped_here c.args.steps.now e.source c.args.step.now c.requires.stepped).1).1

pub returns : goal.returns
returns g c =
    goes_by (steps_seen c.args.steps.now) c.args.sources.now c.args.elision.now c.advance.new.self c.args.source.now (step_seen c.args.step.now) c.advance.result c.requires.found (stepped_here c.args.steps.now c.args.elision.now.source c.args.step.now c.requires.stepped).1
    c.advance.ensures.same c.advance.ensures.hidden c.advance.ensures.version c.advance.ensures.text c.advance.ensures.step c.advance.ensures.planned
