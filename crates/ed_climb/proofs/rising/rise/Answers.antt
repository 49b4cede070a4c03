use Rattle.std.proofs.Common.{ap, ◌∙◌}
use Rattle.ed_layers.specs.Records.{is_carrier}
use Rattle.ed_members.specs.Steps.{steps_seen}
use Rattle.ed_risen.proofs.Lists.{got}
use Rattle.ed_held.specs.Seen.{known, last_of}
use Rattle.ed_climb.specs.Climbing.{source_snapshots}
use Rattle.ed_climb.proofs.Advanced.{goes_on}
use Rattle.ed_climb.proofs.rising.rise.Goals as goal

pub trails-requires-clause-carrier : goal.trails-requires-clause-carrier
trails-requires-clause-carrier c =
    let h = got c.args.buffers.now c.args.buffer c.requires.there in
    let next = c.in_ok-found.ensures.risen h.0 h.1 in
    ap is_carrier next.follows.record_is
    ∙ goes_on (known h.0).number (steps_seen c.args.steps.now) (source_snapshots c.args.buffers.now c.args.moves.now (known h.0)) (last_of (known h.0).buffer) (c.requires.can h.0 h.1).1

pub trails-requires-clause-within : goal.trails-requires-clause-within
trails-requires-clause-within c =
    let h = got c.args.buffers.now c.args.buffer c.requires.there in
    (c.in_ok-found.ensures.risen h.0 h.1).ends

pub returns-clause-risen : goal.returns-clause-risen
returns-clause-risen c = λ h is. (c.in_ok-found.ensures.risen h is, c.trails.ensures.apart, c.in_ok-trails.ensures.trails)
