use Rattle.ed_replay.proofs.Replays.{nothing_performed}
use Rattle.ed_replay.proofs.replay.play.Goals as goal

pub returns-clause-plays : goal.returns-clause-plays
returns-clause-plays g c = nothing_performed _ _ _ _ _ _ c.nothing_done.ensures.status c.nothing_done.ensures.entries
