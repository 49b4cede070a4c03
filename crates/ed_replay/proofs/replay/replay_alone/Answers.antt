use Rattle.std.proofs.Common.{◌≡◌, arith, refl, true, false}
use Rattle.ed_replay.proofs.Replays.{played, forgotten, too_long}
use Rattle.ed_replay.proofs.replay.replay_alone.Goals as goal

no : false ≡ true → ⊥
no e = cc

pub returns-in-End : goal.returns-in-End
returns-in-End g c = played _ _ c.read_all-taken.result.bytes.items true c.read_all-taken.ensures.taken (omega (arith, c.read_all-taken.ensures.within, c.read_all-taken.result.bytes.ok.0)) (λ e. c.read_all-taken.ensures.end c.in-End.is) (λ none. refl) c.play.ensures.plays c.play.ensures.lawful

pub returns-in-Limit : goal.returns-in-Limit
returns-in-Limit g c =
    let long = c.read_all-taken.ensures.limit.0 c.in-Limit.is in
    played _ _ c.read_all-taken.result.bytes.items false c.read_all-taken.ensures.taken (omega (arith, c.read_all-taken.ensures.within, c.read_all-taken.result.bytes.ok.0)) (λ e. absurd (no e)) (λ none. absurd (too_long c.read_all-taken.result.bytes.items false (omega (arith, long, c.read_all-taken.result.bytes.ok.0)) none)) c.play-in-Limit.ensures.plays c.play-in-Limit.ensures.lawful

pub returns-in-Memory : goal.returns-in-Memory
returns-in-Memory g c = forgotten _ _ c.read_all-taken.result.bytes.items c.read_all-taken.ensures.taken (omega (arith, c.read_all-taken.ensures.within, c.read_all-taken.result.bytes.ok.0)) refl c.nothing_done-in-Memory.ensures.status c.nothing_done-in-Memory.ensures.entries
