use Rattle.std.proofs.Common.{◌≡◌, ℕ, List, [], false, true, sym, ◌∙◌, subst}
use Rattle.std.specs.Prelude.{IfOk}
use Rattle.ed_base.specs.declared.Member.{Member}
use Rattle.ed_elide.specs.Records.{record_next}
use Rattle.ed_members.specs.Steps.{steps_seen}
use Rattle.ed_layers.specs.CarrierStep.{record_trails}
use Rattle.ed_layers.specs.Records.{is_elision, members_len, members_of, projection}
use Rattle.ed_pieces.specs.Trails.{trails_in}
use Rattle.ed_pieces.specs.declared.TrailRun.{TrailRun}
use Rattle.ed_held.specs.Moves.{record_of}
use Rattle.ed_held.specs.declared.moves.Planned.{Planned}
use Rattle.ed_held.proofs.ElisionLemmas.{same_ways}
use Rattle.ed_held.proofs.KindLemmas.{if_for}
use Rattle.ed_held.proofs.moves.Planned.trails.Goals as goal

pub returns-in-Projection-clause-trails : goal.returns-in-Projection-clause-trails
returns-in-Projection-clause-trails c =
    let n = c.in-Projection.next in
    subst (λ (p : Planned). IfOk c.trails.result (λ (ts : List TrailRun). trails_in ts (members_len (members_of (record_of p))) ≡ record_trails c.args.me (is_elision (record_of p)) (steps_seen c.args.steps.now) (record_of p))) (sym c.in-Projection.is)
    (if_for (λ (ts : List TrailRun) (vs : List (ℕ × ℕ)). trails_in ts (members_len n.members) ≡ record_trails c.args.me false (steps_seen c.args.steps.now) (projection n.members vs)) c.trails.result n.sources
    (subst (λ (ms : List Member). IfOk c.trails.result (λ (ts : List TrailRun). (vs : List (ℕ × ℕ)) → trails_in ts (members_len ms) ≡ record_trails c.args.me false (steps_seen c.args.steps.now) (projection ms vs))) c.members-members.ensures c.trails.ensures))

pub returns-in-Elision-clause-trails : goal.returns-in-Elision-clause-trails
returns-in-Elision-clause-trails c =
    let n = c.in-Elision.next in
    let ms : List Member = members_of (record_next n) in
    subst (λ (p : Planned). IfOk c.trails-in-Elision.result (λ (ts : List TrailRun). trails_in ts (members_len (members_of (record_of p))) ≡ record_trails c.args.me (is_elision (record_of p)) (steps_seen c.args.steps.now) (record_of p))) (sym c.in-Elision.is)
    (subst (λ (ways : List (List (ℕ × ℕ))). IfOk c.trails-in-Elision.result (λ (ts : List TrailRun). trails_in ts (members_len ms) ≡ ways)) (same_ways c.args.me (steps_seen c.args.steps.now) n.hidden n.source n.version [])
    (if_for (λ (ts : List TrailRun) (vs : List (ℕ × ℕ)). trails_in ts (members_len ms) ≡ record_trails c.args.me true (steps_seen c.args.steps.now) (projection ms vs)) c.trails-in-Elision.result []
    (subst (λ (xs : List Member). IfOk c.trails-in-Elision.result (λ (ts : List TrailRun). (vs : List (ℕ × ℕ)) → trails_in ts (members_len xs) ≡ record_trails c.args.me true (steps_seen c.args.steps.now) (projection xs vs))) (c.members-members-in-Elision.ensures.members ∙ c.members-members-in-Elision.ensures.record_is.members) c.trails-in-Elision.ensures)))
