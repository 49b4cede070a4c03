use Rattle.std.proofs.Common.{◌≡◌, drop}
use Rattle.std.specs.Prelude.{is_some}
use Rattle.std.specs.List.{list_any}
use Rattle.ed_held.specs.Moves.{move_of}
use Rattle.ed_climb.proofs.sources.has_moved.Given as goal

abbrev pub invariant-loop-source : goal.invariant-loop-source
invariant-loop-source l = list_any (λ v. is_some (move_of l.moves v.0)) (drop l.source-index l.sources) ≡ list_any (λ v. is_some (move_of l.moves v.0)) l.sources
