use Rattle.std.proofs.Common.{◌≡◌, ℕ, ◌<◌, ◌++◌, Some, drop, take}
use Rattle.std.specs.Prelude.{slice_get}
use Rattle.ed_base.specs.declared.piece.Member.{Member}
use Rattle.ed_layers.specs.Records.{members_len}
use Rattle.ed_members.specs.Steps.{steps_seen}
use Rattle.ed_kept.specs.Kept.{pairs_of}
use Rattle.ed_project.specs.Kept.{AllBecome, Rises, all_pairs}
use Rattle.ed_project.proofs.runs.kept_runs.Given as goal

abbrev pub invariant-loop-i : goal.invariant-loop-i
invariant-loop-i l = record {
  pairs : pairs_of l.runs.items ++ all_pairs (steps_seen l.steps) (members_len (take l.i l.old)) (members_len (take l.i l.new)) (drop l.i l.old) (drop l.i l.new) ≡ all_pairs (steps_seen l.steps) 0 0 l.old l.new;
  become : AllBecome (steps_seen l.steps) (drop l.i l.old) (drop l.i l.new);
  rise : (k : ℕ) (m : Member) → k < l.i → slice_get l.new k ≡ Some m → Rises (steps_seen l.steps) m;
}
