use Rattle.std.proofs.Common.{◌≡◌, ◌+◌, ◌++◌, drop}
use Rattle.ed_layers.specs.Records.{members_len}
use Rattle.ed_members.specs.Starts.{starts_from}
use Rattle.ed_members.proofs.starts.starts_of.Given as goal

abbrev pub invariant-loop-member : goal.invariant-loop-member
invariant-loop-member l = record {
  starts : l.starts.items ++ starts_from l.end (drop l.member-index l.members) ≡ starts_from 0 l.members;
  rest : l.end + members_len (drop l.member-index l.members) ≡ members_len l.members;
}
