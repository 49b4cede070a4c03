use Rattle.std.proofs.Common.{◌≡◌, ◌+◌, take}
use Rattle.ed_layers.specs.Records.{members_len}
use Rattle.ed_members.proofs.starts.are_short.Given as goal

abbrev pub invariant-loop-member : goal.invariant-loop-member
invariant-loop-member l = members_len (take l.member-index l.members) + l.left ≡ 4294967295
