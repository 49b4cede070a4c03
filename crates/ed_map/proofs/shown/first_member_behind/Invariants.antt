use Rattle.std.proofs.Common.{◌-◌, ◌+◌, ◌≤◌, ◌<◌, length, take}
use Rattle.ed_layers.specs.Records.{members_len}
use Rattle.ed_map.proofs.shown.first_member_behind.Given as goal

abbrev pub invariant-loop-low : goal.invariant-loop-low
invariant-loop-low l = record {
  order : l.low ≤ l.high;
  within : l.high ≤ length l.members;
  before : members_len (take l.low l.members) ≤ l.at;
  behind : l.high < length l.members → l.at < members_len (take (l.high + 1) l.members);
}

abbrev pub decreases-loop-low : goal.decreases-loop-low
decreases-loop-low l = l.high - l.low
