-- What a change list puts in.
use Rattle.std.proofs.Common.{◌<◌, ◌^◌, arith}
use Rattle.ed_base.specs.ChangeList.{ChangeList, IsNormal, inserted_len}
use Rattle.ed_base.proofs.NormalLists.{sum_by_taken, taken_within}

pub inserted_few : (c : ChangeList) → IsNormal c → inserted_len c < 2 ^ 32
inserted_few c normal = omega (arith, normal.fits, sum_by_taken c.changes, taken_within 0 c.old_len c.changes (omega arith) normal.changes)
