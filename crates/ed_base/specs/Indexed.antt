-- What a change list keeps beside its changes.
use Rattle.std.specs.Prelude.{◌≡◌, ℕ, ◌<◌, ◌^◌, List, [], Option, Some, None}
use Rattle.std.specs.declared.sync.Arc.{Arc}
use Rattle.ed_base.specs.declared.edit.Change.{Change}
use Rattle.ed_base.specs.declared.changes.Block.{Block}
use Rattle.ed_base.specs.ChangeList.{ChangeList, IsNormal, new_len}
use Rattle.ed_base.specs.NewStarts.{new_starts}

-- the changes of a block, and the new starts that it keeps; where nothing changes there is no block
abbrev pub block_changes : {A : Type 0} → Option (Arc Block A) → List Change
block_changes None = []
block_changes (Some block) = block.value.changes.items

abbrev pub block_starts : {A : Type 0} → Option (Arc Block A) → List ℕ
block_starts None = []
block_starts (Some block) = block.value.new_starts.items

-- the change list is in normal form, and what is kept beside it agrees with it
pub record IsIndexed (c : ChangeList) (kept_starts : List ℕ) (kept_len : ℕ) : Type 0 where
  pub old_short : c.old_len < 2 ^ 32
  pub normal : IsNormal c
  pub starts : kept_starts ≡ new_starts c
  pub len : kept_len ≡ new_len c
