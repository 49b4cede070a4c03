-- Lists whose holders share one block of memory.
use Rattle.std.specs.Prelude.{List, [], Option, Some, None}
use Rattle.std.specs.declared.sync.Arc.{Arc}
use Rattle.std.specs.declared.vec.Vec.{Vec}

-- the elements; an empty list has no block
abbrev pub shared_items : {T A B : Type 0} → Option (Arc (Vec T A) B) → List T
shared_items None = []
shared_items (Some block) = block.value.items
