-- The stock without buffers.
use Rattle.std.proofs.Common.{[], refl, arith}
use Rattle.ed_layers.specs.Graph.{graph_order}
use Rattle.ed_climb.specs.Kept.{IsKept}
use Rattle.ed_risen.specs.Rising.{IsSettled}
use Rattle.ed_held.specs.Seen.{stock_of}

settled_empty : IsSettled (stock_of [])
settled_empty = record {
  founded = λ b v h. absurd (omega arith);
  some = λ b h. absurd (omega arith);
  current = λ b h. absurd (omega arith);
  inside = λ b h. absurd (omega arith);
}

pub kept_empty : IsKept [] [] (record { inserted = 0; versions = 0; placements = 0 })
unfolding graph_order
kept_empty = record {
  numbered = λ b k h. absurd (cc);
  texts = λ b v k t h g. absurd (cc);
  linked = refl;
  settled = settled_empty;
  one = λ b v h. absurd (omega arith);
  within = refl;
  inserted = refl;
  versions = refl;
  placements = refl;
}
