-- The row, the short texts behind it and the texts that are left make the whole.
use Rattle.std.proofs.Common.{◌≡◌, ◌+◌, ◌++◌, length, flat_map, drop}
use Rattle.ed_text.specs.Balance.{IsBalanced}
use Rattle.ed_text.proofs.tree.concat_with.Given as goal

abbrev pub invariant-loop-text : goal.invariant-loop-text
invariant-loop-text g l = record {
  units : (flat_map (λ n. n) l.row.items ++ l.short) ++ flat_map (λ t. t) (drop l.text-index l.texts) ≡ flat_map (λ t. t) l.texts;
  balanced : IsBalanced (λ n. n) 65536 l.row.items;
  len : (length (flat_map (λ n. n) l.row.items) + length l.short) + length (flat_map (λ t. t) (drop l.text-index l.texts)) ≡ length (flat_map (λ t. t) l.texts);
}
