use Rattle.std.proofs.Common.{arith}
use Rattle.std.proofs.lemmas.List.Concat.{length-flat_map}
use Rattle.ed_text.proofs.tree.TreeTextText.concat.Goals as goal

pub concat_with-requires-clause-most : goal.concat_with-requires-clause-most
concat_with-requires-clause-most c = let e = length-flat_map (λ t. t) c.args.parts.now in omega (arith, e, c.requires)
