-- The whole is as long as the texts together.
use Rattle.std.proofs.Common.{flat_map, drop, length, length-append, ap, arith}
use Rattle.std.proofs.lemmas.List.Concat.{length-flat_map}
use Rattle.ed_text.proofs.plain.PlainTextText.concat.Goals as goal

pub of-requires : goal.of-requires
of-requires c =
    omega (arith, ap length c.loop-part.invariant, length-append c.loop-part.content (flat_map (λ part. part) (drop c.loop-part.part-index c.args.parts.now)), length-flat_map (λ part. part) c.args.parts.now, c.requires)
