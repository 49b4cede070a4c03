-- The texts so far, and those that are left, make the whole.
use Rattle.std.proofs.Common.{◌≡◌, ◌++◌, drop, flat_map}
use Rattle.ed_text.proofs.plain.PlainTextText.concat.Given as goal

abbrev pub invariant-loop-part : goal.invariant-loop-part
invariant-loop-part l = l.content ++ flat_map (λ part. part) (drop l.part-index l.parts) ≡ flat_map (λ part. part) l.parts
