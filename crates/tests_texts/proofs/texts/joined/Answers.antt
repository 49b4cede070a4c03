-- The two texts are not too long together.
use Rattle.std.proofs.Common.{length, ap, arith}
use Rattle.tests_texts.proofs.texts.joined.Goals as goal

pub concat-requires : goal.concat-requires
concat-requires g c =
    rw (c.deref.ensures.value, c.in_ok-push-2.ensures.items, c.in_ok-push.ensures.items, c.new-parts.ensures.items)
    (omega (arith, ap length c.in_ok-share.ensures, ap length c.in_ok-share-2.ensures, c.len.ensures.value, c.len-2.ensures.value, c.if-len-gt-MOST_UNITS.false))
