use Rattle.std.proofs.Common.{◌<◌, ◌∙◌, ap, length, subst, sym}
use Rattle.ed_descent.specs.InBoxes.{boxes_of, with_piece}
use Rattle.ed_descent.proofs.BoxLemmas.{put_is}
use Rattle.ed_descent.proofs.boxes.put.Goals as goal

pub returns : goal.returns
returns c =
    put_is c.args.boxes.now.items c.buffer.inside.0 c.index_mut-pieces.result.now c.push.new.self c.args.piece (subst (λ b. b < length c.args.boxes.now.items) (sym c.buffer.view_is) c.requires) c.index_mut-pieces.ensures.value c.in_ok-push.ensures.items
    ∙ ap (λ b. with_piece (boxes_of c.args.boxes.now.items) (b, c.args.piece)) c.buffer.view_is
