use Rattle.std.proofs.Common.{◌≤◌, ◌^◌, ◌∙◌, ap, subst, sym}
use Rattle.ed_layers.specs.Pieces.{arrived}
use Rattle.ed_layers.specs.Records.{members_len}
use Rattle.ed_pieces.specs.Arrivals.{units_put_in}
use Rattle.ed_descent.proofs.CarrierFacts.{brought_together}
use Rattle.ed_descent.proofs.passing.send.Goals as goal

pub send_down-requires-clause-put_in : goal.send_down-requires-clause-put_in
send_down-requires-clause-put_in g c =
    subst (λ n. n ≤ 2 ^ 22) (sym (ap units_put_in (c.in_ok-changes.ensures.components ∙ ap (arrived c.args.pieces.now) c.len.ensures) ∙ brought_together (members_len c.args.members.now) c.args.pieces.now c.requires.within)) c.requires.put_in
