-- The moved members stand apart, and their order is the one that was looked up.
use Rattle.std.proofs.Common.{◌≡◌, List, None, subst, sym, ◌∙◌}
use Rattle.ed_base.specs.declared.piece.Member.{Member}
use Rattle.ed_layers.specs.Order.{overlap_fault}
use Rattle.ed_members.specs.Moving.{OwnInside, OwnInOrder}
use Rattle.ed_members.specs.Steps.{steps_seen}
use Rattle.ed_members.proofs.members.Members.advance.Goals as goal

pub kept-requires-clause-apart : goal.kept-requires-clause-apart
kept-requires-clause-apart c =
    c.in_ok-list.ensures.apart (subst (λ (ms : List Member). overlap_fault ms ≡ None) (sym c.as_slice.ensures.value) c.self.invariant.apart)
    (subst (λ (ms : List Member). OwnInside c.args.me (steps_seen c.args.steps.now) ms) (sym (c.as_slice.ensures.value ∙ c.self.view_is)) c.requires.inside)
    (subst (λ (ms : List Member). OwnInOrder c.args.me (steps_seen c.args.steps.now) ms) (sym (c.as_slice.ensures.value ∙ c.self.view_is)) c.requires.order)
