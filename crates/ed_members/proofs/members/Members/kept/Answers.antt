-- What is kept beside the members.
use Rattle.std.proofs.Common.{◌<◌, ◌^◌, List, ap, subst, ◌∙◌}
use Rattle.ed_base.specs.declared.piece.Member.{Member}
use Rattle.ed_layers.specs.Records.{members_len}
use Rattle.ed_members.specs.Starts.{starts_from}
use Rattle.ed_members.proofs.members.Members.kept.Goals as goal

pub invariant_of-result : goal.invariant_of-result
invariant_of-result c = record {
  few = c.requires.few;
  short = subst (λ (ms : List Member). members_len ms < 2 ^ 32) c.deref.ensures.value (c.are_short.ensures.0 c.if-not-are_short.false);
  apart = c.requires.apart;
  starts = c.in_ok-starts.ensures.starts ∙ ap (starts_from 0) c.deref-2.ensures.value;
  len = c.in_ok-starts.ensures.len ∙ ap members_len c.deref-2.ensures.value;
  all = c.requires.all;
  sorted = c.requires.sorted;
}
