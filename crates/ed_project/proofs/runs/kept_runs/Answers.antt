use Rattle.std.proofs.Common.{◌≡◌, ◌++◌, take, ap, ◌∙◌, arith}
use Rattle.std.specs.Option.{option_map_or}
use Rattle.ed_base.specs.declared.edit.Span.{Span}
use Rattle.ed_layers.specs.Records.{member_len, members_len}
use Rattle.ed_members.specs.Steps.{steps_seen}
use Rattle.ed_kept.specs.Kept.{pairs_of}
use Rattle.ed_project.specs.Kept.{Rises, member_pairs}
use Rattle.ed_project.proofs.Walking.{become_at, become_len, get_within, each_more, walk_end, walk_more}
use Rattle.ed_project.proofs.runs.kept_runs.Goals as goal

pub place-requires : goal.place-requires
place-requires c = omega (arith, become_len (steps_seen c.args.steps.now) c.args.old.now c.args.new.now c.requires.becoming)

pub get-requires : goal.get-requires
get-requires c = omega (arith, become_len (steps_seen c.args.steps.now) c.args.old.now c.args.new.now c.requires.becoming)

pub put_member-requires-clause-becomes : goal.put_member-requires-clause-becomes
put_member-requires-clause-becomes c =
    (become_at (steps_seen c.args.steps.now) c.args.old.now c.args.new.now c.loop-i.i c.get.result.now c.get-in-loop-i.result.now c.get.ensures c.get-in-loop-i.ensures c.loop-i.invariant.become).0

pub put_member-requires-clause-from : goal.put_member-requires-clause-from
put_member-requires-clause-from c =
    let len : c.place.result.len ≡ member_len c.get.result.now = ap (λ (s : Span). s.len) c.place.ensures.place ∙ ap (λ o. option_map_or member_len o 0) c.get.ensures in
    omega (arith, c.place.ensures.within, c.requires.old)

pub put_member-requires-clause-to : goal.put_member-requires-clause-to
put_member-requires-clause-to c =
    let len : c.place-in-loop-i.result.len ≡ member_len c.get-in-loop-i.result.now = ap (λ (s : Span). s.len) c.place-in-loop-i.ensures.place ∙ ap (λ o. option_map_or member_len o 0) c.get-in-loop-i.ensures in
    omega (arith, c.place-in-loop-i.ensures.within, c.requires.new)

pub loop-i-preserved : goal.loop-i-preserved
loop-i-preserved c =
    let old_start : c.place.result.start ≡ members_len (take c.loop-i.i c.args.old.now) = ap (λ (s : Span). s.start) c.place.ensures.place in
    let new_start : c.place-in-loop-i.result.start ≡ members_len (take c.loop-i.i c.args.new.now) = ap (λ (s : Span). s.start) c.place-in-loop-i.ensures.place in
    record {
      pairs = walk_more (steps_seen c.args.steps.now) c.args.old.now c.args.new.now c.loop-i.i c.get.result.now c.get-in-loop-i.result.now (pairs_of c.loop-i.runs.items) (pairs_of c.put_member.new.runs.items) _ c.get.ensures c.get-in-loop-i.ensures c.loop-i.invariant.pairs
          (c.in_ok-put_member.ensures.pairs
          ∙ ap (λ x. pairs_of c.loop-i.runs.items ++ member_pairs (steps_seen c.args.steps.now) x c.place-in-loop-i.result.start c.get.result.now c.get-in-loop-i.result.now) old_start
          ∙ ap (λ x. pairs_of c.loop-i.runs.items ++ member_pairs (steps_seen c.args.steps.now) (members_len (take c.loop-i.i c.args.old.now)) x c.get.result.now c.get-in-loop-i.result.now) new_start);
      become = (become_at (steps_seen c.args.steps.now) c.args.old.now c.args.new.now c.loop-i.i c.get.result.now c.get-in-loop-i.result.now c.get.ensures c.get-in-loop-i.ensures c.loop-i.invariant.become).1;
      rise = each_more (Rises (steps_seen c.args.steps.now)) c.args.new.now c.loop-i.i c.get-in-loop-i.result.now c.get-in-loop-i.ensures c.in_ok-put_member.ensures.rises c.loop-i.invariant.rise;
    }

pub returns-clause-pairs : goal.returns-clause-pairs
returns-clause-pairs c =
    walk_end (steps_seen c.args.steps.now) c.args.old.now c.args.new.now c.loop-i.i (pairs_of c.loop-i.runs.items) _ (omega (arith, become_len (steps_seen c.args.steps.now) c.args.old.now c.args.new.now c.requires.becoming)) c.loop-i.invariant.pairs

pub returns-clause-rise : goal.returns-clause-rise
returns-clause-rise c = λ k m is. c.loop-i.invariant.rise k m (omega (arith, get_within c.args.new.now k m is)) is
