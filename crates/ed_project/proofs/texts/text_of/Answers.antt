use Rattle.std.proofs.Common.{◌≡◌, List, ℕ, length, map, take, ap, ◌∙◌, arith}
use Rattle.std.specs.Prelude.{flat_map, sum_by}
use Rattle.ed_layers.specs.Records.{members_len}
use Rattle.ed_layers.specs.CarrierStep.{stay_around}
use Rattle.std.specs.Option.{option_copied}
use Rattle.ed_project.specs.Texts.{member_text, text_in}
use Rattle.ed_project.proofs.Literals.{has_literals, stays_here}
use Rattle.ed_project.proofs.Walking.{joined, joined_len, lens_more, member_within, take_past, texts_more}
use Rattle.ed_project.proofs.texts.text_of.Goals as goal
use Rattle.ed_project.proofs.texts.text_of.Goals.{After-deref}

pub part-requires-clause-stays : goal.part-requires-clause-stays
part-requires-clause-stays c =
    stays_here (option_copied c.args.old) (stay_around c.args.staying.first c.args.staying.removed c.args.staying.added) c.args.members.now c.loop-i.i c.get.result.now c.old_index-before.result c.requires.stays c.get.ensures c.old_index-before.ensures

pub part-requires-clause-fits : goal.part-requires-clause-fits
part-requires-clause-fits c = omega (arith, member_within c.args.members.now c.loop-i.i c.get.result.now c.get.ensures, c.requires.fits)

pub loop-i-preserved : goal.loop-i-preserved
loop-i-preserved c = record {
  texts = texts_more (member_text (text_in c.args.snapshots.now)) c.args.members.now c.loop-i.i c.get.result.now c.loop-i.parts.items c.push.new.self.items c.in_ok-part.field-0 c.get.ensures c.loop-i.invariant.texts c.in_ok-part.ensures.text c.in_ok-push.ensures.items;
  lens = lens_more c.args.members.now c.loop-i.i c.get.result.now c.loop-i.parts.items c.push.new.self.items c.in_ok-part.field-0 c.get.ensures c.loop-i.invariant.lens c.in_ok-part.ensures.len c.in_ok-push.ensures.items;
}

whole : (c : After-deref) → take c.loop-i.i c.args.members.now ≡ c.args.members.now
whole c = take_past c.args.members.now c.loop-i.i (omega arith)

total : (c : After-deref) → sum_by length c.deref.result.now ≡ members_len c.args.members.now
total c = ap (sum_by length) c.deref.ensures.value ∙ c.loop-i.invariant.lens ∙ ap members_len (whole c)

pub concat-requires : goal.concat-requires
concat-requires c = omega (arith, total c, c.requires.fits)

pub returns-clause-text : goal.returns-clause-text
returns-clause-text c =
    let f : _ → List ℕ = member_text (text_in c.args.snapshots.now) in
    c.in_ok-text.ensures ∙ ap (flat_map (λ part. part)) (c.deref.ensures.value ∙ c.loop-i.invariant.texts ∙ ap (map f) (whole (goal.at.returns-clause-text c).After-deref)) ∙ joined f c.args.members.now

pub returns-clause-len : goal.returns-clause-len
returns-clause-len c = ap length c.in_ok-text.ensures ∙ joined_len c.deref.result.now ∙ total (goal.at.returns-clause-len c).After-deref

pub returns-clause-literals : goal.returns-clause-literals
returns-clause-literals c =
    let f : _ → List ℕ = member_text (text_in c.args.snapshots.now) in
    has_literals c.args.snapshots.now c.args.members.now c.in_ok-text.text c.requires.there
    (c.in_ok-text.ensures ∙ ap (flat_map (λ part. part)) (c.deref.ensures.value ∙ c.loop-i.invariant.texts ∙ ap (map f) (whole (goal.at.returns-clause-literals c).After-deref)) ∙ joined f c.args.members.now)
