-- What has been passed and what is left make all the targets.
use Rattle.std.proofs.Common.{◌++◌, sym, ap, ◌∙◌, arith}
use Rattle.std.proofs.lemmas.List.{append-nil}
use Rattle.ed_layers.specs.Sending.{deleted_literal}
use Rattle.ed_resolve.specs.Sends.{targets_from}
use Rattle.ed_resolve.proofs.Reaching.{targets_begin, literal_begins, targets_more, literal_more, literal_found, handed_on, targets_end, literal_ends}
use Rattle.ed_resolve.proofs.target.reached.Goals as goal

pub loop-index-init : goal.loop-index-init
loop-index-init c =
    let e = c.new-targets.ensures.items in
    let s = c.start-start.ensures in
    let before = c.first_reaching-index.ensures.before in (
      ap (λ xs. xs ++ targets_from c.args.members.now c.args.part.now c.first_reaching-index.result) e ∙ targets_begin c.args.members.now c.args.part.now c.first_reaching-index.result c.first_reaching-index.ensures.within (λ i l. rw s at (before i l)),
      literal_begins c.args.members.now c.args.part.now c.first_reaching-index.result c.first_reaching-index.ensures.within (λ i l. rw s at (before i l)),
    )

pub loop-index-preserved : goal.loop-index-preserved
loop-index-preserved c =
    let i = c.loop-index.invariant in (
      targets_more c.args.members.now c.args.part.now c.loop-index.index c.get-member.result.now c.place.result c.loop-index.targets.items c.put_target.new.targets.items c.get-member.ensures c.place.ensures.place c.in_ok-put_target.ensures.target i.0,
      literal_more c.args.members.now c.args.part.now c.loop-index.index c.get-member.result.now c.place.result c.get-member.ensures c.place.ensures.place c.in_ok-put_target.ensures.literal i.1,
    )

pub returns-in_err-put_target-clause-literal : goal.returns-in_err-put_target-clause-literal
returns-in_err-put_target-clause-literal c =
    let found = literal_found c.args.members.now c.args.part.now c.loop-index.index c.get-member.result.now c.place.result c.in_err-put_target.field-0.0 c.get-member.ensures c.place.ensures.place c.loop-index.invariant.1 c.in_err-put_target.ensures.literal in
    handed_on _ _ (deleted_literal c.args.members.now c.args.part.now) c.from_residual.result c.in_err-put_target.field-0.0 c.from_residual.ensures found

pub returns-clause-targets : goal.returns-clause-targets
returns-clause-targets c =
    let end = targets_end c.args.members.now c.args.part.now c.loop-index.index (λ i l u. (let b = c.first_behind-index-end.ensures.behind i (let t = c.loop-index-test.false in omega (arith, l, t)) u in let e = c.start-start.ensures in let f = c.old_len.ensures in omega (arith, b, e, f))) in
    sym (append-nil c.loop-index.targets.items) ∙ ap (λ xs. c.loop-index.targets.items ++ xs) (sym end) ∙ c.loop-index.invariant.0

pub returns-clause-literal : goal.returns-clause-literal
returns-clause-literal c = sym c.loop-index.invariant.1 ∙ literal_ends c.args.members.now c.args.part.now c.loop-index.index (λ i l u. (let b = c.first_behind-index-end.ensures.behind i (let t = c.loop-index-test.false in omega (arith, l, t)) u in let e = c.start-start.ensures in let f = c.old_len.ensures in omega (arith, b, e, f)))
