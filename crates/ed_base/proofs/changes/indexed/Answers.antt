use Rattle.std.proofs.Common.{◌≡◌, ◌+◌, ◌-◌, ◌<◌, ◌^◌, ◌∷◌, length, drop, ap, subst, arith, List}
use Rattle.std.proofs.lemmas.List.{drop_all}
use Rattle.ed_base.specs.ChangeList.{new_len}
use Rattle.ed_base.proofs.NormalLists.{Reached, reached_at, reached_next, reached_fits, reached_end}
use Rattle.ed_base.specs.declared.edit.Change.{Change}
use Rattle.ed_base.proofs.changes.indexed.Goals as goal
use Rattle.ed_base.proofs.changes.indexed.Goals.{After-change-item, After-loop-change}

-- what is left begins with the change of this turn
left : (c : After-change-item) → Reached c.args.old_len c.args.changes.now c.loop-change.old_end c.loop-change.new_end c.loop-change.starts.items (c.change-item.result ∷ drop (c.loop-change.change-index + 1) c.args.changes.now)
left c = reached_at _ _ _ _ _ _ _ c.loop-change-test.true c.change-item.is c.loop-change.invariant

fits : (c : After-change-item) → c.loop-change.new_end + (c.change-item.result.start - c.loop-change.old_end) + length c.change-item.result.text < 2 ^ 32
fits c = reached_fits _ _ _ _ _ _ _ _ c.requires.normal c.requires.fits (left c)

pub overflow_add-start : goal.overflow_add-start
overflow_add-start c = omega (arith, fits c)

pub overflow_cast-new_end : goal.overflow_cast-new_end
overflow_cast-new_end c =
    omega (arith, fits (goal.at.overflow_cast-new_end c).After-change-item, ap length c.as_slice.ensures)

pub overflow_add-new_end : goal.overflow_add-new_end
overflow_add-new_end c =
    omega (arith, fits (goal.at.overflow_add-new_end c).After-change-item, ap length c.as_slice.ensures)

pub loop-change-preserved : goal.loop-change-preserved
loop-change-preserved c =
    rw (c.in_ok-push.ensures.items, c.as_slice.ensures)
    (reached_next _ _ _ _ _ _ _ (left (goal.at.loop-change-preserved c).After-change-item))

whole : (c : After-loop-change) → c.loop-change.new_end + (c.args.old_len - c.loop-change.old_end) ≡ new_len (record { old_len = c.args.old_len; changes = c.args.changes.now })
whole c =
    reached_end _ _ _ _ _ c.requires.normal
    (subst (λ (rest : List Change). Reached c.args.old_len c.args.changes.now c.loop-change.old_end c.loop-change.new_end c.loop-change.starts.items rest) (drop_all _ _ c.loop-change-test.false) c.loop-change.invariant)

pub overflow_add-result : goal.overflow_add-result
overflow_add-result c = omega (arith, whole c, c.requires.fits)

pub returns-clause-len : goal.returns-clause-len
returns-clause-len c = whole c
