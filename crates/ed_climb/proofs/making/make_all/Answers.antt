use Rattle.std.proofs.Common.{◌≡◌, ◌∷◌, List, map, fold, sym, ap, ◌∙◌, subst}
use Rattle.std.specs.List.{AllByRecursion as Each}
use Rattle.std.specs.Vec.Iter.{into_iter_items}
use Rattle.ed_held.specs.declared.moves.Move.{Move}
use Rattle.ed_climb.specs.Group.{known_moved}
use Rattle.ed_held.specs.Moves.{AreApart, IsPlannedAt}
use Rattle.ed_held.specs.Seen.{known}
use Rattle.ed_climb.proofs.Committed.{each_stays}
use Rattle.ed_climb.proofs.making.make_all.Goals as goal

pub loop-next-preserved : goal.loop-next-preserved
loop-next-preserved c =
    let rest : List Move = into_iter_items c.next.new.self in
    let left : into_iter_items c.loop-next.next-iterator ≡ c.in-Some.next ∷ rest = c.in-Some.ensures.steps.0 in
    let apart : AreApart (c.in-Some.next ∷ rest) = subst AreApart left c.loop-next.invariant.apart in
    let made : Each (IsPlannedAt c.loop-next.buffers) (c.in-Some.next ∷ rest) = subst (Each (IsPlannedAt c.loop-next.buffers)) left c.loop-next.invariant.made in
    record {
      made = each_stays c.loop-next.buffers c.make.new.buffers c.in-Some.next rest c.make.ensures.others apart.0 made.1;
      apart = apart.1;
      len = c.make.ensures.len ∙ c.loop-next.invariant.len;
      known = ap (λ ks. fold known_moved ks rest) c.make.ensures.known ∙ ap (fold known_moved (map known c.loop-next.buffers)) (sym left) ∙ c.loop-next.invariant.known;
      turning = λ b may. c.make.ensures.turning b (c.loop-next.invariant.turning b may);
    }
