use Rattle.ed_text.specs.Balance.{IsBalanced}
use Rattle.ed_text.proofs.HalfFull.{balanced_front, balanced_back}
use Rattle.std.proofs.Common.{List, [], ◌∷◌, subst, ◌-◌, length, arith, ◌∙◌, sym, ap}
use Rattle.ed_text.proofs.Rows.{row_into, row_across, of_three, of_four}
use Rattle.ed_text.proofs.row.splice_row.Goals as goal

pub returns-then-span-room-clause-units : goal.returns-then-span-room-clause-units
returns-then-span-room-clause-units g c =
    let p = c.locate-first in
    of_three g.C.Level.units _ _ _ _ _ _ _ c.in_ok-new.ensures.items c.in_ok-share_all.ensures.units c.in_ok-append_spliced.ensures.units c.in_ok-append_all.ensures.units
    ∙ sym (row_into g.C.Level.units c.args.row.now p.result.front.now p.result.back.now p.result.child.now c.args.insert.now c.args.span.start p.result.at c.args.span.len p.ensures.row p.ensures.at (omega arith))

pub returns-clause-units : goal.returns-clause-units
returns-clause-units g c =
    let p = c.locate-first in
    let q = c.locate-last in
    of_four g.C.Level.units _ _ _ _ _ _ _ _ _ c.in_ok-new.ensures.items c.in_ok-share_all.ensures.units c.in_ok-append_spliced-2.ensures.units c.in_ok-append_spliced-3.ensures.units c.in_ok-append_all-2.ensures.units
    ∙ sym (row_across g.C.Level.units c.args.row.now p.result.front.now p.result.back.now q.result.front.now q.result.back.now p.result.child.now q.result.child.now c.args.insert.now c.args.span.start p.result.at (c.len.result - p.result.at) c.args.span.len q.result.at p.ensures.row q.ensures.row p.ensures.at (omega arith) (omega arith) (omega arith))

pub append_all-requires-clause-more : goal.append_all-requires-clause-more
append_all-requires-clause-more g c =
    let f = g.C.Level.units in
    let w = g.C.Level.least in
    let p = c.locate-first in
    let P : List g.row.C.Denot → Type 0 = IsBalanced f w in
    balanced_back f w (p.result.child.now ∷ []) p.result.back.now (balanced_back f w p.result.front.now (p.result.child.now ∷ p.result.back.now) (subst P p.ensures.row c.requires.balanced))

pub append_spliced-requires-2-clause-balanced : goal.append_spliced-requires-2-clause-balanced
append_spliced-requires-2-clause-balanced g c =
    let f = g.C.Level.units in
    let w = g.C.Level.least in
    let p = c.locate-first in
    let P : List g.row.C.Denot → Type 0 = IsBalanced f w in
    let front = balanced_front f w p.result.front.now (p.result.child.now ∷ p.result.back.now) (subst P p.ensures.row c.requires.balanced) in
    λ one. c.in_ok-share_all.ensures.half_full (λ k d l. absurd (omega (arith, l, ap length c.in_ok-new.ensures.items))) (front (omega (arith, one, c.in_ok-share_all.ensures.len, ap length c.in_ok-new.ensures.items)))

pub append_all-requires-2-clause-more : goal.append_all-requires-2-clause-more
append_all-requires-2-clause-more g c =
    let f = g.C.Level.units in
    let w = g.C.Level.least in
    let p = c.locate-first in
    let q = c.locate-last in
    let P : List g.row.C.Denot → Type 0 = IsBalanced f w in
    let rest = balanced_back f w (p.result.child.now ∷ []) p.result.back.now (balanced_back f w p.result.front.now (p.result.child.now ∷ p.result.back.now) (subst P p.ensures.row c.requires.balanced)) in
    balanced_back f w (q.result.child.now ∷ []) q.result.back.now (balanced_back f w q.result.front.now (q.result.child.now ∷ q.result.back.now) (subst P q.ensures.row rest))
