use Rattle.std.proofs.Common.{List, [], ◌∷◌, ◌++◌, length, arith, inl, inr, subst}
use Rattle.std.proofs.lemmas.Bool.{cases_lt}
use Rattle.ed_text.specs.Balance.{IsBalanced}
use Rattle.ed_text.proofs.HalfFull.{balanced_push, none_left}
use Rattle.ed_text.proofs.row.append.Goals as goal

pub returns-clause-balanced : goal.returns-clause-balanced
returns-clause-balanced g c =
    let f = g.C.Level.units in
    let w = g.C.Level.least in
    let row = c.pop.new.self.items in
    let P : List g.row.C.Denot → Type 0 = IsBalanced f w in
    let balanced : IsBalanced f w (row ++ c.in-Some.last ∷ []) = subst P c.in-Some.ensures.items c.requires.balanced in
    elim (cases_lt 0 (length row)) [
      | inl p ↦ λ one. let b = balanced_push f w row c.in-Some.last balanced p in c.in_ok-join.ensures.half_full b.0 (omega (arith, b.1))
      | inr p ↦ c.in_ok-join.ensures.balanced (none_left f w row p)
    ]
