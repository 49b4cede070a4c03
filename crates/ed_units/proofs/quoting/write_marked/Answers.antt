-- Nothing follows the units between the marks.
use Rattle.std.proofs.Common.{◌∷◌, ◌++◌, [], refl, ap, ◌∙◌, append_assoc}
use Rattle.ed_units.specs.Quoted.{quoted_units}
use Rattle.ed_units.proofs.FirstUnits.{none_left}
use Rattle.ed_units.proofs.quoting.write_marked.Goals as goal

pub returns-clause-ok : goal.returns-clause-ok
returns-clause-ok c =
    let old = c.args.out.now.items in
    let units = c.args.units.now in
    let all = none_left units c.push.new.self.items c.write_units.new.out.items _ (c.in_ok-write_units.ensures.all refl) (c.in_ok-write_units.ensures.ok [] (λ _. refl)) in
    c.in_ok-push-2.ensures.items
    ∙ (ap (λ l. l ++ (34 ∷ [])) (all ∙ ap (λ l. l ++ quoted_units units) c.in_ok-push.ensures.items)
    ∙ (ap (λ l. l ++ (34 ∷ [])) (append_assoc old (34 ∷ []) (quoted_units units)) ∙ append_assoc old (34 ∷ quoted_units units) (34 ∷ [])))
