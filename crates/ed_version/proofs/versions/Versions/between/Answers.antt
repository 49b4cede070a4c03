use Rattle.std.proofs.Common.{List, length, ap, ◌∙◌, arith}
use Rattle.std.specs.Prelude.{slice_range}
use Rattle.ed_base.specs.ChangeList.{ChangeList}
use Rattle.ed_version.proofs.Linking.{lead_count, range_linked, range_begins, range_stops}
use Rattle.ed_version.proofs.versions.Versions.between.Goals as goal

pub part-requires-clause-there : goal.part-requires-clause-there
part-requires-clause-there g c =
    let all = lead_count g.V.HasText.units c.self.inside.versions.items c.self.inside.changes.items c.self.invariant.0 in
    let seen = ap (λ x. length x.versions) c.self.view_is in
    let same = ap length c.as_slice.ensures.value in
    omega (arith, c.requires.there)

pub returns-clause-linked : goal.returns-clause-linked
returns-clause-linked g c =
    let seen = ap (λ x. length x.versions) c.self.view_is in
    range_linked g.V.HasText.units c.self.inside.versions.items c.self.inside.changes.items c.args.from c.args.to c.self.invariant.0 c.requires.order (omega (arith, c.requires.there)) c.part.result.now (c.part.ensures ∙ ap (λ (cs : List ChangeList). slice_range cs c.args.from c.args.to) c.as_slice.ensures.value)

pub returns-clause-before : goal.returns-clause-before
returns-clause-before g c =
    let seen = ap (λ x. length x.versions) c.self.view_is in
    rw (← c.self.view_is) (range_begins g.V.HasText.units c.self.inside.versions.items c.self.inside.changes.items c.args.from c.args.to c.self.invariant.0 c.requires.order (omega (arith, c.requires.there)) c.part.result.now (c.part.ensures ∙ ap (λ (cs : List ChangeList). slice_range cs c.args.from c.args.to) c.as_slice.ensures.value))

pub returns-clause-after : goal.returns-clause-after
returns-clause-after g c =
    let seen = ap (λ x. length x.versions) c.self.view_is in
    rw (← c.self.view_is) (range_stops g.V.HasText.units c.self.inside.versions.items c.self.inside.changes.items c.args.from c.args.to c.self.invariant.0 c.requires.order (omega (arith, c.requires.there)) c.part.result.now (c.part.ensures ∙ ap (λ (cs : List ChangeList). slice_range cs c.args.from c.args.to) c.as_slice.ensures.value))
