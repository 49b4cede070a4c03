use Rattle.std.proofs.Common.{length, ap, arith, refl}
use Rattle.std.proofs.lemmas.Option.{slice_get_read}
use Rattle.ed_version.proofs.Linking.{lead_count}
use Rattle.ed_version.proofs.versions.Versions.step.Goals as goal

pub index-requires : goal.index-requires
index-requires g c =
    let all = lead_count g.V.HasText.units c.self.inside.versions.items c.self.inside.changes.items c.self.invariant.0 in
    let seen = ap (λ x. length x.versions) c.self.view_is in
    omega (arith, c.requires)

pub returns : goal.returns
returns g c =
    let all = lead_count g.V.HasText.units c.self.inside.versions.items c.self.inside.changes.items c.self.invariant.0 in
    let seen = ap (λ x. length x.versions) c.self.view_is in
    rw (← c.self.view_is) (slice_get_read c.self.inside.changes.items (length c.self.inside.changes.items) c.args.from c.index.result.now refl (omega (arith, c.requires)) c.index.ensures)
