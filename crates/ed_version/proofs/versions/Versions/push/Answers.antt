use Rattle.std.proofs.Common.{◌≡◌, ◌<◌, ◌^◌, ◌-◌, ap, [], ◌∷◌, ◌++◌, length, arith, length-append, ◌∙◌, sym}
use Rattle.std.specs.Prelude.{slice_get}
use Rattle.ed_version.specs.Versions.{text_now}
use Rattle.ed_version.proofs.Linking.{lead_push}
use Rattle.ed_version.proofs.Lookups.{get_kept}
use Rattle.ed_version.proofs.versions.Versions.push.Goals as goal

pub invariant_of-self : goal.invariant_of-self
invariant_of-self g c =
    let versions : c.push_reserved.new.self.items ≡ c.self.inside.versions.items ++ c.args.version ∷ [] = cc in
    let changes : c.push_reserved-2.new.self.items ≡ c.self.inside.changes.items ++ c.args.changes ∷ [] = cc in
    let seen : c.args.self.now.versions ≡ c.self.inside.versions.items = sym (ap (λ x. x.versions) c.self.view_is) in
    let room : length c.self.inside.versions.items < 2 ^ 32 - 1 = (let n = ap length seen in omega (arith, c.requires.number)) in (
      rw (versions, changes) (lead_push g.V.HasText.units c.self.inside.versions.items c.self.inside.changes.items c.args.version c.args.changes c.self.invariant.0 (c.requires.from ∙ ap (λ vs. length (text_now g.V.HasText.units vs)) seen) c.requires.to),
      rw (versions, length-append) (omega arith),
    )

pub returns-clause-older : goal.returns-clause-older
returns-clause-older g c = λ v within.
    let versions : c.push_reserved.new.self.items ≡ c.self.inside.versions.items ++ c.args.version ∷ [] = cc in
    let seen = ap (λ x. length x.versions) c.self.view_is in
    ap (λ vs. slice_get vs v) versions ∙ get_kept c.self.inside.versions.items (c.args.version ∷ []) v (omega arith) ∙ ap (λ x. slice_get x.versions v) c.self.view_is
