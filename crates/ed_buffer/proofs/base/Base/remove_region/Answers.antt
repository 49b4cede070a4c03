use Rattle.std.proofs.Common.{◌≤◌, length, sym, subst, not, ◌+◌}
use Rattle.std.specs.Prelude.{nat_eq}
use Rattle.std.proofs.lemmas.List.Elements.{All-filter}
use Rattle.ed_base.specs.Denial.{Region}
use Rattle.ed_version.specs.Chain.{text_now}
use Rattle.ed_readonly.specs.LiveRegions.{LiveRegions, EndWithin}
use Rattle.ed_buffer.proofs.base.Base.remove_region.Goals as goal

pub invariant_of-self : goal.invariant_of-self
invariant_of-self c =
    let P : LiveRegions → Type 0 = λ t. EndWithin (length (text_now c.self.inside.chain.versions)) t.regions in
    (c.self.invariant.0, subst P (sym c.remove.ensures.state) (All-filter (λ (r : Region). not (nat_eq r.number c.args.region)) (λ (r : Region). r.span.start + r.span.len ≤ length (text_now c.self.inside.chain.versions)) c.self.inside.regions.regions c.self.invariant.1))
