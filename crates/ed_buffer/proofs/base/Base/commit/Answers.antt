use Rattle.std.proofs.Common.{◌≡◌, ◌≤◌, ◌^◌, length, ap, sym, ◌∙◌, subst, ℕ, arith}
use Rattle.ed_readonly.specs.LiveRegions.{EndWithin}
use Rattle.ed_version.specs.Chain.{text_now}
use Rattle.ed_base.specs.ChangeList.{new_len}
use Rattle.ed_buffer.specs.Planning.{NextVersion}
use Rattle.ed_buffer.proofs.Newest.{newest_text}
use Rattle.ed_buffer.proofs.base.Base.commit.Goals as goal

pub invariant_of-self : goal.invariant_of-self
invariant_of-self c =
    let newest = newest_text c.self.inside.chain.versions c.push.new.self.versions c.step.inside.snapshot.text c.step.inside.reiterated c.push.ensures.versions in
    let lens : new_len c.step.inside.changes ≡ length (text_now c.push.new.self.versions) =
    ap (λ (s : NextVersion). new_len s.changes) c.step.view_is ∙ c.requires.next.len ∙ sym (ap (λ (s : NextVersion). length s.snapshot.text) c.step.view_is) ∙ sym (ap length newest) in
    let short : new_len c.step.inside.changes ≤ 2 ^ 22 = (let e = ap (λ (s : NextVersion). new_len s.changes) c.step.view_is in omega (arith, c.requires.next.fits)) in
    (omega (arith, lens, short), (let P : ℕ → Type 0 = λ n. EndWithin n c.advance.new.self.regions in subst P lens c.advance.ensures.within))
