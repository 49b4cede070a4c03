use Rattle.std.proofs.Common.{◌≡◌, [], ◌∷◌, ◌++◌, length, ap, subst, sym, ◌∙◌}
use Rattle.ed_base.specs.ChangeList.{applied}
use Rattle.ed_version.specs.Chain.{Chain, version, text_now, MayRepeat}
use Rattle.ed_version.proofs.Following.{applied_len, version_pushed}
use Rattle.ed_version.proofs.Repeating.{repeating_pushed}
use Rattle.ed_version.proofs.chain.Chain.push.Goals as goal

pub push-requires-clause-to : goal.push-requires-clause-to
push-requires-clause-to c =
    applied_len c.args.changes (text_now c.args.self.now.versions) c.args.text c.as_slice-changes.ensures.normal.changes c.requires.from c.requires.to

pub invariant_of-self : goal.invariant_of-self
invariant_of-self c =
    let seen : c.args.self.now.versions ≡ c.self.inside.kept.versions = sym (ap (λ (x : Chain). x.versions) c.self.view_is) in (
      rw (c.push.ensures.versions, c.push.ensures.changes) (version_pushed c.self.inside.kept.versions c.self.inside.kept.changes c.args.text c.args.reiterated c.args.changes c.self.invariant.0 (c.requires.to ∙ ap (λ vs. applied c.args.changes (text_now vs)) seen)),
      rw c.push.ensures.versions (repeating_pushed c.self.inside.kept.versions c.args.text c.args.reiterated c.self.invariant.1 (subst (λ vs. MayRepeat vs c.args.text c.args.reiterated) seen c.requires.repeats)),
    )
