use Rattle.std.proofs.Common.{◌≡◌, ◌+◌, List, ℕ, length, map, refl, ap, ◌∙◌, subst, arith}
use Rattle.std.specs.Prelude.{IfOk}
use Rattle.ed_base.specs.Numbers.{places}
use Rattle.ed_version.specs.Chain.{Chain}
use Rattle.ed_elide.specs.Records as elisions
use Rattle.ed_project.specs.Records.{record_of}
use Rattle.ed_held.specs.declared.held.Held.{Held}
use Rattle.ed_held.specs.Seen.{known}
use Rattle.ed_held.proofs.KindLemmas.{base_repeats, carrier_repeats}
use Rattle.ed_held.proofs.held.Held.reiterated_numbers.Goals as goal

pub returns-in-Base : goal.returns-in-Base
returns-in-Base c =
    subst (λ (xs : List ℕ). IfOk c.reiterated_numbers.result (λ numbers. numbers ≡ xs))
    (ap (λ (x : Chain). map (λ v. v.reiterated) x.versions) c.chain.ensures
    ∙ base_repeats (known c.args.self.now).buffer c.in-Base.base.chain.versions (ap (λ (h : Held). (known h).buffer.records) c.in-Base.is))
    c.reiterated_numbers.ensures

pub returns-in-Projection : goal.returns-in-Projection
returns-in-Projection c =
    let all : c.numbers_to.inside.0 + 1 ≡ length c.in-Projection.projection.versions = omega (arith, c.numbers_to.view_is, c.now.ensures.version, c.now.ensures.some) in
    subst (λ (xs : List ℕ). IfOk c.numbers_to-in-Projection.result (λ numbers. numbers ≡ xs))
    (ap places all ∙ carrier_repeats record_of (λ v j. refl) (known c.args.self.now).buffer c.in-Projection.projection.versions (ap (λ (h : Held). (known h).buffer.records) c.in-Projection.is))
    c.numbers_to-in-Projection.ensures

pub returns-in-Elision : goal.returns-in-Elision
returns-in-Elision c =
    let e = c.in-Elision.elision in
    let all : c.numbers_to-in-Elision.inside.0 + 1 ≡ length e.versions = omega (arith, c.numbers_to-in-Elision.view_is, c.now-in-Elision.ensures.version, c.now-in-Elision.ensures.some) in
    subst (λ (xs : List ℕ). IfOk c.numbers_to-in-Elision-2.result (λ numbers. numbers ≡ xs))
    (ap places all ∙ carrier_repeats (elisions.record_of e.source) (λ v j. refl) (known c.args.self.now).buffer e.versions (ap (λ (h : Held). (known h).buffer.records) c.in-Elision.is))
    c.numbers_to-in-Elision-2.ensures
