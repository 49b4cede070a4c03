use Rattle.std.proofs.Common.{sym, ap, ◌∙◌, subst}
use Rattle.ed_held.specs.Moves.{CanMake}
use Rattle.ed_held.specs.declared.held.Held.{Held}
use Rattle.ed_held.specs.declared.moves.Planned.{Planned}
use Rattle.ed_held.specs.Making.{known_grown}
use Rattle.ed_held.specs.Seen.{known}
use Rattle.ed_held.proofs.ElisionLemmas.{elision_grown}
use Rattle.ed_held.proofs.KindLemmas.{base_grown, projection_grown}
use Rattle.ed_held.proofs.held.Held.make.Goals as goal
use Rattle.ed_held.proofs.held.Held.make.Goals.{in-Base-Base, in-Projection-Projection, in-Elision-Elision}

pub returns-clause-known : goal.returns-clause-known
returns-clause-known c = λ m same. elim c.match-self.branch [
  | in-Base-Base w ↦
      ap known w.self-is
      ∙ base_grown w.in-Base-Base.base w.commit.new.self w.in-Base-Base.step m (same ∙ w.in-Base-Base.is-1) w.commit.ensures.buffer w.commit.ensures.versions w.commit.ensures.changes w.commit.ensures.regions w.commit.ensures.given
      ∙ ap (λ h. known_grown (known h) m) (sym w.in-Base-Base.is-0)
  | in-Projection-Projection w ↦
      (let made = w.commit-in-Projection-Projection in
      let p = w.in-Projection-Projection in
      ap known w.self-is
      ∙ projection_grown p.projection made.new.self p.turns-0 p.step m (same ∙ p.is-1) made.ensures.buffer made.ensures.versions made.ensures.changes made.ensures.resolver
      ∙ ap (λ h. known_grown (known h) m) (sym p.is-0))
  | in-Elision-Elision w ↦
      (let made = w.commit-in-Elision-Elision in
      let p = w.in-Elision-Elision in
      ap known w.self-is
      ∙ elision_grown p.elision made.new.self p.turns-0 p.step m (same ∙ p.is-1) (subst (λ (h : Held). CanMake h (Planned.Elision p.step)) p.is-0 (subst (λ q. CanMake c.args.self.now q) p.is-1 c.requires)).source made.ensures.buffer made.ensures.source made.ensures.versions made.ensures.changes made.ensures.resolver
      ∙ ap (λ h. known_grown (known h) m) (sym p.is-0))
]
