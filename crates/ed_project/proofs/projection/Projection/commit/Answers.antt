use Rattle.std.proofs.Common.{◌≡◌, [], ◌∷◌, length, subst, sym}
use Rattle.std.specs.Prelude.{All}
use Rattle.std.proofs.lemmas.List.Elements.{All-append, All-cons, All-nil}
use Rattle.ed_layers.specs.Records.{members_len}
use Rattle.ed_project.specs.declared.shown.Shown.{Shown}
use Rattle.ed_project.specs.Records.{IsShown, Next, shown}
use Rattle.ed_project.proofs.projection.Projection.commit.Goals as goal

pub invariant_of-self : goal.invariant_of-self
invariant_of-self c =
    let s : Shown = shown c.next.inside.members c.next.inside.sources c.next.inside.snapshot.text in
    let here : IsShown s = record {
      long = subst (λ (n : Next). length n.snapshot.text ≡ members_len n.members) (sym c.next.view_is) c.requires.long;
      literals = c.next.invariant;
    } in
    subst (All IsShown) (sym c.push.ensures.versions) (All-append IsShown c.self.inside.kept.versions (s ∷ []) c.self.invariant (All-cons IsShown s [] here (All-nil IsShown)))
