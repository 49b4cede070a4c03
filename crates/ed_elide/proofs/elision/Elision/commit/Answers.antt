use Rattle.std.proofs.Common.{[], ◌∷◌, subst, sym}
use Rattle.std.specs.Prelude.{All}
use Rattle.std.proofs.lemmas.List.Elements.{All-append, All-cons, All-nil}
use Rattle.ed_elide.specs.declared.version.ElisionVersion.{ElisionVersion}
use Rattle.ed_elide.specs.Records.{Elision, IsShown, Next, shown}
use Rattle.ed_elide.proofs.elision.Elision.commit.Goals as goal

pub invariant_of-self : goal.invariant_of-self
invariant_of-self c =
    let s : ElisionVersion = shown c.next.inside.hidden c.next.inside.version c.next.inside.members c.next.inside.sources c.next.inside.snapshot.text in
    let here : IsShown c.self.inside.source s =
    subst (λ (n : Next). IsShown c.self.inside.source (shown n.hidden n.version n.members n.sources n.snapshot.text)) (sym c.next.view_is)
    (subst (λ (e : Elision). IsShown e.source (shown c.args.next.hidden c.args.next.version c.args.next.members c.args.next.sources c.args.next.snapshot.text)) (sym c.self.view_is) c.requires.shown) in
    subst (All (IsShown c.self.inside.source)) (sym c.push.ensures.versions) (All-append (IsShown c.self.inside.source) c.self.inside.kept.versions (s ∷ []) c.self.invariant (All-cons (IsShown c.self.inside.source) s [] here (All-nil (IsShown c.self.inside.source))))
