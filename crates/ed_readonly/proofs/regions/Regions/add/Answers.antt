use Rattle.std.proofs.Common.{◌≡◌, ℕ, ◌≤◌, ◌^◌, List, [], ◌∷◌, ◌++◌, ap, subst, sym, arith, length-append}
use Rattle.std.proofs.lemmas.List.Elements.{All-push}
use Rattle.ed_base.specs.Denial.{Region}
use Rattle.ed_base.specs.Spans.{end_of}
use Rattle.ed_readonly.proofs.Numbering.{numbered_push}
use Rattle.ed_readonly.proofs.regions.Regions.add.Goals as goal

pub invariant_of-self-2 : goal.invariant_of-self-2
invariant_of-self-2 c =
    let items : List Region = c.self.inside.list.items in
    let given : ℕ = c.self.inside.given in
    let region : Region = c.new-region.result in
    let pushed : c.push.new.self.items ≡ items ++ region ∷ [] = c.in_ok-push.ensures.items in
    rw pushed record {
      numbered = numbered_push 0 given items region (omega arith) (ap (λ (r : Region). r.number) c.new-region.ensures) c.self.invariant.numbered;
      live = omega (arith, length-append items (region ∷ []), c.if-len-ge-LIVE_LIMIT.false);
      given = omega (arith, c.if-self-ge-NUMBER_LIMIT.false);
      within = All-push (λ (r : Region). end_of r.span ≤ 2 ^ 22) items region c.self.invariant.within (subst (λ (r : Region). end_of r.span ≤ 2 ^ 22) (sym c.new-region.ensures) c.requires);
    }
