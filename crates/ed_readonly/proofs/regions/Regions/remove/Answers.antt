use Rattle.std.proofs.Common.{◌≡◌, ℕ, ◌<◌, ◌≤◌, ◌^◌, not, List, length, slice_index, refl, sym, ap, ◌∙◌, arith}
use Rattle.std.specs.List.{filter}
use Rattle.std.proofs.lemmas.List.Elements.{All-filter}
use Rattle.std.proofs.lemmas.List.Filters.{length-filter_both}
use Rattle.ed_base.specs.Denial.{Region}
use Rattle.ed_base.specs.Spans.{end_of}
use Rattle.ed_readonly.specs.LiveRegions.{LiveRegions, is_numbered, numbers}
use Rattle.ed_readonly.proofs.Numbering.{number_at, numbered_filter, remove_at, without_absent}
use Rattle.ed_readonly.proofs.regions.Regions.remove.Goals as goal

pub returns-in_default-clause-state : goal.returns-in_default-clause-state
returns-in_default-clause-state c = without_absent c.args.self.now c.args.region (sym c.in_default.ensures.live)

pub remove-removed-requires : goal.remove-removed-requires
remove-removed-requires c =
    let same : c.args.self.now.regions ≡ c.self.inside.list.items = ap (λ (t : LiveRegions). t.regions) (sym c.self.view_is) in
    omega (arith, c.in-Some.ensures.within, ap length same)

-- the list is left without the region of the number
left : (c : goal.Joined-removed) → c.remove-removed.new.self.items ≡ filter (λ r. not (is_numbered c.args.region r)) c.self.inside.list.items
left c =
    let items : List Region = c.self.inside.list.items in
    let at : ℕ = c.in-Some.at in
    let same : c.args.self.now.regions ≡ items = ap (λ (t : LiveRegions). t.regions) (sym c.self.view_is) in
    let within : at < length items = omega (arith, c.in-Some.ensures.within, ap length same) in
    let there : slice_index (numbers items) at ≡ c.args.region = rw same at c.in-Some.ensures.place in
    c.remove-removed.ensures.items ∙ remove_at 0 c.self.inside.given items c.args.region at c.self.invariant.numbered within (number_at items at c.args.region within there)

pub invariant_of-self : goal.invariant_of-self
invariant_of-self c =
    let items : List Region = c.self.inside.list.items in
    let given : ℕ = c.self.inside.given in
    rw (left c) record {
      numbered = numbered_filter (λ r. not (is_numbered c.args.region r)) 0 given items c.self.invariant.numbered;
      live = omega (arith, length-filter_both (λ (r : Region). is_numbered c.args.region r) (λ r. not (is_numbered c.args.region r)) (λ r. refl) items, c.self.invariant.live);
      given = c.self.invariant.given;
      within = All-filter (λ (r : Region). not (is_numbered c.args.region r)) (λ (r : Region). end_of r.span ≤ 2 ^ 22) items c.self.invariant.within;
    }

pub returns-clause-state : goal.returns-clause-state
returns-clause-state c = rw (left c, ← c.self.view_is) refl
