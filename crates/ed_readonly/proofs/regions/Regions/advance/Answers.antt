use Rattle.std.proofs.Common.{◌≡◌, ℕ, ◌<◌, ◌≤◌, ◌^◌, ◌++◌, List, length, take, drop, sym, ap, ◌∙◌, arith}
use Rattle.std.proofs.lemmas.List.{take_all}
use Rattle.std.proofs.lemmas.List.Edits.{map_over_more}
use Rattle.std.proofs.lemmas.List.Elements.{All-weaker}
use Rattle.ed_base.specs.ChangeList.{new_len, step}
use Rattle.ed_base.specs.Denial.{Region, region_after, regions_after}
use Rattle.ed_base.specs.Spans.{end_of}
use Rattle.ed_readonly.specs.LiveRegions.{LiveRegions, EndWithin}
use Rattle.ed_readonly.proofs.Moving.{all_rewritten, holds_one_more, written_over}
use Rattle.ed_readonly.proofs.Numbering.{numbered_after}
use Rattle.ed_readonly.proofs.regions.Regions.advance.Goals as goal

pub loop-region-preserved : goal.loop-region-preserved
loop-region-preserved c =
    let before : List Region = c.args.self.now.regions in
    let now : List Region = c.loop-region.region-items in
    let i : ℕ = c.loop-region.region-index in
    let region : Region = c.region-item.result in
    let same : before ≡ c.self.inside.list.items = ap (λ (t : LiveRegions). t.regions) (sym c.self.view_is) in
    let within : i < length before = omega (arith, ap length same, ap length c.deref_mut-region-items.ensures.value) in
    let within_now : i < length now = omega (arith, c.loop-region.auto.region-items) in
    record {
      moved = rw (c.advance.ensures.moved, ← c.region-item.is) (map_over_more (region_after (step c.args.changes.now)) before now i region within c.loop-region.invariant.moved c.region-item.is);
      within = holds_one_more (λ (r : Region). end_of r.span ≤ new_len c.args.changes.now) now i c.advance.new.self within_now c.advance.ensures.within c.loop-region.invariant.within;
    }

-- how many there are stays
same_length : (c : goal.After-self-1) → length c.loop-region.region-items ≡ length c.self.inside.list.items
same_length c = c.loop-region.auto.region-items ∙ ap length c.deref_mut-region-items.ensures.value

-- what the list holds after the loop
whole : (c : goal.After-self-1) → take c.self.inside.list.len (c.loop-region.region-items ++ drop (length c.loop-region.region-items) c.self.inside.list.items) ≡ c.loop-region.region-items
whole c = written_over c.self.inside.list.items c.loop-region.region-items c.self.inside.list.len (same_length c) (omega arith)

all_moved : (c : goal.After-self-1) → c.loop-region.region-items ≡ regions_after (step c.args.changes.now) c.self.inside.list.items
all_moved c =
    let same : c.args.self.now.regions ≡ c.self.inside.list.items = ap (λ (t : LiveRegions). t.regions) (sym c.self.view_is) in
    all_rewritten (region_after (step c.args.changes.now)) c.self.inside.list.items c.loop-region.region-items c.loop-region.region-index (omega (arith, same_length c, c.loop-region.auto.region-items)) (rw same at c.loop-region.invariant.moved)

all_within : (c : goal.After-self-1) → EndWithin (new_len c.args.changes.now) c.loop-region.region-items
all_within c =
    let all : take c.loop-region.region-index c.loop-region.region-items ≡ c.loop-region.region-items = take_all c.loop-region.region-index c.loop-region.region-items (omega (arith, c.loop-region.auto.region-items)) in
    rw all at c.loop-region.invariant.within

pub invariant_of-self : goal.invariant_of-self
invariant_of-self c = rw (whole c) record {
  numbered = rw (all_moved c) (numbered_after (step c.args.changes.now) 0 c.self.inside.given c.self.inside.list.items c.self.invariant.numbered);
  live = omega (arith, same_length c, c.self.invariant.live);
  given = c.self.invariant.given;
  within = All-weaker (λ (r : Region). end_of r.span ≤ new_len c.args.changes.now) (λ (r : Region). end_of r.span ≤ 2 ^ 22) (λ r h. omega (arith, h, c.requires.fits)) c.loop-region.region-items (all_within c);
}

pub returns-clause-moved : goal.returns-clause-moved
returns-clause-moved c =
    let same : c.args.self.now.regions ≡ c.self.inside.list.items = ap (λ (t : LiveRegions). t.regions) (sym c.self.view_is) in
    rw (whole c, same) (all_moved c)

pub returns-clause-within : goal.returns-clause-within
returns-clause-within c = rw (whole c) (all_within c)
