use Rattle.std.proofs.Common.{◌≡◌, ◌+◌, ◌-◌, ap, sym, ◌∙◌, arith, Option, Some, None}
use Rattle.std.specs.Prelude.{slice_get}
use Rattle.ed_map.specs.Shown.{shown}
use Rattle.ed_map.specs.declared.shown.Shown.{Shown}
use Rattle.ed_map.proofs.UnitPlaces.{places_own}
use Rattle.ed_map.proofs.MemberParts.{start_of, get_below}
use Rattle.ed_map.proofs.ShownLemmas.{placed_members, placed_base, ends_short, shown_below, shown_some, below_reaches}
use Rattle.ed_map.proofs.DownSteps.{place_found, place_none}
use Rattle.ed_map.proofs.points.+place_of.Goals as goal

pub returns-then-eq-clause-place : goal.returns-then-eq-clause-place
returns-then-eq-clause-place g t c = sym (places_own (g.L.Layers.record_at c.args.layers.now) 8 c.args.to c.args.b c.args.v c.args.k (sym c.if-eq.ensures))

pub shown_by-requires-clause-bounds : goal.shown_by-requires-clause-bounds
shown_by-requires-clause-bounds g t c =
    let p = placed_members (g.L.Layers.record_at c.args.layers.now c.args.b c.args.v) c.requires.is c.in-Carrier.members c.in-Carrier.sources c.requires.there c.in-Carrier.ensures.placed in
    ends_short (g.L.Layers.record_at c.args.layers.now) (g.L.Layers.rank c.args.layers.now) c.placed-placed.ensures.layers c.args.b c.args.v c.first_member_behind-index.result c.requires.is c.get.result.now c.requires.there (ap (λ ms. slice_get ms c.first_member_behind-index.result) (sym p.0) ∙ c.get.ensures)

pub returns-in_err-inner-in-Carrier-clause-place : goal.returns-in_err-inner-in-Carrier-clause-place
returns-in_err-inner-in-Carrier-clause-place g t c =
    let p = placed_members (g.L.Layers.record_at c.args.layers.now c.args.b c.args.v) c.requires.is c.in-Carrier.members c.in-Carrier.sources c.requires.there c.in-Carrier.ensures.placed in
    let start : c.place-at.result.start ≡ start_of c.in-Carrier.members.now c.first_member_behind-index.result = ap (λ s. s.start) c.place-at.ensures.place in
    let o : Option Shown = None in
    let told : o ≡ shown c.in-Carrier.sources.now c.get.result.now (c.args.k - start_of c.in-Carrier.members.now c.first_member_behind-index.result) (c.args.k + 1 - start_of c.in-Carrier.members.now c.first_member_behind-index.result) =
    c.in_err-inner-in-Carrier.ensures ∙ ap (λ n. shown c.in-Carrier.sources.now c.get.result.now (c.args.k - n) (c.args.k + 1 - n)) start in
    c.from_residual.ensures ∙ place_found (g.L.Layers.record_at c.args.layers.now) (g.L.Layers.rank c.args.layers.now) c.placed-placed.ensures.layers c.args.to c.args.b c.args.v c.args.k c.first_member_behind-index.result c.requires.is c.in-Carrier.members.now c.in-Carrier.sources.now c.get.result.now o c.requires.there (sym c.if-eq.ensures) p.0 p.1
    c.get.ensures c.first_member_behind-index.ensures.before (c.first_member_behind-index.ensures.behind (get_below c.in-Carrier.members.now c.first_member_behind-index.result c.get.result.now c.get.ensures)) told

pub place_of-requires : goal.place_of-requires
place_of-requires g t c κs within =
    let p = placed_members (g.L.Layers.record_at c.args.layers.now c.args.b c.args.v) c.requires.is c.in-Carrier.members c.in-Carrier.sources c.requires.there c.in-Carrier.ensures.placed in
    let inner = c.in_ok-inner-in-Carrier.inner in
    let below = shown_below (g.L.Layers.record_at c.args.layers.now) (g.L.Layers.rank c.args.layers.now) c.placed-placed.ensures.layers c.args.b c.args.v c.first_member_behind-index.result c.requires.is c.get.result.now (c.args.k - c.place-at.result.start) (c.args.k + 1 - c.place-at.result.start) inner c.requires.there (ap (λ ms. slice_get ms c.first_member_behind-index.result) (sym p.0) ∙ c.get.ensures)
    (ap (λ ss. shown ss c.get.result.now (c.args.k - c.place-at.result.start) (c.args.k + 1 - c.place-at.result.start)) (sym p.1) ∙ sym c.in_ok-inner-in-Carrier.ensures) in
    let d : g.L.Layers.rank c.args.layers.now c.args.b c.args.v ≡ t = c.decreases in
    (omega (arith, d, below.lower), (within, below_reaches (g.L.Layers.record_at c.args.layers.now) (g.L.Layers.rank c.args.layers.now) c.placed-placed.ensures.layers (inner.part.start + 1) below (let some = shown_some c.in-Carrier.sources.now c.get.result.now (c.args.k - c.place-at.result.start) (c.args.k + 1 - c.place-at.result.start) inner (sym c.in_ok-inner-in-Carrier.ensures) in omega (arith, some))))

pub returns-in-Base-clause-place : goal.returns-in-Base-clause-place
returns-in-Base-clause-place g t c =
    place_none (g.L.Layers.record_at c.args.layers.now) (g.L.Layers.rank c.args.layers.now) c.placed-placed.ensures.layers c.args.to c.args.b c.args.v c.args.k c.requires.is c.requires.there (sym c.if-eq.ensures)
    (placed_base (g.L.Layers.record_at c.args.layers.now c.args.b c.args.v) c.requires.is c.in-Base.len c.requires.there c.in-Base.ensures.placed).0

pub returns-in_ok-inner-in-Carrier-clause-place : goal.returns-in_ok-inner-in-Carrier-clause-place
returns-in_ok-inner-in-Carrier-clause-place g t c =
    let p = placed_members (g.L.Layers.record_at c.args.layers.now c.args.b c.args.v) c.requires.is c.in-Carrier.members c.in-Carrier.sources c.requires.there c.in-Carrier.ensures.placed in
    let start : c.place-at.result.start ≡ start_of c.in-Carrier.members.now c.first_member_behind-index.result = ap (λ s. s.start) c.place-at.ensures.place in
    let o : Option Shown = Some c.in_ok-inner-in-Carrier.inner in
    let told : o ≡ shown c.in-Carrier.sources.now c.get.result.now (c.args.k - start_of c.in-Carrier.members.now c.first_member_behind-index.result) (c.args.k + 1 - start_of c.in-Carrier.members.now c.first_member_behind-index.result) =
    c.in_ok-inner-in-Carrier.ensures ∙ ap (λ n. shown c.in-Carrier.sources.now c.get.result.now (c.args.k - n) (c.args.k + 1 - n)) start in
    c.place_of.ensures.place ∙ place_found (g.L.Layers.record_at c.args.layers.now) (g.L.Layers.rank c.args.layers.now) c.placed-placed.ensures.layers c.args.to c.args.b c.args.v c.args.k c.first_member_behind-index.result c.requires.is c.in-Carrier.members.now c.in-Carrier.sources.now c.get.result.now o c.requires.there (sym c.if-eq.ensures) p.0 p.1
    c.get.ensures c.first_member_behind-index.ensures.before (c.first_member_behind-index.ensures.behind (get_below c.in-Carrier.members.now c.first_member_behind-index.result c.get.result.now c.get.ensures)) told
