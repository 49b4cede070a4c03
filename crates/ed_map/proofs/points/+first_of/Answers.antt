use Rattle.std.proofs.Common.{◌≡◌, ◌+◌, ◌-◌, ap, sym, ◌∙◌, inl, arith, Option, Some, None, refl}
use Rattle.std.specs.Prelude.{slice_get}
use Rattle.ed_base.specs.Spans.{end_of}
use Rattle.ed_map.specs.Shown.{shown}
use Rattle.ed_map.specs.declared.shown.Shown.{Shown}
use Rattle.ed_map.specs.Up.{first_within}
use Rattle.ed_map.proofs.MemberParts.{start_of, first_from}
use Rattle.ed_map.proofs.ShownLemmas.{placed_members, placed_base, ends_short, shown_below, below_reaches}
use Rattle.ed_map.proofs.FirstSteps.{source_first, shown_first, first_begins, first_more, first_got, first_done, first_none, first_own}
use Rattle.ed_map.proofs.points.+first_of.Goals as goal
use Rattle.ed_map.proofs.points.+first_of.Goals.{in-Some+in_default-found, in_default}

pub returns-then-eq-clause-first : goal.returns-then-eq-clause-first
returns-then-eq-clause-first g t c = c.place_in.ensures.place ∙ first_own (g.L.Layers.record_at c.args.layers.now) c.args.of c.args.unit c.args.b c.args.v c.args.part.start (end_of c.args.part) (sym c.if-eq.ensures)

pub loop-index-init : goal.loop-index-init
loop-index-init g t c =
    let p = placed_members (g.L.Layers.record_at c.args.layers.now c.args.b c.args.v) c.requires.is c.in-Carrier.members c.in-Carrier.sources c.requires.there c.in-Carrier.ensures.placed in
    first_begins (g.L.Layers.record_at c.args.layers.now) (g.L.Layers.rank c.args.layers.now) c.placed-placed.ensures.layers c.args.of c.args.unit c.args.b c.args.v c.args.part.start (end_of c.args.part) c.first_member_behind-index.result c.requires.is c.in-Carrier.members.now c.in-Carrier.sources.now c.requires.there (sym c.if-eq.ensures) p.0 p.1 c.first_member_behind-index.ensures.before

pub returns-then-end-at-clause-first : goal.returns-then-end-at-clause-first
returns-then-end-at-clause-first g t c =
    let e = ap (λ s. s.start) c.place-at.ensures.place in
    let at = c.if-end-at.true in
    first_done (g.L.Layers.record_at c.args.layers.now) c.args.of c.args.unit c.in-Carrier.sources.now c.in-Carrier.members.now c.args.part.start (end_of c.args.part) c.loop-index.index (first_within (g.L.Layers.record_at c.args.layers.now) 9 c.args.of c.args.unit c.args.b c.args.v c.args.part.start (end_of c.args.part)) (inl (omega (arith, e, at))) c.loop-index.invariant

pub shown_by-requires-clause-bounds : goal.shown_by-requires-clause-bounds
shown_by-requires-clause-bounds g t c =
    let p = placed_members (g.L.Layers.record_at c.args.layers.now c.args.b c.args.v) c.requires.is c.in-Carrier.members c.in-Carrier.sources c.requires.there c.in-Carrier.ensures.placed in
    ends_short (g.L.Layers.record_at c.args.layers.now) (g.L.Layers.rank c.args.layers.now) c.placed-placed.ensures.layers c.args.b c.args.v c.loop-index.index c.requires.is c.get.result.now c.requires.there (ap (λ ms. slice_get ms c.loop-index.index) (sym p.0) ∙ c.get.ensures)

pub first_of-found-requires : goal.first_of-found-requires
first_of-found-requires g t c κs within =
    let p = placed_members (g.L.Layers.record_at c.args.layers.now c.args.b c.args.v) c.requires.is c.in-Carrier.members c.in-Carrier.sources c.requires.there c.in-Carrier.ensures.placed in
    let below = shown_below (g.L.Layers.record_at c.args.layers.now) (g.L.Layers.rank c.args.layers.now) c.placed-placed.ensures.layers c.args.b c.args.v c.loop-index.index c.requires.is c.get.result.now (c.args.part.start - c.place-at.result.start) (end_of c.args.part - c.place-at.result.start) c.in-Some.inner c.requires.there (ap (λ ms. slice_get ms c.loop-index.index) (sym p.0) ∙ c.get.ensures)
    (ap (λ ss. shown ss c.get.result.now (c.args.part.start - c.place-at.result.start) (end_of c.args.part - c.place-at.result.start)) (sym p.1) ∙ sym c.in-Some.ensures) in
    let d : g.L.Layers.rank c.args.layers.now c.args.b c.args.v ≡ t = c.decreases in
    (omega (arith, d, below.lower), (within, below_reaches (g.L.Layers.record_at c.args.layers.now) (g.L.Layers.rank c.args.layers.now) c.placed-placed.ensures.layers (end_of c.in-Some.inner.part) below (omega arith)))

pub returns-in-Some-found-clause-first : goal.returns-in-Some-found-clause-first
returns-in-Some-found-clause-first g t c =
    let record_at = g.L.Layers.record_at c.args.layers.now in
    let start : c.place-at.result.start ≡ start_of c.in-Carrier.members.now c.loop-index.index = ap (λ s. s.start) c.place-at.ensures.place in
    let at = c.if-end-at.false in
    let told : Some c.in-Some.inner ≡ shown c.in-Carrier.sources.now c.get.result.now (c.args.part.start - start_of c.in-Carrier.members.now c.loop-index.index) (end_of c.args.part - start_of c.in-Carrier.members.now c.loop-index.index) =
    c.in-Some.ensures ∙ ap (λ n. shown c.in-Carrier.sources.now c.get.result.now (c.args.part.start - n) (end_of c.args.part - n)) start in
    let m = c.max.ensures in
    let count : c.max.result - c.args.part.start + c.in-Some-found.k ≡ start_of c.in-Carrier.members.now c.loop-index.index - c.args.part.start + c.in-Some-found.k = omega (arith, m, start) in
    ap Some count ∙ first_got record_at c.args.of c.args.unit c.in-Carrier.sources.now c.in-Carrier.members.now c.args.part.start (end_of c.args.part) c.loop-index.index c.in-Some-found.k c.get.result.now (Some c.in-Some.inner) (first_within record_at 9 c.args.of c.args.unit c.args.b c.args.v c.args.part.start (end_of c.args.part))
    c.get.ensures (omega (arith, start, at)) told (sym c.in-Some-found.ensures.first) c.loop-index.invariant

pub loop-index-preserved : goal.loop-index-preserved
loop-index-preserved g t c =
    let record_at = g.L.Layers.record_at c.args.layers.now in
    let start : c.place-at.result.start ≡ start_of c.in-Carrier.members.now c.loop-index.index = ap (λ s. s.start) c.place-at.ensures.place in
    let at = c.if-end-at.false in
    let shows : Option Shown → Type 0 = λ o. o ≡ shown c.in-Carrier.sources.now c.get.result.now (c.args.part.start - start_of c.in-Carrier.members.now c.loop-index.index) (end_of c.args.part - start_of c.in-Carrier.members.now c.loop-index.index) in
    let told : shows c.shown_by.result = c.shown_by.ensures ∙ ap (λ n. shown c.in-Carrier.sources.now c.get.result.now (c.args.part.start - n) (end_of c.args.part - n)) start in
    let more : (o : Option Shown) → shows o → shown_first record_at c.args.of c.args.unit c.in-Carrier.sources.now o ≡ None → first_from (source_first record_at c.args.of c.args.unit c.in-Carrier.sources.now) c.in-Carrier.members.now c.args.part.start (end_of c.args.part) (c.loop-index.index + 1) ≡ first_within record_at 9 c.args.of c.args.unit c.args.b c.args.v c.args.part.start (end_of c.args.part) =
    λ o is none. first_more record_at c.args.of c.args.unit c.in-Carrier.sources.now c.in-Carrier.members.now c.args.part.start (end_of c.args.part) c.loop-index.index c.get.result.now o (first_within record_at 9 c.args.of c.args.unit c.args.b c.args.v c.args.part.start (end_of c.args.part)) c.get.ensures (omega (arith, start, at)) is none c.loop-index.invariant in
    elim c.match-shown_by.branch [
      | in-Some+in_default-found w ↦ more (Some w.in-Some.inner) (sym w.in-Some.is ∙ told) (sym w.in_default-found.ensures.first)
      | in_default w ↦ more None (sym w.in_default.is ∙ told) refl
    ]

pub returns-in-Base-clause-first : goal.returns-in-Base-clause-first
returns-in-Base-clause-first g t c =
    first_none (g.L.Layers.record_at c.args.layers.now) (g.L.Layers.rank c.args.layers.now) c.placed-placed.ensures.layers c.args.of c.args.unit c.args.b c.args.v c.args.part.start (end_of c.args.part) c.requires.is c.requires.there (sym c.if-eq.ensures)
    (placed_base (g.L.Layers.record_at c.args.layers.now c.args.b c.args.v) c.requires.is c.in-Base.len c.requires.there c.in-Base.ensures.placed).0
