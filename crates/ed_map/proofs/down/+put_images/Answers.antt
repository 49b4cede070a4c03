use Rattle.std.proofs.Common.{◌≡◌, ◌++◌, ◌+◌, ◌-◌, ap, sym, ◌∙◌, inl, arith, Option, Some, None}
use Rattle.std.specs.Prelude.{slice_get}
use Rattle.std.proofs.lemmas.List.{append-nil}
use Rattle.ed_base.specs.Spans.{end_of}
use Rattle.ed_map.specs.Shown.{shown}
use Rattle.ed_map.specs.declared.shown.Shown.{Shown}
use Rattle.ed_map.specs.Down.{down_within}
use Rattle.ed_map.proofs.MemberParts.{start_of, down_rest}
use Rattle.ed_map.proofs.ShownLemmas.{placed_members, placed_base, ends_short, shown_below, below_reaches}
use Rattle.ed_map.proofs.DownSteps.{source_images, shown_images, down_begins, down_more, down_done, down_none, down_own}
use Rattle.ed_map.proofs.down.+put_images.Goals as goal
use Rattle.ed_map.proofs.down.+put_images.Goals.{in-Some+in_ok-put_images-in-Carrier, in_default}

pub loop-index-init : goal.loop-index-init
loop-index-init g t c =
    let p = placed_members (g.L.Layers.record_at c.args.layers.now c.args.b c.args.v) c.requires.is c.in-Carrier.members c.in-Carrier.sources c.requires.there c.in-Carrier.ensures.placed in
    down_begins (g.L.Layers.record_at c.args.layers.now) (g.L.Layers.rank c.args.layers.now) c.placed-placed.ensures.layers c.args.to c.args.b c.args.v c.args.part.start (end_of c.args.part) c.first_member_behind-index.result c.requires.is c.in-Carrier.members.now c.in-Carrier.sources.now c.args.images.now.items c.requires.there (sym c.if-eq.ensures) p.0 p.1 c.first_member_behind-index.ensures.before

pub shown_by-requires-clause-bounds : goal.shown_by-requires-clause-bounds
shown_by-requires-clause-bounds g t c =
    let p = placed_members (g.L.Layers.record_at c.args.layers.now c.args.b c.args.v) c.requires.is c.in-Carrier.members c.in-Carrier.sources c.requires.there c.in-Carrier.ensures.placed in
    ends_short (g.L.Layers.record_at c.args.layers.now) (g.L.Layers.rank c.args.layers.now) c.placed-placed.ensures.layers c.args.b c.args.v c.loop-index.index c.requires.is c.get.result.now c.requires.there (ap (λ ms. slice_get ms c.loop-index.index) (sym p.0) ∙ c.get.ensures)

pub put_images-requires : goal.put_images-requires
put_images-requires g t c κs within =
    let p = placed_members (g.L.Layers.record_at c.args.layers.now c.args.b c.args.v) c.requires.is c.in-Carrier.members c.in-Carrier.sources c.requires.there c.in-Carrier.ensures.placed in
    let below = shown_below (g.L.Layers.record_at c.args.layers.now) (g.L.Layers.rank c.args.layers.now) c.placed-placed.ensures.layers c.args.b c.args.v c.loop-index.index c.requires.is c.get.result.now (c.args.part.start - c.place-at.result.start) (end_of c.args.part - c.place-at.result.start) c.in-Some.inner c.requires.there (ap (λ ms. slice_get ms c.loop-index.index) (sym p.0) ∙ c.get.ensures)
    (ap (λ ss. shown ss c.get.result.now (c.args.part.start - c.place-at.result.start) (end_of c.args.part - c.place-at.result.start)) (sym p.1) ∙ sym c.in-Some.ensures) in
    let d : g.L.Layers.rank c.args.layers.now c.args.b c.args.v ≡ t = c.decreases in
    (omega (arith, d, below.lower), (within, below_reaches (g.L.Layers.record_at c.args.layers.now) (g.L.Layers.rank c.args.layers.now) c.placed-placed.ensures.layers (end_of c.in-Some.inner.part) below (omega arith)))

pub loop-index-preserved : goal.loop-index-preserved
loop-index-preserved g t c =
    let record_at = g.L.Layers.record_at c.args.layers.now in
    let start : c.place-at.result.start ≡ start_of c.in-Carrier.members.now c.loop-index.index = ap (λ s. s.start) c.place-at.ensures.place in
    let shows : Option Shown → Type 0 = λ o. o ≡ shown c.in-Carrier.sources.now c.get.result.now (c.args.part.start - start_of c.in-Carrier.members.now c.loop-index.index) (end_of c.args.part - start_of c.in-Carrier.members.now c.loop-index.index) in
    let more : (o : Option Shown) → shows o → c.match-shown_by.images.items ≡ c.loop-index.images.items ++ shown_images record_at c.args.to c.in-Carrier.sources.now o → c.match-shown_by.images.items ++ down_rest (source_images record_at c.args.to c.in-Carrier.sources.now) c.in-Carrier.members.now c.args.part.start (end_of c.args.part) (c.loop-index.index + 1) ≡ c.args.images.now.items ++ down_within record_at 9 c.args.to c.args.b c.args.v c.args.part.start (end_of c.args.part) =
    λ o is put. down_more record_at c.args.to c.in-Carrier.sources.now c.in-Carrier.members.now c.args.part.start (end_of c.args.part) c.loop-index.index c.get.result.now o c.loop-index.images.items c.match-shown_by.images.items (c.args.images.now.items ++ down_within record_at 9 c.args.to c.args.b c.args.v c.args.part.start (end_of c.args.part)) c.get.ensures is put c.loop-index.invariant in
    let told : shows c.shown_by.result = c.shown_by.ensures ∙ ap (λ n. shown c.in-Carrier.sources.now c.get.result.now (c.args.part.start - n) (end_of c.args.part - n)) start in
    elim c.match-shown_by.branch [
      | in-Some+in_ok-put_images-in-Carrier w ↦ more (Some w.in-Some.inner) (sym w.in-Some.is ∙ told) (ap (λ v. v.items) w.images-is ∙ w.in_ok-put_images-in-Carrier.ensures.images)
      | in_default w ↦ more None (sym w.in_default.is ∙ told) (ap (λ v. v.items) w.images-is ∙ sym (append-nil c.loop-index.images.items))
    ]

pub returns-then-eq-clause-images : goal.returns-then-eq-clause-images
returns-then-eq-clause-images g t c = c.in_ok-push.ensures.items ∙ down_own (g.L.Layers.record_at c.args.layers.now) c.args.to c.args.b c.args.v c.args.part c.args.images.now.items (sym c.if-eq.ensures)

pub returns-then-end-at-clause-images : goal.returns-then-end-at-clause-images
returns-then-end-at-clause-images g t c =
    let e = ap (λ s. s.start) c.place-at.ensures.place in
    let at = c.if-end-at.true in
    down_done (g.L.Layers.record_at c.args.layers.now) c.args.to c.in-Carrier.sources.now c.in-Carrier.members.now c.args.part.start (end_of c.args.part) c.loop-index.index c.loop-index.images.items (c.args.images.now.items ++ down_within (g.L.Layers.record_at c.args.layers.now) 9 c.args.to c.args.b c.args.v c.args.part.start (end_of c.args.part)) (inl (omega (arith, e, at))) c.loop-index.invariant

pub returns-in-Base-clause-images : goal.returns-in-Base-clause-images
returns-in-Base-clause-images g t c =
    down_none (g.L.Layers.record_at c.args.layers.now) (g.L.Layers.rank c.args.layers.now) c.placed-placed.ensures.layers c.args.to c.args.b c.args.v c.args.part.start (end_of c.args.part) c.requires.is c.args.images.now.items c.requires.there (sym c.if-eq.ensures)
    (placed_base (g.L.Layers.record_at c.args.layers.now c.args.b c.args.v) c.requires.is c.in-Base.len c.requires.there c.in-Base.ensures.placed).0
