use Rattle.std.proofs.Common.{◌≡◌, ◌++◌, ℕ, ◌+◌, ◌-◌, ◌^◌, List, ap, sym, subst, ◌∙◌, arith, refl}
use Rattle.std.specs.Prelude.{slice_get, is_some, flat_map}
use Rattle.std.proofs.lemmas.Result.{IfOk-weaker}
use Rattle.ed_base.specs.declared.edit.Span.{Span}
use Rattle.ed_base.specs.declared.piece.Member.{Member}
use Rattle.ed_map.specs.declared.images.Known.{Known}
use Rattle.ed_map.specs.declared.shown.Shown.{Shown}
use Rattle.ed_map.specs.Up.{cut_to}
use Rattle.ed_spans.specs.SpanSets.{AreApartFrom, AreRisingFrom, joined}
use Rattle.ed_map.specs.Images.{AreKnown, StandsAt, IsFound, HasPut, clipped}
use Rattle.ed_map.specs.Layers.{record_len}
use Rattle.ed_map.specs.Shown.{tracked}
use Rattle.ed_map.proofs.MemberParts.{get_below, place_len, start_of}
use Rattle.ed_map.proofs.ShownLemmas.{placed_as, placed_members, placed_base, there_is, tracked_below, tracked_len}
use Rattle.ed_map.proofs.CutSteps.{apart_more}
use Rattle.ed_map.proofs.UpSteps.{AreCuts, SoFar, pass_begins, pass_ends, pass_none, pass_some, own_cuts, base_cuts, cuts_short, cuts_found, found_images}
use Rattle.ed_map.proofs.up.+find_images.Goals as goal
use Rattle.ed_map.proofs.up.+find_images.Goals.{in-Some+in_ok-at-in-Carrier+in_ok-put_cuts-in-Carrier, in_default}

pub returns-then-is_at : goal.returns-then-is_at
returns-then-is_at g t c = record {
  sound = c.requires.known;
  stands = subst (λ ks. StandsAt c.args.b c.args.v c.slot_of-found.result ks) c.deref-2.ensures.value (c.if-is_at.ensures.told refl);
}

pub returns-then-eq : goal.returns-then-eq
returns-then-eq g t c =
    let record_at = g.L.Layers.record_at c.args.layers.now in
    let rank = g.L.Layers.rank c.args.layers.now in
    let layers = c.placed-placed.ensures.layers in
    let r = there_is (record_at c.args.b c.args.v) c.requires.there in
    let long = c.len.ensures r.0 (placed_as (record_at c.args.b c.args.v) r.0 c.placed-placed.result r.1 c.placed-placed.ensures.placed) in
    let P : List Span → Type 0 = λ xs. AreCuts record_at c.args.of c.args.span c.args.b c.args.v r.0 xs in
    let are : P c.deref-then-eq.result.now = subst P (sym (c.deref-then-eq.ensures.value ∙ c.in_ok-put_own.ensures ∙ ap (λ xs. xs ++ clipped c.args.span c.len.result) c.new-cuts.ensures.items)) (own_cuts record_at rank layers c.args.of c.args.span c.args.b c.args.v c.len.result r.0 (sym c.if-eq.ensures) long) in
    IfOk-weaker c.keep.result (λ i. HasPut c.args.b c.args.v (joined c.deref-then-eq.result.now) i c.args.known.now.items c.keep.new.known.items) (λ i. IsFound record_at rank c.args.of c.args.span c.args.b c.args.v i c.keep.new.known.items)
    (λ i put. cuts_found record_at rank layers c.args.of c.args.span c.args.b c.args.v i r.0 c.deref-then-eq.result.now c.args.known.now.items c.keep.new.known.items r.1 are c.requires.known put) c.keep.ensures

pub returns-in-Base : goal.returns-in-Base
returns-in-Base g t c =
    let record_at = g.L.Layers.record_at c.args.layers.now in
    let rank = g.L.Layers.rank c.args.layers.now in
    let layers = c.placed-placed.ensures.layers in
    let r = there_is (record_at c.args.b c.args.v) c.requires.there in
    let P : List Span → Type 0 = λ xs. AreCuts record_at c.args.of c.args.span c.args.b c.args.v r.0 xs in
    let are : P c.deref-in-Base.result.now = subst P (sym (c.deref-in-Base.ensures.value ∙ c.new-cuts.ensures.items)) (base_cuts record_at rank layers c.args.of c.args.span c.args.b c.args.v r.0 r.1 (sym c.if-eq.ensures) (placed_base (record_at c.args.b c.args.v) r.0 c.in-Base.len r.1 c.in-Base.ensures.placed).0) in
    IfOk-weaker c.keep-in-Base.result (λ i. HasPut c.args.b c.args.v (joined c.deref-in-Base.result.now) i c.args.known.now.items c.keep-in-Base.new.known.items) (λ i. IsFound record_at rank c.args.of c.args.span c.args.b c.args.v i c.keep-in-Base.new.known.items)
    (λ i put. cuts_found record_at rank layers c.args.of c.args.span c.args.b c.args.v i r.0 c.deref-in-Base.result.now c.args.known.now.items c.keep-in-Base.new.known.items r.1 are c.requires.known put) c.keep-in-Base.ensures

pub loop-index-init : goal.loop-index-init
loop-index-init g t c =
    let record_at = g.L.Layers.record_at c.args.layers.now in
    let r = there_is (record_at c.args.b c.args.v) c.requires.there in
    let p = placed_members (record_at c.args.b c.args.v) r.0 c.in-Carrier.members c.in-Carrier.sources r.1 c.in-Carrier.ensures.placed in
    let P : List Span → Type 0 = λ xs. SoFar record_at c.args.of c.args.span c.in-Carrier.sources.now c.args.b c.args.v c.in-Carrier.members.now 0 xs in
    record { known = c.requires.known; so_far = subst P (sym c.new-cuts.ensures.items) (pass_begins record_at (g.L.Layers.rank c.args.layers.now) c.placed-placed.ensures.layers c.args.of c.args.span c.args.b c.args.v r.0 c.in-Carrier.members.now c.in-Carrier.sources.now r.1 (sym c.if-eq.ensures) p.0 p.1) }

pub find_images-requires : goal.find_images-requires
find_images-requires g t c κs within =
    let record_at = g.L.Layers.record_at c.args.layers.now in
    let r = there_is (record_at c.args.b c.args.v) c.requires.there in
    let p = placed_members (record_at c.args.b c.args.v) r.0 c.in-Carrier.members c.in-Carrier.sources r.1 c.in-Carrier.ensures.placed in
    let below = tracked_below record_at (g.L.Layers.rank c.args.layers.now) c.placed-placed.ensures.layers c.args.b c.args.v c.loop-index.index r.0 c.get.result.now c.in-Some.inner r.1 (ap (λ ms. slice_get ms c.loop-index.index) (sym p.0) ∙ c.get.ensures) (ap (λ ss. tracked ss c.get.result.now) (sym p.1) ∙ sym c.in-Some.ensures) in
    let d : g.L.Layers.rank c.args.layers.now c.args.b c.args.v ≡ t = c.decreases in
    (omega (arith, d, below.lower), (within, (ap is_some below.there, c.loop-index.invariant.known)))

pub index-images-requires : goal.index-images-requires
index-images-requires g t c = let s = c.in_ok-at-in-Carrier.ensures.stands in omega (arith, get_below c.find_images.new.known.items c.in_ok-at-in-Carrier.at s.entry s.there, c.find_images.new.known.ok)

pub put_cuts-requires-clause-apart : goal.put_cuts-requires-clause-apart
put_cuts-requires-clause-apart g t c =
    let record_at = g.L.Layers.record_at c.args.layers.now in
    let rank = g.L.Layers.rank c.args.layers.now in
    let layers = c.placed-placed.ensures.layers in
    let r = there_is (record_at c.args.b c.args.v) c.requires.there in
    let p = placed_members (record_at c.args.b c.args.v) r.0 c.in-Carrier.members c.in-Carrier.sources r.1 c.in-Carrier.ensures.placed in
    let below = tracked_below record_at rank layers c.args.b c.args.v c.loop-index.index r.0 c.get.result.now c.in-Some.inner r.1 (ap (λ ms. slice_get ms c.loop-index.index) (sym p.0) ∙ c.get.ensures) (ap (λ ss. tracked ss c.get.result.now) (sym p.1) ∙ sym c.in-Some.ensures) in
    let images = found_images record_at rank c.args.of c.args.span c.in-Some.inner.source c.in-Some.inner.version c.in_ok-at-in-Carrier.at c.find_images.new.known.items c.index-images.result.now c.in_ok-at-in-Carrier.ensures c.index-images.ensures in
    let P : List Span → Type 0 = λ xs. AreApartFrom 0 (2 ^ 32 - 1) xs in
    subst P (sym c.deref-in-Some.ensures.value) (apart_more 0 (record_len below.inner) (2 ^ 32 - 1) c.index-images.result.now.spans.items (omega (arith, layers.short c.in-Some.inner.source c.in-Some.inner.version below.inner below.there)) (images.apart below.inner below.there))

pub put_cuts-requires-clause-bounds : goal.put_cuts-requires-clause-bounds
put_cuts-requires-clause-bounds g t c =
    let record_at = g.L.Layers.record_at c.args.layers.now in
    let rank = g.L.Layers.rank c.args.layers.now in
    let layers = c.placed-placed.ensures.layers in
    let r = there_is (record_at c.args.b c.args.v) c.requires.there in
    let p = placed_members (record_at c.args.b c.args.v) r.0 c.in-Carrier.members c.in-Carrier.sources r.1 c.in-Carrier.ensures.placed in
    let below = tracked_below record_at rank layers c.args.b c.args.v c.loop-index.index r.0 c.get.result.now c.in-Some.inner r.1 (ap (λ ms. slice_get ms c.loop-index.index) (sym p.0) ∙ c.get.ensures) (ap (λ ss. tracked ss c.get.result.now) (sym p.1) ∙ sym c.in-Some.ensures) in
    omega (arith, below.inside, layers.short c.in-Some.inner.source c.in-Some.inner.version below.inner below.there)

pub put_cuts-requires-clause-place : goal.put_cuts-requires-clause-place
put_cuts-requires-clause-place g t c =
    let record_at = g.L.Layers.record_at c.args.layers.now in
    let rank = g.L.Layers.rank c.args.layers.now in
    let layers = c.placed-placed.ensures.layers in
    let r = there_is (record_at c.args.b c.args.v) c.requires.there in
    let p = placed_members (record_at c.args.b c.args.v) r.0 c.in-Carrier.members c.in-Carrier.sources r.1 c.in-Carrier.ensures.placed in
    let len = tracked_len c.in-Carrier.sources.now c.get.result.now c.in-Some.inner (sym c.in-Some.ensures) in
    let place = place_len c.in-Carrier.members.now c.loop-index.index c.get.result.now c.get.ensures in
    let here = ap (λ s. s.len) c.place-place.ensures.place in
    omega (arith, here, place, len, c.place-place.ensures.within, p.2, layers.short c.args.b c.args.v r.0 r.1)

pub loop-index-preserved : goal.loop-index-preserved
loop-index-preserved g t c =
    let record_at = g.L.Layers.record_at c.args.layers.now in
    let rank = g.L.Layers.rank c.args.layers.now in
    let layers = c.placed-placed.ensures.layers in
    let r = there_is (record_at c.args.b c.args.v) c.requires.there in
    let p = placed_members (record_at c.args.b c.args.v) r.0 c.in-Carrier.members c.in-Carrier.sources r.1 c.in-Carrier.ensures.placed in
    let ms : List Member = c.in-Carrier.members.now in
    let sources : List (ℕ × ℕ) = c.in-Carrier.sources.now in
    let i : ℕ = c.loop-index.index in
    let Known-so : List Known → Type 0 = λ ks. AreKnown record_at rank c.args.of c.args.span ks in
    let Passed : List Span → Type 0 = λ xs. SoFar record_at c.args.of c.args.span sources c.args.b c.args.v ms (i + 1) xs in
    elim c.match-tracked.branch [
      | in-Some+in_ok-at-in-Carrier+in_ok-put_cuts-in-Carrier w ↦
          (let inner : Shown = w.in-Some.inner in
          let below = tracked_below record_at rank layers c.args.b c.args.v i r.0 c.get.result.now inner r.1 (ap (λ ms. slice_get ms i) (sym p.0) ∙ c.get.ensures) (ap (λ ss. tracked ss c.get.result.now) (sym p.1) ∙ sym w.in-Some.ensures) in
          let found = w.in_ok-at-in-Carrier.ensures in
          let images = found_images record_at rank c.args.of c.args.span inner.source inner.version w.in_ok-at-in-Carrier.at w.find_images.new.known.items w.index-images.result.now found w.index-images.ensures in
          let start : w.place-place.result.start ≡ start_of ms i = ap (λ s. s.start) w.place-place.ensures.place in
          let put : w.put_cuts.new.cuts.items ≡ c.loop-index.cuts.items ++ flat_map (cut_to inner.part (start_of ms i)) w.index-images.result.now.spans.items =
          w.in_ok-put_cuts-in-Carrier.ensures ∙ ap (λ xs. c.loop-index.cuts.items ++ flat_map (cut_to inner.part w.place-place.result.start) xs) w.deref-in-Some.ensures.value ∙ ap (λ n. c.loop-index.cuts.items ++ flat_map (cut_to inner.part n) w.index-images.result.now.spans.items) start in
          record {
            known = subst Known-so (sym (ap (λ v. v.items) w.known-is)) found.sound;
            so_far = subst Passed (sym (ap (λ v. v.items) w.cuts-is)) (pass_some record_at c.args.of c.args.span sources c.args.b c.args.v ms i (record_len below.inner) c.get.result.now inner c.loop-index.cuts.items w.put_cuts.new.cuts.items w.index-images.result.now.spans.items
                c.get.ensures (sym w.in-Some.ensures) (images.apart below.inner below.there) (λ q inside. images.holds below.inner q below.there (omega (arith, inside, below.inside))) put c.loop-index.invariant.so_far);
          })
      | in_default w ↦ record {
        known = subst Known-so (sym (ap (λ v. v.items) w.known-is)) c.loop-index.invariant.known;
        so_far = subst Passed (sym (ap (λ v. v.items) w.cuts-is)) (pass_none record_at c.args.of c.args.span sources c.args.b c.args.v ms i c.get.result.now c.loop-index.cuts.items c.get.ensures (sym w.in_default.ensures) c.loop-index.invariant.so_far);
      }
    ]

pub keep-requires-in-Carrier : goal.keep-requires-in-Carrier
keep-requires-in-Carrier g t c =
    let record_at = g.L.Layers.record_at c.args.layers.now in
    let rank = g.L.Layers.rank c.args.layers.now in
    let layers = c.placed-placed.ensures.layers in
    let r = there_is (record_at c.args.b c.args.v) c.requires.there in
    let p = placed_members (record_at c.args.b c.args.v) r.0 c.in-Carrier.members c.in-Carrier.sources r.1 c.in-Carrier.ensures.placed in
    let count = c.count-index-end.ensures.count in
    let out = c.loop-index-test.false in
    let are = pass_ends record_at rank layers c.args.of c.args.span c.args.b c.args.v r.0 c.in-Carrier.members.now c.in-Carrier.sources.now c.loop-index.index c.loop-index.cuts.items p.2 (omega (arith, count, out)) c.loop-index.invariant.so_far in
    let P : List Span → Type 0 = λ xs. AreRisingFrom 0 (2 ^ 32 - 1) xs in
    subst P (sym c.deref-in-Carrier.ensures.value) (cuts_short record_at rank layers c.args.of c.args.span c.args.b c.args.v r.0 c.loop-index.cuts.items r.1 are)

pub returns : goal.returns
returns g t c =
    let record_at = g.L.Layers.record_at c.args.layers.now in
    let rank = g.L.Layers.rank c.args.layers.now in
    let layers = c.placed-placed.ensures.layers in
    let r = there_is (record_at c.args.b c.args.v) c.requires.there in
    let p = placed_members (record_at c.args.b c.args.v) r.0 c.in-Carrier.members c.in-Carrier.sources r.1 c.in-Carrier.ensures.placed in
    let count = c.count-index-end.ensures.count in
    let out = c.loop-index-test.false in
    let P : List Span → Type 0 = λ xs. AreCuts record_at c.args.of c.args.span c.args.b c.args.v r.0 xs in
    let are : P c.deref-in-Carrier.result.now = subst P (sym c.deref-in-Carrier.ensures.value) (pass_ends record_at rank layers c.args.of c.args.span c.args.b c.args.v r.0 c.in-Carrier.members.now c.in-Carrier.sources.now c.loop-index.index c.loop-index.cuts.items p.2 (omega (arith, count, out)) c.loop-index.invariant.so_far) in
    IfOk-weaker c.keep-in-Carrier.result (λ i. HasPut c.args.b c.args.v (joined c.deref-in-Carrier.result.now) i c.loop-index.known.items c.keep-in-Carrier.new.known.items) (λ i. IsFound record_at rank c.args.of c.args.span c.args.b c.args.v i c.keep-in-Carrier.new.known.items)
    (λ i put. cuts_found record_at rank layers c.args.of c.args.span c.args.b c.args.v i r.0 c.deref-in-Carrier.result.now c.loop-index.known.items c.keep-in-Carrier.new.known.items r.1 are c.loop-index.invariant.known put) c.keep-in-Carrier.ensures
