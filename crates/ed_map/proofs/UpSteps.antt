-- Mapping up, member after member.
use Rattle.std.proofs.Common.{◌≡◌, ℕ, zero, suc, ◌+◌, ◌-◌, ◌<◌, ◌≤◌, ◌^◌, ◌⊎◌, Bool, true, false, ◌||◌, ◌&&◌, List, [], ◌∷◌, ◌++◌, length, take, drop, Some, None, Option, inl, inr, refl, sym, ap, subst, ◌∙◌, arith}
use Rattle.std.specs.Prelude.{All, insert, slice_get, slice_index_or, nat_eq, nat_lt, flat_map, min, option_map}
use Rattle.std.specs.Option.{option_map_or}
use Rattle.std.proofs.lemmas.Bool.{cases_lt, lt-ltb, le-ltb}
use Rattle.std.proofs.lemmas.List.{take_all}
use Rattle.std.proofs.lemmas.Option.{get_or_from_slice_get}
use Rattle.std.proofs.lemmas.List.Elements.{All-append, All-cons, All-take, All-drop}
use Rattle.ed_base.specs.declared.edit.Span.{Span}
use Rattle.ed_base.specs.declared.piece.Member.{Member}
use Rattle.ed_base.specs.Spans.{end_of, holds_place}
use Rattle.ed_layers.specs.Records.{Record, members_of, members_len, sources_of, version_in}
use Rattle.ed_spans.specs.SpanSets.{in_spans, AreApartFrom, AreRisingFrom, joined}
use Rattle.ed_spans.proofs.PlaceLemmas.{spans_append, same_bool, holds_from, holds_none, holds_parts}
use Rattle.ed_spans.proofs.JoinLemmas.{joined_apart, joined_holds}
use Rattle.ed_map.specs.declared.images.Known.{Known}
use Rattle.ed_map.specs.declared.shown.Shown.{Shown}
use Rattle.ed_map.specs.Layers.{record_len, AreLayers}
use Rattle.ed_map.specs.Images.{AreImages, AreKnown, StandsAt, IsFound, HasPut, clipped}
use Rattle.ed_map.specs.Shown.{tracked}
use Rattle.ed_map.specs.Up.{cut_to, up_member, up_members, up_within}
use Rattle.ed_layers.specs.Mapping.{up_span}
use Rattle.ed_spans.proofs.RunLemmas.{apart_runs}
use Rattle.ed_map.proofs.MappedSpans.{up_span_runs}
use Rattle.ed_map.proofs.UpImages.{ups_own}
use Rattle.ed_map.proofs.MemberParts.{get_below, start_of, start_next, up_rest, up_next, up_all}
use Rattle.ed_map.proofs.ShownLemmas.{up_step, tracked_len}
use Rattle.ed_map.proofs.CutSteps.{rising_more, rising_append, cuts_rising, cuts_same}

module _ (record_at : ℕ → ℕ → Option Record) (of_ : ℕ) (span : Span) (sources : List (ℕ × ℕ)) where
  abbrev pub source_ups : ℕ → List Span
  source_ups source = option_map_or (λ w. up_within record_at 9 of_ span source w) (version_in sources source) []

  -- what has been found of the members that are passed, and what is left
  pub record SoFar (b v : ℕ) (ms : List Member) (i : ℕ) (cuts : List Span) : Type 0 where
    pub rising : AreRisingFrom 0 (start_of ms i) cuts
    pub holds : (k : ℕ) → (in_spans cuts k || in_spans (up_rest source_ups ms i) k) ≡ in_spans (up_within record_at 9 of_ span b v) k

  untracked : (m : Member) (at : ℕ) → tracked sources m ≡ None → up_member source_ups m at ≡ []
  untracked (Member.Literal units) at none = refl
  untracked (Member.Tracked source bounds mode) at none = by (version_in sources source) refl none
    where
      it : ℕ → Shown
      it w = record { source = source; version = w; part = bounds }

      by : (o : Option ℕ) → version_in sources source ≡ o → option_map it o ≡ None → flat_map (cut_to bounds at) (option_map_or (λ w. up_within record_at 9 of_ span source w) o []) ≡ []
      by None named none = refl
      by (Some w) named none = absurd (cc)

  -- the member has the bounds, and the images of the source at the version
  record IsCutOf (m : Member) (at : ℕ) (s : Shown) : Type 0 where
    cuts : up_member source_ups m at ≡ flat_map (cut_to s.part at) (up_within record_at 9 of_ span s.source s.version)

  cut_of : (m : Member) (at : ℕ) (s : Shown) → tracked sources m ≡ Some s → IsCutOf m at s
  cut_of (Member.Literal units) at s is = absurd (cc)
  cut_of (Member.Tracked source bounds mode) at s is = by (version_in sources source) refl is
    where
      it : ℕ → Shown
      it w = record { source = source; version = w; part = bounds }

      by : (o : Option ℕ) → version_in sources source ≡ o → option_map it o ≡ Some s → IsCutOf (Member.Tracked source bounds mode) at s
      by None named is = absurd (cc)
      by (Some w) named is =
          let same : it w ≡ s = cc in
          let mine : IsCutOf (Member.Tracked source bounds mode) at (it w) = record { cuts = ap (λ o. flat_map (cut_to bounds at) (option_map_or (λ w. up_within record_at 9 of_ span source w) o [])) named } in
          subst (IsCutOf (Member.Tracked source bounds mode) at) same mine

  pub pass_none : (b v : ℕ) (ms : List Member) (i : ℕ) (m : Member) (cuts : List Span) → slice_get ms i ≡ Some m → tracked sources m ≡ None → SoFar b v ms i cuts → SoFar b v ms (i + 1) cuts
  pass_none b v ms i m cuts at none so_far =
      let next : i + 1 ≡ suc i = omega arith in
      let P : ℕ → Type 0 = λ n. SoFar b v ms n cuts in
      let here : P (suc i) = record {
        rising = rising_more 0 (start_of ms i) (start_of ms (suc i)) cuts (omega (arith, start_next ms i m at)) so_far.rising;
        holds = λ k. ap (λ xs. in_spans cuts k || in_spans xs k) (sym (up_next source_ups ms i m at ∙ ap (λ xs. xs ++ up_rest source_ups ms (suc i)) (untracked m (start_of ms i) none))) ∙ so_far.holds k;
      } in
      subst P (sym next) here

  pub pass_some : (b v : ℕ) (ms : List Member) (i n : ℕ) (m : Member) (s : Shown) (cuts more images : List Span) → slice_get ms i ≡ Some m → tracked sources m ≡ Some s → AreApartFrom 0 n images →
      ((q : ℕ) → q < end_of s.part → in_spans (up_within record_at 9 of_ span s.source s.version) q ≡ in_spans images q) → more ≡ cuts ++ flat_map (cut_to s.part (start_of ms i)) images → SoFar b v ms i cuts → SoFar b v ms (i + 1) more
  pass_some b v ms i n m s cuts more images at is apart same put so_far =
      let next : i + 1 ≡ suc i = omega arith in
      let P : ℕ → Type 0 = λ n. SoFar b v ms n more in
      let mine : List Span = flat_map (cut_to s.part (start_of ms i)) images in
      let it : IsCutOf m (start_of ms i) s = cut_of m (start_of ms i) s is in
      let end : start_of ms (suc i) ≡ start_of ms i + s.part.len = omega (arith, start_next ms i m at, tracked_len sources m s is) in
      let R : List Span → Type 0 = λ xs. AreRisingFrom 0 (start_of ms (suc i)) xs in
      let here : P (suc i) = record {
        rising = subst R (sym put) (rising_append 0 (start_of ms i) (start_of ms (suc i)) cuts mine (omega arith) (omega (arith, end)) so_far.rising (rising_more (start_of ms i) (start_of ms i + s.part.len) (start_of ms (suc i)) mine (omega (arith, end)) (cuts_rising s.part (start_of ms i) n images apart)));
        holds = λ k.
            let a : in_spans more k ≡ (in_spans cuts k || in_spans mine k) = ap (λ xs. in_spans xs k) put ∙ spans_append cuts mine k in
            let r : in_spans (up_rest source_ups ms i) k ≡ (in_spans mine k || in_spans (up_rest source_ups ms (suc i)) k) =
            ap (λ xs. in_spans xs k) (up_next source_ups ms i m at) ∙ spans_append (up_member source_ups m (start_of ms i)) (up_rest source_ups ms (suc i)) k
            ∙ ap (λ x. x || in_spans (up_rest source_ups ms (suc i)) k) (ap (λ xs. in_spans xs k) it.cuts ∙ cuts_same s.part (start_of ms i) k (up_within record_at 9 of_ span s.source s.version) images same) in
            ap (λ x. x || in_spans (up_rest source_ups ms (suc i)) k) a ∙ or_assoc (in_spans cuts k) (in_spans mine k) (in_spans (up_rest source_ups ms (suc i)) k) ∙ ap (λ x. in_spans cuts k || x) (sym r) ∙ so_far.holds k;
      } in
      subst P (sym next) here
    where
      or_assoc : (x y z : Bool) → ((x || y) || z) ≡ (x || (y || z))
      or_assoc true y z = refl
      or_assoc false y z = refl

-- ---- a version's own list

-- rising spans that hold the places of the images
pub record AreCuts (record_at : ℕ → ℕ → Option Record) (of_ : ℕ) (span : Span) (b v : ℕ) (r : Record) (cuts : List Span) : Type 0 where
  pub rising : AreRisingFrom 0 (record_len r) cuts
  pub holds : (k : ℕ) → k < record_len r → in_spans (up_within record_at 9 of_ span b v) k ≡ in_spans cuts k

or_false : (x : Bool) → (x || false) ≡ x
or_false true = refl
or_false false = refl

-- what the text has of the span
clip : Span → ℕ → Span
clip span len = record { start = span.start; len = min span.len (len - span.start) }

clip_some : (span : Span) (len : ℕ) → span.start < len → 0 < span.len → clipped span len ≡ clip span len ∷ []
unfolding clip
clip_some span len inside some = rw (lt-ltb span.start len inside, lt-ltb 0 span.len some) refl

clip_none : (span : Span) (len : ℕ) → (len ≤ span.start) ⊎ (span.len ≤ 0) → clipped span len ≡ []
clip_none span len (inl behind) = rw (le-ltb span.start len behind) refl
clip_none span len (inr empty) = rw (le-ltb 0 span.len empty, and_false (nat_lt span.start len)) refl
  where
    and_false : (x : Bool) → (x && false) ≡ false
    and_false true = refl
    and_false false = refl

clip_rising : (span : Span) (len : ℕ) → AreRisingFrom 0 len (clipped span len)
unfolding clip
clip_rising span len = by (cases_lt span.start len) (cases_lt 0 span.len)
  where
    by : ((span.start < len) ⊎ (len ≤ span.start)) → ((0 < span.len) ⊎ (span.len ≤ 0)) → AreRisingFrom 0 len (clipped span len)
    by (inl inside) (inl some) = rw (clip_some span len inside some) (omega arith, omega (arith, inside, some), omega (arith, inside), tt)
    by (inr behind) any = rw (clip_none span len (inl behind)) tt
    by (inl inside) (inr empty) = rw (clip_none span len (inr empty)) tt

clip_holds : (span : Span) (len k : ℕ) → k < len → holds_place span k ≡ in_spans (clipped span len) k
unfolding clip
clip_holds span len k below = by (cases_lt span.start len) (cases_lt 0 span.len)
  where
    by : ((span.start < len) ⊎ (len ≤ span.start)) → ((0 < span.len) ⊎ (span.len ≤ 0)) → holds_place span k ≡ in_spans (clipped span len) k
    by (inl inside) (inl some) =
        same_bool (holds_place span k) (holds_place (clip span len) k)
        (λ is. let h : (span.start ≤ k) × (k < end_of span) = holds_parts span k is in holds_from (clip span len) k h.0 (omega (arith, h.0, h.1, below)))
        (λ is. let h : (span.start ≤ k) × (k < span.start + min span.len (len - span.start)) = holds_parts (clip span len) k is in holds_from span k h.0 (omega (arith, h.1)))
        ∙ sym (ap (λ xs. in_spans xs k) (clip_some span len inside some) ∙ or_false (holds_place (clip span len) k))
    by (inr behind) any = holds_none span k (λ from to. omega (arith, from, behind, below)) ∙ sym (ap (λ xs. in_spans xs k) (clip_none span len (inl behind)))
    by (inl inside) (inr empty) = holds_none span k (λ from to. omega (arith, from, to, empty)) ∙ sym (ap (λ xs. in_spans xs k) (clip_none span len (inr empty)))

get_insert : (xs : List Known) (i : ℕ) (x : Known) → i ≤ length xs → slice_get (insert xs i x) i ≡ Some x
get_insert xs zero x within = refl
get_insert [] (suc i) x within = absurd (omega arith)
get_insert (y ∷ ys) (suc i) x within = get_insert ys i x (omega arith)

module _ (record_at : ℕ → ℕ → Option Record) (rank : ℕ → ℕ → ℕ) (layers : AreLayers record_at rank) where
  pub pass_begins : (of_ : ℕ) (span : Span) (b v : ℕ) (r : Record) (ms : List Member) (sources : List (ℕ × ℕ)) → record_at b v ≡ Some r → nat_eq b of_ ≡ false → ms ≡ members_of r → sources ≡ sources_of r → SoFar record_at of_ span sources b v ms 0 []
  pass_begins of_ span b v r ms sources is other members names = record {
    rising = tt;
    holds = λ k. ap (λ xs. in_spans xs k) (ap (λ ss. up_members (source_ups record_at of_ span ss) ms 0) names ∙ ap (λ xs. up_members (source_ups record_at of_ span (sources_of r)) xs 0) members ∙ sym (up_step record_at rank layers of_ span b v r is other));
  }

  pub pass_ends : (of_ : ℕ) (span : Span) (b v : ℕ) (r : Record) (ms : List Member) (sources : List (ℕ × ℕ)) (i : ℕ) (cuts : List Span) → members_len ms ≡ record_len r → length ms ≤ i → SoFar record_at of_ span sources b v ms i cuts → AreCuts record_at of_ span b v r cuts
  pass_ends of_ span b v r ms sources i cuts long all so_far = record {
    rising = rising_more 0 (start_of ms i) (record_len r) cuts (let whole = ap members_len (take_all i ms all) in omega (arith, whole, long)) so_far.rising;
    holds = λ k below. sym (sym (or_false (in_spans cuts k)) ∙ ap (λ xs. in_spans cuts k || in_spans xs k) (sym (up_all (source_ups record_at of_ span sources) ms i all)) ∙ so_far.holds k);
  }

  -- the text of the buffer itself
  pub own_cuts : (of_ : ℕ) (span : Span) (b v len : ℕ) (r : Record) → nat_eq b of_ ≡ true → len ≡ record_len r → AreCuts record_at of_ span b v r (clipped span len)
  own_cuts of_ span b v len r own long = record {
    rising = subst (λ n. AreRisingFrom 0 n (clipped span len)) long (clip_rising span len);
    holds = λ k below. ap (λ xs. in_spans xs k) (ups_own record_at 8 of_ span b v own) ∙ or_false (holds_place span k) ∙ clip_holds span len k (omega (arith, below, long));
  }

  -- a base that isn't it
  pub base_cuts : (of_ : ℕ) (span : Span) (b v : ℕ) (r : Record) → record_at b v ≡ Some r → nat_eq b of_ ≡ false → members_of r ≡ [] → AreCuts record_at of_ span b v r []
  base_cuts of_ span b v r is other none = record {
    rising = tt;
    holds = λ k below. ap (λ xs. in_spans xs k) (up_step record_at rank layers of_ span b v r is other ∙ ap (λ ms. up_members (source_ups record_at of_ span (sources_of r)) ms 0) none);
  }

  pub cuts_short : (of_ : ℕ) (span : Span) (b v : ℕ) (r : Record) (cuts : List Span) → record_at b v ≡ Some r → AreCuts record_at of_ span b v r cuts → AreRisingFrom 0 (2 ^ 32 - 1) cuts
  cuts_short of_ span b v r cuts is are = rising_more 0 (record_len r) (2 ^ 32 - 1) cuts (omega (arith, layers.short b v r is)) are.rising

  images_of : (of_ : ℕ) (span : Span) (b v : ℕ) (r : Record) (cuts : List Span) → record_at b v ≡ Some r → AreCuts record_at of_ span b v r cuts → AreImages record_at rank of_ span b v (joined cuts)
  images_of of_ span b v r cuts is are = record {
    layers = layers;
    apart = λ x there. subst (λ n. AreApartFrom 0 n (joined cuts)) (ap record_len (same x there)) (joined_apart (record_len r) cuts are.rising);
    holds = λ x k there below. are.holds k (let e = ap record_len (same x there) in omega (arith, e, below)) ∙ sym (joined_holds (record_len r) k cuts are.rising);
  }
    where
      same : (x : Record) → record_at b v ≡ Some x → r ≡ x
      same x there = cc

  -- what is put is known
  known_put : (of_ : ℕ) (span : Span) (b v i : ℕ) (images : List Span) (before after : List Known) → AreImages record_at rank of_ span b v images → HasPut b v images i before after → AreKnown record_at rank of_ span before → AreKnown record_at rank of_ span after
  known_put of_ span b v i images before after are put known =
      let P : Known → Type 0 = λ k. AreImages record_at rank of_ span k.buffer k.version k.spans.items in
      let Q : List Known → Type 0 = λ ks. All P ks in
      let mine : P put.entry = rw (put.buffer, put.version, put.spans) are in
      subst Q (sym put.put) (All-append P (take i before) (put.entry ∷ drop i before) (All-take P i before known) (All-cons P put.entry (drop i before) mine (All-drop P i before known)))

  put_stands : (b v i : ℕ) (images : List Span) (before after : List Known) → HasPut b v images i before after → StandsAt b v i after
  put_stands b v i images before after put = record {
    entry = put.entry;
    there = ap (λ ks. slice_get ks i) put.put ∙ get_insert before i put.entry put.within;
    buffer = put.buffer;
    version = put.version;
  }

  pub cuts_found : (of_ : ℕ) (span : Span) (b v i : ℕ) (r : Record) (cuts : List Span) (before after : List Known) → record_at b v ≡ Some r → AreCuts record_at of_ span b v r cuts → AreKnown record_at rank of_ span before → HasPut b v (joined cuts) i before after → IsFound record_at rank of_ span b v i after
  cuts_found of_ span b v i r cuts before after is are known put = record {
    sound = known_put of_ span b v i (joined cuts) before after (images_of of_ span b v r cuts is are) put known;
    stands = put_stands b v i (joined cuts) before after put;
  }

-- what is found are images
pub found_images : (record_at : ℕ → ℕ → Option Record) (rank : ℕ → ℕ → ℕ) (of_ : ℕ) (span : Span) (b v i : ℕ) (known : List Known) (k : Known) → IsFound record_at rank of_ span b v i known → k ≡ slice_index_or known i k → AreImages record_at rank of_ span b v k.spans.items
found_images record_at rank of_ span b v i known k found is =
    let s = found.stands in
    let same : slice_index_or known i k ≡ s.entry = get_or_from_slice_get known i s.entry k s.there in
    let P : Known → Type 0 = λ k. AreImages record_at rank of_ span k.buffer k.version k.spans.items in
    let here : P k = subst P (sym is) (found.sound i k (get_below known i s.entry s.there)) in
    let buffer : k.buffer ≡ b = ap (λ k. k.buffer) (is ∙ same) ∙ s.buffer in
    let version : k.version ≡ v = ap (λ k. k.version) (is ∙ same) ∙ s.version in
    subst (λ n. AreImages record_at rank of_ span n v k.spans.items) buffer (subst (λ n. AreImages record_at rank of_ span k.buffer n k.spans.items) version here)

-- they are the runs that are asked for
pub images_are : (record_at : ℕ → ℕ → Option Record) (rank : ℕ → ℕ → ℕ) (of_ : ℕ) (span : Span) (b v : ℕ) (r : Record) (images : List Span) → record_at b v ≡ Some r → AreImages record_at rank of_ span b v images → images ≡ up_span record_at b v span of_
images_are record_at rank of_ span b v r images is are =
    sym (up_span_runs record_at rank are.layers b v span of_ r is ∙ apart_runs (in_spans (up_within record_at 9 of_ span b v)) (record_len r) images (are.apart r is) (λ k below. are.holds r k is below))
