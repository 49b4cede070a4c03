-- What a member shows is there, and stands lower.
use Rattle.std.proofs.Common.{◌≡◌, ℕ, ◌+◌, ◌-◌, ◌<◌, ◌≤◌, ◌⊎◌, true, false, List, [], Some, None, Option, inl, inr, refl, sym, ap, subst, ◌∙◌, arith}
use Rattle.std.specs.Prelude.{slice_get, nat_eq, min, option_map, IfSome, IsSome}
use Rattle.std.proofs.lemmas.Bool.{cases_lt, lt-ltb, le-ltb}
use Rattle.ed_base.specs.declared.edit.Span.{Span}
use Rattle.ed_base.specs.declared.piece.Member.{Member}
use Rattle.ed_base.specs.Spans.{end_of, span_between}
use Rattle.ed_layers.specs.Records.{Record, base, projection, elision, is_carrier, members_of, members_len, member_len, sources_of, version_in}
use Rattle.std.proofs.Common.{Bor}
use Rattle.ed_map.specs.declared.layers.Placed.{Placed}
use Rattle.ed_map.specs.Placing.{IsPlaced}
use Rattle.ed_map.specs.declared.shown.Shown.{Shown}
use Rattle.ed_map.specs.Layers.{record_len, Stands, AreLayers, EndsShort}
use Rattle.ed_map.specs.Down.{down_members, place_members, down_within, place_within}
use Rattle.ed_map.specs.Up.{up_members, up_within, first_members, first_within}
use Rattle.ed_map.specs.Shown.{ReachesTo, shown, tracked}
use Rattle.ed_map.proofs.DownImages.{inner_images, images_other}
use Rattle.ed_map.proofs.UpImages.{inner_ups, ups_other}
use Rattle.ed_map.proofs.UnitPlaces.{inner_places, places_other}
use Rattle.ed_map.proofs.FirstPlaces.{inner_firsts, firsts_other}
use Rattle.ed_map.proofs.Levels.{down_levels, up_levels, place_levels, first_levels}
use Rattle.ed_map.proofs.MemberParts.{HoldsOf, each_at}

pub shown_some : (sources : List (ℕ × ℕ)) (m : Member) (a z : ℕ) (s : Shown) → shown sources m a z ≡ Some s → 0 < s.part.len
shown_some sources (Member.Literal units) a z s is = absurd (cc)
shown_some sources (Member.Tracked source bounds mode) a z s is = by_order (cases_lt a (min z bounds.len))
  where
    it : ℕ → Shown
    it w = record { source = source; version = w; part = span_between (bounds.start + a) (bounds.start + min z bounds.len) }

    by_version : a < min z bounds.len → (o : Option ℕ) → option_map it o ≡ Some s → 0 < s.part.len
    by_version some None is = absurd (cc)
    by_version some (Some w) is = let same : it w ≡ s = cc in let P : Shown → Type 0 = λ s. 0 < s.part.len in let here : P (it w) = omega (arith, some) in subst P same here

    by_order : ((a < min z bounds.len) ⊎ (min z bounds.len ≤ a)) → 0 < s.part.len
    by_order (inl some) = by_version some (version_in sources source) (sym (shown_some_is some) ∙ is)
      where
        shown_some_is : a < min z bounds.len → shown sources (Member.Tracked source bounds mode) a z ≡ option_map it (version_in sources source)
        shown_some_is some = rw (lt-ltb a (min z bounds.len) some) refl
    by_order (inr none) =
        let e : shown sources (Member.Tracked source bounds mode) a z ≡ None = rw (le-ltb a (min z bounds.len) none) refl in
        let f : Some s ≡ None = sym is ∙ e in absurd (cc)

pub tracked_len : (sources : List (ℕ × ℕ)) (m : Member) (s : Shown) → tracked sources m ≡ Some s → member_len m ≡ s.part.len
tracked_len sources (Member.Literal units) s is = absurd (cc)
tracked_len sources (Member.Tracked source bounds mode) s is = by (version_in sources source) is
  where
    it : ℕ → Shown
    it w = record { source = source; version = w; part = bounds }

    by : (o : Option ℕ) → option_map it o ≡ Some s → bounds.len ≡ s.part.len
    by None is = absurd (cc)
    by (Some w) is = let same : it w ≡ s = cc in ap (λ s. s.part.len) same

-- what is told of a record that is there
pub placed_as : (o : Option Record) (r : Record) (p : Placed) → o ≡ Some r → IfSome o (λ r. IsPlaced r p) → IsPlaced r p
placed_as o r p is told = let P : Option Record → Type 0 = λ o. IfSome o (λ r. IsPlaced r p) in subst P is told

module _ (record_at : ℕ → ℕ → Option Record) (rank : ℕ → ℕ → ℕ) (layers : AreLayers record_at rank) where
  -- ---- each level is by members, with all levels left

  pub down_step : (to b v a z : ℕ) (r : Record) → record_at b v ≡ Some r → nat_eq b to ≡ false → down_within record_at 9 to b v a z ≡ down_members (inner_images record_at 9 to r) (members_of r) a z
  down_step to b v a z r is other = down_levels record_at rank layers 9 10 to b v a z r is (omega (arith, layers.low b v r is)) (omega (arith, layers.low b v r is)) ∙ images_other record_at 9 to b v a z r is other

  pub place_step : (to b v k : ℕ) (r : Record) → record_at b v ≡ Some r → nat_eq b to ≡ false → place_within record_at 9 to b v k ≡ place_members (inner_places record_at 9 to r) (members_of r) k
  place_step to b v k r is other = place_levels record_at rank layers 9 10 to b v k r is (omega (arith, layers.low b v r is)) (omega (arith, layers.low b v r is)) ∙ places_other record_at 9 to b v k r is other

  pub up_step : (of_ : ℕ) (span : Span) (b v : ℕ) (r : Record) → record_at b v ≡ Some r → nat_eq b of_ ≡ false → up_within record_at 9 of_ span b v ≡ up_members (inner_ups record_at 9 of_ span r) (members_of r) 0
  up_step of_ span b v r is other = up_levels record_at rank layers 9 10 of_ span b v r is (omega (arith, layers.low b v r is)) (omega (arith, layers.low b v r is)) ∙ ups_other record_at 9 of_ span b v r is other

  pub first_step : (of_ q b v a z : ℕ) (r : Record) → record_at b v ≡ Some r → nat_eq b of_ ≡ false → first_within record_at 9 of_ q b v a z ≡ first_members (inner_firsts record_at 9 of_ q r) (members_of r) a z
  first_step of_ q b v a z r is other = first_levels record_at rank layers 9 10 of_ q b v a z r is (omega (arith, layers.low b v r is)) (omega (arith, layers.low b v r is)) ∙ firsts_other record_at 9 of_ q b v a z r is other

  -- ---- what a member shows is there

  pub stands : (b v i : ℕ) (r : Record) (m : Member) → record_at b v ≡ Some r → slice_get (members_of r) i ≡ Some m → HoldsOf (Stands record_at rank (rank b v) (sources_of r)) m
  stands b v i r m is at = each_at (Stands record_at rank (rank b v) (sources_of r)) (members_of r) i m at (layers.fit b v r is)

  pub ends_short : (b v i : ℕ) (r : Record) (m : Member) → record_at b v ≡ Some r → slice_get (members_of r) i ≡ Some m → EndsShort m
  ends_short b v i r (Member.Literal units) is at = tt
  ends_short b v i r (Member.Tracked source bounds mode) is at =
      let s : Stands record_at rank (rank b v) (sources_of r) source bounds = stands b v i r (Member.Tracked source bounds mode) is at in
      omega (arith, s.inside, layers.short source s.version s.inner s.there)

  -- a version below that is there
  pub record IsBelow (b v : ℕ) (s : Shown) : Type 0 where
    pub inner : Record
    pub there : record_at s.source s.version ≡ Some inner
    pub lower : rank s.source s.version < rank b v
    pub inside : end_of s.part ≤ record_len inner

  pub below_reaches : {b v : ℕ} {s : Shown} (p : ℕ) → IsBelow b v s → p ≤ end_of s.part → ReachesTo record_at s.source s.version p
  below_reaches p below within = record { is = below.inner; there = below.there; within = omega (arith, below.inside, within) }

  pub shown_below : (b v i : ℕ) (r : Record) (m : Member) (a z : ℕ) (s : Shown) → record_at b v ≡ Some r → slice_get (members_of r) i ≡ Some m → shown (sources_of r) m a z ≡ Some s → IsBelow b v s
  shown_below b v i r (Member.Literal units) a z s is at shows = absurd (cc)
  shown_below b v i r (Member.Tracked source bounds mode) a z s is at shows = by_order (cases_lt a (min z bounds.len))
    where
      st : Stands record_at rank (rank b v) (sources_of r) source bounds
      st = stands b v i r (Member.Tracked source bounds mode) is at

      it : Shown
      it = record { source = source; version = st.version; part = span_between (bounds.start + a) (bounds.start + min z bounds.len) }

      by_order : ((a < min z bounds.len) ⊎ (min z bounds.len ≤ a)) → IsBelow b v s
      by_order (inl some) =
          let e : shown (sources_of r) (Member.Tracked source bounds mode) a z ≡ Some it = rw (lt-ltb a (min z bounds.len) some, st.named) refl in
          let same : it ≡ s = (let f : Some it ≡ Some s = sym e ∙ shows in cc) in
          let below : IsBelow b v it = record { inner = st.inner; there = st.there; lower = st.lower; inside = omega (arith, st.inside, some) } in
          rw (sym same) below
      by_order (inr none) =
          let e : shown (sources_of r) (Member.Tracked source bounds mode) a z ≡ None = rw (le-ltb a (min z bounds.len) none) refl in
          let f : Some s ≡ None = sym shows ∙ e in absurd (cc)

  pub tracked_below : (b v i : ℕ) (r : Record) (m : Member) (s : Shown) → record_at b v ≡ Some r → slice_get (members_of r) i ≡ Some m → tracked (sources_of r) m ≡ Some s → IsBelow b v s
  tracked_below b v i r (Member.Literal units) s is at tracks = absurd (cc)
  tracked_below b v i r (Member.Tracked source bounds mode) s is at tracks =
      let st : Stands record_at rank (rank b v) (sources_of r) source bounds = stands b v i r (Member.Tracked source bounds mode) is at in
      let it : Shown = record { source = source; version = st.version; part = bounds } in
      let e : tracked (sources_of r) (Member.Tracked source bounds mode) ≡ Some it = rw st.named refl in
      let same : it ≡ s = (let f : Some it ≡ Some s = sym e ∙ tracks in cc) in
      let below : IsBelow b v it = record { inner = st.inner; there = st.there; lower = st.lower; inside = st.inside } in
      subst (IsBelow b v) same below

pub placed_members : (o : Option Record) (r : Record) (members : Bor (List Member)) (sources : Bor (List (ℕ × ℕ))) → o ≡ Some r → IfSome o (λ r. IsPlaced r (Placed.Carrier members sources)) → (members.now ≡ members_of r) × (sources.now ≡ sources_of r) × (members_len members.now ≡ record_len r)
placed_members o r members sources is told = let p : IsPlaced r (Placed.Carrier members sources) = placed_as o r (Placed.Carrier members sources) is told in (p.1, p.2, ap members_len p.1 ∙ long r p.0)
  where
    long : (r : Record) → is_carrier r ≡ true → members_len (members_of r) ≡ record_len r
    long (base text reiterated) carrier = absurd (cc)
    long (projection members sources) carrier = refl
    long (elision flags source version) carrier = refl

pub placed_base : (o : Option Record) (r : Record) (len : ℕ) → o ≡ Some r → IfSome o (λ r. IsPlaced r (Placed.Base len)) → (members_of r ≡ []) × (sources_of r ≡ [])
placed_base o r len is told = let p : IsPlaced r (Placed.Base len) = placed_as o r (Placed.Base len) is told in nothing r p.0
  where
    nothing : (r : Record) → is_carrier r ≡ false → (members_of r ≡ []) × (sources_of r ≡ [])
    nothing (base text reiterated) plain = (refl, refl)
    nothing (projection members sources) plain = absurd (cc)
    nothing (elision flags source version) plain = absurd (cc)

pub whole_part : (s : Span) → span_between s.start (end_of s) ≡ s
whole_part s = let e : end_of s - s.start ≡ s.len = omega arith in let same : ℕ → Span = λ n. record { start = s.start; len = n } in ap same e

-- what is there is some record
pub there_is : {X : Type 0} (o : Option X) → IsSome o → (x : X) × (o ≡ Some x)
there_is None some = absurd (cc)
there_is (Some x) some = (x, refl)
