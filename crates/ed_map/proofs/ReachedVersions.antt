-- The version of a lower buffer, and that images lie in its text.
use Rattle.std.proofs.Common.{◌≡◌, ℕ, zero, suc, ◌+◌, ◌-◌, ◌<◌, ◌≤◌, ◌⊎◌, Bool, true, false, List, [], ◌∷◌, ◌++◌, length, map, Some, None, Option, inl, inr, refl, sym, ap, ◌∙◌, arith}
use Rattle.std.specs.Prelude.{nat_eq, flat_map, min, if◌then◌else◌}
use Rattle.std.specs.Option.{option_map_or}
use Rattle.std.proofs.lemmas.Bool.{cases_lt, lt-ltb, le-ltb, eqb-true, eq-eqb}
use Rattle.ed_base.specs.declared.edit.Span.{Span}
use Rattle.ed_base.specs.declared.piece.Member.{Member}
use Rattle.ed_base.specs.Numbers.{or_else, first_some}
use Rattle.ed_base.specs.Spans.{end_of}
use Rattle.ed_layers.specs.Records.{Record, members_of, sources_of, version_in}
use Rattle.ed_layers.specs.Cells.{cells, vector_within}
use Rattle.ed_layers.specs.Mapping.{lower_version, lower_len}
use Rattle.std.specs.Prelude.{All}
use Rattle.std.proofs.lemmas.List.Elements.{All-nil, All-cons}
use Rattle.ed_spans.specs.SpanSets.{EndsWithin}
use Rattle.ed_map.specs.Layers.{record_len, EachTracked, AreLayers, OneVersion}
use Rattle.ed_map.specs.Down.{down_member, down_members, down_within}
use Rattle.ed_map.specs.Reached.{reached_within}
use Rattle.ed_map.proofs.MemberCells.{each_tracked, cells_len}
use Rattle.ed_map.proofs.DownImages.{inner_images, images_own, images_other}

version_append : (xs ys : List (ℕ × ℕ)) (b : ℕ) → version_in (xs ++ ys) b ≡ or_else (version_in xs b) (version_in ys b)
version_append [] ys b = refl
version_append (x ∷ xs) ys b = either (version_append xs ys b) (nat_eq x.0 b)
  where
    either : version_in (xs ++ ys) b ≡ or_else (version_in xs b) (version_in ys b) → (c : Bool) → (if c then Some x.1 else version_in (xs ++ ys) b) ≡ or_else (if c then Some x.1 else version_in xs b) (version_in ys b)
    either rest true = refl
    either rest false = rest

version_flat : (f : ℕ × ℕ → List (ℕ × ℕ)) (g : ℕ × ℕ → Option ℕ) (b : ℕ) → ((x : ℕ × ℕ) → g x ≡ version_in (f x) b) → (xs : List (ℕ × ℕ)) → first_some (map g xs) ≡ version_in (flat_map f xs) b
version_flat f g b same [] = refl
version_flat f g b same (x ∷ xs) = rw (same x, version_flat f g b same xs) (sym (version_append (f x) (flat_map f xs) b))

module _ (record_at : ℕ → ℕ → Option Record) where
  pub reached_is : (levels of_ : ℕ) (v : ℕ × ℕ) → reached_within record_at levels of_ v ≡ version_in (vector_within record_at levels v) of_
  unfolding reached_within vector_within
  reached_is zero of_ v = refl
  reached_is (suc levels) of_ v = ap (λ o. if nat_eq v.0 of_ then Some v.1 else o) (by_record (reached_is levels of_) (record_at v.0 v.1))
    where
      by_record : ((w : ℕ × ℕ) → reached_within record_at levels of_ w ≡ version_in (vector_within record_at levels w) of_) → (r : Option Record) → option_map_or (λ r. first_some (map (reached_within record_at levels of_) (sources_of r))) r None ≡ version_in (flat_map (vector_within record_at levels) (option_map_or sources_of r [])) of_
      by_record rest None = refl
      by_record rest (Some r) = version_flat (vector_within record_at levels) (reached_within record_at levels of_) of_ rest (sources_of r)

  pub lower_version_is : (top v of_ : ℕ) → lower_version record_at top v of_ ≡ reached_within record_at 9 of_ (top, v)
  lower_version_is top v of_ = sym (reached_is 9 of_ (top, v))

  pub lower_own : (b v : ℕ) → lower_version record_at b v b ≡ Some v
  unfolding vector_within
  lower_own b v = rw (eq-eqb b b refl) refl

-- ---- images lie in the text at the version that is reached

abbrev pub AllWithin : ℕ → List Span → Type 0
AllWithin n [] = Unit {0}
AllWithin n (s ∷ ss) = (end_of s ≤ n) × AllWithin n ss

pub within_append : (n : ℕ) (ss ts : List Span) → AllWithin n ss → AllWithin n ts → AllWithin n (ss ++ ts)
within_append n [] ts a b = b
within_append n (s ∷ ss) ts a b = (a.0, within_append n ss ts a.1 b)

pub within_more : (m n : ℕ) (ss : List Span) → m ≤ n → AllWithin m ss → AllWithin n ss
within_more m n [] more a = tt
within_more m n (s ∷ ss) more a = (omega (arith, a.0, more), within_more m n ss more a.1)

pub all_within : (n : ℕ) (ss : List Span) → AllWithin n ss → All (EndsWithin n) ss
all_within n [] a = All-nil (EndsWithin n)
all_within n (s ∷ ss) a = All-cons (EndsWithin n) s ss a.0 (all_within n ss a.1)

abbrev pub Lies : (ℕ → ℕ → ℕ → List Span) → ℕ → ℕ → Span → Type 0
Lies inner n source bounds = (x y : ℕ) → x ≤ y → y ≤ end_of bounds → AllWithin n (inner source x y)

members_inside : (inner : ℕ → ℕ → ℕ → List Span) (n : ℕ) (ms : List Member) (a z : ℕ) → EachTracked (Lies inner n) ms → AllWithin n (down_members inner ms a z)
members_inside inner n [] a z each = tt
members_inside inner n (Member.Literal units ∷ ms) a z each = members_inside inner n ms (a - length units) (z - length units) each
members_inside inner n (Member.Tracked source bounds mode ∷ ms) a z each = within_append n (down_member inner (Member.Tracked source bounds mode) a z) (down_members inner ms (a - bounds.len) (z - bounds.len)) (either (cases_lt a (min z bounds.len))) (members_inside inner n ms (a - bounds.len) (z - bounds.len) each.1)
  where
    either : ((a < min z bounds.len) ⊎ (min z bounds.len ≤ a)) → AllWithin n (down_member inner (Member.Tracked source bounds mode) a z)
    either (inl some) = rw (lt-ltb a (min z bounds.len) some) (each.0 (bounds.start + a) (bounds.start + min z bounds.len) (omega (arith, some)) (omega arith))
    either (inr none) = rw (le-ltb a (min z bounds.len) none) tt

module _ (record_at : ℕ → ℕ → Option Record) (rank : ℕ → ℕ → ℕ) where
  pub down_inside : AreLayers record_at rank → OneVersion record_at → (levels to b v a z : ℕ) (r : Record) → record_at b v ≡ Some r → rank b v < levels → a ≤ z → z ≤ record_len r → AllWithin (lower_len record_at b v to) (down_within record_at levels to b v a z)
  down_inside layers single zero to b v a z r is low order within = absurd (omega arith)
  down_inside layers single (suc levels) to b v a z r is low order within =
      either (λ other. each_tracked (members_of r) (λ source bounds s. λ x y order' within'.
      rw s.named (within_more (lower_len record_at source s.version to) (lower_len record_at b v to) (down_within record_at levels to source s.version x y) (grows source s.version s.named other (lower_version record_at source s.version to) refl)
      (down_inside layers single levels to source s.version x y s.inner s.there (omega (arith, s.lower)) order' (omega (arith, within', s.inside))))) (layers.fit b v r is)) (nat_eq b to) refl
    where
      grows : (source w : ℕ) → version_in (sources_of r) source ≡ Some w → nat_eq b to ≡ false → (o : Option ℕ) → lower_version record_at source w to ≡ o → lower_len record_at source w to ≤ lower_len record_at b v to
      grows source w named other None was = rw was (omega arith)
      grows source w named other (Some x) was = rw (was, single.one b v r source w to x is named other was) (omega arith)

      own_len : nat_eq b to ≡ true → lower_len record_at b v to ≡ record_len r
      own_len own =
          let same : to ≡ b = sym (eqb-true b to own) in
          ap (lower_len record_at b v) same ∙ ap (λ o. option_map_or (λ w. length (cells record_at b w)) o 0) (lower_own record_at b v) ∙ cells_len record_at rank layers 9 b v r is (omega (arith, layers.low b v r is))

      either : (nat_eq b to ≡ false → EachTracked (Lies (inner_images record_at levels to r) (lower_len record_at b v to)) (members_of r)) → (own : Bool) → nat_eq b to ≡ own → AllWithin (lower_len record_at b v to) (down_within record_at (suc levels) to b v a z)
      either each true own = rw (images_own record_at levels to b v a z own) (omega (arith, own_len own, order, within), tt)
      either each false other = rw (images_other record_at levels to b v a z r is other) (members_inside (inner_images record_at levels to r) (lower_len record_at b v to) (members_of r) a z (each other))
