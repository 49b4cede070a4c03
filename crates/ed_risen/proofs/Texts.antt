-- The text of a version that is there, by the texts of the versions that it names.
use Rattle.std.proofs.Common.{◌≡◌, ℕ, zero, suc, ◌+◌, ◌-◌, true, List, [], ◌∷◌, ◌++◌, map, take, drop, Option, Some, None, refl, sym, ◌∙◌, ap, arith}
use Rattle.std.specs.Prelude.{flat_map, slice_range}
use Rattle.std.specs.Option.{option_map_or}
use Rattle.std.specs.List.{AllByRecursion as Each, enumerate_from}
use Rattle.std.proofs.lemmas.List.{map-append}
use Rattle.ed_base.specs.declared.Member.{Member}
use Rattle.ed_base.specs.Spans.{end_of}
use Rattle.ed_layers.specs.Records.{Record, base, elision, is_carrier, members_of, projection, sources_of, version_in}
use Rattle.ed_layers.specs.Cells.{Cell, at_place, plain_cell, through_member, member_cells, record_cells, cells_within, text}
use Rattle.ed_risen.specs.Founded.{Founded, Extends}
use Rattle.ed_layers.specs.Texts.{member_text, text_over}
use Rattle.ed_risen.proofs.FoundedLemmas.{each_version, same_cells}

abbrev units_of : List Cell → List ℕ
units_of cells = map (λ c. c.unit) cells

units_placed : (b p : ℕ) (cells : List Cell) → units_of (map (at_place b) (enumerate_from p cells)) ≡ units_of cells
units_placed b p [] = refl
units_placed b p (c ∷ cs) = ap (λ xs. c.unit ∷ xs) (units_placed b (p + 1) cs)

units_plain : (us : List ℕ) → units_of (map plain_cell us) ≡ us
units_plain [] = refl
units_plain (u ∷ us) = ap (λ xs. u ∷ xs) (units_plain us)

units_through : (c i : ℕ) (cells : List Cell) → units_of (map (through_member c i) cells) ≡ units_of cells
units_through c i [] = refl
units_through c i (x ∷ xs) = ap (λ ys. x.unit ∷ ys) (units_through c i xs)

units_take : (n : ℕ) (cells : List Cell) → units_of (take n cells) ≡ take n (units_of cells)
units_take zero cells = refl
units_take (suc n) [] = refl
units_take (suc n) (c ∷ cs) = ap (λ xs. c.unit ∷ xs) (units_take n cs)

units_drop : (n : ℕ) (cells : List Cell) → units_of (drop n cells) ≡ drop n (units_of cells)
units_drop zero cells = refl
units_drop (suc n) [] = refl
units_drop (suc n) (c ∷ cs) = units_drop n cs

units_range : (cells : List Cell) (s e : ℕ) → units_of (slice_range cells s e) ≡ slice_range (units_of cells) s e
units_range cells s e = units_take (e - s) (drop s cells) ∙ ap (take (e - s)) (units_drop s cells)

module _ (source_cells : ℕ → List Cell) (b : ℕ) where
  abbrev source_units : ℕ → List ℕ
  source_units source = units_of (source_cells source)

  units_member : (i : ℕ) (m : Member) → units_of (member_cells source_cells b (i, m)) ≡ member_text source_units m
  units_member i (Member.Literal units) = units_plain units
  units_member i (Member.Tracked source bounds mode) = units_through b i (slice_range (source_cells source) bounds.start (end_of bounds)) ∙ units_range (source_cells source) bounds.start (end_of bounds)

  units_members : (i : ℕ) (ms : List Member) → units_of (flat_map (member_cells source_cells b) (enumerate_from i ms)) ≡ text_over source_units ms
  units_members i [] = refl
  units_members i (m ∷ ms) =
      map-append (λ c. c.unit) (member_cells source_cells b (i, m)) (flat_map (member_cells source_cells b) (enumerate_from (i + 1) ms))
      ∙ ap (λ xs. xs ++ units_of (flat_map (member_cells source_cells b) (enumerate_from (i + 1) ms))) (units_member i m)
      ∙ ap (λ xs. member_text source_units m ++ xs) (units_members (i + 1) ms)

  pub units_carrier : (r : Record) → is_carrier r ≡ true → units_of (record_cells source_cells b r) ≡ text_over source_units (members_of r)
  units_carrier (base us reiterated) carries = absurd (cc)
  units_carrier (projection ms sources) carries = units_placed b 0 (flat_map (member_cells source_cells b) (enumerate_from 0 ms)) ∙ units_members 0 ms
  units_carrier (elision flags source version) carries =
      let ms : List Member = members_of (elision flags source version) in
      units_placed b 0 (flat_map (member_cells source_cells b) (enumerate_from 0 ms)) ∙ units_members 0 ms

  pub units_base : (us : List ℕ) (r : ℕ) → units_of (record_cells source_cells b (base us r)) ≡ us
  units_base us r = units_placed b 0 (map plain_cell us) ∙ units_plain us

module _ (at : ℕ → ℕ → Option Record) where
  -- the text of each source at the version that is named
  abbrev pub named_text : List (ℕ × ℕ) → ℕ → List ℕ
  named_text sources source = option_map_or (text at source) (version_in sources source) []

  found_units : (sources : List (ℕ × ℕ)) → Each (Founded at 8) sources → (source : ℕ) (o : Option ℕ) → version_in sources source ≡ o
      → units_of (option_map_or (cells_within at 8 source) o []) ≡ option_map_or (text at source) o []
  found_units sources h source None is = refl
  found_units sources h source (Some w) is = ap units_of (same_cells at at (λ b v r e. e) 8 9 (source, w) (omega arith) (each_version (Founded at 8) sources source w h is))

  one_level : (n b v : ℕ) (r : Record) → at b v ≡ Some r → cells_within at (suc n) b v ≡ record_cells (λ source. option_map_or (cells_within at n source) (version_in (sources_of r) source) []) b r
  unfolding cells_within
  one_level n b v r is = rw is refl

  -- the text of a carrier is what its members show of the texts of its sources
  pub carrier_text : (b v : ℕ) (r : Record) → is_carrier r ≡ true → at b v ≡ Some r → Each (Founded at 8) (sources_of r) → text at b v ≡ text_over (named_text (sources_of r)) (members_of r)
  carrier_text b v r carries is h =
      ap units_of (one_level 8 b v r is)
      ∙ units_carrier (λ source. option_map_or (cells_within at 8 source) (version_in (sources_of r) source) []) b r carries
      ∙ ap (λ f. text_over f (members_of r)) (λ i source. found_units (sources_of r) h source (version_in (sources_of r) source) refl i)

  pub projection_text : (b v : ℕ) (ms : List Member) (sources : List (ℕ × ℕ)) → at b v ≡ Some (projection ms sources) → Each (Founded at 8) sources → text at b v ≡ text_over (named_text sources) ms
  projection_text b v ms sources is h = carrier_text b v (projection ms sources) refl is h

  pub base_text : (b v : ℕ) (us : List ℕ) (r : ℕ) → at b v ≡ Some (base us r) → text at b v ≡ us
  base_text b v us r is = ap units_of (one_level 8 b v (base us r) is) ∙ units_base (λ source. option_map_or (cells_within at 8 source) (version_in [] source) []) b us r

-- a text that is there stays in what extends
pub same_text : (at at' : ℕ → ℕ → Option Record) → Extends at at' → (b v : ℕ) → Founded at 9 (b, v) → text at' b v ≡ text at b v
same_text at at' extends b v h = ap units_of (sym (same_cells at at' extends 9 9 (b, v) (omega arith) h))
