-- The edges of a way, by the number of changes that begin before a place.
use Rattle.std.proofs.Common.{◌≡◌, ℕ, zero, suc, ◌+◌, ◌-◌, ◌<◌, ◌≤◌, ◌^◌, true, false, List, [], ◌∷◌, length, get_or, Some, refl, ap, ◌∙◌, subst, arith}
use Rattle.std.specs.Prelude.{nat_le, if◌then◌else◌, slice_get, slice_index}
use Rattle.std.proofs.lemmas.Bool.Decides.{nat_tests}
use Rattle.ed_base.specs.ChangeList.{ChangeList, IsNormal}
use Rattle.ed_base.specs.Tracking.{positive_edge, negative_edge}
use Rattle.ed_track.specs.declared.edge.Way.{Way}
use Rattle.ed_track.specs.declared.edge.Part.{Part}
use Rattle.ed_track.specs.Ways.{way_step, from_len, to_len, starts, parts}
use Rattle.ed_track.proofs.Kept.{AreStrict, AreParts, HasParts, way_has_parts, way_from_len, way_to_len}
use Rattle.ed_track.proofs.Walks.{froms, positive_edge_none, positive_edge_at, positive_edge_within, negative_edge_none, negative_edge_at, negative_edge_within}
use Rattle.ed_track.proofs.Places.{froms_are_starts, length_parts}

-- both lengths of a way are those of texts
pub from_len_fits : (way : Way) (c : ChangeList) → IsNormal c → c.old_len < 2 ^ 32 → from_len way c < 2 ^ 32
from_len_fits Way.Forward c normal short = short
from_len_fits Way.Back c normal short = normal.fits

pub to_len_fits : (way : Way) (c : ChangeList) → IsNormal c → c.old_len < 2 ^ 32 → to_len way c < 2 ^ 32
to_len_fits Way.Forward c normal short = normal.fits
to_len_fits Way.Back c normal short = short

-- a part lies within the text that is left
strict_from_end : (i j n m : ℕ) (qs : List Part) → AreStrict i j n m qs → i ≤ n
strict_from_end i j n m [] strict = strict.0
strict_from_end i j n m (q ∷ qs) strict = omega (arith, strict.0, strict_from_end (q.from + q.from_len) (q.to + q.to_len) n m qs strict.3)

strict_part_within : (i j n m : ℕ) (qs : List Part) (k : ℕ) (q : Part) → AreStrict i j n m qs → slice_get qs k ≡ Some q → q.from + q.from_len ≤ n
strict_part_within i j n m [] k q strict is = cc
strict_part_within i j n m (r ∷ qs) zero q strict is =
    let same : r ≡ q = cc in
    subst (λ (x : Part). x.from + x.from_len ≤ n) same (strict_from_end (r.from + r.from_len) (r.to + r.to_len) n m qs strict.3)
strict_part_within i j n m (r ∷ qs) (suc k) q strict is =
    strict_part_within (r.from + r.from_len) (r.to + r.to_len) n m qs k q strict.3 is

part_within : (n m : ℕ) (qs : List Part) (k : ℕ) (q : Part) → AreParts n m qs → slice_get qs k ≡ Some q → q.from + q.from_len ≤ n
part_within n m [] k q are is = cc
part_within n m (r ∷ qs) zero q are is =
    let same : r ≡ q = cc in
    subst (λ (x : Part). x.from + x.from_len ≤ n) same (strict_from_end (r.from + r.from_len) (r.to + r.to_len) n m qs are.1)
part_within n m (r ∷ qs) (suc k) q are is =
    strict_part_within (r.from + r.from_len) (r.to + r.to_len) n m qs k q are.1 is

-- All of these speak of a place p of the text that is left.
module _ (way : Way) (c : ChangeList) (normal : IsNormal c) (p : ℕ) (within : p ≤ from_len way c) where
  has : HasParts (way_step way c) (parts way c)
  has = way_has_parts way c normal.changes

  inside : p ≤ (way_step way c).old_len
  inside = rw (way_from_len way c normal.changes) within

  start_is : (l : ℕ) → get_or (froms (parts way c)) l 0 ≡ slice_index (starts way c) l
  start_is l = ap (λ xs. get_or xs l 0) (froms_are_starts way c)

  pub part_end_within : (k : ℕ) (q : Part) → slice_get (parts way c) k ≡ Some q → q.from + q.from_len ≤ from_len way c
  part_end_within k q is = omega (arith, way_from_len way c normal.changes, part_within (way_step way c).old_len (way_step way c).new_len (parts way c) k q has.are is)

  pub positive_reaches : positive_edge (way_step way c) p ≤ to_len way c
  positive_reaches = omega (arith, way_to_len way c normal.changes, positive_edge_within (way_step way c) (parts way c) has p inside)

  pub negative_reaches : negative_edge (way_step way c) p ≤ to_len way c
  negative_reaches = omega (arith, way_to_len way c normal.changes, negative_edge_within (way_step way c) (parts way c) has p inside)

  -- none begins at or before p
  pub positive_alone : ((l : ℕ) → l < length c.changes → p + 1 ≤ slice_index (starts way c) l) → positive_edge (way_step way c) p ≡ p
  positive_alone after =
      positive_edge_none (way_step way c) (parts way c) has p inside (λ l below. omega (arith, start_is l, after l (omega (arith, length_parts way c))))

  pub negative_alone : ((l : ℕ) → l < length c.changes → p ≤ slice_index (starts way c) l) → negative_edge (way_step way c) p ≡ p
  negative_alone after =
      negative_edge_none (way_step way c) (parts way c) has p inside (λ l below. omega (arith, start_is l, after l (omega (arith, length_parts way c))))

  -- `count` of them do, the last of them being q
  module _ (count : ℕ) (q : Part) (some : 0 < count) (last : slice_get (parts way c) (count - 1) ≡ Some q) where
    pub positive_by : ((l : ℕ) → l < count → slice_index (starts way c) l < p + 1) → ((l : ℕ) → count ≤ l → l < length c.changes → p + 1 ≤ slice_index (starts way c) l) → positive_edge (way_step way c) p ≡ q.to + q.to_len + (p - (q.from + q.from_len))
    positive_by before after =
        positive_edge_at (way_step way c) (parts way c) has p inside (count - 1) q last
        (λ l below. omega (arith, start_is l, before l (omega arith)))
        (λ l above below. omega (arith, start_is l, after l (omega arith) (omega (arith, length_parts way c))))

    negative_is : ((l : ℕ) → l < count → slice_index (starts way c) l < p) → ((l : ℕ) → count ≤ l → l < length c.changes → p ≤ slice_index (starts way c) l) → negative_edge (way_step way c) p ≡ (if nat_le p (q.from + q.from_len) then q.to else q.to + q.to_len + (p - (q.from + q.from_len)))
    negative_is before after =
        negative_edge_at (way_step way c) (parts way c) has p inside (count - 1) q last
        (λ l below. omega (arith, start_is l, before l (omega arith)))
        (λ l above below. omega (arith, start_is l, after l (omega arith) (omega (arith, length_parts way c))))

    pub negative_in : ((l : ℕ) → l < count → slice_index (starts way c) l < p) → ((l : ℕ) → count ≤ l → l < length c.changes → p ≤ slice_index (starts way c) l) → p ≤ q.from + q.from_len → negative_edge (way_step way c) p ≡ q.to
    negative_in before after in_part = negative_is before after ∙ rw (let t : nat_le p (q.from + q.from_len) ≡ true = grind (arith, nat_tests) in t) refl

    pub negative_behind : ((l : ℕ) → l < count → slice_index (starts way c) l < p) → ((l : ℕ) → count ≤ l → l < length c.changes → p ≤ slice_index (starts way c) l) → q.from + q.from_len < p → negative_edge (way_step way c) p ≡ q.to + q.to_len + (p - (q.from + q.from_len))
    negative_behind before after behind = negative_is before after ∙ rw (let f : nat_le p (q.from + q.from_len) ≡ false = grind (arith, nat_tests) in f) refl
