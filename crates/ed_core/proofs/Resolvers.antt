-- The resolver of a new buffer is no matter of the stock's limits.
use Rattle.std.proofs.Common.{◌≡◌, ℕ, zero, suc, ◌-◌, ◌^◌, List, [], ◌∷◌, ◌++◌, length, map, slice_get, unwrap_or, sum_by, Option, refl, sym, ◌∙◌, ap}
use Rattle.std.specs.Prelude.{sum}
use Rattle.std.proofs.lemmas.List.Sums.{sum-map}
use Rattle.ed_base.specs.declared.refusal.Which.{Which}
use Rattle.ed_layers.specs.Records.{Record, base, sources_of, members_of}
use Rattle.ed_layers.specs.Cells as cell
use Rattle.ed_layers.specs.Graph as graph
use Rattle.ed_stock.specs.Stock.{Stock, Buffer, buffer, record_at, record_now, text_now, count, graph_order}
use Rattle.ed_stock.specs.Limits.{over, some_over, stock_limits, inserted, versions, placements}
use Rattle.ed_stock.specs.Making.{with_new}

-- where `f` can't tell the last elements apart
looked-up-last : {X Y : Type 0} (f : X → Y) (xs : List X) (x y d : X) → f x ≡ f y → (c : ℕ) → f (unwrap_or (slice_get (xs ++ x ∷ []) c) d) ≡ f (unwrap_or (slice_get (xs ++ y ∷ []) c) d)
looked-up-last f [] x y d e zero = e
looked-up-last f [] x y d e (suc c) = refl
looked-up-last f (z ∷ xs) x y d e zero = refl
looked-up-last f (z ∷ xs) x y d e (suc c) = looked-up-last f xs x y d e c

map-last : {X : Type 0} (f : X → ℕ) (xs : List X) (x y : X) → f x ≡ f y → map f (xs ++ x ∷ []) ≡ map f (xs ++ y ∷ [])
map-last f [] x y e = ap (λ n. n ∷ []) e
map-last f (z ∷ xs) x y e = ap (λ ns. f z ∷ ns) (map-last f xs x y e)

sum_by-last : {X : Type 0} (f : X → ℕ) (xs : List X) (x y : X) → f x ≡ f y → sum_by f (xs ++ x ∷ []) ≡ sum_by f (xs ++ y ∷ [])
sum_by-last f xs x y e = sym (sum-map f (xs ++ x ∷ [])) ∙ (ap sum (map-last f xs x y e) ∙ sum-map f (xs ++ y ∷ []))

same_length : {X : Type 0} (xs : List X) (x y : X) → length (xs ++ x ∷ []) ≡ length (xs ++ y ∷ [])
same_length [] x y = refl
same_length (z ∷ xs) x y = ap suc (same_length xs x y)

module _ (s : Stock) (r : Record) (x y : Option (List ℕ)) where
  abbrev left : Stock
  left = with_new s r x

  abbrev right : Stock
  right = with_new s r y

  abbrev newest : Option (List ℕ) → Buffer
  newest resolver = record { records = r ∷ []; changes = []; resolver = resolver; regions = []; regions_given = 0; turns = 0 }

  same-records : (c : ℕ) → (buffer left c).records ≡ (buffer right c).records
  same-records c = looked-up-last (λ z. z.records) s.buffers (newest x) (newest y) _ refl c

  same-record_at : record_at left ≡ record_at right
  same-record_at = λ i c v. slice_get (same-records c i) v

  same-record_now : (c : ℕ) → record_now left c ≡ record_now right c
  same-record_now c = λ i. unwrap_or (slice_get (same-records c i) (length (same-records c i) - 1)) (base [] 0)

  same-text_now : (c : ℕ) → text_now left c ≡ text_now right c
  same-text_now c = λ i. cell.text (same-record_at i) c (length (same-records c i) - 1)

  same-count : count left ≡ count right
  same-count = same_length s.buffers (newest x) (newest y)

  same-order : graph_order left ≡ graph_order right
  same-order = λ i. graph.graph_order (λ c. map (λ v. v.0) (sources_of (same-record_now c i))) (same-count i)

  same-inserted : inserted left ≡ inserted right
  same-inserted = sum_by-last _ s.buffers (newest x) (newest y) refl

  same-versions : versions left ≡ versions right
  same-versions = sum_by-last _ s.buffers (newest x) (newest y) refl

  same-placements : placements left ≡ placements right
  same-placements = sum_by-last _ s.buffers (newest x) (newest y) refl

  pub limits-new : stock_limits left ≡ stock_limits right
  limits-new = λ i.
      over Which.Buffers s.most_buffers (same-count i)
      ∷ some_over Which.Units (2 ^ 22) (map (λ c. length (same-text_now c i)) (same-order i))
      ∷ over Which.Inserted (2 ^ 27) (same-inserted i)
      ∷ over Which.Versions s.most_versions (same-versions i)
      ∷ some_over Which.Members 1024 (map (λ c. length (members_of (same-record_now c i))) (same-order i))
      ∷ over Which.Placements (2 ^ 26) (same-placements i)
      ∷ []
