-- The numbers that are limited over all buffers, once a buffer or a version is new.
use Rattle.std.proofs.Common.{true, ◌≡◌, ℕ, zero, suc, ◌+◌, ◌<◌, List, [], ◌∷◌, ◌++◌, length, Option, Some, None, refl, sym, ◌∙◌, ap, arith, length-append}
use Rattle.std.specs.Prelude.{slice_get, slice_set, unwrap_or, sum_by}
use Rattle.std.proofs.lemmas.List.Sums.{sum_by-cons, sum_by_push}
use Rattle.ed_base.specs.declared.Member.{Member}
use Rattle.ed_base.specs.Denial.{regions_after}
use Rattle.ed_base.specs.ChangeList.{ChangeList, inserted_len, step}
use Rattle.ed_layers.specs.Records.{Record, base, is_carrier, projection, elision}
use Rattle.ed_stock.specs.Limits.{inserted, versions, placements}
use Rattle.ed_stock.specs.Making.{with_new}
use Rattle.ed_stock.specs.Stock.{Stock, Buffer, buffer, count, with_buffer}
use Rattle.ed_stock.specs.Versions.{with_version}
use Rattle.ed_risen.specs.Counting.{tracked_in, turn, turned_in}
use Rattle.ed_risen.proofs.Growth.{missing}

-- ---- one buffer's part of each number

abbrev pub alone : Buffer → Stock
alone x = record { buffers = x ∷ []; most_buffers = 0; most_versions = 0 }

abbrev pub inserted_of : Buffer → ℕ
inserted_of x = inserted (alone x)

abbrev pub versions_of : Buffer → ℕ
versions_of x = versions (alone x)

abbrev pub placements_of : Buffer → ℕ
placements_of x = placements (alone x)

split : {X : Type 0} (f : X → ℕ) (x : X) (xs : List X) → sum_by f (x ∷ xs) ≡ sum_by f (x ∷ []) + sum_by f xs
split f x xs = omega (arith, sum_by-cons f x xs, sum_by-cons f x [])

inserted_sum : (xs : List Buffer) (m n : ℕ) → inserted (record { buffers = xs; most_buffers = m; most_versions = n }) ≡ sum_by inserted_of xs
inserted_sum [] m n = refl
inserted_sum (x ∷ xs) m n = split _ x xs ∙ ap (λ k. inserted_of x + k) (inserted_sum xs m n) ∙ sym (sum_by-cons inserted_of x xs)

versions_sum : (xs : List Buffer) (m n : ℕ) → versions (record { buffers = xs; most_buffers = m; most_versions = n }) ≡ sum_by versions_of xs
versions_sum [] m n = refl
versions_sum (x ∷ xs) m n = split _ x xs ∙ ap (λ k. versions_of x + k) (versions_sum xs m n) ∙ sym (sum_by-cons versions_of x xs)

placements_sum : (xs : List Buffer) (m n : ℕ) → placements (record { buffers = xs; most_buffers = m; most_versions = n }) ≡ sum_by placements_of xs
placements_sum [] m n = refl
placements_sum (x ∷ xs) m n = split _ x xs ∙ ap (λ k. placements_of x + k) (placements_sum xs m n) ∙ sym (sum_by-cons placements_of x xs)

sum_changed : (f : Buffer → ℕ) (xs : List Buffer) (i : ℕ) (y : Buffer) (d : ℕ) → i < length xs → f y ≡ f (unwrap_or (slice_get xs i) missing) + d → sum_by f (slice_set xs i y) ≡ sum_by f xs + d
sum_changed f [] i y d h is = absurd (omega arith)
sum_changed f (x ∷ xs) zero y d h is = omega (arith, is, sum_by-cons f x xs, sum_by-cons f y xs)
sum_changed f (x ∷ xs) (suc i) y d h is = omega (arith, sum_by-cons f x xs, sum_by-cons f x (slice_set xs i y), sum_changed f xs i y d (omega arith) is)

-- ---- a buffer that changes

module _ (s : Stock) (b : ℕ) (x : Buffer) (there : b < count s) where
  pub inserted_changed : (d : ℕ) → inserted_of x ≡ inserted_of (buffer s b) + d → inserted (with_buffer s b x) ≡ inserted s + d
  inserted_changed d is = inserted_sum (slice_set s.buffers b x) s.most_buffers s.most_versions ∙ sum_changed inserted_of s.buffers b x d there is ∙ ap (λ n. n + d) (sym (inserted_sum s.buffers s.most_buffers s.most_versions))

  pub versions_changed : (d : ℕ) → versions_of x ≡ versions_of (buffer s b) + d → versions (with_buffer s b x) ≡ versions s + d
  versions_changed d is = versions_sum (slice_set s.buffers b x) s.most_buffers s.most_versions ∙ sum_changed versions_of s.buffers b x d there is ∙ ap (λ n. n + d) (sym (versions_sum s.buffers s.most_buffers s.most_versions))

  pub placements_changed : (d : ℕ) → placements_of x ≡ placements_of (buffer s b) + d → placements (with_buffer s b x) ≡ placements s + d
  placements_changed d is = placements_sum (slice_set s.buffers b x) s.most_buffers s.most_versions ∙ sum_changed placements_of s.buffers b x d there is ∙ ap (λ n. n + d) (sym (placements_sum s.buffers s.most_buffers s.most_versions))

-- ---- one version more

abbrev grown_by : Buffer → Record → ChangeList → Buffer
grown_by x r c = record x { records = x.records ++ r ∷ []; changes = x.changes ++ c ∷ []; regions = regions_after (step c) x.regions }

abbrev with_records : Buffer → List Record → Buffer
with_records x rs = record x { records = rs }

inserted_grown : (x : Buffer) (r : Record) (c : ChangeList) → 0 < length x.records → inserted_of (grown_by x r c) ≡ inserted_of x + inserted_len c
inserted_grown x r c some = by x.records some
  where
    by : (rs : List Record) → 0 < length rs → inserted_of (grown_by (with_records x rs) r c) ≡ inserted_of (with_records x rs) + inserted_len c
    by [] h = absurd (omega arith)
    by (base text n ∷ rs) h = omega (arith, sum_by_push inserted_len x.changes c)
    by (projection members sources ∷ rs) h = omega (arith, sum_by_push inserted_len x.changes c)
    by (elision flags source version ∷ rs) h = omega (arith, sum_by_push inserted_len x.changes c)

versions_grown : (x : Buffer) (r : Record) (c : ChangeList) → versions_of (grown_by x r c) ≡ versions_of x + 1
versions_grown x r c = omega (arith, length-append x.records (r ∷ []))

placements_grown : (x : Buffer) (r : Record) (c : ChangeList) → placements_of (grown_by x r c) ≡ placements_of x + (tracked_in r + length c.changes)
placements_grown x r c = omega (arith, sum_by_push tracked_in x.records r, sum_by_push (λ (k : ChangeList). length k.changes) x.changes c)

module _ (s : Stock) (b : ℕ) (r : Record) (c : ChangeList) (there : b < count s) where
  pub inserted_with : 0 < length (buffer s b).records → inserted (with_version s b r c) ≡ inserted s + inserted_len c
  unfolding with_version
  inserted_with some = inserted_changed s b (grown_by (buffer s b) r c) there (inserted_len c) (inserted_grown (buffer s b) r c some)

  pub versions_with : versions (with_version s b r c) ≡ versions s + 1
  unfolding with_version
  versions_with = versions_changed s b (grown_by (buffer s b) r c) there 1 (versions_grown (buffer s b) r c)

  pub placements_with : placements (with_version s b r c) ≡ placements s + (tracked_in r + length c.changes)
  unfolding with_version
  placements_with = placements_changed s b (grown_by (buffer s b) r c) there (tracked_in r + length c.changes) (placements_grown (buffer s b) r c)

-- ---- after a turn

abbrev IsThere : Stock → Option ℕ → Type 0
IsThere s None = Unit {0}
IsThere s (Some b) = b < count s

pub inserted_turned : (s : Stock) (o : Option ℕ) → IsThere s o → inserted (turned_in s o) ≡ inserted s
inserted_turned s None h = refl
inserted_turned s (Some b) h = inserted_changed s b (turn (buffer s b)) h 0 (omega arith) ∙ omega arith

pub versions_turned : (s : Stock) (o : Option ℕ) → IsThere s o → versions (turned_in s o) ≡ versions s
versions_turned s None h = refl
versions_turned s (Some b) h = versions_changed s b (turn (buffer s b)) h 0 (omega arith) ∙ omega arith

pub placements_turned : (s : Stock) (o : Option ℕ) → IsThere s o → placements (turned_in s o) ≡ placements s
placements_turned s None h = refl
placements_turned s (Some b) h = placements_changed s b (turn (buffer s b)) h 0 (omega arith) ∙ omega arith

-- ---- a new buffer

abbrev pub new_buffer : Record → Option (List ℕ) → Buffer
new_buffer r resolver = record { records = r ∷ []; changes = []; resolver = resolver; regions = []; regions_given = 0; turns = 0 }

pub inserted_new_base : (s : Stock) (text : List ℕ) (n : ℕ) (resolver : Option (List ℕ)) → inserted (with_new s (base text n) resolver) ≡ inserted s + length text
inserted_new_base s text n resolver =
    omega (arith, inserted_sum (s.buffers ++ new_buffer (base text n) resolver ∷ []) s.most_buffers s.most_versions, sum_by_push inserted_of s.buffers (new_buffer (base text n) resolver), inserted_sum s.buffers s.most_buffers s.most_versions)

pub inserted_new_projection : (s : Stock) (members : List Member) (sources : List (ℕ × ℕ)) (resolver : Option (List ℕ)) → inserted (with_new s (projection members sources) resolver) ≡ inserted s
inserted_new_projection s members sources resolver =
    omega (arith, inserted_sum (s.buffers ++ new_buffer (projection members sources) resolver ∷ []) s.most_buffers s.most_versions, sum_by_push inserted_of s.buffers (new_buffer (projection members sources) resolver), inserted_sum s.buffers s.most_buffers s.most_versions)

-- a carrier opens with nothing of its own
pub inserted_new_carrier : (s : Stock) (r : Record) (resolver : Option (List ℕ)) → is_carrier r ≡ true → inserted (with_new s r resolver) ≡ inserted s
inserted_new_carrier s (base text reiterated) resolver carries = absurd (cc)
inserted_new_carrier s (projection members sources) resolver carries = inserted_new_projection s members sources resolver
inserted_new_carrier s (elision flags source version) resolver carries =
    omega (arith, inserted_sum (s.buffers ++ new_buffer (elision flags source version) resolver ∷ []) s.most_buffers s.most_versions, sum_by_push inserted_of s.buffers (new_buffer (elision flags source version) resolver), inserted_sum s.buffers s.most_buffers s.most_versions)

pub versions_new : (s : Stock) (r : Record) (resolver : Option (List ℕ)) → versions (with_new s r resolver) ≡ versions s + 1
versions_new s r resolver =
    omega (arith, versions_sum (s.buffers ++ new_buffer r resolver ∷ []) s.most_buffers s.most_versions, sum_by_push versions_of s.buffers (new_buffer r resolver), versions_sum s.buffers s.most_buffers s.most_versions)

pub placements_new : (s : Stock) (r : Record) (resolver : Option (List ℕ)) → placements (with_new s r resolver) ≡ placements s + tracked_in r
placements_new s r resolver =
    omega (arith, placements_sum (s.buffers ++ new_buffer r resolver ∷ []) s.most_buffers s.most_versions, sum_by_push placements_of s.buffers (new_buffer r resolver), placements_sum s.buffers s.most_buffers s.most_versions)
