-- Once all buffers are done the stock is settled again, and its laws hold.
use Rattle.std.proofs.Common.{◌≡◌, ℕ, zero, suc, ◌<◌, ◌≤◌, true, List, [], ◌∷◌, length, Option, Some, None, refl, sym, ◌∙◌, ap, subst, inl, inr, arith}
use Rattle.std.specs.Prelude.{All, Contains, flat_map, slice_get, slice_index_or, unwrap_or}
use Rattle.std.specs.List.{AllByRecursion as Each}
use Rattle.std.proofs.lemmas.Bool.{cases_lt}
use Rattle.std.proofs.lemmas.Option.{slice_get_within}
use Rattle.ed_base.specs.Numbers.{is_among}
use Rattle.ed_layers.specs.Records.{Record, base, sources_of}
use Rattle.ed_layers.specs.Cells.{vector, vector_within}
use Rattle.ed_layers.specs.SourceStep.{SourceStep}
use Rattle.ed_stock.specs.Stock.{Stock, Buffer, buffer, now, record_at, record_now, count}
use Rattle.ed_stock.specs.Versions.{Rising, step_in}
use Rattle.ed_risen.specs.Founded.{Founded, Extends}
use Rattle.ed_risen.specs.Growing.{AreFounded}
use Rattle.ed_risen.specs.Laws.{HasOneVersionEach, OneVector, CurrentVector, RecordsStay}
use Rattle.ed_risen.specs.Rising.{IsNow, IsSettled, HasStepped, Rises}
use Rattle.ed_risen.proofs.FoundedLemmas.{founded_record, same_cells, same_vector}
use Rattle.ed_risen.proofs.Growth.{missing}
use Rattle.ed_risen.proofs.Lists.{each_append, each_both}
use Rattle.ed_risen.proofs.RisingLemmas.{some_records}

-- ---- small ones

pub each_at : {X : Type 0} (P : X → Type 0) (xs : List X) (k : ℕ) (d : X) → Each P xs → k < length xs → P (slice_index_or xs k d)
each_at P [] k d h l = absurd (omega arith)
each_at P (x ∷ xs) zero d h l = h.0
each_at P (x ∷ xs) (suc k) d h l = each_at P xs k d h.1 (omega arith)

pub all_of : {X : Type 0} (P : X → Type 0) (xs : List X) → Each P xs → All P xs
all_of P xs h = λ k d l. each_at P xs k d h l

pub each_contained : {X : Type 0} (P : X → Type 0) (xs : List X) (x : X) → Each P xs → Contains xs x → P x
each_contained P xs x h c = subst P c.2 (each_at P xs c.0 x h c.1)

each_flat : {X Y : Type 0} (P : Y → Type 0) (f : X → List Y) (xs : List X) → Each (λ x. Each P (f x)) xs → Each P (flat_map f xs)
each_flat P f [] h = tt
each_flat P f (x ∷ xs) h = each_append P (f x) (flat_map f xs) h.0 (each_flat P f xs h.1)

get_within : (xs : List Buffer) (b : ℕ) (d : Buffer) → d.records ≡ [] → 0 < length (unwrap_or (slice_get xs b) d).records → b < length xs
get_within [] b d is h = absurd (omega (arith, ap (λ rs. length rs) is))
get_within (x ∷ xs) zero d is h = omega arith
get_within (x ∷ xs) (suc b) d is h = let l : b < length xs = get_within xs b d is h in omega arith

-- a buffer that has records is there
pub record_there : (s : Stock) (b v : ℕ) (r : Record) → record_at s b v ≡ Some r → b < count s
record_there s b v r is = get_within s.buffers b missing refl (let l : v < length (buffer s b).records = slice_get_within (buffer s b).records v r is in omega arith)

-- ---- vectors

module _ (s : Stock) (current : (b : ℕ) → b < count s → Each (IsNow s) (sources_of (record_now s b))) (some : (b : ℕ) → b < count s → 0 < length (buffer s b).records) where
  vector_now : (n b : ℕ) → Founded (record_at s) n (b, now s b) → Each (IsNow s) (vector_within (record_at s) n (b, now s b))
  unfolding Founded vector_within
  vector_now zero b h = tt
  vector_now (suc n) b h =
      let r : (r : Record) × (record_at s b (now s b) ≡ Some r) × Each (Founded (record_at s) n) (sources_of r) = founded_record (record_at s) n (b, now s b) h in
      let there : b < count s = record_there s b (now s b) r.0 r.1 in
      let same : record_now s b ≡ r.0 = ap (λ o. unwrap_or o (base [] 0)) r.1 in
      let all : Each (IsNow s) (sources_of r.0) = subst (λ x. Each (IsNow s) (sources_of x)) same (current b there) in
      rw r.1 (
        refl,
        each_flat (IsNow s) (vector_within (record_at s) n) (sources_of r.0)
            (each_both (IsNow s) (Founded (record_at s) n) (λ v. Each (IsNow s) (vector_within (record_at s) n v))
            (λ v is f. subst (λ w. Each (IsNow s) (vector_within (record_at s) n (v.0, w))) (sym is) (vector_now n v.0 (subst (λ w. Founded (record_at s) n (v.0, w)) is f)))
            (sources_of r.0) all r.2),
      )

  pub current_vector : AreFounded s → CurrentVector s
  current_vector founded b there c v contains =
      each_contained (IsNow s) (vector (record_at s) b (now s b)) (c, v) (vector_now 9 b (founded b (now s b) (let h : 0 < length (buffer s b).records = some b there in omega arith))) contains

  pub current_one : AreFounded s → (b : ℕ) → b < count s → HasOneVersionEach (vector (record_at s) b (now s b))
  current_one founded b there c v w hv hw = current_vector founded b there c v hv ∙ sym (current_vector founded b there c w hw)

-- ---- records

pub records_stay : (s t : Stock) → Extends (record_at s) (record_at t) → AreFounded s → RecordsStay s t
records_stay s t extends founded b v r is =
    (extends b v r is, sym (same_cells (record_at s) (record_at t) extends 9 9 (b, v) (omega arith) (founded b v (slice_get_within (buffer s b).records v r is))))

-- ---- all are done

module _ (s : Stock) (height : ℕ → ℕ) (settled : IsSettled s) (start done : List ℕ) (r : Rising) (rises : Rises s height start done r)
    (all : (b : ℕ) → b < count s → is_among b done ≡ true) where
  pub settles : IsSettled r.stock
  settles = record {
    founded = rises.founded;
    some = λ b there. some_records s height settled start done r rises b (subst (λ n. b < n) rises.same_count there);
    current = λ b there. (rises.risen b (all b (subst (λ n. b < n) rises.same_count there))).current;
    inside = λ b there. (rises.risen b (all b (subst (λ n. b < n) rises.same_count there))).inside;
  }

  pub one_vector : OneVector s → OneVector r.stock
  one_vector one b v below = elim (cases_lt v (length (buffer s b).records)) [
    | inl old ↦ subst HasOneVersionEach (same_vector (record_at s) (record_at r.stock) rises.extends 9 9 (b, v) (omega arith) (settled.founded b v old)) (one b v old)
    | inr past ↦ newest (step_in r.moves b) refl past
  ]
    where
      newest : (o : Option SourceStep) → step_in r.moves b ≡ o → length (buffer s b).records ≤ v → HasOneVersionEach (vector (record_at r.stock) b v)
      newest None still past = absurd (let e : length (buffer r.stock b).records ≡ length (buffer s b).records = ap length (rises.unmoved b still) in omega arith)
      newest (Some m) stepped past =
          let was : HasStepped s r.stock b m = rises.moved b m stepped in
          let l : length (buffer r.stock b).records ≡ suc (length (buffer s b).records) = was.longer in
          let e : now r.stock b ≡ v = omega arith in
          subst (λ w. HasOneVersionEach (vector (record_at r.stock) b w)) e
          (current_one r.stock settles.current settles.some rises.founded b (subst (λ n. b < n) (sym rises.same_count) was.there))
