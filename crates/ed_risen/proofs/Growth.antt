-- What one version more leaves of a stock.
use Rattle.std.proofs.Common.{◌≡◌, ◌≢◌, ℕ, zero, suc, ◌-◌, ◌<◌, ◌⊎◌, List, [], ◌∷◌, ◌++◌, length, Option, Some, None, refl, sym, ◌∙◌, ap, subst, inl, inr, arith, length-append}
use Rattle.std.specs.Prelude.{slice_get, slice_set, unwrap_or}
use Rattle.std.specs.List.{AllByRecursion as Each}
use Rattle.std.proofs.lemmas.Bool.{cases_eq}
use Rattle.std.proofs.lemmas.Option.{slice_get_within}
use Rattle.ed_layers.specs.Records.{Record, base, sources_of}
use Rattle.ed_base.specs.ChangeList.{ChangeList}
use Rattle.ed_stock.specs.Stock.{Stock, Buffer, buffer, now, record_at, record_now, text_now, text_at, count, with_buffer}
use Rattle.ed_stock.specs.Versions.{with_version}
use Rattle.ed_risen.specs.Founded.{Founded, Extends}
use Rattle.ed_risen.specs.Growing.{Grows, AreFounded}
use Rattle.ed_risen.proofs.FoundedLemmas.{each_weaker, founded_of, founded_in}
use Rattle.ed_risen.proofs.Texts.{same_text}

-- ---- lists

pub set_here : {X : Type 0} (xs : List X) (i : ℕ) (x : X) → i < length xs → slice_get (slice_set xs i x) i ≡ Some x
set_here [] i x h = absurd (omega arith)
set_here (y ∷ ys) zero x h = refl
set_here (y ∷ ys) (suc i) x h = set_here ys i x (omega arith)

pub set_other : {X : Type 0} (xs : List X) (i j : ℕ) (x : X) → j ≢ i → slice_get (slice_set xs i x) j ≡ slice_get xs j
set_other [] i j x h = refl
set_other (y ∷ ys) zero zero x h = absurd (h refl)
set_other (y ∷ ys) zero (suc j) x h = refl
set_other (y ∷ ys) (suc i) zero x h = refl
set_other (y ∷ ys) (suc i) (suc j) x h = set_other ys i j x (λ e. h (ap suc e))

pub push_here : {X : Type 0} (xs : List X) (x : X) → slice_get (xs ++ x ∷ []) (length xs) ≡ Some x
push_here [] x = refl
push_here (y ∷ ys) x = push_here ys x

pub push_old : {X : Type 0} (xs : List X) (x : X) (i : ℕ) → i < length xs → slice_get (xs ++ x ∷ []) i ≡ slice_get xs i
push_old [] x i h = absurd (omega arith)
push_old (y ∷ ys) x zero h = refl
push_old (y ∷ ys) x (suc i) h = push_old ys x i (omega arith)

length_push : {X : Type 0} (xs : List X) (x : X) → length (xs ++ x ∷ []) ≡ suc (length xs)
length_push xs x = omega (arith, length-append xs (x ∷ []))

-- ---- one version more

module _ (s t : Stock) (b : ℕ) (r : Record) (g : Grows s t b r) where
  abbrev last : ℕ
  last = length (buffer s b).records

  pub grown_last : record_at t b last ≡ Some r
  grown_last = ap (λ rs. slice_get rs last) g.here ∙ push_here (buffer s b).records r

  pub grown_old : (v : ℕ) → v < last → record_at t b v ≡ record_at s b v
  grown_old v h = ap (λ rs. slice_get rs v) g.here ∙ push_old (buffer s b).records r v h

  pub grown_other : (a v : ℕ) → a ≢ b → record_at t a v ≡ record_at s a v
  grown_other a v ne = ap (λ rs. slice_get rs v) (g.others a ne)

  pub grown_extends : Extends (record_at s) (record_at t)
  grown_extends a v x is = elim (cases_eq a b) [
    | inl e ↦ (let there : v < length (buffer s a).records = slice_get_within (buffer s a).records v x is in
        let there' : v < last = subst (λ c. v < length (buffer s c).records) e there in
        subst (λ c. record_at t c v ≡ Some x) (sym e) (grown_old v there' ∙ subst (λ c. record_at s c v ≡ Some x) e is))
    | inr ne ↦ grown_other a v ne ∙ is
  ]

  pub grown_length : length (buffer t b).records ≡ suc last
  grown_length = ap length g.here ∙ length_push (buffer s b).records r

  pub grown_now : now t b ≡ last
  grown_now = let l : length (buffer t b).records ≡ suc last = grown_length in omega arith

  pub grown_now_other : (a : ℕ) → a ≢ b → now t a ≡ now s a
  grown_now_other a ne = ap (λ rs. length rs - 1) (g.others a ne)

  pub grown_record_now : record_now t b ≡ r
  grown_record_now = ap (λ v. unwrap_or (record_at t b v) (base [] 0)) grown_now ∙ ap (λ o. unwrap_or o (base [] 0)) grown_last

  pub grown_record_other : (a : ℕ) → a ≢ b → record_now t a ≡ record_now s a
  grown_record_other a ne = ap (λ v. unwrap_or (record_at t a v) (base [] 0)) (grown_now_other a ne) ∙ ap (λ o. unwrap_or o (base [] 0)) (grown_other a (now s a) ne)

  -- what stands on versions that are there still does
  pub grown_founded : AreFounded s → Each (Founded (record_at s) 8) (sources_of r) → AreFounded t
  grown_founded all named a v h = elim (cases_eq a b) [
    | inl e ↦ (let below : v < suc last = subst (λ m. v < m) grown_length (subst (λ c. v < length (buffer t c).records) e h) in
        subst (λ c. Founded (record_at t) 9 (c, v)) (sym e) (elim (cases_eq v last) [
          | inl f ↦ subst (λ w. Founded (record_at t) 9 (b, w)) (sym f) (founded_of (record_at t) 8 (b, last) r grown_last (each_weaker (Founded (record_at s) 8) (Founded (record_at t) 8) (founded_in (record_at s) (record_at t) grown_extends 8) (sources_of r) named))
          | inr ne ↦ founded_in (record_at s) (record_at t) grown_extends 9 (b, v) (all b v (omega arith))
        ]))
    | inr ne ↦ founded_in (record_at s) (record_at t) grown_extends 9 (a, v) (all a v (subst (λ m. v < m) (ap length (g.others a ne)) h))
  ]

  -- the text of another buffer that has one, and old texts, stay
  pub grown_text : AreFounded s → (a v : ℕ) → v < length (buffer s a).records → text_at t a v ≡ text_at s a v
  grown_text all a v h = same_text (record_at s) (record_at t) grown_extends a v (all a v h)

  pub grown_text_now : AreFounded s → (a : ℕ) → a ≢ b → 0 < length (buffer s a).records → text_now t a ≡ text_now s a
  grown_text_now all a ne some = ap (λ v. text_at t a v) (grown_now_other a ne) ∙ grown_text all a (now s a) (omega arith)

-- ---- what makes one

abbrev pub missing : Buffer
missing = record { records = []; changes = []; resolver = None; regions = []; regions_given = 0; turns = 0 }

abbrev records_in : Option Buffer → List Record
records_in o = (unwrap_or o missing).records

pub version_grows : (s : Stock) (b : ℕ) (r : Record) (c : ChangeList) → b < count s → Grows s (with_version s b r c) b r
unfolding with_version
version_grows s b r c there = record {
  here = ap records_in (set_here s.buffers b _ there);
  others = λ a ne. ap records_in (set_other s.buffers b a _ ne);
}

-- a buffer with this record more, whatever becomes of the rest of it
pub set_grows : (s : Stock) (b : ℕ) (r : Record) (x : Buffer) → b < count s → x.records ≡ (buffer s b).records ++ r ∷ [] → Grows s (with_buffer s b x) b r
set_grows s b r x there is = record {
  here = ap records_in (set_here s.buffers b x there) ∙ is;
  others = λ a ne. ap records_in (set_other s.buffers b a x ne);
}

-- the records of two stocks that grew by the same one
pub same_growth : (s t u : Stock) (b : ℕ) (r : Record) → Grows s t b r → Grows s u b r → record_at t ≡ record_at u
same_growth s t u b r g h = λ i a v. by a v (cases_eq a b) i
  where
    by : (a v : ℕ) → (a ≡ b) ⊎ (a ≢ b) → record_at t a v ≡ record_at u a v
    by a v (inl e) = subst (λ c. record_at t c v ≡ record_at u c v) (sym e) (ap (λ rs. slice_get rs v) (g.here ∙ sym h.here))
    by a v (inr ne) = ap (λ rs. slice_get rs v) (g.others a ne ∙ sym (h.others a ne))
