-- What a buffer's turn leaves of the others, and where its turn stands.
use Rattle.std.proofs.Common.{◌≡◌, ◌≢◌, ℕ, zero, suc, ◌<◌, ◌≤◌, Bool, true, false, List, [], ◌∷◌, ◌++◌, length, filter, if◌then◌else◌, Option, Some, None, inl, inr, refl, sym, ap, ◌∙◌, arith, subst}
use Rattle.std.specs.Prelude.{nat_eq, slice_get, slice_set, fold, unwrap_or, option_and_then}
use Rattle.std.proofs.lemmas.Bool.{cases_eq}
use Rattle.std.proofs.lemmas.Bool.Decides.{nat_tests}
use Rattle.ed_layers.specs.Records.{Record}
use Rattle.ed_layers.specs.SourceStep.{SourceStep}
use Rattle.ed_stock.specs.Stock.{Stock, Buffer, buffer, count, record_at, record_now}
use Rattle.ed_layers.specs.CarrierStep.{all_stay}
use Rattle.ed_stock.specs.Versions.{Rising, step_in, with_version, with_record, risen_at, is_moved, next_record}
use Rattle.ed_stock.specs.Landing.{landed_at}
use Rattle.ed_base.specs.declared.piece.Piece.{Piece}
use Rattle.ed_sending.proofs.Lists.SortedParts.{Each}
use Rattle.ed_sending.proofs.Groups.SendingOrder.{Climbs}

pub set_here : {X : Type 0} (xs : List X) (i : ℕ) (x : X) → i < length xs → slice_get (slice_set xs i x) i ≡ Some x
set_here [] i x h = absurd (omega arith)
set_here (y ∷ ys) zero x h = refl
set_here (y ∷ ys) (suc i) x h = set_here ys i x (omega arith)

pub set_past : {X : Type 0} (xs : List X) (i : ℕ) (x : X) → length xs ≤ i → slice_set xs i x ≡ xs
set_past [] i x h = refl
set_past (y ∷ ys) zero x h = absurd (omega arith)
set_past (y ∷ ys) (suc i) x h = ap (λ z. y ∷ z) (set_past ys i x (omega arith))

pub set_other : {X : Type 0} (xs : List X) (i j : ℕ) (x : X) → j ≢ i → slice_get (slice_set xs i x) j ≡ slice_get xs j
set_other [] i j x h = refl
set_other (y ∷ ys) zero zero x h = absurd (h refl)
set_other (y ∷ ys) zero (suc j) x h = refl
set_other (y ∷ ys) (suc i) zero x h = refl
set_other (y ∷ ys) (suc i) (suc j) x h = set_other ys i j x (λ e. h (ap suc e))

set_length : {X : Type 0} (xs : List X) (i : ℕ) (x : X) → length (slice_set xs i x) ≡ length xs
set_length [] i x = refl
set_length (y ∷ ys) zero x = refl
set_length (y ∷ ys) (suc i) x = ap suc (set_length ys i x)

pub step_in_push : (ms : List (ℕ × SourceStep)) (b : ℕ) (x : SourceStep) → step_in ms b ≡ None → step_in (ms ++ (b, x) ∷ []) b ≡ Some x
step_in_push [] b x h = let e : nat_eq b b ≡ true = grind (arith, nat_tests) in rw e refl
step_in_push (n ∷ ns) b x h = by (nat_eq n.0 b) h (λ e. step_in_push ns b x e)
  where
    by : (t : Bool) → (if t then Some n.1 else step_in ns b) ≡ None → (step_in ns b ≡ None → step_in (ns ++ (b, x) ∷ []) b ≡ Some x) → (if t then Some n.1 else step_in (ns ++ (b, x) ∷ []) b) ≡ Some x
    by true h more = absurd (let e : Some n.1 ≡ None = h in cc)
    by false h more = more h

step_in_other : (ms : List (ℕ × SourceStep)) (b c : ℕ) (x : SourceStep) → c ≢ b → step_in (ms ++ (b, x) ∷ []) c ≡ step_in ms c
step_in_other [] b c x other = let e : nat_eq b c ≡ false = grind (arith, nat_tests) in rw e refl
step_in_other (n ∷ ns) b c x other = ap (λ z. if nat_eq n.0 c then Some n.1 else z) (step_in_other ns b c x other)

-- ---- turns

abbrev pub records_at : Stock → ℕ → List Record
records_at s c = (buffer s c).records

-- the turn of a buffer is its own affair
pub record Acts (act : Rising → ℕ → Rising) : Type 0 where
  pub records : (r : Rising) (b c : ℕ) → c ≢ b → records_at (act r b).stock c ≡ records_at r.stock c
  pub steps : (r : Rising) (b c : ℕ) → c ≢ b → step_in (act r b).moves c ≡ step_in r.moves c
  pub many : (r : Rising) (b : ℕ) → count (act r b).stock ≡ count r.stock

abbrev pub missing : Buffer
missing = record { records = []; changes = []; resolver = None; regions = []; regions_given = 0; turns = 0 }

abbrev pub records_in : Option Buffer → List Record
records_in o = (unwrap_or o missing).records

pub landed_acts : (pending : List (ℕ × Piece)) (reiterated : ℕ → Option ℕ) → Acts (landed_at pending reiterated)
unfolding with_version
landed_acts pending reiterated = record {
  records = λ r b c other. ap records_in (set_other r.stock.buffers b c _ other);
  steps = λ r b c other. step_in_other r.moves b c _ other;
  many = λ r b. set_length r.stock.buffers b _;
}

pub risen_acts : (given : ℕ → Option ℕ) → Acts (risen_at given)
unfolding with_version with_record
risen_acts given = record {
  records = λ r b c other. either_records r b c other (is_moved r b);
  steps = λ r b c other. either_steps r b c other (is_moved r b);
  many = λ r b. either_many r b (is_moved r b);
}
  where
    either_records : (r : Rising) (b c : ℕ) → c ≢ b → (t : Bool) → records_at (if t then with_record r b all_stay (next_record r.stock b (step_in r.moves) (option_and_then (record_at r.stock b) (given b)) (record_now r.stock b)) else r).stock c ≡ records_at r.stock c
    either_records r b c other true = ap records_in (set_other r.stock.buffers b c _ other)
    either_records r b c other false = refl

    either_steps : (r : Rising) (b c : ℕ) → c ≢ b → (t : Bool) → step_in (if t then with_record r b all_stay (next_record r.stock b (step_in r.moves) (option_and_then (record_at r.stock b) (given b)) (record_now r.stock b)) else r).moves c ≡ step_in r.moves c
    either_steps r b c other true = step_in_other r.moves b c _ other
    either_steps r b c other false = refl

    either_many : (r : Rising) (b : ℕ) → (t : Bool) → count (if t then with_record r b all_stay (next_record r.stock b (step_in r.moves) (option_and_then (record_at r.stock b) (given b)) (record_now r.stock b)) else r).stock ≡ count r.stock
    either_many r b true = set_length r.stock.buffers b _
    either_many r b false = refl

pub passed : (act : Rising → ℕ → Rising) → Acts act → (r : Rising) (xs : List ℕ) (c : ℕ) → Each (λ d. d ≢ c) xs → (records_at (fold act r xs).stock c ≡ records_at r.stock c) × (step_in (fold act r xs).moves c ≡ step_in r.moves c)
passed act acts r [] c a = (refl, refl)
passed act acts r (x ∷ xs) c a =
    let other : c ≢ x = λ e. a.0 (sym e) in
    let rest : (records_at (fold act (act r x) xs).stock c ≡ records_at (act r x).stock c) × (step_in (fold act (act r x) xs).moves c ≡ step_in (act r x).moves c) = passed act acts (act r x) xs c a.1 in
    (rest.0 ∙ acts.records r x c other, rest.1 ∙ acts.steps r x c other)

pub as_many : (act : Rising → ℕ → Rising) → Acts act → (r : Rising) (xs : List ℕ) → count (fold act r xs).stock ≡ count r.stock
as_many act acts r [] = refl
as_many act acts r (x ∷ xs) = as_many act acts (act r x) xs ∙ acts.many r x

pub fold_append : {X Y : Type 0} (f : Y → X → Y) (z : Y) (xs ys : List X) → fold f z (xs ++ ys) ≡ fold f (fold f z xs) ys
fold_append f z [] ys = refl
fold_append f z (x ∷ xs) ys = fold_append f (f z x) xs ys

-- ---- the place of a turn

-- one stands in the order once, and none that follows is lower
pub record Splits (H : ℕ → ℕ) (order : List ℕ) (c : ℕ) : Type 0 where
  pub front : List ℕ
  pub back : List ℕ
  pub is : order ≡ front ++ c ∷ back
  pub before : Each (λ d. d ≢ c) front
  pub after : Each (λ d. d ≢ c) back
  pub above : Each (λ d. H c ≤ H d) back

absent : (c : ℕ) (ds : List ℕ) → filter (λ d. nat_eq d c) ds ≡ [] → Each (λ d. d ≢ c) ds
absent c [] none = tt
absent c (d ∷ ds) none = elim (cases_eq d c) [
  | inl same ↦ absurd (let t : nat_eq d c ≡ true = grind (arith, nat_tests) in let o : d ∷ filter (λ d. nat_eq d c) ds ≡ [] = sym (rw t refl) ∙ none in cc)
  | inr other ↦ (let t : nat_eq d c ≡ false = grind (arith, nat_tests) in (other, absent c ds (sym (rw t refl) ∙ none)))
]

pub splits : (H : ℕ → ℕ) (order : List ℕ) (c : ℕ) → Climbs H order → filter (λ d. nat_eq d c) order ≡ c ∷ [] → Splits H order c
splits H [] c climbs once = absurd (let e : [] ≡ c ∷ [] = once in cc)
splits H (d ∷ ds) c climbs once = elim (cases_eq d c) [
  | inl same ↦ (let t : nat_eq d c ≡ true = grind (arith, nat_tests) in
      let o : d ∷ filter (λ d. nat_eq d c) ds ≡ c ∷ [] = sym (rw t refl) ∙ once in
      let rest : filter (λ d. nat_eq d c) ds ≡ [] = cc in
      record { front = []; back = ds; is = ap (λ z. z ∷ ds) same; before = tt; after = absent c ds rest; above = subst (λ z. Each (λ e. H z ≤ H e) ds) same climbs.0 })
  | inr other ↦ (let t : nat_eq d c ≡ false = grind (arith, nat_tests) in
      let o : filter (λ d. nat_eq d c) ds ≡ c ∷ [] = sym (rw t refl) ∙ once in
      let rest : Splits H ds c = splits H ds c climbs.1 o in
      record { front = d ∷ rest.front; back = rest.back; is = ap (λ z. d ∷ z) rest.is; before = (other, rest.before); after = rest.after; above = rest.above })
]
