-- The whole step of the commands that change regions.
use Rattle.std.proofs.Common.{◌≡◌, ℕ, ◌+◌, ◌<◌, ◌≤◌, ◌^◌, Bool, not, List, [], ◌∷◌, ◌++◌, Result, Ok, Err, IfOk, OnOk, OnErr, length, filter, nat_eq, Option, Some, None, refl, sym, ◌∙◌, ap, subst, arith, length-append, length-set, inl, inr, nat_le, leb-false, leb-true}
use Rattle.ed_base.specs.declared.edit.Span.{Span}
use Rattle.ed_base.specs.declared.mode.EdgeMode.{EdgeMode}
use Rattle.ed_base.specs.declared.mode.SpanMode.{SpanMode}
use Rattle.ed_base.specs.declared.refusal.Refusal.{Refusal}
use Rattle.ed_base.specs.declared.refusal.Which.{Which}
use Rattle.ed_base.specs.Denial.{Region}
use Rattle.std.proofs.lemmas.Bool.{cases_Bool}
use Rattle.std.proofs.lemmas.List.Filters.{length-filter_both}
use Rattle.std.proofs.lemmas.Option.{none-some}
use Rattle.ed_readonly.specs.LiveRegions.{limit_passed, limit_told}
use Rattle.ed_readonly.specs.declared.fault.RegionFault.{RegionFault}
use Rattle.ed_stock.specs.Stock as stock
use Rattle.ed_stock.specs.Stock.{Stock}
use Rattle.ed_group.specs.Asking.{regions_of, with_region, without_region}
use Rattle.ed_core.specs.RegionOutcomes.{region_made, region_gone, region_told}
use Rattle.ed_entry.specs.declared.Reply.{Reply}
use Rattle.ed_machine.specs.State.{State, buffer, count, with_stock}
use Rattle.ed_machine.specs.Accepted.{Outcome, answers}
use Rattle.ed_machine.specs.Limits.{limit_fault}
use Rattle.ed_machine.specs.Step.{within_limits, weighed, or_refused}
use Rattle.ed_core.specs.Within.{IsWithin}
use Rattle.ed_core.proofs.Limits.{within-none}
use Rattle.ed_core.proofs.Steps.{with_regions, too-many-live, too-many-given, regions-within, unweighed}

module _ (s : State) (within : IsWithin s) (b : ℕ) (there : b < count s) (rs : List Region) (n : ℕ) (number : ℕ) where
  -- the regions that the buffer would have, with the reply that tells the new one's number
  abbrev pub ruled : Outcome
  ruled = answers (with_regions s within b there rs n) (Reply.Region number)

  by_fault : (o : Option Refusal) → limit_fault (with_regions s within b there rs n) ≡ o → within_limits s (weighed ruled) ≡ or_refused s o ruled
  by_fault o e = ap (within_limits s) (unweighed ruled refl) ∙ ap (λ f. or_refused s f ruled) e

  pub live-refused : 1024 < length rs → within_limits s (weighed ruled) ≡ answers s (Reply.Refused (Refusal.Limit Which.Regions (length rs)))
  live-refused many = by_fault (Some (Refusal.Limit Which.Regions (length rs))) (too-many-live s within b there rs n many)

  pub given-refused : length rs ≤ 1024 → 2 ^ 20 < n → within_limits s (weighed ruled) ≡ answers s (Reply.Refused (Refusal.Limit Which.Regions n))
  given-refused few many = by_fault (Some (Refusal.Limit Which.Regions n)) (too-many-given s within b there rs n few many)

  pub region-made : length rs ≤ 1024 → n ≤ 2 ^ 20 → within_limits s (weighed ruled) ≡ ruled
  region-made few some = by_fault None (within-none (with_regions s within b there rs n) (regions-within s within b there rs n few some))

-- ---- by whether one region more passes a limit

some-inj : {X : Type 0} {x y : X} → Some x ≡ Some y → x ≡ y
some-inj e = cc

module _ (s : State) (within : IsWithin s) (b : ℕ) (there : b < count s) (span : Span) (mode : SpanMode) (edge : EdgeMode) (query : Option (List ℕ)) where
  abbrev made : Outcome
  made = region_made s b span mode edge query

  abbrev live : ℕ
  live = length (buffer s b).regions

  abbrev given : ℕ
  given = (buffer s b).regions_given

  abbrev fresh : Region
  fresh = record { number = given; span = span; mode = mode; edge = edge; query = query }

  abbrev more : List Region
  more = (buffer s b).regions ++ fresh ∷ []

  one-more : length more ≡ live + 1
  one-more = length-append (buffer s b).regions (fresh ∷ [])

  pub region-none : limit_passed (regions_of (buffer s b)) ≡ None → (within_limits s (weighed made) ≡ made) × IsWithin made.state
  region-none e = elim (cases_Bool (nat_le 1024 live)) [
    | inl t ↦ absurd (let some : limit_passed (regions_of (buffer s b)) ≡ Some 1025 = rw t refl in none-some 1025 (sym e ∙ some))
    | inr f ↦ elim (cases_Bool (nat_le (2 ^ 20) given)) [
      | inl t ↦ absurd (let some : limit_passed (regions_of (buffer s b)) ≡ Some (2 ^ 20 + 1) = rw (f, t) refl in none-some (2 ^ 20 + 1) (sym e ∙ some))
      | inr g ↦ (let few : live < 1024 = leb-false 1024 live f in let some : given < 2 ^ 20 = leb-false (2 ^ 20) given g in (
        region-made s within b there more (given + 1) given (omega (arith, one-more)) (omega arith),
        regions-within s within b there more (given + 1) (omega (arith, one-more)) (omega arith),
      ))
    ]
  ]

  pub region-some : (k : ℕ) → limit_passed (regions_of (buffer s b)) ≡ Some k → within_limits s (weighed made) ≡ answers s (Reply.Refused (Refusal.Limit Which.Regions k))
  region-some k e = elim (cases_Bool (nat_le 1024 live)) [
    | inl t ↦ (let passed : limit_passed (regions_of (buffer s b)) ≡ Some 1025 = rw t refl in
        let many : 1024 ≤ live = leb-true 1024 live t in
        let most : live ≤ 1024 = within.regions.live b in
        let k_is : 1025 ≡ k = some-inj (sym passed ∙ e) in
        live-refused s within b there more (given + 1) given (omega (arith, one-more)) ∙ ap (λ j. answers s (Reply.Refused (Refusal.Limit Which.Regions j))) (omega (arith, one-more, k_is)))
    | inr f ↦ elim (cases_Bool (nat_le (2 ^ 20) given)) [
      | inl t ↦ (let passed : limit_passed (regions_of (buffer s b)) ≡ Some (2 ^ 20 + 1) = rw (f, t) refl in
          let few : live < 1024 = leb-false 1024 live f in
          let many : 2 ^ 20 ≤ given = leb-true (2 ^ 20) given t in
          let most : given ≤ 2 ^ 20 = within.regions.given b in
          let k_is : 2 ^ 20 + 1 ≡ k = some-inj (sym passed ∙ e) in
          given-refused s within b there more (given + 1) given (omega (arith, one-more)) (omega arith) ∙ ap (λ j. answers s (Reply.Refused (Refusal.Limit Which.Regions j))) (omega (arith, k_is)))
      | inr g ↦ absurd (let none : limit_passed (regions_of (buffer s b)) ≡ None = rw (f, g) refl in none-some k (sym none ∙ e))
    ]
  ]

pub region-taken : (s : State) (within : IsWithin s) (b : ℕ) (there : b < count s) (region : ℕ) → (within_limits s (weighed (region_gone s b region)) ≡ region_gone s b region) × IsWithin (region_gone s b region).state
region-taken s within b there region =
    let p : Region → Bool = λ r. not (nat_eq r.number region) in
    let fewer : length (filter p (buffer s b).regions) + length (filter (λ r. not (p r)) (buffer s b).regions) ≡ length (buffer s b).regions = length-filter_both p (λ r. not (p r)) (λ r. refl) (buffer s b).regions in
    let few : length (buffer s b).regions ≤ 1024 = within.regions.live b in
    let w : IsWithin (region_gone s b region).state = regions-within s within b there (filter p (buffer s b).regions) (buffer s b).regions_given (omega arith) (within.regions.given b) in
    (ap (within_limits s) (unweighed (region_gone s b region) refl) ∙ ap (λ f. or_refused s f (region_gone s b region)) (within-none (region_gone s b region).state w), w)

-- ---- what the stock answers, as the reply and the state that are left

if-ok : {X E : Type 0} (P Q : X → Type 0) (x : Result X E) → IfOk x P → ((y : X) → P y → Q y) → IfOk x Q
if-ok P Q (Ok y) h step = step y h
if-ok P Q (Err e) h step = h

on-ok : {X E : Type 0} (P : X → Type 0) (Q : Type 0) (x : Result X E) → IfOk x P → ((y : X) → P y → Q) → OnOk x Q
on-ok P Q (Ok y) h step = step y h
on-ok P Q (Err e) h step = h

module _ (s : State) (within : IsWithin s) (b : ℕ) (there : b < count s) (span : Span) (mode : SpanMode) (edge : EdgeMode) (query : Option (List ℕ)) (t : Stock) where
  abbrev whole : Outcome
  whole = within_limits s (weighed (region_made s b span mode edge query))

  record Added (result : Result ℕ RegionFault) : Type 0 where
    pub limit : limit_told result ≡ limit_passed (regions_of (buffer s b))
    pub number : IfOk result (λ n. n ≡ (buffer s b).regions_given)
    pub ok : OnOk result (t ≡ stock.with_buffer s.stock b (with_region (buffer s b) span mode edge query))
    pub err : OnErr result (t ≡ s.stock)

  added-within : (result : Result ℕ RegionFault) → Added result → IsWithin (with_stock s t)
  added-within (Ok n) a = subst (λ u. IsWithin (with_stock s u)) (sym a.ok) (region-none s within b there span mode edge query (sym a.limit)).1
  added-within (Err e) a = subst (λ u. IsWithin (with_stock s u)) (sym a.err) within

  added-told : (result : Result ℕ RegionFault) → Added result → (r : Reply) → Some r ≡ region_told result → (r ≡ whole.reply) × (with_stock s t ≡ whole.state)
  added-told (Ok n) a r e =
      let does : whole ≡ region_made s b span mode edge query = (region-none s within b there span mode edge query (sym a.limit)).0 in
      (some-inj e ∙ (ap Reply.Region a.number ∙ ap (λ (o : Outcome). o.reply) (sym does)), ap (with_stock s) a.ok ∙ ap (λ (o : Outcome). o.state) (sym does))
  added-told (Err (RegionFault.Limit k)) a r e =
      let does : whole ≡ answers s (Reply.Refused (Refusal.Limit Which.Regions k)) = region-some s within b there span mode edge query k (sym a.limit) in
      (some-inj e ∙ ap (λ (o : Outcome). o.reply) (sym does), ap (with_stock s) a.err ∙ ap (λ (o : Outcome). o.state) (sym does))
  added-told (Err RegionFault.OutOfMemory) a r e = absurd (none-some r (sym e))

  added-count : (result : Result ℕ RegionFault) → Added result → stock.count s.stock ≡ stock.count t
  added-count (Ok n) a = sym (length-set s.stock.buffers b (with_region (buffer s b) span mode edge query)) ∙ ap stock.count (sym a.ok)
  added-count (Err e) a = ap stock.count (sym a.err)

-- the same of a state that is seen in another way
module _ (v s : State) (e : v ≡ s) (within : IsWithin v) (b : ℕ) (there : b < count s) (span : Span) (mode : SpanMode) (edge : EdgeMode) (query : Option (List ℕ)) (t : Stock) (result : Result ℕ RegionFault)
    (limit : limit_told result ≡ limit_passed (regions_of (buffer v b))) (number : IfOk result (λ n. n ≡ (buffer v b).regions_given))
    (ok : OnOk result (t ≡ stock.with_buffer v.stock b (with_region (buffer v b) span mode edge query))) (err : OnErr result (t ≡ v.stock)) where
  there-seen : b < count v
  there-seen = subst (λ u. b < count u) (sym e) there

  facts : Added v within b there-seen span mode edge query t result
  facts = record { limit = limit; number = number; ok = ok; err = err }

  pub seen-within : IsWithin (with_stock v t)
  seen-within = added-within v within b there-seen span mode edge query t result facts

  pub seen-count : stock.count v.stock ≡ stock.count t
  seen-count = added-count v within b there-seen span mode edge query t result facts

  pub seen-reply : {E : Type 0} (x : Result Reply E) → IfOk x (λ r. Some r ≡ region_told result) → IfOk x (λ r. r ≡ (within_limits s (weighed (region_made s b span mode edge query))).reply)
  seen-reply x told = if-ok (λ r. Some r ≡ region_told result) (λ r. r ≡ (within_limits s (weighed (region_made s b span mode edge query))).reply) x told
      (λ r is. subst (λ u. r ≡ (within_limits u (weighed (region_made u b span mode edge query))).reply) e (added-told v within b there-seen span mode edge query t result facts r is).0)

  pub seen-state : {E : Type 0} (x : Result Reply E) → IfOk x (λ r. Some r ≡ region_told result) → OnOk x (with_stock v t ≡ (within_limits s (weighed (region_made s b span mode edge query))).state)
  seen-state x told = on-ok (λ r. Some r ≡ region_told result) (with_stock v t ≡ (within_limits s (weighed (region_made s b span mode edge query))).state) x told
      (λ r is. subst (λ u. with_stock v t ≡ (within_limits u (weighed (region_made u b span mode edge query))).state) e (added-told v within b there-seen span mode edge query t result facts r is).1)

-- ---- a region less

module _ (v s : State) (e : v ≡ s) (within : IsWithin v) (b : ℕ) (there : b < count s) (region : ℕ) (t : Stock) (is : t ≡ stock.with_buffer v.stock b (without_region (buffer v b) region)) where
  gone-there : b < count v
  gone-there = subst (λ u. b < count u) (sym e) there

  pub gone-within : IsWithin (with_stock v t)
  gone-within = subst (λ u. IsWithin (with_stock v u)) (sym is) (region-taken v within b gone-there region).1

  pub gone-count : stock.count v.stock ≡ stock.count t
  gone-count = sym (length-set v.stock.buffers b (without_region (buffer v b) region)) ∙ ap stock.count (sym is)

  pub gone-whole : within_limits s (weighed (region_gone s b region)) ≡ region_gone s b region
  gone-whole = subst (λ u. within_limits u (weighed (region_gone u b region)) ≡ region_gone u b region) e (region-taken v within b gone-there region).0
