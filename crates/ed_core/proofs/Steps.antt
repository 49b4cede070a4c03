-- What a command leaves that isn't refused before it is done.
use Rattle.std.proofs.Common.{◌≡◌, ◌≢◌, ℕ, ◌<◌, ◌≤◌, ◌^◌, true, List, ◌++◌, length, Option, Some, None, refl, sym, ◌∙◌, ap, subst, arith, add-zero, unwrap_or, slice_get, set, get_or-set_other, get_or-set_same, length-set}
use Rattle.std.proofs.lemmas.Option.{unwrap_or-slice_get}
use Rattle.ed_base.specs.declared.refusal.Refusal.{Refusal}
use Rattle.ed_base.specs.declared.refusal.Which.{Which}
use Rattle.ed_base.specs.Denial.{Region}
use Rattle.ed_base.specs.Numbers.{first_some, or_else, is_among}
use Rattle.ed_stock.specs.Limits.{over, stock_limits}
use Rattle.ed_entry.specs.declared.Reply.{Reply}
use Rattle.ed_machine.specs.State.{State, buffer, count, graph_order, with_stock}
use Rattle.ed_machine.specs.Answers.{weight}
use Rattle.ed_machine.specs.Accepted.{Outcome, answers}
use Rattle.ed_machine.specs.Limits.{limit_fault}
use Rattle.ed_machine.specs.Step.{within_limits, weighed, with_weight, or_refused}
use Rattle.ed_core.specs.Within.{IsWithin, HasFewRegions}
use Rattle.ed_core.proofs.Firsts.{first_some-append, some_over-none, some_over-one}
use Rattle.ed_core.proofs.Orders.{among-order}
use Rattle.ed_core.proofs.Limits.{limit-answers, limit-split, limit-of, live_over, given_over, over-none}
use Rattle.ed_core.proofs.Regions.{after, changed, same-limits}
use Rattle.ed_core.proofs.Few.{few-after}
use Rattle.ed_core.proofs.Lists.{at-set}

-- ---- a reply without weight

pub unweighed : (o : Outcome) → weight o.reply ≡ 0 → weighed o ≡ o
unweighed o light = ap (λ n. record { state = with_weight o.state n; reply = o.reply }) light ∙ ap (λ n. record { state = record o.state { answered = n }; reply = o.reply }) (add-zero o.state.answered)

-- the stock passes no limit, or it does
pub light-none : (s : State) (o : Outcome) → weight o.reply ≡ 0 → HasFewRegions o.state.stock → o.state.answered ≤ 2 ^ 25 → first_some (stock_limits o.state.stock) ≡ None → within_limits s (weighed o) ≡ o
light-none s o light few answered none =
    ap (within_limits s) (unweighed o light)
    ∙ ap (λ r. or_refused s r o) (limit-answers o.state few none ∙ over-none Which.Answers (2 ^ 25) o.state.answered answered)

pub light-some : (s : State) (o : Outcome) (r : Refusal) → weight o.reply ≡ 0 → HasFewRegions o.state.stock → first_some (stock_limits o.state.stock) ≡ Some r → within_limits s (weighed o) ≡ answers s (Reply.Refused r)
light-some s o r light few some =
    ap (within_limits s) (unweighed o light)
    ∙ ap (λ f. or_refused s f o) (limit-split o.state few ∙ ap (λ f. or_else f (over Which.Answers (2 ^ 25) o.state.answered)) some)

-- ---- regions

at-place : {X : Type 0} (xs : List X) (i : ℕ) (y d : X) → i < length xs → unwrap_or (slice_get (set xs i y) i) d ≡ y
at-place xs i y d within = unwrap_or-slice_get (set xs i y) i d ∙ get_or-set_same xs i y d within

at-other : {X : Type 0} (xs : List X) (i c : ℕ) (y d : X) → c ≢ i → unwrap_or (slice_get (set xs i y) c) d ≡ unwrap_or (slice_get xs c) d
at-other xs i c y d other = unwrap_or-slice_get (set xs i y) c d ∙ (get_or-set_other xs i c y d other ∙ sym (unwrap_or-slice_get xs c d))

first-of : {X : Type 0} (xs ys : List (Option X)) (x : X) → first_some xs ≡ None → first_some ys ≡ Some x → first_some (xs ++ ys) ≡ Some x
first-of xs ys x none some = first_some-append xs ys ∙ (ap (λ o. or_else o (first_some ys)) none ∙ some)

module _ (s : State) (within : IsWithin s) (b : ℕ) (there : b < count s) (rs : List Region) (n : ℕ) where
  abbrev pub with_regions : State
  with_regions = with_stock s (after s.stock b rs n)

  stock-none : first_some (stock_limits (after s.stock b rs n)) ≡ None
  stock-none = ap first_some (same-limits s.stock b rs n) ∙ within.stock

  regions-there : buffer with_regions b ≡ changed s.stock b rs n
  regions-there = at-place s.stock.buffers b (changed s.stock b rs n) _ there

  regions-other : (c : ℕ) → c ≢ b → buffer with_regions c ≡ buffer s c
  regions-other c other = at-other s.stock.buffers b c (changed s.stock b rs n) _ other

  in-order : is_among b (graph_order with_regions) ≡ true
  in-order = among-order _ (count with_regions) b (subst (λ k. b < k) (sym (length-set s.stock.buffers b (changed s.stock b rs n))) there)

  live-there : length (buffer with_regions b).regions ≡ length rs
  live-there = ap (λ x. length x.regions) regions-there

  given-there : (buffer with_regions b).regions_given ≡ n
  given-there = ap (λ x. x.regions_given) regions-there

  -- so many regions that live are too many
  pub too-many-live : 1024 < length rs → limit_fault with_regions ≡ Some (Refusal.Limit Which.Regions (length rs))
  too-many-live many =
      let found : live_over with_regions ≡ Some (Refusal.Limit Which.Regions (length (buffer with_regions b).regions)) =
      some_over-one Which.Regions 1024 (λ c. length (buffer with_regions c).regions) b (omega (arith, live-there)) (λ c other. subst (λ k. k ≤ 1024) (ap (λ x. length x.regions) (sym (regions-other c other))) (within.regions.live c)) (graph_order with_regions) in-order in
      limit-of with_regions ∙ rw (stock-none, found, live-there) refl

  -- else so many numbers are too many
  pub too-many-given : length rs ≤ 1024 → 2 ^ 20 < n → limit_fault with_regions ≡ Some (Refusal.Limit Which.Regions n)
  too-many-given live many =
      let few : (c : ℕ) → length (buffer with_regions c).regions ≤ 1024 = at-set (λ k x. length x.regions ≤ 1024) s.stock.buffers b (changed s.stock b rs n) _ live within.regions.live in
      let none : live_over with_regions ≡ None = some_over-none Which.Regions 1024 (λ c. length (buffer with_regions c).regions) few (graph_order with_regions) in
      let found : given_over with_regions ≡ Some (Refusal.Limit Which.Regions (buffer with_regions b).regions_given) =
      some_over-one Which.Regions (2 ^ 20) (λ c. (buffer with_regions c).regions_given) b (omega (arith, given-there)) (λ c other. subst (λ k. k ≤ 2 ^ 20) (ap (λ x. x.regions_given) (sym (regions-other c other))) (within.regions.given c)) (graph_order with_regions) in-order in
      limit-of with_regions ∙ rw (stock-none, none, found, given-there) refl

  -- else the regions pass no limit
  pub regions-within : length rs ≤ 1024 → n ≤ 2 ^ 20 → IsWithin with_regions
  regions-within live given = record { stock = stock-none; regions = few-after s.stock b rs n within.regions live given; answered = within.answered }
