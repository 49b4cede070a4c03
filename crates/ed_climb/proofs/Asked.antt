-- What is told of a stock is so of its buffers.
use Rattle.std.proofs.Common.{◌≡◌, ℕ, zero, suc, ◌<◌, ◌≤◌, ◌^◌, inl, inr, List, [], ◌∷◌, length, map, Option, Some, None, refl, sym, ap, ◌∙◌, subst, arith}
use Rattle.std.specs.Prelude.{slice_get, slice_index_or, sum_by, unwrap_or, if◌then◌else◌}
use Rattle.std.proofs.lemmas.Bool.{cases_lt, lt-ltb}
use Rattle.std.proofs.lemmas.List.{length-map}
use Rattle.std.proofs.lemmas.List.Sums.{sum_by-cons}
use Rattle.std.proofs.lemmas.Option.{slice_get_within}
use Rattle.ed_base.specs.declared.refusal.Refusal.{Refusal}
use Rattle.ed_base.specs.declared.refusal.Which.{Which}
use Rattle.ed_base.specs.Numbers.{first_some, or_else}
use Rattle.ed_layers.specs.Records.{members_of}
use Rattle.ed_stock.specs.Limits.{inserted, over, placements, some_over, stock_limits, versions}
use Rattle.ed_stock.specs.Stock.{Stock, buffer, count, graph_order, record_now, text_at, text_now}
use Rattle.ed_climb.specs.declared.counts.Counts.{Counts}
use Rattle.ed_held.specs.declared.held.Held.{Held}
use Rattle.ed_climb.specs.Kept.{IsKept}
use Rattle.ed_held.specs.Seen.{known, stock, text_of}
use Rattle.ed_climb.proofs.Advanced.{element}
use Rattle.ed_risen.proofs.Growth.{missing}
use Rattle.ed_risen.proofs.Lists.{get_map}

-- ---- within the limits

neither : {X : Type 0} (a b : Option X) → or_else a b ≡ None → (a ≡ None) × (b ≡ None)
neither None b h = (refl, h)
neither (Some x) b h = absurd (cc)

not_over : (which : Which) (most n : ℕ) → over which most n ≡ None → n ≤ most
not_over which most n h = elim (cases_lt most n) [
  | inl l ↦ absurd (let e : over which most n ≡ Some (Refusal.Limit which n) = ap (λ t. if t then Some (Refusal.Limit which n) else None) (lt-ltb most n l) in cc)
  | inr le ↦ le
]

fourth : {X : Type 0} (a b c d : Option X) (rest : List (Option X)) → first_some (a ∷ b ∷ c ∷ d ∷ rest) ≡ None → d ≡ None
fourth a b c d rest h =
    let behind_a : first_some (b ∷ c ∷ d ∷ rest) ≡ None = (neither a (first_some (b ∷ c ∷ d ∷ rest)) h).1 in
    let behind_b : first_some (c ∷ d ∷ rest) ≡ None = (neither b (first_some (c ∷ d ∷ rest)) behind_a).1 in
    let behind_c : first_some (d ∷ rest) ≡ None = (neither c (first_some (d ∷ rest)) behind_b).1 in
    (neither d (first_some rest) behind_c).0

few_versions : (s : Stock) → first_some (stock_limits s) ≡ None → versions s ≤ s.most_versions
few_versions s h =
    not_over Which.Versions s.most_versions (versions s)
    (fourth (over Which.Buffers s.most_buffers (count s)) (some_over Which.Units (2 ^ 22) (map (λ b. length (text_now s b)) (graph_order s))) (over Which.Inserted (2 ^ 27) (inserted s)) (over Which.Versions s.most_versions (versions s))
    (some_over Which.Members 1024 (map (λ b. length (members_of (record_now s b))) (graph_order s)) ∷ over Which.Placements (2 ^ 26) (placements s) ∷ []) h)

part_of_sum : {X : Type 0} (f : X → ℕ) (xs : List X) (b : ℕ) (x : X) → slice_get xs b ≡ Some x → f x ≤ sum_by f xs
part_of_sum f [] b x h = absurd (cc)
part_of_sum f (y ∷ ys) zero x h = let e : y ≡ x = cc in subst (λ z. f z ≤ sum_by f (y ∷ ys)) e (omega (arith, sum_by-cons f y ys))
part_of_sum f (y ∷ ys) (suc b) x h = omega (arith, part_of_sum f ys b x h, sum_by-cons f y ys)

-- ---- a buffer that is held

get_some : {X : Type 0} (xs : List X) (v : ℕ) (d : X) → v < length xs → slice_get xs v ≡ Some (unwrap_or (slice_get xs v) d)
get_some [] v d h = absurd (omega arith)
get_some (x ∷ xs) zero d h = refl
get_some (x ∷ xs) (suc v) d h = get_some xs v d (omega arith)

pub got : (bs hs : List Held) (b i : ℕ) (h : Held) → bs ≡ hs → i ≡ b → b < count (stock hs) → h ≡ slice_index_or bs i h → slice_get hs b ≡ Some h
got bs hs b i h same index there is =
    let below : b < length hs = omega (arith, there, length-map (map known hs) (λ k. k.buffer), length-map hs known) in
    let e : (slice_get hs b ≡ Some (slice_index_or hs i h)) × (h ≡ slice_index_or hs i h) = element hs b i h h index below (is ∙ ap (λ xs. slice_index_or xs i h) same) in
    e.0 ∙ ap Some (sym e.1)

module _ (hs : List Held) (graph : List (List ℕ)) (counts : Counts) (kept : IsKept (map known hs) graph counts) (b : ℕ) (h : Held) (is : slice_get hs b ≡ Some h) where
  known_is : slice_get (map known hs) b ≡ Some (known h)
  known_is = get_map known hs b h is

  buffer_there : slice_get (stock hs).buffers b ≡ Some (known h).buffer
  buffer_there = get_map (λ k. k.buffer) (map known hs) b (known h) known_is

  pub held_is : (known h).buffer ≡ buffer (stock hs) b
  held_is = sym (ap (λ o. unwrap_or o missing) buffer_there)

  pub held_number : (known h).number ≡ b
  held_number = kept.numbered b (known h) known_is

  pub held_some : 0 < length (known h).buffer.records
  held_some = subst (λ x. 0 < length x.records) (sym held_is) (kept.settled.some b (slice_get_within (stock hs).buffers b (known h).buffer buffer_there))

  pub held_few : length (known h).buffer.records ≤ 2 ^ 18
  held_few = omega (arith, few_versions (stock hs) kept.within, part_of_sum (λ x. length x.records) (stock hs).buffers b (known h).buffer buffer_there)

  pub held_texts : (v : ℕ) → v < length (known h).texts → text_of (known h) v ≡ text_at (stock hs) b v
  held_texts v below = sym (kept.texts b v (known h) (text_of (known h) v) known_is (get_some (known h).texts v [] below))

-- ---- current records

-- ---- numbers that are repeated

-- a buffer that is there is held
pub held_there : (hs : List Held) (b : ℕ) → b < length hs → (h : Held) × (slice_get hs b ≡ Some h)
held_there [] b l = absurd (omega arith)
held_there (h ∷ hs) zero l = (h, refl)
held_there (h ∷ hs) (suc b) l = held_there hs b (omega arith)

pub held_at : (hs : List Held) (b : ℕ) → b < count (stock hs) → (h : Held) × (slice_get hs b ≡ Some h)
held_at hs b there = held_there hs b (subst (λ n. b < n) (length-map (map known hs) _ ∙ length-map hs known) there)
