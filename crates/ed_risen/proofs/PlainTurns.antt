-- Trails stay away where there are none at the start.
use Rattle.std.proofs.Common.{◌≡◌, ℕ, Bool, true, false, List, [], ◌∷◌, ◌++◌, length, map, fold, Option, Some, None, refl, sym, ◌∙◌, ap, subst}
use Rattle.std.specs.Prelude.{nat_eq, if◌then◌else◌}
use Rattle.ed_base.specs.Numbers.{places}
use Rattle.ed_base.specs.Step.{Step}
use Rattle.ed_layers.specs.Records.{Record, is_elision}
use Rattle.ed_layers.specs.SourceStep.{SourceStep}
use Rattle.ed_layers.specs.CarrierStep.{all_stay, carrier_step, record_trails, slots}
use Rattle.ed_stock.specs.Stock.{record_now}
use Rattle.ed_stock.specs.Versions.{Rising, is_moved, next_record, none_given, risen_at, step_in, with_record}
use Rattle.ed_risen.specs.Rising.{plain}
use Rattle.ed_risen.proofs.Lengths.{ArePlain, plain_trails, step_in_old, step_in_push}

pub plain_push : (ms : List (ℕ × SourceStep)) (b : ℕ) (x : SourceStep) → ArePlain (step_in ms) → x ≡ plain x.step → ArePlain (step_in (ms ++ (b, x) ∷ []))
plain_push ms b x all is c m found = by (step_in ms c) refl
  where
    either : (t : Bool) → nat_eq b c ≡ t → (if t then Some x else None) ≡ Some m → m ≡ plain m.step
    either true t h = let e : x ≡ m = cc in subst (λ z. z ≡ plain z.step) e is
    either false t h = absurd (let e : None ≡ Some m = h in cc)

    by : (o : Option SourceStep) → step_in ms c ≡ o → m ≡ plain m.step
    by (Some y) was = all c m (was ∙ sym (step_in_old ms b c x y was) ∙ found)
    by None was = either (nat_eq b c) refl (sym (step_in_push ms b c x was) ∙ found)

plain_is : (s : Step) (ts : List (List (ℕ × ℕ))) → ts ≡ map (λ q. []) (places s.new_len) → record { step = s; trails = ts } ≡ plain s
plain_is s ts e = ap (λ (us : List (List (ℕ × ℕ))). record { step = s; trails = us }) e

-- a carrier with a new record
pub plain_record : (r : Rising) (b : ℕ) (stays : ℕ → Option ℕ) (new : Record) → ArePlain (step_in r.moves) → ArePlain (step_in (with_record r b stays new).moves)
unfolding with_record carrier_step
plain_record r b stays new all =
    plain_push r.moves b (record { step = carrier_step stays (step_in r.moves) (record_now r.stock b) new; trails = record_trails b (is_elision new) (step_in r.moves) new }) all
    (plain_is (carrier_step stays (step_in r.moves) (record_now r.stock b) new) (record_trails b (is_elision new) (step_in r.moves) new) (plain_trails b (step_in r.moves) all (is_elision new) new (length (slots new)) refl))

-- one turn
pub plain_rises : (r : Rising) (b : ℕ) → ArePlain (step_in r.moves) → ArePlain (step_in (risen_at none_given r b).moves)
plain_rises r b all = by (is_moved r b) refl
  where
    by : (t : Bool) → is_moved r b ≡ t → ArePlain (step_in (risen_at none_given r b).moves)
    by true t = subst (λ (u : Rising). ArePlain (step_in u.moves)) (sym (let e : risen_at none_given r b ≡ with_record r b all_stay (next_record r.stock b (step_in r.moves) None (record_now r.stock b)) = rw t refl in e))
        (plain_record r b all_stay (next_record r.stock b (step_in r.moves) None (record_now r.stock b)) all)
    by false t = subst (λ (u : Rising). ArePlain (step_in u.moves)) (sym (let e : risen_at none_given r b ≡ r = rw t refl in e)) all

-- all turns
pub plain_turns : (bs : List ℕ) (r : Rising) → ArePlain (step_in r.moves) → ArePlain (step_in (fold (risen_at none_given) r bs).moves)
plain_turns [] r all = all
plain_turns (b ∷ bs) r all = plain_turns bs (risen_at none_given r b) (plain_rises r b all)
