-- Refusals that come one after the other, and what calls hand on.
use Rattle.std.proofs.Common.{◌≡◌, Option, Some, None, refl, sym, subst, inr}
use Rattle.std.specs.Prelude.{Result, Ok, Err, IsErr, IsErrAnd}
use Rattle.ed_base.specs.declared.Refusal.{Refusal}
use Rattle.ed_base.specs.Numbers.{or_else}
use Rattle.ed_climb.specs.Refusals.{Refuses}
use Rattle.ed_climb.specs.declared.fault.PlanFault.{PlanFault}

pub refuses_first : (X Y : Type 0) (a b : Option Refusal) (e : PlanFault) → Refuses {X = X} a (Err e) → Refuses {X = Y} (or_else a b) (Err e)
refuses_first X Y (Some r) b e h = h
refuses_first X Y None None e h = h
refuses_first X Y None (Some r) e h = inr h

pub refused_none : (X : Type 0) (a : Option Refusal) (x : X) → Refuses a (Ok x) → a ≡ None
refused_none X (Some r) x h = absurd h
refused_none X None x h = refl

pub refuses_memory : (X : Type 0) (o : Option Refusal) → Refuses {X = X} o (Err PlanFault.OutOfMemory)
refuses_memory X None = refl
refuses_memory X (Some r) = inr refl

-- where neither refuses
pub both_none : (a b : Option Refusal) → or_else a b ≡ None → (a ≡ None) × (b ≡ None)
both_none None b h = (refl, h)
both_none (Some r) b h = absurd (let e : Some r ≡ None = h in cc)

pub passed_on : (X : Type 0) (o : Option Refusal) (result : Result X PlanFault) (e : PlanFault) → IsErr result × IsErrAnd result (λ f. f ≡ e) → Refuses {X = X} o (Err e) → Refuses o result
passed_on X o (Ok x) e h r = absurd h.1
passed_on X o (Err f) e h r = subst (λ g. Refuses {X = X} o (Err g)) (sym h.1) r
