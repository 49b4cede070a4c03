-- Answers of a carrier, as they are told.
use Rattle.std.proofs.Common.{◌≡◌, ℕ, Option, Some, None, Result, Ok, Err, ◌⊎◌, inl, inr, refl, sym, ap, subst}
use Rattle.std.specs.Prelude.{IfErr, IsErrAnd, MatchOption}
use Rattle.ed_base.specs.declared.Refusal.{Refusal}
use Rattle.ed_resolve.specs.Faults.{refusal_of}
use Rattle.ed_resolve.specs.declared.fault.SendFault.{SendFault}
use Rattle.ed_descent.specs.Refusals.{Refuses, told}
use Rattle.ed_descent.specs.declared.fault.DescentFault.{DescentFault}

-- what an answer of a carrier says
abbrev pub Says : {X : Type 0} → ℕ → Option Refusal → Result X SendFault → Type 0
Says b o result = MatchOption o (IfErr result (λ e. e ≡ SendFault.OutOfMemory)) (λ r. IsErrAnd result (λ e. (e ≡ SendFault.OutOfMemory) ⊎ (refusal_of b e ≡ Some r)))

pub told_ok : {X Y : Type 0} (b : ℕ) (o : Option Refusal) (x : X) (y : Y) → Says b o (Ok x) → Refuses o (Ok y)
told_ok b None x y says = tt
told_ok b (Some r) x y says = says

pub told_err : (X Y : Type 0) (b : ℕ) (o : Option Refusal) (e : SendFault) → Says {X = X} b o (Err e) → Refuses {X = Y} o (Err (told b e))
told_err X Y b None e says = ap (told b) says
told_err X Y b (Some r) (SendFault.Literal span) (inl memory) = absurd (cc)
told_err X Y b (Some r) (SendFault.NoPlace gap) (inl memory) = absurd (cc)
told_err X Y b (Some r) SendFault.OutOfMemory says = inr refl
told_err X Y b (Some r) (SendFault.Literal span) (inr same) = inl (let e : Refusal.Literal b span ≡ r = cc in ap DescentFault.Refused e)
told_err X Y b (Some r) (SendFault.NoPlace gap) (inr same) = inl (let e : Refusal.NoPlace b gap ≡ r = cc in ap DescentFault.Refused e)

-- want of memory is free
pub memory_free : (X : Type 0) (o : Option Refusal) → Refuses {X = X} o (Err DescentFault.OutOfMemory)
memory_free X None = refl
memory_free X (Some r) = inr refl

-- an answer that is no refusal, of a part, says nothing of the whole
pub none_of : {X : Type 0} (o : Option Refusal) (x : X) → Refuses o (Ok x) → o ≡ None
none_of None x h = refl
none_of (Some r) x h = absurd h

-- a fault of a part is the fault of the whole, where the refusals are
pub whole_of : (X Y : Type 0) (o whole : Option Refusal) (e : DescentFault) → ((r : Refusal) → o ≡ Some r → whole ≡ Some r) → Refuses {X = X} o (Err e) → Refuses {X = Y} whole (Err e)
whole_of X Y None whole e same h = subst (λ f. Refuses {X = Y} whole (Err f)) (sym h) (memory_free Y whole)
whole_of X Y (Some r) whole e same h = subst (λ o. Refuses {X = Y} o (Err e)) (sym (same r refl)) h
