-- What an answer of the stock leaves, and the reply that it gives.
use Rattle.std.proofs.Common.{◌≡◌, ℕ, ◌+◌, ◌++◌, List, [], ◌∷◌, Result, Ok, Err, IfOk, OnOk, OnErr, length, take, Option, Some, None, refl, sym, ◌∙◌, ap, subst, inl, inr, length-append}
use Rattle.std.proofs.lemmas.Option.{none-some}
use Rattle.std.proofs.Math.Seq.{take-append_seam}
use Rattle.ed_base.specs.declared.refusal.Refusal.{Refusal}
use Rattle.ed_base.specs.Numbers.{first_some}
use Rattle.ed_layers.specs.Records.{Record}
use Rattle.ed_stock.specs.Limits.{stock_limits}
use Rattle.ed_stock.specs.Making.{with_new}
use Rattle.ed_stock.specs.Stock as stock
use Rattle.ed_stock.specs.Stock.{Stock}
use Rattle.ed_stock.specs.Versions.{Rising, versions_made}
use Rattle.ed_climb.specs.declared.fault.PlanFault.{PlanFault}
use Rattle.ed_climb.specs.Refusals.{Refuses}
use Rattle.ed_climb.specs.Group.{Plan, outcome}
use Rattle.ed_entry.specs.declared.Reply.{Reply}
use Rattle.ed_machine.specs.State.{State, count, with_stock}
use Rattle.ed_machine.specs.Accepted.{Outcome, made, edited_to}
use Rattle.ed_machine.specs.Step.{or_refused}
use Rattle.ed_core.specs.Deciding.{told, buffer_told, group_told, edited}
use Rattle.ed_core.specs.Within.{IsWithin}
use Rattle.ed_core.proofs.Few.{few-new, few-kept}
use Rattle.ed_core.specs.Keeping.{Keeps}

some-inj : {X : Type 0} {x y : X} → Some x ≡ Some y → x ≡ y
some-inj e = cc

pub none-refused : {X : Type 0} (f : Option Refusal) (x : X) → Refuses f (Ok x) → f ≡ None
none-refused None x h = refl
none-refused (Some r) x h = absurd h

refused-as : (X : Type 0) (f : Option Refusal) (r : Refusal) → Refuses {X = X} f (Err (PlanFault.Refused r)) → f ≡ Some r
refused-as X None r h = absurd (let e : PlanFault.Refused r ≡ PlanFault.OutOfMemory = h in cc)
refused-as X (Some q) r (inl e) = cc
refused-as X (Some q) r (inr e) = absurd (cc)

-- what the stock answered, and the state that it left
pub record Settled {X : Type 0} (as_reply : X → Reply) (s : State) (f : Option Refusal) (o : Outcome) (t : State) (x : Result X PlanFault) : Type 0 where
  pub fault : Refuses f x
  pub reply : IfOk x (λ y. as_reply y ≡ o.reply)
  pub ok : OnOk x (t ≡ o.state)
  pub err : OnErr x (t ≡ s)

module _ {X : Type 0} (reply : X → Reply) (s : State) (f : Option Refusal) (o : Outcome) (t : State) where
  settled : (x : Result X PlanFault) → Settled reply s f o t x → (r : Reply) → Some r ≡ told reply x → (r ≡ (or_refused s f o).reply) × (t ≡ (or_refused s f o).state)
  settled (Ok y) h r e =
      let none : f ≡ None = none-refused f y h.fault in
      rw none (some-inj e ∙ h.reply, h.ok)
  settled (Err (PlanFault.Refused q)) h r e =
      let some : f ≡ Some q = refused-as X f q h.fault in
      rw some (some-inj e, h.err)
  settled (Err PlanFault.OutOfMemory) h r e = absurd (none-some r (sym e))

  pub settled-none : (x : Result X PlanFault) → Settled reply s f o t x → told reply x ≡ None → t ≡ s
  settled-none (Ok y) h e = absurd (cc)
  settled-none (Err q) h e = h.err

  pub settled-within : (x : Result X PlanFault) → Settled reply s f o t x → IsWithin s → (f ≡ None → IsWithin o.state) → IsWithin t
  settled-within (Ok y) h within new = subst IsWithin (sym h.ok) (new (none-refused f y h.fault))
  settled-within (Err q) h within new = subst IsWithin (sym h.err) within

  pub settled-reply : {E : Type 0} (final : Result Reply E) (x : Result X PlanFault) → Settled reply s f o t x → IfOk final (λ r. Some r ≡ told reply x) → IfOk final (λ r. r ≡ (or_refused s f o).reply)
  settled-reply (Ok r) x h e = (settled x h r e).0
  settled-reply (Err q) x h e = e

  pub settled-state : {E : Type 0} (final : Result Reply E) (x : Result X PlanFault) → Settled reply s f o t x → IfOk final (λ r. Some r ≡ told reply x) → OnOk final (t ≡ (or_refused s f o).state)
  settled-state (Ok r) x h e = (settled x h r e).1
  settled-state (Err q) x h e = e

  pub settled-err : {E : Type 0} (final : Result Reply E) (x : Result X PlanFault) → Settled reply s f o t x → OnErr final (told reply x ≡ None) → OnErr final (t ≡ s)
  settled-err (Ok r) x h e = e
  settled-err (Err q) x h e = settled-none x h e

-- ---- of a state that is seen in another way

-- a new buffer, whose name was put behind the others before
module _ (v s : State) (e : v ≡ s) (within : IsWithin v) (named : length v.names ≡ count v) (name : List ℕ) (r : State → Record) (resolver : Option (List ℕ)) (f : State → Option Refusal) (t : Stock) (ns ms : List (List ℕ)) (x : Result ℕ PlanFault)
    (passes : f v ≡ None → first_some (stock_limits (with_new v.stock (r v) resolver)) ≡ None)
    (fault : Refuses (f v) x) (number : IfOk x (λ b. b ≡ count v)) (ok : OnOk x (t ≡ with_new v.stock (r v) resolver)) (err : OnErr x (t ≡ v.stock))
    (more : ns ≡ v.names ++ name ∷ []) (n : ℕ) (were : n ≡ length v.names) (kept : OnOk x (ms ≡ ns)) (gone : OnErr x (ms ≡ take n ns)) where
  abbrev new : State → Outcome
  new u = made u name (r u) resolver

  abbrev after : State
  after = record { stock = t; names = ms; answered = v.answered }

  first-part : take n (v.names ++ name ∷ []) ≡ v.names
  first-part = ap (λ k. take k (v.names ++ name ∷ [])) were ∙ take-append_seam v.names (name ∷ [])

  by_answer : (y : Result ℕ PlanFault) → Refuses (f v) y → IfOk y (λ b. b ≡ count v) → OnOk y (t ≡ with_new v.stock (r v) resolver) → OnErr y (t ≡ v.stock) → OnOk y (ms ≡ ns) → OnErr y (ms ≡ take n ns) → Settled Reply.Made v (f v) (new v) after y
  by_answer (Ok b) h is made none keeps none' = record {
    fault = h;
    reply = ap Reply.Made is;
    ok = λ i. record { stock = made i; names = (keeps ∙ more) i; answered = v.answered };
    err = tt;
  }
  by_answer (Err q) h is made none keeps none' = record {
    fault = h;
    reply = tt;
    ok = tt;
    err = λ i. record { stock = none i; names = (none' ∙ (ap (take n) more ∙ first-part)) i; answered = v.answered };
  }

  answered : Settled Reply.Made v (f v) (new v) after x
  answered = by_answer x fault number ok err kept gone

  new-within : f v ≡ None → IsWithin (new v).state
  new-within none = record { stock = passes none; regions = few-new v.stock (r v) resolver within.regions; answered = within.answered }

  pub added-within : IsWithin after
  added-within = settled-within Reply.Made v (f v) (new v) after x answered within new-within

  counted : (y : Result ℕ PlanFault) → OnOk y (t ≡ with_new v.stock (r v) resolver) → OnErr y (t ≡ v.stock) → OnOk y (ms ≡ ns) → OnErr y (ms ≡ take n ns) → length ms ≡ stock.count t
  counted (Ok b) made none keeps none' = ap length (keeps ∙ more) ∙ (length-append v.names (name ∷ []) ∙ (ap (λ n. n + 1) named ∙ (sym (length-append v.stock.buffers _) ∙ ap stock.count (sym made))))
  counted (Err q) made none keeps none' = ap length (none' ∙ (ap (take n) more ∙ first-part)) ∙ (named ∙ ap stock.count (sym none))

  pub added-count : length ms ≡ stock.count t
  added-count = counted x ok err kept gone

  pub added-reply : {E : Type 0} (final : Result Reply E) → IfOk final (λ a. Some a ≡ buffer_told x) → IfOk final (λ a. a ≡ (or_refused s (f s) (made s name (r s) resolver)).reply)
  added-reply final told = subst (λ (u : State). IfOk final (λ a. a ≡ (or_refused u (f u) (made u name (r u) resolver)).reply)) e (settled-reply Reply.Made v (f v) (new v) after final x answered told)

  pub added-state : {E : Type 0} (final : Result Reply E) → IfOk final (λ a. Some a ≡ buffer_told x) → OnOk final (after ≡ (or_refused s (f s) (made s name (r s) resolver)).state)
  added-state final told = subst (λ (u : State). OnOk final (after ≡ (or_refused u (f u) (made u name (r u) resolver)).state)) e (settled-state Reply.Made v (f v) (new v) after final x answered told)

  pub added-err : {E : Type 0} (final : Result Reply E) → OnErr final (buffer_told x ≡ None) → OnErr final (after ≡ s)
  added-err final none = subst (λ (u : State). OnErr final (after ≡ u)) e (settled-err Reply.Made v (f v) (new v) after final x answered none)

-- new versions
module _ (v s : State) (e : v ≡ s) (within : IsWithin v) (r : State → Rising) (f : State → Option Refusal) (t : Stock) (x : Result Plan PlanFault)
    (keeps : Keeps v.stock (r v).stock) (passes : f v ≡ None → first_some (stock_limits (r v).stock) ≡ None)
    (u : Stock) (stays : u ≡ v.stock) (fault : Refuses (f v) x) (versions : IfOk x (λ g. g.versions ≡ versions_made (r v))) (leaves : IfOk x (λ g. outcome v.stock g ≡ (r v).stock))
    (makes : IfOk x (λ g. t ≡ outcome u g)) (leaves_same : OnErr x (t ≡ u)) where
  as-planned : (y : Result Plan PlanFault) → IfOk y (λ g. outcome v.stock g ≡ (r v).stock) → IfOk y (λ g. t ≡ outcome u g) → IfOk y (λ g. t ≡ (r v).stock)
  as-planned (Ok g) is made = made ∙ (ap (λ (w : Stock). outcome w g) stays ∙ is)
  as-planned (Err q) is made = tt

  as-before : (y : Result Plan PlanFault) → OnErr y (t ≡ u) → OnErr y (t ≡ v.stock)
  as-before (Ok g) same = tt
  as-before (Err q) same = same ∙ stays

  ok : IfOk x (λ g. t ≡ (r v).stock)
  ok = as-planned x leaves makes

  err : OnErr x (t ≡ v.stock)
  err = as-before x leaves_same

  abbrev left : State
  left = record { stock = t; names = v.names; answered = v.answered }

  by_plan : (y : Result Plan PlanFault) → Refuses (f v) y → IfOk y (λ g. g.versions ≡ versions_made (r v)) → IfOk y (λ g. t ≡ (r v).stock) → OnErr y (t ≡ v.stock) → Settled edited v (f v) (edited_to v (r v)) left y
  by_plan (Ok g) h are made none = record { fault = h; reply = ap Reply.Edited are; ok = ap (with_stock v) made; err = tt }
  by_plan (Err q) h are made none = record { fault = h; reply = tt; ok = tt; err = ap (with_stock v) none }

  planned : Settled edited v (f v) (edited_to v (r v)) left x
  planned = by_plan x fault versions ok err

  pub landed-within : IsWithin left
  landed-within = settled-within edited v (f v) (edited_to v (r v)) left x planned within (λ none. record { stock = passes none; regions = few-kept v.stock (r v).stock keeps within.regions; answered = within.answered })

  kept-count : (y : Result Plan PlanFault) → IfOk y (λ g. t ≡ (r v).stock) → OnErr y (t ≡ v.stock) → stock.count v.stock ≡ stock.count t
  kept-count (Ok g) made none = sym keeps.count ∙ ap stock.count (sym made)
  kept-count (Err q) made none = ap stock.count (sym none)

  pub landed-count : stock.count v.stock ≡ stock.count t
  landed-count = kept-count x ok err

  pub landed-reply : {E : Type 0} (final : Result Reply E) → IfOk final (λ a. Some a ≡ group_told x) → IfOk final (λ a. a ≡ (or_refused s (f s) (edited_to s (r s))).reply)
  landed-reply final told = subst (λ (u : State). IfOk final (λ a. a ≡ (or_refused u (f u) (edited_to u (r u))).reply)) e (settled-reply edited v (f v) (edited_to v (r v)) left final x planned told)

  pub landed-state : {E : Type 0} (final : Result Reply E) → IfOk final (λ a. Some a ≡ group_told x) → OnOk final (left ≡ (or_refused s (f s) (edited_to s (r s))).state)
  landed-state final told = subst (λ (u : State). OnOk final (left ≡ (or_refused u (f u) (edited_to u (r u))).state)) e (settled-state edited v (f v) (edited_to v (r v)) left final x planned told)

  pub landed-err : {E : Type 0} (final : Result Reply E) → OnErr final (group_told x ≡ None) → OnErr final (left ≡ s)
  landed-err final none = subst (λ (u : State). OnErr final (left ≡ u)) e (settled-err edited v (f v) (edited_to v (r v)) left final x planned none)
