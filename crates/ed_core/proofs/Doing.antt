-- What a command's function does, by how it returns.
use Rattle.std.proofs.Common.{◌≡◌, Result, Ok, Err, IfOk, OnOk, OnErr, refl, sym, ap, subst}
use Rattle.std.specs.Prelude.{IsErr}
use Rattle.ed_base.specs.declared.memory.OutOfMemory.{OutOfMemory}
use Rattle.ed_base.specs.declared.refusal.Refusal.{Refusal}
use Rattle.ed_entry.specs.declared.Reply.{Reply}
use Rattle.ed_risen.specs.Laws.{RecordsStay}
use Rattle.ed_machine.specs.Accepted.{Outcome, answers}
use Rattle.ed_machine.specs.State.{State}
use Rattle.ed_stock.specs.Stock.{Stock}
use Rattle.ed_core.specs.Doing.{Does}

pub stays : (s : Stock) → RecordsStay s s
stays s b v r is = (is, refl)

-- refused: nothing changes
pub refused_does : (o : Outcome) (s : State) (r : Refusal) → o ≡ answers s (Reply.Refused r) → Does o s s (Ok (Reply.Refused r))
refused_does o s r is = record {
  reply = ap (λ (x : Outcome). x.reply) (sym is);
  state = ap (λ (x : Outcome). x.state) (sym is);
  err = tt;
  stay = stays s.stock;
}

-- want of memory: nothing changes
pub failed_does : (o : Outcome) (s : State) (result : Result Reply OutOfMemory) → IsErr result → Does o s s result
failed_does o s (Ok r) failed = absurd (cc)
failed_does o s (Err e) failed = record { reply = tt; state = tt; err = refl; stay = stays s.stock }

-- done by a call that says the same of another outcome
pub does_as : (o o' : Outcome) (old new : State) (result : Result Reply OutOfMemory) → o' ≡ o → IfOk result (λ r. r ≡ o'.reply) → OnOk result (new ≡ o'.state) → OnErr result (new ≡ old) → RecordsStay old.stock new.stock → Does o old new result
does_as o o' old new result same reply state err stay = record {
  reply = subst (λ (x : Outcome). IfOk result (λ r. r ≡ x.reply)) same reply;
  state = subst (λ (x : Outcome). OnOk result (new ≡ x.state)) same state;
  err = err;
  stay = stay;
}
