-- What a command's function does.
use Rattle.std.specs.Prelude.{◌≡◌, Result, IfOk, OnOk, OnErr}
use Rattle.ed_base.specs.declared.OutOfMemory.{OutOfMemory}
use Rattle.ed_entry.specs.declared.Reply.{Reply}
use Rattle.ed_risen.specs.Laws.{RecordsStay}
use Rattle.ed_machine.specs.Accepted.{Outcome}
use Rattle.ed_machine.specs.State.{State}

-- It answers and leaves what the outcome says, or wants memory and leaves all as it was; each record that was there stays.
pub record Does (o : Outcome) (old new : State) (result : Result Reply OutOfMemory) : Type 0 where
  pub reply : IfOk result (λ r. r ≡ o.reply)
  pub state : OnOk result (new ≡ o.state)
  pub err : OnErr result (new ≡ old)
  pub stay : RecordsStay old.stock new.stock
