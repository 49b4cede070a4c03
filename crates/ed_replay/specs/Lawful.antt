-- What is so of every state of a history.
use Rattle.std.specs.Prelude.{List, [], ◌∷◌}
use Rattle.ed_base.specs.Hooks.{HookTable}
use Rattle.ed_entry.specs.declared.Entry.{Entry}
use Rattle.ed_risen.specs.Laws.{CurrentVector, OneVector, RecordsStay}
use Rattle.ed_machine.specs.State.{State, empty_state}
use Rattle.ed_machine.specs.Step.{step}

-- Of a state and of the one that a step leaves: each version there stands on one version of each buffer, by whatever path, and a current one on current ones alone; each version that was there is there as it was.
pub record Obeys (old new : State) : Type 0 where
  pub one : OneVector new.stock
  pub current : CurrentVector new.stock
  pub stay : RecordsStay old.stock new.stock

-- so along all entries
abbrev pub AreLawfulFrom : HookTable → State → List Entry → Type 0
AreLawfulFrom hooks s [] = Unit {0}
AreLawfulFrom hooks s (e ∷ es) = Obeys s (step hooks s e.seat e.event).state × AreLawfulFrom hooks (step hooks s e.seat e.event).state es

abbrev pub AreLawful : HookTable → List Entry → Type 0
AreLawful hooks entries = AreLawfulFrom hooks empty_state entries
