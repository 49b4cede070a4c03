-- Legal histories.
use Rattle.std.specs.Prelude.{◌≡◌, List, [], ◌∷◌}
use Rattle.ed_base.specs.Hooks.{HookTable}
use Rattle.ed_script.specs.declared.Command.{Command}
use Rattle.ed_entry.specs.declared.Event.{Event}
use Rattle.ed_entry.specs.declared.Entry.{Entry}
use Rattle.ed_machine.specs.State.{State, empty_state}
use Rattle.ed_machine.specs.Step.{step}

-- The rules of the hooks are the same all along.
module _ (hooks : HookTable) where
  -- the state that the events of the entries leave
  abbrev pub state_after : State → List Entry → State
  state_after s [] = s
  state_after s (e ∷ es) = state_after (step hooks s e.seat e.event).state es

  -- each reply is the one that the state at that point gives
  abbrev pub IsLegalFrom : State → List Entry → Type 0
  IsLegalFrom s [] = Unit {0}
  IsLegalFrom s (e ∷ es) = (e.reply ≡ (step hooks s e.seat e.event).reply) × IsLegalFrom (step hooks s e.seat e.event).state es

  abbrev pub IsLegal : List Entry → Type 0
  IsLegal entries = IsLegalFrom empty_state entries

  -- ---- the history of one seat that works alone

  abbrev pub told : State → Command → Entry
  told s command = record { seat = 0; event = Event.Told command; reply = (step hooks s 0 (Event.Told command)).reply }

  abbrev pub after : State → Command → State
  after s command = (step hooks s 0 (Event.Told command)).state

  -- seat 0 tells the commands, one after another
  abbrev pub alone_from : State → List Command → List Entry
  alone_from s [] = []
  alone_from s (c ∷ cs) = told s c ∷ alone_from (after s c) cs

  abbrev pub alone : List Command → List Entry
  alone commands = alone_from empty_state commands
