-- What an accepted edit makes of the text of its buffer.
use Rattle.std.specs.Prelude.{◌≡◌, ℕ, List, Option}
use Rattle.ed_base.specs.declared.Replace.{Replace}
use Rattle.ed_base.specs.Edit.{edited}
use Rattle.ed_sending.specs.OneCarrierEach.{HasOneCarrierEach}
use Rattle.ed_script.specs.declared.Command.{Command}
use Rattle.ed_entry.specs.declared.Event.{Event}
use Rattle.ed_entry.specs.declared.Reply.{Reply}
use Rattle.ed_machine.specs.State.{State, number, text_now}

-- Where no buffer below the edited one is shown twice over, the text becomes exactly what the edit says.
abbrev pub TypedText : State → State → Event → Reply → Type 0
TypedText s u event reply = (name : List ℕ) (replaces : List Replace) (at : Option ℕ) (versions : List (ℕ × ℕ)) → event ≡ Event.Told (Command.Edit name replaces at) → reply ≡ Reply.Edited versions
    → HasOneCarrierEach s.stock (number s name) → text_now u (number s name) ≡ edited replaces (text_now s (number s name))
