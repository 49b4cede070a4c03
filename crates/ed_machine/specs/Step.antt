-- What an event does: the state that it leaves, and its reply.
use Rattle.std.specs.Prelude.{ℕ, ◌+◌, Option, Some, None}
use Rattle.ed_base.specs.declared.Refusal.{Refusal}
use Rattle.ed_base.specs.Hooks.{HookTable}
use Rattle.ed_script.specs.declared.Command.{Command}
use Rattle.ed_entry.specs.declared.Event.{Event}
use Rattle.ed_entry.specs.declared.Reply.{Reply}
use Rattle.ed_machine.specs.State.{State}
use Rattle.ed_machine.specs.Answers.{weight}
use Rattle.ed_machine.specs.Accepted.{Outcome, answers, accepted}
use Rattle.ed_machine.specs.Refusals.{refusal}
use Rattle.ed_machine.specs.Limits.{limit_fault}

-- a refused command leaves the state as it was
abbrev pub or_refused : State → Option Refusal → Outcome → Outcome
or_refused s (Some r) outcome = answers s (Reply.Refused r)
or_refused s None outcome = outcome

-- with more that was answered
abbrev pub with_weight : State → ℕ → State
with_weight s n = record s { answered = s.answered + n }

-- with the weight of the reply
abbrev pub weighed : Outcome → Outcome
weighed o = record { state = with_weight o.state (weight o.reply); reply = o.reply }

abbrev pub within_limits : State → Outcome → Outcome
within_limits s o = or_refused s (limit_fault o.state) o

-- a command is refused for the first of its reasons, or for a limit that it would pass
abbrev pub told : HookTable → State → Command → Outcome
told hooks s command = or_refused s (refusal hooks s command) (within_limits s (weighed (accepted hooks s command)))

-- The seat that an event comes from is one of those that work on the graph.
unfoldable pub step : HookTable → State → ℕ → Event → Outcome
step hooks s seat (Event.Told command) = told hooks s command
