-- The whole step of the commands that make versions or buffers: the stock decides.
use Rattle.std.proofs.Common.{◌≡◌, ◌≤◌, ◌^◌, Option, Some, None, refl, ◌∙◌}
use Rattle.ed_base.specs.declared.refusal.Refusal.{Refusal}
use Rattle.ed_base.specs.Hooks.{HookTable}
use Rattle.ed_base.specs.Numbers.{first_some, or_else}
use Rattle.ed_stock.specs.Limits.{stock_limits}
use Rattle.ed_script.specs.declared.kinds.Command.{Command}
use Rattle.ed_machine.specs.State.{State}
use Rattle.ed_machine.specs.Answers.{weight}
use Rattle.ed_machine.specs.Accepted.{Outcome, accepted}
use Rattle.ed_machine.specs.Refusals.{refusal}
use Rattle.ed_machine.specs.Step.{told, within_limits, weighed, or_refused}
use Rattle.ed_core.specs.Within.{HasFewRegions}
use Rattle.ed_core.proofs.Limits.{told-refused, told-accepted}
use Rattle.ed_core.proofs.Steps.{light-none, light-some}

pub or_refused-twice : (s : State) (a b : Option Refusal) (o : Outcome) → or_refused s a (or_refused s b o) ≡ or_refused s (or_else a b) o
or_refused-twice s None b o = refl
or_refused-twice s (Some r) b o = refl

-- what passes no limit but those of the stock
pub light : (s : State) (o : Outcome) → weight o.reply ≡ 0 → HasFewRegions o.state.stock → o.state.answered ≤ 2 ^ 25 → within_limits s (weighed o) ≡ or_refused s (first_some (stock_limits o.state.stock)) o
light s o unweighed few answered = by_limit (first_some (stock_limits o.state.stock)) refl
  where
    by_limit : (l : Option Refusal) → first_some (stock_limits o.state.stock) ≡ l → within_limits s (weighed o) ≡ or_refused s l o
    by_limit None e = light-none s o unweighed few answered e
    by_limit (Some r) e = light-some s o r unweighed few e

-- the command is refused for the first of its reasons, or else for a limit of the stock
pub decided : (hooks : HookTable) (s : State) (command : Command) (r : Option Refusal) (o : Outcome) → refusal hooks s command ≡ r → accepted hooks s command ≡ o → weight o.reply ≡ 0 → HasFewRegions o.state.stock → o.state.answered ≤ 2 ^ 25
    → told hooks s command ≡ or_refused s (or_else r (first_some (stock_limits o.state.stock))) o
decided hooks s command (Some r) o refused does unweighed few answered = told-refused hooks s command r refused
decided hooks s command None o refused does unweighed few answered = told-accepted hooks s command o refused does ∙ light s o unweighed few answered
