-- When a state passes no limit, and what a command that only reads can pass.
use Rattle.std.proofs.Common.{◌≡◌, ℕ, ◌+◌, ◌<◌, ◌≤◌, ◌^◌, [], ◌∷◌, length, map, Option, Some, None, refl, ◌∙◌, ap, subst, sym, le-ltb, lt-ltb}
use Rattle.ed_base.specs.declared.refusal.Refusal.{Refusal}
use Rattle.ed_base.specs.declared.refusal.Which.{Which}
use Rattle.ed_base.specs.Hooks.{HookTable}
use Rattle.ed_base.specs.Numbers.{first_some, or_else}
use Rattle.ed_stock.specs.Limits.{over, some_over, stock_limits}
use Rattle.ed_script.specs.declared.kinds.Command.{Command}
use Rattle.ed_entry.specs.declared.Reply.{Reply}
use Rattle.ed_machine.specs.State.{State, buffer, graph_order}
use Rattle.ed_machine.specs.Answers.{weight}
use Rattle.ed_machine.specs.Accepted.{Outcome, answers, accepted}
use Rattle.ed_machine.specs.Refusals.{refusal}
use Rattle.ed_machine.specs.Limits.{limit_fault}
use Rattle.ed_machine.specs.Step.{told, within_limits, weighed, with_weight, or_refused}
use Rattle.ed_core.specs.Within.{IsWithin, HasFewRegions}
use Rattle.ed_core.proofs.Firsts.{first_some-append, some_over-none}

-- ---- the limits, one after another

abbrev pub live_over : State → Option Refusal
live_over s = some_over Which.Regions 1024 (map (λ b. length (buffer s b).regions) (graph_order s))

abbrev pub given_over : State → Option Refusal
given_over s = some_over Which.Regions (2 ^ 20) (map (λ b. (buffer s b).regions_given) (graph_order s))

abbrev pub answers_over : State → Option Refusal
answers_over s = over Which.Answers (2 ^ 25) s.answered

pub limit-of : (s : State) → limit_fault s ≡ or_else (first_some (stock_limits s.stock)) (first_some (live_over s ∷ given_over s ∷ answers_over s ∷ []))
unfolding limit_fault
limit-of s = first_some-append (stock_limits s.stock) (live_over s ∷ given_over s ∷ answers_over s ∷ [])

third : {X : Type 0} (a b c : Option X) → a ≡ None → b ≡ None → first_some (a ∷ b ∷ c ∷ []) ≡ c
third None None None e f = refl
third None None (Some x) e f = refl
third None (Some y) c e f = absurd (cc)
third (Some x) b c e f = absurd (cc)

pub few-live : (s : State) → HasFewRegions s.stock → live_over s ≡ None
few-live s few = some_over-none Which.Regions 1024 (λ b. length (buffer s b).regions) few.live (graph_order s)

pub few-given : (s : State) → HasFewRegions s.stock → given_over s ≡ None
few-given s few = some_over-none Which.Regions (2 ^ 20) (λ b. (buffer s b).regions_given) few.given (graph_order s)

-- with few regions, only the stock and the answers can pass a limit
pub limit-split : (s : State) → HasFewRegions s.stock → limit_fault s ≡ or_else (first_some (stock_limits s.stock)) (answers_over s)
limit-split s few = limit-of s ∙ ap (or_else (first_some (stock_limits s.stock))) (third (live_over s) (given_over s) (answers_over s) (few-live s few) (few-given s few))

pub over-none : (which : Which) (most n : ℕ) → n ≤ most → over which most n ≡ None
over-none which most n few = rw (le-ltb most n few) refl

pub over-some : (which : Which) (most n : ℕ) → most < n → over which most n ≡ Some (Refusal.Limit which n)
over-some which most n many = rw (lt-ltb most n many) refl

-- the same of a stock that passes none
pub limit-answers : (s : State) → HasFewRegions s.stock → first_some (stock_limits s.stock) ≡ None → limit_fault s ≡ over Which.Answers (2 ^ 25) s.answered
limit-answers s few none = limit-split s few ∙ ap (λ o. or_else o (over Which.Answers (2 ^ 25) s.answered)) none

pub within-none : (s : State) → IsWithin s → limit_fault s ≡ None
within-none s within = limit-answers s within.regions within.stock ∙ over-none Which.Answers (2 ^ 25) s.answered within.answered

-- ---- a command that only reads

abbrev pub heavier : State → Reply → Outcome
heavier s reply = record { state = with_weight s (weight reply); reply = reply }

pub told-refused : (hooks : HookTable) (s : State) (command : Command) (r : Refusal) → refusal hooks s command ≡ Some r → told hooks s command ≡ answers s (Reply.Refused r)
told-refused hooks s command r e = rw e refl

pub told-accepted : (hooks : HookTable) (s : State) (command : Command) (o : Outcome) → refusal hooks s command ≡ None → accepted hooks s command ≡ o → told hooks s command ≡ within_limits s (weighed o)
told-accepted hooks s command o e f = rw (e, f) refl

pub read-light : (s : State) (reply : Reply) → IsWithin s → s.answered + weight reply ≤ 2 ^ 25 → within_limits s (weighed (answers s reply)) ≡ heavier s reply
read-light s reply within few =
    let none : limit_fault (with_weight s (weight reply)) ≡ None = limit-answers (with_weight s (weight reply)) within.regions within.stock ∙ over-none Which.Answers (2 ^ 25) (s.answered + weight reply) few in
    ap (λ o. or_refused s o (heavier s reply)) none

pub read-heavy : (s : State) (reply : Reply) → IsWithin s → 2 ^ 25 < s.answered + weight reply → within_limits s (weighed (answers s reply)) ≡ answers s (Reply.Refused (Refusal.Limit Which.Answers (s.answered + weight reply)))
read-heavy s reply within many =
    let some : limit_fault (with_weight s (weight reply)) ≡ Some (Refusal.Limit Which.Answers (s.answered + weight reply)) = limit-answers (with_weight s (weight reply)) within.regions within.stock ∙ over-some Which.Answers (2 ^ 25) (s.answered + weight reply) many in
    ap (λ o. or_refused s o (heavier s reply)) some

-- the same of a state that is seen in another way, and a weight that was found
pub heavy-answer : (s v : State) (reply : Reply) (w : ℕ) → v ≡ s → IsWithin v → w ≡ weight reply → 2 ^ 25 < v.answered + w → within_limits s (weighed (answers s reply)) ≡ answers s (Reply.Refused (Refusal.Limit Which.Answers (v.answered + w)))
heavy-answer s v reply w e within is many =
    subst (λ t. within_limits t (weighed (answers t reply)) ≡ answers t (Reply.Refused (Refusal.Limit Which.Answers (v.answered + w)))) e
    (read-heavy v reply within (subst (λ k. 2 ^ 25 < v.answered + k) is many) ∙ ap (λ k. answers v (Reply.Refused (Refusal.Limit Which.Answers (v.answered + k)))) (sym is))

pub light-answer : (s v : State) (reply : Reply) (w : ℕ) → v ≡ s → IsWithin v → w ≡ weight reply → v.answered + w ≤ 2 ^ 25 → within_limits s (weighed (answers s reply)) ≡ record { state = with_weight v w; reply = reply }
light-answer s v reply w e within is few =
    subst (λ t. within_limits t (weighed (answers t reply)) ≡ record { state = with_weight v w; reply = reply }) e
    (read-light v reply within (subst (λ k. v.answered + k ≤ 2 ^ 25) is few) ∙ ap (λ k. record { state = with_weight v k; reply = reply }) (sym is))
