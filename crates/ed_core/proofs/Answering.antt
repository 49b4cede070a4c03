-- What the model answers to a command that only reads is what is answered about its buffer.
use Rattle.std.proofs.Common.{◌≡◌, ℕ, ◌+◌, List, [], ◌∷◌, Option, Some, None, refl, sym, ◌∙◌, ap, arith, add-zero}
use Rattle.ed_base.specs.declared.PointMode.{PointMode}
use Rattle.ed_base.specs.declared.Refusal.{Refusal}
use Rattle.ed_base.specs.declared.Span.{Span}
use Rattle.ed_base.specs.declared.SpanHow.{SpanHow}
use Rattle.ed_base.specs.Hooks.{HookTable}
use Rattle.ed_script.specs.declared.Command.{Command}
use Rattle.ed_entry.specs.declared.Reply.{Reply}
use Rattle.ed_base.specs.Numbers.{first_some, or_else}
use Rattle.ed_lines.specs.Lines.{lines}
use Rattle.ed_machine.specs.State.{State, number_of, text_at}
use Rattle.ed_machine.specs.Accepted.{answers, accepted, version_or_now, snapshot, changes_at, tracked_to, span_move}
use Rattle.ed_machine.specs.Refusals.{refusal, tests, no_version, past_version, no_hook, custom_name}
use Rattle.ed_machine.specs.Step.{told, within_limits, weighed}
use Rattle.ed_core.specs.Within.{IsWithin}
use Rattle.ed_core.specs.Reading.{reply_unless, read_answer, text_answer, lines_answer, changes_answer, versions_answer, point_answer, span_answer, asked_answer, nearest_answer}
use Rattle.ed_core.proofs.Limits.{told-refused, told-accepted, read-light}
use Rattle.ed_core.proofs.Firsts.{or_else-none}

-- ---- the whole step

-- the command leaves the state as it is
abbrev pub OnlyReads : HookTable → State → Command → Type 0
OnlyReads hooks s command = accepted hooks s command ≡ answers s (accepted hooks s command).reply

by_refusal : (hooks : HookTable) (s : State) (command : Command) (o : Option Refusal) → IsWithin s → OnlyReads hooks s command → refusal hooks s command ≡ o → within_limits s (weighed (answers s (reply_unless o (accepted hooks s command).reply))) ≡ told hooks s command
by_refusal hooks s command None within reads e = ap (λ o. within_limits s (weighed o)) (sym reads) ∙ sym (told-accepted hooks s command (accepted hooks s command) e refl)
by_refusal hooks s command (Some r) within reads e =
    read-light s (Reply.Refused r) within (omega (arith, within.answered))
    ∙ (ap (λ n. record { state = record s { answered = n }; reply = Reply.Refused r }) (add-zero s.answered)
    ∙ sym (told-refused hooks s command r e))

pub read-step : (hooks : HookTable) (s : State) (command : Command) → IsWithin s → OnlyReads hooks s command → within_limits s (weighed (answers s (read_answer hooks s command))) ≡ told hooks s command
read-step hooks s command within reads = by_refusal hooks s command (refusal hooks s command) within reads refl

-- ---- what is answered, by the name of the buffer

nested : {X : Type 0} (a b c d : Option X) → first_some (first_some (a ∷ b ∷ c ∷ []) ∷ d ∷ []) ≡ first_some (a ∷ b ∷ c ∷ d ∷ [])
nested None None None d = refl
nested None None (Some x) d = refl
nested None (Some x) c d = refl
nested (Some x) b c d = refl

module _ (hooks : HookTable) (s : State) (name : List ℕ) (n : ℕ) (found : Some n ≡ number_of s name) where
  pub text_read : (at : Option ℕ) → text_answer s n at ≡ read_answer hooks s (Command.Text name at)
  unfolding tests accepted
  text_read at = rw (← found) (ap (λ o. reply_unless o (Reply.Text (snapshot s n (version_or_now s n at)))) (sym (or_else-none (no_version s n at))))

  pub lines_read : (at : Option ℕ) → lines_answer s n at ≡ read_answer hooks s (Command.Lines name at)
  unfolding tests accepted
  lines_read at = rw (← found) (ap (λ o. reply_unless o (Reply.Lines (lines (text_at s n (version_or_now s n at))))) (sym (or_else-none (no_version s n at))))

  pub changes_read : (from : ℕ) → changes_answer s n from ≡ read_answer hooks s (Command.Changes name from)
  unfolding tests accepted
  changes_read from = rw (← found) (ap (λ o. reply_unless o (Reply.Changes (changes_at s n from))) (sym (or_else-none (no_version s n (Some (from + 1))))))

  pub versions_read : versions_answer s n ≡ read_answer hooks s (Command.Versions name)
  unfolding tests accepted
  versions_read = rw (← found) refl

  pub point_read : (mode : PointMode) (p : ℕ) (at to : Option ℕ) → point_answer s n mode p at to ≡ read_answer hooks s (Command.Point name p mode at to)
  unfolding tests accepted
  point_read mode p at to = rw (← found) refl

  pub span_read : (how : SpanHow) (x : Span) (at to : Option ℕ) → span_answer hooks s n how x at to ≡ read_answer hooks s (Command.Span name x.start x.len how at to)
  unfolding tests accepted
  span_read how x at to = rw (← found) (ap (λ o. reply_unless o (Reply.Span (tracked_to (span_move hooks how) s n x at to))) (nested (past_version s n at (x.start + x.len)) (no_version s n at) (no_version s n to) (no_hook hooks.customs (custom_name how))))

  pub asked_read : (x : Span) → asked_answer hooks s n x ≡ read_answer hooks s (Command.Readonly name x.start x.len)
  unfolding tests accepted
  asked_read x = rw (← found) refl

  pub nearest_read : (p : ℕ) → nearest_answer s n p ≡ read_answer hooks s (Command.Nearest name p)
  unfolding tests accepted
  nearest_read p = rw (← found) refl

-- ---- the whole step, for each command

pub answered : (hooks : HookTable) (s : State) (command : Command) (reply : Reply) → IsWithin s → OnlyReads hooks s command → reply ≡ read_answer hooks s command → within_limits s (weighed (answers s reply)) ≡ told hooks s command
answered hooks s command reply within reads is = ap (λ r. within_limits s (weighed (answers s r))) is ∙ read-step hooks s command within reads

module _ (hooks : HookTable) (s : State) (name : List ℕ) where
  pub text_reads : (at : Option ℕ) → OnlyReads hooks s (Command.Text name at)
  unfolding accepted
  text_reads at = refl

  pub lines_reads : (at : Option ℕ) → OnlyReads hooks s (Command.Lines name at)
  unfolding accepted
  lines_reads at = refl

  pub changes_reads : (from : ℕ) → OnlyReads hooks s (Command.Changes name from)
  unfolding accepted
  changes_reads from = refl

  pub versions_reads : OnlyReads hooks s (Command.Versions name)
  unfolding accepted
  versions_reads = refl

  pub point_reads : (p : ℕ) (mode : PointMode) (at to : Option ℕ) → OnlyReads hooks s (Command.Point name p mode at to)
  unfolding accepted
  point_reads p mode at to = refl

  pub span_reads : (start len : ℕ) (how : SpanHow) (at to : Option ℕ) → OnlyReads hooks s (Command.Span name start len how at to)
  unfolding accepted
  span_reads start len how at to = refl

  pub readonly_reads : (start len : ℕ) → OnlyReads hooks s (Command.Readonly name start len)
  unfolding accepted
  readonly_reads start len = refl

  pub nearest_reads : (p : ℕ) → OnlyReads hooks s (Command.Nearest name p)
  unfolding accepted
  nearest_reads p = refl

-- the same for a command that is seen in another way
pub answered_as : (hooks : HookTable) (s : State) (seen command : Command) (reply : Reply) → seen ≡ command → IsWithin s → OnlyReads hooks s command → reply ≡ read_answer hooks s command → within_limits s (weighed (answers s reply)) ≡ told hooks s seen
answered_as hooks s seen command reply same within reads is = answered hooks s command reply within reads is ∙ ap (λ c. told hooks s c) (sym same)
