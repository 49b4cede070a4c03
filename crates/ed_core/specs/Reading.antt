-- What is answered about a buffer, by its number.
use Rattle.std.specs.Prelude.{ℕ, ◌+◌, false, [], ◌∷◌, map, Option, Some, None}
use Rattle.ed_base.specs.declared.PointMode.{PointMode}
use Rattle.ed_base.specs.declared.Span.{Span}
use Rattle.ed_base.specs.declared.SpanHow.{SpanHow}
use Rattle.ed_base.specs.declared.Refusal.{Refusal}
use Rattle.ed_base.specs.Denial.{denied_at}
use Rattle.ed_base.specs.Hooks.{HookTable}
use Rattle.ed_base.specs.Numbers.{first_some, places}
use Rattle.ed_base.specs.Spans.{end_of}
use Rattle.ed_base.specs.Tracking.{tracked_point}
use Rattle.ed_layers.specs.Hidden.{nearest}
use Rattle.ed_layers.specs.Records.{is_elision}
use Rattle.ed_lines.specs.Lines.{lines}
use Rattle.ed_stock.specs.Making.{flags_of}
use Rattle.ed_script.specs.declared.Command.{Command}
use Rattle.ed_entry.specs.declared.Reply.{Reply}
use Rattle.ed_machine.specs.State.{State, buffer, now, record_now, text_at, reiterated}
use Rattle.ed_machine.specs.Accepted.{accepted, version_or_now, snapshot, changes_at, tracked_to, span_move, asked_region}
use Rattle.ed_machine.specs.Refusals.{refusal, no_version, past_version, past_now, past_source, wrong_kind, is_base, no_hook, custom_name}

abbrev pub reply_unless : Option Refusal → Reply → Reply
reply_unless (Some r) reply = Reply.Refused r
reply_unless None reply = reply

-- what a command is answered that only reads
abbrev pub read_answer : HookTable → State → Command → Reply
read_answer hooks s command = reply_unless (refusal hooks s command) (accepted hooks s command).reply

-- ---- by the number of the buffer

abbrev pub text_answer : State → ℕ → Option ℕ → Reply
text_answer s b at = reply_unless (no_version s b at) (Reply.Text (snapshot s b (version_or_now s b at)))

abbrev pub lines_answer : State → ℕ → Option ℕ → Reply
lines_answer s b at = reply_unless (no_version s b at) (Reply.Lines (lines (text_at s b (version_or_now s b at))))

abbrev pub changes_answer : State → ℕ → ℕ → Reply
changes_answer s b from = reply_unless (no_version s b (Some (from + 1))) (Reply.Changes (changes_at s b from))

abbrev pub versions_answer : State → ℕ → Reply
versions_answer s b = Reply.Versions (map (reiterated s b) (places (now s b + 1)))

-- an end of version `at` that passes its text, or one of the versions that isn't there
abbrev pub untracked : State → ℕ → Option ℕ → Option ℕ → ℕ → Option Refusal
untracked s b at to end = first_some (past_version s b at end ∷ no_version s b at ∷ no_version s b to ∷ [])

abbrev pub point_answer : State → ℕ → PointMode → ℕ → Option ℕ → Option ℕ → Reply
point_answer s b mode p at to = reply_unless (untracked s b at to p) (Reply.At (tracked_to (tracked_point mode) s b p at to))

abbrev pub span_answer : HookTable → State → ℕ → SpanHow → Span → Option ℕ → Option ℕ → Reply
span_answer hooks s b how x at to = reply_unless (first_some (untracked s b at to (end_of x) ∷ no_hook hooks.customs (custom_name how) ∷ [])) (Reply.Span (tracked_to (span_move hooks how) s b x at to))

abbrev pub asked_answer : HookTable → State → ℕ → Span → Reply
asked_answer hooks s b x = reply_unless (first_some (wrong_kind s b is_base ∷ past_now s b (end_of x) ∷ [])) (asked_region (denied_at hooks (buffer s b).regions (now s b) false x))

abbrev pub nearest_answer : State → ℕ → ℕ → Reply
nearest_answer s b p = reply_unless (first_some (wrong_kind s b is_elision ∷ past_source s b (p ∷ []) ∷ [])) (Reply.At (nearest (flags_of (record_now s b)) p))
