-- What a command does that isn't refused.
use Rattle.std.specs.Prelude.{ℕ, ◌+◌, false, not, List, [], ◌∷◌, ◌++◌, map, filter, nat_eq, slice_get, Option, Some, None, unwrap_or}
use Rattle.std.specs.Option.{option_map_or}
use Rattle.ed_base.specs.declared.Span.{Span}
use Rattle.ed_base.specs.declared.SpanHow.{SpanHow}
use Rattle.ed_base.specs.declared.Piece.{Piece}
use Rattle.ed_base.specs.Numbers.{places}
use Rattle.ed_base.specs.Step.{Step}
use Rattle.ed_base.specs.ChangeList.{ChangeList}
use Rattle.ed_base.specs.Tracking.{tracked_point, tracked_span, custom_span, between_versions}
use Rattle.ed_base.specs.Hooks.{HookTable, named}
use Rattle.ed_base.specs.Denial.{Region, denied_at}
use Rattle.ed_lines.specs.Lines.{lines}
use Rattle.ed_layers.specs.Records.{Record, base}
use Rattle.ed_layers.specs.Hidden.{nearest}
use Rattle.ed_stock.specs.Stock.{Buffer}
use Rattle.ed_stock.specs.Versions.{Rising, versions_made, none_given}
use Rattle.ed_stock.specs.Landing.{pieces_of_edit, sent_down, landed}
use Rattle.ed_stock.specs.Making.{with_new, projection_of, elision_of, spans_set, elide_set, flags_of}
use Rattle.ed_script.specs.declared.Command.{Command}
use Rattle.ed_version.specs.declared.Snapshot.{Snapshot}
use Rattle.ed_entry.specs.declared.Reply.{Reply}
use Rattle.ed_machine.specs.State.{State, number, buffer, now, record_now, text_at, steps_of, reiterated, count, with_stock, with_buffer}
use Rattle.ed_machine.specs.Naming.{members}

pub record Outcome : Type 0 where
  pub state : State
  pub reply : Reply

-- a reply that leaves the state as it is
abbrev pub answers : State → Reply → Outcome
answers s reply = record { state = s; reply = reply }

-- a new buffer of this name, with the resolver that it names
abbrev pub made : State → List ℕ → Record → Option (List ℕ) → Outcome
made s name r resolver = answers (record s { stock = with_new s.stock r resolver; names = s.names ++ name ∷ [] }) (Reply.Made (count s))

-- new versions, and what goes along with them
abbrev pub edited_to : State → Rising → Outcome
edited_to s r = answers (with_stock s r.stock) (Reply.Edited (versions_made r))

-- an edit without a change makes no version
abbrev pub edit_group : State → List (ℕ × Piece) → Outcome
edit_group s [] = answers s (Reply.Edited [])
edit_group s (p ∷ ps) = edited_to s (landed s.stock (p ∷ ps) none_given none_given)

-- ---- regions

-- with one more region, which has the next number
abbrev pub with_region : Buffer → Region → Buffer
with_region x r = record x { regions = x.regions ++ r ∷ []; regions_given = x.regions_given + 1 }

abbrev pub without_region : Buffer → ℕ → Buffer
without_region x number = record x { regions = filter (λ r. not (nat_eq r.number number)) x.regions }

abbrev pub asked_region : Option ℕ → Reply
asked_region None = Reply.Free
asked_region (Some r) = Reply.Denied r

-- ---- reading

abbrev pub version_or_now : State → ℕ → Option ℕ → ℕ
version_or_now s b at = unwrap_or at (now s b)

abbrev pub snapshot : State → ℕ → ℕ → Snapshot
snapshot s b v = record { buffer = b; version = v; text = text_at s b v }

-- a thing of a buffer tracked from one version to another
abbrev pub tracked_to : {X : Type 0} → (X → Step → X) → State → ℕ → X → Option ℕ → Option ℕ → X
tracked_to move s b x at to = between_versions move (steps_of s b) x (version_or_now s b at) (version_or_now s b to)

-- how a span is moved by a step
abbrev pub span_move : HookTable → SpanHow → Span → Step → Span
span_move hooks (SpanHow.Mode mode) x s = tracked_span mode x s
span_move hooks (SpanHow.Custom name) x s = option_map_or (λ rule. custom_span rule x s) (named name hooks.customs) x

abbrev pub changes_at : State → ℕ → ℕ → ChangeList
changes_at s b v = unwrap_or (slice_get (buffer s b).changes v) (record { old_len = 0; changes = [] })

abbrev pub span_of : ℕ → ℕ → Span
span_of start len = record { start = start; len = len }

-- ---- commands

unfoldable pub accepted : HookTable → State → Command → Outcome
accepted hooks s (Command.Buffer name text) = made s name (base text 0) None
accepted hooks s (Command.Projection name spans resolver) = made s name (projection_of s.stock (members s spans)) resolver
accepted hooks s (Command.Elision name source hide resolver) = made s name (elision_of s.stock (number s source) hide) resolver
accepted hooks s (Command.Edit name replaces at) = edit_group s (sent_down hooks s.stock (pieces_of_edit s.stock (number s name) replaces))
accepted hooks s (Command.Spans name first count spans at) = edited_to s (spans_set s.stock (number s name) first count (members s spans))
accepted hooks s (Command.Elide name hide show at) = edited_to s (elide_set s.stock (number s name) hide show)
accepted hooks s (Command.Region name start len edge mode query) =
    let b : ℕ = number s name in
    let x : Buffer = buffer s b in
    answers (with_buffer s b (with_region x (record { number = x.regions_given; span = span_of start len; mode = mode; edge = edge; query = query }))) (Reply.Region x.regions_given)
accepted hooks s (Command.Unregion name region) = answers (with_buffer s (number s name) (without_region (buffer s (number s name)) region)) Reply.Removed
accepted hooks s (Command.Readonly name start len) = let b : ℕ = number s name in answers s (asked_region (denied_at hooks (buffer s b).regions (now s b) false (span_of start len)))
accepted hooks s (Command.Text name at) = let b : ℕ = number s name in answers s (Reply.Text (snapshot s b (version_or_now s b at)))
accepted hooks s (Command.Lines name at) = let b : ℕ = number s name in answers s (Reply.Lines (lines (text_at s b (version_or_now s b at))))
accepted hooks s (Command.Changes name from) = answers s (Reply.Changes (changes_at s (number s name) from))
accepted hooks s (Command.Versions name) = let b : ℕ = number s name in answers s (Reply.Versions (map (reiterated s b) (places (now s b + 1))))
accepted hooks s (Command.Point name p mode at to) = answers s (Reply.At (tracked_to (tracked_point mode) s (number s name) p at to))
accepted hooks s (Command.Span name start len how at to) = answers s (Reply.Span (tracked_to (span_move hooks how) s (number s name) (span_of start len) at to))
accepted hooks s (Command.Nearest name p) = answers s (Reply.At (nearest (flags_of (record_now s (number s name))) p))
