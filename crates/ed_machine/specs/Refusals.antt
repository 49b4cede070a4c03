-- Why a command is refused, but for limits.
use Rattle.std.specs.Prelude.{ℕ, ◌+◌, Bool, not, ◌&&◌, List, [], ◌∷◌, ◌++◌, length, map, find, nat_eq, nat_lt, Option, Some, None, option_map, option_and_then, unwrap_or, is_some, is_none, if◌then◌else◌}
use Rattle.std.specs.List.{list_any}
use Rattle.ed_base.specs.declared.Span.{Span}
use Rattle.ed_base.specs.declared.ScriptSpan.{ScriptSpan}
use Rattle.ed_base.specs.declared.SpanHow.{SpanHow}
use Rattle.ed_base.specs.declared.Refusal.{Refusal}
use Rattle.ed_base.specs.declared.What.{What}
use Rattle.ed_base.specs.declared.Member.{Member}
use Rattle.ed_base.specs.declared.Piece.{Piece}
use Rattle.ed_base.specs.Numbers.{first_some}
use Rattle.ed_base.specs.Spans.{end_of}
use Rattle.ed_base.specs.Hooks.{HookTable, named}
use Rattle.ed_layers.specs.Records.{Record, is_carrier, is_elision, members_of}
use Rattle.ed_layers.specs.Order.{mode_fault, overlap_fault}
use Rattle.ed_stock.specs.Landing.{pieces_of_edit, sent_down, down_fault, denial}
use Rattle.ed_stock.specs.Linking.{cycle, depth}
use Rattle.ed_stock.specs.Making.{spans_replaced, sources_in, flags_of}
use Rattle.ed_script.specs.declared.Command.{Command}
use Rattle.ed_machine.specs.State.{State, number_of, number, buffer, now, record_at, record_now, text_at, text_now, count}
use Rattle.ed_machine.specs.Naming.{members, names_in}

abbrev pub refused_if : Bool → Refusal → Option Refusal
refused_if b r = if b then Some r else None

-- ---- names

-- one of these is no buffer's name
abbrev pub no_buffer : State → List (List ℕ) → Option Refusal
no_buffer s names = refused_if (list_any (λ n. is_none (number_of s n)) names) Refusal.NoBuffer

abbrev pub name_taken : State → List ℕ → Option Refusal
name_taken s name = refused_if (is_some (number_of s name)) Refusal.NameTaken

-- ---- kinds and versions

abbrev pub is_base : Record → Bool
is_base r = not (is_carrier r)

abbrev pub is_projection : Record → Bool
is_projection r = is_carrier r && not (is_elision r)

abbrev pub wrong_kind : State → ℕ → (Record → Bool) → Option Refusal
wrong_kind s b is_right = refused_if (not (is_right (record_now s b))) Refusal.WrongKind

-- the version named by a command that changes a buffer isn't the current one
abbrev pub stale : State → ℕ → Option ℕ → Option Refusal
stale s b at = option_and_then (λ v. refused_if (not (nat_eq v (now s b))) (Refusal.Stale (now s b))) at

-- ---- ranges

-- the first end that passes the length
abbrev pub past : List ℕ → ℕ → Option Refusal
past ends len = option_map (λ end. Refusal.OutOfRange end len) (find (nat_lt len) ends)

abbrev pub ends_of : List Span → List ℕ
ends_of spans = map end_of spans

abbrev pub len_now : State → ℕ → ℕ
len_now s b = length (text_now s b)

-- of the current text
abbrev pub past_now : State → ℕ → ℕ → Option Refusal
past_now s b end = past (end ∷ []) (len_now s b)

-- of a version, where it is there
abbrev pub past_version : State → ℕ → Option ℕ → ℕ → Option Refusal
past_version s b at end = option_and_then (λ r. past (end ∷ []) (length (text_at s b (unwrap_or at (now s b))))) (record_at s b (unwrap_or at (now s b)))

-- the spans of a script over the current versions of their buffers, in their order
abbrev pub past_spans : State → List ScriptSpan → Option Refusal
past_spans s [] = None
past_spans s (ScriptSpan.Literal units ∷ ss) = past_spans s ss
past_spans s (ScriptSpan.Tracked name start len mode ∷ ss) = first_some (past_now s (number s name) (start + len) ∷ past_spans s ss ∷ [])

-- of the source of an elision buffer
abbrev pub past_source : State → ℕ → List ℕ → Option Refusal
past_source s b ends = past ends (length (flags_of (record_now s b)))

-- ---- things that aren't there

abbrev pub no_version : State → ℕ → Option ℕ → Option Refusal
no_version s b at = option_and_then (λ v. refused_if (nat_lt (now s b) v) (Refusal.NoSuch What.Version)) at

-- the hook that is named isn't in the table of its kind
abbrev pub no_hook : {X : Type 0} → List (List ℕ × X) → Option (List ℕ) → Option Refusal
no_hook table name = option_and_then (λ n. refused_if (is_none (named n table)) (Refusal.NoSuch What.Hook)) name

abbrev pub custom_name : SpanHow → Option (List ℕ)
custom_name (SpanHow.Mode mode) = None
custom_name (SpanHow.Custom name) = Some name

abbrev pub no_region : State → ℕ → ℕ → Option Refusal
no_region s b region = refused_if (not (list_any (λ r. nat_eq r.number region) (buffer s b).regions)) (Refusal.NoSuch What.Region)

-- ---- commands: each list is in the order of the refusals, so that what stands later speaks only where the earlier tests have passed

unfoldable pub tests : HookTable → State → Command → List (Option Refusal)
tests hooks s (Command.Buffer name text) = name_taken s name ∷ []
tests hooks s (Command.Projection name spans resolver) =
    let shown : List Member = members s spans in
    no_buffer s (names_in spans) ∷ name_taken s name ∷ past_spans s spans ∷ mode_fault (len_now s) shown ∷ overlap_fault shown
    ∷ depth s.stock (count s + 1) (count s) (sources_in [] shown) ∷ no_hook hooks.resolvers resolver ∷ []
tests hooks s (Command.Elision name source hide resolver) =
    let b : ℕ = number s source in
    no_buffer s (source ∷ []) ∷ name_taken s name ∷ past (ends_of hide) (len_now s b) ∷ depth s.stock (count s + 1) (count s) (b ∷ []) ∷ no_hook hooks.resolvers resolver ∷ []
tests hooks s (Command.Edit name replaces at) =
    let b : ℕ = number s name in
    let pieces : List (ℕ × Piece) = pieces_of_edit s.stock b replaces in
    no_buffer s (name ∷ []) ∷ stale s b at ∷ past (map (λ r. r.start + r.len) replaces) (len_now s b) ∷ down_fault hooks s.stock pieces ∷ denial hooks s.stock (sent_down hooks s.stock pieces) ∷ []
tests hooks s (Command.Spans name first number_replaced spans at) =
    let b : ℕ = number s name in
    let added : List Member = members s spans in
    let shown : List Member = spans_replaced (members_of (record_now s b)) first number_replaced added in
    no_buffer s (name ∷ names_in spans) ∷ wrong_kind s b is_projection ∷ stale s b at ∷ past ((first + number_replaced) ∷ []) (length (members_of (record_now s b))) ∷ past_spans s spans
    ∷ mode_fault (len_now s) shown ∷ overlap_fault shown ∷ cycle s.stock b added ∷ depth s.stock (count s) b (sources_in [] shown) ∷ []
tests hooks s (Command.Elide name hide show at) =
    let b : ℕ = number s name in
    no_buffer s (name ∷ []) ∷ wrong_kind s b is_elision ∷ stale s b at ∷ past_source s b (ends_of hide ++ ends_of show) ∷ []
tests hooks s (Command.Region name start len edge mode query) =
    let b : ℕ = number s name in
    no_buffer s (name ∷ []) ∷ wrong_kind s b is_base ∷ past_now s b (start + len) ∷ no_hook hooks.queries query ∷ []
tests hooks s (Command.Unregion name region) = no_buffer s (name ∷ []) ∷ wrong_kind s (number s name) is_base ∷ no_region s (number s name) region ∷ []
tests hooks s (Command.Readonly name start len) = no_buffer s (name ∷ []) ∷ wrong_kind s (number s name) is_base ∷ past_now s (number s name) (start + len) ∷ []
tests hooks s (Command.Text name at) = no_buffer s (name ∷ []) ∷ no_version s (number s name) at ∷ []
tests hooks s (Command.Lines name at) = no_buffer s (name ∷ []) ∷ no_version s (number s name) at ∷ []
tests hooks s (Command.Changes name from) = no_buffer s (name ∷ []) ∷ no_version s (number s name) (Some (from + 1)) ∷ []
tests hooks s (Command.Versions name) = no_buffer s (name ∷ []) ∷ []
tests hooks s (Command.Point name p mode at to) =
    let b : ℕ = number s name in
    no_buffer s (name ∷ []) ∷ past_version s b at p ∷ no_version s b at ∷ no_version s b to ∷ []
tests hooks s (Command.Span name start len how at to) =
    let b : ℕ = number s name in
    no_buffer s (name ∷ []) ∷ past_version s b at (start + len) ∷ no_version s b at ∷ no_version s b to ∷ no_hook hooks.customs (custom_name how) ∷ []
tests hooks s (Command.Nearest name p) = no_buffer s (name ∷ []) ∷ wrong_kind s (number s name) is_elision ∷ past_source s (number s name) (p ∷ []) ∷ []

abbrev pub refusal : HookTable → State → Command → Option Refusal
refusal hooks s command = first_some (tests hooks s command)
