-- What is asked for before the stock decides.
use Rattle.std.specs.Prelude.{ℕ, ◌+◌, ◌<◌, ◌^◌, List, [], ◌∷◌, length, map, Option, Some, None, option_map, option_and_then, if◌then◌else◌}
use Rattle.ed_base.specs.declared.Member.{Member}
use Rattle.ed_base.specs.declared.Refusal.{Refusal}
use Rattle.ed_base.specs.declared.Replace.{Replace}
use Rattle.ed_base.specs.declared.ScriptSpan.{ScriptSpan}
use Rattle.ed_base.specs.declared.SpanMode.{SpanMode}
use Rattle.ed_base.specs.Hooks.{HookTable}
use Rattle.ed_base.specs.Numbers.{first_some}
use Rattle.ed_base.specs.ChangeList.{normal_form}
use Rattle.ed_base.specs.Spans.{end_of}
use Rattle.ed_change.specs.declared.ChangeFault.{ChangeFault}
use Rattle.ed_layers.specs.Records.{is_carrier, is_elision, members_of}
use Rattle.ed_entry.specs.declared.Reply.{Reply}
use Rattle.ed_machine.specs.State.{State, number_of, count, record_now}
use Rattle.ed_machine.specs.Accepted.{Outcome}
use Rattle.ed_machine.specs.Refusals.{wrong_kind, is_projection, stale, past, past_now, past_source, len_now}
use Rattle.ed_machine.specs.Step.{or_refused}
use Rattle.ed_core.specs.Deciding.{changes_outcome}

-- ---- members

abbrev pub tracked : ℕ → ℕ → SpanMode → ℕ → Member
tracked start len mode source = Member.Tracked source (record { start = start; len = len }) mode

-- the member that a span of a script asks for, where its buffer is there
abbrev pub member_asked : State → ScriptSpan → Option Member
member_asked s (ScriptSpan.Literal units) = Some (Member.Literal units)
member_asked s (ScriptSpan.Tracked name start len mode) = option_map (tracked start len mode) (number_of s name)

-- all of them
abbrev pub members_asked : State → List ScriptSpan → Option (List Member)
members_asked s [] = Some []
members_asked s (x ∷ xs) = option_and_then (λ m. option_map (λ ms. m ∷ ms) (members_asked s xs)) (member_asked s x)

-- the source is there
abbrev pub HasSource : State → Member → Type 0
HasSource s (Member.Literal units) = Unit {0}
HasSource s (Member.Tracked source bounds mode) = source < count s

-- a member that ends past the current text of its source, the first one
abbrev pub past_member : State → Member → Option Refusal
past_member s (Member.Literal units) = None
past_member s (Member.Tracked source bounds mode) = past_now s source (end_of bounds)

abbrev pub past_members : State → List Member → Option Refusal
past_members s members = first_some (map (past_member s) members)

-- ---- what is refused before

abbrev pub spans_refusal : State → ℕ → Option ℕ → ℕ → List Member → Option Refusal
spans_refusal s b at end members = first_some (wrong_kind s b is_projection ∷ stale s b at ∷ past (end ∷ []) (length (members_of (record_now s b))) ∷ past_members s members ∷ [])

-- `ends` are those of all spans, to hide and then to show
abbrev pub elide_refusal : State → ℕ → Option ℕ → List ℕ → Option Refusal
elide_refusal s b at ends = first_some (wrong_kind s b is_elision ∷ stale s b at ∷ past_source s b ends ∷ [])

-- what replaces are answered that have no change list, but for want of memory
abbrev pub form_told : ChangeFault → Option Reply
form_told (ChangeFault.OutOfRange end len) = Some (Reply.Refused (Refusal.OutOfRange end len))
form_told ChangeFault.OutOfMemory = None

-- the most units that one edit of a buffer puts in
abbrev pub most_put_in : State → ℕ → ℕ
most_put_in s b = if is_carrier (record_now s b) then 2 ^ 22 else 2 ^ 27

-- an edit of a buffer that is up to date
abbrev pub replaces_outcome : HookTable → State → ℕ → List Replace → Outcome
replaces_outcome hooks s b replaces = or_refused s (past (map (λ r. r.start + r.len) replaces) (len_now s b)) (changes_outcome hooks s b (normal_form replaces (len_now s b)))
