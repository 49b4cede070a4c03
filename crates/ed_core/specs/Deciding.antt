-- What is done where the stock decides, by the number of the buffer.
use Rattle.std.specs.Prelude.{ℕ, List, [], ◌∷◌, Result, Ok, Err, Option, Some, None}
use Rattle.ed_base.specs.declared.Change.{Change}
use Rattle.ed_base.specs.declared.Member.{Member}
use Rattle.ed_base.specs.declared.Span.{Span}
use Rattle.ed_base.specs.ChangeList.{ChangeList}
use Rattle.ed_base.specs.Hooks.{HookTable}
use Rattle.ed_layers.specs.Records.{base}
use Rattle.ed_stock.specs.Making.{elide_set, elision_of, projection_of, spans_set}
use Rattle.ed_group.specs.declared.PlanFault.{PlanFault}
use Rattle.ed_group.specs.declared.BufferEdit.{BufferEdit}
use Rattle.ed_group.specs.Answers.{base_fault, elision_fault, hidden_fault, projection_fault, spans_fault}
use Rattle.ed_group.specs.EditedStock.{edits_fault, edits_landed}
use Rattle.ed_climb.specs.Group.{Plan}
use Rattle.ed_entry.specs.declared.Reply.{Reply}
use Rattle.ed_machine.specs.State.{State}
use Rattle.ed_machine.specs.Accepted.{Outcome, answers, made, edited_to}
use Rattle.ed_machine.specs.Step.{or_refused}

-- ---- what an answer of the stock tells, but for want of memory

abbrev pub fault_told : PlanFault → Option Reply
fault_told (PlanFault.Refused r) = Some (Reply.Refused r)
fault_told PlanFault.OutOfMemory = None

abbrev pub told : {X : Type 0} → (X → Reply) → Result X PlanFault → Option Reply
told reply (Ok x) = Some (reply x)
told reply (Err fault) = fault_told fault

abbrev pub buffer_told : Result ℕ PlanFault → Option Reply
buffer_told added = told Reply.Made added

abbrev pub edited : Plan → Reply
edited g = Reply.Edited g.versions

abbrev pub group_told : Result Plan PlanFault → Option Reply
group_told planned = told edited planned

-- ---- new buffers

abbrev pub base_outcome : State → List ℕ → List ℕ → Outcome
base_outcome s name text = or_refused s (base_fault s.stock text) (made s name (base text 0) None)

abbrev pub projection_outcome : State → List ℕ → List Member → Option (List ℕ) → Outcome
projection_outcome s name members resolver = or_refused s (projection_fault s.stock members) (made s name (projection_of s.stock members) resolver)

abbrev pub elision_outcome : State → List ℕ → ℕ → List Span → Option (List ℕ) → Outcome
elision_outcome s name source hide resolver = or_refused s (elision_fault s.stock source hide) (made s name (elision_of s.stock source hide) resolver)

-- ---- new versions

-- an edit of one buffer alone
abbrev pub one_edit : ℕ → ChangeList → List BufferEdit
one_edit b c = record { buffer = b; changes = c } ∷ []

abbrev pub edit_outcome : HookTable → State → ℕ → ChangeList → Outcome
edit_outcome hooks s b c = or_refused s (edits_fault hooks s.stock (one_edit b c)) (edited_to s (edits_landed hooks s.stock (one_edit b c)))

-- a change list without a change makes no version
abbrev pub changes_outcome : HookTable → State → ℕ → ChangeList → Outcome
changes_outcome hooks s b c = by_changes c.changes
  where
    by_changes : List Change → Outcome
    by_changes [] = answers s (Reply.Edited [])
    by_changes (x ∷ xs) = edit_outcome hooks s b c

abbrev pub spans_outcome : State → ℕ → ℕ → ℕ → List Member → Outcome
spans_outcome s b first removed added = or_refused s (spans_fault s.stock b first removed added) (edited_to s (spans_set s.stock b first removed added))

abbrev pub hidden_outcome : State → ℕ → List Span → List Span → Outcome
hidden_outcome s b hide show = or_refused s (hidden_fault s.stock b hide show) (edited_to s (elide_set s.stock b hide show))
