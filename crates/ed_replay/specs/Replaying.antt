-- The parts of a replay, after the input was read.
use Rattle.std.specs.Prelude.{◌≡◌, ◌⊎◌, ℕ, Bool, List, Option, Some, None}
use Rattle.ed_base.specs.Hooks.{HookTable}
use Rattle.ed_script.specs.declared.BadLine.{BadLine}
use Rattle.ed_script.specs.Script.{script_of}
use Rattle.ed_entry.specs.declared.Entry.{Entry}
use Rattle.ed_machine.specs.History.{alone}
use Rattle.ed_render.specs.Lines.{render}
use Rattle.ed_replay.specs.declared.report.Status.{Status}
use Rattle.ed_replay.specs.Calls.{WrittenAs, DoneAs}

-- how a replay ends whose history was written whole
abbrev pub ending : Option BadLine → Status
ending None = Status.Done
ending (Some bad) = Status.BadScript bad.line bad.kind

-- it ends so, or by a failed write, or for want of memory
abbrev pub EndsAs : Status → Type 0 → Status → Type 0
EndsAs usual failed status = (status ≡ usual) ⊎ ((status ≡ Status.WriteFault) × failed) ⊎ (status ≡ Status.Memory)

-- what was done and written, by the status, where `all` is what there was to do
pub record Performs (all : List Entry) (before after : Option (List ℕ)) (usual : Status) (failed : Type 0) (status : Status) (entries : List Entry) : Type 0 where
  pub done : DoneAs status entries all
  pub lines : WrittenAs status (render entries) before after
  pub ends : EndsAs usual failed status

-- the same for a script of these bytes
abbrev pub Plays : HookTable → List ℕ → Bool → Option (List ℕ) → Option (List ℕ) → Type 0 → Status → List Entry → Type 0
Plays hooks bytes ended before after failed status entries = Performs (alone hooks (script_of bytes ended).commands) before after (ending (script_of bytes ended).bad) failed status entries
