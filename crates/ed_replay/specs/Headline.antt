-- The main theorem.
use Rattle.std.specs.Prelude.{◌≡◌, ◌≢◌, ◌≤◌, ◌⊎◌, ℕ, ◌+◌, ◌^◌, Bool, true, false, List, [], length, Option, Some, None}
use Rattle.ed_io.specs.Bytes.{Took, NoneLeft}
use Rattle.ed_base.specs.Hooks.{HookTable}
use Rattle.ed_script.specs.declared.BadLine.{BadLine}
use Rattle.ed_script.specs.Script.{script_of}
use Rattle.ed_machine.specs.History.{IsLegal, alone}
use Rattle.ed_render.specs.Lines.{render}
use Rattle.ed_replay.specs.declared.report.Status.{Status}
use Rattle.ed_replay.specs.Lawful.{AreLawful}
use Rattle.ed_replay.specs.Calls.{Call, ReadFailed, WriteFailed, WrittenAs, DoneAs}

-- When each status may come. `bad` is the first bad line that the bytes read name.
abbrev pub HasCause : Call → Bool → Option BadLine → Status → Type 0
HasCause c ended bad Status.Done = (ended ≡ true) × (bad ≡ None)
HasCause c ended bad (Status.BadScript line kind) = bad ≡ Some (record { line = line; kind = kind })
HasCause c ended bad Status.ReadFault = (ended ≡ false) × ReadFailed c
HasCause c ended bad Status.WriteFault = WriteFailed c
HasCause c ended bad Status.Memory = Unit {0}
HasCause c ended bad Status.Usage = ⊥

-- The replay of a script, with the rules of these hooks: there are the bytes read, and whether the input was read to its end, such that all this holds.
pub record Replays (hooks : HookTable) (c : Call) : Type 0 where
  pub read : List ℕ
  pub ended : Bool
  pub took : Took c.left_before read c.left_after
  -- no more bytes are read than tell whether the script is too long
  pub bound : length read ≤ 2 ^ 20 + 1
  -- the entries are a legal history, in each state of which the laws of versions hold, and what was written is their lines
  pub legal : IsLegal hooks c.entries
  pub lawful : AreLawful hooks c.entries
  pub lines : WrittenAs c.status (render c.entries) c.held_before c.held_after
  -- they are those of the commands of the bytes read, told one after another
  pub commands : DoneAs c.status c.entries (alone hooks (script_of read ended).commands)
  -- when the input was read to its end
  pub end_met : ended ≡ true → NoneLeft c.left_after
  pub end_not_met : ended ≡ false → ReadFailed c ⊎ (c.status ≡ Status.Memory) ⊎ ((script_of read false).bad ≢ None)
  -- each status has its cause
  pub cause : HasCause c ended (script_of read ended).bad c.status
  pub bad_line : (bad : BadLine) → (script_of read ended).bad ≡ Some bad → ¬ ReadFailed c → ¬ WriteFailed c → (c.status ≡ Status.BadScript bad.line bad.kind) ⊎ (c.status ≡ Status.Memory)
  pub complete : (script_of read ended).bad ≡ None → ¬ ReadFailed c → ¬ WriteFailed c → (c.status ≡ Status.Done) ⊎ (c.status ≡ Status.Memory)

-- nothing was read, written or done
pub record DidNothing (c : Call) : Type 0 where
  pub read : c.left_after ≡ c.left_before
  pub read_faults : c.source_faults_after ≡ c.source_faults_before
  pub written : c.held_after ≡ c.held_before
  pub write_faults : c.sink_faults_after ≡ c.sink_faults_before
  pub entries : c.entries ≡ []

-- what the words of a command line ask for
pub data Asked : Type 0 where
  replay : Asked
  nothing_known : Asked

-- The main theorem. Words other than the one word `replay` are wrong, and then nothing is done.
abbrev pub Headline : HookTable → Asked → Call → Type 0
Headline hooks replay c = (c.status ≢ Status.Usage) × Replays hooks c
Headline hooks nothing_known c = (c.status ≡ Status.Usage) × DidNothing c
