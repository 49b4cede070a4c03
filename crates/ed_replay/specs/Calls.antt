-- A call that reads a script from a source and writes its replies to a sink.
use Rattle.std.specs.Prelude.{◌≡◌, ℕ, List, [], Option}
use mathlib.Core.List.{IsPrefix}
use Rattle.ed_io.specs.Faults.{Rose}
use Rattle.ed_io.specs.Bytes.{Added, AddedFront}
use Rattle.ed_entry.specs.declared.Entry.{Entry}
use Rattle.ed_replay.specs.declared.report.Status.{Status}

-- what the source has left and the sink holds, where they tell it, and their counts of faults, before and after; and what was answered
pub record Call : Type 0 where
  pub left_before : Option (List ℕ)
  pub left_after : Option (List ℕ)
  pub source_faults_before : ℕ
  pub source_faults_after : ℕ
  pub held_before : Option (List ℕ)
  pub held_after : Option (List ℕ)
  pub sink_faults_before : ℕ
  pub sink_faults_after : ℕ
  pub status : Status
  pub entries : List Entry

abbrev pub ReadFailed : Call → Type 0
ReadFailed c = Rose c.source_faults_before c.source_faults_after

abbrev pub WriteFailed : Call → Type 0
WriteFailed c = Rose c.sink_faults_before c.sink_faults_after

-- What was written, by the status: the whole output, or a beginning of it after a failed write and for want of memory.
abbrev pub WrittenAs : Status → List ℕ → Option (List ℕ) → Option (List ℕ) → Type 0
WrittenAs Status.Usage output before after = Added before [] after
WrittenAs Status.WriteFault output before after = AddedFront before output after
WrittenAs Status.Memory output before after = AddedFront before output after
WrittenAs _ output before after = Added before output after

-- What was done, by the status: all, or a beginning of it for want of memory. Nothing is done after a failed read.
abbrev pub DoneAs : Status → List Entry → List Entry → Type 0
DoneAs Status.Usage entries all = entries ≡ []
DoneAs Status.ReadFault entries all = entries ≡ []
DoneAs Status.Memory entries all = IsPrefix entries all
DoneAs _ entries all = entries ≡ all
