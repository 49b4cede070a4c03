-- What contracts see of the source and the sink in memory.
use Rattle.std.specs.Prelude.{ℕ, ◌-◌, List, min, length, Contains}
use Rattle.ed_io.specs.Faults.{raised}

-- how a source or a sink in memory answers its calls
pub record Calls : Type 0 where
  -- at most so many bytes move in a call
  pub piece : ℕ
  -- the calls that fail, counted from 1
  pub fail_at : List ℕ
  -- the calls made so far
  pub made : ℕ
  -- the calls that failed so far
  pub faults : ℕ

-- the number of the next call, counted from 1; it stands still at its last value, 2 ^ 64 - 1
abbrev pub next_call : Calls → ℕ
next_call calls = raised calls.made

-- the next call is one of those that fail
abbrev pub FailsNext : Calls → Type 0
FailsNext calls = Contains calls.fail_at (next_call calls)

-- after a call that was answered
abbrev pub after_answer : Calls → Calls
after_answer calls = record calls { made = next_call calls }

-- after a call that failed
abbrev pub after_failure : Calls → Calls
after_failure calls = record calls { made = next_call calls; faults = raised calls.faults }

-- a source in memory: the bytes that it has left
pub record SourceMemory : Type 0 where
  pub left : List ℕ
  pub calls : Calls

-- a sink in memory: the bytes that it holds, and how many it can hold
pub record SinkMemory : Type 0 where
  pub held : List ℕ
  pub room : ℕ
  pub calls : Calls

-- how many bytes a read into room for so many moves, unless it fails
abbrev pub read_count : SourceMemory → ℕ → ℕ
read_count source into_len = min (min into_len source.calls.piece) (length source.left)

-- how many bytes the sink can still take
abbrev pub room_left : SinkMemory → ℕ
room_left sink = sink.room - length sink.held

-- how many bytes a write of so many moves, unless it fails
abbrev pub write_count : SinkMemory → ℕ → ℕ
write_count sink piece_len = min (min piece_len sink.calls.piece) (room_left sink)
