-- The numbers that are limited over all buffers.
use Rattle.std.specs.Prelude.{ℕ, ◌+◌, length, count_by, Option, Some, None}
use Rattle.ed_layers.specs.Records.{Record, is_tracked, members_of}
use Rattle.ed_stock.specs.Stock.{Stock, Buffer, buffer, record_now, with_buffer}

-- the tracked members of a record
abbrev pub tracked_in : Record → ℕ
tracked_in r = count_by is_tracked (members_of r)

-- the members of a buffer's current version
abbrev pub member_count : Stock → ℕ → ℕ
member_count s c = length (members_of (record_now s c))

-- a buffer whose members were set once more
abbrev pub turn : Buffer → Buffer
turn x = record x { turns = x.turns + 1 }

abbrev pub turned_in : Stock → Option ℕ → Stock
turned_in s None = s
turned_in s (Some b) = with_buffer s b (turn (buffer s b))
