-- The commands of a script, up to its first bad line.
use Rattle.std.specs.Prelude.{◌≡◌, ℕ, ◌+◌, ◌^◌, Bool, List, [], ◌∷◌, ◌++◌, length, nat_lt, Option, Some, None, option_map, Result, Ok, Err, if◌then◌else◌}
use Rattle.std.specs.Str.{is_utf8}
use Rattle.serde_json.specs.Data.{Data}
use Rattle.serde_json.specs.Read.{read as read_text}
use Rattle.ed_script.specs.declared.kinds.Command.{Command}
use Rattle.ed_script.specs.declared.bad.BadKind.{BadKind}
use Rattle.ed_script.specs.declared.bad.BadLine.{BadLine}
use Rattle.ed_script.specs.declared.reader.Script.{Script as Found}
use Rattle.ed_script.specs.Lines.{lines_of, is_blank}
use Rattle.ed_script.specs.Words.{command_of}

-- the value that the bytes are, where they are text and JSON (RFC 8259)
unfoldable pub value_of : List ℕ → Option Data
value_of line = if is_utf8 line then read_text line else None

-- what a line gives: nothing where it is blank, a command, or why it is bad
unfoldable pub line_command : List ℕ → Result (Option Command) BadKind
line_command line = if is_blank line then Ok None else command_or_bad (option_map command_of (value_of line))
  where
    command_or_bad : Option (Option Command) → Result (Option Command) BadKind
    command_or_bad None = Err BadKind.NotJson
    command_or_bad (Some None) = Err BadKind.NotCommand
    command_or_bad (Some (Some c)) = Ok (Some c)

-- the commands before the first bad line, and that line with its kind, if there is one
pub record Script : Type 0 where
  pub commands : List Command
  pub bad : Option BadLine

abbrev pub no_commands : Script
no_commands = record { commands = []; bad = None }

abbrev pub bad_at : ℕ → BadKind → Script
bad_at number kind = record { commands = []; bad = Some (record { line = number; kind = kind }) }

-- the command of a line, if it gives one
abbrev pub listed : Option Command → List Command
listed None = []
listed (Some c) = c ∷ []

-- what a line gives, before what stands after it
abbrev pub then_script : ℕ → Result (Option Command) BadKind → Script → Script
then_script number (Ok o) after = record { commands = listed o ++ after.commands; bad = after.bad }
then_script number (Err kind) after = bad_at number kind

-- what stands after the last line end is a line where the input has ended, and else nothing
abbrev pub last_line : Bool → ℕ → List ℕ → Script
last_line ended number [] = no_commands
last_line ended number (b ∷ bytes) = if ended then then_script number (line_command (b ∷ bytes)) no_commands else no_commands

abbrev pub script_from : Bool → ℕ → List (List ℕ) → List ℕ → Script
script_from ended number [] rest = last_line ended number rest
script_from ended number (line ∷ lines) rest = then_script number (line_command line) (script_from ended (number + 1) lines rest)

-- what the bytes from a line's start on give
abbrev pub unread : Bool → ℕ → List ℕ → Script
unread ended number bytes = script_from ended number (lines_of bytes).ended (lines_of bytes).rest

-- An input of more than 2 ^ 20 bytes is refused as a whole.
unfoldable pub script_of : List ℕ → Bool → Script
script_of bytes ended = if nat_lt (2 ^ 20) (length bytes) then bad_at 1 BadKind.NotCommand else unread ended 1 bytes

-- the script that begins with these commands
abbrev pub with_commands : List Command → Script → Script
with_commands commands after = record { commands = commands ++ after.commands; bad = after.bad }

-- what was read is this script
abbrev pub IsScript : Found → Script → Type 0
IsScript found script = (found.commands.items ≡ script.commands) × (found.bad ≡ script.bad)
