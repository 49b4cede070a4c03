-- How events are printed: the word of the command, with the name that it gives, else that of the buffer that it names.
use Rattle.std.specs.Prelude.{ℕ, List, ◌++◌, codes}
use Rattle.ed_script.specs.declared.Command.{Command}
use Rattle.ed_entry.specs.declared.Event.{Event}

abbrev pub command_text : Command → List ℕ
command_text (Command.Buffer name text) = codes "buffer " ++ name
command_text (Command.Projection name spans resolver) = codes "projection " ++ name
command_text (Command.Elision name buffer hide resolver) = codes "elision " ++ name
command_text (Command.Edit buffer replaces at) = codes "edit " ++ buffer
command_text (Command.Spans buffer first count spans at) = codes "spans " ++ buffer
command_text (Command.Elide buffer hide show at) = codes "elide " ++ buffer
command_text (Command.Region buffer start len edge mode query) = codes "region " ++ buffer
command_text (Command.Unregion buffer region) = codes "unregion " ++ buffer
command_text (Command.Readonly buffer start len) = codes "readonly " ++ buffer
command_text (Command.Text buffer at) = codes "text " ++ buffer
command_text (Command.Lines buffer at) = codes "lines " ++ buffer
command_text (Command.Changes buffer from) = codes "changes " ++ buffer
command_text (Command.Versions buffer) = codes "versions " ++ buffer
command_text (Command.Point buffer p mode at to) = codes "point " ++ buffer
command_text (Command.Span buffer start len how at to) = codes "span " ++ buffer
command_text (Command.Nearest buffer p) = codes "nearest " ++ buffer

abbrev pub event_text : Event → List ℕ
event_text (Event.Told command) = command_text command
