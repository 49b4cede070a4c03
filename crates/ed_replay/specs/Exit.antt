-- The exit statuses of the program.
use Rattle.std.specs.Prelude.{ℕ}
use Rattle.ed_replay.specs.declared.report.Status.{Status}

abbrev pub exit_code : Status → ℕ
exit_code Status.Done = 0
exit_code Status.Usage = 2
exit_code (Status.BadScript line kind) = 3
exit_code Status.ReadFault = 4
exit_code Status.WriteFault = 5
exit_code Status.Memory = 6
