-- The exit status of each way to end.
use Rattle.std.specs.Prelude.{ℕ}
use Rattle.gobpie_main.specs.declared.status.Status.{Status}
use Rattle.gobpie_main.specs.declared.status.Status.TheVariants.{Ok, Usage, ReadFault, WriteFault, SourceRefused, Protocol, Spent, TableRefused, Memory, AcceptFault, ScriptRefused}

abbrev pub exit_number : Status → ℕ
exit_number Ok = 0
exit_number Usage = 2
exit_number ReadFault = 3
exit_number WriteFault = 4
exit_number SourceRefused = 5
exit_number Protocol = 6
exit_number Spent = 7
exit_number TableRefused = 8
exit_number Memory = 9
exit_number AcceptFault = 10
exit_number ScriptRefused = 11
