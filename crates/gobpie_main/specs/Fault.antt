-- What a command answers, and the status and the line of each fault. A line ends with LF.
use Rattle.std.specs.Prelude.{ℕ, List, ◌++◌, codes, decimal, Result}
use Rattle.std.specs.Global.{Vec}
use Rattle.c_check.specs.declared.fault.FrontFault.{FrontFault}
use Rattle.c_check.specs.declared.fault.FrontKind.{FrontKind}
use Rattle.c_check.specs.declared.fault.FrontKind.TheVariants as kinds
use Rattle.gobpie_main.specs.declared.fault.Fault.{Fault}
use Rattle.gobpie_main.specs.declared.fault.Fault.TheVariants.{Usage, ReadFault, Refused, BadLine, Spent, Memory}
use Rattle.gobpie_main.specs.declared.status.Status.{Status}
use Rattle.gobpie_main.specs.declared.status.Status.TheVariants as statuses

-- its lines, or the fault for which there are none
abbrev pub Answer : Type 0
Answer = Result (Vec ℕ) Fault

abbrev pub status_of : Fault → Status
status_of Usage = statuses.Usage
status_of ReadFault = statuses.ReadFault
status_of (Refused fault) = statuses.SourceRefused
status_of (BadLine line) = statuses.ScriptRefused
status_of (Spent turns) = statuses.Spent
status_of Memory = statuses.Memory

abbrev pub kind_text : FrontKind → List ℕ
kind_text kinds.TooLong = codes "TooLong"
kind_text kinds.NotText = codes "NotText"
kind_text kinds.BadCharacter = codes "BadCharacter"
kind_text kinds.OpenComment = codes "OpenComment"
kind_text kinds.BadLiteral = codes "BadLiteral"
kind_text kinds.Unsupported = codes "Unsupported"
kind_text kinds.Unexpected = codes "Unexpected"
kind_text kinds.TooDeep = codes "TooDeep"
kind_text kinds.Undeclared = codes "Undeclared"
kind_text kinds.Redeclared = codes "Redeclared"
kind_text kinds.WrongKind = codes "WrongKind"
kind_text kinds.WrongArity = codes "WrongArity"
kind_text kinds.NoMain = codes "NoMain"
kind_text kinds.Limit = codes "Limit"
kind_text kinds.Memory = codes "Memory"

-- `refused L:C KIND`
abbrev pub refused_line : FrontFault → List ℕ
refused_line fault =
    codes "refused " ++ decimal fault.place.line ++ codes ":" ++ decimal fault.place.column
    ++ codes " " ++ kind_text fault.kind ++ codes "\n"

abbrev pub fault_line : Fault → List ℕ
fault_line Usage = codes "usage: gobpie analyse|run|replay|load|debug|serve\n"
fault_line ReadFault = codes "read fault\n"
fault_line (Refused fault) = refused_line fault
fault_line (BadLine line) = codes "script " ++ decimal line ++ codes "\n"
fault_line (Spent turns) = codes "spent " ++ decimal turns ++ codes "\n"
fault_line Memory = codes "memory\n"
