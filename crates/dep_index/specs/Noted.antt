-- What readers read.
use Rattle.std.specs.Prelude.{List, [], Option, None, Some, if◌then◌else◌}
use Rattle.std.specs.Map.{lookup}
use Rattle.constraint_sys.specs.Table.{unknown_eq}
use Rattle.constraint_sys.specs.declared.unknown.Unknown.{Unknown}

-- readers with what they read
abbrev pub Notes : Type 0
Notes = List (Unknown × List Unknown)

abbrev pub list_of : Option (List Unknown) → List Unknown
list_of None = []
list_of (Some xs) = xs

-- what a reader reads; one without a note reads nothing
abbrev pub reads_of : Notes → Unknown → List Unknown
reads_of notes q = list_of (lookup (unknown_eq q) notes)

-- what each reader reads after one was noted anew
abbrev pub noted : Notes → Unknown → List Unknown → Unknown → List Unknown
noted notes reader reads q = if unknown_eq q reader then reads else reads_of notes q
