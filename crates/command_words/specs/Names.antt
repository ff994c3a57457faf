-- The names in a command line.
use Rattle.std.specs.Prelude.{IsUtf8}
use Rattle.command_words.specs.declared.line.CommandLine.{CommandLine}
use Rattle.command_words.specs.declared.line.CommandLine.TheVariants.{Analyse, Run, Replay, Load, Debug, Serve}

-- each name of a file is UTF-8
abbrev pub NamesAreText : CommandLine → Type 0
NamesAreText (Analyse file budget) = IsUtf8 file
NamesAreText (Run file schedule) = IsUtf8 file × IsUtf8 schedule
NamesAreText (Replay script) = IsUtf8 script
NamesAreText (Load seed functions) = Unit {0}
NamesAreText (Debug file budget) = IsUtf8 file
NamesAreText (Serve file hands rounds port budget) = IsUtf8 file
