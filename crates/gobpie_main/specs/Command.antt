-- The reading of words, cut to the commands that are built.
use Rattle.std.specs.Prelude.{List, Option, Some, None, option_and_then, IsUtf8}
use Rattle.command_words.specs.Reading.{Word}
use Rattle.command_words.specs.CommandLines.{command_reading}
use Rattle.command_words.specs.declared.line.CommandLine.{CommandLine}
use Rattle.command_words.specs.declared.line.CommandLine.TheVariants as lines
use Rattle.gobpie_main.specs.Load.{IsFewFunctions}
use Rattle.gobpie_main.specs.declared.words.BuiltCommand.{BuiltCommand}
use Rattle.gobpie_main.specs.declared.words.BuiltCommand.TheVariants.{Analyse, Run, Load}

-- the command that a line asks for, if it is built
abbrev pub built_of : CommandLine → Option BuiltCommand
built_of (lines.Analyse file budget) = Some (Analyse file budget)
built_of (lines.Run file schedule) = Some (Run file schedule)
built_of (lines.Replay script) = None
built_of (lines.Load number functions) = Some (Load number functions)
built_of (lines.Debug file budget) = None
built_of (lines.Serve file hands rounds port budget) = None

-- a command that isn't built yet has no reading
abbrev pub command_of : List Word → Option BuiltCommand
command_of words = option_and_then built_of (command_reading words)

-- names of files are UTF-8, and a generated program has 1 to 120 functions
abbrev pub IsProper : BuiltCommand → Type 0
IsProper (Analyse file budget) = IsUtf8 file
IsProper (Run file schedule) = IsUtf8 file × IsUtf8 schedule
IsProper (Load number functions) = IsFewFunctions functions
