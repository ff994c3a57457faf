-- Want of memory answers every command for which no file was asked.
use Rattle.std.proofs.Common.{Option, None, Some, Err as Bad, refl, inl, inr}
use Rattle.gob_outside.specs.Files.{FilesNow}
use Rattle.gobpie_main.specs.Batch.{Answers}
use Rattle.gobpie_main.specs.declared.fault.Fault.TheVariants.{Memory}
use Rattle.gobpie_main.specs.declared.words.BuiltCommand.{BuiltCommand}
use Rattle.gobpie_main.specs.declared.words.BuiltCommand.TheVariants.{Analyse, Run, Load}
use Rattle.gobpie_main.proofs.Loads.{asks_nothing}

pub memory_answers : (command : Option BuiltCommand) (files : FilesNow) → Answers command (Bad Memory) files files
memory_answers None files = (inr refl, refl)
memory_answers (Some (Analyse file budget)) files = (inl tt, asks_nothing file files)
memory_answers (Some (Run file schedule)) files = (inl tt, (files, asks_nothing file files, asks_nothing schedule files))
memory_answers (Some (Load number functions)) files = (tt, refl)
