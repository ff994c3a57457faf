-- What the top call answers at words.
use Rattle.std.specs.Prelude.{◌≡◌, ◌⊎◌, List, Option, Some, None, Err as Bad}
use Rattle.gob_outside.specs.Files.{FilesNow}
use Rattle.gob_outside.specs.Sink.{SinkNow}
use Rattle.command_words.specs.Reading.{Word}
use Rattle.gobpie_main.specs.Analyse.{AnswersAnalyse}
use Rattle.gobpie_main.specs.Command.{command_of}
use Rattle.gobpie_main.specs.Fault.{Answer}
use Rattle.gobpie_main.specs.Load.{AnswersLoad}
use Rattle.gobpie_main.specs.Loading.{AsksFor}
use Rattle.gobpie_main.specs.Run.{AnswersRun, AsksForBoth}
use Rattle.gobpie_main.specs.Tell.{Tells}
use Rattle.gobpie_main.specs.declared.fault.Fault.TheVariants.{Usage, Memory}
use Rattle.gobpie_main.specs.declared.status.Status.{Status}
use Rattle.gobpie_main.specs.declared.words.BuiltCommand.{BuiltCommand}
use Rattle.gobpie_main.specs.declared.words.BuiltCommand.TheVariants.{Analyse, Run, Load}

-- all that may be answered to what the words ask for, and which files are asked for; words without a
-- reading get the usage, or want of memory
abbrev pub Answers : Option BuiltCommand → Answer → FilesNow → FilesNow → Type 0
Answers None answer before after = ((answer ≡ Bad Usage) ⊎ (answer ≡ Bad Memory)) × (after ≡ before)
Answers (Some (Analyse file budget)) answer before after =
    AnswersAnalyse file budget answer before after × AsksFor file before after
Answers (Some (Run file schedule)) answer before after =
    AnswersRun file schedule answer before after × AsksForBoth file schedule before after
Answers (Some (Load number functions)) answer before after =
    AnswersLoad number functions answer × (after ≡ before)

-- what the words ask for was answered over the files, and the sink and the status tell the answer
pub record AnswersWords (words : List Word) (status : Status)
    (files files' : FilesNow) (sink sink' : SinkNow) : Type 0 where
  pub answer : Answer
  pub answers : Answers (command_of words) answer files files'
  pub told : Tells answer status sink sink'
