-- The words among the arguments of a program, and what the program answers them.
use Rattle.std.specs.Prelude.{◌≡◌, ℕ, List, Option, IfSome, drop}
use Rattle.gob_outside.specs.Files.{FilesNow}
use Rattle.gob_outside.specs.Sink.{SinkNow}
use Rattle.gobpie_main.specs.Batch.{AnswersWords}
use Rattle.gobpie_main.specs.Status.{exit_number}
use Rattle.gobpie_main.specs.declared.status.Status.{Status}

-- all arguments but the first, where they are told
abbrev pub IsWordsOf : Option (List (List ℕ)) → List (List ℕ) → Type 0
IsWordsOf told words = IfSome told (λ all. words ≡ drop 1 all)

-- the exit status is the number of the status that answers the words among the arguments
pub record AnswersArguments (told : Option (List (List ℕ))) (exit : ℕ)
    (files files' : FilesNow) (sink sink' : SinkNow) : Type 0 where
  pub words : List (List ℕ)
  pub status : Status
  pub words_are : IsWordsOf told words
  pub exit_is : exit ≡ exit_number status
  pub answers : AnswersWords words status files files' sink sink'
