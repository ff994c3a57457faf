-- What `run` answers for a file and a schedule.
--
-- A reader should check the order of the causes: both files are loaded, whatever the first load gave;
-- a load that failed comes first, then what is wrong with the source, then the schedule's first bad
-- line, then the run.
use Rattle.std.specs.Prelude.{◌≡◌, ◌⊎◌, ℕ, nat_le, List, length, Result, Ok as Good, Err as Bad, IsErrAnd, if◌then◌else◌}
use Rattle.gob_tree.specs.declared.unit.Unit.{Unit as TranslationUnit}
use Rattle.gob_outside.specs.Files.{FilesNow, IsTextOf}
use Rattle.c_source.specs.declared.source.Source.{Source}
use Rattle.c_meaning.specs.declared.config.Choice.{Choice}
use Rattle.c_check.specs.Front.{IsSourceOf}
use Rattle.run_lines.specs.Lines.{run_lines}
use Rattle.run_lines.specs.Schedule.{schedule_of}
use Rattle.gobpie_main.specs.Fault.{Answer}
use Rattle.gobpie_main.specs.Loading.{AsksFor, IsLoadFault, IsRefusedBy}
use Rattle.gobpie_main.specs.declared.run.TheConstants.{SCHEDULE_LIMIT}
use Rattle.gobpie_main.specs.declared.fault.Fault.{Fault}
use Rattle.gobpie_main.specs.declared.fault.Fault.TheVariants.{Usage, ReadFault, Refused, BadLine, Spent, Memory}

-- The choices of a schedule, which has at most 4,194,304 bytes; or the number of its first bad line,
-- 0 where it is longer.
abbrev pub schedule_in : List ℕ → Result (List Choice) ℕ
schedule_in text = if nat_le (length text) SCHEDULE_LIMIT then schedule_of text else Bad 0

-- why a schedule has no choices
abbrev pub IsScheduleFault : List ℕ → Fault → Type 0
IsScheduleFault schedule Usage = ⊥
IsScheduleFault schedule ReadFault = ⊥
IsScheduleFault schedule (Refused fault) = ⊥
IsScheduleFault schedule (BadLine line) = schedule_in schedule ≡ Bad line
IsScheduleFault schedule (Spent turns) = ⊥
IsScheduleFault schedule Memory = Unit {0}

-- the bytes are the lines of the unit's run by the choices of the schedule
abbrev pub Runs : TranslationUnit → List ℕ → List ℕ → Type 0
Runs unit schedule bytes =
    (choices : List Choice) × (schedule_in schedule ≡ Good choices)
    × (bytes ≡ run_lines unit choices)

-- the first text has a source, of whose unit the bytes are the lines of a run by the second
abbrev pub TextRuns : List ℕ → List ℕ → List ℕ → Type 0
TextRuns text schedule bytes =
    (source : Source) × IsSourceOf text source × Runs source.unit schedule bytes

-- all that may be answered of a text and a schedule
abbrev pub IsRunOf : List ℕ → List ℕ → Answer → Type 0
IsRunOf text schedule (Good lines) = TextRuns text schedule lines.items
IsRunOf text schedule (Bad Usage) = ⊥
IsRunOf text schedule (Bad ReadFault) = ⊥
IsRunOf text schedule (Bad (Refused fault)) = IsRefusedBy text fault
IsRunOf text schedule (Bad (BadLine line)) =
    (source : Source) × IsSourceOf text source × (schedule_in schedule ≡ Bad line)
IsRunOf text schedule (Bad (Spent turns)) = ⊥
IsRunOf text schedule (Bad Memory) = Unit {0}

-- the answer is of a text and of a schedule, which are the files' own where the files tell them
abbrev pub RunsTexts : List ℕ → List ℕ → Answer → FilesNow → Type 0
RunsTexts file schedule answer files =
    (text choices : List ℕ) × IsTextOf files file text × IsTextOf files schedule choices
    × IsRunOf text choices answer

-- one of the two wasn't loaded; or the answer is of both
abbrev pub AnswersRun : List ℕ → List ℕ → Answer → FilesNow → FilesNow → Type 0
AnswersRun file schedule answer before after =
    IsErrAnd answer (IsLoadFault file before after)
    ⊎ IsErrAnd answer (IsLoadFault schedule before after)
    ⊎ RunsTexts file schedule answer before

-- the file and then the schedule were asked for, each once at most, and no other
abbrev pub AsksForBoth : List ℕ → List ℕ → FilesNow → FilesNow → Type 0
AsksForBoth file schedule before after =
    (between : FilesNow) × AsksFor file before between × AsksFor schedule between after
