-- What a sink gets of an answer, and the status that says so.
use Rattle.std.specs.Prelude.{◌≡◌, ◌⊎◌, ℕ, List, [], ◌++◌, take, option_map, Ok as Good, Err as Bad}
use Rattle.gob_outside.specs.Count.{Rose}
use Rattle.gob_outside.specs.Sink.{SinkNow}
use Rattle.gobpie_main.specs.Fault.{Answer, fault_line, status_of}
use Rattle.gobpie_main.specs.declared.fault.Fault.{Fault}
use Rattle.gobpie_main.specs.declared.fault.Fault.TheVariants.{Memory}
use Rattle.gobpie_main.specs.declared.status.Status.{Status}
use Rattle.gobpie_main.specs.declared.status.Status.TheVariants.{Ok, WriteFault}

-- just these bytes were written, and no write failed
pub record Wrote (before after : SinkNow) (bytes : List ℕ) : Type 0 where
  pub bytes_are : after.written ≡ option_map (λ old. old ++ bytes) before.written
  pub fine : after.faults ≡ before.faults

-- a write failed, and a beginning of these bytes was written
pub record CutShort (before after : SinkNow) (bytes : List ℕ) : Type 0 where
  pub sent : ℕ
  pub bytes_are : after.written ≡ option_map (λ old. old ++ take sent bytes) before.written
  pub failed : Rose before.faults after.faults

-- these bytes were written as far as the sink took them
abbrev pub Said : SinkNow → SinkNow → List ℕ → Type 0
Said before after bytes = Wrote before after bytes ⊎ CutShort before after bytes

-- Ok where just these lines were written; WriteFault where a write failed and they were cut short
abbrev pub TellsLines : List ℕ → Status → SinkNow → SinkNow → Type 0
TellsLines lines status before after =
    ((status ≡ Ok) × Wrote before after lines)
    ⊎ ((status ≡ WriteFault) × CutShort before after lines)

-- the status of the fault, where the lines and then the fault's line were said
abbrev pub Ends : List ℕ → Fault → Status → SinkNow → SinkNow → Type 0
Ends lines fault status before after =
    (status ≡ status_of fault) × Said before after (lines ++ fault_line fault)

-- the command ends with the fault, or with want of memory for the fault's line
abbrev pub TellsFault : List ℕ → Fault → Status → SinkNow → SinkNow → Type 0
TellsFault lines fault status before after =
    Ends lines fault status before after ⊎ Ends lines Memory status before after

-- an answer was told: its lines, or its fault with no line before it
abbrev pub Tells : Answer → Status → SinkNow → SinkNow → Type 0
Tells (Good lines) status before after = TellsLines lines.items status before after
Tells (Bad fault) status before after = TellsFault [] fault status before after
