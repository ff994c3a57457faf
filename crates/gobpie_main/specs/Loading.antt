-- What comes of a file: its bytes, and of these its source, or why there is none.
use Rattle.std.specs.Prelude.{◌≡◌, ◌≢◌, ◌<◌, ◌≤◌, ℕ, List, length, Option, Some, None}
use Rattle.std.specs.Global.{Vec}
use Rattle.gob_outside.specs.Count.{Rose}
use Rattle.gob_outside.specs.Faults.{Asks}
use Rattle.gob_outside.specs.Files.{FilesNow, IsTextOf}
use Rattle.c_check.specs.Front.{IsFirstOf}
use Rattle.c_check.specs.declared.fault.FrontFault.{FrontFault}
use Rattle.c_check.specs.declared.fault.FrontKind.TheVariants as kinds
use Rattle.gobpie_main.specs.declared.fault.Fault.{Fault}
use Rattle.gobpie_main.specs.declared.fault.Fault.TheVariants.{Usage, ReadFault, Refused, BadLine, Spent, Memory}

-- this file was asked for, once at most, and no other; no load of another failed
pub record AsksFor (file : List ℕ) (before after : FilesNow) : Type 0 where
  pub asked : Asks before.asked file after.asked
  pub others : (other : List ℕ) → other ≢ file → after.faults other ≡ before.faults other
  pub never_fall : (other : List ℕ) → before.faults other ≤ after.faults other
  pub kept : after.contents ≡ before.contents

-- what is loaded of a text: its bytes, or nothing where they are more than the limit
abbrev pub IsLoadOf : ℕ → List ℕ → Option (Vec ℕ) → Type 0
IsLoadOf limit text None = limit < length text
IsLoadOf limit text (Some bytes) = bytes.items ≡ text

-- that was loaded of a text of this name, the file's own where the files tell it
abbrev pub LoadsText : FilesNow → List ℕ → ℕ → Option (Vec ℕ) → Type 0
LoadsText files name limit found =
    (text : List ℕ) × IsTextOf files name text × IsLoadOf limit text found

-- why a file wasn't loaded: its count of faults rose, or memory was wanting
abbrev pub IsLoadFault : List ℕ → FilesNow → FilesNow → Fault → Type 0
IsLoadFault file before after Usage = ⊥
IsLoadFault file before after ReadFault = Rose (before.faults file) (after.faults file)
IsLoadFault file before after (Refused fault) = ⊥
IsLoadFault file before after (BadLine line) = ⊥
IsLoadFault file before after (Spent turns) = ⊥
IsLoadFault file before after Memory = Unit {0}

-- the first fault of the text, other than want of memory; a text over its limit has one too
pub record IsRefusedBy (text : List ℕ) (fault : FrontFault) : Type 0 where
  pub first : IsFirstOf text fault
  pub of_the_text : fault.kind ≢ kinds.Memory

-- why a text gives no source
abbrev pub IsSourceFault : List ℕ → Fault → Type 0
IsSourceFault text Usage = ⊥
IsSourceFault text ReadFault = ⊥
IsSourceFault text (Refused fault) = IsRefusedBy text fault
IsSourceFault text (BadLine line) = ⊥
IsSourceFault text (Spent turns) = ⊥
IsSourceFault text Memory = Unit {0}
