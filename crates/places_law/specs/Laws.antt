-- What is told of names and kinds is the least fault, by place and then by kind.
--
-- A reader should check: that nothing is asked of the tree but that the tokens of a text spell it.
use Rattle.std.specs.Prelude.{◌≢◌, ℕ, List, []}
use Rattle.c_parse.specs.declared.raw.unit.RawUnit.{RawUnit}
use Rattle.c_check.specs.declared.fault.FrontFault.{FrontFault}
use Rattle.c_check.specs.Faults.{IsFirst, want_of_memory}
use Rattle.c_check.specs.Front.{Reads, tree_faults}
use Rattle.c_check.specs.Units.{items_faults, nothing_made}
use Rattle.places_law.specs.Order.{Ascend, IsLeast}

-- the faults of names and kinds, before a missing `main` and the limits
abbrev pub check_faults : RawUnit → List FrontFault
check_faults raw = items_faults raw.items (nothing_made raw.items)

-- the definition lists the faults of a text in ascending order
abbrev pub FaultsAscend : Type 0
FaultsAscend = (text : List ℕ) (raw : RawUnit) → Reads text raw → Ascend (check_faults raw)

-- where a text has a fault of names and kinds, the first one that is listed of it is the least of these
abbrev pub FirstIsLeast : Type 0
FirstIsLeast =
    (text : List ℕ) (raw : RawUnit) (fault : FrontFault) → Reads text raw → check_faults raw ≢ []
    → fault ≢ want_of_memory → IsFirst fault (tree_faults raw) → IsLeast fault (check_faults raw)
