use Rattle.std.proofs.Common.{◌+◌, length}
use Rattle.constraint_sys.specs.Table.{IsThere}
use Rattle.destabilise.specs.Linked.{Reaches}
use Rattle.destabilise.specs.Marked.{unmarked_count}
use Rattle.destabilise.proofs.Removing.{IsMain}
use Rattle.destabilise.proofs.Searching.{IsSearched}
use Rattle.destabilise.proofs.removal.reached_from_main.Given as goal

abbrev pub invariant-loop-u : goal.invariant-loop-u
invariant-loop-u l = IsSearched (IsThere l.table) (IsMain l.program) (Reaches l.program l.table) l.marks l.waiting.items

abbrev pub decreases-loop-u : goal.decreases-loop-u
decreases-loop-u l = length l.waiting.items + unmarked_count l.marks
