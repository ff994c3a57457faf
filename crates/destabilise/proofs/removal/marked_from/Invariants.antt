use Rattle.std.proofs.Common.{◌+◌, length}
use Rattle.constraint_sys.specs.Table.{IsThere}
use Rattle.destabilise.specs.Linked.{IsOneOf, TakesAlong}
use Rattle.destabilise.specs.Marked.{unmarked_count}
use Rattle.destabilise.proofs.Searching.{IsSearched}
use Rattle.destabilise.proofs.removal.marked_from.Given as goal

abbrev pub invariant-loop-u : goal.invariant-loop-u
invariant-loop-u l = IsSearched (IsThere l.table) (IsOneOf l.table l.seeds) (TakesAlong l.program l.table) l.marks l.waiting.items

abbrev pub decreases-loop-u : goal.decreases-loop-u
decreases-loop-u l = length l.waiting.items + unmarked_count l.marks
