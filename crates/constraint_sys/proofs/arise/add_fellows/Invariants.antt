use Rattle.std.proofs.Common.{◌≡◌, ◌++◌, length}
use Rattle.std.specs.Prelude.{filter}
use Rattle.constraint_sys.specs.Turn.{bottoms, is_absent}
use Rattle.constraint_sys.proofs.arise.add_fellows.Given as goal

abbrev pub invariant-loop-node : goal.invariant-loop-node
invariant-loop-node l = l.table ≡ l.fn.table ++ filter (is_absent l.fn.table) (bottoms (length l.function.slots) l.func l.key l.node)
