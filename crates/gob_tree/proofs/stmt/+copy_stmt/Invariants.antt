use Rattle.std.proofs.Common.{◌≡◌, take}
use Rattle.gob_tree.proofs.stmt.+copy_stmt.Given as goal

abbrev pub invariant-copy_placed-loop-placed : goal.invariant-copy_placed-loop-placed
invariant-copy_placed-loop-placed l = l.list ≡ take l.placed-index l.all
