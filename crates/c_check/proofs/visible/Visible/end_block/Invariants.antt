use Rattle.std.proofs.Common.{◌≡◌, length}
use Rattle.c_check.specs.Names.{without_block}
use Rattle.c_check.proofs.visible.Visible.end_block.Given as goal

abbrev pub invariant-loop-self : goal.invariant-loop-self
invariant-loop-self l = without_block l.depth l.fn.self ≡ without_block l.depth l.self

abbrev pub decreases-loop-self : goal.decreases-loop-self
decreases-loop-self l = length l.self
