use Rattle.std.proofs.Common.{take}
use Rattle.arg_chain.specs.Choice.{IsLeastOf, IsAtRoot}
use Rattle.arg_chain.proofs.least.nearest.Given as goal

abbrev pub invariant-loop-r : goal.invariant-loop-r
invariant-loop-r l = IsLeastOf (IsAtRoot (take l.r-index l.roots) l.known l.n) l.best
