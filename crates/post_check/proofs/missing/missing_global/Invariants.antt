use Rattle.std.proofs.Common.{ℕ, ◌<◌}
use Rattle.constraint_sys.specs.Table.{IsThere}
use Rattle.constraint_sys.specs.declared.unknown.Unknown.TheVariants.{Global}
use Rattle.post_check.proofs.missing.missing_global.Given as goal

abbrev pub invariant-loop-g : goal.invariant-loop-g
invariant-loop-g l = (g : ℕ) → g < l.g → IsThere l.table (Global g)
