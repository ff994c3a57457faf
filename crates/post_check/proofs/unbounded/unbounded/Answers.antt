use Rattle.std.proofs.Common.{subst}
use Rattle.constraint_sys.specs.Table.{IsThere}
use Rattle.constraint_sys.specs.declared.unknown.Unknown.{Unknown}
use Rattle.post_check.proofs.Within.{global_within}
use Rattle.post_check.proofs.unbounded.unbounded.Goals as goal

pub bounds_global-requires-clause-in_range : goal.bounds_global-requires-clause-in_range
bounds_global-requires-clause-in_range c =
    global_within c.args.program.now c.args.table.now c.in-Global.g c.requires.shaped (subst (λ (u : Unknown). IsThere c.args.table.now u) c.in-Global.is c.requires.there)
