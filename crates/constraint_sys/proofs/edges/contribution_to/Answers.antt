use Rattle.std.proofs.Common.{subst}
use Rattle.constraint_sys.specs.declared.unknown.Unknown.{Unknown}
use Rattle.constraint_sys.specs.Sound.{CanTurn}
use Rattle.constraint_sys.proofs.Rooms.{function_within}
use Rattle.constraint_sys.proofs.edges.contribution_to.Goals as goal

pub of_point-requires-clause-in_range : goal.of_point-requires-clause-in_range
of_point-requires-clause-in_range c =
    function_within c.args.program.now c.args.table.now c.in-Point.func c.in-Point.key c.in-Point.node c.requires.shaped
    (subst (λ (u : Unknown). CanTurn c.args.table.now u) c.in-Point.is c.requires.there)
