use Rattle.std.proofs.Common.{subst}
use Rattle.constraint_sys.specs.Table.{IsThere}
use Rattle.constraint_sys.specs.declared.unknown.Unknown.{Unknown}
use Rattle.post_check.proofs.Within.{function_within}
use Rattle.post_check.proofs.missing.missing_node.Goals as goal

pub node_count-nodes-requires-clause-in_range : goal.node_count-nodes-requires-clause-in_range
node_count-nodes-requires-clause-in_range c =
    function_within c.args.program.now c.args.table.now c.in-Point.func c.in-Point.key c.in-Point.node c.requires.shaped
    (subst (λ (u : Unknown). IsThere c.args.table.now u) c.in-Point.is c.requires.there)
