use Rattle.std.proofs.Common.{subst, sym}
use Rattle.gob_tree.specs.declared.graph.Program.{Program}
use Rattle.constraint_sys.specs.Sound.{IsShaped}
use Rattle.constraint_sys.specs.Table.{TableValue}
use Rattle.arg_graph.specs.Graphs.{IsGraphOf}
use Rattle.edition_texts.proofs.stopping.stops_of.Goals as goal

pub stops-requires-clause-shaped : goal.stops-requires-clause-shaped
stops-requires-clause-shaped c =
    subst (λ (t : TableValue). IsShaped c.program_of-program.result.now t) (sym c.table.ensures.value)
    (subst (λ (p : Program). IsShaped p c.args.edition.now.table) (sym c.program_of-program.ensures.value) c.table.ensures.shaped)

pub stops-requires-clause-graph : goal.stops-requires-clause-graph
stops-requires-clause-graph c =
    subst (λ (t : TableValue). IsGraphOf c.program_of-program.result.now t c.graph.result.now) (sym c.table.ensures.value)
    (subst (λ (p : Program). IsGraphOf p c.args.edition.now.table c.graph.result.now) (sym c.program_of-program.ensures.value) c.graph.ensures)
