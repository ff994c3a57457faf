use Rattle.std.proofs.Common.{subst, sym}
use Rattle.gob_tree.specs.declared.graph.Program.{Program}
use Rattle.arg_graph.specs.Graphs.{IsGraphOf}
use Rattle.edition_texts.proofs.walk.advanced.Goals as goal

pub advance-requires-clause-graph : goal.advance-requires-clause-graph
advance-requires-clause-graph c =
    let t = c.args.edition.now.table in
    (t, subst (λ (p : Program). IsGraphOf p t c.graph.result.now) (sym c.program_of-program.ensures.value) c.graph.ensures)
