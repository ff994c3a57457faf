use Rattle.std.proofs.Common.{subst, sym}
use Rattle.gob_tree.specs.declared.graph.Program.{Program}
use Rattle.constraint_sys.specs.PostSolution.{IsPostSolution}
use Rattle.arg_graph.specs.Graphs.{IsGraphOf}
use Rattle.edition_texts.proofs.walk.entered_main.Goals as goal

pub entry-requires : goal.entry-requires
entry-requires c =
    let t = c.args.edition.now.table in
    let same = sym c.program_of-program.ensures.value in
    (t, subst (λ (p : Program). IsPostSolution p t) same c.table-table.ensures.solved, subst (λ (p : Program). IsGraphOf p t c.graph.result.now) same c.graph.ensures)
