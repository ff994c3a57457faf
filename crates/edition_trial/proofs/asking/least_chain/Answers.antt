use Rattle.std.proofs.Common.{◌≡◌, subst}
use Rattle.gob_tree.specs.declared.graph.Program.{Program}
use Rattle.arg_graph.specs.Graphs.{IsGraphOf}
use Rattle.edition_trial.proofs.asking.least_chain.Goals as goal

pub chain-requires : goal.chain-requires
chain-requires c =
    let t = c.args.edition.now.table in
    let same : c.args.edition.now.source.program ≡ c.program.result.now = cc in
    (t, subst (λ (p : Program). IsGraphOf p t c.graph.result.now) same c.graph.ensures)
