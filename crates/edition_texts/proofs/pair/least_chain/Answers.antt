use Rattle.std.proofs.Common.{subst, sym}
use Rattle.gob_tree.specs.declared.graph.Program.{Program}
use Rattle.arg_graph.specs.Graphs.{IsGraphOf, offered_in, vertices_in}
use Rattle.edition_texts.proofs.Pairs.{chains_top}
use Rattle.edition_texts.proofs.pair.least_chain.Goals as goal

pub chain-requires : goal.chain-requires
chain-requires c =
    let t = c.args.edition.now.table in
    (t, subst (λ (p : Program). IsGraphOf p t c.graph.result.now) (sym c.program_of-program.ensures.value) c.graph.ensures)

pub returns : goal.returns
returns c = chains_top c.program_of-program.result.now (vertices_in c.graph.result.now) (offered_in c.graph.result.now) c.chain.result c.args.v c.chain.ensures.some
