use Rattle.edition_texts.proofs.walk.stepped_out.Goals as goal

pub out-requires : goal.out-requires
out-requires c = (c.args.edition.now.source.program, c.args.edition.now.table, c.graph.ensures)
