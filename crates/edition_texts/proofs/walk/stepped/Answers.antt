use Rattle.edition_texts.proofs.walk.stepped.Goals as goal

pub step-requires : goal.step-requires
step-requires c = (c.args.edition.now.source.program, c.args.edition.now.table, c.graph.ensures)
