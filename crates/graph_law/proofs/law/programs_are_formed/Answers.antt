use Rattle.graph_law.proofs.Forming as forming
use Rattle.graph_law.proofs.law.programs_are_formed.Goals as goal

pub returns-clause-formed : goal.returns-clause-formed
returns-clause-formed c = forming.programs_are_formed

pub returns-clause-widths : goal.returns-clause-widths
returns-clause-widths c = forming.widths_are_declared

pub returns-clause-edges : goal.returns-clause-edges
returns-clause-edges c = forming.edges_are_few
