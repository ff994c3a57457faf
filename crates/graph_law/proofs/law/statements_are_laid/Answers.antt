use Rattle.graph_law.proofs.Laying as laying
use Rattle.graph_law.proofs.law.statements_are_laid.Goals as goal

pub returns : goal.returns
returns c = laying.statements_are_laid
