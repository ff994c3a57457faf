use Rattle.graph_law.proofs.Laying as laying
use Rattle.graph_law.proofs.law.branches_lie.Goals as goal

pub returns-clause-branches : goal.returns-clause-branches
returns-clause-branches c = laying.branches_lie

pub returns-clause-whiles : goal.returns-clause-whiles
returns-clause-whiles c = laying.whiles_lie

pub returns-clause-tests : goal.returns-clause-tests
returns-clause-tests c = laying.tests_lie

pub returns-clause-last_parts : goal.returns-clause-last_parts
returns-clause-last_parts c = laying.last_parts_lie
