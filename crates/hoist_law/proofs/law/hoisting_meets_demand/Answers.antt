use Rattle.hoist_law.proofs.Demanding as demanding
use Rattle.hoist_law.proofs.law.hoisting_meets_demand.Goals as goal

pub returns-clause-one : goal.returns-clause-one
returns-clause-one c = demanding.hoisting_meets_demand

pub returns-clause-all : goal.returns-clause-all
returns-clause-all c = demanding.hoisting_meets_demands

pub returns-clause-width : goal.returns-clause-width
returns-clause-width c = demanding.hoisting_keeps_width
