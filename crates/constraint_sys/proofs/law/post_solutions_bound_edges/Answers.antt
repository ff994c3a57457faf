use Rattle.constraint_sys.proofs.EdgeBounds.{edge_bounded, effect_bounded}
use Rattle.constraint_sys.proofs.law.post_solutions_bound_edges.Goals as goal

pub returns-clause-state : goal.returns-clause-state
returns-clause-state c = edge_bounded

pub returns-clause-effects : goal.returns-clause-effects
returns-clause-effects c = effect_bounded
