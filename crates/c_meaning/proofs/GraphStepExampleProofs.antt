-- The steps of the graphs of the examples, worked out.
use Rattle.std.proofs.Common.{◌≡◌, refl, [], ◌∷◌, None, Some}
use Rattle.std.specs.Int.{int_wrap}
use Rattle.c_meaning.specs.Graph.{flow_of, hoisted_expr, hoisted_exprs}
use Rattle.c_meaning.specs.GraphStep.{Do, Enter, first_graph}
use Rattle.c_meaning.specs.Walk.{after_move, after_moves}
use Rattle.c_meaning.specs.StepExamples.{holding_main}
use Rattle.c_meaning.specs.WalkExamples.{by}
use Rattle.c_meaning.specs.GraphStepExamples.{holding_flow, holding_program, starting_moves, started, ended, joined, entered}
use Rattle.c_meaning.proofs.Evaluation.{expressions, statements, edges}

pub graph : flow_of holding_main ≡ holding_flow
graph = simp (expressions, statements, hoisted_expr, hoisted_exprs)

pub starts : after_moves holding_program starting_moves (first_graph holding_program) ≡ Some started
unfolding int_wrap
starts = refl

pub waits : after_move holding_program started (by 1 (Do 3)) ≡ None
waits = refl

pub ends : after_moves holding_program (by 2 (Do 0) ∷ by 2 (Do 1) ∷ []) started ≡ Some ended
ends = refl

pub joins : after_move holding_program ended (by 1 (Do 3)) ≡ Some joined
joins = refl

pub enters : after_move holding_program joined (by 1 (Enter 4)) ≡ Some entered
unfolding int_wrap
enters = simp edges
