-- The equations and definitions by which `simp` works out a step or a graph of a program that is
-- written out.
use Rattle.gob_tree.specs.declared.stmt.Stmt.TheVariants.{outs-Declare, outs-DeclareThread, outs-Assign, outs-CallOnly, outs-If, outs-While, outs-DoWhile, outs-For, outs-Block, outs-Break, outs-Continue, outs-Return, outs-Create, outs-Join, outs-Lock, outs-Unlock, outs-Assert, outs-Empty}
use Rattle.c_meaning.specs.Demand.{demands_of, demand_of, answers_of, value_of, values_of}
use Rattle.c_meaning.specs.Tree.{tree_step, thread_step, frame_step, front_demand, front_exprs, exprs_of, stmt_exprs, test_exprs, last_exprs, layer_of, todo_step, stmt_step, last_step, caller_after, frames_after_return, frame_after, unrolling, after_test, turn_of, new_frame, new_frame_or, frame_of, has_ended}
use Rattle.gob_tree.proofs.Folds.{fold-Number, fold-Local, fold-Global, fold-Nondet, fold-Unary, fold-Binary, fold-Call}
use Rattle.std.specs.Option.{option_map, option_and_then}
use Rattle.c_meaning.specs.GraphStep.{after_label, action_effect, site_after, thread_after, after_edge, local_slots}
use Rattle.c_meaning.specs.Walk.{after_choice, first_edge_step, edge_step, edge_step_or, step_rest, walk_on, after_moves, after_move, after_silent, silent_labels, settled_from, settled_within, settled_or, silent_from, first_or, silent_slots}
use Rattle.c_meaning.proofs.StmtFolds.{fold-struct, fold-Declare, fold-DeclareThread, fold-Assign, fold-CallOnly, fold-If, fold-While, fold-DoWhile, fold-For, fold-Block, fold-Break, fold-Continue, fold-Return, fold-Create, fold-Join, fold-Lock, fold-Unlock, fold-Assert, fold-Empty}
use Rattle.c_meaning.proofs.Fronts.{front-Declare, front-DeclareThread, front-Assign, front-CallOnly, front-If, front-While, front-DoWhile, front-For, front-For_bare, front-Block, front-Block_empty, front-Break, front-Continue, front-Return, front-Create, front-Join, front-Lock, front-Unlock, front-Assert, front-Empty}

pub ruleset expressions = (fold-Number, fold-Local, fold-Global, fold-Nondet, fold-Unary, fold-Binary, fold-Call)

pub ruleset layers = (outs-Declare, outs-DeclareThread, outs-Assign, outs-CallOnly, outs-If, outs-While, outs-DoWhile, outs-For, outs-Block, outs-Break, outs-Continue, outs-Return, outs-Create, outs-Join, outs-Lock, outs-Unlock, outs-Assert, outs-Empty)

pub ruleset fronts = (front-Declare, front-DeclareThread, front-Assign, front-CallOnly, front-If, front-While, front-DoWhile, front-For, front-For_bare, front-Block, front-Block_empty, front-Break, front-Continue, front-Return, front-Create, front-Join, front-Lock, front-Unlock, front-Assert, front-Empty)

pub ruleset steps = (expressions, layers, fronts, frame_step, front_demand, demands_of, front_exprs, exprs_of, layer_of, todo_step, last_step, caller_after, frames_after_return, frame_after, unrolling, after_test, turn_of, last_exprs)

pub ruleset statements = (fold-struct, fold-Declare, fold-DeclareThread, fold-Assign, fold-CallOnly, fold-If, fold-While, fold-DoWhile, fold-For, fold-Block, fold-Break, fold-Continue, fold-Return, fold-Create, fold-Join, fold-Lock, fold-Unlock, fold-Assert, fold-Empty)

pub ruleset edges = (expressions, after_choice, first_edge_step, edge_step, edge_step_or, step_rest, walk_on, after_moves, after_move, after_silent, silent_labels, settled_from, settled_within, settled_or, silent_from, first_or, silent_slots, local_slots, after_label, thread_after, site_after, after_edge, action_effect, values_of, demands_of, value_of, demand_of, option_map, option_and_then)
