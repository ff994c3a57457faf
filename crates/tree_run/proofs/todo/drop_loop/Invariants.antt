use Rattle.std.proofs.Common.{◌≡◌}
use Rattle.c_meaning.specs.Tree.{after_break}
use Rattle.tree_run.specs.Stack.{todo_of}
use Rattle.tree_run.proofs.todo.drop_loop.Given as goal

abbrev pub invariant-loop-part : goal.invariant-loop-part
invariant-loop-part l = after_break (todo_of l.todo.items) ≡ after_break (todo_of l.initial.todo.items)

abbrev pub decreases-loop-part : goal.decreases-loop-part
decreases-loop-part l = goal.left-loop-part l
