use Rattle.std.proofs.Common.{◌≡◌, length}
use Rattle.c_meaning.specs.Tree.{after_continue}
use Rattle.tree_run.specs.Stack.{todo_of}
use Rattle.tree_run.proofs.todo.settle.Given as goal

abbrev pub invariant-loop-todo : goal.invariant-loop-todo
invariant-loop-todo l = todo_of l.todo.items ≡ todo_of l.initial.todo.items

abbrev pub decreases-loop-todo : goal.decreases-loop-todo
decreases-loop-todo l = length l.todo.items
