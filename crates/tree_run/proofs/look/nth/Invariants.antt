use Rattle.std.proofs.Common.{◌≡◌, ◌≤◌, length, take}
use Rattle.tree_run.specs.Stack.{todo_of}
use Rattle.tree_run.proofs.look.nth.Given as goal

abbrev pub invariant-loop-place : goal.invariant-loop-place
invariant-loop-place l = record {
  within : l.place ≤ length l.todo;
  same : todo_of l.todo ≡ todo_of (take l.place l.todo);
}

abbrev pub decreases-loop-place : goal.decreases-loop-place
decreases-loop-place l = l.place
