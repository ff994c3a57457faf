use Rattle.std.proofs.Common.{◌≡◌, ◌≤◌, length, take}
use Rattle.std.specs.Prelude.{slice_get}
use Rattle.tree_run.specs.Stack.{todo_of}
use Rattle.tree_run.proofs.look.nth_below.Given as goal

abbrev pub invariant-loop-place : goal.invariant-loop-place
invariant-loop-place l = record {
  within : l.place ≤ length l.todo;
  same : slice_get (todo_of (take l.parts l.todo)) l.k ≡ slice_get (todo_of (take l.place l.todo)) l.left;
}

abbrev pub decreases-loop-place : goal.decreases-loop-place
decreases-loop-place l = l.place
