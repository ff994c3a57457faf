use Rattle.std.proofs.Common.{rules, ◌∙◌}
use Rattle.tree_run.proofs.Tops.{continue_drop, ends_at}
use Rattle.tree_run.proofs.todo.drop_to_loop.Goals as goal

pub loop-todo-preserved : goal.loop-todo-preserved
loop-todo-preserved c =
    continue_drop c.loop-todo.todo.items c.drop_top.new.todo.items c.index.result.now
    (ends_at c.loop-todo.todo.items c.len-in-loop-todo.result c.index.result.now (search rules) (search rules) c.index.ensures)
    c.drop_top.ensures.below c.in-Rest.is ∙ c.loop-todo.invariant
