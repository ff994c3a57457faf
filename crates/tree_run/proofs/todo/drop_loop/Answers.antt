use Rattle.std.proofs.Common.{◌∙◌}
use Rattle.tree_run.proofs.Tops.{break_pop, popped}
use Rattle.tree_run.proofs.todo.drop_loop.Goals as goal

pub loop-part-preserved : goal.loop-part-preserved
loop-part-preserved c = break_pop _ _ _ (popped _ _ _ _ c.pop.ensures.items c.in-Some.is) c.in-Rest.is ∙ c.loop-part.invariant
