use Rattle.std.proofs.Common.{◌≡◌, ap, ◌∙◌, List, ◌∷◌, ◌++◌}
use Rattle.std.specs.Prelude.{slice_get}
use Rattle.c_meaning.specs.declared.config.Todo.{Todo}
use Rattle.c_meaning.specs.declared.config.Todo.TheVariants.{Test as Testing, Last as Lasting}
use Rattle.tree_run.specs.declared.todo.Part.{Part}
use Rattle.tree_run.specs.Stack.{part_todo}
use Rattle.tree_run.proofs.Picking.{picks_same, picks_then}
use Rattle.tree_run.proofs.look.nth_in_part.Goals as goal

pub returns-in-Ok : goal.returns-in-Ok
returns-in-Ok c = λ rest. ap (λ (p : Part). slice_get (part_todo p ++ rest) c.args.k) c.in-Last.is ∙ c.in-Ok.ensures (Testing c.in-Last.l.now ∷ rest)

pub returns-in-Err : goal.returns-in-Err
returns-in-Err c =
    picks_same (λ (rest : List Todo). part_todo c.args.part ++ rest) (λ (rest : List Todo). Lasting c.in-Last.l.now ∷ Testing c.in-Last.l.now ∷ rest) c.args.k c.nth_alone-in-Err.result
    (λ rest. ap (λ (p : Part). part_todo p ++ rest) c.in-Last.is)
    (picks_then (λ (rest : List Todo). Lasting c.in-Last.l.now ∷ rest) (λ (rest : List Todo). Testing c.in-Last.l.now ∷ rest) c.args.k c.in-Err.left c.nth_alone-in-Err.result c.in-Err.ensures c.nth_alone-in-Err.ensures)
