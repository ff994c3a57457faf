-- From what comes next to the step of a frame.
use Rattle.std.proofs.Common.{◌≡◌, refl, sym, ap, ◌∙◌, ℤ, List, [], ◌∷◌, ◌++◌, Option, None, Some, Result, Ok, Err}
use Rattle.std.specs.Prelude.{IfOk}
use Rattle.gob_tree.specs.declared.memory.Memory.{Memory}
use Rattle.c_meaning.specs.declared.config.Todo.{Todo}
use Rattle.c_meaning.specs.declared.demand.Demand.{Demand}
use Rattle.c_meaning.specs.Tree as Tree
use Rattle.c_meaning.specs.Tree.{unrolling, rest_of, front_step, todo_step, frame_step, front_demand}
use Rattle.tree_run.specs.declared.todo.Part.{Part}
use Rattle.tree_run.specs.declared.todo.Next.{Next}
use Rattle.tree_run.specs.declared.todo.Next.TheVariants as next
use Rattle.tree_run.specs.declared.deed.Deed.{Deed}
use Rattle.tree_run.specs.declared.deed.Here.{Here}
use Rattle.tree_run.specs.Framing.{shown}
use Rattle.tree_run.specs.Stack.{part_todo, todo_of, below, EndsIn, IsReady, next_todo, next_part}
use Rattle.tree_run.specs.Deeds.{deed_step}
use Rattle.tree_run.specs.Placing.{site_of}
use Rattle.tree_run.proofs.Tops.{todo_top}

next_shows : (n : Next) (rest : List Todo) → part_todo (next_part n) ++ rest ≡ next_todo n ∷ rest_of (part_todo (next_part n) ++ rest)
next_shows (next.Stmt p) rest = refl
next_shows (next.Test l) rest = refl
next_shows (next.Last l) rest = refl

pub ready_front : (parts : List Part) (n : Next) → IsReady parts (Some n) → unrolling (todo_of parts) ≡ next_todo n ∷ rest_of (unrolling (todo_of parts))
ready_front parts n ready =
    let shows : unrolling (todo_of parts) ≡ part_todo (next_part n) ++ todo_of (below parts) = ready.1 ∙ todo_top parts (next_part n) ready.0 in
    shows ∙ next_shows n (todo_of (below parts)) ∙ ap (λ l. next_todo n ∷ rest_of l) (sym shows)

abbrev DecidesFrame : Here → Deed → Type 0
DecidesFrame h d = (below : List Tree.Frame) → frame_step (shown h.frame.now).todo (site_of h below) ≡ deed_step d (site_of h below)

front_decides : (h : Here) (n : Next) (r : Result (List ℤ) Demand) (d : Deed) → IsReady h.frame.now.todo.items (Some n) → r ≡ front_demand h.unit.now (shown h.frame.now)
    → ((below : List Tree.Frame) → front_step (next_todo n) (rest_of (shown h.frame.now).todo) (site_of h below) r ≡ deed_step d (site_of h below)) → DecidesFrame h d
front_decides h n r d ready demand steps below =
    ap (λ (t : List Todo). frame_step t (site_of h below)) (ready_front h.frame.now.todo.items n ready)
    ∙ ap (front_step (next_todo n) (rest_of (shown h.frame.now).todo) (site_of h below)) (sym demand) ∙ steps below

pub missing_decides : (h : Here) (n : Next) (demand : Demand) (r : Result Deed Memory) → IsReady h.frame.now.todo.items (Some n) → Err demand ≡ front_demand h.unit.now (shown h.frame.now)
    → IfOk r (λ d. (todo : Todo) (rest : List Todo) (below : List Tree.Frame) → front_step todo rest (site_of h below) (Err demand) ≡ deed_step d (site_of h below))
    → IfOk r (λ d. (below : List Tree.Frame) → frame_step (shown h.frame.now).todo (site_of h below) ≡ deed_step d (site_of h below))
missing_decides h n demand (Ok d) ready e steps = front_decides h n (Err demand) d ready e (λ below. steps (next_todo n) (rest_of (shown h.frame.now).todo) below)
missing_decides h n demand (Err m) ready e steps = tt

pub values_decide : (h : Here) (n : Next) (values : List ℤ) (r : Result Deed Memory) → IsReady h.frame.now.todo.items (Some n) → Ok values ≡ front_demand h.unit.now (shown h.frame.now)
    → IfOk r (λ d. (below : List Tree.Frame) → todo_step (next_todo n) (rest_of (shown h.frame.now).todo) (site_of h below) values ≡ deed_step d (site_of h below))
    → IfOk r (λ d. (below : List Tree.Frame) → frame_step (shown h.frame.now).todo (site_of h below) ≡ deed_step d (site_of h below))
values_decide h n values (Ok d) ready e steps = front_decides h n (Ok values) d ready e steps
values_decide h n values (Err m) ready e steps = tt
