-- What a frame has still to do, as its parts show it: the topmost part is the last of the list.
use Rattle.std.specs.Prelude.{◌≡◌, ℕ, ◌-◌, List, [], ◌∷◌, ◌++◌, length, take, Option, None, Some, Result, IfOk}
use Rattle.gob_tree.specs.declared.memory.Memory.{Memory}
use Rattle.std.specs.List.{fold}
use Rattle.gob_tree.specs.declared.stmt.Placed.{Placed}
use Rattle.c_meaning.specs.declared.config.Todo.{Todo}
use Rattle.c_meaning.specs.declared.config.Todo.TheVariants.{Stmt as Doing, Test as Testing, Last as Lasting}
use Rattle.c_meaning.specs.Tree.{statements, unrolling}
use Rattle.tree_run.specs.declared.todo.Part.{Part}
use Rattle.tree_run.specs.declared.todo.Part.TheVariants.{Rest, One, Test, Last}
use Rattle.tree_run.specs.declared.todo.Next.{Next}
use Rattle.tree_run.specs.declared.todo.Next.TheVariants as next

abbrev pub part_todo : Part → List Todo
part_todo (Rest all) = statements all.now
part_todo (One p) = Doing p.now ∷ []
part_todo (Test l) = Testing l.now ∷ []
part_todo (Last l) = Lasting l.now ∷ Testing l.now ∷ []

abbrev pub above : List Todo → Part → List Todo
above rest part = part_todo part ++ rest

abbrev pub todo_of : List Part → List Todo
todo_of parts = fold above [] parts

-- the parts below the topmost one
abbrev pub below : List Part → List Part
below parts = take (length parts - 1) parts

-- this part is the topmost one
abbrev pub EndsIn : List Part → Part → Type 0
EndsIn parts part = parts ≡ below parts ++ part ∷ []

-- ---- what comes next

abbrev pub next_todo : Next → Todo
next_todo (next.Stmt p) = Doing p.now
next_todo (next.Test l) = Testing l.now
next_todo (next.Last l) = Lasting l.now

abbrev pub next_part : Next → Part
next_part (next.Stmt p) = One p
next_part (next.Test l) = Test l
next_part (next.Last l) = Last l

-- the topmost part is what comes next, and nothing unrolls there
abbrev pub IsReady : List Part → Option Next → Type 0
IsReady parts None = todo_of parts ≡ []
IsReady parts (Some n) = EndsIn parts (next_part n) × (unrolling (todo_of parts) ≡ todo_of parts)

-- the front of what is to do is unrolled, or some of it is, which shows the same
pub record Settles (old new : List Part) (r : Result (Option Next) Memory) : Type 0 where
  pub same : unrolling (todo_of new) ≡ unrolling (todo_of old)
  pub ready : IfOk r (IsReady new)
