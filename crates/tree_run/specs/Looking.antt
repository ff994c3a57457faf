-- Things to do by their number.
use Rattle.std.specs.Prelude.{◌≡◌, ℕ, List, [], ◌∷◌, ◌++◌, length, Option, None, Some, Result, Ok, Err, slice_get, slice_index_or, option_map, option_and_then, reverse}
use Rattle.std.specs.Option.{option_map_or}
use Rattle.gob_tree.specs.declared.place.Place.{Place}
use Rattle.gob_tree.specs.declared.stmt.Stmt.{Stmt}
use Rattle.gob_tree.specs.declared.stmt.Placed.{Placed}
use Rattle.gob_tree.specs.declared.stmt.Stmt.TheOpen.{Stmt-F}
use Rattle.c_meaning.specs.declared.config.Todo.{Todo}
use Rattle.c_meaning.specs.declared.config.Todo.TheVariants.{Stmt as Doing, Test, Last}
use Rattle.c_meaning.specs.Config.{Config, thread_at}
use Rattle.c_meaning.specs.Tree as Tree
use Rattle.c_meaning.specs.Tree.{layer_of, unrolling}
use Rattle.tree_run.specs.declared.todo.Part.{Part}
use Rattle.tree_run.specs.declared.todo.Next.{Next}
use Rattle.tree_run.specs.Stack.{next_todo, part_todo}

-- the k-th of what is put in front of any rest is this, or is that one of the rest
abbrev pub Picks : (List Todo → List Todo) → ℕ → Result Next ℕ → Type 0
Picks opens k (Ok n) = (rest : List Todo) → slice_get (opens rest) k ≡ Some (next_todo n)
Picks opens k (Err left) = (rest : List Todo) → slice_get (opens rest) k ≡ slice_get rest left

-- the same of a part in front, which is unrolled; or the part is empty
abbrev pub Unrolled : Part → ℕ → Option (Result Next ℕ) → Type 0
Unrolled part k None = part_todo part ≡ []
Unrolled part k (Some r) = Picks (λ rest. unrolling (part_todo part ++ rest)) k r

-- ---- what the readers tell

-- the place of what comes next: the statement's, the loop's where its test comes next, and the last
-- part's where that comes next
abbrev pub last_place : Stmt-F Stmt Placed → Place → Place
last_place (Stmt-F.For first test (Some last) body) place = last.place
last_place other place = place

abbrev pub todo_place : Todo → Place
todo_place (Doing p) = p.place
todo_place (Test p) = p.place
todo_place (Last p) = last_place (layer_of p) p.place

-- line 1, column 1, where nothing is left to do, which no program has
abbrev pub front_place : List Todo → Place
front_place [] = record { line = 1; column = 1 }
front_place (todo ∷ rest) = todo_place todo

abbrev pub first_of : List Tree.Frame → Option Tree.Frame
first_of [] = None
first_of (frame ∷ below) = Some frame

-- the topmost frame of a thread; none where the thread has ended or isn't there
abbrev pub top_frame : Config Tree.Frame → ℕ → Option Tree.Frame
top_frame c t = option_and_then first_of (thread_at c.threads t)

-- the frames of a thread that there are, and one of them, from the thread's first
abbrev pub depth_of : Config Tree.Frame → ℕ → ℕ
depth_of c t = option_map_or (λ frames. length frames) (thread_at c.threads t) 0

abbrev pub frame_at : Config Tree.Frame → ℕ → ℕ → Option Tree.Frame
frame_at c t i = option_and_then (λ frames. slice_get (reverse frames) i) (thread_at c.threads t)
