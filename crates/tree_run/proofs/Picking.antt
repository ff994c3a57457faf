-- Things to do by their number.
use Rattle.std.proofs.Common.{◌≡◌, refl, sym, ap, ◌∙◌, subst, ℕ, zero, suc, ◌+◌, ◌-◌, ◌<◌, ◌≤◌, List, [], ◌∷◌, ◌++◌, length, take, map, Option, None, Some, Result, Ok, Err, arith}
use Rattle.std.specs.Prelude.{slice_get, slice_index_or, option_map}
use Rattle.std.proofs.lemmas.List.{take_more}
use Rattle.gob_tree.specs.declared.stmt.Placed.{Placed}
use Rattle.c_meaning.specs.declared.config.Todo.{Todo}
use Rattle.c_meaning.specs.declared.config.Todo.TheVariants.{Stmt as Doing}
use Rattle.c_meaning.specs.Tree.{statements, unrolling}
use Rattle.tree_run.specs.declared.todo.Part.{Part}
use Rattle.tree_run.specs.declared.todo.Next.{Next}
use Rattle.tree_run.specs.Stack.{part_todo, todo_of, next_todo}
use Rattle.tree_run.specs.Looking.{Picks, Unrolled}
use Rattle.tree_run.proofs.Tops.{todo_push}

abbrev Opens : Type 0
Opens = List Todo → List Todo

pub picks_same : (f g : Opens) (k : ℕ) (r : Result Next ℕ) → ((rest : List Todo) → f rest ≡ g rest) → Picks g k r → Picks f k r
picks_same f g k (Ok n) e h = λ rest. ap (λ (l : List Todo). slice_get l k) (e rest) ∙ h rest
picks_same f g k (Err left) e h = λ rest. ap (λ (l : List Todo). slice_get l k) (e rest) ∙ h rest

pub picks_then : (f g : Opens) (k left : ℕ) (r : Result Next ℕ) → Picks f k (Err left) → Picks g left r → Picks (λ rest. f (g rest)) k r
picks_then f g k left (Ok n) h i = λ rest. h (g rest) ∙ i rest
picks_then f g k left (Err l) h i = λ rest. h (g rest) ∙ i rest

-- ---- parts, the topmost last

pub todo_more : (parts : List Part) (i n : ℕ) (p : Part) → n ≡ i + 1 → i < length parts → p ≡ slice_index_or parts i p → todo_of (take n parts) ≡ part_todo p ++ todo_of (take i parts)
todo_more parts i n p e lt is = ap (λ k. todo_of (take k parts)) e ∙ ap todo_of (take_more parts i p lt ∙ ap (λ (q : Part). take i parts ++ q ∷ []) (sym is)) ∙ todo_push (take i parts) p
