-- What is known of a statement that is met while the body of a well-made function is lowered.
--
-- A reader should check: that node 1, the exit, is where no statement begins, where none but a
-- `return` may end, and where no jump leads.
use Rattle.std.specs.Prelude.{◌≡◌, ◌≤◌, ◌⊎◌, Bool, true, false, List, [], ◌∷◌, IsTrue}
use Rattle.gob_tree.specs.WellMade.{IsWellMadeFunction, form_of, is_return}
use Rattle.gob_tree.specs.declared.stmt.Placed.{Placed}
use Rattle.gob_tree.specs.declared.stmt.Stmt.TheOpen.{Stmt-F}
use Rattle.gob_tree.specs.declared.unit.Function.{Function}
use Rattle.gob_tree.specs.declared.unit.Unit.{Unit as TranslationUnit}
use Rattle.c_meaning.specs.Graph.{FlowGraph, Route, flow_of, next_node}
use Rattle.c_meaning.specs.Tree.{layer_of, unrolling}
use Rattle.c_meaning.specs.declared.config.Todo.{Todo}
use Rattle.c_meaning.specs.declared.config.Todo.TheVariants.{Stmt as Doing, Test, Last}
use Rattle.graph_law.specs.Leaving.{leaving}
use Rattle.graph_law.specs.Lying.{Piece}

-- The statement may stand there, inside of a loop or outside. Inside, `break` and `continue` lead
-- to nodes behind the entry and the exit; and the graph before it has these two.
pub record MadePiece (unit : TranslationUnit) (f : Function) (s : Placed) (r : Route) (d : FlowGraph) : Type 0 where
  pub inside : Bool
  pub made : IsTrue ((form_of unit f s).made inside)
  pub jumps : inside ≡ true → (2 ≤ r.on_break) × (2 ≤ r.on_continue)
  pub goes_on : (is_return s ≡ true) ⊎ (2 ≤ r.to)
  pub begins : 2 ≤ r.from
  pub nodes : 2 ≤ next_node d

abbrev pub PiecesAreMade : Type 0
PiecesAreMade =
    (unit : TranslationUnit) (f : Function) (s : Placed) (r : Route) (d : FlowGraph) → IsWellMadeFunction unit f → Piece f s r d
    → MadePiece unit f s r d

-- no edge leaves the exit of a function
abbrev pub NothingLeavesExits : Type 0
NothingLeavesExits = (f : Function) → leaving 1 (flow_of f).edges ≡ []

-- a statement that stays what it is where it comes next: no `do`, no `for`, no block but an empty one
abbrev pub stays_step : {A B : Type 0} → Stmt-F A B → Bool
stays_step (Stmt-F.DoWhile body e) = false
stays_step (Stmt-F.For first test last body) = false
stays_step (Stmt-F.Block (s ∷ ss)) = false
stays_step other = true

abbrev pub FrontStays : List Todo → Type 0
FrontStays [] = Unit {0}
FrontStays (Doing s ∷ rest) = IsTrue (stays_step (layer_of s))
FrontStays (Test s ∷ rest) = Unit {0}
FrontStays (Last s ∷ rest) = Unit {0}

-- what comes next after unrolling does so
abbrev pub UnrolledFrontsStay : Type 0
UnrolledFrontsStay = (todo : List Todo) → FrontStays (unrolling todo)
