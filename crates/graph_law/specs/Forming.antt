-- Which programs come from well-made units.
--
-- A reader should check: that nothing but sizes is asked beside a well-made unit, which slots have
-- the widths of what goes to them, and how few edges a graph has.
use Rattle.std.specs.Prelude.{◌≡◌, ◌*◌, ◌≤◌, length, Some, All, IsSomeAnd, slice_get}
use Rattle.gob_tree.specs.Formed.{IsFormed, node_count}
use Rattle.gob_tree.specs.WellMade.{IsWellMade}
use Rattle.gob_tree.specs.Widths.{returned_width}
use Rattle.gob_tree.specs.declared.graph.Action.{Action}
use Rattle.gob_tree.specs.declared.graph.Action.TheVariants.{Read, Call}
use Rattle.gob_tree.specs.declared.graph.Edge.{Edge}
use Rattle.gob_tree.specs.declared.graph.FuncGraph.{FuncGraph}
use Rattle.gob_tree.specs.declared.graph.Program.{Program}
use Rattle.gob_tree.specs.declared.unit.Function.{Function}
use Rattle.gob_tree.specs.declared.unit.Unit.{Unit as TranslationUnit}
use Rattle.c_meaning.specs.Demand.{slot_width}
use Rattle.c_meaning.specs.Config.{global_width}
use Rattle.c_meaning.specs.Graph.{graph_of, program_of}

-- The sizes that a program may have: those of the unit itself, and those of its graphs.
pub record IsWithinSizes (unit : TranslationUnit) : Type 0 where
  pub functions : length unit.funcs ≤ 128
  pub globals : length unit.globals ≤ 64
  pub mutexes : length unit.mutexes ≤ 8
  pub params : All (λ (f : Function). f.params ≤ 8) unit.funcs
  pub slots : All (λ (f : Function). length (graph_of f).slots ≤ 128) unit.funcs
  pub nodes : node_count (program_of unit) ≤ 4096

-- a well-made unit whose sizes are so has a program that an analysis takes
abbrev pub ProgramsAreFormed : Type 0
ProgramsAreFormed = (unit : TranslationUnit) → IsWellMade unit → IsWithinSizes unit → IsFormed (program_of unit)

-- A slot that gets a global has the width of its declaration, and one that gets the result of a call
-- that of the called function.
abbrev pub HasWidths : Program → FuncGraph → Action → Type 0
HasWidths p f (Read x g) = slot_width f.slots x ≡ global_width p.globals g
HasWidths p f (Call (Some x) g args) = IsSomeAnd (slice_get p.funcs g) (λ called. slot_width f.slots x ≡ returned_width called.slots)
HasWidths p f other = Unit {0}

abbrev pub WidthsAreDeclared : Type 0
WidthsAreDeclared =
    (unit : TranslationUnit) → IsWellMade unit
    → All (λ f. All (λ (e : Edge). HasWidths (program_of unit) (graph_of f) e.act) (graph_of f).edges) unit.funcs

-- a graph has at most two edges a node
abbrev pub EdgesAreFew : Type 0
EdgesAreFew = (f : Function) → length (graph_of f).edges ≤ 2 * length (graph_of f).nodes
