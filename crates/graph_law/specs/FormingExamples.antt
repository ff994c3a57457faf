-- Units at the limits of sizes and above each of them by one, and actions of a program whose slots have
-- the widths of what goes to them, and some whose slots don't.
use Rattle.std.specs.Prelude.{ℕ, suc, pos, List, [], ◌∷◌, replicate}
use Rattle.gob_tree.specs.declared.stmt.Placed.{Placed}
use Rattle.gob_tree.specs.declared.stmt.Stmt as Stmt
use Rattle.gob_tree.specs.declared.unit.FuncKind.TheVariants.{Int}
use Rattle.gob_tree.specs.declared.unit.Function.{Function}
use Rattle.gob_tree.specs.declared.unit.Unit.{Unit as TranslationUnit}
use Rattle.gob_tree.specs.declared.graph.FuncGraph.{FuncGraph}
use Rattle.gob_tree.specs.declared.graph.Program.{Program}
use Rattle.c_meaning.specs.Samples.{at, int_slot, long_slot, global, int_func}
use Rattle.gob_tree.specs.declared.expr.Width.TheVariants.{W64}

-- ---- sizes

abbrev pub nothing : Placed
nothing = at 2 3 Stmt.Empty

-- An int function with so many parameters, so many slots, and a body of so many empty statements and
-- one more. Its graph has a node for each of them, the entry and the exit.
abbrev pub sized : ℕ → ℕ → ℕ → Function
sized params slots more = record (int_func (replicate slots int_slot) [] (replicate (suc more) nothing)) { params = params }

abbrev pub unit_of : List Function → ℕ → ℕ → TranslationUnit
unit_of funcs globals mutexes =
    record { funcs = funcs; globals = replicate globals (global (pos 0)); mutexes = replicate mutexes []; main = 0 }

-- 128 functions of 8 parameters, 128 slots and 32 nodes each, 64 globals and 8 mutexes
abbrev pub full_function : Function
full_function = sized 8 128 29

abbrev pub full_unit : TranslationUnit
full_unit = unit_of (replicate 128 full_function) 64 8

abbrev pub small_function : Function
small_function = sized 0 1 0

abbrev pub too_many_functions : TranslationUnit
too_many_functions = unit_of (replicate 129 small_function) 0 0

abbrev pub too_many_globals : TranslationUnit
too_many_globals = unit_of (small_function ∷ []) 65 0

abbrev pub too_many_mutexes : TranslationUnit
too_many_mutexes = unit_of (small_function ∷ []) 0 9

abbrev pub too_many_params : TranslationUnit
too_many_params = unit_of (sized 9 10 0 ∷ []) 0 0

abbrev pub too_many_slots : TranslationUnit
too_many_slots = unit_of (sized 0 129 0 ∷ []) 0 0

-- one of 33 nodes and 127 of 32
abbrev pub too_many_nodes : TranslationUnit
too_many_nodes = unit_of (sized 8 128 30 ∷ replicate 127 full_function) 0 0

-- ---- widths

-- a function with one slot for an int and one for a long, of which the first is its result
abbrev pub int_function : FuncGraph
int_function = record { name = []; kind = Int; params = 0; slots = int_slot ∷ long_slot ∷ []; threads = []; nodes = []; edges = [] }

-- one that returns a long
abbrev pub long_function : FuncGraph
long_function = record int_function { slots = long_slot ∷ [] }

-- both, and an int and a long as globals
abbrev pub two_widths : Program
two_widths = record {
  funcs = int_function ∷ long_function ∷ [];
  globals = global (pos 0) ∷ record { name = []; width = W64; initial = pos 0 } ∷ [];
  mutexes = [];
  main = 0;
}
