-- Functions and edges of a formed program.
use Rattle.std.proofs.Common.{◌≡◌, refl, subst, ℕ, List, [], Option, None, Some}
use Rattle.std.specs.Prelude.{slice_get}
use Rattle.std.specs.Option.{option_map_or}
use Rattle.std.proofs.lemmas.List.Elements.{All-get_or}
use Rattle.std.proofs.lemmas.Option.{get_or_from_slice_get, slice_get_within, option_and_then_some}
use Rattle.gob_tree.specs.Formed.{IsFormed, IsFormedEdge}
use Rattle.gob_tree.specs.declared.expr.Width.TheVariants.{W32}
use Rattle.gob_tree.specs.declared.graph.Edge.{Edge}
use Rattle.gob_tree.specs.declared.graph.FuncGraph.{FuncGraph}
use Rattle.gob_tree.specs.declared.graph.Program.{Program}
use Rattle.gob_tree.specs.declared.unit.GlobalDecl.{GlobalDecl}
use Rattle.c_meaning.specs.Config.{global_width}
use Rattle.c_meaning.specs.GraphStep.{edge_at, func_slots}
use Rattle.constraint_sys.specs.Table.{slots_at, slots_of_function}
use Rattle.constraint_sys.specs.Transfer.{width_of_global}
use Rattle.constraint_sys.proofs.Fitting.{IsFunctionAt, function_there}

-- a function's slots, and a global's width, in the words of steps and of tables
slots_same : (o : Option FuncGraph) → option_map_or (λ (func : FuncGraph). func.slots) o [] ≡ slots_of_function o
slots_same None = refl
slots_same (Some func) = refl

pub func_slots-slots_at : (p : Program) (f : ℕ) → func_slots p f ≡ slots_at p f
func_slots-slots_at p f = slots_same (slice_get p.funcs f)

width_same : (o : Option GlobalDecl) → option_map_or (λ (decl : GlobalDecl). decl.width) o W32 ≡ width_of_global o
width_same None = refl
width_same (Some decl) = refl

pub global_width-table : (globals : List GlobalDecl) (g : ℕ) → global_width globals g ≡ width_of_global (slice_get globals g)
global_width-table globals g = width_same (slice_get globals g)

-- an edge that is there is formed, in a function that is formed
pub record IsFormedAt (p : Program) (f : ℕ) (edge : Edge) : Type 0 where
  pub function : FuncGraph
  pub there : IsFunctionAt p f function
  pub formed : IsFormedEdge p function edge

pub edge_formed : (p : Program) → IsFormed p → (f number : ℕ) (edge : Edge) → edge_at p f number ≡ Some edge → IsFormedAt p f edge
edge_formed p formed f number edge q =
    option_and_then_some (λ (func : FuncGraph). slice_get func.edges number) (slice_get p.funcs f) edge q (λ function at got.
    let there = function_there p formed f function at in
    record {
      function = function;
      there = there;
      formed = subst (IsFormedEdge p function) (get_or_from_slice_get function.edges number edge edge got)
          (All-get_or (IsFormedEdge p function) function.edges number edge (slice_get_within function.edges number edge got) there.formed.edges_formed);
    })
