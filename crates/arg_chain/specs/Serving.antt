-- What the calls of a graph are made ready with.
--
-- A reader should check: that the graph is that of a table of the program, and that the numbered calls,
-- where they come from and where they begin are those of this graph.
use Rattle.std.specs.Prelude.{◌↔◌, ℕ, List, length, Contains}
use Rattle.std.specs.Global.{Vec}
use Rattle.gob_tree.specs.declared.graph.Program.{Program}
use Rattle.constraint_sys.specs.Table.{TableValue}
use Rattle.arg_graph.specs.Graphs.{IsGraphOf, offered_in, vertices_in}
use Rattle.arg_graph.specs.declared.graph.Graph.{Graph}
use Rattle.arg_graph.specs.declared.vertex.Vertex.{Vertex}
use Rattle.arg_chain.specs.Calls.{IsCallsOf, IsRootNumber}
use Rattle.arg_chain.specs.Walk.{Graph as NumberGraph, IsTurned}

-- the program and the graph whose calls they are
pub record Served : Type 0 where
  pub program : Program
  pub graph : Graph

-- the graph is that of a table; the rows are its calls, turned round too; the roots are the numbers of
-- the contexts in which threads begin
pub record IsReady (p : Program) (g : Graph) (numbers : List (Vertex × ℕ)) (rows : NumberGraph) (before : List (Vec ℕ)) (starts : List ℕ) : Type 0 where
  pub graph : (t : TableValue) × IsGraphOf p t g
  pub calls : IsCallsOf (vertices_in g) (offered_in g) numbers rows
  pub turned : IsTurned rows before
  pub roots : (r : ℕ) → Contains starts r ↔ IsRootNumber p (vertices_in g) (length (vertices_in g)) numbers r
