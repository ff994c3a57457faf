-- What watched intervals and stops keep of the moments of a run.
--
-- A reader should check: that a frame's numbers and the globals' are asked to be described and nothing
-- else, and that the value of an expression is that of C with each name read as what it stands for.
use Rattle.std.specs.Prelude.{◌≡◌, ◌≢◌, ℕ, ℤ, pos, Bool, true, ◌&&◌, List, ◌++◌, Option, None, Some, Ok, Contains, IsSomeAnd, map, slice_get}
use Rattle.gob_tree.specs.Widths.{fits}
use Rattle.gob_tree.specs.declared.expr.Expr.{Expr}
use Rattle.gob_tree.specs.declared.graph.Program.{Program}
use Rattle.c_parse.specs.declared.raw.expr.RawExpr.{RawExpr}
use Rattle.c_parse.specs.declared.raw.expr.RawExpr.TheOpen.{RawExpr-F}
use Rattle.c_parse.specs.declared.raw.expr.RawExpr.TheFolds.{fold-RawExpr}
use Rattle.c_meaning.specs.Demand.{value_of}
use Rattle.interval_dom.specs.Bounds.{Describes}
use Rattle.state_dom.specs.StateValue.{HoldsEach, DescribesEach, DescribesState}
use Rattle.constraint_sys.specs.Table.{TableValue, slots_at, state_at}
use Rattle.arg_graph.specs.declared.vertex.Vertex.{Vertex}
use Rattle.arg_graph.specs.Vertices.{vertices_at}
use Rattle.breakpoint_eval.specs.declared.stop.Break.{Break}
use Rattle.breakpoint_eval.specs.declared.stop.Stop.{Stop}
use Rattle.breakpoint_eval.specs.Names.{as_slot, places_of}
use Rattle.breakpoint_eval.specs.Watching.{global_intervals, placed_at, stops_of, watched}

-- each number of an expression fits its width
abbrev pub fitting_step : RawExpr-F Bool → Bool
fitting_step (RawExpr-F.Number n w) = fits w n
fitting_step (RawExpr-F.Name x) = true
fitting_step (RawExpr-F.Unary op a) = a
fitting_step (RawExpr-F.Binary op a b) = a && b
fitting_step (RawExpr-F.Call f args) = true

abbrev pub has_fitting_numbers : RawExpr → Bool
has_fitting_numbers = fold-RawExpr Bool fitting_step

-- a moment of a run in a function: the numbers of the slots of its frame, those of all globals, the
-- owners of the mutexes, and the thread
pub record Moment : Type 0 where
  pub slots : List ℤ
  pub globals : List ℤ
  pub owners : List (Option ℕ)
  pub thread : ℕ

-- The state at a vertex describes the frame, and each global has a number of its width that is in its
-- interval.
pub record IsDescribedAt (p : Program) (t : TableValue) (v : Vertex) (m : Moment) : Type 0 where
  pub frame : DescribesState (slots_at p v.func) (state_at p t v.func v.key v.node) m.slots m.owners m.thread
  pub widths : HoldsEach (map as_slot p.globals) m.globals
  pub globals : DescribesEach (global_intervals p t) m.globals

-- an expression's names are known at a vertex, and it has the value n at a moment there
abbrev pub HasValueAt : Program → Vertex → Moment → RawExpr → ℤ → Type 0
HasValueAt p v m e n =
    IsSomeAnd (placed_at p (Some v) e) (λ (x : Expr). value_of x (places_of (slots_at p v.func) p.globals) (m.slots ++ m.globals) ≡ Ok n)

-- the value of a watched expression is in its interval
abbrev pub WatchesDescribe : Type 0
WatchesDescribe =
    (p : Program) (t : TableValue) (v : Vertex) (m : Moment) (e : RawExpr) (n : ℤ)
    → has_fitting_numbers e ≡ true → IsDescribedAt p t v m → HasValueAt p v m e n
    → IsSomeAnd (watched p t (Some v) e) (λ b. Describes b n)

-- a break has no condition, or one that holds at a moment
abbrev pub HoldsAt : Program → Vertex → Moment → Option RawExpr → Type 0
HoldsAt p v m None = Unit {0}
HoldsAt p v m (Some e) = (has_fitting_numbers e ≡ true) × ((n : ℤ) × HasValueAt p v m e n × (n ≢ pos 0))

-- the stop of a break has a vertex
abbrev pub StopsAt : Program → TableValue → List Break → ℕ → Vertex → Type 0
StopsAt p t breaks index v = (stop : Stop) × Contains (stops_of p t breaks) stop × (stop.index ≡ index) × Contains stop.at v

-- A vertex at a break's node is in its stop where it describes a moment at which the condition holds.
abbrev pub StopsDropNothing : Type 0
StopsDropNothing =
    (p : Program) (t : TableValue) (breaks : List Break) (index : ℕ) (b : Break) (v : Vertex) (m : Moment)
    → slice_get breaks index ≡ Some b → Contains (vertices_at t b.func b.node) v
    → IsDescribedAt p t v m → HoldsAt p v m b.cond → StopsAt p t breaks index v
