-- Watched expressions, breakpoints with conditions, and stops.
--
-- A reader should check: that a condition with an unknown name holds nowhere, that each vertex of a
-- node is tested by itself, and that a vertex stays where its condition may be other than 0.
use Rattle.std.specs.Prelude.{ℕ, ◌+◌, Bool, true, List, [], ◌∷◌, ◌++◌, Option, None, Some, filter, unwrap_or, option_and_then}
use Rattle.gob_tree.specs.declared.expr.Expr.{Expr}
use Rattle.gob_tree.specs.declared.graph.Program.{Program}
use Rattle.gob_tree.specs.declared.unit.GlobalDecl.{GlobalDecl}
use Rattle.gob_tree.specs.declared.unit.Slot.{Slot}
use Rattle.c_parse.specs.declared.raw.expr.RawExpr.{RawExpr}
use Rattle.interval_dom.specs.Bounds.{Bounds}
use Rattle.state_dom.specs.Evaluation.{interval_of}
use Rattle.state_dom.specs.Operators.{full_of, may_be}
use Rattle.state_dom.specs.StateValue.{slots_of}
use Rattle.constraint_sys.specs.Table.{TableValue, slots_at, state_at}
use Rattle.constraint_sys.specs.Transfer.{number_at}
use Rattle.arg_graph.specs.declared.vertex.Vertex.{Vertex}
use Rattle.arg_graph.specs.Vertices.{vertices_at}
use Rattle.breakpoint_eval.specs.declared.stop.Break.{Break}
use Rattle.breakpoint_eval.specs.declared.stop.Stop.{Stop}
use Rattle.breakpoint_eval.specs.Names.{place_named, places_of}
use Rattle.breakpoint_eval.specs.Placing.{placed}

-- ---- what is known at a vertex, or without one of the globals alone

-- the intervals of globals, of which the first has number g; a global that isn't in the table may be
-- any number of its width
abbrev pub globals_from : TableValue → ℕ → List GlobalDecl → List Bounds
globals_from t g [] = []
globals_from t g (decl ∷ rest) = unwrap_or (number_at t g) (full_of decl.width) ∷ globals_from t (g + 1) rest

abbrev pub global_intervals : Program → TableValue → List Bounds
global_intervals p t = globals_from t 0 p.globals

abbrev pub slots_seen : Program → Option Vertex → List Slot
slots_seen p None = []
slots_seen p (Some v) = slots_at p v.func

abbrev pub intervals_seen : Program → TableValue → Option Vertex → List Bounds
intervals_seen p t None = []
intervals_seen p t (Some v) = slots_of (state_at p t v.func v.key v.node)

-- ---- watching

-- an expression with its names as places; none where a name is neither a local there nor a global
abbrev pub placed_at : Program → Option Vertex → RawExpr → Option Expr
placed_at p v e = placed (place_named (slots_seen p v) p.globals) e

-- the interval of an expression over places, where it has a value
abbrev pub interval_at : Program → TableValue → Option Vertex → Expr → Option Bounds
interval_at p t v x = interval_of (places_of (slots_seen p v) p.globals) (intervals_seen p t v ++ global_intervals p t) x

-- the interval of a watched expression, where its names are known and it has a value
abbrev pub watched : Program → TableValue → Option Vertex → RawExpr → Option Bounds
watched p t v e = option_and_then (interval_at p t v) (placed_at p v e)

-- ---- stops

-- whether a condition may hold at a vertex; without one a break holds at each
abbrev pub may_stop : Program → TableValue → Option RawExpr → Vertex → Bool
may_stop p t None v = true
may_stop p t (Some e) v = may_be true (watched p t (Some v) e)

abbrev pub stopping : Program → TableValue → Break → List Vertex
stopping p t b = filter (may_stop p t b.cond) (vertices_at t b.func b.node)

-- a break without a vertex gives no stop
abbrev pub stop_with : ℕ → List Vertex → List Stop
stop_with index [] = []
stop_with index (v ∷ vs) = record { index = index; at = v ∷ vs } ∷ []

-- the stops of breaks, of which the first has number index
abbrev pub stops_from : Program → TableValue → ℕ → List Break → List Stop
stops_from p t index [] = []
stops_from p t index (b ∷ bs) = stop_with index (stopping p t b) ++ stops_from p t (index + 1) bs

abbrev pub stops_of : Program → TableValue → List Break → List Stop
stops_of p t breaks = stops_from p t 0 breaks
