-- What is known of watched expressions and conditions that texts are.
--
-- A reader should check: that nothing is asked of an expression but that a text is it.
use Rattle.std.specs.Prelude.{◌≡◌, ◌≢◌, ℕ, ℤ, pos, true, List, Option, None, Some, Contains, IsSomeAnd, slice_get}
use Rattle.gob_tree.specs.declared.graph.Program.{Program}
use Rattle.c_parse.specs.Expression.{IsExpression}
use Rattle.c_parse.specs.declared.raw.expr.RawExpr.{RawExpr}
use Rattle.interval_dom.specs.Bounds.{Describes}
use Rattle.constraint_sys.specs.Table.{TableValue}
use Rattle.arg_graph.specs.Vertices.{vertices_at}
use Rattle.arg_graph.specs.declared.vertex.Vertex.{Vertex}
use Rattle.breakpoint_eval.specs.declared.stop.Break.{Break}
use Rattle.breakpoint_eval.specs.Laws.{HasValueAt, IsDescribedAt, Moment, StopsAt, has_fitting_numbers}
use Rattle.breakpoint_eval.specs.Watching.{watched}

-- each number of an expression that a text is fits its width
abbrev pub NumbersFit : Type 0
NumbersFit = (text : List ℕ) (e : RawExpr) → IsExpression text e → has_fitting_numbers e ≡ true

-- the value of an expression that a text is, is in its interval
abbrev pub WatchesDescribe : Type 0
WatchesDescribe =
    (p : Program) (t : TableValue) (v : Vertex) (m : Moment) (text : List ℕ) (e : RawExpr) (n : ℤ)
    → IsExpression text e → IsDescribedAt p t v m → HasValueAt p v m e n
    → IsSomeAnd (watched p t (Some v) e) (λ b. Describes b n)

-- a break has no condition, or one that a text is and that holds at a moment
abbrev pub HoldsAt : Program → Vertex → Moment → Option RawExpr → Type 0
HoldsAt p v m None = Unit {0}
HoldsAt p v m (Some e) = ((text : List ℕ) × IsExpression text e) × ((n : ℤ) × HasValueAt p v m e n × (n ≢ pos 0))

-- A vertex at a break's node is in its stop where it describes a moment at which the condition holds.
abbrev pub StopsDropNothing : Type 0
StopsDropNothing =
    (p : Program) (t : TableValue) (breaks : List Break) (index : ℕ) (b : Break) (v : Vertex) (m : Moment)
    → slice_get breaks index ≡ Some b → Contains (vertices_at t b.func b.node) v
    → IsDescribedAt p t v m → HoldsAt p v m b.cond → StopsAt p t breaks index v
