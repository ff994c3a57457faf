-- The edges of what is to do, in the graph of its function.
use Rattle.std.specs.Prelude.{◌≡◌, ℕ, ◌⊎◌, Bool, true, false, List, [], ◌∷◌, ◌++◌, Option, Some}
use Rattle.std.specs.List.{Contains}
use Rattle.std.specs.Option.{option_map_or}
use Rattle.gob_tree.specs.declared.place.Place.{Place}
use Rattle.gob_tree.specs.declared.expr.Expr.{Expr}
use Rattle.gob_tree.specs.declared.stmt.Stmt.{If, While, For}
use Rattle.gob_tree.specs.declared.stmt.Placed.{Placed}
use Rattle.gob_tree.specs.declared.unit.Function.{Function}
use Rattle.gob_tree.specs.declared.graph.Action.{Action}
use Rattle.gob_tree.specs.declared.graph.Action.TheVariants.{Guard, Skip}
use Rattle.c_meaning.specs.declared.config.Todo.{Todo}
use Rattle.c_meaning.specs.declared.config.Todo.TheVariants.{Stmt as Doing, Test, Last}
use Rattle.c_meaning.specs.Tree.{after_break, after_continue, turn_of, layer_of, test_exprs}
use Rattle.c_meaning.specs.Graph.{MarkedEdge, FlowGraph, Route, lowering_of, hoisted_expr, flow_of}
use Rattle.c_meaning.specs.Walk.{begun_of}
use Rattle.graph_law.specs.Lying.{at, Lies}

-- one graph begins with the edges of another
pub record Extends (a b : FlowGraph) : Type 0 where
  pub more : List MarkedEdge
  pub edges : b.edges ≡ a.edges ++ more

-- an edge of a function's graph
abbrev pub HasEdge : Function → Bool → ℕ → Action → ℕ → Type 0
HasEdge f silent from act to = Contains (flow_of f).edges (record { edge = record { from = from; act = act; to = to }; silent = silent })

-- How a statement that comes next is laid out: its edges are those that it is lowered to along a
-- route from here, and what comes after it, after `break` and after `continue` lies where the
-- route leads.
pub record Laid (f : Function) (s : Placed) (rest : List Todo) (n : ℕ) : Type 0 where
  pub route : Route
  pub graph : FlowGraph
  pub begins : route.from ≡ n
  pub drawn : Extends ((lowering_of s).lower route graph) (flow_of f)
  pub next : Lies f rest route.to
  pub breaks : Lies f (after_break rest) route.on_break
  pub continues : Lies f (after_continue rest) route.on_continue

abbrev pub StatementsAreLaid : Type 0
StatementsAreLaid = (f : Function) (s : Placed) (rest : List Todo) (n : ℕ) → Lies f (Doing s ∷ rest) n → Laid f s rest n

-- the guards of a condition that is hoisted from a node, what lies where it holds, and where it doesn't
pub record Splits (f : Function) (e : Expr) (place : Place) (n : ℕ) (holds fails : List Todo) : Type 0 where
  pub graph : FlowGraph
  pub hoisted : Extends (hoisted_expr e place n graph).1.flow (flow_of f)
  pub on_true : ℕ
  pub on_false : ℕ
  pub guard_true : HasEdge f false (hoisted_expr e place n graph).1.at (Guard (hoisted_expr e place n graph).0 true) on_true
  pub guard_false : HasEdge f false (hoisted_expr e place n graph).1.at (Guard (hoisted_expr e place n graph).0 false) on_false
  pub then_lies : Lies f holds on_true
  pub else_lies : Lies f fails on_false

-- the branches of an `if` lie behind its guards
abbrev pub BranchesLie : Type 0
BranchesLie =
    (f : Function) (place : Place) (e : Expr) (a : Placed) (b : Option Placed) (rest : List Todo) (n : ℕ) → Lies f (Doing (at place (If e a b)) ∷ rest) n
    → Splits f e place n (Doing a ∷ rest) (option_map_or (λ other. Doing other ∷ rest) b rest)

-- the body of a `while` that comes next and what comes after the loop lie behind its guards
abbrev pub WhilesLie : Type 0
WhilesLie =
    (f : Function) (place : Place) (e : Expr) (body : Placed) (rest : List Todo) (n : ℕ) → Lies f (Doing (at place (While e body)) ∷ rest) n
    → Splits f e place n (Doing body ∷ Test (at place (While e body)) ∷ rest) rest

-- A loop's test at a node: its condition's guards, with the loop's body behind one of them and what
-- comes after the loop behind the other.
pub record Tested (f : Function) (l : Placed) (rest : List Todo) (h : ℕ) : Type 0 where
  pub condition : Expr
  pub exprs : test_exprs (layer_of l) ≡ condition ∷ []
  pub splits : Splits f condition l.place h (turn_of (layer_of l) l rest) rest

-- the test of a loop that has begun lies at its node, or a silent skip leads there
abbrev pub TestsLie : Type 0
TestsLie =
    (f : Function) (l : Placed) (rest : List Todo) (n : ℕ) → Lies f (Test l ∷ rest) n
    → (h : ℕ) × ((h ≡ n) ⊎ HasEdge f true n Skip h) × Tested f l rest h

-- the last part of a `for`
pub data IsLastPart : Placed → Placed → Type 0 where
  last_of : (place : Place) (first : List Placed) (test : Option Expr) (last body : Placed) → IsLastPart (at place (For first test (Some last) body)) last

-- the last part of a `for` is laid out as a statement is
abbrev pub LastPartsLie : Type 0
LastPartsLie =
    (f : Function) (l : Placed) (rest : List Todo) (n : ℕ) → Lies f (Last l ∷ rest) n
    → (last : Placed) × IsLastPart l last × Laid f last rest n

-- What comes next begins, as standing says it, at the node where it lies or where a silent skip
-- leads from there.
abbrev pub ThingsBegin : Type 0
ThingsBegin =
    (f : Function) (todo : Todo) (rest : List Todo) (n : ℕ) → Lies f (todo ∷ rest) n
    → (h : ℕ) × ((h ≡ n) ⊎ HasEdge f true n Skip h) × Contains (begun_of f) (todo, h)
