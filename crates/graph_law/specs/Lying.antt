-- Where what a frame has still to do is laid out in the graph of its function.
--
-- A reader should check: along which route and on which graph each part of a statement is lowered,
-- at which node each thing to do begins, and where `break` and `continue` lead from it.
use Rattle.std.specs.Prelude.{◌≡◌, ℕ, List, [], ◌∷◌, map, Option, None, Some}
use Rattle.std.specs.Option.{option_map, option_map_or}
use Rattle.gob_tree.specs.declared.place.Place.{Place}
use Rattle.gob_tree.specs.declared.expr.Expr.{Expr}
use Rattle.gob_tree.specs.declared.stmt.Stmt.{Stmt, If, While, DoWhile, For, Block}
use Rattle.gob_tree.specs.declared.stmt.Placed.{Placed}
use Rattle.gob_tree.specs.declared.unit.Function.{Function}
use Rattle.c_meaning.specs.declared.config.Todo.{Todo}
use Rattle.c_meaning.specs.declared.config.Todo.TheVariants.{Stmt as Doing, Test, Last}
use Rattle.c_meaning.specs.Tree.{statements, unrolling, after_break, after_continue}
use Rattle.c_meaning.specs.Graph.{FlowGraph, Route, Hoisted, lowering_of, next_node, with_node, route_to, route_from, then_route, else_route, while_route, do_route, first_route, for_route, last_node, hoisted_expr, condition, if_head, while_head, for_first, for_head, first_flow, body_route}

-- a statement at a place
abbrev pub at : Place → Stmt → Placed
at place s = record { place = place; stmt = s }

abbrev pub start_of : Placed → Place
start_of p = (lowering_of p).start

-- a `for`'s condition, hoisted from the node of its test
abbrev pub for_condition : Place → List Placed → Option Expr → Route → FlowGraph → Hoisted Expr
for_condition place first test r d = hoisted_expr (condition test) place (next_node d) (for_first (map lowering_of first) place r d)

-- the graph before a `for`'s body
abbrev pub for_opened : Place → List Placed → Option Expr → Option Placed → Placed → Route → FlowGraph → FlowGraph
for_opened place first test last body r d =
    for_head (start_of body) (option_map_or start_of last place) r.to (for_condition place first test r d)

mutual
  -- a statement that is met while the body of a function is lowered, with its route and the graph
  -- before it; the last part of a `for` is none of its own, since it comes next as a part of the loop
  pub data Piece (f : Function) : Placed → Route → FlowGraph → Type 0 where
    alone : (s : Placed) (r : Route) (d : FlowGraph) → Series f (s ∷ []) r d → Piece f s r d
    first_of : (s s' : Placed) (ss : List Placed) (r : Route) (d : FlowGraph) → Series f (s ∷ s' ∷ ss) r d
        → Piece f s (route_to (next_node d) r) (with_node (start_of s') d)
    then_part : (place : Place) (e : Expr) (a : Placed) (b : Option Placed) (r : Route) (d : FlowGraph) → Piece f (at place (If e a b)) r d
        → Piece f a (then_route r (hoisted_expr e place r.from d)) (if_head (start_of a) (option_map start_of b) r.to (hoisted_expr e place r.from d))
    else_part : (place : Place) (e : Expr) (a b : Placed) (r : Route) (d : FlowGraph) → Piece f (at place (If e a (Some b))) r d
        → Piece f b (else_route r (hoisted_expr e place r.from d))
        ((lowering_of a).lower (then_route r (hoisted_expr e place r.from d))
        (if_head (start_of a) (Some (start_of b)) r.to (hoisted_expr e place r.from d)))
    while_body : (place : Place) (e : Expr) (body : Placed) (r : Route) (d : FlowGraph) → Piece f (at place (While e body)) r d
        → Piece f body (while_route r (hoisted_expr e place r.from d)) (while_head (start_of body) r.to (hoisted_expr e place r.from d))
    do_body : (place : Place) (e : Expr) (body : Placed) (r : Route) (d : FlowGraph) → Piece f (at place (DoWhile body e)) r d
        → Piece f body (do_route r (next_node d)) (with_node place d)
    for_body : (place : Place) (first : List Placed) (test : Option Expr) (last : Option Placed) (body : Placed) (r : Route) (d : FlowGraph)
        → Piece f (at place (For first test last body)) r d
        → Piece f body (for_route r (for_condition place first test r d)) (for_opened place first test last body r d)

  -- a list of statements that is met so
  pub data Series (f : Function) : List Placed → Route → FlowGraph → Type 0 where
    body : Series f f.body body_route (first_flow f)
    behind : (s s' : Placed) (ss : List Placed) (r : Route) (d : FlowGraph) → Series f (s ∷ s' ∷ ss) r d
        → Series f (s' ∷ ss) (route_from (next_node d) r)
        ((lowering_of s).lower (route_to (next_node d) r) (with_node (start_of s') d))
    in_block : (place : Place) (all : List Placed) (r : Route) (d : FlowGraph) → Piece f (at place (Block all)) r d → Series f all r d
    for_firsts : (place : Place) (s : Placed) (ss : List Placed) (test : Option Expr) (last : Option Placed) (body : Placed) (r : Route) (d : FlowGraph)
        → Piece f (at place (For (s ∷ ss) test last body)) r d → Series f (s ∷ ss) (first_route r (next_node d)) (with_node place d)

-- the node of a loop's test, and one from which this loop's own silent skip leads there
pub data TestsAt : Placed → Route → FlowGraph → ℕ → Type 0 where
  at_while : (place : Place) (e : Expr) (body : Placed) (r : Route) (d : FlowGraph) → TestsAt (at place (While e body)) r d r.from
  at_do : (place : Place) (e : Expr) (body : Placed) (r : Route) (d : FlowGraph) → TestsAt (at place (DoWhile body e)) r d (next_node d)
  at_for : (place : Place) (first : List Placed) (test : Option Expr) (last : Option Placed) (body : Placed) (r : Route) (d : FlowGraph)
      → TestsAt (at place (For first test last body)) r d (next_node d)
  without_first : (place : Place) (test : Option Expr) (last : Option Placed) (body : Placed) (r : Route) (d : FlowGraph)
      → TestsAt (at place (For [] test last body)) r d r.from
  without_last : (place : Place) (first : List Placed) (test : Option Expr) (body : Placed) (r : Route) (d : FlowGraph)
      → TestsAt (at place (For first test None body)) r d (last_node (for_condition place first test r d))

-- the node of a `for`'s last part
pub data LastAt : Placed → Route → FlowGraph → ℕ → Type 0 where
  at_last : (place : Place) (first : List Placed) (test : Option Expr) (last body : Placed) (r : Route) (d : FlowGraph)
      → LastAt (at place (For first test (Some last) body)) r d (last_node (for_condition place first test r d))

-- What is to do lies in the graph of its function from a node on: each thing begins at its own
-- node, what comes after it where it ends, and what is left after `break` and after `continue`
-- where these lead. Nothing to do lies at the exit.
pub data Lies (f : Function) : List Todo → ℕ → Type 0 where
  nothing : Lies f [] 1
  does : (s : Placed) (rest : List Todo) (r : Route) (d : FlowGraph) → Piece f s r d → Lies f rest r.to
      → Lies f (after_break rest) r.on_break → Lies f (after_continue rest) r.on_continue → Lies f (Doing s ∷ rest) r.from
  tests : (l : Placed) (rest : List Todo) (r : Route) (d : FlowGraph) (n : ℕ) → Piece f l r d → TestsAt l r d n → Lies f rest r.to
      → Lies f (Test l ∷ rest) n
  lasts : (l : Placed) (rest : List Todo) (r : Route) (d : FlowGraph) (n : ℕ) → Piece f l r d → LastAt l r d n → Lies f rest r.to
      → Lies f (Last l ∷ Test l ∷ rest) n

-- what is unrolled in front lies where it lay before
abbrev pub UnrollingLies : Type 0
UnrollingLies = (f : Function) (todo : List Todo) (n : ℕ) → Lies f todo n → Lies f (unrolling todo) n

-- a function's body, unrolled, lies from the body's start
abbrev pub BodiesLie : Type 0
BodiesLie = (f : Function) (s : Placed) (ss : List Placed) → f.body ≡ s ∷ ss → Lies f (unrolling (statements f.body)) 2
