-- What keeps a frame of trees and one of graphs at the same moment: inputs, and the demands that are
-- met on the way.
--
-- A reader should check: that the graph's node and slots are those of the moment along the very inputs
-- that the tree's demand takes.
use Rattle.std.specs.Prelude.{◌≡◌, ◌≢◌, ◌≤◌, ℕ, ℤ, false, List, [], ◌∷◌, ◌++◌, IsTrue, length, take, Some, Ok, Err, slice_set}
use Rattle.gob_tree.specs.WellMade.{is_made_expr}
use Rattle.gob_tree.specs.declared.expr.Expr.{Expr}
use Rattle.gob_tree.specs.declared.graph.Action.{Action}
use Rattle.gob_tree.specs.declared.place.Place.{Place}
use Rattle.gob_tree.specs.declared.unit.Function.{Function}
use Rattle.gob_tree.specs.declared.unit.Unit.{Unit as TranslationUnit}
use Rattle.c_meaning.specs.declared.config.Todo.{Todo}
use Rattle.c_meaning.specs.declared.demand.Demand.{Demand}
use Rattle.c_meaning.specs.declared.demand.Demand.TheVariants.{Fault}
use Rattle.c_meaning.specs.Demand.{demand_of, value_of}
use Rattle.c_meaning.specs.Graph.{FlowGraph, flow_of, graph_slots, hoisted_expr, next_node}
use Rattle.c_meaning.specs.Walk.{Moment, StandsAt, input_slot, moment_along, settled_from}
use Rattle.graph_law.specs.Laying.{HasEdge}
use Rattle.hoist_law.specs.Hoisting.{WaitsFor, Within}

-- where a frame's graph comes to once an input is stored and silent edges are done while one can be
abbrev pub with_input : Function → ℕ → ℕ → ℤ → List ℤ → Moment
with_input f to t n slots = (settled_from (graph_slots f) (flow_of f).edges (record { node = to; slots = slice_set slots t n })).1

-- A front keeps standing where the tree gets one input more and the graph takes it by the edge that
-- leaves its node.
abbrev pub InputsKeepStanding : Type 0
InputsKeepStanding =
    (f : Function) (todo : Todo) (named ins : List ℤ) (node : ℕ) (slots : List ℤ) (act : Action) (to t : ℕ) (n : ℤ)
    → StandsAt f todo named ins node slots → HasEdge f false node act to → input_slot act ≡ Some t
    → StandsAt f todo named (ins ++ n ∷ []) (with_input f to t n slots).node (with_input f to t n slots).slots

-- A moment along inputs from where an expression that may stand in the function is hoisted.
pub record IsHoistedAlong (unit : TranslationUnit) (f : Function) (e : Expr) (place : Place) (n : ℕ) (d : FlowGraph) (values ins : List ℤ) (node : ℕ) (slots : List ℤ) : Type 0 where
  pub made : IsTrue (is_made_expr unit f e)
  pub nodes : 2 ≤ next_node d
  pub within : Within f (hoisted_expr e place n d).1.flow
  pub room : length values ≡ length (graph_slots f)
  pub along : moment_along (graph_slots f) (flow_of f).edges ins (record { node = n; slots = values }) ≡ Some (record { node = node; slots = slots })

-- Where the expression has a value by all the inputs, and an edge that isn't silent leaves the end of
-- its hoisting, the graph stands at this end, the hoisted expression has the value there, and the
-- named slots are as they were.
abbrev pub ValuesAreThere : Type 0
ValuesAreThere =
    (unit : TranslationUnit) (f : Function) (e : Expr) (place : Place) (n : ℕ) (d : FlowGraph) (values ins : List ℤ) (node : ℕ) (slots : List ℤ) (v : ℤ) (act : Action) (to : ℕ)
    → IsHoistedAlong unit f e place n d values ins node slots → demand_of e f.slots (take (length f.slots) values) ins ≡ (Ok v, [])
    → HasEdge f false (hoisted_expr e place n d).1.at act to
    → (node ≡ (hoisted_expr e place n d).1.at) × (value_of (hoisted_expr e place n d).0 (graph_slots f) slots ≡ Ok v)
    × (take (length f.slots) slots ≡ take (length f.slots) values)

-- Where the expression lacks an input that isn't there yet, the graph's node waits for just this one,
-- and the named slots are as they were.
abbrev pub MissingIsAwaited : Type 0
MissingIsAwaited =
    (unit : TranslationUnit) (f : Function) (e : Expr) (place : Place) (n : ℕ) (d : FlowGraph) (values ins : List ℤ) (node : ℕ) (slots : List ℤ) (missing : Demand)
    → IsHoistedAlong unit f e place n d values ins node slots → (demand_of e f.slots (take (length f.slots) values) ins).0 ≡ Err missing → missing ≢ Fault
    → WaitsFor f missing node slots × (take (length f.slots) slots ≡ take (length f.slots) values)
