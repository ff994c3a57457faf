-- How single edges and ways of them stand to the moment along inputs, and how the ways of a hoisted
-- expression stand to its demand.
use Rattle.std.specs.Prelude.{◌≡◌, ◌≤◌, ℕ, ℤ, true, false, List, ◌++◌, All, IsTrue, length, take, None, Some, Ok}
use Rattle.gob_tree.specs.declared.graph.Action.{Action}
use Rattle.gob_tree.specs.WellMade.{is_made_expr}
use Rattle.gob_tree.specs.declared.expr.Expr.{Expr}
use Rattle.gob_tree.specs.declared.place.Place.{Place}
use Rattle.gob_tree.specs.declared.stmt.Placed.{Placed}
use Rattle.gob_tree.specs.declared.unit.Function.{Function}
use Rattle.gob_tree.specs.declared.unit.Unit.{Unit as TranslationUnit}
use Rattle.c_meaning.specs.Demand.{demand_of, demands_of, value_of, values_of, width_of}
use Rattle.c_meaning.specs.Graph.{FlowGraph, Route, flow_of, graph_slots, hoisted_expr, hoisted_exprs, lowering_of, next_node}
use Rattle.c_meaning.specs.GraphStep.{local_slots}
use Rattle.c_meaning.specs.Walk.{Moment, input_from, input_slot, moment_along, silent_from}
use Rattle.graph_law.specs.Laying.{HasEdge}
use Rattle.graph_law.specs.Lying.{Piece}
use Rattle.hoist_law.specs.Along.{Along}
use Rattle.hoist_law.specs.Hoisting.{Meets, Within}

-- a silent edge that leaves a node and can be done is the one that is done there
abbrev pub SilentEdgesAreDone : Type 0
SilentEdgesAreDone =
    (f : Function) (act : Action) (to : ℕ) (m : Moment) (values : List ℤ) → HasEdge f true m.node act to → local_slots (graph_slots f) act m.slots ≡ Some values
    → (e : ℕ) × (silent_from (graph_slots f) (flow_of f).edges 0 m ≡ Some (e, record { node = to; slots = values }))

-- where an edge that takes an input leaves a node, no silent edge can be done there, and the input
-- goes by this edge
abbrev pub InputsAreTaken : Type 0
InputsAreTaken =
    (f : Function) (act : Action) (to x : ℕ) (m : Moment) → HasEdge f false m.node act to → input_slot act ≡ Some x
    → (silent_from (graph_slots f) (flow_of f).edges 0 m ≡ None) × (input_from (flow_of f).edges m.node ≡ Some (x, to))

-- a way that takes some inputs leads to where the moment goes on with the others
abbrev pub WaysLeadOn : Type 0
WaysLeadOn =
    (f : Function) (ins rest : List ℤ) (m last : Moment) → Along f ins m last
    → moment_along (graph_slots f) (flow_of f).edges (ins ++ rest) m ≡ moment_along (graph_slots f) (flow_of f).edges rest last

-- What an expression that may stand in a function answers on the named slots and the inputs, its
-- hoisting does in the graph that has its entry and its exit already: it reaches its end with the value and the inputs that are left, or
-- waits for the missing input, or there is a fault.
abbrev pub HoistingMeetsDemand : Type 0
HoistingMeetsDemand =
    (unit : TranslationUnit) (f : Function) (e : Expr) (place : Place) (node : ℕ) (d : FlowGraph) (values ins : List ℤ) → IsTrue (is_made_expr unit f e) → 2 ≤ next_node d
    → Within f (hoisted_expr e place node d).1.flow → length values ≡ length (graph_slots f)
    → Meets f node values ins (hoisted_expr e place node d).1.at (λ v new. value_of (hoisted_expr e place node d).0 (graph_slots f) new ≡ Ok v)
    (demand_of e f.slots (take (length f.slots) values) ins).0 (demand_of e f.slots (take (length f.slots) values) ins).1

-- and so do the hoisted arguments of a call that stands alone
abbrev pub HoistingMeetsDemands : Type 0
HoistingMeetsDemands =
    (unit : TranslationUnit) (f : Function) (es : List Expr) (place : Place) (node : ℕ) (d : FlowGraph) (values ins : List ℤ) → All (λ e. IsTrue (is_made_expr unit f e)) es → 2 ≤ next_node d
    → Within f (hoisted_exprs es place node d).1.flow → length values ≡ length (graph_slots f)
    → Meets f node values ins (hoisted_exprs es place node d).1.at (λ vs new. values_of (hoisted_exprs es place node d).0 (graph_slots f) new ≡ Ok vs)
    (demands_of es f.slots (take (length f.slots) values) ins).0 (demands_of es f.slots (take (length f.slots) values) ins).1

-- an expression has the same width among the slots of the graph as among the named ones
abbrev pub HoistingKeepsWidth : Type 0
HoistingKeepsWidth =
    (unit : TranslationUnit) (f : Function) (e : Expr) (place : Place) (node : ℕ) (d : FlowGraph) → IsTrue (is_made_expr unit f e) → 2 ≤ next_node d → Within f (hoisted_expr e place node d).1.flow
    → width_of (hoisted_expr e place node d).0 (graph_slots f) ≡ width_of e f.slots

-- What a statement is lowered to, wherever it is met in a body, is on the way to the function's graph
-- with its temporaries too, so that what is said of hoisting holds of its expressions.
abbrev pub PiecesAreWithin : Type 0
PiecesAreWithin = (f : Function) (s : Placed) (r : Route) (d : FlowGraph) → Piece f s r d → Within f ((lowering_of s).lower r d)
