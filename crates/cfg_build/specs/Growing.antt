-- What the builder of a graph shows and answers.
use Rattle.std.specs.Prelude.{◌≡◌, Bool, true, false, ℕ, ◌+◌, ◌<◌, ◌≤◌, ◌⊎◌, List, map, length, reverse, Result, MatchResult, Some}
use Rattle.gob_tree.specs.declared.place.Place.{Place}
use Rattle.gob_tree.specs.declared.expr.Width.{Width}
use Rattle.gob_tree.specs.declared.expr.Width.TheVariants.{W32}
use Rattle.gob_tree.specs.declared.expr.Expr.{Expr, Number}
use Rattle.gob_tree.specs.declared.stmt.Stmt.{Stmt, fold-Stmt}
use Rattle.gob_tree.specs.declared.graph.Action.TheVariants.{Assign, Guard}
use Rattle.gob_tree.specs.declared.graph.FuncGraph.{FuncGraph}
use Rattle.c_meaning.specs.Demand.{truth}
use Rattle.c_meaning.specs.Graph.{MarkedEdge, FlowGraph, HoistState, Hoisted, Route, Lowering, next_node, with_node, with_silent, with_guards, node_of, hoisted_expr, then_route, for_route, if_head, for_head, lowering_step, placed_step}
use Rattle.cfg_build.specs.declared.fault.BuildFault.{BuildFault}
use Rattle.cfg_build.specs.declared.fault.BuildFault.TheVariants.{Limit, Memory}
use Rattle.cfg_build.specs.declared.marked.Marked.{Marked}
use Rattle.cfg_build.specs.declared.route.Route.{Route as Way}

-- ---- limits

-- more than 4,096 nodes, or more than 128 slots
abbrev pub IsOverLimits : FuncGraph → Type 0
IsOverLimits g = (4096 < length g.nodes) ⊎ (128 < length g.slots)

abbrev pub IsWithinLimits : FuncGraph → Type 0
IsWithinLimits g = (length g.nodes ≤ 4096) × (length g.slots ≤ 128)

-- A limit is told of a graph that is over one; want of memory of any graph.
abbrev pub FaultsAt : BuildFault → ℕ → ℕ → Type 0
FaultsAt Limit nodes slots = (4096 < nodes) ⊎ (128 < slots)
FaultsAt Memory nodes slots = Unit {0}

abbrev pub slot_count : FlowGraph → ℕ
slot_count d = d.named + length d.temps

abbrev pub Faults : BuildFault → FlowGraph → Type 0
Faults fault d = FaultsAt fault (next_node d) (slot_count d)

-- ---- what the builder shows

abbrev pub marked_edge : Marked → MarkedEdge
marked_edge m = record { edge = m.edge; silent = m.silent }

-- the temporaries of a statement were taken from the first to the last
abbrev pub shown : ℕ → List Width → List Place → List Marked → List ℕ → ℕ → HoistState
shown named temps nodes edges taken at = record {
  flow = record { named = named; temps = temps; nodes = nodes; edges = map marked_edge edges };
  taken = reverse taken;
  at = at;
}

abbrev pub route_of : Way → Route
route_of r = record { from = r.from; to = r.to; on_break = r.on_break; on_continue = r.on_continue }

-- ---- what a call of the builder answers

-- the graph is the one that is drawn so
abbrev pub Draws : {A : Type 0} → Result A BuildFault → HoistState → FlowGraph → Type 0
Draws r s d = MatchResult r (λ _. s.flow ≡ d) (λ fault. Faults fault d)

-- the value and the state are those of the hoisting
abbrev pub Hoists : {A : Type 0} → Result A BuildFault → HoistState → Hoisted A → Type 0
Hoists r s h = MatchResult r (λ x. (x ≡ h.0) × (s ≡ h.1)) (λ fault. Faults fault h.1.flow)

-- ---- stages of the definition

-- `&&` and `||` before their right operand: guards to the new nodes p and p + 1, of which one
-- decides and leads on to p + 2
abbrev pub branched : Bool → Place → ℕ → ℕ → Expr → HoistState → HoistState
branched stop place t p l s =
    let q = p + 1 in
    let nodes = with_node place (with_node place (with_node place s.flow)) in
    let guards = with_silent s.at (Guard l false) q (with_silent s.at (Guard l true) p nodes) in
    record s { flow = with_silent (node_of stop p q) (Assign t (Number (truth stop) W32)) (p + 2) guards; at = node_of stop q p }

abbrev pub lowering_at : Stmt → Place → Lowering
lowering_at = fold-Stmt (Place → Lowering) Lowering lowering_step placed_step

-- the test of a `do`, behind its body
abbrev pub do_test : Expr → Place → ℕ → Route → FlowGraph → FlowGraph
do_test e place test r d =
    let found = hoisted_expr e place test d in
    with_guards found.1.at found.0 r.from r.to found.1.flow

-- an `if` with two parts before its second one is lowered
abbrev pub then_flow : Lowering → Place → Route → Hoisted Expr → FlowGraph
then_flow a second r e = a.lower (then_route r e) (if_head a.start (Some second) r.to e)

-- a `for` before its last part is lowered
abbrev pub for_body : Lowering → Place → Route → Hoisted Expr → FlowGraph
for_body body last r e = body.lower (for_route r e) (for_head body.start last r.to e)
