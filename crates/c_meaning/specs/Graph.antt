-- The graph of a function.
--
-- Node 0 is the entry, node 1 the exit, node 2 the start of the body. A new node takes the next
-- number, a new edge the next place in the list of edges. An expression that stands on an edge has
-- no inputs: each input of it is got on an edge of its own before, into a temporary slot.
--
-- A reader should check, form by form: which nodes arise, in which order the edges do, what stands
-- on them, which of them are silent, and the place of each node.
use Rattle.std.specs.Prelude.{ℕ, ◌+◌, pos, Bool, true, false, not, ◌&&◌, ◌||◌, if◌then◌else◌, List, [], ◌∷◌, ◌++◌, map, length, Option, None, Some, nat_eq}
use Rattle.std.specs.List.{list_any}
use Rattle.std.specs.Option.{option_map_or}
use Rattle.gob_tree.specs.declared.place.Place.{Place}
use Rattle.gob_tree.specs.declared.expr.Width.{Width}
use Rattle.gob_tree.specs.declared.expr.Width.TheVariants.{W32}
use Rattle.gob_tree.specs.Widths.{same_width}
use Rattle.gob_tree.specs.declared.expr.BinOp.{BinOp}
use Rattle.gob_tree.specs.declared.expr.BinOp.TheVariants.{And, Or, Ne}
use Rattle.gob_tree.specs.declared.expr.Expr.{Expr, Number, Local, Unary, Binary, fold-Expr}
use Rattle.gob_tree.specs.declared.expr.Expr.TheOpen.{Expr-F}
use Rattle.gob_tree.specs.declared.stmt.Target.{Target}
use Rattle.gob_tree.specs.declared.stmt.Stmt.TheOpen.{Stmt-F, Placed-F}
use Rattle.gob_tree.specs.declared.stmt.Placed.{Placed, fold-Placed}
use Rattle.gob_tree.specs.declared.unit.Slot.{Slot}
use Rattle.gob_tree.specs.declared.unit.Function.{Function}
use Rattle.gob_tree.specs.declared.unit.Unit.{Unit as TranslationUnit}
use Rattle.gob_tree.specs.declared.graph.Action.{Action}
use Rattle.gob_tree.specs.declared.graph.Action.TheVariants.{Assign, Read, Write, Nondet, Guard, Assert, Lock, Unlock, Create, Join, Call, Skip}
use Rattle.gob_tree.specs.declared.graph.Edge.{Edge}
use Rattle.gob_tree.specs.declared.graph.FuncGraph.{FuncGraph}
use Rattle.gob_tree.specs.declared.graph.Program.{Program}
use Rattle.c_meaning.specs.Demand.{truth}
use Rattle.c_meaning.specs.Tree.{one}

-- ---- the graph so far

-- An edge, and whether it is silent: no step of the tree belongs to it.
pub record MarkedEdge : Type 0 where
  pub edge : Edge
  pub silent : Bool

-- A control-flow graph while it grows: how many slots have names, the widths of the temporaries
-- behind them, the places of the nodes, and the edges.
pub record FlowGraph : Type 0 where
  pub named : ℕ
  pub temps : List Width
  pub nodes : List Place
  pub edges : List MarkedEdge

-- the number that the next node takes
abbrev pub next_node : FlowGraph → ℕ
next_node d = length d.nodes

abbrev pub with_node : Place → FlowGraph → FlowGraph
with_node place d = record d { nodes = d.nodes ++ place ∷ [] }

abbrev pub with_marked : Bool → ℕ → Action → ℕ → FlowGraph → FlowGraph
with_marked silent from act to d =
    record d { edges = d.edges ++ record { edge = record { from = from; act = act; to = to }; silent = silent } ∷ [] }

abbrev pub with_edge : ℕ → Action → ℕ → FlowGraph → FlowGraph
with_edge = with_marked false

abbrev pub with_silent : ℕ → Action → ℕ → FlowGraph → FlowGraph
with_silent = with_marked true

-- both ways out of a test
abbrev pub with_guards : ℕ → Expr → ℕ → ℕ → FlowGraph → FlowGraph
with_guards from e yes_to no_to d = with_edge from (Guard e false) no_to (with_edge from (Guard e true) yes_to d)

-- ---- temporaries

-- The state of the hoisting in one statement: the graph so far, the temporaries that the statement has
-- taken, and the node that has been reached.
pub record HoistState : Type 0 where
  pub flow : FlowGraph
  pub taken : List ℕ
  pub at : ℕ

-- the least temporary of a width from the k-th on that isn't taken
abbrev pub free_from : ℕ → List Width → Width → List ℕ → Option ℕ
free_from k [] w taken = None
free_from k (v ∷ temps) w taken =
    if same_width v w && not (list_any (nat_eq k) taken) then Some k else free_from (k + 1) temps w taken

-- takes the k-th temporary, which is there, or a new one after all others
abbrev pub taking : Width → Option ℕ → HoistState → HoistState
taking w (Some k) s = record s { taken = k ∷ s.taken }
taking w None s = record s { flow = record s.flow { temps = s.flow.temps ++ w ∷ [] }; taken = length s.flow.temps ∷ s.taken }

abbrev pub number_or_next : Option ℕ → HoistState → ℕ
number_or_next (Some k) s = k
number_or_next None s = length s.flow.temps

abbrev pub free_temp : Width → HoistState → Option ℕ
free_temp w s = free_from 0 s.flow.temps w s.taken

-- the slot of the next temporary of a width, and the state after it is taken
abbrev pub temp_slot : Width → HoistState → ℕ
temp_slot w s = s.flow.named + number_or_next (free_temp w s) s

abbrev pub with_temp : Width → HoistState → HoistState
with_temp w s = taking w (free_temp w s) s

-- ---- hoisting

-- an expression without inputs, and where it can be evaluated
abbrev pub Hoisted : Type 0 → Type 0
Hoisted A = A × HoistState

-- gets an input into the temporary t by an edge to a new node
abbrev pub fetch_into : ℕ → Place → Action → HoistState → Hoisted Expr
fetch_into t place act s =
    let node = next_node s.flow in
    (Local t, record s { flow = with_edge s.at act node (with_node place s.flow); at = node })

abbrev pub fetch : Place → Width → (ℕ → Action) → HoistState → Hoisted Expr
fetch place w act s = fetch_into (temp_slot w s) place (act (temp_slot w s)) (with_temp w s)

-- whether an expression has an input, and how it is hoisted in a statement at a place
pub record Hoisting : Type 0 where
  pub inputs : Bool
  pub hoist : Place → HoistState → Hoisted Expr

-- the truth of the left operand at which `&&` and `||` stop
abbrev pub stop_of : BinOp → Option Bool
stop_of And = Some false
stop_of Or = Some true
stop_of op = None

abbrev pub node_of : Bool → ℕ → ℕ → ℕ
node_of b p q = if b then p else q

-- From the left operand l at node s.at: guards to p and q, of which one decides and leads on to j,
-- and the right operand from the other. All these edges but those of the right operand's inputs
-- are silent.
abbrev pub right_join : ℕ → ℕ → Hoisted Expr → Hoisted Expr
right_join t j r =
    (Local t, record r.1 { flow = with_silent r.1.at (Assign t (Binary Ne r.0 (Number (pos 0) W32))) j r.1.flow; at = j })

abbrev pub logic_at : Bool → Hoisting → Place → ℕ → ℕ → Expr → HoistState → Hoisted Expr
logic_at stop right place t p l s =
    let q = p + 1 in
    let j = p + 2 in
    let nodes = with_node place (with_node place (with_node place s.flow)) in
    let guards = with_silent s.at (Guard l false) q (with_silent s.at (Guard l true) p nodes) in
    let decided = with_silent (node_of stop p q) (Assign t (Number (truth stop) W32)) j guards in
    right_join t j (right.hoist place (record s { flow = decided; at = node_of stop q p }))

abbrev pub logic_join : Bool → Hoisting → Place → Hoisted Expr → Hoisted Expr
logic_join stop right place l =
    logic_at stop right place (temp_slot W32 l.1) (next_node l.1.flow) l.0 (with_temp W32 l.1)

-- both operands from left to right
abbrev pub strict_right : BinOp → Expr → Hoisted Expr → Hoisted Expr
strict_right op l r = (Binary op l r.0, r.1)

abbrev pub strict_join : BinOp → Hoisting → Place → Hoisted Expr → Hoisted Expr
strict_join op right place l = strict_right op l.0 (right.hoist place l.1)

-- `&&` and `||` branch only where the right operand has an input
abbrev pub binary_join : BinOp → Option Bool → Hoisting → Place → Hoisted Expr → Hoisted Expr
binary_join op None right place l = strict_join op right place l
binary_join op (Some stop) right place l =
    if right.inputs then logic_join stop right place l else strict_join op right place l

-- a list from left to right
abbrev pub before : Expr → Hoisted (List Expr) → Hoisted (List Expr)
before e es = (e ∷ es.0, es.1)

abbrev pub hoist_all : List Hoisting → Place → HoistState → Hoisted (List Expr)
hoist_all [] place s = ([], s)
hoist_all (e ∷ es) place s =
    let first = e.hoist place s in
    before first.0 (hoist_all es place first.1)

abbrev pub unary_hoist : (Expr → Expr) → Hoisted Expr → Hoisted Expr
unary_hoist f a = (f a.0, a.1)

abbrev pub call_fetch : ℕ → Width → Place → Hoisted (List Expr) → Hoisted Expr
call_fetch f w place args = fetch place w (λ t. Call (Some t) f args.0) args.1

abbrev pub inputs_step : Expr-F Hoisting → Bool
inputs_step (Expr-F.Number n w) = false
inputs_step (Expr-F.Local x) = false
inputs_step (Expr-F.Global g w) = true
inputs_step (Expr-F.Nondet w) = true
inputs_step (Expr-F.Unary op a) = a.inputs
inputs_step (Expr-F.Binary op a b) = a.inputs || b.inputs
inputs_step (Expr-F.Call f w args) = true

abbrev pub hoist_step : Expr-F Hoisting → Place → HoistState → Hoisted Expr
hoist_step (Expr-F.Number n w) place s = (Number n w, s)
hoist_step (Expr-F.Local x) place s = (Local x, s)
hoist_step (Expr-F.Global g w) place s = fetch place w (λ t. Read t g) s
hoist_step (Expr-F.Nondet w) place s = fetch place w (λ t. Nondet t) s
hoist_step (Expr-F.Unary op a) place s = unary_hoist (Unary op) (a.hoist place s)
hoist_step (Expr-F.Binary op a b) place s = binary_join op (stop_of op) b place (a.hoist place s)
hoist_step (Expr-F.Call f w args) place s = call_fetch f w place (hoist_all args place s)

abbrev pub hoisting_step : Expr-F Hoisting → Hoisting
hoisting_step e = record { inputs = inputs_step e; hoist = hoist_step e }

abbrev pub hoisting_of : Expr → Hoisting
hoisting_of = fold-Expr Hoisting hoisting_step

-- the hoisting of a statement's expressions begins at a node with no temporary taken
abbrev pub begun_at : ℕ → FlowGraph → HoistState
begun_at node d = record { flow = d; taken = []; at = node }

abbrev pub hoisted_expr : Expr → Place → ℕ → FlowGraph → Hoisted Expr
hoisted_expr e place node d = (hoisting_of e).hoist place (begun_at node d)

abbrev pub hoisted_exprs : List Expr → Place → ℕ → FlowGraph → Hoisted (List Expr)
hoisted_exprs es place node d = hoist_all (map hoisting_of es) place (begun_at node d)

-- ---- statements

-- from where to where a statement is lowered, and where `break` and `continue` go
pub record Route : Type 0 where
  pub from : ℕ
  pub to : ℕ
  pub on_break : ℕ
  pub on_continue : ℕ

-- in a list of statements one ends in the node where the next one begins
abbrev pub route_to : ℕ → Route → Route
route_to node r = record r { to = node }

abbrev pub route_from : ℕ → Route → Route
route_from node r = record r { from = node }

-- the parts of an `if` begin at the nodes after those of its condition
abbrev pub then_route : Route → Hoisted Expr → Route
then_route r e = route_from (next_node e.1.flow) r

abbrev pub else_route : Route → Hoisted Expr → Route
else_route r e = route_from (next_node e.1.flow + 1) r

-- a part of a loop that leads to `to`: it ends where `continue` goes
abbrev pub loop_route : ℕ → ℕ → ℕ → Route
loop_route from end to = record { from = from; to = end; on_break = to; on_continue = end }

-- the body of a `while` begins behind the condition and ends where the `while` begins
abbrev pub while_route : Route → Hoisted Expr → Route
while_route r e = loop_route (next_node e.1.flow) r.from r.to

-- the body of a `do` begins where the `do` does and ends at the node of the test
abbrev pub do_route : Route → ℕ → Route
do_route r test = loop_route r.from test r.to

-- the first part of a `for` ends at the node of the test; the body begins behind the condition and
-- ends at the node of the last part, which ends at the node of the test
abbrev pub first_route : Route → ℕ → Route
first_route r test = loop_route r.from test r.to

abbrev pub last_node : Hoisted Expr → ℕ
last_node e = next_node e.1.flow + 1

abbrev pub for_route : Route → Hoisted Expr → Route
for_route r e = loop_route (next_node e.1.flow) (last_node e) r.to

abbrev pub last_route : Route → ℕ → Hoisted Expr → Route
last_route r test e = loop_route (last_node e) test r.to

-- the place of the innermost statement that starts where this one starts, and how this one is
-- lowered along a route
pub record Lowering : Type 0 where
  pub start : Place
  pub lower : Route → FlowGraph → FlowGraph

-- the last edge, with what was hoisted
abbrev pub last_edge : (Expr → Action) → ℕ → Hoisted Expr → FlowGraph
last_edge act to e = with_edge e.1.at (act e.0) to e.1.flow

abbrev pub call_edge : ℕ → ℕ → Hoisted (List Expr) → FlowGraph
call_edge f to args = with_edge args.1.at (Call None f args.0) to args.1.flow

-- a list of statements: a new node for each but the first, where it starts; an empty one is a Skip
abbrev pub sequence : List Lowering → Route → FlowGraph → FlowGraph
sequence [] r d = with_edge r.from Skip r.to d
sequence (s ∷ []) r d = s.lower r d
sequence (s ∷ s' ∷ ss) r d =
    let node = next_node d in
    sequence (s' ∷ ss) (route_from node r) (s.lower (route_to node r) (with_node s'.start d))

-- a part that may be missing, which is a silent Skip then
abbrev pub sequence_or_silent : List Lowering → Route → FlowGraph → FlowGraph
sequence_or_silent [] r d = with_silent r.from Skip r.to d
sequence_or_silent (s ∷ ss) r d = sequence (s ∷ ss) r d

abbrev pub part_or_silent : Option Lowering → Route → FlowGraph → FlowGraph
part_or_silent None r d = with_silent r.from Skip r.to d
part_or_silent (Some s) r d = s.lower r d

-- `if`: the guards stand, to the first part's node and the second part's, if it has one
abbrev pub if_head : Place → Option Place → ℕ → Hoisted Expr → FlowGraph
if_head yes_start None to e =
    let yes_node = next_node e.1.flow in
    with_guards e.1.at e.0 yes_node to (with_node yes_start e.1.flow)
if_head yes_start (Some no_start) to e =
    let yes_node = next_node e.1.flow in
    with_guards e.1.at e.0 yes_node (yes_node + 1) (with_node no_start (with_node yes_start e.1.flow))

abbrev pub if_flow : Lowering → Option Lowering → Route → Hoisted Expr → FlowGraph
if_flow a None r e = a.lower (then_route r e) (if_head a.start None r.to e)
if_flow a (Some b) r e = b.lower (else_route r e) (a.lower (then_route r e) (if_head a.start (Some b.start) r.to e))

-- `while`: the guards stand, to the body's node and to the end
abbrev pub while_head : Place → ℕ → Hoisted Expr → FlowGraph
while_head start to e = with_guards e.1.at e.0 (next_node e.1.flow) to (with_node start e.1.flow)

abbrev pub while_flow : Lowering → Route → Hoisted Expr → FlowGraph
while_flow body r e = body.lower (while_route r e) (while_head body.start r.to e)

-- `do`: the body stands, to the node of the test
abbrev pub do_flow : Lowering → Expr → Place → Route → FlowGraph → FlowGraph
do_flow body e place r d =
    let test = next_node d in
    let test_at = hoisted_expr e place test (body.lower (do_route r test) (with_node place d)) in
    with_guards test_at.1.at test_at.0 r.from r.to test_at.1.flow

-- `for`: the first part stands, to the node of the test
abbrev pub for_first : List Lowering → Place → Route → FlowGraph → FlowGraph
for_first first place r d = sequence_or_silent first (first_route r (next_node d)) (with_node place d)

-- the guards stand, to the body's node and to the end, and the last part has its node
abbrev pub for_head : Place → Place → ℕ → Hoisted Expr → FlowGraph
for_head body_start last_start to e =
    with_guards e.1.at e.0 (next_node e.1.flow) to (with_node last_start (with_node body_start e.1.flow))

abbrev pub for_flow : Option Lowering → Lowering → Place → ℕ → Route → Hoisted Expr → FlowGraph
for_flow last body place test r e =
    part_or_silent last (last_route r test e) (body.lower (for_route r e) (for_head body.start (option_map_or (λ s. s.start) last place) r.to e))

-- a missing condition is 1
abbrev pub condition : Option Expr → Expr
condition None = one
condition (Some e) = e

-- where a statement starts: a block, a `do` and a `for` with a first part start where their first
-- inner statement does
abbrev pub start_step : Stmt-F (Place → Lowering) Lowering → Place → Place
start_step (Stmt-F.Block (s ∷ ss)) place = s.start
start_step (Stmt-F.DoWhile body e) place = body.start
start_step (Stmt-F.For (s ∷ ss) test last body) place = s.start
start_step other place = place

abbrev pub lower_step : Stmt-F (Place → Lowering) Lowering → Place → Route → FlowGraph → FlowGraph
lower_step (Stmt-F.Declare x None) place r d = with_edge r.from (Nondet x) r.to d
lower_step (Stmt-F.Declare x (Some e)) place r d = last_edge (Assign x) r.to (hoisted_expr e place r.from d)
lower_step (Stmt-F.DeclareThread var) place r d = with_edge r.from Skip r.to d
lower_step (Stmt-F.Assign (Target.Local x) e) place r d = last_edge (Assign x) r.to (hoisted_expr e place r.from d)
lower_step (Stmt-F.Assign (Target.Global g) e) place r d = last_edge (Write g) r.to (hoisted_expr e place r.from d)
lower_step (Stmt-F.CallOnly f args) place r d = call_edge f r.to (hoisted_exprs args place r.from d)
lower_step (Stmt-F.If e a b) place r d = if_flow a b r (hoisted_expr e place r.from d)
lower_step (Stmt-F.While e body) place r d = while_flow body r (hoisted_expr e place r.from d)
lower_step (Stmt-F.DoWhile body e) place r d = do_flow body e place r d
lower_step (Stmt-F.For first test last body) place r d =
    for_flow last body place (next_node d) r (hoisted_expr (condition test) place (next_node d) (for_first first place r d))
lower_step (Stmt-F.Block all) place r d = sequence all r d
lower_step Stmt-F.Break place r d = with_edge r.from Skip r.on_break d
lower_step Stmt-F.Continue place r d = with_edge r.from Skip r.on_continue d
lower_step (Stmt-F.Return (Some e)) place r d = last_edge (Assign 0) 1 (hoisted_expr e place r.from d)
lower_step (Stmt-F.Return None) place r d = with_edge r.from Skip 1 d
lower_step (Stmt-F.Create var f) place r d = with_edge r.from (Create var f) r.to d
lower_step (Stmt-F.Join var) place r d = with_edge r.from (Join var) r.to d
lower_step (Stmt-F.Lock m) place r d = with_edge r.from (Lock m) r.to d
lower_step (Stmt-F.Unlock m) place r d = with_edge r.from (Unlock m) r.to d
lower_step (Stmt-F.Assert e) place r d = last_edge Assert r.to (hoisted_expr e place r.from d)
lower_step Stmt-F.Empty place r d = with_edge r.from Skip r.to d

abbrev pub lowering_step : Stmt-F (Place → Lowering) Lowering → Place → Lowering
lowering_step s place = record { start = start_step s place; lower = lower_step s place }

abbrev pub placed_step : Placed-F (Place → Lowering) Lowering → Lowering
placed_step p = p.stmt p.place

abbrev pub lowering_of : Placed → Lowering
lowering_of = fold-Placed (Place → Lowering) Lowering lowering_step placed_step

-- ---- functions

-- where a body starts; an empty one, which no program has, at its closing brace
abbrev pub body_start : List Lowering → Place → Place
body_start [] end = end
body_start (s ∷ ss) end = s.start

-- the entry, the exit and the body's start, and the silent edge from the entry to the body
abbrev pub first_flow : Function → FlowGraph
first_flow f = record {
  named = length f.slots;
  temps = [];
  nodes = f.place ∷ f.end ∷ body_start (map lowering_of f.body) f.end ∷ [];
  edges = record { edge = record { from = 0; act = Skip; to = 2 }; silent = true } ∷ [];
}

-- the body's route: from node 2 to the exit
abbrev pub body_route : Route
body_route = record { from = 2; to = 1; on_break = 1; on_continue = 1 }

-- the whole graph of a function, with the marks of its silent edges
abbrev pub flow_of : Function → FlowGraph
flow_of f = sequence (map lowering_of f.body) body_route (first_flow f)

-- a temporary's name is empty
abbrev pub temporary : Width → Slot
temporary w = record { name = []; width = w }

abbrev pub slots_with : Function → FlowGraph → List Slot
slots_with f d = f.slots ++ map temporary d.temps

-- a function's graph without the marks
abbrev pub graph_with : Function → FlowGraph → FuncGraph
graph_with f d = record {
  name = f.name;
  kind = f.kind;
  params = f.params;
  slots = slots_with f d;
  threads = f.threads;
  nodes = d.nodes;
  edges = map (λ marked. marked.edge) d.edges;
}

-- the slots of a function's graph, and the graph
abbrev pub graph_slots : Function → List Slot
graph_slots f = slots_with f (flow_of f)

abbrev pub graph_of : Function → FuncGraph
graph_of f = graph_with f (flow_of f)

-- a unit's program: the graph of each function
abbrev pub program_of : TranslationUnit → Program
program_of unit = record { funcs = map graph_of unit.funcs; globals = unit.globals; mutexes = unit.mutexes; main = unit.main }

-- a program, and of each function its edges with the marks of the silent ones
pub record MarkedProgram : Type 0 where
  pub program : Program
  pub edges : List (List MarkedEdge)

abbrev pub marked_of : TranslationUnit → MarkedProgram
marked_of unit = record { program = program_of unit; edges = map (λ f. (flow_of f).edges) unit.funcs }
