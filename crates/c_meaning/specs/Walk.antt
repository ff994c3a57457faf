-- Standing and walking: when a configuration of trees and one of graphs are the same moment, and by
-- which labels a thread goes through a run.
--
-- A reader should check: at which node each thing to do begins, how inputs and silent edges move a
-- frame on, what has to agree, and which labels belong to a step of the tree.
use Rattle.std.specs.Prelude.{◌≡◌, ℕ, zero, suc, ◌+◌, ℤ, pos, Bool, true, false, not, ◌&&◌, if◌then◌else◌, List, [], ◌∷◌, ◌++◌, map, length, take, Option, None, Some, nat_eq, slice_get, slice_set}
use Rattle.std.specs.List.{Contains, filter}
use Rattle.std.specs.Option.{option_map, option_map_or, option_and_then}
use Rattle.gob_tree.specs.declared.expr.Expr.{Expr}
use Rattle.gob_tree.specs.declared.place.Place.{Place}
use Rattle.gob_tree.specs.declared.stmt.Stmt.{Stmt}
use Rattle.gob_tree.specs.declared.stmt.Stmt.TheOpen.{Stmt-F, Placed-F}
use Rattle.gob_tree.specs.declared.stmt.Placed.{Placed, para-Placed}
use Rattle.gob_tree.specs.declared.unit.Slot.{Slot}
use Rattle.gob_tree.specs.declared.unit.Function.{Function}
use Rattle.gob_tree.specs.declared.unit.Unit.{Unit as TranslationUnit}
use Rattle.gob_tree.specs.declared.graph.Action.{Action}
use Rattle.gob_tree.specs.declared.graph.Action.TheVariants.{Read, Nondet, Create, Call}
use Rattle.gob_tree.specs.declared.graph.Edge.{Edge}
use Rattle.gob_tree.specs.declared.graph.Program.{Program}
use Rattle.c_meaning.specs.declared.config.Todo.{Todo}
use Rattle.c_meaning.specs.declared.config.Todo.TheVariants.{Stmt as Doing, Test, Last}
use Rattle.c_meaning.specs.declared.config.Choice.{Choice}
use Rattle.c_meaning.specs.Config.{Config, thread_at, next_thread}
use Rattle.c_meaning.specs.Tree as Tree
use Rattle.c_meaning.specs.Tree.{first_tree}
use Rattle.c_meaning.specs.Run.{moved_from}
use Rattle.c_meaning.specs.Graph.{FlowGraph, MarkedEdge, Route, Hoisted, lowering_of, next_node, with_node, hoisted_expr, route_to, route_from, then_route, else_route, while_route, do_route, first_route, for_route, last_node, if_head, while_head, for_first, for_head, condition, first_flow, body_route, flow_of, graph_slots, MarkedProgram, marked_of, program_of}
use Rattle.c_meaning.specs.GraphStep as Graph
use Rattle.c_meaning.specs.GraphStep.{Label, Do, Enter, Leave, local_slots, after_label, edge_at, first_graph}

-- ---- where things begin

-- something to do, and the node where it begins
abbrev pub Begun : Type 0
Begun = Todo × ℕ

-- a statement, and what begins in it along a route
abbrev pub Beginning : Type 0
Beginning = Placed × (Route → FlowGraph → List Begun)

abbrev pub flow_after : Beginning → Route → FlowGraph → FlowGraph
flow_after s = (lowering_of s.0).lower

abbrev pub start_of : Beginning → Place
start_of s = (lowering_of s.0).start

-- in a list of statements, as they are lowered one after another
abbrev pub sequence_begun : List Beginning → Route → FlowGraph → List Begun
sequence_begun [] r d = []
sequence_begun (s ∷ []) r d = s.1 r d
sequence_begun (s ∷ s' ∷ ss) r d =
    let node = next_node d in
    let opened = with_node (start_of s') d in
    s.1 (route_to node r) opened ++ sequence_begun (s' ∷ ss) (route_from node r) (flow_after s (route_to node r) opened)

abbrev pub if_begun : Beginning → Option Beginning → Route → Hoisted Expr → List Begun
if_begun a None r e = a.1 (then_route r e) (if_head (start_of a) None r.to e)
if_begun a (Some b) r e =
    let opened = if_head (start_of a) (Some (start_of b)) r.to e in
    a.1 (then_route r e) opened ++ b.1 (else_route r e) (flow_after a (then_route r e) opened)

abbrev pub while_begun : Placed → Beginning → Route → Hoisted Expr → List Begun
while_begun own body r e =
    (Test own, r.from) ∷ body.1 (while_route r e) (while_head (start_of body) r.to e)

abbrev pub do_begun : Placed → Beginning → Route → FlowGraph → List Begun
do_begun own body r d =
    (Test own, next_node d) ∷ body.1 (do_route r (next_node d)) (with_node own.place d)

abbrev pub last_begun : Placed → ℕ → Option Beginning → List Begun
last_begun own node None = []
last_begun own node (Some last) = (Last own, node) ∷ []

abbrev pub for_body_begun : Placed → Option Beginning → Beginning → ℕ → Route → Hoisted Expr → List Begun
for_body_begun own last body test r e =
    (Test own, test)
    ∷ body.1 (for_route r e) (for_head (start_of body) (option_map_or start_of last own.place) r.to e)
    ++ last_begun own (last_node e) last

abbrev pub for_all_begun : Placed → List Beginning → Option Expr → Option Beginning → Beginning → Route → FlowGraph → List Begun
for_all_begun own first test last body r d =
    let begun = for_first (map (λ s. lowering_of s.0) first) own.place r d in
    sequence_begun first (first_route r (next_node d)) (with_node own.place d)
    ++ for_body_begun own last body (next_node d) r (hoisted_expr (condition test) own.place (next_node d) begun)

abbrev pub parts_begun : Stmt-F (Stmt × (Placed → Route → FlowGraph → List Begun)) Beginning → Placed → Route → FlowGraph → List Begun
parts_begun (Stmt-F.If e a b) own r d = if_begun a b r (hoisted_expr e own.place r.from d)
parts_begun (Stmt-F.While e body) own r d = while_begun own body r (hoisted_expr e own.place r.from d)
parts_begun (Stmt-F.DoWhile body e) own r d = do_begun own body r d
parts_begun (Stmt-F.For first test last body) own r d = for_all_begun own first test last body r d
parts_begun (Stmt-F.Block all) own r d = sequence_begun all r d
parts_begun other own r d = []

-- a statement itself begins at the start of its route
abbrev pub stmt_begun : Stmt-F (Stmt × (Placed → Route → FlowGraph → List Begun)) Beginning → Placed → Route → FlowGraph → List Begun
stmt_begun s own r d = (Doing own, r.from) ∷ parts_begun s own r d

abbrev pub placed_begun : Placed-F (Stmt × (Placed → Route → FlowGraph → List Begun)) Beginning → Route → FlowGraph → List Begun
placed_begun p = p.stmt.1 (record { place = p.place; stmt = p.stmt.0 })

abbrev pub begun_in : Placed → Route → FlowGraph → List Begun
begun_in = para-Placed (Placed → Route → FlowGraph → List Begun) (Route → FlowGraph → List Begun) stmt_begun placed_begun

-- all that begins in a function, and where
abbrev pub begun_of : Function → List Begun
begun_of f = sequence_begun (map (λ p. (p, begun_in p)) f.body) body_route (first_flow f)

-- ---- moving along

-- a node, and the values of the slots there
pub record Moment : Type 0 where
  pub node : ℕ
  pub slots : List ℤ

abbrev pub moment_after : Edge → List ℤ → Moment
moment_after edge slots = record { node = edge.to; slots = slots }

-- the slots after a silent edge from here, if it is one and can be done
abbrev pub silent_slots : List Slot → MarkedEdge → Moment → Option (List ℤ)
silent_slots slots d m =
    if d.silent && nat_eq d.edge.from m.node then local_slots slots d.edge.act m.slots else None

-- the first silent edge that leaves here and can be done, from the i-th on, and where it leads
abbrev pub first_or : MarkedEdge → ℕ → Option (ℕ × Moment) → Option (List ℤ) → Option (ℕ × Moment)
first_or d i later None = later
first_or d i later (Some slots) = Some (i, moment_after d.edge slots)

abbrev pub silent_from : List Slot → List MarkedEdge → ℕ → Moment → Option (ℕ × Moment)
silent_from slots [] i m = None
silent_from slots (d ∷ ds) i m = first_or d i (silent_from slots ds (i + 1) m) (silent_slots slots d m)

-- The silent edges from here while one can be done, and where they lead. They form no circle, so
-- there are no more of them than the function has edges.
abbrev pub Settled : Type 0
Settled = List ℕ × Moment

abbrev pub with_edge : ℕ → Settled → Settled
with_edge e s = (e ∷ s.0, s.1)

abbrev pub settled_or : Moment → (Moment → Settled) → Option (ℕ × Moment) → Settled
settled_or m go None = ([], m)
settled_or m go (Some next) = with_edge next.0 (go next.1)

abbrev pub settled_within : ℕ → List Slot → List MarkedEdge → Moment → Settled
settled_within zero slots edges m = ([], m)
settled_within (suc k) slots edges m = settled_or m (settled_within k slots edges) (silent_from slots edges 0 m)

abbrev pub settled_from : List Slot → List MarkedEdge → Moment → Settled
settled_from slots edges m = settled_within (length edges) slots edges m

-- the temporary that an input goes to, and the node behind
abbrev pub input_slot : Action → Option ℕ
input_slot (Read x g) = Some x
input_slot (Nondet x) = Some x
input_slot (Call d f args) = d
input_slot other = None

abbrev pub input_edge : MarkedEdge → ℕ → Option (ℕ × ℕ)
input_edge d node = if nat_eq d.edge.from node && not d.silent then option_map (λ x. (x, d.edge.to)) (input_slot d.edge.act) else None

abbrev pub input_or : Option (ℕ × ℕ) → Option (ℕ × ℕ) → Option (ℕ × ℕ)
input_or None later = later
input_or (Some found) later = Some found

abbrev pub input_from : List MarkedEdge → ℕ → Option (ℕ × ℕ)
input_from [] node = None
input_from (d ∷ ds) node = input_or (input_edge d node) (input_from ds node)

-- the input is stored as it came, so the temporaries of a frame that stands hold just its inputs
abbrev pub moment_with_input : List MarkedEdge → ℤ → Moment → Option Moment
moment_with_input edges n m =
    option_map (λ to. record { node = to.1; slots = slice_set m.slots to.0 n }) (input_from edges m.node)

-- the moment that each silent edge that can be done and one edge for each input lead to
abbrev pub moment_along : List Slot → List MarkedEdge → List ℤ → Moment → Option Moment
moment_along slots edges [] m = Some (settled_from slots edges m).1
moment_along slots edges (n ∷ ins) m =
    option_and_then (moment_along slots edges ins) (moment_with_input edges n (settled_from slots edges m).1)

-- ---- standing

-- What stands in front begins at a node, and from there, with some values in the temporaries, the
-- inputs and the silent edges lead to this node and these slots.
pub record StandsAt (f : Function) (todo : Todo) (named ins : List ℤ) (node : ℕ) (slots : List ℤ) : Type 0 where
  pub begin : ℕ
  pub values : List ℤ
  pub begins : Contains (begun_of f) (todo, begin)
  pub room : length values ≡ length (graph_slots f)
  pub same_named : take (length f.slots) values ≡ named
  pub along :
      moment_along (graph_slots f) (flow_of f).edges ins (record { node = begin; slots = values })
      ≡ Some (record { node = node; slots = slots })

abbrev pub StandsInFront : Option Function → List Todo → List ℤ → List ℤ → ℕ → List ℤ → Type 0
StandsInFront None todo named ins node slots = ⊥
StandsInFront (Some f) [] named ins node slots = ⊥
StandsInFront (Some f) (todo ∷ rest) named ins node slots = StandsAt f todo named ins node slots

-- one frame: the same function, thread variables and named slots, and the node where it stands
pub record StandsFrame (unit : TranslationUnit) (t : Tree.Frame) (g : Graph.Frame) : Type 0 where
  pub func : t.func ≡ g.func
  pub vars : t.vars ≡ g.vars
  pub named : take (length t.slots) g.slots ≡ t.slots
  pub front : StandsInFront (slice_get unit.funcs t.func) t.todo t.slots t.ins g.node g.slots

-- a frame that isn't the topmost waits at a call edge that leaves its node, of the function above it
pub record WaitsFor (program : Program) (g : Graph.Frame) (callee : ℕ) : Type 0 where
  pub edge : ℕ
  pub waits : g.waits ≡ Some edge
  pub destination : Option ℕ
  pub args : List Expr
  pub to : ℕ
  pub call : edge_at program g.func edge ≡ Some (record { from = g.node; act = Call destination callee args; to = to })

-- the frames below the topmost one, under a frame of this function
abbrev pub StandsBelow : TranslationUnit → ℕ → List Tree.Frame → List Graph.Frame → Type 0
StandsBelow unit callee [] [] = Unit {0}
StandsBelow unit callee [] (g ∷ gs) = ⊥
StandsBelow unit callee (t ∷ ts) [] = ⊥
StandsBelow unit callee (t ∷ ts) (g ∷ gs) =
    StandsFrame unit t g × WaitsFor (program_of unit) g callee × StandsBelow unit t.func ts gs

-- one thread; an ended one is at node 1 of its first function
abbrev pub StandsThread : TranslationUnit → List Tree.Frame → List Graph.Frame → Type 0
StandsThread unit [] [] = ⊥
StandsThread unit [] (g ∷ []) = (g.node ≡ 1) × (g.waits ≡ None)
StandsThread unit [] (g ∷ g' ∷ gs) = ⊥
StandsThread unit (t ∷ ts) [] = ⊥
StandsThread unit (t ∷ ts) (g ∷ gs) = StandsFrame unit t g × (g.waits ≡ None) × StandsBelow unit t.func ts gs

abbrev pub StandThreads : TranslationUnit → List (List Tree.Frame) → List (List Graph.Frame) → Type 0
StandThreads unit [] [] = Unit {0}
StandThreads unit [] (g ∷ gs) = ⊥
StandThreads unit (t ∷ ts) [] = ⊥
StandThreads unit (t ∷ ts) (g ∷ gs) = StandsThread unit t g × StandThreads unit ts gs

-- a configuration of trees and one of graphs are the same moment
pub record Stands (unit : TranslationUnit) (t : Config Tree.Frame) (g : Config Graph.Frame) : Type 0 where
  pub globals : t.globals ≡ g.globals
  pub owners : t.owners ≡ g.owners
  pub threads : StandThreads unit t.threads g.threads

-- ---- walking

-- A move of a graph's run: a thread, the label that it takes, and the number that it gets where the
-- label's action asks for an arbitrary one. So a list of moves leads to one configuration at most,
-- and so does each of its prefixes.
pub record Move : Type 0 where
  pub thread : ℕ
  pub label : Label
  pub input : ℤ

abbrev pub after_move : Program → Config Graph.Frame → Move → Option (Config Graph.Frame)
after_move program c move = after_label program c move.thread move.input move.label

abbrev pub after_moves : Program → List Move → Config Graph.Frame → Option (Config Graph.Frame)
after_moves program [] c = Some c
after_moves program (move ∷ moves) c = option_and_then (after_moves program moves) (after_move program c move)

-- the moves are a run of the graphs, and it ends in this configuration
abbrev pub IsGraphRun : Program → List Move → Config Graph.Frame → Type 0
IsGraphRun program moves last = after_moves program moves (first_graph program) ≡ Some last

-- how far a run of a graph has got: the moves, and the configuration
pub record Walked : Type 0 where
  pub moves : List Move
  pub config : Config Graph.Frame

abbrev pub moves_by : ℕ → ℤ → List Label → List Move
moves_by t input = map (λ label. record { thread = t; label = label; input = input })

-- the run goes on by these labels of a thread
abbrev pub walk_on : Program → ℕ → ℤ → List Label → Walked → Option Walked
walk_on program t input labels w =
    let moves = moves_by t input labels in
    option_map (λ c. record { moves = w.moves ++ moves; config = c }) (after_moves program moves w.config)

abbrev pub frames_at : Walked → ℕ → List Graph.Frame
frames_at w t = option_map_or (λ frames. frames) (thread_at w.config.threads t) []

abbrev pub marked_edges_at : MarkedProgram → ℕ → List MarkedEdge
marked_edges_at m f = option_map_or (λ edges. edges) (slice_get m.edges f) []

-- the labels of the silent edges that a thread does while one can be done
abbrev pub silent_labels : MarkedProgram → List Graph.Frame → List Label
silent_labels m [] = []
silent_labels m (frame ∷ below) =
    map Do (settled_from (Graph.func_slots m.program frame.func) (marked_edges_at m frame.func) (record { node = frame.node; slots = frame.slots })).0

abbrev pub after_silent : MarkedProgram → ℕ → Walked → Option Walked
after_silent m t w = walk_on m.program t (pos 0) (silent_labels m (frames_at w t)) w

-- a frame that isn't the first and has come to node 1 is left
abbrev pub return_labels : List Graph.Frame → List Label
return_labels [] = []
return_labels (frame ∷ []) = []
return_labels (frame ∷ caller ∷ below) = if nat_eq frame.node 1 then Leave ∷ [] else []

abbrev pub after_return : MarkedProgram → ℕ → Walked → Option Walked
after_return m t w = walk_on m.program t (pos 0) (return_labels (frames_at w t)) w

-- the label of an edge, and whether a thread begins by it
abbrev pub label_of : ℕ → Action → Label
label_of e (Call d f args) = Enter e
label_of e other = Do e

abbrev pub starts_thread : Action → Bool
starts_thread (Create var f) = true
starts_thread other = false

-- a new thread begins with its own silent edges
abbrev pub after_start : MarkedProgram → ℕ → Bool → Walked → Option Walked
after_start m t true w = after_silent m t w
after_start m t false w = Some w

-- an edge that isn't silent: its action, and the run after it
abbrev pub EdgeStep : Type 0
EdgeStep = Option (Action × Walked)

abbrev pub edge_step : MarkedProgram → ℕ → ℤ → Walked → ℕ → MarkedEdge → EdgeStep
edge_step m t input w e d =
    if d.silent then None else
    option_map (λ next. (d.edge.act, next)) (walk_on m.program t input (label_of e d.edge.act ∷ []) w)

abbrev pub edge_step_or : EdgeStep → EdgeStep → EdgeStep
edge_step_or None later = later
edge_step_or (Some s) later = Some s

-- the first edge from the e-th on that isn't silent and can be taken
abbrev pub first_edge_step : MarkedProgram → ℕ → ℤ → Walked → ℕ → List MarkedEdge → EdgeStep
first_edge_step m t input w e [] = None
first_edge_step m t input w e (d ∷ ds) = edge_step_or (edge_step m t input w e d) (first_edge_step m t input w (e + 1) ds)

abbrev pub top_edges : MarkedProgram → List Graph.Frame → List MarkedEdge
top_edges m [] = []
top_edges m (frame ∷ below) = marked_edges_at m frame.func

-- what follows the edge: the return, the silent edges of the thread, and those of a new thread
abbrev pub step_rest : MarkedProgram → ℕ → ℕ → Action × Walked → Option Walked
step_rest m t fresh s =
    option_and_then (after_start m fresh (starts_thread s.0)) (option_and_then (after_silent m t) (after_return m t s.1))

-- the part of a graph's run that is one step of the tree
abbrev pub after_choice : MarkedProgram → Choice → Walked → Option Walked
after_choice m choice w =
    option_and_then (step_rest m choice.thread (next_thread w.config))
    (first_edge_step m choice.thread choice.input w 0 (top_edges m (frames_at w choice.thread)))

abbrev pub after_choices : MarkedProgram → List Choice → Walked → Option Walked
after_choices m [] w = Some w
after_choices m (choice ∷ choices) w = option_and_then (after_choices m choices) (after_choice m choice w)

-- the run of a graph that goes with a run of the tree; thread 1 begins with its silent edges
abbrev pub graph_run : MarkedProgram → List Choice → Option Walked
graph_run m choices =
    option_and_then (after_choices m choices) (after_silent m 1 (record { moves = []; config = first_graph m.program }))

-- the labels of one thread among moves
abbrev pub labels_by : ℕ → List Move → List Label
labels_by t moves = map (λ move. move.label) (filter (λ move. nat_eq move.thread t) moves)

-- the moves of the graphs that go with a run of the tree; none where the choices are no run
abbrev pub moves_of : TranslationUnit → List Choice → Option (List Move)
moves_of unit choices =
    option_and_then (λ last. option_map (λ w. w.moves) (graph_run (marked_of unit) choices)) (moved_from unit (first_tree unit) choices)

-- the labels by which a thread goes through a run; none where the choices are no run
abbrev pub walk_of : TranslationUnit → List Choice → ℕ → Option (List Label)
walk_of unit choices t = option_map (labels_by t) (moves_of unit choices)
