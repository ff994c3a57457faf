-- The walks of the examples, and a tree and a graph at the same moment, worked out.
use Rattle.std.proofs.Common.{◌≡◌, refl, sym, ap, ◌∙◌, subst, ℕ, ℤ, pos, false, List, [], ◌∷◌, ◌++◌, length, map, Option, None, Some, arith}
use Rattle.std.specs.Int.{int_wrap}
use Rattle.std.specs.List.{Contains}
use Rattle.std.specs.Option.{option_and_then, option_map}
use Rattle.gob_tree.specs.declared.expr.Width.TheVariants.{W32}
use Rattle.gob_tree.specs.declared.expr.BinOp.TheVariants.{And}
use Rattle.gob_tree.specs.declared.expr.Expr.{Local, Global, Binary}
use Rattle.gob_tree.specs.declared.stmt.Stmt as Stmt
use Rattle.c_meaning.specs.declared.config.Choice.{Choice}
use Rattle.c_meaning.specs.declared.config.Todo.TheVariants.{Stmt as Doing}
use Rattle.c_meaning.specs.Graph.{FlowGraph, MarkedProgram, flow_of, hoisted_expr, marked_of, slots_with, graph_slots}
use Rattle.c_meaning.specs.GraphStep.{Do, Enter, Leave, func_slots}
use Rattle.c_meaning.specs.Walk.{Begun, begun_of, Moment, Settled, Walked, walk_of, graph_run, labels_by, after_start, after_silent, after_choices, after_choice, walk_on, settled_from, moment_along, moment_with_input, Stands}
use Rattle.gob_tree.specs.declared.unit.Unit.{Unit as TranslationUnit}
use Rattle.c_meaning.specs.declared.config.Stepped.TheVariants.{Moved}
use Rattle.c_meaning.specs.Config.{Config}
use Rattle.c_meaning.specs.Tree as Tree
use Rattle.c_meaning.specs.Tree.{TreeStep, MovesTo, IsBlocked, IsFaulted, IsEnded, HasNoThread, word_of, after_step, first_tree}
use Rattle.c_meaning.specs.Run.{chosen, if_moved, moved_from, words_of, left_by}
use Rattle.c_meaning.proofs.StepExampleProofs.{two_threads}
use Rattle.c_meaning.proofs.Begins.{begun_is}
use Rattle.c_meaning.proofs.Evaluation.{steps, expressions, statements, layers, edges}
use Rattle.c_meaning.specs.Samples.{at, int, returns, choice, left, answers}
use Rattle.c_meaning.specs.StepExamples.{relocking, two_choices, first_choice, racing_main, racing_thread, racing, racing_choices, calling_main, calling, calling_choices}
use Rattle.c_meaning.specs.GraphExamples.{joining, joining_flow, joining_unit}
use Rattle.c_meaning.specs.WalkExamples.{by, racing_thread_flow, racing_main_flow, racing_with, racing_marked, racing_at, racing_first_moves, racing_walk, racing_thread_walk, joining_with, joining_at, joining_choices, joining_walk, called_flow, calling_flow, calling_with, calling_at, calling_frame, called_frame, calling_walk, joining_tree, joining_moment}
use Rattle.c_meaning.proofs.GraphExampleProofs.{and_with_input, call_in_expression, called_graph}

-- ---- walks

-- one choice more
one_more : (m : MarkedProgram) (c : Choice) (cs : List Choice) (w w' : Walked) → after_choice m c w ≡ Some w' → after_choices m (c ∷ cs) w ≡ after_choices m cs w'
one_more m c cs w w' e = ap (option_and_then (after_choices m cs)) e

thread_flow : flow_of racing_thread ≡ racing_thread_flow
thread_flow = simp (expressions, statements, hoisted_expr)

main_flow : flow_of racing_main ≡ racing_main_flow
main_flow = simp (expressions, statements, hoisted_expr)

racing_is : marked_of racing ≡ racing_marked
racing_is = ap (λ (d : FlowGraph). racing_with d (flow_of racing_main)) thread_flow ∙ ap (λ (d : FlowGraph). racing_with racing_thread_flow d) main_flow

-- the run after three choices, after the thread's write, after the second read, and in the end
w3 : Walked
w3 = racing_at (pos 0) 6 (pos 0 ∷ pos 0 ∷ pos 0 ∷ pos 0 ∷ []) 2 racing_first_moves

w4 : Walked
w4 = racing_at (pos 1) 6 (pos 0 ∷ pos 0 ∷ pos 0 ∷ pos 0 ∷ []) 3 (racing_first_moves ++ by 2 (Do 1) ∷ [])

w5 : Walked
w5 = racing_at (pos 1) 7 (pos 0 ∷ pos 0 ∷ pos 0 ∷ pos 1 ∷ []) 3 (racing_first_moves ++ by 2 (Do 1) ∷ by 1 (Do 4) ∷ [])

w6 : Walked
w6 = racing_at (pos 1) 5 (pos 0 ∷ pos 1 ∷ pos 0 ∷ pos 1 ∷ []) 3 (racing_first_moves ++ by 2 (Do 1) ∷ by 1 (Do 4) ∷ by 1 (Do 5) ∷ [])

three : graph_run racing_marked racing_choices ≡ after_choices racing_marked (choice 2 0 ∷ choice 1 0 ∷ choice 1 0 ∷ []) w3
unfolding int_wrap w3
three = refl

fourth : after_choice racing_marked (choice 2 0) w3 ≡ Some w4
unfolding int_wrap w3 w4
fourth = simp edges

fifth : after_choice racing_marked (choice 1 0) w4 ≡ Some w5
unfolding int_wrap w4 w5
fifth = refl

sixth : after_choice racing_marked (choice 1 0) w5 ≡ Some w6
unfolding int_wrap w5 w6
sixth = simp edges

racing_run : graph_run (marked_of racing) racing_choices ≡ Some w6
racing_run =
    ap (λ (m : MarkedProgram). graph_run m racing_choices) racing_is
    ∙ three
    ∙ one_more racing_marked (choice 2 0) (choice 1 0 ∷ choice 1 0 ∷ []) w3 w4 fourth
    ∙ one_more racing_marked (choice 1 0) (choice 1 0 ∷ []) w4 w5 fifth
    ∙ one_more racing_marked (choice 1 0) [] w5 w6 sixth

-- choices that all move are a run
all_move : (unit : TranslationUnit) (c : Config Tree.Frame) (choices : List Choice) → words_of unit c choices ≡ map (λ choice. Moved) choices → moved_from unit c choices ≡ Some (left_by unit c choices)
all_move unit c [] e = refl
all_move unit c (choice ∷ choices) e = go (chosen unit c choice) (λ next. all_move unit next choices) e
  where
    go : (s : TreeStep) → ((next : Config Tree.Frame) → words_of unit next choices ≡ map (λ choice. Moved) choices → moved_from unit next choices ≡ Some (left_by unit next choices)) → word_of s ∷ words_of unit (after_step c s) choices ≡ Moved ∷ map (λ choice. Moved) choices → if_moved s (λ next. moved_from unit next choices) ≡ Some (left_by unit (after_step c s) choices)
    go (MovesTo next) rest e' = rest next cc
    go IsBlocked rest e' = cc
    go IsFaulted rest e' = cc
    go IsEnded rest e' = cc
    go HasNoThread rest e' = cc

-- the walks of a run whose choices all move, and whose moves are these
walk_by : (unit : TranslationUnit) (choices : List Choice) (w : Walked) (t : ℕ) → answers unit choices ≡ map (λ choice. Moved) choices → graph_run (marked_of unit) choices ≡ Some w → walk_of unit choices t ≡ Some (labels_by t w.moves)
walk_by unit choices w t moved run =
    ap (λ (last : Option (Config Tree.Frame)). option_map (labels_by t) (option_and_then (λ l. option_map (λ (v : Walked). v.moves) (graph_run (marked_of unit) choices)) last)) (all_move unit (first_tree unit) choices moved)
    ∙ ap (λ (v : Option Walked). option_map (labels_by t) (option_map (λ (v : Walked). v.moves) v)) run

pub main : walk_of racing racing_choices 1 ≡ Some racing_walk
unfolding w6
main = walk_by racing racing_choices w6 1 two_threads racing_run

pub thread : walk_of racing racing_choices 2 ≡ Some racing_thread_walk
unfolding w6
thread = walk_by racing racing_choices w6 2 two_threads racing_run

relocking_stops : moved_from relocking (first_tree relocking) two_choices ≡ None
relocking_stops = simp steps

-- a list of choices that is no run has no walk
pub no_walk : walk_of relocking two_choices 1 ≡ None
no_walk = ap (λ (last : Option (Config Tree.Frame)). option_map (labels_by 1) (option_and_then (λ l. option_map (λ (v : Walked). v.moves) (graph_run (marked_of relocking) two_choices)) last)) relocking_stops

joining_marked : MarkedProgram
joining_marked = joining_with joining_flow

joining_is : marked_of joining_unit ≡ joining_marked
unfolding joining_marked
joining_is = ap joining_with and_with_input

-- the run at its start and after each choice
j0 : Walked
j0 = joining_at 4 (pos 0 ∷ pos 0 ∷ pos 0 ∷ pos 0 ∷ []) (by 1 (Do 0) ∷ by 1 (Do 1) ∷ [])

j1 : Walked
j1 = joining_at 6 (pos 0 ∷ pos 0 ∷ pos 1 ∷ pos 5 ∷ []) (by 1 (Do 0) ∷ by 1 (Do 1) ∷ by 1 (Do 4) ∷ by 1 (Do 5) ∷ [])

j2 : Walked
j2 = joining_at 3 (pos 0 ∷ pos 1 ∷ pos 1 ∷ pos 5 ∷ []) (by 1 (Do 0) ∷ by 1 (Do 1) ∷ by 1 (Do 4) ∷ by 1 (Do 5) ∷ by 1 (Do 6) ∷ [])

j3 : Walked
j3 = joining_at 1 (pos 1 ∷ pos 1 ∷ pos 1 ∷ pos 5 ∷ []) (by 1 (Do 0) ∷ by 1 (Do 1) ∷ by 1 (Do 4) ∷ by 1 (Do 5) ∷ by 1 (Do 6) ∷ by 1 (Do 7) ∷ [])

-- the silent edges at a node, and the run after them
at_node : ℕ → List ℤ → Moment
at_node node slots = record { node = node; slots = slots }

settled_at : Moment → Settled
settled_at m = settled_from (func_slots joining_marked.program 0) joining_flow.edges m

walked_on : List ℕ → Walked → Option Walked
walked_on edges w = walk_on joining_marked.program 1 (pos 0) (map Do edges) w

start : Walked
start = joining_at 0 (pos 0 ∷ pos 0 ∷ pos 0 ∷ pos 0 ∷ []) []

start_settles : settled_at (at_node 0 (pos 0 ∷ pos 0 ∷ pos 0 ∷ pos 0 ∷ [])) ≡ (0 ∷ 1 ∷ [], at_node 4 (pos 0 ∷ pos 0 ∷ pos 0 ∷ pos 0 ∷ []))
unfolding int_wrap settled_at at_node joining_marked
start_settles = simp edges

start_walks : walked_on (0 ∷ 1 ∷ []) start ≡ Some j0
unfolding int_wrap walked_on start joining_marked j0
start_walks = simp edges

begun : after_silent joining_marked 1 start ≡ Some j0
unfolding walked_on start settled_at at_node joining_marked
begun = ap (λ (s : Settled). walked_on s.0 start) start_settles ∙ start_walks

-- right after the read
read : Walked
read = joining_at 7 (pos 0 ∷ pos 0 ∷ pos 0 ∷ pos 5 ∷ []) (by 1 (Do 0) ∷ by 1 (Do 1) ∷ by 1 (Do 4) ∷ [])

read_settles : settled_at (at_node 7 (pos 0 ∷ pos 0 ∷ pos 0 ∷ pos 5 ∷ [])) ≡ (5 ∷ [], at_node 6 (pos 0 ∷ pos 0 ∷ pos 1 ∷ pos 5 ∷ []))
unfolding int_wrap settled_at at_node joining_marked
read_settles = simp edges

read_walks : walked_on (5 ∷ []) read ≡ Some j1
unfolding int_wrap walked_on read joining_marked j1
read_walks = simp edges

read_joins : after_silent joining_marked 1 read ≡ Some j1
unfolding walked_on read settled_at at_node joining_marked
read_joins = ap (λ (s : Settled). walked_on s.0 read) read_settles ∙ read_walks

first : after_choice joining_marked (choice 1 0) j0 ≡ Some j1
unfolding int_wrap joining_marked j0 read
first = ap (option_and_then (after_start joining_marked 2 false)) read_joins

second : after_choice joining_marked (choice 1 0) j1 ≡ Some j2
unfolding int_wrap joining_marked j1 j2
second = simp edges

third : after_choice joining_marked (choice 1 0) j2 ≡ Some j3
unfolding int_wrap joining_marked j2 j3
third = simp edges

joining_run : graph_run (marked_of joining_unit) joining_choices ≡ Some j3
unfolding joining_marked start
joining_run =
    ap (λ (m : MarkedProgram). graph_run m joining_choices) joining_is
    ∙ ap (option_and_then (after_choices joining_marked joining_choices)) begun
    ∙ one_more joining_marked (choice 1 0) (choice 1 0 ∷ choice 1 0 ∷ []) j0 j1 first
    ∙ one_more joining_marked (choice 1 0) (choice 1 0 ∷ []) j1 j2 second
    ∙ one_more joining_marked (choice 1 0) [] j2 j3 third

joining_moves : answers joining_unit joining_choices ≡ Moved ∷ Moved ∷ Moved ∷ []
unfolding int_wrap
joining_moves = simp steps

pub over_silent_edges : walk_of joining_unit joining_choices 1 ≡ Some joining_walk
unfolding j3
over_silent_edges = walk_by joining_unit joining_choices j3 1 joining_moves joining_run

unfoldable pub calling_marked : MarkedProgram
calling_marked = calling_with called_flow calling_flow

pub calling_marked_is : marked_of calling ≡ calling_marked
unfolding calling_marked
calling_marked_is = ap (λ (d : FlowGraph). calling_with d (flow_of calling_main)) called_graph ∙ ap (λ (d : FlowGraph). calling_with called_flow d) call_in_expression

c0 : Walked
c0 = calling_at (calling_frame 2 (pos 0 ∷ pos 0 ∷ pos 0 ∷ []) None ∷ []) (by 1 (Do 0) ∷ [])

c1 : Walked
c1 = calling_at (called_frame ∷ calling_frame 2 (pos 0 ∷ pos 0 ∷ pos 0 ∷ []) (Some 1) ∷ []) (by 1 (Do 0) ∷ by 1 (Enter 1) ∷ by 1 (Do 0) ∷ [])

c2 : Walked
c2 = calling_at (calling_frame 4 (pos 0 ∷ pos 0 ∷ pos 2 ∷ []) None ∷ []) (by 1 (Do 0) ∷ by 1 (Enter 1) ∷ by 1 (Do 0) ∷ by 1 (Do 1) ∷ by 1 Leave ∷ [])

c3 : Walked
c3 = calling_at (calling_frame 3 (pos 0 ∷ pos 2 ∷ pos 2 ∷ []) None ∷ []) (by 1 (Do 0) ∷ by 1 (Enter 1) ∷ by 1 (Do 0) ∷ by 1 (Do 1) ∷ by 1 Leave ∷ by 1 (Do 2) ∷ [])

calling_begun : graph_run calling_marked calling_choices ≡ after_choices calling_marked calling_choices c0
unfolding int_wrap calling_marked c0
calling_begun = refl

calling_enters : after_choice calling_marked (choice 1 0) c0 ≡ Some c1
unfolding int_wrap calling_marked c0 c1
calling_enters = simp edges

calling_leaves : after_choice calling_marked (choice 1 0) c1 ≡ Some c2
unfolding int_wrap calling_marked c1 c2
calling_leaves = simp edges

calling_ends : after_choice calling_marked (choice 1 0) c2 ≡ Some c3
unfolding int_wrap calling_marked c2 c3
calling_ends = simp edges

calling_run : graph_run (marked_of calling) calling_choices ≡ Some c3
calling_run =
    ap (λ (m : MarkedProgram). graph_run m calling_choices) calling_marked_is
    ∙ calling_begun
    ∙ one_more calling_marked (choice 1 0) (choice 1 0 ∷ choice 1 0 ∷ []) c0 c1 calling_enters
    ∙ one_more calling_marked (choice 1 0) (choice 1 0 ∷ []) c1 c2 calling_leaves
    ∙ one_more calling_marked (choice 1 0) [] c2 c3 calling_ends

calling_moves : answers calling calling_choices ≡ Moved ∷ Moved ∷ Moved ∷ []
unfolding int_wrap
calling_moves = simp steps

pub through_a_call : walk_of calling calling_choices 1 ≡ Some calling_walk
unfolding c3
through_a_call = walk_by calling calling_choices c3 1 calling_moves calling_run

-- ---- standing

pub joining_left : left joining_unit first_choice ≡ joining_tree
unfolding int_wrap
joining_left = simp steps

joining_begun : List Begun
joining_begun = (Doing (at 2 3 (Stmt.Declare 1 (Some (Binary And (int 1) (Global 0 W32))))), 2) ∷ (Doing (returns (Local 1)), 3) ∷ []

begun_is_joining : begun_of joining ≡ joining_begun
unfolding joining_begun
begun_is_joining = simp (layers, hoisted_expr, begun_is)

front_begins : Contains (begun_of joining) (Doing (at 2 3 (Stmt.Declare 1 (Some (Binary And (int 1) (Global 0 W32))))), 2)
unfolding joining_begun
front_begins = subst (λ (l : List Begun). Contains l (Doing (at 2 3 (Stmt.Declare 1 (Some (Binary And (int 1) (Global 0 W32))))), 2)) (sym begun_is_joining) (0, omega arith, refl)

body_settles : settled_at (at_node 2 (pos 0 ∷ pos 0 ∷ pos 0 ∷ pos 0 ∷ [])) ≡ (1 ∷ [], at_node 4 (pos 0 ∷ pos 0 ∷ pos 0 ∷ pos 0 ∷ []))
unfolding int_wrap settled_at at_node joining_marked
body_settles = simp edges

along_by : FlowGraph → Option Moment
along_by d = moment_along (slots_with joining d) d.edges (pos 5 ∷ []) (record { node = 2; slots = pos 0 ∷ pos 0 ∷ pos 0 ∷ pos 0 ∷ [] })

with_five : Settled → Option Moment
with_five s = option_and_then (moment_along (slots_with joining joining_flow) joining_flow.edges []) (moment_with_input joining_flow.edges (pos 5) s.1)

along_to_join : along_by joining_flow ≡ Some (at_node 6 (pos 0 ∷ pos 0 ∷ pos 1 ∷ pos 5 ∷ []))
unfolding int_wrap along_by with_five settled_at at_node joining_marked
along_to_join = ap with_five body_settles ∙ ap (λ (s : Settled). Some s.1) read_settles

joining_along : moment_along (graph_slots joining) (flow_of joining).edges (pos 5 ∷ []) (record { node = 2; slots = pos 0 ∷ pos 0 ∷ pos 0 ∷ pos 0 ∷ [] }) ≡ Some (at_node 6 (pos 0 ∷ pos 0 ∷ pos 1 ∷ pos 5 ∷ []))
unfolding along_by
joining_along = ap along_by and_with_input ∙ along_to_join

joining_room : 4 ≡ length (graph_slots joining)
joining_room = ap (λ (d : FlowGraph). length (slots_with joining d)) (sym and_with_input)

pub joining_stands : Stands joining_unit joining_tree joining_moment
unfolding at_node
joining_stands = record {
  globals = refl;
  owners = refl;
  threads = (
    (
      record {
        func = refl;
        vars = refl;
        named = refl;
        front = record {
          begin = 2;
          values = pos 0 ∷ pos 0 ∷ pos 0 ∷ pos 0 ∷ [];
          begins = front_begins;
          room = joining_room;
          same_named = refl;
          along = joining_along;
        };
      },
      refl,
      tt,
    ),
    tt,
  );
}
