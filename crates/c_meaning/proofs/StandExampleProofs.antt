-- Trees and graphs that are the same moment, and ones that are not, worked out.
use Rattle.std.proofs.Common.{◌≡◌, refl, sym, ap, ◌∙◌, subst, ℤ, pos, List, [], ◌∷◌, length, Option, None, Some, arith}
use Rattle.std.specs.Int.{int_wrap}
use Rattle.std.specs.List.{Contains}
use Rattle.gob_tree.specs.declared.expr.Width.TheVariants.{W32}
use Rattle.gob_tree.specs.declared.expr.BinOp.TheVariants.{Add}
use Rattle.gob_tree.specs.declared.expr.Expr.{Local, Binary, Call}
use Rattle.gob_tree.specs.declared.stmt.Stmt as Stmt
use Rattle.gob_tree.specs.declared.graph.Action.TheVariants.{Call as CallEdge}
use Rattle.gob_tree.specs.declared.graph.Edge.{Edge}
use Rattle.gob_tree.specs.declared.unit.Function.{Function}
use Rattle.c_meaning.specs.declared.config.Todo.TheVariants.{Stmt as Doing}
use Rattle.c_meaning.specs.Graph.{FlowGraph, MarkedProgram, flow_of, hoisted_expr, slots_with, graph_slots, program_of}
use Rattle.c_meaning.specs.GraphStep.{edge_at}
use Rattle.c_meaning.specs.Walk.{Begun, begun_of, Moment, moment_along, Stands}
use Rattle.c_meaning.specs.Samples.{at, int, returns, left}
use Rattle.c_meaning.specs.StepExamples.{first_choice, returning, calling_main, called, calling}
use Rattle.c_meaning.specs.GraphExamples.{joining_unit}
use Rattle.c_meaning.specs.WalkExamples.{called_flow, calling_flow, joining_tree, joining_moment_with, calling_tree, calling_moment, calling_moment_at, ended_tree, ended_moment}
use Rattle.c_meaning.proofs.Begins.{begun_is}
use Rattle.c_meaning.proofs.Evaluation.{steps, layers}
use Rattle.c_meaning.proofs.GraphExampleProofs.{call_in_expression, called_graph}
use Rattle.c_meaning.proofs.WalkExampleProofs.{calling_marked, calling_marked_is}

pub calling_left : left calling first_choice ≡ calling_tree
unfolding int_wrap
calling_left = simp steps

pub returning_left : left returning first_choice ≡ ended_tree
returning_left = simp steps

-- ---- standing

called_begun : List Begun
called_begun = (Doing (at 1 16 (Stmt.Return (Some (Binary Add (Local 1) (int 1))))), 2) ∷ []

called_begun_is : begun_of called ≡ called_begun
unfolding called_begun
called_begun_is = simp (layers, hoisted_expr, begun_is)

called_begins : Contains (begun_of called) (Doing (at 1 16 (Stmt.Return (Some (Binary Add (Local 1) (int 1))))), 2)
unfolding called_begun
called_begins = subst (λ (l : List Begun). Contains l (Doing (at 1 16 (Stmt.Return (Some (Binary Add (Local 1) (int 1))))), 2)) (sym called_begun_is) (0, omega arith, refl)

calling_begun : List Begun
calling_begun = (Doing (at 3 3 (Stmt.Declare 1 (Some (Call 0 W32 (int 1 ∷ []))))), 2) ∷ (Doing (returns (Local 1)), 3) ∷ []

calling_begun_is : begun_of calling_main ≡ calling_begun
unfolding calling_begun
calling_begun_is = simp (layers, hoisted_expr, begun_is)

calling_begins : Contains (begun_of calling_main) (Doing (at 3 3 (Stmt.Declare 1 (Some (Call 0 W32 (int 1 ∷ []))))), 2)
unfolding calling_begun
calling_begins = subst (λ (l : List Begun). Contains l (Doing (at 3 3 (Stmt.Declare 1 (Some (Call 0 W32 (int 1 ∷ []))))), 2)) (sym calling_begun_is) (0, omega arith, refl)

-- no silent edge leaves node 2, so a frame there stays there
stays_by : Function → List ℤ → FlowGraph → Option Moment
stays_by f values d = moment_along (slots_with f d) d.edges [] (record { node = 2; slots = values })

called_stays : stays_by called (pos 0 ∷ pos 1 ∷ []) called_flow ≡ Some (record { node = 2; slots = pos 0 ∷ pos 1 ∷ [] })
unfolding stays_by
called_stays = refl

called_along : moment_along (graph_slots called) (flow_of called).edges [] (record { node = 2; slots = pos 0 ∷ pos 1 ∷ [] }) ≡ Some (record { node = 2; slots = pos 0 ∷ pos 1 ∷ [] })
unfolding stays_by
called_along = ap (stays_by called (pos 0 ∷ pos 1 ∷ [])) called_graph ∙ called_stays

calling_stays : stays_by calling_main (pos 0 ∷ pos 0 ∷ pos 0 ∷ []) calling_flow ≡ Some (record { node = 2; slots = pos 0 ∷ pos 0 ∷ pos 0 ∷ [] })
unfolding stays_by
calling_stays = refl

calling_along : moment_along (graph_slots calling_main) (flow_of calling_main).edges [] (record { node = 2; slots = pos 0 ∷ pos 0 ∷ pos 0 ∷ [] }) ≡ Some (record { node = 2; slots = pos 0 ∷ pos 0 ∷ pos 0 ∷ [] })
unfolding stays_by
calling_along = ap (stays_by calling_main (pos 0 ∷ pos 0 ∷ pos 0 ∷ [])) call_in_expression ∙ calling_stays

called_room : 2 ≡ length (graph_slots called)
called_room = ap (λ (d : FlowGraph). length (slots_with called d)) (sym called_graph)

calling_room : 3 ≡ length (graph_slots calling_main)
calling_room = ap (λ (d : FlowGraph). length (slots_with calling_main d)) (sym call_in_expression)

call_edge : Edge
call_edge = record { from = 2; act = CallEdge (Some 2) 0 (int 1 ∷ []); to = 4 }

call_there : edge_at (program_of calling) 1 1 ≡ Some call_edge
unfolding call_edge calling_marked
call_there = ap (λ (m : MarkedProgram). edge_at m.program 1 1) calling_marked_is

pub calling_stands : Stands calling calling_tree calling_moment
unfolding call_edge
calling_stands = record {
  globals = refl;
  owners = refl;
  threads = (
    (
      record {
        func = refl;
        vars = refl;
        named = refl;
        front = record { begin = 2; values = pos 0 ∷ pos 1 ∷ []; begins = called_begins; room = called_room; same_named = refl; along = called_along };
      },
      refl,
      (
        record {
          func = refl;
          vars = refl;
          named = refl;
          front = record { begin = 2; values = pos 0 ∷ pos 0 ∷ pos 0 ∷ []; begins = calling_begins; room = calling_room; same_named = refl; along = calling_along };
        },
        record { edge = 1; waits = refl; destination = Some 2; args = int 1 ∷ []; to = 4; call = call_there },
        tt,
      ),
    ),
    tt,
  );
}

pub ended_stands : Stands returning ended_tree (ended_moment 1)
ended_stands = record { globals = refl; owners = refl; threads = ((refl, refl), tt) }

-- ---- not standing

pub other_globals : ¬ Stands joining_unit joining_tree (joining_moment_with (pos 6) (pos 0))
other_globals s = let e : (pos 5 ∷ []) ≡ (pos 6 ∷ []) = s.globals in cc

pub other_local : ¬ Stands joining_unit joining_tree (joining_moment_with (pos 5) (pos 3))
other_local s = let e : (pos 0 ∷ pos 3 ∷ []) ≡ (pos 0 ∷ pos 0 ∷ []) = s.threads.0.0.named in cc

pub caller_goes_on : ¬ Stands calling calling_tree (calling_moment_at None)
caller_goes_on s = let w = s.threads.0.2.1 in let e : None ≡ Some w.edge = w.waits in cc

-- edge 2 of `main` is an assignment
assigned_there : (e : Edge) → edge_at (program_of calling) 1 2 ≡ Some e → e.from ≡ 4
unfolding calling_marked
assigned_there e q = let here : edge_at (program_of calling) 1 2 ≡ edge_at calling_marked.program 1 2 = ap (λ (m : MarkedProgram). edge_at m.program 1 2) calling_marked_is in cc

pub caller_at_no_call : ¬ Stands calling calling_tree (calling_moment_at (Some 2))
caller_at_no_call s =
    let w = s.threads.0.2.1 in
    let e : Some 2 ≡ Some w.edge = w.waits in
    let same : 2 ≡ w.edge = cc in
    let call : edge_at (program_of calling) 1 2 ≡ Some (record { from = 2; act = CallEdge w.destination 0 w.args; to = w.to }) = ap (λ n. edge_at (program_of calling) 1 n) same ∙ w.call in
    let four : 2 ≡ 4 = assigned_there (record { from = 2; act = CallEdge w.destination 0 w.args; to = w.to }) call in
    absurd (omega (arith, four))

pub ended_elsewhere : ¬ Stands returning ended_tree (ended_moment 2)
ended_elsewhere s = let e : 2 ≡ 1 = s.threads.0.0 in absurd (omega (arith, e))
