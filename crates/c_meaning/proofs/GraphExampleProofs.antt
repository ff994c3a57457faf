-- The graphs of the examples, worked out.
use Rattle.std.proofs.Common.{◌≡◌, ap, ◌∙◌, pos, List, [], ◌∷◌, length, map, None, Some}
use Rattle.gob_tree.specs.declared.place.Place.{Place}
use Rattle.gob_tree.specs.declared.expr.Width.TheVariants.{W32, W64}
use Rattle.gob_tree.specs.declared.expr.BinOp.TheVariants.{Add, Lt}
use Rattle.gob_tree.specs.declared.expr.Expr.{Local, Global, Binary, Call}
use Rattle.gob_tree.specs.declared.stmt.Target.{Target}
use Rattle.gob_tree.specs.declared.stmt.Stmt.TheOpen.{Stmt-F}
use Rattle.gob_tree.specs.declared.unit.Function.{Function}
use Rattle.c_meaning.specs.Graph.{FlowGraph, Lowering, HoistState, Hoisting, lowering_step, flow_of, hoisted_expr, hoisted_exprs, hoisting_of, hoisting_step, hoist_all, call_fetch, lowering_of, sequence, body_route, first_flow, body_start}
use Rattle.gob_tree.proofs.Folds.{fold-Number, fold-Local, fold-Global, fold-Call}
use Rattle.c_meaning.proofs.Evaluation.{expressions, statements}
use Rattle.c_meaning.specs.Samples.{place, int}
use Rattle.c_meaning.specs.StepExamples.{calling_main, called}
use Rattle.c_meaning.specs.GraphExamples.{counting, counting_flow, doubling, doubling_flow, joining, joining_flow, looping, looping_flow, splitting, splitting_flow, stepping, stepping_flow, sharing, sharing_flow, acting, acting_flow}
use Rattle.c_meaning.specs.WalkExamples.{called_flow, calling_flow}

-- ---- graphs

-- what is edges of a function whose body's statements are lowered so
flow_by : Function → List Lowering → FlowGraph
flow_by f ls = sequence ls body_route (record { named = length f.slots; temps = []; nodes = f.place ∷ f.end ∷ body_start ls f.end ∷ []; edges = (first_flow f).edges })

counting_lowered : List Lowering
counting_lowered =
    lowering_step (Stmt-F.Declare 1 (Some (int 0))) (place 2 3)
    ∷ lowering_step (Stmt-F.While (Binary Lt (Local 1) (int 10)) (lowering_step (Stmt-F.Assign (Target.Local 1) (Binary Add (Local 1) (int 1))) (place 3 18))) (place 3 3)
    ∷ lowering_step (Stmt-F.Return (Some (Local 1))) (place 4 3)
    ∷ []

counting_is : map lowering_of counting.body ≡ counting_lowered
unfolding counting_lowered
counting_is = simp statements

looping_lowered : List Lowering
looping_lowered =
    lowering_step (Stmt-F.For [] None None (lowering_step (Stmt-F.Block (lowering_step Stmt-F.Continue (place 2 14) ∷ [])) (place 2 12))) (place 2 3)
    ∷ lowering_step (Stmt-F.DoWhile (lowering_step Stmt-F.Empty (place 3 6)) (int 0)) (place 3 3)
    ∷ lowering_step (Stmt-F.Return (Some (int 0))) (place 8 3)
    ∷ []

looping_is : map lowering_of looping.body ≡ looping_lowered
unfolding looping_lowered
looping_is = simp statements

counting_worked : flow_by counting counting_lowered ≡ counting_flow
unfolding flow_by counting_lowered
counting_worked = simp (expressions, hoisted_expr)

pub counting_graph : flow_of counting ≡ counting_flow
unfolding flow_by
counting_graph = ap (λ (ls : List Lowering). flow_by counting ls) counting_is ∙ counting_worked

looping_worked : flow_by looping looping_lowered ≡ looping_flow
unfolding flow_by looping_lowered
looping_worked = simp (expressions, hoisted_expr)

pub bare_for_and_do : flow_of looping ≡ looping_flow
unfolding flow_by
bare_for_and_do = ap (λ (ls : List Lowering). flow_by looping ls) looping_is ∙ looping_worked

pub two_reads : flow_of doubling ≡ doubling_flow
two_reads = simp (expressions, statements, hoisted_expr)

calling_lowered : List Lowering
calling_lowered =
    lowering_step (Stmt-F.Declare 1 (Some (Call 0 W32 (int 1 ∷ [])))) (place 3 3)
    ∷ lowering_step (Stmt-F.Return (Some (Local 1))) (place 8 3)
    ∷ []

calling_is : map lowering_of calling_main.body ≡ calling_lowered
unfolding calling_lowered
calling_is = simp statements

-- the hoisting of the call
call_hoists : (pl : Place) (s : HoistState) → (hoisting_of (Call 0 W32 (int 1 ∷ []))).hoist pl s ≡ call_fetch 0 W32 pl (int 1 ∷ [], s)
call_hoists pl s =
    ap (λ (h : Hoisting). h.hoist pl s) (fold-Call Hoisting hoisting_step 0 W32 (int 1 ∷ []))
    ∙ ap (λ (h : Hoisting). call_fetch 0 W32 pl (hoist_all (h ∷ []) pl s)) (fold-Number Hoisting hoisting_step (pos 1) W32)

calling_worked : flow_by calling_main calling_lowered ≡ calling_flow
unfolding flow_by calling_lowered
calling_worked = simp (fold-Local, call_hoists, hoisted_expr)

pub call_in_expression : flow_of calling_main ≡ calling_flow
unfolding flow_by
call_in_expression = ap (λ (ls : List Lowering). flow_by calling_main ls) calling_is ∙ calling_worked

pub called_graph : flow_of called ≡ called_flow
called_graph = simp (expressions, statements, hoisted_expr)

pub and_with_input : flow_of joining ≡ joining_flow
and_with_input = simp (expressions, statements, hoisted_expr)

pub or_with_input : flow_of splitting ≡ splitting_flow
or_with_input = simp (expressions, statements, hoisted_expr)

stepping_lowered : List Lowering
stepping_lowered =
    lowering_step (Stmt-F.For
    (lowering_step (Stmt-F.Declare 1 (Some (int 1))) (place 2 8) ∷ [])
    (Some (Local 1))
    (Some (lowering_step (Stmt-F.Assign (Target.Local 1) (int 0)) (place 2 22)))
    (lowering_step (Stmt-F.Block (lowering_step (Stmt-F.If (Local 1) (lowering_step Stmt-F.Break (place 2 38)) None) (place 2 31) ∷ lowering_step Stmt-F.Continue (place 2 45) ∷ [])) (place 2 29))) (place 2 3)
    ∷ lowering_step (Stmt-F.Return (Some (int 0))) (place 8 3)
    ∷ []

stepping_is : map lowering_of stepping.body ≡ stepping_lowered
unfolding stepping_lowered
stepping_is = simp statements

stepping_worked : flow_by stepping stepping_lowered ≡ stepping_flow
unfolding flow_by stepping_lowered
stepping_worked = simp (fold-Number, fold-Local, hoisted_expr)

pub whole_for : flow_of stepping ≡ stepping_flow
unfolding flow_by
whole_for = ap (λ (ls : List Lowering). flow_by stepping ls) stepping_is ∙ stepping_worked

sharing_lowered : List Lowering
sharing_lowered =
    lowering_step (Stmt-F.Declare 1 (Some (Global 1 W64))) (place 2 3)
    ∷ lowering_step (Stmt-F.CallOnly 1 (Global 0 W32 ∷ [])) (place 3 3)
    ∷ lowering_step (Stmt-F.Return (Some (int 0))) (place 8 3)
    ∷ []

sharing_is : map lowering_of sharing.body ≡ sharing_lowered
unfolding sharing_lowered
sharing_is = simp statements

sharing_worked : flow_by sharing sharing_lowered ≡ sharing_flow
unfolding flow_by sharing_lowered
sharing_worked = simp (fold-Number, fold-Global, hoisted_expr, hoisted_exprs)

pub two_widths : flow_of sharing ≡ sharing_flow
unfolding flow_by
two_widths = ap (λ (ls : List Lowering). flow_by sharing ls) sharing_is ∙ sharing_worked

acting_lowered : List Lowering
acting_lowered =
    lowering_step (Stmt-F.Lock 0) (place 4 3)
    ∷ lowering_step (Stmt-F.Join 0) (place 5 3)
    ∷ lowering_step (Stmt-F.Assert (Local 1)) (place 6 3)
    ∷ lowering_step (Stmt-F.If (Local 1) (lowering_step Stmt-F.Empty (place 7 10)) (Some (lowering_step Stmt-F.Empty (place 7 17)))) (place 7 3)
    ∷ lowering_step (Stmt-F.Return (Some (int 0))) (place 8 3)
    ∷ []

acting_is : map lowering_of acting.body ≡ acting_lowered
unfolding acting_lowered
acting_is = simp statements

acting_worked : flow_by acting acting_lowered ≡ acting_flow
unfolding flow_by acting_lowered
acting_worked = simp (fold-Number, fold-Local, hoisted_expr)

pub actions : flow_of acting ≡ acting_flow
unfolding flow_by
actions = ap (λ (ls : List Lowering). flow_by acting ls) acting_is ∙ acting_worked
