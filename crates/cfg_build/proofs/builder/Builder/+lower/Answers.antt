use Rattle.std.proofs.Common.{◌≡◌, ◌∙◌, ap, subst, Option, None, Some, ◌+◌, ◌<◌, length, arith}
use Rattle.std.proofs.lemmas.Result.{err_from_is_err_and}
use Rattle.gob_tree.specs.declared.stmt.Stmt.{If}
use Rattle.gob_tree.specs.declared.stmt.Placed.{Placed}
use Rattle.c_meaning.specs.Graph.{FlowGraph, HoistState, Route, route_to, hoisted_expr}
use Rattle.cfg_build.specs.Growing.{Draws, Faults, route_of}
use Rattle.cfg_build.proofs.Growth.{faults_wider, wider_if_flow, wider_while_flow}
use Rattle.cfg_build.proofs.Stages.{if_none_done, if_done, one_branch_fault, wider_then_flow, two_nodes_fault, then_part_done, while_body_fault, do_node_fault, do_body_fault, for_node_fault, for_head_fault, if_fault, for_first_fault, for_test_fault, for_body_fault, for_done, block_done, next_node_fault, statement_fault}
use Rattle.cfg_build.proofs.builder.Builder.+lower.Goals as goal

pub lower_if-returns-in_err-test : goal.lower_if-returns-in_err-test
lower_if-returns-in_err-test t c =
    let p = err_from_is_err_and c.from_residual.result c.from_residual.ensures.1 in
    rw (p.1, p.2) (faults_wider _ _ _ (wider_if_flow c.args.a.now None (route_of c.args.route) (hoisted_expr c.args.e.now c.args.place c.args.route.from c.args.self.now.flow)) c.in_err-test.ensures)

pub one_branch-returns-in_err-node : goal.one_branch-returns-in_err-node
one_branch-returns-in_err-node t c =
    let p = err_from_is_err_and c.from_residual.result c.from_residual.ensures.1 in
    rw (p.1, p.2) (one_branch_fault _ c.args.a.now c.start_of.result (route_of c.args.route) c.args.test c.args.self.now c.start_of.ensures c.in_err-node.ensures.limit)

pub then_part-returns-in_err-test-clause-flow : goal.then_part-returns-in_err-test-clause-flow
then_part-returns-in_err-test-clause-flow t c =
    let p = err_from_is_err_and c.from_residual.result c.from_residual.ensures.1 in
    rw (p.1, p.2) (faults_wider _ _ _ (wider_then_flow c.args.a.now c.args.second (route_of c.args.route) (hoisted_expr c.args.e.now c.args.place c.args.route.from c.args.self.now.flow)) c.in_err-test.ensures)

pub then_part-returns-in_err-node-clause-flow : goal.then_part-returns-in_err-node-clause-flow
then_part-returns-in_err-node-clause-flow t c =
    let p = err_from_is_err_and c.from_residual-in_err-node.result c.from_residual-in_err-node.ensures.1 in
    rw (p.1, p.2) (two_nodes_fault _ c.args.a.now c.start_of.result c.args.second (route_of c.args.route) c.in_ok-test.test c.hoisted.new.self (hoisted_expr c.args.e.now c.args.place c.args.route.from c.args.self.now.flow) c.start_of.ensures c.in_ok-test.ensures.0 c.in_ok-test.ensures.1 c.in_err-node.ensures.flow)

pub then_part-returns-in_err-lower-clause-flow : goal.then_part-returns-in_err-lower-clause-flow
then_part-returns-in_err-lower-clause-flow t c =
    let p = err_from_is_err_and c.from_residual-in_err-lower.result c.from_residual-in_err-lower.ensures.1 in
    rw (p.1, p.2) (subst (λ (d : FlowGraph). Faults c.in_err-lower.field-0.0 d) (then_part_done c.args.a.now c.start_of.result c.args.second (route_of c.args.route) (route_of c.starting_at.result) c.in_ok-node.node c.in_ok-test.test c.hoisted.new.self (hoisted_expr c.args.e.now c.args.place c.args.route.from c.args.self.now.flow) c.two_nodes.new.self.flow c.start_of.ensures c.in_ok-test.ensures.0 c.in_ok-test.ensures.1 c.in_ok-node.ensures.flow c.in_ok-node.ensures.number.0 c.starting_at.ensures) c.in_err-lower.ensures)

pub then_part-returns-clause-flow : goal.then_part-returns-clause-flow
then_part-returns-clause-flow t c = c.in_ok-lower.ensures ∙ then_part_done c.args.a.now c.start_of.result c.args.second (route_of c.args.route) (route_of c.starting_at.result) c.in_ok-node.node c.in_ok-test.test c.hoisted.new.self (hoisted_expr c.args.e.now c.args.place c.args.route.from c.args.self.now.flow) c.two_nodes.new.self.flow c.start_of.ensures c.in_ok-test.ensures.0 c.in_ok-test.ensures.1 c.in_ok-node.ensures.flow c.in_ok-node.ensures.number.0 c.starting_at.ensures

pub lower_while-returns-in_err-test : goal.lower_while-returns-in_err-test
lower_while-returns-in_err-test t c =
    let p = err_from_is_err_and c.from_residual.result c.from_residual.ensures.1 in
    rw (p.1, p.2) (faults_wider _ _ _ (wider_while_flow c.args.body.now (route_of c.args.route) (hoisted_expr c.args.e.now c.args.place c.args.route.from c.args.self.now.flow)) c.in_err-test.ensures)

pub while_body-returns-in_err-node : goal.while_body-returns-in_err-node
while_body-returns-in_err-node t c =
    let p = err_from_is_err_and c.from_residual.result c.from_residual.ensures.1 in
    rw (p.1, p.2) (while_body_fault _ c.args.body.now c.start_of.result (route_of c.args.route) c.args.test c.args.self.now c.start_of.ensures c.in_err-node.ensures.limit)

pub lower_do-returns-in_err-node : goal.lower_do-returns-in_err-node
lower_do-returns-in_err-node t c =
    let p = err_from_is_err_and c.from_residual.result c.from_residual.ensures.1 in
    rw (p.1, p.2) (do_node_fault _ c.args.body.now c.args.e.now c.args.place (route_of c.args.route) c.args.self.now.flow c.in_err-node.ensures.limit)

pub lower_do-returns-in_err-lower : goal.lower_do-returns-in_err-lower
lower_do-returns-in_err-lower t c =
    let p = err_from_is_err_and c.from_residual-in_err-lower.result c.from_residual-in_err-lower.ensures.1 in
    rw (p.1, p.2) (do_body_fault _ c.args.body.now c.args.e.now c.args.place (route_of c.args.route) (route_of c.in_loop.result) c.in_ok-node.node c.args.self.now.flow c.add_node.new.self.flow c.in_ok-node.ensures.number.0 c.in_loop.ensures (ap (λ (s : HoistState). s.flow) c.in_ok-node.ensures.state) c.in_err-lower.ensures)

pub for_first-returns-in_err-node-clause-flow : goal.for_first-returns-in_err-node-clause-flow
for_first-returns-in_err-node-clause-flow t c =
    let p = err_from_is_err_and c.from_residual.result c.from_residual.ensures.1 in
    rw (p.1, p.2) (for_node_fault _ c.args.first.now c.args.place (route_of c.args.route) c.args.self.now.flow c.in_err-node.ensures.limit)

pub for_body-returns-in_err-node-clause-flow : goal.for_body-returns-in_err-node-clause-flow
for_body-returns-in_err-node-clause-flow t c =
    let p = err_from_is_err_and c.from_residual.result c.from_residual.ensures.1 in
    rw (p.1, p.2) (for_head_fault _ c.args.body.now c.start_of.result c.args.last (route_of c.args.route) c.args.test c.args.self.now c.start_of.ensures c.in_err-node.ensures.flow)

pub lower_stmt-returns-in-None : goal.lower_stmt-returns-in-None
lower_stmt-returns-in-None t c =
    subst (λ (d : FlowGraph). Draws c.lower_if.result c.lower_if.new.self d)
    (if_none_done c.args.stmt.now c.in-If.e c.in-If.a c.get.result.now c.args.place (route_of c.args.route) c.args.self.now.flow (c.in-If.is ∙ ap (λ (o : Option Placed). If c.in-If.e c.in-If.a o) c.in-None.is) c.get.ensures)
    c.lower_if.ensures

pub lower_stmt-returns-in_err-node-in-Some : goal.lower_stmt-returns-in_err-node-in-Some
lower_stmt-returns-in_err-node-in-Some t c =
    let p = err_from_is_err_and c.from_residual.result c.from_residual.ensures.1 in
    rw (p.1, p.2) (if_fault _ c.args.stmt.now c.in-If.e c.in-If.a c.in-Some.b c.get-in-Some.result.now c.get-in-Some-2.result.now c.start_of.result c.args.place (route_of c.args.route) c.args.self.now.flow (c.in-If.is ∙ ap (λ (o : Option Placed). If c.in-If.e c.in-If.a o) c.in-Some.is) c.get-in-Some.ensures c.get-in-Some-2.ensures c.start_of.ensures c.in_err-node-in-Some.ensures.flow)

pub lower_stmt-returns-in_ok-node-in-Some : goal.lower_stmt-returns-in_ok-node-in-Some
lower_stmt-returns-in_ok-node-in-Some t c =
    subst (λ (d : FlowGraph). Draws c.lower.result c.lower.new.self d)
    (if_done c.args.stmt.now c.in-If.e c.in-If.a c.in-Some.b c.get-in-Some.result.now c.get-in-Some-2.result.now c.get-in-Some-3.result.now c.start_of.result c.args.place (route_of c.args.route) (route_of c.starting_at.result) c.args.self.now.flow c.then_part.new.self.flow c.in_ok-node-in-Some.node
    (c.in-If.is ∙ ap (λ (o : Option Placed). If c.in-If.e c.in-If.a o) c.in-Some.is) c.get-in-Some.ensures c.get-in-Some-2.ensures c.get-in-Some-3.ensures c.start_of.ensures c.in_ok-node-in-Some.ensures.number.0 c.starting_at.ensures c.in_ok-node-in-Some.ensures.flow)
    c.lower.ensures

pub lower_stmt-returns-in_err-node-in-For : goal.lower_stmt-returns-in_err-node-in-For
lower_stmt-returns-in_err-node-in-For t c =
    let p = err_from_is_err_and c.from_residual-in_err-node-in-For.result c.from_residual-in_err-node-in-For.ensures.1 in
    rw (p.1, p.2) (for_first_fault c.args.stmt.now c.in-For.first c.in-For.test c.in-For.last c.in-For.body c.args.place (route_of c.args.route) c.args.self.now.flow c.in-For.is _ c.as_slice-in-For.result.now c.as_slice-in-For.ensures c.in_err-node-in-For.ensures.flow)

pub lower_stmt-returns-in_err-test-in-For : goal.lower_stmt-returns-in_err-test-in-For
lower_stmt-returns-in_err-test-in-For t c =
    let p = err_from_is_err_and c.from_residual-in_err-test-in-For.result c.from_residual-in_err-test-in-For.ensures.1 in
    rw (p.1, p.2) (for_test_fault c.args.stmt.now c.in-For.first c.in-For.test c.in-For.last c.in-For.body c.args.place (route_of c.args.route) c.args.self.now.flow c.in-For.is _ c.as_slice-in-For.result.now c.in_ok-node-in-For.node c.for_first.new.self.flow c.as_slice-in-For.ensures c.in_ok-node-in-For.ensures.number c.in_ok-node-in-For.ensures.flow c.in_err-test-in-For.ensures)

pub lower_stmt-returns-in_err-inside-in-For : goal.lower_stmt-returns-in_err-inside-in-For
lower_stmt-returns-in_err-inside-in-For t c =
    let p = err_from_is_err_and c.from_residual-in_err-inside-in-For.result c.from_residual-in_err-inside-in-For.ensures.1 in
    rw (p.1, p.2) (for_body_fault c.args.stmt.now c.in-For.first c.in-For.test c.in-For.last c.in-For.body c.args.place (route_of c.args.route) c.args.self.now.flow c.in-For.is _ c.as_slice-in-For.result.now c.in_ok-node-in-For.node c.for_first.new.self.flow c.get-in-For.result.now c.part_start.result c.in_ok-test-in-For.test c.for_test.new.self c.as_slice-in-For.ensures c.in_ok-node-in-For.ensures.number c.in_ok-node-in-For.ensures.flow c.get-in-For.ensures c.part_start.ensures c.in_ok-test-in-For.ensures.0 c.in_ok-test-in-For.ensures.1 c.in_err-inside-in-For.ensures.flow)

pub lower_stmt-returns-in_ok-inside-in-For : goal.lower_stmt-returns-in_ok-inside-in-For
lower_stmt-returns-in_ok-inside-in-For t c =
    subst (λ (d : FlowGraph). Draws c.part_or_silent.result c.part_or_silent.new.self d)
    (for_done c.args.stmt.now c.in-For.first c.in-For.test c.in-For.last c.in-For.body c.args.place (route_of c.args.route) c.args.self.now.flow c.in-For.is c.as_slice-in-For.result.now c.in_ok-node-in-For.node c.for_first.new.self.flow c.get-in-For.result.now c.part_start.result c.in_ok-test-in-For.test c.for_test.new.self c.in_ok-inside-in-For.inside c.for_body.new.self.flow (route_of c.in_loop.result) c.as_slice-in-For.ensures c.in_ok-node-in-For.ensures.number c.in_ok-node-in-For.ensures.flow c.get-in-For.ensures c.part_start.ensures c.in_ok-test-in-For.ensures.0 c.in_ok-test-in-For.ensures.1 c.in_ok-inside-in-For.ensures.number.0 c.in_ok-inside-in-For.ensures.flow c.in_loop.ensures)
    c.part_or_silent.ensures

pub lower_stmt-returns-in-Block : goal.lower_stmt-returns-in-Block
lower_stmt-returns-in-Block t c =
    subst (λ (d : FlowGraph). Draws c.sequence.result c.sequence.new.self d)
    (block_done c.args.stmt.now c.in-Block.all c.as_slice-in-Block.result.now c.args.place (route_of c.args.route) c.args.self.now.flow c.in-Block.is c.as_slice-in-Block.ensures)
    c.sequence.ensures

pub sequence-returns-in_err-node : goal.sequence-returns-in_err-node
sequence-returns-in_err-node t c =
    let inside : c.loop-i.i + 1 < length c.args.all.now = omega arith in
    let p = err_from_is_err_and c.from_residual.result c.from_residual.ensures.1 in
    rw (p.1, p.2) (next_node_fault _ c.args.all.now c.loop-i.i c.loop-i.from (route_of c.args.route) c.args.self.now.flow c.loop-i.self.flow c.index-all-i.result c.start_of.result c.loop-i.invariant inside c.index-all-i.is c.start_of.ensures c.in_err-node.ensures.limit)

pub sequence-returns-in_err-lower : goal.sequence-returns-in_err-lower
sequence-returns-in_err-lower t c =
    let inside : c.loop-i.i + 1 < length c.args.all.now = omega arith in
    let p = err_from_is_err_and c.from_residual-in_err-lower.result c.from_residual-in_err-lower.ensures.1 in
    rw (p.1, p.2) (statement_fault _ c.args.all.now c.loop-i.i c.loop-i.from (route_of c.args.route) (route_of c.ending_at.result) c.args.self.now.flow c.loop-i.self.flow c.add_node.new.self.flow c.index-all-i-in-loop-i.result c.index-all-i.result c.start_of.result c.in_ok-node.node c.loop-i.invariant inside c.index-all-i-in-loop-i.is c.index-all-i.is c.start_of.ensures c.in_ok-node.ensures.number.0 (ap (λ (s : HoistState). s.flow) c.in_ok-node.ensures.state) (c.ending_at.ensures ∙ ap (λ (w : Route). route_to c.in_ok-node.node w) c.starting_at.ensures) c.in_err-lower.ensures)
