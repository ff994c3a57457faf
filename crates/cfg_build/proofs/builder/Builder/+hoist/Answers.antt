use Rattle.std.proofs.Common.{◌≡◌, subst}
use Rattle.std.proofs.lemmas.Result.{err_from_is_err_and}
use Rattle.gob_tree.specs.declared.expr.Expr.{Expr}
use Rattle.c_meaning.specs.Graph.{Hoisted}
use Rattle.cfg_build.specs.Growing.{Hoists}
use Rattle.cfg_build.proofs.Hoisting.{binary_fault, binary_done, call_fault, call_done, temp_fault, branch_fault, all_fault}
use Rattle.cfg_build.proofs.builder.Builder.+hoist.Goals as goal

pub hoist-returns-in_err-left-in-Binary : goal.hoist-returns-in_err-left-in-Binary
hoist-returns-in_err-left-in-Binary t c =
    let p = err_from_is_err_and c.from_residual-in_err-left-in-Binary.result c.from_residual-in_err-left-in-Binary.ensures.1 in
    rw (p.1, p.2) (binary_fault _ c.args.e.now c.in-Binary.op c.in-Binary.a c.in-Binary.b c.get-in-Binary.result.now c.args.place c.args.self.now c.in-Binary.is c.get-in-Binary.ensures c.in_err-left-in-Binary.ensures)

pub hoist-returns-in_ok-left-in-Binary : goal.hoist-returns-in_ok-left-in-Binary
hoist-returns-in_ok-left-in-Binary t c =
    subst (λ (h : Hoisted Expr). Hoists c.hoist_right.result c.hoist_right.new.self h)
    (binary_done c.args.e.now c.in-Binary.op c.in-Binary.a c.in-Binary.b c.get-in-Binary.result.now c.get-in-Binary-2.result.now c.in_ok-left-in-Binary.left c.args.place c.args.self.now c.hoist-in-Binary.new.self
    c.in-Binary.is c.get-in-Binary.ensures c.get-in-Binary-2.ensures c.in_ok-left-in-Binary.ensures.0 c.in_ok-left-in-Binary.ensures.1)
    c.hoist_right.ensures

pub hoist-returns-in_err-args-in-Call : goal.hoist-returns-in_err-args-in-Call
hoist-returns-in_err-args-in-Call t c =
    let p = err_from_is_err_and c.from_residual-in_err-args-in-Call.result c.from_residual-in_err-args-in-Call.ensures.1 in
    rw (p.1, p.2) (call_fault _ c.args.e.now c.in-Call.f c.in-Call.w c.in-Call.args c.as_slice.result.now c.args.place c.args.self.now c.in-Call.is c.as_slice.ensures c.in_err-args-in-Call.ensures)

pub hoist-returns-in_ok-args-in-Call : goal.hoist-returns-in_ok-args-in-Call
hoist-returns-in_ok-args-in-Call t c =
    subst (λ (h : Hoisted Expr). Hoists c.fetch_call.result c.fetch_call.new.self h)
    (call_done c.args.e.now c.in-Call.f c.in-Call.w c.in-Call.args c.as_slice.result.now c.in_ok-args-in-Call.args c.args.place c.args.self.now c.hoist_all.new.self
    c.in-Call.is c.as_slice.ensures c.in_ok-args-in-Call.ensures.0 c.in_ok-args-in-Call.ensures.1)
    c.fetch_call.ensures

pub join_logic-returns-in_err-t : goal.join_logic-returns-in_err-t
join_logic-returns-in_err-t t c =
    let p = err_from_is_err_and c.from_residual.result c.from_residual.ensures.1 in
    rw (p.1, p.2) (temp_fault _ c.args.stop c.args.right.now c.args.left c.args.place c.args.self.now c.in_err-t.ensures.limit)

pub join_logic-returns-in_err-branch : goal.join_logic-returns-in_err-branch
join_logic-returns-in_err-branch t c =
    let p = err_from_is_err_and c.from_residual-in_err-branch.result c.from_residual-in_err-branch.ensures.1 in
    rw (p.1, p.2) (branch_fault _ c.args.stop c.args.right.now c.args.left c.args.place c.args.self.now c.take_temp.new.self c.in_ok-t.t c.next_node-p.result
    c.in_ok-t.ensures.slot c.next_node-p.ensures.number c.in_ok-t.ensures.state c.in_err-branch.ensures.limit)

pub hoist_all-returns-in_err-item : goal.hoist_all-returns-in_err-item
hoist_all-returns-in_err-item t c =
    let p = err_from_is_err_and c.from_residual.result c.from_residual.ensures.1 in
    rw (p.1, p.2) (all_fault _ c.args.args.now c.loop-arg.arg-index c.args.place c.args.self.now c.loop-arg.list c.loop-arg.self c.arg-item.result c.loop-arg.invariant c.loop-arg-test.true c.arg-item.is c.in_err-item.ensures)
