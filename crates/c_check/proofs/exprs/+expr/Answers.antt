use Rattle.std.proofs.Common.{sym, ap, ◌∙◌, subst, ◌+◌, drop}
use Rattle.std.proofs.lemmas.Result.{err_from_is_err_and}
use Rattle.c_parse.specs.declared.raw.expr.RawExpr.{Call}
use Rattle.c_check.specs.Faults.{IsFirst}
use Rattle.c_check.specs.Bodies.{expr_faults, expr_of}
use Rattle.c_check.proofs.ExprForms.{binary_left, call_done, args_fault, args_go_on}
use Rattle.c_check.proofs.Listed.{from_here, one_more}
use Rattle.c_check.proofs.exprs.«+expr».Goals as goal

pub expr-returns-in_err-a-in-Binary : goal.expr-returns-in_err-a-in-Binary
expr-returns-in_err-a-in-Binary t c =
    let p = err_from_is_err_and c.from_residual-in_err-a-in-Binary.result c.from_residual-in_err-a-in-Binary.ensures.1 in
    rw (p.1, p.2) (binary_left c.args.file.now c.args.body.now _ c.args.raw.now c.in-Binary.op c.in-Binary.a c.in-Binary.b c.in-Binary.is
    (subst (λ e. IsFirst c.in_err-a-in-Binary.field-0.0 (expr_faults c.args.file.now c.args.body.now e)) c.get-in-Binary.ensures c.in_err-a-in-Binary.ensures))

pub expr-returns-in-Call : goal.expr-returns-in-Call
expr-returns-in-Call t c =
    call_done c.args.file.now c.args.body.now c.call.result c.args.raw.now c.in-Call.name c.as_slice.result.now
    (c.in-Call.is ∙ ap (λ es. Call c.in-Call.name es) (sym c.as_slice.ensures)) c.call.ensures

pub exprs-returns-in_err-item : goal.exprs-returns-in_err-item
exprs-returns-in_err-item t c =
    let p = err_from_is_err_and c.from_residual.result c.from_residual.ensures.1 in
    rw (p.1, p.2) (args_fault c.args.file.now c.args.body.now _ c.args.raw.now (drop c.loop-one.one-index c.args.raw.now) (drop (c.loop-one.one-index + 1) c.args.raw.now) c.one-item.result
    c.loop-one.invariant.faults (from_here c.args.raw.now c.loop-one.one-index c.one-item.result c.loop-one-test.true c.one-item.is) c.in_err-item.ensures)

pub exprs-loop-one-preserved : goal.exprs-loop-one-preserved
exprs-loop-one-preserved t c = record {
  faults = args_go_on c.args.file.now c.args.body.now c.args.raw.now (drop c.loop-one.one-index c.args.raw.now) (drop (c.loop-one.one-index + 1) c.args.raw.now) c.one-item.result
      c.loop-one.invariant.faults (from_here c.args.raw.now c.loop-one.one-index c.one-item.result c.loop-one-test.true c.one-item.is) c.in_ok-item.ensures.0;
  made = one_more (expr_of c.args.file.now c.args.body.now) c.args.raw.now c.loop-one.one-index c.one-item.result c.loop-one.list _ c.in_ok-item.item c.loop-one-test.true c.one-item.is
      c.loop-one.invariant.made c.in_ok-push.ensures.ok c.in_ok-item.ensures.1;
}
