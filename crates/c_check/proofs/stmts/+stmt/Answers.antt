use Rattle.std.proofs.Common.{sym, ap, ◌∙◌, ◌+◌, ◌≤◌, List, length, drop, arith}
use Rattle.std.proofs.lemmas.Result.{err_from_is_err_and}
use Rattle.c_parse.specs.declared.raw.stmt.RawStmt.{If, While, DoWhile, For, Block}
use Rattle.c_parse.specs.declared.raw.stmt.RawPlaced.{RawPlaced}
use Rattle.c_check.proofs.Listed.{from_here, nothing_behind}
use Rattle.c_check.proofs.Sequences.{from_fault, from_next, from_end}
use Rattle.c_check.proofs.StmtForms.{if_test, if_then, if_else, if_done, while_test, while_inner, while_done, do_inner, do_test, do_done, block_inner, block_done, for_first, for_test, for_last, for_inner, for_done}
use Rattle.c_check.proofs.stmts.«+stmt».Goals as goal

pub stmt-returns-in_err-test-in-If : goal.stmt-returns-in_err-test-in-If
stmt-returns-in_err-test-in-If t c =
    let p = err_from_is_err_and c.from_residual.result c.from_residual.ensures.1 in
    rw (p.1, p.2) (if_test c.args.file.now c.args.place c.args.in_loop c.args.body.now _ c.args.raw.now c.in-If.test c.in-If.then c.in-If.otherwise c.in-If.is c.in_err-test-in-If.ensures)

pub stmt-returns-in_err-then-in-If : goal.stmt-returns-in_err-then-in-If
stmt-returns-in_err-then-in-If t c =
    let p = err_from_is_err_and c.from_residual-in_err-then-in-If.result c.from_residual-in_err-then-in-If.ensures.1 in
    rw (p.1, p.2) (if_then c.args.file.now c.args.place c.args.in_loop c.args.body.now _ c.args.raw.now c.in-If.test c.get.result.now c.in-If.otherwise (c.in-If.is ∙ ap (λ (x : RawPlaced). If c.in-If.test x c.in-If.otherwise) (sym c.get.ensures)) c.in_ok-test-in-If.ensures.0 c.in_err-then-in-If.ensures)

pub stmt-returns-in_err-otherwise-in-If : goal.stmt-returns-in_err-otherwise-in-If
stmt-returns-in_err-otherwise-in-If t c =
    let p = err_from_is_err_and c.from_residual-in_err-otherwise-in-If.result c.from_residual-in_err-otherwise-in-If.ensures.1 in
    rw (p.1, p.2) (if_else c.args.file.now c.args.place c.args.in_loop c.args.body.now _ c.args.raw.now c.in-If.test c.get.result.now c.in-If.otherwise c.boxed.new.body (c.in-If.is ∙ ap (λ (x : RawPlaced). If c.in-If.test x c.in-If.otherwise) (sym c.get.ensures)) c.in_ok-test-in-If.ensures.0 c.in_ok-then-in-If.ensures.0 c.in_ok-then-in-If.ensures.2 c.in_err-otherwise-in-If.ensures)

pub stmt-returns-in_ok-otherwise-in-If : goal.stmt-returns-in_ok-otherwise-in-If
stmt-returns-in_ok-otherwise-in-If t c =
    if_done c.args.file.now c.args.place c.args.in_loop c.args.body.now c.args.raw.now c.in-If.test c.get.result.now c.in-If.otherwise c.in_ok-test-in-If.test c.in_ok-then-in-If.then c.in_ok-otherwise-in-If.otherwise c.boxed.new.body c.part.new.body (c.in-If.is ∙ ap (λ (x : RawPlaced). If c.in-If.test x c.in-If.otherwise) (sym c.get.ensures)) c.in_ok-test-in-If.ensures c.in_ok-then-in-If.ensures c.in_ok-otherwise-in-If.ensures

pub stmt-returns-in_err-test-in-While : goal.stmt-returns-in_err-test-in-While
stmt-returns-in_err-test-in-While t c =
    let p = err_from_is_err_and c.from_residual-in_err-test-in-While.result c.from_residual-in_err-test-in-While.ensures.1 in
    rw (p.1, p.2) (while_test c.args.file.now c.args.place c.args.in_loop c.args.body.now _ c.args.raw.now c.in-While.test c.in-While.inner c.in-While.is c.in_err-test-in-While.ensures)

pub stmt-returns-in_err-inner-in-While : goal.stmt-returns-in_err-inner-in-While
stmt-returns-in_err-inner-in-While t c =
    let p = err_from_is_err_and c.from_residual-in_err-inner-in-While.result c.from_residual-in_err-inner-in-While.ensures.1 in
    rw (p.1, p.2) (while_inner c.args.file.now c.args.place c.args.in_loop c.args.body.now _ c.args.raw.now c.in-While.test c.get-in-While.result.now (c.in-While.is ∙ ap (λ (x : RawPlaced). While c.in-While.test x) (sym c.get-in-While.ensures)) c.in_ok-test-in-While.ensures.0 c.in_err-inner-in-While.ensures)

pub stmt-returns-in_ok-inner-in-While : goal.stmt-returns-in_ok-inner-in-While
stmt-returns-in_ok-inner-in-While t c =
    while_done c.args.file.now c.args.place c.args.in_loop c.args.body.now c.args.raw.now c.in-While.test c.get-in-While.result.now c.in_ok-test-in-While.test c.in_ok-inner-in-While.inner c.boxed-in-While.new.body (c.in-While.is ∙ ap (λ (x : RawPlaced). While c.in-While.test x) (sym c.get-in-While.ensures)) c.in_ok-test-in-While.ensures c.in_ok-inner-in-While.ensures

pub stmt-returns-in_err-inner-in-DoWhile : goal.stmt-returns-in_err-inner-in-DoWhile
stmt-returns-in_err-inner-in-DoWhile t c =
    let p = err_from_is_err_and c.from_residual-in_err-inner-in-DoWhile.result c.from_residual-in_err-inner-in-DoWhile.ensures.1 in
    rw (p.1, p.2) (do_inner c.args.file.now c.args.place c.args.in_loop c.args.body.now _ c.args.raw.now c.get-in-DoWhile.result.now c.in-DoWhile.test (c.in-DoWhile.is ∙ ap (λ (x : RawPlaced). DoWhile x c.in-DoWhile.test) (sym c.get-in-DoWhile.ensures)) c.in_err-inner-in-DoWhile.ensures)

pub stmt-returns-in_err-test-in-DoWhile : goal.stmt-returns-in_err-test-in-DoWhile
stmt-returns-in_err-test-in-DoWhile t c =
    let p = err_from_is_err_and c.from_residual-in_err-test-in-DoWhile.result c.from_residual-in_err-test-in-DoWhile.ensures.1 in
    rw (p.1, p.2) (do_test c.args.file.now c.args.place c.args.in_loop c.args.body.now _ c.args.raw.now c.get-in-DoWhile.result.now c.in-DoWhile.test c.boxed-in-DoWhile.new.body (c.in-DoWhile.is ∙ ap (λ (x : RawPlaced). DoWhile x c.in-DoWhile.test) (sym c.get-in-DoWhile.ensures)) c.in_ok-inner-in-DoWhile.ensures.0 c.in_ok-inner-in-DoWhile.ensures.2 c.in_err-test-in-DoWhile.ensures)

pub stmt-returns-in_ok-test-in-DoWhile : goal.stmt-returns-in_ok-test-in-DoWhile
stmt-returns-in_ok-test-in-DoWhile t c =
    do_done c.args.file.now c.args.place c.args.in_loop c.args.body.now c.args.raw.now c.get-in-DoWhile.result.now c.in-DoWhile.test c.in_ok-inner-in-DoWhile.inner c.in_ok-test-in-DoWhile.test c.boxed-in-DoWhile.new.body (c.in-DoWhile.is ∙ ap (λ (x : RawPlaced). DoWhile x c.in-DoWhile.test) (sym c.get-in-DoWhile.ensures)) c.in_ok-inner-in-DoWhile.ensures c.in_ok-test-in-DoWhile.ensures

pub stmt-returns-in_err-first-in-For : goal.stmt-returns-in_err-first-in-For
stmt-returns-in_err-first-in-For t c =
    let p = err_from_is_err_and c.from_residual-in_err-first-in-For.result c.from_residual-in_err-first-in-For.ensures.1 in
    rw (p.1, p.2) (for_first c.args.file.now c.args.place c.args.in_loop c.args.body.now c.args.raw.now c.as_slice.result.now c.in-For.test c.in-For.last c.in-For.inner (c.in-For.is ∙ ap (λ (x : List RawPlaced). For x c.in-For.test c.in-For.last c.in-For.inner) (sym c.as_slice.ensures)) _ c.open.new.self c.in_ok-open-in-For.ensures c.in_err-first-in-For.ensures)

pub stmt-returns-in_err-test-in-For : goal.stmt-returns-in_err-test-in-For
stmt-returns-in_err-test-in-For t c =
    let p = err_from_is_err_and c.from_residual-in_err-test-in-For.result c.from_residual-in_err-test-in-For.ensures.1 in
    rw (p.1, p.2) (for_test c.args.file.now c.args.place c.args.in_loop c.args.body.now c.args.raw.now c.as_slice.result.now c.in-For.test c.in-For.last c.in-For.inner (c.in-For.is ∙ ap (λ (x : List RawPlaced). For x c.in-For.test c.in-For.last c.in-For.inner) (sym c.as_slice.ensures)) c.open.new.self c.in_ok-first-in-For.first c.sequence.new.body c.in_ok-open-in-For.ensures c.in_ok-first-in-For.ensures _ c.in_err-test-in-For.ensures)

pub stmt-returns-in_err-last-in-For : goal.stmt-returns-in_err-last-in-For
stmt-returns-in_err-last-in-For t c =
    let p = err_from_is_err_and c.from_residual-in_err-last-in-For.result c.from_residual-in_err-last-in-For.ensures.1 in
    rw (p.1, p.2) (for_last c.args.file.now c.args.place c.args.in_loop c.args.body.now c.args.raw.now c.as_slice.result.now c.in-For.test c.in-For.last c.in-For.inner (c.in-For.is ∙ ap (λ (x : List RawPlaced). For x c.in-For.test c.in-For.last c.in-For.inner) (sym c.as_slice.ensures)) c.open.new.self c.in_ok-first-in-For.first c.sequence.new.body c.in_ok-open-in-For.ensures c.in_ok-first-in-For.ensures c.in_ok-test-in-For.test c.in_ok-test-in-For.ensures _ c.in_err-last-in-For.ensures)

pub stmt-returns-in_err-inner-in-For : goal.stmt-returns-in_err-inner-in-For
stmt-returns-in_err-inner-in-For t c =
    let p = err_from_is_err_and c.from_residual-in_err-inner-in-For.result c.from_residual-in_err-inner-in-For.ensures.1 in
    rw (p.1, p.2) (for_inner c.args.file.now c.args.place c.args.in_loop c.args.body.now c.args.raw.now c.as_slice.result.now c.in-For.test c.in-For.last c.get-in-For.result.now (c.in-For.is ∙ ap (λ (x : List RawPlaced). For x c.in-For.test c.in-For.last c.in-For.inner) (sym c.as_slice.ensures) ∙ ap (λ (x : RawPlaced). For c.as_slice.result.now c.in-For.test c.in-For.last x) (sym c.get-in-For.ensures)) c.open.new.self c.in_ok-first-in-For.first c.sequence.new.body c.in_ok-open-in-For.ensures c.in_ok-first-in-For.ensures c.in_ok-test-in-For.test c.in_ok-test-in-For.ensures c.in_ok-last-in-For.last c.part-in-For.new.body c.in_ok-last-in-For.ensures _ c.in_err-inner-in-For.ensures)

pub stmt-returns-in_ok-inner-in-For : goal.stmt-returns-in_ok-inner-in-For
stmt-returns-in_ok-inner-in-For t c =
    for_done c.args.file.now c.args.place c.args.in_loop c.args.body.now c.args.raw.now c.as_slice.result.now c.in-For.test c.in-For.last c.get-in-For.result.now (c.in-For.is ∙ ap (λ (x : List RawPlaced). For x c.in-For.test c.in-For.last c.in-For.inner) (sym c.as_slice.ensures) ∙ ap (λ (x : RawPlaced). For c.as_slice.result.now c.in-For.test c.in-For.last x) (sym c.get-in-For.ensures)) c.open.new.self c.in_ok-first-in-For.first c.sequence.new.body c.in_ok-open-in-For.ensures c.in_ok-first-in-For.ensures c.in_ok-test-in-For.test c.in_ok-test-in-For.ensures c.in_ok-last-in-For.last c.part-in-For.new.body c.in_ok-last-in-For.ensures c.in_ok-inner-in-For.inner c.boxed-in-For.new.body c.close.new.self c.in_ok-inner-in-For.ensures c.close.ensures

pub stmt-returns-in_err-all-in-Block : goal.stmt-returns-in_err-all-in-Block
stmt-returns-in_err-all-in-Block t c =
    let p = err_from_is_err_and c.from_residual-in_err-all-in-Block.result c.from_residual-in_err-all-in-Block.ensures.1 in
    rw (p.1, p.2) (block_inner c.args.file.now c.args.place c.args.in_loop c.args.body.now _ c.args.raw.now c.as_slice-in-Block.result.now c.open-in-Block.new.self (c.in-Block.is ∙ ap (λ (x : List RawPlaced). Block x) (sym c.as_slice-in-Block.ensures)) c.in_ok-open-in-Block.ensures c.in_err-all-in-Block.ensures)

pub stmt-returns-in_ok-all-in-Block : goal.stmt-returns-in_ok-all-in-Block
stmt-returns-in_ok-all-in-Block t c =
    block_done c.args.file.now c.args.place c.args.in_loop c.args.body.now c.args.raw.now c.as_slice-in-Block.result.now c.in_ok-all-in-Block.all c.open-in-Block.new.self c.sequence-in-Block.new.body c.close-in-Block.new.self (c.in-Block.is ∙ ap (λ (x : List RawPlaced). Block x) (sym c.as_slice-in-Block.ensures)) c.in_ok-open-in-Block.ensures c.in_ok-all-in-Block.ensures c.close-in-Block.ensures

pub sequence-returns-in_err-item : goal.sequence-returns-in_err-item
sequence-returns-in_err-item t c =
    let p = err_from_is_err_and c.from_residual.result c.from_residual.ensures.1 in
    rw (p.1, p.2) (from_fault c.args.file.now c.args.in_loop _ c.args.raw.now (drop c.loop-one.one-index c.args.raw.now) (drop (c.loop-one.one-index + 1) c.args.raw.now) c.one-item.result c.args.body.now c.loop-one.body c.loop-one.list c.loop-one.invariant (from_here c.args.raw.now c.loop-one.one-index c.one-item.result c.loop-one-test.true c.one-item.is) c.in_err-item.ensures)

pub sequence-loop-one-preserved : goal.sequence-loop-one-preserved
sequence-loop-one-preserved t c =
    from_next c.args.file.now c.args.in_loop c.args.raw.now (drop c.loop-one.one-index c.args.raw.now) (drop (c.loop-one.one-index + 1) c.args.raw.now) c.one-item.result c.args.body.now c.loop-one.body _ c.loop-one.list _ c.in_ok-item.item c.loop-one.invariant (from_here c.args.raw.now c.loop-one.one-index c.one-item.result c.loop-one-test.true c.one-item.is) c.in_ok-item.ensures c.in_ok-push.ensures.ok

pub sequence-returns : goal.sequence-returns
sequence-returns t c =
    let h : length c.args.raw.now ≤ c.loop-one.one-index = omega arith in
    from_end c.args.file.now c.args.in_loop c.args.raw.now (drop c.loop-one.one-index c.args.raw.now) c.args.body.now c.loop-one.body c.loop-one.list c.loop-one.invariant (nothing_behind c.args.raw.now c.loop-one.one-index h)
