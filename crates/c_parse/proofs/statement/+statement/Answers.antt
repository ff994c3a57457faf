use Rattle.std.proofs.Common.{sym, ◌∙◌, arith}
use Rattle.std.proofs.lemmas.Result.{err_from_is_err_and, IfOk-weaker, IfErr-weaker}
use Rattle.c_parse.proofs.Descent.{runs_then}
use Rattle.c_parse.proofs.Shorter.{shorter_stmt, shorter_decl}
use Rattle.c_parse.proofs.StatementExits.{if_2_stop, no_else_found, simple_found, simple_stop, stmt_deep, stmt_found, stmt_stop, unworded, items_closed, items_decl_again, items_decl_deep, items_decl_run, items_decl_stop, items_stmt_again, items_stmt_run, items_stmt_stop}
use Rattle.c_parse.proofs.statement.+statement.Goals as goal

pub otherwise-returns-in_default-kind : goal.otherwise-returns-in_default-kind
otherwise-returns-in_default-kind t c = record { found = no_else_found c.in-Some.ensures.cases.0 c.in_default-kind.not-Else; stop = tt }

pub items-returns-then-is_close_brace-clause-found : goal.items-returns-then-is_close_brace-clause-found
items-returns-then-is_close_brace-clause-found t c =
    items_closed c.loop-token.invariant.reads c.in-Some.ensures.cases.0 (sym c.is_close_brace.ensures ∙ c.if-is_close_brace.true)

pub bare-returns-in_default-kind : goal.bare-returns-in_default-kind
bare-returns-in_default-kind t c = record {
  found = IfOk-weaker c.ended.result _ _ (λ read o. simple_found o) c.ended.ensures.found;
  stop = IfErr-weaker c.ended.result _ _ (λ s b. simple_stop c.in-Some.ensures.cases.0 (unworded c.in-Some.token.now.kind c.in_default-kind.not-Semicolon c.in_default-kind.not-OpenBrace c.in_default-kind.not-If c.in_default-kind.not-While c.in_default-kind.not-Do c.in_default-kind.not-For c.in_default-kind.not-Break c.in_default-kind.not-Continue c.in_default-kind.not-Return) b) c.ended.ensures.stop;
}

pub if_else-returns-in_err-other-clause-stop : goal.if_else-returns-in_err-other-clause-stop
if_else-returns-in_err-other-clause-stop t c =
    let p = err_from_is_err_and c.from_residual-in_err-other.result c.from_residual-in_err-other.ensures.1 in
    rw (p.1, p.2) (if_2_stop c.in_ok-test.ensures.found c.in_ok-branch.ensures.found c.in_err-other.ensures.stop)

pub items-returns-in_err-enter-clause-stop : goal.items-returns-in_err-enter-clause-stop
items-returns-in_err-enter-clause-stop t c =
    let p = err_from_is_err_and c.from_residual.result c.from_residual.ensures.1 in
    rw (p.1, p.2) (items_decl_deep c.loop-token.invariant.runs c.in-Some.ensures.cases.0 (sym c.opens_decl.ensures ∙ c.if-opens_decl.true) c.in_err-enter.ensures.over)

pub items-returns-in_err-more-clause-stop : goal.items-returns-in_err-more-clause-stop
items-returns-in_err-more-clause-stop t c =
    let p = err_from_is_err_and c.from_residual-in_err-more.result c.from_residual-in_err-more.ensures.1 in
    rw (p.1, p.2) (items_decl_stop c.loop-token.invariant.runs c.in-Some.ensures.cases.0 (sym c.opens_decl.ensures ∙ c.if-opens_decl.true) c.in_ok-enter.ensures.entered c.in_err-more.ensures.stop)

pub items-returns-in_err-one-clause-stop : goal.items-returns-in_err-one-clause-stop
items-returns-in_err-one-clause-stop t c =
    let p = err_from_is_err_and c.from_residual-in_err-one.result c.from_residual-in_err-one.ensures.1 in
    rw (p.1, p.2) (items_stmt_stop c.loop-token.invariant.runs c.in-Some.ensures.cases.0 (sym c.is_close_brace.ensures ∙ c.if-is_close_brace.false) (sym c.opens_decl.ensures ∙ c.if-opens_decl.false) c.in_err-one.ensures.stop)

pub items-loop-token-smaller-then-opens_decl : goal.items-loop-token-smaller-then-opens_decl
items-loop-token-smaller-then-opens_decl t c = shorter_decl c.in_ok-more.ensures.found.reads

pub items-loop-token-preserved-then-opens_decl : goal.items-loop-token-preserved-then-opens_decl
items-loop-token-preserved-then-opens_decl t c =
    let more = c.in_ok-more.ensures.found in
    let entered = c.in_ok-enter.ensures.entered in
    let less = shorter_decl more.reads in
    record {
      reads = items_decl_again c.loop-token.list c.in_ok-more.more c.loop-token.invariant.reads entered more;
      runs = runs_then c.loop-token.invariant.runs (items_decl_run c.in-Some.ensures.cases.0 (sym c.opens_decl.ensures ∙ c.if-opens_decl.true) entered more);
      short = omega (arith, less, c.loop-token.invariant.short);
    }

pub items-loop-token-smaller : goal.items-loop-token-smaller
items-loop-token-smaller t c = shorter_stmt c.in_ok-one.ensures.found

pub items-loop-token-preserved : goal.items-loop-token-preserved
items-loop-token-preserved t c =
    let one = c.in_ok-one.ensures.found in
    let less = shorter_stmt one in
    record {
      reads = items_stmt_again c.loop-token.list c.push.new.self c.loop-token.invariant.reads c.in_ok-push.ensures.ok one;
      runs = runs_then c.loop-token.invariant.runs (items_stmt_run c.in-Some.ensures.cases.0 (sym c.is_close_brace.ensures ∙ c.if-is_close_brace.false) (sym c.opens_decl.ensures ∙ c.if-opens_decl.false) one);
      short = omega (arith, less, c.loop-token.invariant.short);
    }

pub stmt-returns-in_err-enter-clause-stop : goal.stmt-returns-in_err-enter-clause-stop
stmt-returns-in_err-enter-clause-stop t c =
    let p = err_from_is_err_and c.from_residual.result c.from_residual.ensures.1 in
    rw (p.1, p.2) (stmt_deep c.in-Some.ensures.cases.0 c.opens_stmt.ensures c.if-opens_stmt.true c.in_err-enter.ensures.over)

pub stmt-returns-in_err-stmt-clause-stop : goal.stmt-returns-in_err-stmt-clause-stop
stmt-returns-in_err-stmt-clause-stop t c =
    let p = err_from_is_err_and c.from_residual-in_err-stmt.result c.from_residual-in_err-stmt.ensures.1 in
    rw (p.1, p.2) (stmt_stop c.in-Some.ensures.cases.0 c.opens_stmt.ensures c.if-opens_stmt.true c.in_ok-enter.ensures.entered c.in_err-stmt.ensures.stop)

pub stmt-returns-then-opens_stmt-clause-found : goal.stmt-returns-then-opens_stmt-clause-found
stmt-returns-then-opens_stmt-clause-found t c = stmt_found c.in-Some.ensures.cases.0 c.in_ok-enter.ensures.entered c.in_ok-stmt.ensures.found
