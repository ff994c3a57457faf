use Rattle.std.proofs.Common.{sym, ◌∙◌, arith}
use Rattle.std.proofs.lemmas.Result.{err_from_is_err_and, IfOk-weaker, IfErr-weaker}
use Rattle.c_parse.proofs.Descent.{args_found, arg_stop, more_args_stop, no_call_found, onto_closed, onto_again, more_comma_runs, ends_found, all_found, more_found, more_runs, runs_then, shorter_level, chain_over_stop, call_deep}
use Rattle.c_parse.proofs.expression.+expression.Goals as goal

pub chain-returns-in_default-operator-clause-found :
    goal.chain-returns-in_default-operator-clause-found
chain-returns-in_default-operator-clause-found t c =
    c.loop-token.invariant.reads _ _ _ (ends_found c.in-Some.ensures.cases.0 (sym c.operator.ensures ∙ c.in_default-operator.is))

pub chain-returns-in_err-begun-clause-stop : goal.chain-returns-in_err-begun-clause-stop
chain-returns-in_err-begun-clause-stop t c =
    let p = err_from_is_err_and c.from_residual.result c.from_residual.ensures.1 in
    rw (p.1, p.2) (chain_over_stop c.loop-token.invariant.runs c.in-Some.ensures.cases.0 (sym c.operator.ensures ∙ c.in-Some-operator.is) c.in_err-begun.ensures.over)

pub chain-loop-token-preserved : goal.chain-loop-token-preserved
chain-loop-token-preserved t c =
    let first = c.in-Some.ensures.cases.0 in
    let op = sym c.operator.ensures ∙ c.in-Some-operator.is in
    let ticked = c.in_ok-begun.ensures.counted in
    let right = c.in_ok-right.ensures.found in
    let less = shorter_level right in
    record {
      reads = λ e left b d. c.loop-token.invariant.reads e left b (more_found first op ticked right c.in_ok-new.ensures c.in_ok-new-2.ensures d);
      runs = runs_then c.loop-token.invariant.runs (more_runs first op ticked right);
      short = omega (arith, less, c.in-Some.ensures.cases.1, c.loop-token.invariant.short);
      few = c.in_ok-right.ensures.limit;
    }

pub chain-returns-clause-found : goal.chain-returns-clause-found
chain-returns-clause-found t c = c.loop-token.invariant.reads _ _ _ (all_found c.in_default.ensures.cases)

pub more_args-returns-then-is_close_paren-clause-found : goal.more_args-returns-then-is_close_paren-clause-found
more_args-returns-then-is_close_paren-clause-found t c =
    onto_closed c.args.front c.loop-token.invariant.reads c.in-Some.ensures.cases.0 (sym c.is_close_paren.ensures ∙ c.if-is_close_paren.true) c.ended-begun.ensures.value

pub more_args-loop-token-preserved : goal.more_args-loop-token-preserved
more_args-loop-token-preserved t c =
    let first = c.in-Some.ensures.cases.0 in
    let comma = sym c.is_comma.ensures ∙ c.if-is_comma.true in
    let arg = c.in_ok-arg.ensures.found in
    let less = shorter_level arg in
    record {
      reads = onto_again c.args.front c.loop-token.list c.push.new.self c.loop-token.invariant.reads c.in_ok-push.ensures.ok first comma c.ended-begun.ensures.value arg;
      runs = runs_then c.loop-token.invariant.runs (more_comma_runs first comma c.ended-begun.ensures.value arg);
      short = omega (arith, less, c.in-Some.ensures.cases.1, c.loop-token.invariant.short);
      few = c.in_ok-arg.ensures.limit;
    }

pub args-returns-in_err-first-clause-stop : goal.args-returns-in_err-first-clause-stop
args-returns-in_err-first-clause-stop t c =
    let p = err_from_is_err_and c.from_residual.result c.from_residual.ensures.1 in
    rw (p.1, p.2) (arg_stop c.in-Some.ensures.cases.0 c.is_close_paren.ensures c.if-is_close_paren.false c.in_err-first.ensures.stop)

pub args-returns-clause-found : goal.args-returns-clause-found
args-returns-clause-found t c = IfOk-weaker c.more_args.result _ _ (λ read o. args_found c.in_ok-first.ensures.found c.new-list.ensures c.in_ok-push.ensures.ok o) c.more_args.ensures.found

pub args-returns-clause-stop : goal.args-returns-clause-stop
args-returns-clause-stop t c = IfErr-weaker c.more_args.result _ _ (λ s b. more_args_stop c.in-Some.ensures.cases.0 c.is_close_paren.ensures c.if-is_close_paren.false c.in_ok-first.ensures.found b) c.more_args.ensures.stop

pub call-returns-clause-found : goal.call-returns-clause-found
call-returns-clause-found t c = no_call_found c.in-Some.ensures.cases.0 c.is_open_paren.ensures c.if-is_open_paren.false

pub call-returns-in_err-count-clause-stop : goal.call-returns-in_err-count-clause-stop
call-returns-in_err-count-clause-stop t c =
    let p = err_from_is_err_and c.from_residual.result c.from_residual.ensures.1 in
    rw (p.1, p.2) (call_deep c.in-Some.ensures.cases.0 (sym c.is_open_paren.ensures ∙ c.if-is_open_paren.true) c.in_err-count.ensures.over)
