use Rattle.std.proofs.lemmas.Result.{err_from_is_err_and, IfOk-weaker, IfErr-weaker}
use Rattle.c_parse.proofs.UnitExits.{number_item_found, number_type_stop, number_typed_stop}
use Rattle.c_parse.proofs.unit.outer.Goals as goal

pub returns-in_err-width-in_default-kind : goal.returns-in_err-width-in_default-kind
returns-in_err-width-in_default-kind c =
    let p = err_from_is_err_and c.from_residual-in_err-width-in_default-kind.result c.from_residual-in_err-width-in_default-kind.ensures.1 in
    rw (p.1, p.2) (record { found = tt; stop = number_type_stop c.in-Some.ensures.cases.0 c.in_default-kind.not-Void c.in_default-kind.not-Mutex c.in_err-width-in_default-kind.ensures.stop })

pub returns : goal.returns
returns c = record {
  found = IfOk-weaker c.typed.result _ _ (λ read d. number_item_found c.in_ok-width-in_default-kind.ensures.found d) c.typed.ensures.found;
  stop = IfErr-weaker c.typed.result _ _ (λ s b. number_typed_stop c.in-Some.ensures.cases.0 c.in_default-kind.not-Void c.in_default-kind.not-Mutex c.in_ok-width-in_default-kind.ensures.found b) c.typed.ensures.stop;
}
