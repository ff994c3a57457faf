use Rattle.std.proofs.lemmas.Result.{IfOk-weaker, IfErr-weaker}
use Rattle.c_parse.proofs.UnitExits.{plain_literal_found, plain_literal_stop}
use Rattle.c_parse.proofs.unit.literal.Goals as goal

pub returns-in_default-kind : goal.returns-in_default-kind
returns-in_default-kind c = record {
  found = IfOk-weaker c.number-in_default-kind.result _ _ (λ read d. plain_literal_found d) c.number-in_default-kind.ensures.found;
  stop = IfErr-weaker c.number-in_default-kind.result _ _ (λ s b. plain_literal_stop c.in-Some.ensures.cases.0 c.in_default-kind.not-Minus b) c.number-in_default-kind.ensures.stop;
}
