use Rattle.c_parse.proofs.DeclarationExits.{no_long_int_found}
use Rattle.c_parse.proofs.declaration.long_tail.Goals as goal

pub returns-in_default-kind : goal.returns-in_default-kind
returns-in_default-kind c = no_long_int_found c.in-Some.ensures.cases.0 c.in_default-kind.not-Int
