use Rattle.c_parse.proofs.DeclarationExits.{no_initial_found}
use Rattle.c_parse.proofs.declaration.initial.Goals as goal

pub returns-in_default-kind : goal.returns-in_default-kind
returns-in_default-kind c = record { found = no_initial_found c.in-Some.ensures.cases.0 c.in_default-kind.not-Equals; stop = tt }
