use Rattle.std.proofs.Common.{sym}
use Rattle.constraint_sys.proofs.Entries.{unknown_eq-apart}
use Rattle.constraint_sys.proofs.table.put.Goals as goal

pub returns-clause-others : goal.returns-clause-others
returns-clause-others c = λ q other. c.in_ok-insert.ensures.updates.2 q (unknown_eq-apart c.args.u q (λ same. other (sym same)))
