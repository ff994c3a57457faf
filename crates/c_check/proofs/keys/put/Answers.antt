use Rattle.std.proofs.Common.{ap, ◌∙◌}
use Rattle.c_check.specs.Tables.{at_name}
use Rattle.c_check.proofs.Tables.{at_name-put}
use Rattle.c_check.proofs.keys.put.Goals as goal

pub returns-clause-ok : goal.returns-clause-ok
returns-clause-ok g c x = ap (at_name x) c.in_ok-insert.ensures.entries ∙ at_name-put c.args.name c.args.value x c.args.map.now.entries
