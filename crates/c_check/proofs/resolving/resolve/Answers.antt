use Rattle.c_check.proofs.Resolved.{checked_is_made}
use Rattle.c_check.proofs.resolving.resolve.Goals as goal

pub returns-clause-made : goal.returns-clause-made
returns-clause-made c = checked_is_made c.checked.result c.args.raw.now c.requires c.checked.ensures
