use Rattle.std.proofs.Common.{rules}
use Rattle.gen_load.proofs.Joining.{four}
use Rattle.gen_load.proofs.program.push_adds.Goals as goal

-- its pieces one after another
pub returns : goal.returns
returns c = four c.push_str.result _ _ _ _ _ _ _ _ _ c.in_ok-push_after.ensures c.in_ok-push_after-2.ensures c.in_ok-push_after-3.ensures (search rules)
