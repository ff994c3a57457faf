use Rattle.gen_load.proofs.Joining.{three}
use Rattle.gen_load.proofs.program.push_locks.Goals as goal

-- its pieces one after another
pub returns : goal.returns
returns c = three c.push_words.result _ _ _ _ _ _ _ c.in_ok-push_after.ensures c.in_ok-push_after-2.ensures c.push_words.ensures
