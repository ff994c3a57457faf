use Rattle.c_check.proofs.Tables.{none_seen}
use Rattle.c_check.proofs.visible.Visible.new.Goals as goal

pub invariant_of-result : goal.invariant_of-result
invariant_of-result c = none_seen c.new-2.result.entries c.new.result.items c.new-2.ensures.empty c.new.ensures.items
