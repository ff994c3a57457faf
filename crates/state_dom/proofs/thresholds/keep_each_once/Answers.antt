use Rattle.state_dom.proofs.Thresholding.{HasSameMembers-kept, IsStrictlySortedBy-kept}
use Rattle.state_dom.proofs.thresholds.keep_each_once.Goals as goal

pub returns-clause-once : goal.returns-clause-once
returns-clause-once c = IsStrictlySortedBy-kept c.args.marks.now.items c.dedup.new.self.items c.dedup.ensures.filtered c.requires

pub returns-clause-same : goal.returns-clause-same
returns-clause-same c = HasSameMembers-kept c.args.marks.now.items c.dedup.new.self.items c.dedup.ensures.filtered
