use Rattle.hoist_law.proofs.Ways as ways
use Rattle.hoist_law.proofs.law.ways_lead_on.Goals as goal

pub returns : goal.returns
returns c = ways.ways_lead_on
