use Rattle.lane_bounds.proofs.Places.{all_covered-places}
use Rattle.lane_bounds.proofs.covered.le_all.Goals as goal

pub returns-clause-places : goal.returns-clause-places
returns-clause-places c =
    rw c.columns_covered.ensures (all_covered-places c.args.a_lo.now c.args.a_hi.now c.args.b_lo.now c.args.b_hi.now c.requires.a_hi c.requires.b_lo c.requires.b_hi)
