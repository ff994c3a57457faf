use Rattle.state_dom.proofs.Columns.{low-count}
use Rattle.std.proofs.Common.{arith}
use Rattle.state_dom.proofs.intervals.Intervals.len.Goals as goal

pub returns : goal.returns
returns c = omega (arith, c.len.ensures, low-count c.self.inside.lo.items c.self.inside.hi.items c.args.self.now c.self.view_is c.self.invariant, c.self.inside.lo.ok.0)
