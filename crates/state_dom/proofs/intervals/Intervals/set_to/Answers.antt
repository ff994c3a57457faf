use Rattle.std.proofs.Common.{arith}
use Rattle.state_dom.proofs.Columns.{low-count, high-count}
use Rattle.state_dom.proofs.intervals.Intervals.set_to.Goals as goal

pub copy_from_slice-requires : goal.copy_from_slice-requires
copy_from_slice-requires c =
    omega (arith, c.requires, low-count c.self.inside.lo.items c.self.inside.hi.items c.args.self.now c.self.view_is c.self.invariant, low-count c.other.inside.lo.items c.other.inside.hi.items c.args.other.now c.other.view_is c.other.invariant, c.as_mut_slice.ensures.len, c.as_slice.ensures.len, c.self.inside.lo.ok.0, c.other.inside.lo.ok.0)

pub copy_from_slice-requires-2 : goal.copy_from_slice-requires-2
copy_from_slice-requires-2 c =
    omega (arith, c.requires, high-count c.self.inside.lo.items c.self.inside.hi.items c.args.self.now c.self.view_is c.self.invariant, high-count c.other.inside.lo.items c.other.inside.hi.items c.args.other.now c.other.view_is c.other.invariant, c.as_mut_slice-2.ensures.len, c.as_slice-2.ensures.len, c.self.inside.hi.ok.0, c.other.inside.hi.ok.0)
