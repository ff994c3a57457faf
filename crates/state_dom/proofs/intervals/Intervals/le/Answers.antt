use Rattle.std.proofs.Common.{◌≡◌, ◌∙◌, sym}
use Rattle.lane_bounds.specs.Columns.{all_covered}
use Rattle.state_dom.proofs.Columns.{low-count, high-count, covered-views}
use Rattle.state_dom.proofs.intervals.Intervals.le.Goals as goal

pub le_all-requires-clause-a_hi : goal.le_all-requires-clause-a_hi
le_all-requires-clause-a_hi c =
    let lo = low-count c.self.inside.lo.items c.self.inside.hi.items c.args.self.now c.self.view_is c.self.invariant in
    let hi = high-count c.self.inside.lo.items c.self.inside.hi.items c.args.self.now c.self.view_is c.self.invariant in
    rw (c.as_slice.ensures.value, c.as_slice-2.ensures.value) (hi ∙ sym lo)

pub le_all-requires-clause-b_lo : goal.le_all-requires-clause-b_lo
le_all-requires-clause-b_lo c =
    let lo = low-count c.self.inside.lo.items c.self.inside.hi.items c.args.self.now c.self.view_is c.self.invariant in
    let other = low-count c.other.inside.lo.items c.other.inside.hi.items c.args.other.now c.other.view_is c.other.invariant in
    rw (c.as_slice.ensures.value, c.as_slice-3.ensures.value) (other ∙ sym c.requires ∙ sym lo)

pub le_all-requires-clause-b_hi : goal.le_all-requires-clause-b_hi
le_all-requires-clause-b_hi c =
    let lo = low-count c.self.inside.lo.items c.self.inside.hi.items c.args.self.now c.self.view_is c.self.invariant in
    let other = high-count c.other.inside.lo.items c.other.inside.hi.items c.args.other.now c.other.view_is c.other.invariant in
    rw (c.as_slice.ensures.value, c.as_slice-4.ensures.value) (other ∙ sym c.requires ∙ sym lo)

pub returns : goal.returns
returns c =
    let los = c.self.inside.lo.items in
    let his = c.self.inside.hi.items in
    let others = c.other.inside.lo.items in
    let tops = c.other.inside.hi.items in
    let is : c.le_all.result ≡ all_covered los his others tops =
    rw (c.as_slice.ensures.value, c.as_slice-2.ensures.value, c.as_slice-3.ensures.value, c.as_slice-4.ensures.value) at c.le_all.ensures.value in
    covered-views los his others tops c.args.self.now c.args.other.now c.le_all.result c.self.view_is c.other.view_is c.self.invariant c.other.invariant c.requires is
