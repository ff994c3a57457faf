use Rattle.std.proofs.Common.{◌≡◌, ◌∙◌, sym}
use Rattle.std.specs.Int.{int_min, int_max}
use Rattle.std.specs.Simd.Lanes.{zip2}
use Rattle.std.specs.Vec.{with_items}
use Rattle.std.proofs.lemmas.List.{with_items_is}
use Rattle.state_dom.proofs.Columns.{low-count, high-count, joined-columns, joined-view, hulls-left, hulls-right, length-hulls}
use Rattle.state_dom.proofs.intervals.Intervals.join_into.Goals as goal

pub join_into-requires-clause-a_hi : goal.join_into-requires-clause-a_hi
join_into-requires-clause-a_hi c =
    let lo = low-count c.self.inside.lo.items c.self.inside.hi.items c.args.self.now c.self.view_is c.self.invariant in
    let hi = high-count c.self.inside.lo.items c.self.inside.hi.items c.args.self.now c.self.view_is c.self.invariant in
    rw (c.as_mut_slice.ensures.value, c.as_mut_slice-2.ensures.value) (hi ∙ sym lo)

pub join_into-requires-clause-b_lo : goal.join_into-requires-clause-b_lo
join_into-requires-clause-b_lo c =
    let lo = low-count c.self.inside.lo.items c.self.inside.hi.items c.args.self.now c.self.view_is c.self.invariant in
    let other = low-count c.other.inside.lo.items c.other.inside.hi.items c.args.other.now c.other.view_is c.other.invariant in
    rw (c.as_mut_slice.ensures.value, c.as_slice.ensures.value) (other ∙ sym c.requires ∙ sym lo)

pub join_into-requires-clause-b_hi : goal.join_into-requires-clause-b_hi
join_into-requires-clause-b_hi c =
    let lo = low-count c.self.inside.lo.items c.self.inside.hi.items c.args.self.now c.self.view_is c.self.invariant in
    let other = high-count c.other.inside.lo.items c.other.inside.hi.items c.args.other.now c.other.view_is c.other.invariant in
    rw (c.as_mut_slice.ensures.value, c.as_slice-2.ensures.value) (other ∙ sym c.requires ∙ sym lo)

pub invariant_of-self : goal.invariant_of-self
invariant_of-self c =
    let los = c.self.inside.lo.items in
    let his = c.self.inside.hi.items in
    let others = c.other.inside.lo.items in
    let tops = c.other.inside.hi.items in
    let lo_is : (with_items c.self.inside.lo c.join_into.new.a_lo).items ≡ zip2 int_min los others =
    with_items_is c.self.inside.lo c.join_into.new.a_lo (c.join_into.auto.a_lo ∙ c.as_mut_slice.ensures.len) ∙ rw (c.as_mut_slice.ensures.value, c.as_slice.ensures.value) at c.join_into.ensures.lo in
    let hi_is : (with_items c.self.inside.hi c.join_into.new.a_hi).items ≡ zip2 int_max his tops =
    with_items_is c.self.inside.hi c.join_into.new.a_hi (c.join_into.auto.a_hi ∙ c.as_mut_slice-2.ensures.len) ∙ rw (c.as_mut_slice-2.ensures.value, c.as_slice-2.ensures.value) at c.join_into.ensures.hi in
    joined-columns los his others tops c.args.self.now c.args.other.now _ _ c.self.view_is c.other.view_is c.self.invariant c.other.invariant c.requires lo_is hi_is

pub returns-clause-value : goal.returns-clause-value
returns-clause-value c =
    let los = c.self.inside.lo.items in
    let his = c.self.inside.hi.items in
    let others = c.other.inside.lo.items in
    let tops = c.other.inside.hi.items in
    let lo_is : (with_items c.self.inside.lo c.join_into.new.a_lo).items ≡ zip2 int_min los others =
    with_items_is c.self.inside.lo c.join_into.new.a_lo (c.join_into.auto.a_lo ∙ c.as_mut_slice.ensures.len) ∙ rw (c.as_mut_slice.ensures.value, c.as_slice.ensures.value) at c.join_into.ensures.lo in
    let hi_is : (with_items c.self.inside.hi c.join_into.new.a_hi).items ≡ zip2 int_max his tops =
    with_items_is c.self.inside.hi c.join_into.new.a_hi (c.join_into.auto.a_hi ∙ c.as_mut_slice-2.ensures.len) ∙ rw (c.as_mut_slice-2.ensures.value, c.as_slice-2.ensures.value) at c.join_into.ensures.hi in
    joined-view los his others tops c.args.self.now c.args.other.now _ _ c.self.view_is c.other.view_is c.self.invariant c.other.invariant lo_is hi_is

pub returns-clause-old : goal.returns-clause-old
returns-clause-old c = rw (returns-clause-value c) (hulls-left c.args.self.now c.args.other.now c.requires)

pub returns-clause-new : goal.returns-clause-new
returns-clause-new c = rw (returns-clause-value c) (hulls-right c.args.self.now c.args.other.now c.requires)

pub returns-clause-sized : goal.returns-clause-sized
returns-clause-sized c = rw (returns-clause-value c) (length-hulls c.args.self.now c.args.other.now c.requires)
