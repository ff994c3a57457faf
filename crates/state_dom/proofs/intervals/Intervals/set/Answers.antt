use Rattle.std.proofs.Common.{◌∙◌, arith, ap, List, FitsSigned, set}
use Rattle.std.proofs.lemmas.Int.{ints, to_z-of_z}
use Rattle.interval_dom.specs.Bounds.{Bounds, between}
use Rattle.std.specs.Int.{w64}
use Rattle.state_dom.specs.Columns.{AreEnds}
use Rattle.state_dom.proofs.Columns.{low-count, high-count, set-columns, of_columns-set, ends-are}
use Rattle.state_dom.proofs.intervals.Intervals.set.Goals as goal

pub index_mut-requires : goal.index_mut-requires
index_mut-requires c =
    omega (arith, c.requires, low-count c.self.inside.lo.items c.self.inside.hi.items c.args.self.now c.self.view_is c.self.invariant, c.self.inside.lo.ok.0)

pub index_mut-requires-2 : goal.index_mut-requires-2
index_mut-requires-2 c =
    omega (arith, c.requires, high-count c.self.inside.lo.items c.self.inside.hi.items c.args.self.now c.self.view_is c.self.invariant, c.self.inside.hi.ok.0)

pub invariant_of-self : goal.invariant_of-self
invariant_of-self c =
    let ends : AreEnds c.lo.result c.hi.result = (record { sfits = c.lo.type_inv }, record { sfits = c.hi.type_inv }, omega (arith, ints, c.lo.ensures.value, c.hi.ensures.value, c.lo.ensures.ordered)) in
    rw (to_z-of_z w64 c.lo.result ends.0, to_z-of_z w64 c.hi.result ends.1) (set-columns c.self.inside.lo.items c.self.inside.hi.items c.args.i c.lo.result c.hi.result ends c.self.invariant)

pub returns : goal.returns
returns c =
    let low : FitsSigned w64 c.lo.result = record { sfits = c.lo.type_inv } in
    let high : FitsSigned w64 c.hi.result = record { sfits = c.hi.type_inv } in
    rw (to_z-of_z w64 c.lo.result low, to_z-of_z w64 c.hi.result high) (of_columns-set c.self.inside.lo.items c.self.inside.hi.items c.args.i c.lo.result c.hi.result c.self.invariant ∙ ap (λ (xs : List Bounds). set xs c.args.i (between c.lo.result c.hi.result)) c.self.view_is ∙ ap (λ (b : Bounds). set c.args.self.now c.args.i b) (ends-are c.args.interval c.lo.result c.hi.result c.lo.ensures.value c.hi.ensures.value))
