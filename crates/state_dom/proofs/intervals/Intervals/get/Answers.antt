use Rattle.std.proofs.Common.{◌∙◌, ◌<◌, List, length, ap, arith, sym, slice_get}
use Rattle.interval_dom.specs.Bounds.{Bounds}
use Rattle.state_dom.proofs.Columns.{low-count, high-count, read-at, made}
use Rattle.state_dom.proofs.intervals.Intervals.get.Goals as goal

pub index-requires : goal.index-requires
index-requires c =
    omega (arith, c.requires, low-count c.self.inside.lo.items c.self.inside.hi.items c.args.self.now c.self.view_is c.self.invariant, c.self.inside.lo.ok.0)

pub index-requires-2 : goal.index-requires-2
index-requires-2 c =
    omega (arith, c.requires, high-count c.self.inside.lo.items c.self.inside.hi.items c.args.self.now c.self.view_is c.self.invariant, c.self.inside.hi.ok.0)

pub unreachable-requires : goal.unreachable-requires
unreachable-requires c =
    let los = c.self.inside.lo.items in
    let his = c.self.inside.hi.items in
    let within : c.args.i < length los = omega (arith, c.requires, low-count los his c.args.self.now c.self.view_is c.self.invariant) in
    let there = read-at los his c.args.i c.index.result.now c.index-2.result.now c.self.invariant within c.index.ensures c.index-2.ensures in
    let some = c.new.ensures.value ∙ made c.index.result.now c.index-2.result.now there.0 in
    cc (some, c.in-None.is)

pub returns : goal.returns
returns c =
    let los = c.self.inside.lo.items in
    let his = c.self.inside.hi.items in
    let within : c.args.i < length los = omega (arith, c.requires, low-count los his c.args.self.now c.self.view_is c.self.invariant) in
    let there = read-at los his c.args.i c.index.result.now c.index-2.result.now c.self.invariant within c.index.ensures c.index-2.ensures in
    let some = c.new.ensures.value ∙ made c.index.result.now c.index-2.result.now there.0 in
    ap (λ (xs : List Bounds). slice_get xs c.args.i) (sym c.self.view_is) ∙ there.1 ∙ sym some ∙ c.in-Some.is
