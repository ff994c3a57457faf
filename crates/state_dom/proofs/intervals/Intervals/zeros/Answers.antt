use Rattle.std.proofs.Common.{◌≡◌, pos, replicate, rules, arith}
use Rattle.std.proofs.lemmas.Int.{ints}
use Rattle.state_dom.specs.Columns.{AreEnds}
use Rattle.state_dom.proofs.Columns.{zeros-columns, of_columns-zeros}
use Rattle.state_dom.proofs.intervals.Intervals.zeros.Goals as goal

pub invariant_of-result : goal.invariant_of-result
invariant_of-result c =
    let lo_is : c.in_ok-lo.lo.items ≡ replicate c.args.count (pos 0) = search rules in
    let hi_is : c.in_ok-hi.hi.items ≡ replicate c.args.count (pos 0) = search rules in
    let ends : AreEnds (pos 0) (pos 0) = (record { sfits = omega arith }, record { sfits = omega arith }, omega (arith, ints)) in
    rw (lo_is, hi_is) (zeros-columns c.args.count ends)

pub returns : goal.returns
returns c =
    let lo_is : c.in_ok-lo.lo.items ≡ replicate c.args.count (pos 0) = search rules in
    let hi_is : c.in_ok-hi.hi.items ≡ replicate c.args.count (pos 0) = search rules in
    rw (lo_is, hi_is) (of_columns-zeros c.args.count)
