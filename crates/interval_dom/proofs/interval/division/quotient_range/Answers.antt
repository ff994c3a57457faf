use Rattle.std.proofs.Common.{◌≡◌, int_div, w64, FitsSigned, rules}
use Rattle.std.specs.Int.{w128}
use Rattle.std.proofs.lemmas.Int.{to_z-of_z}
use Rattle.interval_dom.specs.Ranges.{extremes}
use Rattle.interval_dom.proofs.interval.division.quotient_range.Goals as goal

pub returns : goal.returns
returns c =
    let low : FitsSigned w64 c.dividends.inside.lo = search rules in
    let high : FitsSigned w64 c.dividends.inside.hi = search rules in
    let low_divisor : FitsSigned w64 c.args.low = c.ranges.low in
    let high_divisor : FitsSigned w64 c.args.high = c.ranges.high in
    let first : FitsSigned w128 c.quotient.result = search rules in
    let second : FitsSigned w128 c.quotient-2.result = search rules in
    let third : FitsSigned w128 c.quotient-3.result = search rules in
    let fourth : FitsSigned w128 c.quotient-4.result = search rules in
    let low_low : c.quotient.result ≡ int_div c.dividends.inside.lo c.args.low = simp to_z-of_z at c.quotient.ensures in
    let low_high : c.quotient-2.result ≡ int_div c.dividends.inside.lo c.args.high = simp to_z-of_z at c.quotient-2.ensures in
    let high_low : c.quotient-3.result ≡ int_div c.dividends.inside.hi c.args.low = simp to_z-of_z at c.quotient-3.ensures in
    let high_high : c.quotient-4.result ≡ int_div c.dividends.inside.hi c.args.high = simp to_z-of_z at c.quotient-4.ensures in
    let four : c.of_four.result ≡ extremes c.quotient.result c.quotient-2.result c.quotient-3.result c.quotient-4.result = simp to_z-of_z at c.of_four.ensures in
    rw (← c.dividends.view_is, ← low_low, ← low_high, ← high_low, ← high_high) four
