use Rattle.std.proofs.Common.{◌≡◌, ◌-◌, ℤ, pos, false, nat_eq, Some, arith, ap₂, ◌∙◌, w64, FitsSigned, rules}
use Rattle.std.proofs.lemmas.Bool.Decides.{nat_tests}
use Rattle.std.proofs.lemmas.Int.{to_z-of_z}
use Rattle.interval_dom.specs.Bounds.{between}
use Rattle.interval_dom.specs.Quotients.{greatest_abs, remainder_range}
use Rattle.interval_dom.proofs.interval.division.remainder_range.Goals as goal

pub returns : goal.returns
returns c =
    let real : nat_eq (greatest_abs c.args.divisors) 0 ≡ false = grind (arith, nat_tests, c.in_ok-most.ensures.real) in
    let most : c.in_ok-most.most ≡ pos (greatest_abs c.args.divisors - 1) = c.in_ok-most.ensures.some in
    let low_fits : FitsSigned w64 c.dividends.inside.lo = search rules in
    let high_fits : FitsSigned w64 c.dividends.inside.hi = search rules in
    let most_fits : FitsSigned w64 c.in_ok-most.most = search rules in
    let result_low : FitsSigned w64 c.low_remainder.result = search rules in
    let result_high : FitsSigned w64 c.high_remainder.result = search rules in
    let low : c.low_remainder.result ≡ (remainder_range c.args.dividends c.args.divisors).lo = rw (← c.dividends.view_is, ← most) (simp to_z-of_z at c.low_remainder.ensures.value) in
    let high : c.high_remainder.result ≡ (remainder_range c.args.dividends c.args.divisors).hi = rw (← c.dividends.view_is, ← most) (simp to_z-of_z at c.high_remainder.ensures.value) in
    rw real (ap₂ (λ (l h : ℤ). Some (between l h)) (to_z-of_z w64 c.low_remainder.result result_low ∙ low) (to_z-of_z w64 c.high_remainder.result result_high ∙ high))
