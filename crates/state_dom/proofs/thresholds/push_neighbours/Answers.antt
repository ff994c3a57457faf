use Rattle.std.proofs.Common.{FitsSigned, w64, rules, append_assoc, refl}
use Rattle.std.proofs.lemmas.Int.{to_z-of_z}
use Rattle.std.specs.Int.{w128}
use Rattle.state_dom.proofs.thresholds.push_neighbours.Goals as goal

pub returns : goal.returns
returns c =
    let within : FitsSigned w64 c.args.c = search rules in
    let first : FitsSigned w128 c.predecessor.result = search rules in
    let second : FitsSigned w128 c.from.result = search rules in
    let third : FitsSigned w128 c.successor.result = search rules in
    let below = simp to_z-of_z at c.predecessor.ensures in
    let at_it = simp to_z-of_z at c.from.ensures in
    let above = simp to_z-of_z at c.successor.ensures in
    let a = simp to_z-of_z at c.in_ok-push_fitting.ensures in
    let b = simp to_z-of_z at c.in_ok-push_fitting-2.ensures in
    let d = simp to_z-of_z at c.in_ok-push_fitting-3.ensures in
    rw (d, b, a, below, at_it, above) (simp append_assoc refl)
