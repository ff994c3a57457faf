use Rattle.std.proofs.Common.{◌≡◌, ◌++◌, drop}
use Rattle.c_meaning.specs.Demand.{demands_of, and_then}
use Rattle.std.specs.Prelude.{Ok}
use Rattle.tree_run.proofs.demand.+evaluate.Given as goal

abbrev pub invariant-evaluate_all-loop-e : goal.invariant-evaluate_all-loop-e
invariant-evaluate_all-loop-e l =
    demands_of l.all l.slots l.values l.ins
    ≡ and_then (demands_of (drop l.e-index l.all) l.slots l.values l.rest) (λ ns rest. (Ok (l.numbers ++ ns), rest))
