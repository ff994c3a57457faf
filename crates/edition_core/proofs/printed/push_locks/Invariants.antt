use Rattle.std.proofs.Common.{◌≡◌, ◌++◌, drop, codes, List, ℕ, if◌then◌else◌}
use Rattle.std.specs.List.{flat_map}
use Rattle.edition_core.specs.Printed as spec
use Rattle.edition_core.proofs.printed.push_locks.Given as goal

abbrev pub invariant-loop-m : goal.invariant-loop-m
invariant-loop-m l =
    let rest = spec.names_of_held l.locks (drop l.m l.mutexes) l.m in
    l.out.items ++ (if l.first then spec.joined_by_comma rest else flat_map (λ (text : List ℕ). codes "," ++ text) rest)
    ≡ l.fn.out.items ++ spec.joined_by_comma (spec.names_of_held l.locks l.mutexes 0)
