use Rattle.std.proofs.Common.{◌≡◌, map, take}
use Rattle.constraint_sys.specs.declared.value.Effect.{Effect}
use Rattle.destabilise.proofs.links.targets_among.Given as goal

abbrev pub invariant-loop-e : goal.invariant-loop-e
invariant-loop-e l = l.targets ≡ map (λ (e : Effect). e.target) (take l.e-index l.effects)
