use Rattle.cfg_build.proofs.Hoisting.{AllHoisted}
use Rattle.cfg_build.proofs.builder.Builder.+hoist.Given as goal

abbrev pub invariant-hoist_all-loop-arg : goal.invariant-hoist_all-loop-arg
invariant-hoist_all-loop-arg l = AllHoisted l.args l.arg-index l.place l.fn.self l.list l.self
