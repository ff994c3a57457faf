use Rattle.cfg_build.specs.Growing.{route_of}
use Rattle.cfg_build.proofs.Stages.{SequenceFrom}
use Rattle.cfg_build.proofs.builder.Builder.+lower.Given as goal

abbrev pub invariant-sequence-loop-i : goal.invariant-sequence-loop-i
invariant-sequence-loop-i l = SequenceFrom l.all l.i l.from (route_of l.route) l.fn.self.flow l.self.flow
