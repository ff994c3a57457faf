use Rattle.std.proofs.Common.{rules, ◌<◌, length}
use Rattle.tree_run.specs.Going.{config_of}
use Rattle.tree_run.proofs.Growing.{stay_numbered}
use Rattle.tree_run.proofs.machine.Machine.step.Goals as goal

pub invariant_of-self : goal.invariant_of-self
invariant_of-self c =
    let few : length (config_of c.self.inside.state).threads < 4294967295 = search rules in
    stay_numbered c.self.inside.state c.step.new.self c.args.unit.now c.args.thread _ c.step.result c.step.ensures few
