use Rattle.std.proofs.Common.{arith}
use Rattle.std.proofs.lemmas.Grind.{common_steps}
use Rattle.cfg_build.proofs.Marks.{silent_of_marked}
use Rattle.cfg_build.proofs.drawing.marks_of.Goals as goal

pub returns : goal.returns
returns c =
    let e = silent_of_marked c.args.edges.now in
    grind (arith, common_steps)
