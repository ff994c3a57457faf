use Rattle.std.proofs.Common.{◌<◌, length, arith}
use Rattle.cfg_build.proofs.Growth.{named_over}
use Rattle.cfg_build.proofs.drawing.draw.Goals as goal

pub returns-then-named-gt-SLOT_LIMIT-clause-limit :
    goal.returns-then-named-gt-SLOT_LIMIT-clause-limit
returns-then-named-gt-SLOT_LIMIT-clause-limit c =
    let over : 128 < length c.args.function.now.slots = omega arith in
    named_over c.args.function.now over
