use Rattle.std.proofs.Common.{arith}
use Rattle.destabilise.proofs.Naming.{a_match, no_match}
use Rattle.destabilise.proofs.matching.match_of.Goals as goal

pub returns-then-is_same : goal.returns-then-is_same
returns-then-is_same c = a_match c.args.kind c.args.old.now c.args.i c.args.new.now c.loop-j.j c.requires (c.is_same.ensures.0 c.if-is_same.true)

pub returns : goal.returns
returns c = no_match c.args.kind c.args.old.now c.args.i c.args.new.now c.loop-j.j (omega arith) c.loop-j.invariant
