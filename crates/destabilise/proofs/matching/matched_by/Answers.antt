use Rattle.std.proofs.Common.{[], ◌∷◌, ap, length, length-append, arith}
use Rattle.destabilise.proofs.Naming.{matches_all, matches_more}
use Rattle.destabilise.proofs.matching.matched_by.Goals as goal

pub loop-i-preserved : goal.loop-i-preserved
loop-i-preserved c = record {
  len = omega (arith, ap length c.in_ok-push.ensures.ok, length-append c.loop-i.matches (c.match_of.result ∷ []));
  matches_are = matches_more c.args.kind c.args.old.now c.args.new.now c.loop-i.matches c.push.new.self c.loop-i.i c.match_of.result c.in_ok-push.ensures.ok c.loop-i.invariant.len c.match_of.ensures c.loop-i.invariant.matches_are;
}

pub returns : goal.returns
returns c = matches_all c.args.kind c.args.old.now c.args.new.now c.loop-i.matches c.loop-i.i (omega arith) c.loop-i.invariant.len c.loop-i.invariant.matches_are
