use Rattle.std.proofs.Common.{◌≡◌, ◌+◌, take, get_or, arith}
use Rattle.std.specs.Prelude.{Contains}
use Rattle.std.proofs.lemmas.List.Elements.{Contains-get_or}
use Rattle.arg_chain.proofs.Spreading.{Contains-more, spreads_more}
use Rattle.arg_chain.proofs.distances.reach_each.Goals as goal

pub reach-requires : goal.reach-requires
reach-requires c = omega (arith, c.requires _ (Contains-get_or c.args.us.now c.loop-u.u-index 0 c.loop-u-test.true), c.loop-u.invariant.len)

pub loop-u-preserved : goal.loop-u-preserved
loop-u-preserved c =
    let us = c.args.us.now in
    let i = c.loop-u.u-index in
    spreads_more c.args.known.now.items c.args.next.now.items c.args.level (Contains (take i us)) (λ x. x ≡ get_or us i 0) (Contains (take (i + 1) us))
    c.loop-u.known.items c.reach.new.known.items c.loop-u.next.items c.reach.new.next.items c.loop-u.invariant c.in_ok-reach.ensures (Contains-more us i c.loop-u-test.true)
