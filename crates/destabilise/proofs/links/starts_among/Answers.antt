use Rattle.std.proofs.Common.{◌↔◌}
use Rattle.constraint_sys.proofs.Ordered.{Contains-take_all, Contains-take_more}
use Rattle.destabilise.specs.Linked.{IsStart}
use Rattle.destabilise.proofs.Marking.{kept_all, kept_more}
use Rattle.destabilise.proofs.links.starts_among.Goals as goal

pub loop-u-preserved : goal.loop-u-preserved
loop-u-preserved c = λ v. kept_more IsStart c.u-item.result v c.is_start.result c.is_start.ensures (c.in_ok-push_if.ensures v) (c.loop-u.invariant v) (Contains-take_more c.args.us.now c.loop-u.u-index c.u-item.result v c.loop-u-test.true c.u-item.is)

pub returns : goal.returns
returns c = λ v. kept_all (c.loop-u.invariant v) (Contains-take_all c.args.us.now c.loop-u.u-index v c.loop-u-test.false)
