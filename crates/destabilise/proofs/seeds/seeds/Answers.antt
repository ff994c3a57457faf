use Rattle.std.proofs.Common.{◌↔◌}
use Rattle.constraint_sys.proofs.Ordered.{Contains-take_more}
use Rattle.destabilise.specs.Seeds.{IsSeed}
use Rattle.destabilise.proofs.Linking.{all_there, item_there}
use Rattle.destabilise.proofs.Marking.{kept_all, kept_more}
use Rattle.destabilise.proofs.seeds.seeds.Goals as goal

pub is_seed-requires-clause-mutexes : goal.is_seed-requires-clause-mutexes
is_seed-requires-clause-mutexes c = c.requires.mutexes c.u-item.result (item_there c.args.table.now c.in_ok-unknowns.unknowns.items c.as_slice-u-items.result.now c.in_ok-unknowns.ensures.all c.as_slice-u-items.ensures.value c.loop-u.u-index c.u-item.result c.loop-u-test.true c.u-item.is)

pub loop-u-preserved : goal.loop-u-preserved
loop-u-preserved c = λ v. kept_more (IsSeed c.args.matching.now c.args.from_main.now c.args.table.now) c.u-item.result v c.is_seed.result c.is_seed.ensures (c.in_ok-push_if.ensures v) (c.loop-u.invariant v) (Contains-take_more c.as_slice-u-items.result.now c.loop-u.u-index c.u-item.result v c.loop-u-test.true c.u-item.is)

pub returns : goal.returns
returns c = λ v. kept_all (c.loop-u.invariant v) (all_there c.args.table.now c.in_ok-unknowns.unknowns.items c.as_slice-u-items.result.now c.in_ok-unknowns.ensures.all c.as_slice-u-items.ensures.value c.loop-u.u-index c.loop-u-test.false v)
