use Rattle.std.proofs.Common.{◌↔◌}
use Rattle.destabilise.proofs.Linking.{all_there}
use Rattle.destabilise.proofs.Marking.{listed_more, none_marked_more}
use Rattle.destabilise.proofs.marks.Marks.none.Goals as goal

pub loop-u-preserved : goal.loop-u-preserved
loop-u-preserved c = record {
  there = listed_more c.as_slice-u-items.result.now c.loop-u.u-index c.u-item.result c.loop-u.map.entries c.put.new.map.entries c.loop-u-test.true c.u-item.is c.in_ok-put.ensures c.loop-u.invariant.there;
  none = none_marked_more c.loop-u.map.entries c.put.new.map.entries c.u-item.result c.in_ok-put.ensures c.loop-u.invariant.none;
}

pub returns-clause-there : goal.returns-clause-there
returns-clause-there c = λ v.
    let all = all_there c.args.table.now c.in_ok-unknowns.unknowns.items c.as_slice-u-items.result.now c.in_ok-unknowns.ensures.all c.as_slice-u-items.ensures.value c.loop-u.u-index c.loop-u-test.false v in
    (λ one. all.0 ((c.loop-u.invariant.there v).0 one), λ there. (c.loop-u.invariant.there v).1 (all.1 there))
