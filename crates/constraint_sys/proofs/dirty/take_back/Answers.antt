use Rattle.std.proofs.Common.{◌+◌, take}
use Rattle.constraint_sys.proofs.DirtySet.{out_step}
use Rattle.constraint_sys.proofs.Ordered.{Contains-take_all, Contains-take_more}
use Rattle.constraint_sys.proofs.dirty.take_back.Goals as goal

pub loop-u-preserved : goal.loop-u-preserved
loop-u-preserved c =
    let i = c.loop-u.u-index in
    let added = c.args.added.now in
    record {
      members = λ q. out_step c.args.points.now.keys c.loop-u.points.keys c.take_out.new.points.keys (take i added) (take (i + 1) added) c.u-item.result q
          (c.take_out.ensures.members q) (Contains-take_more added i c.u-item.result q c.loop-u-test.true c.u-item.is) (c.loop-u.invariant.members q);
      ascending = c.take_out.ensures.ascending;
    }

pub returns-clause-members : goal.returns-clause-members
returns-clause-members c = λ q.
    let all = Contains-take_all c.args.added.now c.loop-u.u-index q c.loop-u-test.false in
    let last = c.loop-u.invariant.members q in
    (λ one. ((last.0 one).0, λ b. (last.0 one).1 (all.1 b)), λ both. last.1 (both.0, λ b. both.1 (all.0 b)))
