use Rattle.arg_chain.proofs.Rows.{roots_all, roots_more}
use Rattle.std.proofs.Common.{length}
use Rattle.arg_chain.proofs.roots.roots.Goals as goal

pub loop-v-preserved : goal.loop-v-preserved
loop-v-preserved c = λ r. roots_more c.args.program.now c.args.vertices.now c.args.hops.now.numbers.entries (length c.args.vertices.now) c.loop-v.v-index c.v-item.result c.loop-v-test.true c.v-item.is c.loop-v.roots.items c.push_root.new.roots.items r (c.in_ok-push_root.ensures r) (c.loop-v.invariant r)

pub returns : goal.returns
returns c = λ r. roots_all c.args.program.now c.args.vertices.now c.args.hops.now.numbers.entries (length c.args.vertices.now) c.loop-v.v-index c.loop-v-test.false c.loop-v.roots.items r (c.loop-v.invariant r)
