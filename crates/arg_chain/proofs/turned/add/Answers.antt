use Rattle.arg_chain.proofs.Turning.{added}
use Rattle.arg_chain.proofs.turned.add.Goals as goal

pub returns-clause-members : goal.returns-clause-members
returns-clause-members c = added c.args.rows.now.items c.args.w c.args.u c.index_mut.result.now c.push.new.self c.requires c.index_mut.ensures.value c.in_ok-push.ensures.items
