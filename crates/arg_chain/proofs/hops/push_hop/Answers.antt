use Rattle.arg_chain.proofs.Rows.{hop_pushed}
use Rattle.arg_chain.proofs.hops.push_hop.Goals as goal

pub returns-clause-more : goal.returns-clause-more
returns-clause-more c = hop_pushed c.args.rows.now.items c.args.from c.args.hop c.index_mut.result.now c.push.new.self c.requires c.index_mut.ensures.value c.in_ok-push.ensures.items
