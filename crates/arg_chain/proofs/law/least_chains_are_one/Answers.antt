use Rattle.arg_chain.proofs.OneLeast as least
use Rattle.arg_chain.proofs.law.least_chains_are_one.Goals as goal

pub returns : goal.returns
returns c = least.least_chains_are_one
