use Rattle.gob_tree.proofs.WellMadeProofs as proofs
use Rattle.gob_tree.proofs.examples.formed_by_hand.Goals as goal

pub returns-clause-int_main : goal.returns-clause-int_main
returns-clause-int_main c = proofs.int_main_formed

pub returns-clause-long_main : goal.returns-clause-long_main
returns-clause-long_main c = proofs.long_main_refused
