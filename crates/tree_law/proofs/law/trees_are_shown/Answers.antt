use Rattle.tree_law.proofs.Showing as showing
use Rattle.tree_law.proofs.law.trees_are_shown.Goals as goal

pub returns : goal.returns
returns c = showing.trees_are_shown
