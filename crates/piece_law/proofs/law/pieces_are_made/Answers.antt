use Rattle.piece_law.proofs.Making as making
use Rattle.piece_law.proofs.law.pieces_are_made.Goals as goal

pub returns-clause-made : goal.returns-clause-made
returns-clause-made c = making.pieces_are_made

pub returns-clause-exits : goal.returns-clause-exits
returns-clause-exits c = making.nothing_leaves_exits
