use Rattle.hoist_law.proofs.Pieces as pieces
use Rattle.hoist_law.proofs.law.pieces_are_within.Goals as goal

pub returns : goal.returns
returns c = pieces.pieces_are_within
