use Rattle.piece_law.proofs.Plain as plain
use Rattle.piece_law.proofs.law.unrolled_fronts_stay.Goals as goal

pub returns : goal.returns
returns c = plain.unrolled_fronts_stay
