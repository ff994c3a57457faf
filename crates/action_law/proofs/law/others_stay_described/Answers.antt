use Rattle.action_law.proofs.Others as others
use Rattle.action_law.proofs.law.others_stay_described.Goals as goal

pub returns-clause-frames : goal.returns-clause-frames
returns-clause-frames c = others.others_keep_frames

pub returns-clause-described : goal.returns-clause-described
returns-clause-described c = others.others_stay_described
