use Rattle.graph_law.proofs.Entering as entering
use Rattle.graph_law.proofs.law.new_frames_stand.Goals as goal

pub returns : goal.returns
returns c = entering.new_frames_stand
