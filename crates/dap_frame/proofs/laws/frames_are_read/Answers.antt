use Rattle.dap_frame.proofs.Frames.{reads_frames}
use Rattle.dap_frame.proofs.laws.frames_are_read.Goals as goal

pub returns : goal.returns
returns c = reads_frames 0
