use Rattle.dap_frame.proofs.Readings.{some_reading}
use Rattle.dap_frame.proofs.laws.streams_are_read.Goals as goal

pub returns : goal.returns
returns c = some_reading
