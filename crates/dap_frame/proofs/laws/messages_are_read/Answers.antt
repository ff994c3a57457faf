use Rattle.dap_frame.proofs.Spellings.{reads_messages}
use Rattle.dap_frame.proofs.laws.messages_are_read.Goals as goal

pub returns : goal.returns
returns c = reads_messages 0
