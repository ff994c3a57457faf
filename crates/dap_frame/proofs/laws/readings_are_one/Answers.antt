use Rattle.dap_frame.specs.declared.header.Header.TheVariants.{Open}
use Rattle.dap_frame.specs.Header.{nothing_said}
use Rattle.dap_frame.proofs.Readings.{reads_one}
use Rattle.dap_frame.proofs.laws.readings_are_one.Goals as goal

pub returns : goal.returns
returns c = λ stream contents others end other. reads_one 0 (Open nothing_said) stream contents others end other
