use Rattle.std.proofs.Common.{◌++◌}
use Rattle.dap_frame.specs.declared.header.Header.TheVariants.{Open}
use Rattle.dap_frame.specs.Header.{nothing_said}
use Rattle.dap_frame.specs.Framing.{end_of}
use Rattle.dap_frame.proofs.Readings.{reads_one}
use Rattle.dap_frame.proofs.laws.pieces_do_not_matter.Goals as goal

pub returns : goal.returns
returns c = λ f g stream taken others here there.
    reads_one 0 (Open nothing_said) stream (taken ++ f.messages) (others ++ g.messages) (end_of f) (end_of g) here.so_far there.so_far
