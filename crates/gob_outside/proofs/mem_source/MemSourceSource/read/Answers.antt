use Rattle.std.proofs.Common.{length}
use Rattle.gob_outside.proofs.Steps.{read_is_step}
use Rattle.gob_outside.proofs.mem_source.MemSourceSource.read.Goals as goal

pub returns-clause-step : goal.returns-clause-step
returns-clause-step c =
    read_is_step c.args.self.now c.read_piece.new.self (length c.args.into.now) c.read_piece.result
    c.read_piece.ensures.never_falls c.read_piece.ensures.ends_never_fall c.read_piece.ensures.state
