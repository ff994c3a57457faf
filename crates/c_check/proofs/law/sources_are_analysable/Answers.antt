use Rattle.c_check.proofs.Analysable.{source_analysable}
use Rattle.c_check.proofs.law.sources_are_analysable.Goals as goal

pub returns : goal.returns
returns c = source_analysable
