use Rattle.constraint_sys.proofs.Turning.{IsTurnable-turned}
use Rattle.constraint_sys.proofs.law.turns_keep_turnable.Goals as goal

pub returns : goal.returns
returns c = λ p old u new formed turnable turn. IsTurnable-turned p formed old u new turnable turn
