use Rattle.constraint_sys.proofs.Turning.{Grows-turn}
use Rattle.constraint_sys.proofs.law.turns_only_raise.Goals as goal

pub returns : goal.returns
returns c = λ p old u new r v formed turnable turn bounded.
    (Grows-turn p formed old new u turn turnable.shaped (turnable.dirty_points u turn.was_dirty)).bounds r v bounded
