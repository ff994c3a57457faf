use Rattle.std.proofs.Common.{rules, ap}
use Rattle.turn_lock.specs.Turn.{has_turn, is_spent}
use Rattle.turn_lock.proofs.Steps.{leaves}
use Rattle.turn_lock.proofs.lock.TurnLock.leave.Goals as goal

pub fetch_add-served-requires : goal.fetch_add-served-requires
fetch_add-served-requires g c =
    let known = c.requires.known in
    (search rules, search rules, rw known.1 (leaves g.B.Logged.kind g.B.Logged.log g.B.Logged.terms_of _ _ _ _ known.0 (ap has_turn c.requires.inside) (ap is_spent c.requires.inside) known.2 known.3))
