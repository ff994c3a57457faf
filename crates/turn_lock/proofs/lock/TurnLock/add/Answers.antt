use Rattle.std.proofs.Common.{rules, ap}
use Rattle.turn_lock.specs.Turn.{has_turn}
use Rattle.turn_lock.proofs.Steps.{adds}
use Rattle.turn_lock.proofs.lock.TurnLock.add.Goals as goal

pub fetch_add-requires : goal.fetch_add-requires
fetch_add-requires g c = let one = c.requires.one in (search rules, search rules, rw one.2 (adds g.B.Logged.kind g.B.Logged.log g.B.Logged.terms_of _ _ _ _ one.0 one.1 (ap has_turn c.requires.inside) one.3 one.4 one.5))
