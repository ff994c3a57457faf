use Rattle.std.proofs.Common.{rules}
use Rattle.turn_lock.proofs.Passes.{hears}
use Rattle.turn_lock.proofs.lock.TurnLock.listen.Goals as goal

pub load-found-requires : goal.load-found-requires
load-found-requires g c = (search rules, search rules, hears g.B.Logged.kind g.B.Logged.log g.B.Logged.terms_of _ _ _ _)
