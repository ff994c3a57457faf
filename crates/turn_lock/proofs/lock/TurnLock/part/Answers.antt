use Rattle.std.proofs.Common.{rules, ap}
use Rattle.turn_lock.specs.declared.logged.Role.TheVariants.{Opener, Hand, Worker}
use Rattle.turn_lock.specs.Turn.{is_spent}
use Rattle.turn_lock.proofs.Passes.{splits}
use Rattle.turn_lock.proofs.lock.TurnLock.part.Goals as goal

pub split_seat-requires : goal.split_seat-requires
split_seat-requires g c = (search rules, search rules, splits g.B.Logged.kind g.B.Logged.log g.B.Logged.terms_of _ _ Opener _ (ap is_spent c.requires.outside))

pub split_seat-requires-in-Hand : goal.split_seat-requires-in-Hand
split_seat-requires-in-Hand g c = (search rules, search rules, splits g.B.Logged.kind g.B.Logged.log g.B.Logged.terms_of _ _ Hand _ (ap is_spent c.requires.outside))

pub split_seat-requires-in-Worker : goal.split_seat-requires-in-Worker
split_seat-requires-in-Worker g c = (search rules, search rules, splits g.B.Logged.kind g.B.Logged.log g.B.Logged.terms_of _ _ Worker _ (ap is_spent c.requires.outside))
