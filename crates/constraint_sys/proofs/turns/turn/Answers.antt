use Rattle.std.proofs.Common.{inl}
use Rattle.constraint_sys.proofs.turns.turn.Goals as goal

pub turn_by-requires-clause-readers : goal.turn_by-requires-clause-readers
turn_by-requires-clause-readers c = λ q one. (c.in_ok-awake.ensures q).0 one

pub turn_by-requires-clause-all_readers : goal.turn_by-requires-clause-all_readers
turn_by-requires-clause-all_readers c = λ q reads. inl ((c.in_ok-awake.ensures q).1 reads)
