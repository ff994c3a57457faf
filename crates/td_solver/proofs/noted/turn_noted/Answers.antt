use Rattle.constraint_sys.specs.Turn.{Solving}
use Rattle.td_solver.proofs.Keeping.{IsNoted-turned}
use Rattle.td_solver.proofs.noted.turn_noted.Goals as goal

pub returns-clause-noted : goal.returns-clause-noted
returns-clause-noted c =
    let old : Solving = record { table = c.args.table.now; dirty = c.args.dirty.now } in
    let new : Solving = record { table = c.turn_by.new.table; dirty = c.turn_by.new.dirty } in
    IsNoted-turned c.args.program.now c.requires.formed old new c.args.u.now c.in_ok-turn_by.ensures.turned c.requires.turnable c.note_turned.new.index c.in_ok-plan.ensures.noted c.in_ok-plan.ensures.own
