use Rattle.std.proofs.Common.{List, ap, ◌∙◌}
use Rattle.constraint_sys.specs.Turn.{Solving}
use Rattle.constraint_sys.specs.declared.unknown.Unknown.{Unknown}
use Rattle.dep_index.specs.Noted.{noted}
use Rattle.td_solver.proofs.Keeping.{IsNoted-noted}
use Rattle.td_solver.proofs.noted.note_turned.Goals as goal

pub returns-clause-noted : goal.returns-clause-noted
returns-clause-noted c =
    let p = c.args.program.now in
    let u = c.args.u.now in
    let s : Solving = record { table = c.args.table.now; dirty = c.args.dirty.now } in
    let can = c.requires.turnable.dirty_points u c.requires.is_dirty in
    IsNoted-noted p s u c.args.index.now c.note.new.self c.requires.noted c.requires.is_dirty can
    (λ q. c.in_ok-note.ensures.ok q ∙ ap (λ (l : List Unknown). noted c.args.index.now u l q) (c.as_slice.ensures ∙ c.in_ok-plan.ensures.reads))
