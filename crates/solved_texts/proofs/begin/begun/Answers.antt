use Rattle.std.proofs.Common.{◌≡◌, List, ◌∙◌, ap, subst, sym}
use Rattle.std.specs.Arc.{arc_value}
use Rattle.c_source.specs.declared.source.Source.{Source}
use Rattle.gob_tree.specs.declared.graph.Program.{Program}
use Rattle.gob_tree.specs.Formed.{IsFormed}
use Rattle.constraint_sys.proofs.SoundStart.{IsSound-initial}
use Rattle.constraint_sys.specs.Sound.{IsSound, IsTurnable}
use Rattle.constraint_sys.specs.Table.{TableValue}
use Rattle.constraint_sys.specs.Turn.{Solving, initial_dirty, initial_of, initial_table}
use Rattle.constraint_sys.specs.declared.unknown.Unknown.{Unknown}
use Rattle.solved_texts.proofs.begin.begun.Goals as goal

sound : (p q : Program) (t : TableValue) (dirty : List Unknown) → IsFormed p → q ≡ p → t ≡ initial_table q → dirty ≡ initial_dirty q → IsSound p (record { table = t; dirty = dirty })
sound p q t dirty formed is table_is dirty_is =
    let start : (record { table = t; dirty = dirty }) ≡ initial_of p = λ i. record { table = (table_is ∙ ap initial_table is) i; dirty = (dirty_is ∙ ap initial_dirty is) i } in
    subst (λ (s : Solving). IsSound p s) (sym start) (IsSound-initial p formed)

turnable : (p : Program) (s : Solving) → IsSound p s → IsTurnable p s
turnable p s whole = record { shaped = whole.shaped; dirty_points = whole.dirty_points }

pub returns-clause-turnable : goal.returns-clause-turnable
returns-clause-turnable c =
    let p = (arc_value c.args.source).program in
    turnable p _ (sound p c.program.result.now c.in_ok-table.table c.in_ok-table.dirty c.requires.formed (c.program.ensures ∙ ap (λ (s : Source). s.program) c.deref.ensures) c.in_ok-table.ensures.table c.in_ok-table.ensures.dirty)
