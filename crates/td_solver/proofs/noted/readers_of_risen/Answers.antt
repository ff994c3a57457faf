use Rattle.std.proofs.Common.{◌↔◌, List, sym, subst}
use Rattle.std.specs.Prelude.{Contains}
use Rattle.constraint_sys.specs.Turn.{Rose, Solving, table_after}
use Rattle.constraint_sys.specs.declared.unknown.Unknown.{Unknown}
use Rattle.constraint_sys.proofs.Fellows.{if_ok}
use Rattle.td_solver.proofs.Keeping.{awake_reads, reads_awake}
use Rattle.td_solver.proofs.noted.readers_of_risen.Goals as goal

pub returns-clause-readers : goal.returns-clause-readers
returns-clause-readers c = λ q.
    let p = c.args.program.now in
    let t = c.args.table.now in
    let u = c.args.u.now in
    let s : Solving = record { table = t; dirty = c.args.dirty.now } in
    let rises : (r : Unknown) → Contains c.as_slice.result.now r ↔ Rose t (table_after p t u) r =
    λ r. subst (λ (l : List Unknown). Contains l r ↔ Rose t (table_after p t u) r) (sym c.as_slice.ensures.value) (c.in_ok-rose.ensures r) in
    if_ok c.awakened.result _ _ (λ us told. awake_reads p s u c.args.index.now c.requires.noted c.requires.own c.as_slice.result.now us.items rises q told) (c.awakened.ensures q)

pub returns-clause-all_readers : goal.returns-clause-all_readers
returns-clause-all_readers c = λ q.
    let p = c.args.program.now in
    let t = c.args.table.now in
    let u = c.args.u.now in
    let s : Solving = record { table = t; dirty = c.args.dirty.now } in
    let rises : (r : Unknown) → Contains c.as_slice.result.now r ↔ Rose t (table_after p t u) r =
    λ r. subst (λ (l : List Unknown). Contains l r ↔ Rose t (table_after p t u) r) (sym c.as_slice.ensures.value) (c.in_ok-rose.ensures r) in
    if_ok c.awakened.result _ _ (λ us told. reads_awake p s u c.args.index.now c.requires.noted c.requires.own c.as_slice.result.now us.items rises q told) (c.awakened.ensures q)
