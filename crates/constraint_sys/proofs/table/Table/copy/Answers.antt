use Rattle.std.proofs.Common.{sym, subst, arith, true≢false}
use Rattle.std.specs.Option.{IsSome}
use Rattle.constraint_sys.proofs.Copied.{insert_entry-take}
use Rattle.constraint_sys.specs.Table.{unknown_eq}
use Rattle.constraint_sys.specs.contracts.unknown.UnknownEq.TheImpl.Laws.{laws-law}
use Rattle.constraint_sys.proofs.table.Table.copy.Goals as goal
use Rattle.constraint_sys.proofs.table.Table.copy.Goals.{in-Some+in_ok-v+in_ok-put, in_default}

pub loop-i-preserved : goal.loop-i-preserved
loop-i-preserved c =
    elim c.match-get_index.branch [
      | in-Some+in_ok-v+in_ok-put w ↦
          let step = insert_entry-take unknown_eq laws-law c.self.inside.map.entries c.loop-i.i w.in-Some.u.now w.in-Some.v.now c.len-i-end.ensures.unique (sym w.in-Some.ensures.entry) in
          cc (step, w.in_ok-put.ensures.put, w.in_ok-v.ensures, w.map-is, c.loop-i.invariant, c.self.view_is)
      | in_default w ↦ absurd (true≢false (sym (subst IsSome w.in_default.is (c.get_index.ensures.found.1 (omega arith)))))
    ]
