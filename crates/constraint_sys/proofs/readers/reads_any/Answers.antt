use Rattle.std.proofs.Common.{◌≡◌, ◌↔◌, ◌∙◌, List, sym, ap, subst, arith}
use Rattle.std.specs.Prelude.{IfOk, IsTrue}
use Rattle.constraint_sys.specs.Contribution.{edges_into, read_by, reads_of}
use Rattle.constraint_sys.specs.Reading.{HasCommon}
use Rattle.constraint_sys.specs.Table.{IsThere}
use Rattle.constraint_sys.specs.declared.unknown.Unknown.{Unknown}
use Rattle.constraint_sys.proofs.ReadBy.{read_by-inner}
use Rattle.constraint_sys.proofs.Rooms.{there_within}
use Rattle.constraint_sys.proofs.readers.reads_any.Goals as goal

pub point_reads_any-requires-clause-in_range : goal.point_reads_any-requires-clause-in_range
point_reads_any-requires-clause-in_range c =
    there_within c.args.program.now c.args.table.now c.in-Point.func c.in-Point.key c.in-Point.node c.requires.shaped
    (subst (λ (u : Unknown). IsThere c.args.table.now u) c.in-Point.is c.requires.there)

pub returns-in-Point : goal.returns-in-Point
returns-in-Point c =
    let p = c.args.program.now in
    let t = c.args.table.now in
    let f = c.in-Point.func in
    let key = c.in-Point.key in
    let node = c.in-Point.node in
    let reads : reads_of p t f key (edges_into p f node) ≡ read_by p t c.args.q.now = sym (read_by-inner p t f key node (omega (arith, c.if-node-gt0.true))) ∙ ap (read_by p t) (sym c.in-Point.is) in
    subst (λ (l : List Unknown). IfOk c.point_reads_any.result (λ yes. IsTrue yes ↔ HasCommon c.args.rose.now l)) reads c.point_reads_any.ensures
