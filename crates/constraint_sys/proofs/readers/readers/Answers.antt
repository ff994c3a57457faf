use Rattle.std.proofs.Common.{arith}
use Rattle.constraint_sys.specs.Contribution.{read_by}
use Rattle.constraint_sys.specs.Reading.{HasCommon}
use Rattle.constraint_sys.proofs.Awakening.{reader_next, readers_all}
use Rattle.constraint_sys.proofs.readers.readers.Goals as goal

pub loop-i-preserved : goal.loop-i-preserved
loop-i-preserved c = λ q.
    reader_next c.args.table.now c.loop-i.i q (HasCommon c.args.rose.now (read_by c.args.program.now c.args.table.now q)) c.loop-i.found.items c.note_reader.new.found.items (c.in_ok-note_reader.ensures q) (c.loop-i.invariant q)

pub returns : goal.returns
returns c = λ q.
    readers_all c.args.table.now q (HasCommon c.args.rose.now (read_by c.args.program.now c.args.table.now q)) c.loop-i.i c.loop-i.found.items (omega (arith, c.loop-i-test.false, c.len-i-end.ensures.value)) (c.loop-i.invariant q)
