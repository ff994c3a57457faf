use Rattle.std.proofs.Common.{◌↔◌, drop}
use Rattle.constraint_sys.specs.Contribution.{edges_into, reads_of}
use Rattle.constraint_sys.specs.Index.{picked}
use Rattle.constraint_sys.specs.Reading.{HasCommon}
use Rattle.constraint_sys.proofs.readers.point_reads_any.Given as goal

abbrev pub invariant-loop-i : goal.invariant-loop-i
invariant-loop-i l =
    HasCommon l.rose (reads_of l.program l.table l.point.func l.point.key (picked l.edges (drop l.i-index l.i-items)))
    ↔ HasCommon l.rose (reads_of l.program l.table l.point.func l.point.key (edges_into l.program l.point.func l.point.node))
