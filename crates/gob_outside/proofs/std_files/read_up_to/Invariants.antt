use Rattle.std.proofs.Common.{◌-◌, ◌+◌, length}
use Rattle.std.specs.Io.KnownBytes.{Consumes}
use Rattle.gob_outside.proofs.std_files.read_up_to.Given as goal

-- the bytes so far are those that the reader gave
abbrev pub invariant-loop-chunk : goal.invariant-loop-chunk
invariant-loop-chunk g l = Consumes (g.F.Read.remaining l.initial.from) (g.F.Read.remaining l.from) l.bytes.items

abbrev pub decreases-loop-chunk : goal.decreases-loop-chunk
decreases-loop-chunk g l = l.fn.limit + 1 - length l.bytes.items
