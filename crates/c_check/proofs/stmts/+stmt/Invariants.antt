use Rattle.std.proofs.Common.{drop}
use Rattle.c_check.proofs.Sequences.{From}
use Rattle.c_check.proofs.stmts.«+stmt».Given as goal

abbrev pub invariant-sequence-loop-one : goal.invariant-sequence-loop-one
invariant-sequence-loop-one l = From l.file l.in_loop l.fn.raw (drop l.one-index l.raw) l.fn.body l.body l.list
