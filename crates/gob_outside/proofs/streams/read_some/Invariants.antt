use Rattle.std.specs.Io.KnownBytes.{Keeps}
use Rattle.gob_outside.proofs.streams.read_some.Given as goal

-- an interrupted read took nothing
abbrev pub invariant-loop : goal.invariant-loop
invariant-loop g l = Keeps (g.R.Read.remaining l.initial.stream) (g.R.Read.remaining l.stream)
