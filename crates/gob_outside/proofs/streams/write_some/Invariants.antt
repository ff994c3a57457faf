use Rattle.std.specs.Io.KnownBytes.{Keeps}
use Rattle.gob_outside.proofs.streams.write_some.Given as goal

-- an interrupted write wrote nothing
abbrev pub invariant-loop : goal.invariant-loop
invariant-loop g l = Keeps (g.W.Write.contents l.initial.stream) (g.W.Write.contents l.stream)
