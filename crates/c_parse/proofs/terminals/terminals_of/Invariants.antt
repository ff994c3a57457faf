use Rattle.std.proofs.Common.{◌≡◌, take}
use Rattle.c_parse.specs.Terminals as spec
use Rattle.c_parse.proofs.terminals.terminals_of.Given as goal

abbrev pub invariant-loop-token : goal.invariant-loop-token
invariant-loop-token l = l.all.items ≡ spec.terminals_of l.text (take l.token-index l.tokens)
