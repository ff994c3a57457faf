-- An operand that no operator follows is a whole expression.
use Rattle.std.proofs.Common.{zero, List}
use Rattle.c_parse.specs.declared.raw.expr.RawExpr.{RawExpr}
use Rattle.c_parse.specs.declared.terminal.Terminal.{Terminal}
use Rattle.c_parse.specs.Grammar as grammar
use Rattle.c_parse.specs.Grammar.{Nesting, EndsChain, ReadsLevel, top}

pub alone : {ts rest : List Terminal} {a b : Nesting} {e : RawExpr} → ReadsLevel zero a ts e rest b
    → EndsChain 0 rest → EndsChain 1 rest → EndsChain 2 rest → EndsChain 3 rest → EndsChain 4 rest → EndsChain 5 rest → ReadsLevel top a ts e rest b
alone d e0 e1 e2 e3 e4 e5 =
    grammar.chain (grammar.chain (grammar.chain (grammar.chain (grammar.chain (grammar.chain d (grammar.ends e0)) (grammar.ends e1)) (grammar.ends e2)) (grammar.ends e3)) (grammar.ends e4)) (grammar.ends e5)
