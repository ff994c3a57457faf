use Rattle.std.proofs.Common.{arith, refl}
use Rattle.c_lex.proofs.Finds.{finds_block, finds_unclosed}
use Rattle.c_lex.proofs.piece.comment_at.Goals as goal

pub returns-then-rest-i-eq47 : goal.returns-then-rest-i-eq47
returns-then-rest-i-eq47 c =
    finds_block c.args.leads c.args.rest.now c.loop-i.i _ c.requires.first c.requires.second (omega arith) c.loop-i-test.true c.if-rest-i-eq42.true c.if-rest-i-eq47.true c.loop-i.invariant refl refl

pub returns : goal.returns
returns c =
    finds_unclosed c.args.leads c.args.rest.now _ c.requires.first c.requires.second (λ k least lt. c.loop-i.invariant k least (omega arith)) refl refl
