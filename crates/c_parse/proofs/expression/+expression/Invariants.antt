use Rattle.std.proofs.Common.{◌≤◌, ◌<◌, ◌+◌, ◌*◌, List, length}
use Rattle.c_parse.specs.declared.terminal.Terminal.{Terminal}
use Rattle.c_parse.specs.declared.raw.expr.RawExpr.{RawExpr}
use Rattle.c_parse.specs.Machine as machine
use Rattle.c_parse.specs.Grammar.{Nesting, within, ReadsLevel, ReadsChain}
use Rattle.c_parse.proofs.Descent.{GoesOn, RunsOn}
use Rattle.c_parse.proofs.expression.+expression.Given as goal

abbrev pub decreases-chain : goal.decreases-chain
decreases-chain l = 16 * length l.tokens.now

abbrev pub decreases-level : goal.decreases-level
decreases-level l = 16 * length l.tokens.now + 1 + l.level

abbrev pub invariant-level-loop-below : goal.invariant-level-loop-below
invariant-level-loop-below l = record {
  reads : ReadsLevel l.below (within l.fn.count) l.fn.tokens l.left l.rest (within l.operators);
  short : length l.rest < length l.fn.tokens;
  few : l.operators ≤ 64;
}

abbrev pub decreases-operand : goal.decreases-operand
decreases-operand l = 16 * length l.tokens.now

abbrev pub invariant-chain-loop-token : goal.invariant-chain-loop-token
invariant-chain-loop-token l = record {
  reads : (e : RawExpr) (left : List Terminal) (b : Nesting) → ReadsChain l.level l.left (within l.count) l.rest e left b → ReadsChain l.level l.fn.first (within l.fn.operators) l.fn.tokens e left b;
  runs : RunsOn (machine.Part.chain l.level) (within l.fn.operators) l.fn.tokens (within l.count) l.rest;
  short : length l.rest ≤ length l.fn.tokens;
  few : l.count ≤ 64;
}

abbrev pub decreases-chain-loop-token : goal.decreases-chain-loop-token
decreases-chain-loop-token l = length l.rest

abbrev pub decreases-call : goal.decreases-call
decreases-call l = 16 * length l.tokens.now

abbrev pub decreases-args : goal.decreases-args
decreases-args l = 16 * length l.tokens.now + 8

abbrev pub decreases-more_args : goal.decreases-more_args
decreases-more_args l = 16 * length l.tokens.now

abbrev pub invariant-more_args-loop-token : goal.invariant-more_args-loop-token
invariant-more_args-loop-token l = record {
  reads : GoesOn l.alone l.fn.front (within l.fn.operators) l.fn.tokens l.list (within l.count) l.rest;
  runs : RunsOn (machine.Part.more_args l.alone) (within l.fn.operators) l.fn.tokens (within l.count) l.rest;
  short : length l.rest ≤ length l.fn.tokens;
  few : l.count ≤ 64;
}

abbrev pub decreases-more_args-loop-token : goal.decreases-more_args-loop-token
decreases-more_args-loop-token l = length l.rest
