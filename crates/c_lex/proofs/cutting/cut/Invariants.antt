use Rattle.std.proofs.Common.{◌-◌, length}
use Rattle.c_lex.specs.Cursors.{StandsIn}
use Rattle.c_lex.proofs.Cut.{IsCutTo}
use Rattle.c_lex.proofs.cutting.cut.Given as goal

-- the text before the cursor is cut into the tokens so far
abbrev pub invariant-loop-cursor : goal.invariant-loop-cursor
invariant-loop-cursor l = record {
  stands : StandsIn l.text l.cursor;
  cut : IsCutTo l.text l.cursor.at l.tokens.items;
}

abbrev pub decreases-loop-cursor : goal.decreases-loop-cursor
decreases-loop-cursor l = length l.text - l.cursor.at
