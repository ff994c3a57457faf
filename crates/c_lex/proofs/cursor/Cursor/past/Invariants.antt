use Rattle.std.proofs.Common.{◌-◌, ◌≤◌}
use Rattle.c_lex.specs.Cursors.{StandsIn}
use Rattle.c_lex.proofs.cursor.Cursor.past.Given as goal

abbrev pub invariant-loop-cursor : goal.invariant-loop-cursor
invariant-loop-cursor l = record {
  within : l.cursor.at ≤ l.end;
  stands : StandsIn l.text l.cursor;
}

abbrev pub decreases-loop-cursor : goal.decreases-loop-cursor
decreases-loop-cursor l = l.end - l.cursor.at
