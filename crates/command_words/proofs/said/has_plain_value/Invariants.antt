use Rattle.std.proofs.Common.{◌≡◌, drop}
use Rattle.command_words.specs.Reading.{value_after}
use Rattle.command_words.proofs.said.has_plain_value.Given as goal

abbrev pub invariant-loop-i : goal.invariant-loop-i
invariant-loop-i l = value_after (drop l.i l.rest) ≡ value_after l.rest
