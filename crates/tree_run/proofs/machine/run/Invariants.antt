use Rattle.std.proofs.Common.{◌≡◌, ◌+◌, ◌++◌, ◌≤◌, length, drop}
use Rattle.c_meaning.specs.Tree.{first_tree}
use Rattle.c_meaning.specs.Run.{words_of, left_by}
use Rattle.tree_run.proofs.machine.run.Given as goal

abbrev pub invariant-loop-choice : goal.invariant-loop-choice
invariant-loop-choice l = record {
  words : l.steps ++ words_of l.unit l.machine (drop l.choice-index l.choices) ≡ words_of l.unit (first_tree l.unit) l.choices;
  last : left_by l.unit l.machine (drop l.choice-index l.choices) ≡ left_by l.unit (first_tree l.unit) l.choices;
  few : length l.machine.threads ≤ l.choice-index + 1;
}
