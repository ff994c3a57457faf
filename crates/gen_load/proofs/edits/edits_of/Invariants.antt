use Rattle.std.proofs.Common.{◌≡◌}
use Rattle.gen_load.specs.Drawing.{choices}
use Rattle.gen_load.specs.Generated.{after_edits, edit_texts}
use Rattle.gen_load.proofs.edits.edits_of.Given as goal

abbrev pub invariant-loop-edit : goal.invariant-loop-edit
invariant-loop-edit l = record {
  drawn : l.choices.items ≡ after_edits l.fn.functions (choices l.fn.number l.fn.functions) l.edit;
  written : l.texts ≡ edit_texts l.fn.functions (choices l.fn.number l.fn.functions) l.edit;
}
