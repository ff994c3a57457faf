use Rattle.std.proofs.Common.{subst, sym, ◌∙◌}
use Rattle.c_parse.specs.Unsigned.{AreUnsigned}
use Rattle.c_parse.proofs.Unsigned.{texts_are}
use Rattle.c_parse.proofs.unit_text.parse.Goals as goal

pub terminals_of-requires : goal.terminals_of-requires
terminals_of-requires c = c.one_cut.ensures.inside c.args.text.now c.args.tokens.now c.requires

pub unit-requires : goal.unit-requires
unit-requires c =
    subst AreUnsigned (sym (c.as_slice-all.ensures ∙ c.in_ok-terminals.ensures))
    (texts_are c.args.text.now c.args.tokens.now (c.one_cut.ensures.inside c.args.text.now c.args.tokens.now c.requires))
