-- Readings of expressions, each derived by its productions. What tokens don't spell is refused by the tree that
-- they do spell, or by the machine.
use Rattle.std.proofs.Common.{refl, sym, ap, []}
use Rattle.readings_law.specs.Expressions.{ExpressionsSpell, ExpressionsDontSpell}
use Rattle.readings_law.proofs.Alone.{alone}
use Rattle.readings_law.proofs.Shapes.{expr_shape, number_shape, name_shape, binary_shape, call_shape}
use Rattle.c_parse.specs.Grammar as grammar
use Rattle.c_parse.proofs.Passing.{passes_level}
use Rattle.c_parse.proofs.Unique.{same_level}
use Rattle.c_parse.proofs.Fronts.{ends_well}

pub expressions_spell : ExpressionsSpell
expressions_spell = record {
  to_the_left = grammar.chain (grammar.chain (grammar.chain (grammar.chain (grammar.chain (grammar.chain (grammar.name (grammar.ident refl) (grammar.no_call refl)) (grammar.ends refl)) (grammar.more (grammar.operates refl) (grammar.chain (grammar.name (grammar.ident refl) (grammar.no_call refl)) (grammar.ends refl)) (grammar.more (grammar.operates refl) (grammar.chain (grammar.name (grammar.ident refl) (grammar.no_call refl)) (grammar.ends tt)) (grammar.ends tt)))) (grammar.ends tt)) (grammar.ends tt)) (grammar.ends tt)) (grammar.ends tt);
  prefix_first = grammar.chain (grammar.chain (grammar.chain (grammar.chain (grammar.chain (grammar.chain (grammar.negation (grammar.next refl) (grammar.name (grammar.ident refl) (grammar.no_call refl))) (grammar.ends refl)) (grammar.ends refl)) (grammar.ends refl)) (grammar.more (grammar.operates refl) (grammar.chain (grammar.chain (grammar.chain (grammar.name (grammar.ident refl) (grammar.no_call refl)) (grammar.ends tt)) (grammar.ends tt)) (grammar.ends tt)) (grammar.ends tt))) (grammar.ends tt)) (grammar.ends tt);
  loosest_outside = grammar.chain (grammar.chain (grammar.chain (grammar.chain (grammar.chain (grammar.chain (grammar.name (grammar.ident refl) (grammar.no_call refl)) (grammar.ends refl)) (grammar.ends refl)) (grammar.ends refl)) (grammar.ends refl)) (grammar.ends refl)) (grammar.more (grammar.operates refl) (grammar.chain (grammar.chain (grammar.chain (grammar.chain (grammar.chain (grammar.name (grammar.ident refl) (grammar.no_call refl)) (grammar.ends refl)) (grammar.ends refl)) (grammar.ends refl)) (grammar.ends refl)) (grammar.more (grammar.operates refl) (grammar.chain (grammar.chain (grammar.chain (grammar.chain (grammar.name (grammar.ident refl) (grammar.no_call refl)) (grammar.ends refl)) (grammar.ends refl)) (grammar.ends refl)) (grammar.more (grammar.operates refl) (grammar.chain (grammar.chain (grammar.chain (grammar.name (grammar.ident refl) (grammar.no_call refl)) (grammar.ends refl)) (grammar.ends refl)) (grammar.more (grammar.operates refl) (grammar.chain (grammar.chain (grammar.name (grammar.ident refl) (grammar.no_call refl)) (grammar.ends refl)) (grammar.more (grammar.operates refl) (grammar.chain (grammar.name (grammar.ident refl) (grammar.no_call refl)) (grammar.more (grammar.operates refl) (grammar.name (grammar.ident refl) (grammar.no_call refl)) (grammar.ends tt))) (grammar.ends tt))) (grammar.ends tt))) (grammar.ends tt))) (grammar.ends tt))) (grammar.ends tt));
  tightest_inside = grammar.chain (grammar.chain (grammar.chain (grammar.chain (grammar.chain (grammar.chain (grammar.name (grammar.ident refl) (grammar.no_call refl)) (grammar.more (grammar.operates refl) (grammar.name (grammar.ident refl) (grammar.no_call refl)) (grammar.ends refl))) (grammar.more (grammar.operates refl) (grammar.chain (grammar.name (grammar.ident refl) (grammar.no_call refl)) (grammar.ends refl)) (grammar.ends refl))) (grammar.more (grammar.operates refl) (grammar.chain (grammar.chain (grammar.name (grammar.ident refl) (grammar.no_call refl)) (grammar.ends refl)) (grammar.ends refl)) (grammar.ends refl))) (grammar.more (grammar.operates refl) (grammar.chain (grammar.chain (grammar.chain (grammar.name (grammar.ident refl) (grammar.no_call refl)) (grammar.ends refl)) (grammar.ends refl)) (grammar.ends refl)) (grammar.ends refl))) (grammar.more (grammar.operates refl) (grammar.chain (grammar.chain (grammar.chain (grammar.chain (grammar.name (grammar.ident refl) (grammar.no_call refl)) (grammar.ends refl)) (grammar.ends refl)) (grammar.ends refl)) (grammar.ends refl)) (grammar.ends refl))) (grammar.more (grammar.operates refl) (grammar.chain (grammar.chain (grammar.chain (grammar.chain (grammar.chain (grammar.name (grammar.ident refl) (grammar.no_call refl)) (grammar.ends tt)) (grammar.ends tt)) (grammar.ends tt)) (grammar.ends tt)) (grammar.ends tt)) (grammar.ends tt));
  plus_dropped = alone (grammar.minus (grammar.next refl) (grammar.group (grammar.next refl) (alone (grammar.plus (grammar.next refl) (grammar.name (grammar.ident refl) (grammar.no_call refl))) refl refl refl refl refl refl) (grammar.next refl))) tt tt tt tt tt tt;
  calls = grammar.chain (grammar.chain (grammar.chain (grammar.chain (grammar.chain (grammar.chain (grammar.name (grammar.ident refl) (grammar.call (grammar.next refl) (grammar.no_args (grammar.next refl)))) (grammar.more (grammar.operates refl) (grammar.name (grammar.ident refl) (grammar.call (grammar.next refl) (grammar.first_arg (alone (grammar.name (grammar.ident refl) (grammar.no_call refl)) refl refl refl refl refl refl) (grammar.next_arg (grammar.next refl) (alone (grammar.number (grammar.next refl)) refl refl refl refl refl refl) (grammar.last_arg (grammar.next refl)))))) (grammar.ends tt))) (grammar.ends tt)) (grammar.ends tt)) (grammar.ends tt)) (grammar.ends tt)) (grammar.ends tt);
}

pub expressions_dont_spell : ExpressionsDontSpell
expressions_dont_spell = record {
  to_the_right = λ n d. let same = ap expr_shape (same_level d expressions_spell.to_the_left refl).0 in let told = simp (binary_shape, name_shape) at same in cc;
  prefix_last = λ n d. let same = (same_level d expressions_spell.prefix_first refl).0 in cc;
  swapped = λ n d. let same = ap expr_shape (same_level d expressions_spell.calls refl).0 in let told = simp (binary_shape, call_shape, name_shape, number_shape) at same in cc;
  two_names = λ e end d. ends_well end.over _ (sym (passes_level d []));
  no_operand = λ e end d. ends_well end.over _ (sym (passes_level d []));
  unclosed = λ e end d. ends_well end.over _ (sym (passes_level d []));
  no_argument = λ e end d. ends_well end.over _ (sym (passes_level d []));
  no_comma = λ e end d. ends_well end.over _ (sym (passes_level d []));
  assignment = λ e end d. ends_well end.over _ (sym (passes_level d []));
  nothing = λ e end d. ends_well end.over _ (sym (passes_level d []));
}
