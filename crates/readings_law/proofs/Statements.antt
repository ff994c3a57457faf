-- Readings of statements, each derived by its productions. What tokens don't spell is refused by the list that
-- they do spell, or by the machine.
use Rattle.std.proofs.Common.{refl, sym, ap, []}
use Rattle.readings_law.specs.Statements.{StatementsSpell, StatementsDontSpell}
use Rattle.readings_law.proofs.Alone.{alone}
use Rattle.readings_law.proofs.Shapes.{name_shape, binary_shape, first_parts, parts_of_if, parts_of_else, parts_without_first, parts_with_first, first_assigned, assigned_value}
use Rattle.c_parse.specs.Grammar as grammar
use Rattle.c_parse.proofs.Passing.{passes_items}
use Rattle.c_parse.proofs.UniqueStatement.{same_items}
use Rattle.c_parse.proofs.Fronts.{ends_well}

pub statements_spell : StatementsSpell
statements_spell = record {
  assigned = grammar.one_stmt (grammar.stmt (grammar.simple (grammar.named (grammar.ident refl) (grammar.assigned (grammar.next refl) (grammar.whole (alone (grammar.number (grammar.next refl)) refl refl refl refl refl refl)))) (grammar.next refl))) (grammar.one_stmt (grammar.stmt (grammar.simple (grammar.named (grammar.ident refl) (grammar.stepped (grammar.next refl))) (grammar.next refl))) (grammar.one_stmt (grammar.stmt (grammar.simple (grammar.step (grammar.next refl) (grammar.ident refl)) (grammar.next refl))) (grammar.close (grammar.next refl))));
  updated = grammar.one_stmt (grammar.stmt (grammar.simple (grammar.named (grammar.ident refl) (grammar.updated (grammar.next refl) (grammar.whole (grammar.chain (grammar.chain (grammar.chain (grammar.chain (grammar.chain (grammar.chain (grammar.name (grammar.ident refl) (grammar.no_call refl)) (grammar.ends refl)) (grammar.more (grammar.operates refl) (grammar.chain (grammar.name (grammar.ident refl) (grammar.no_call refl)) (grammar.ends refl)) (grammar.ends refl))) (grammar.ends refl)) (grammar.ends refl)) (grammar.ends refl)) (grammar.ends refl))))) (grammar.next refl))) (grammar.close (grammar.next refl));
  called = grammar.one_stmt (grammar.stmt (grammar.simple (grammar.named (grammar.ident refl) (grammar.called (grammar.next refl) (grammar.first_arg (alone (grammar.name (grammar.ident refl) (grammar.no_call refl)) refl refl refl refl refl refl) (grammar.next_arg (grammar.next refl) (alone (grammar.number (grammar.next refl)) refl refl refl refl refl refl) (grammar.last_arg (grammar.next refl)))))) (grammar.next refl))) (grammar.one_stmt (grammar.stmt (grammar.simple (grammar.asserts (grammar.next refl) (grammar.condition (grammar.next refl) (grammar.whole (alone (grammar.name (grammar.ident refl) (grammar.no_call refl)) refl refl refl refl refl refl)) (grammar.next refl))) (grammar.next refl))) (grammar.one_stmt (grammar.stmt (grammar.empty (grammar.next refl))) (grammar.close (grammar.next refl))));
  started = grammar.one_stmt (grammar.stmt (grammar.simple (grammar.create (grammar.next refl) (grammar.next refl) (grammar.next refl) (grammar.ident refl) (grammar.next refl) (grammar.next refl) (grammar.next refl) (grammar.ident refl) (grammar.next refl) (grammar.next refl) (grammar.next refl)) (grammar.next refl))) (grammar.one_stmt (grammar.stmt (grammar.simple (grammar.join (grammar.next refl) (grammar.next refl) (grammar.ident refl) (grammar.next refl) (grammar.next refl) (grammar.next refl)) (grammar.next refl))) (grammar.close (grammar.next refl)));
  locked = grammar.one_stmt (grammar.stmt (grammar.simple (grammar.lock (grammar.next refl) (grammar.handle (grammar.next refl) (grammar.next refl) (grammar.ident refl) (grammar.next refl))) (grammar.next refl))) (grammar.one_stmt (grammar.stmt (grammar.simple (grammar.unlock (grammar.next refl) (grammar.handle (grammar.next refl) (grammar.next refl) (grammar.ident refl) (grammar.next refl))) (grammar.next refl))) (grammar.close (grammar.next refl)));
  nearest_if = grammar.one_stmt (grammar.stmt (grammar.if_then (grammar.next refl) (grammar.condition (grammar.next refl) (grammar.whole (alone (grammar.name (grammar.ident refl) (grammar.no_call refl)) refl refl refl refl refl refl)) (grammar.next refl)) (grammar.stmt (grammar.if_then (grammar.next refl) (grammar.condition (grammar.next refl) (grammar.whole (alone (grammar.name (grammar.ident refl) (grammar.no_call refl)) refl refl refl refl refl refl)) (grammar.next refl)) (grammar.stmt (grammar.empty (grammar.next refl))) (grammar.otherwise (grammar.next refl) (grammar.stmt (grammar.leave_loop (grammar.next refl) (grammar.next refl)))))) (grammar.no_else refl))) (grammar.close (grammar.next refl));
  looped = grammar.one_stmt (grammar.stmt (grammar.while (grammar.next refl) (grammar.condition (grammar.next refl) (grammar.whole (alone (grammar.name (grammar.ident refl) (grammar.no_call refl)) refl refl refl refl refl refl)) (grammar.next refl)) (grammar.stmt (grammar.next_round (grammar.next refl) (grammar.next refl))))) (grammar.one_stmt (grammar.stmt (grammar.do_while (grammar.next refl) (grammar.stmt (grammar.empty (grammar.next refl))) (grammar.do_end (grammar.next refl) (grammar.condition (grammar.next refl) (grammar.whole (alone (grammar.name (grammar.ident refl) (grammar.no_call refl)) refl refl refl refl refl refl)) (grammar.next refl)) (grammar.next refl)))) (grammar.close (grammar.next refl)));
  for_looped = grammar.one_stmt (grammar.stmt (grammar.for_loop (grammar.next refl) (grammar.next refl) (grammar.no_first (grammar.next refl)) (grammar.no_test (grammar.next refl)) (grammar.last (grammar.named (grammar.ident refl) (grammar.stepped (grammar.next refl))) (grammar.next refl)) (grammar.stmt (grammar.empty (grammar.next refl))))) (grammar.one_stmt (grammar.stmt (grammar.for_loop (grammar.next refl) (grammar.next refl) (grammar.number_first (grammar.numbers (grammar.int_type (grammar.next refl)) (grammar.locals (grammar.ident refl) (grammar.initial (grammar.next refl) (grammar.whole (alone (grammar.number (grammar.next refl)) refl refl refl refl refl refl))) (grammar.last_local (grammar.next refl))))) (grammar.test (grammar.whole (alone (grammar.name (grammar.ident refl) (grammar.no_call refl)) refl refl refl refl refl refl)) (grammar.next refl)) (grammar.no_last (grammar.next refl)) (grammar.stmt (grammar.empty (grammar.next refl))))) (grammar.one_stmt (grammar.stmt (grammar.for_loop (grammar.next refl) (grammar.next refl) (grammar.simple_first (grammar.named (grammar.ident refl) (grammar.assigned (grammar.next refl) (grammar.whole (alone (grammar.number (grammar.next refl)) refl refl refl refl refl refl)))) (grammar.next refl)) (grammar.no_test (grammar.next refl)) (grammar.no_last (grammar.next refl)) (grammar.stmt (grammar.block (grammar.next refl) (grammar.close (grammar.next refl)))))) (grammar.close (grammar.next refl))));
  last_part = grammar.one_stmt (grammar.stmt (grammar.for_loop (grammar.next refl) (grammar.next refl) (grammar.no_first (grammar.next refl)) (grammar.no_test (grammar.next refl)) (grammar.last (grammar.named (grammar.ident refl) (grammar.stepped (grammar.next refl))) (grammar.next refl)) (grammar.stmt (grammar.empty (grammar.next refl))))) (grammar.close (grammar.next refl));
  returned = grammar.one_stmt (grammar.stmt (grammar.leave (grammar.next refl) (grammar.plain (grammar.next refl)))) (grammar.one_stmt (grammar.stmt (grammar.leave (grammar.next refl) (grammar.null (grammar.next refl) (grammar.next refl)))) (grammar.one_stmt (grammar.stmt (grammar.leave (grammar.next refl) (grammar.value (grammar.whole (alone (grammar.name (grammar.ident refl) (grammar.no_call refl)) refl refl refl refl refl refl)) (grammar.next refl)))) (grammar.close (grammar.next refl))));
  declared = grammar.one_decl (grammar.number_decl (grammar.numbers (grammar.int_type (grammar.next refl)) (grammar.locals (grammar.ident refl) (grammar.initial (grammar.next refl) (grammar.whole (alone (grammar.number (grammar.next refl)) refl refl refl refl refl refl))) (grammar.next_local (grammar.next refl) (grammar.locals (grammar.ident refl) (grammar.no_initial refl) (grammar.last_local (grammar.next refl))))))) (grammar.one_decl (grammar.number_decl (grammar.numbers (grammar.long_type (grammar.next refl) (grammar.long_int (grammar.next refl))) (grammar.locals (grammar.ident refl) (grammar.no_initial refl) (grammar.last_local (grammar.next refl))))) (grammar.one_stmt (grammar.stmt (grammar.block (grammar.next refl) (grammar.one_decl (grammar.number_decl (grammar.numbers (grammar.long_type (grammar.next refl) (grammar.long refl)) (grammar.locals (grammar.ident refl) (grammar.no_initial refl) (grammar.last_local (grammar.next refl))))) (grammar.close (grammar.next refl))))) (grammar.close (grammar.next refl))));
  threads_declared = grammar.one_decl (grammar.thread_decl (grammar.next refl) (grammar.threads (grammar.ident refl) (grammar.next_thread (grammar.next refl) (grammar.threads (grammar.ident refl) (grammar.last_thread (grammar.next refl)))))) (grammar.close (grammar.next refl));
}

pub statements_dont_spell : StatementsDontSpell
statements_dont_spell = record {
  product_first = λ d. let same = ap first_assigned (same_items d statements_spell.updated refl).0 in let told = simp (assigned_value, binary_shape, name_shape) at same in cc;
  outer_if = λ d. let same = ap first_parts (same_items d statements_spell.nearest_if refl).0 in let told = simp (parts_of_if, parts_of_else) at same in cc;
  shifted = λ d. let same = ap first_parts (same_items d statements_spell.last_part refl).0 in let told = simp (parts_without_first, parts_with_first) at same in cc;
  no_effect = λ ps here end d. ends_well end.over _ (sym (passes_items d []));
  to_a_number = λ ps here end d. ends_well end.over _ (sym (passes_items d []));
  no_semicolon = λ ps here end d. ends_well end.over _ (sym (passes_items d []));
  assert_bare = λ ps here end d. ends_well end.over _ (sym (passes_items d []));
  create_with_argument = λ ps here end d. ends_well end.over _ (sym (passes_items d []));
  join_by_address = λ ps here end d. ends_well end.over _ (sym (passes_items d []));
  lock_by_value = λ ps here end d. ends_well end.over _ (sym (passes_items d []));
  else_alone = λ ps here end d. ends_well end.over _ (sym (passes_items d []));
  bare_condition = λ ps here end d. ends_well end.over _ (sym (passes_items d []));
  declared_branch = λ ps here end d. ends_well end.over _ (sym (passes_items d []));
  no_condition = λ ps here end d. ends_well end.over _ (sym (passes_items d []));
  do_unended = λ ps here end d. ends_well end.over _ (sym (passes_items d []));
  two_parts = λ ps here end d. ends_well end.over _ (sym (passes_items d []));
  four_parts = λ ps here end d. ends_well end.over _ (sym (passes_items d []));
  thread_first = λ ps here end d. ends_well end.over _ (sym (passes_items d []));
  break_unended = λ ps here end d. ends_well end.over _ (sym (passes_items d []));
  two_values = λ ps here end d. ends_well end.over _ (sym (passes_items d []));
  no_second_name = λ ps here end d. ends_well end.over _ (sym (passes_items d []));
  long_twice = λ ps here end d. ends_well end.over _ (sym (passes_items d []));
  int_before_long = λ ps here end d. ends_well end.over _ (sym (passes_items d []));
  thread_given = λ ps here end d. ends_well end.over _ (sym (passes_items d []));
  static_local = λ ps here end d. ends_well end.over _ (sym (passes_items d []));
  unclosed = λ ps here end d. ends_well end.over _ (sym (passes_items d []));
}
