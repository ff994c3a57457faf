-- Readings of units, derived and refused in the same way.
use Rattle.std.proofs.Common.{refl, sym}
use Rattle.readings_law.specs.Units.{UnitsSpell, UnitsDontSpell}
use Rattle.readings_law.proofs.Alone.{alone}
use Rattle.c_parse.specs.Grammar as grammar
use Rattle.c_parse.proofs.UniqueUnit.{same_unit}
use Rattle.c_parse.proofs.Fronts.{passes_unit, ends_well}

pub units_spell : UnitsSpell
units_spell = record {
  no_item = grammar.unit_end;
  globals = grammar.unit_item (grammar.plain_item (grammar.number_item (grammar.int_type (grammar.next refl)) (grammar.typed (grammar.ident refl) (grammar.globals (grammar.given (grammar.next refl) (grammar.negative (grammar.next refl) (grammar.next refl)) (grammar.next_global (grammar.next refl) (grammar.ident refl) (grammar.given (grammar.next refl) (grammar.literal (grammar.next refl)) (grammar.last_global (grammar.next refl))))))))) grammar.unit_end;
  static_item = grammar.unit_item (grammar.static_item (grammar.next refl) (grammar.number_item (grammar.long_type (grammar.next refl) (grammar.long_int (grammar.next refl))) (grammar.typed (grammar.ident refl) (grammar.globals (grammar.unset (grammar.last_global (grammar.next refl))))))) grammar.unit_end;
  extern_head = grammar.unit_item (grammar.extern_item (grammar.next refl) (grammar.number_item (grammar.int_type (grammar.next refl)) (grammar.typed (grammar.ident refl) (grammar.number_function (grammar.next refl) (grammar.some_params (grammar.param (grammar.int_type (grammar.next refl)) (grammar.without_name (grammar.next_param (grammar.next refl) (grammar.param (grammar.long_type (grammar.next refl) (grammar.long refl)) (grammar.with_name (grammar.ident refl) (grammar.last_param (grammar.next refl) (grammar.prototype (grammar.next refl))))))))))))) grammar.unit_end;
  void_body = grammar.unit_item (grammar.plain_item (grammar.void_item (grammar.next refl) (grammar.void_function (grammar.ident refl) (grammar.next refl) (grammar.void_params (grammar.next refl) (grammar.next refl) (grammar.body (grammar.next refl) (grammar.close (grammar.next refl))))))) grammar.unit_end;
  long_body = grammar.unit_item (grammar.plain_item (grammar.number_item (grammar.long_type (grammar.next refl) (grammar.long refl)) (grammar.typed (grammar.ident refl) (grammar.number_function (grammar.next refl) (grammar.some_params (grammar.param (grammar.int_type (grammar.next refl)) (grammar.with_name (grammar.ident refl) (grammar.last_param (grammar.next refl) (grammar.body (grammar.next refl) (grammar.one_stmt (grammar.stmt (grammar.leave (grammar.next refl) (grammar.value (grammar.whole (alone (grammar.name (grammar.ident refl) (grammar.no_call refl)) refl refl refl refl refl refl)) (grammar.next refl)))) (grammar.close (grammar.next refl)))))))))))) grammar.unit_end;
  thread_head = grammar.unit_item (grammar.plain_item (grammar.void_item (grammar.next refl) (grammar.thread_function (grammar.next refl) (grammar.thread_name (grammar.ident refl) (grammar.next refl) (grammar.thread_void (grammar.next refl) (grammar.next refl) (grammar.named_param (grammar.ident refl) (grammar.next refl) (grammar.prototype (grammar.next refl)))))))) grammar.unit_end;
  thread_body = grammar.unit_item (grammar.static_item (grammar.next refl) (grammar.void_item (grammar.next refl) (grammar.thread_function (grammar.next refl) (grammar.thread_name (grammar.ident refl) (grammar.next refl) (grammar.thread_void (grammar.next refl) (grammar.next refl) (grammar.unnamed_param (grammar.next refl) (grammar.body (grammar.next refl) (grammar.close (grammar.next refl))))))))) grammar.unit_end;
  two_items = grammar.unit_item (grammar.plain_item (grammar.mutex_item (grammar.next refl) (grammar.mutex_name (grammar.ident refl) (grammar.next refl) (grammar.next refl) (grammar.next refl)))) (grammar.unit_item (grammar.plain_item (grammar.void_item (grammar.next refl) (grammar.void_function (grammar.ident refl) (grammar.next refl) (grammar.no_params (grammar.next refl) (grammar.prototype (grammar.next refl)))))) grammar.unit_end);
}

pub units_dont_spell : UnitsDontSpell
units_dont_spell = record {
  one_global = λ d. let same = same_unit d units_spell.globals refl in cc;
  positive = λ d. let same = same_unit d units_spell.globals refl in cc;
  by_name = λ items end d. ends_well end.over _ (sym (passes_unit d));
  minus_minus = λ items end d. ends_well end.over _ (sym (passes_unit d));
  no_second_name = λ items end d. ends_well end.over _ (sym (passes_unit d));
  static_behind = λ items end d. ends_well end.over _ (sym (passes_unit d));
  void_global = λ items end d. ends_well end.over _ (sym (passes_unit d));
  unended = λ items end d. ends_well end.over _ (sym (passes_unit d));
  extern_global = λ items end d. ends_well end.over _ (sym (passes_unit d));
  extern_body = λ items end d. ends_well end.over _ (sym (passes_unit d));
  extern_mutex = λ items end d. ends_well end.over _ (sym (passes_unit d));
  thread_outside = λ items end d. ends_well end.over _ (sym (passes_unit d));
  mutex_unset = λ items end d. ends_well end.over _ (sym (passes_unit d));
  statement_outside = λ items end d. ends_well end.over _ (sym (passes_unit d));
  brace_too_many = λ items end d. ends_well end.over _ (sym (passes_unit d));
  unnamed_in_a_body = λ items end d. ends_well end.over _ (sym (passes_unit d));
  void_parameter = λ items end d. ends_well end.over _ (sym (passes_unit d));
  no_second_parameter = λ items end d. ends_well end.over _ (sym (passes_unit d));
  two_names = λ items end d. ends_well end.over _ (sym (passes_unit d));
  thread_without_parameter = λ items end d. ends_well end.over _ (sym (passes_unit d));
  thread_of_a_number = λ items end d. ends_well end.over _ (sym (passes_unit d));
  address_to_void = λ items end d. ends_well end.over _ (sym (passes_unit d));
}
