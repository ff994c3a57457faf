-- What the grammar reads as a unit is spelled so.
use Rattle.std.proofs.Common.{◌≡◌, refl, ◌∙◌, ℤ, Bool, true, List, [], ◌∷◌, Option, None, Some}
use Rattle.std.specs.List.{list_all}
use Rattle.std.specs.Option.{option_map_or}
use Rattle.std.proofs.lemmas.Bool.{and_parts, and_from}
use Rattle.std.proofs.lemmas.List.Folds.{list_all-append}
use Rattle.gob_tree.specs.declared.expr.Width.{Width}
use Rattle.gob_tree.specs.declared.expr.Width.TheVariants.{W32}
use Rattle.gob_tree.specs.declared.place.Place.{Place}
use Rattle.gob_tree.specs.declared.unit.FuncKind.{FuncKind}
use Rattle.gob_tree.specs.declared.unit.FuncKind.TheVariants.{Int, Void, Thread}
use Rattle.c_parse.specs.declared.terminal.Terminal.{Terminal}
use Rattle.c_parse.specs.declared.raw.expr.RawName.{RawName}
use Rattle.c_parse.specs.declared.raw.unit.RawHead.{RawHead}
use Rattle.c_parse.specs.declared.raw.unit.RawItem.{RawItem}
use Rattle.c_parse.specs.Grammar as grammar
use Rattle.c_parse.specs.Grammar.{Nesting, Next, ReadsName, ReadsOperator, ReadsLevel, ReadsChain, ReadsCall, ReadsArgs, ReadsMoreArgs, ReadsWhole, ReadsCondition, ReadsInitial, ReadsLongTail, ReadsType, ReadsLocals, ReadsMoreLocals, ReadsNumbers, ReadsThreads, ReadsMoreThreads, ReadsDecl, ReadsAfterName, ReadsHandle, ReadsSimple, ReadsValue, ReadsFirst, ReadsTest, ReadsLast, ReadsDoEnd, ReadsBare, ReadsStmt, ReadsElse, ReadsItems, ReadsLiteral, ReadsGlobals, ReadsMoreGlobals, ReadsAfterHead, ReadsParam, ReadsParamName, ReadsMoreParams, ReadsParams, ReadsThreadParam, ReadsThreadVoid, ReadsThreadName, ReadsVoided, ReadsNamed, ReadsTyped, ReadsMutexName, ReadsOuter, ReadsItem, ReadsUnit, IsUnit, within, head_of, with_param}
use Rattle.c_check.specs.Spelled.{is_word, is_spelled_param, is_spelled_head, is_spelled_item, IsSpelled}
use Rattle.c_check.proofs.SpelledForms.{IsPlain, keep_next, keep_name, name_word}
use Rattle.c_check.proofs.SpelledStmts.{keep_type, spell_items}

pub keep_literal : {ts rest : List Terminal} {v : ℤ} {here : Place} → ReadsLiteral ts v here rest → IsPlain ts → IsPlain rest
keep_literal (grammar.literal n0) h = let k0 = keep_next n0 h in k0
keep_literal (grammar.negative n0 n1) h = let k0 = keep_next n0 h in let k1 = keep_next n1 k0 in k1

-- a head without parameters, and one with one more
head_alone : (x : RawName) (k : FuncKind) (w : Width) → is_word x.text ≡ true → is_spelled_head (head_of x k w) ≡ true
head_alone x k w is = and_from _ _ is refl

param_added : (g : RawHead) (w : Width) (x : Option RawName) → is_spelled_head g ≡ true → option_map_or (λ (x : RawName). is_word x.text) x true ≡ true → is_spelled_head (with_param g w x) ≡ true
param_added g w x is named =
    let parts = and_parts _ _ is in
    and_from _ _ parts.0 (list_all-append is_spelled_param g.params (record { width = w; name = x } ∷ []) ∙ and_from _ _ parts.1 (and_from _ _ named refl))

mutual
  pub spell_globals : {w : Width} {x : RawName} {ts rest : List Terminal} {items : List RawItem} → ReadsGlobals w x ts items rest → is_word x.text ≡ true → IsPlain ts → (list_all is_spelled_item items ≡ true) × IsPlain rest
  spell_globals (grammar.given n0 n1 n2) is h = let k0 = keep_next n0 h in let k1 = keep_literal n1 k0 in let k2 = spell_more_globals n2 k1 in (and_from _ _ is k2.0, k2.1)
  spell_globals (grammar.unset n0) is h = let k0 = spell_more_globals n0 h in (and_from _ _ is k0.0, k0.1)

  pub spell_more_globals : {w : Width} {ts rest : List Terminal} {items : List RawItem} → ReadsMoreGlobals w ts items rest → IsPlain ts → (list_all is_spelled_item items ≡ true) × IsPlain rest
  spell_more_globals (grammar.last_global n0) h = let k0 = keep_next n0 h in (refl, k0)
  spell_more_globals (grammar.next_global n0 n1 n2) h = let k0 = keep_next n0 h in let k1 = keep_name n1 k0 in let k2 = spell_globals n2 (name_word n1 k0) k1 in (k2.0, k2.1)

pub spell_after_head : {g : RawHead} {may : Bool} {a b : Nesting} {ts rest : List Terminal} {items : List RawItem} → ReadsAfterHead g may a ts items rest b → is_spelled_head g ≡ true → IsPlain ts → (list_all is_spelled_item items ≡ true) × IsPlain rest
spell_after_head (grammar.prototype n0) is h = let k0 = keep_next n0 h in (and_from _ _ is refl, k0)
spell_after_head (grammar.body n0 n1) is h = let k0 = keep_next n0 h in let k1 = spell_items n1 k0 in (and_from _ _ (and_from _ _ is k1.0) refl, k1.1)

mutual
  pub spell_param : {g : RawHead} {may : Bool} {a b : Nesting} {ts rest : List Terminal} {items : List RawItem} → ReadsParam g may a ts items rest b → is_spelled_head g ≡ true → IsPlain ts → (list_all is_spelled_item items ≡ true) × IsPlain rest
  spell_param (grammar.param n0 n1) is h = let k0 = keep_type n0 h in let k1 = spell_param_name n1 is k0 in (k1.0, k1.1)

  pub spell_param_name : {g : RawHead} {may : Bool} {w : Width} {a b : Nesting} {ts rest : List Terminal} {items : List RawItem} → ReadsParamName g may w a ts items rest b → is_spelled_head g ≡ true → IsPlain ts → (list_all is_spelled_item items ≡ true) × IsPlain rest
  spell_param_name {g = g} {w = w} (grammar.with_name {x = x} n0 n1) is h = let k0 = keep_name n0 h in let k1 = spell_more_params n1 (param_added g w (Some x) is (name_word n0 h)) k0 in (k1.0, k1.1)
  spell_param_name {g = g} {w = w} (grammar.without_name n0) is h = let k0 = spell_more_params n0 (param_added g w None is refl) h in (k0.0, k0.1)

  pub spell_more_params : {g : RawHead} {may : Bool} {a b : Nesting} {ts rest : List Terminal} {items : List RawItem} → ReadsMoreParams g may a ts items rest b → is_spelled_head g ≡ true → IsPlain ts → (list_all is_spelled_item items ≡ true) × IsPlain rest
  spell_more_params (grammar.next_param n0 n1) is h = let k0 = keep_next n0 h in let k1 = spell_param n1 is k0 in (k1.0, k1.1)
  spell_more_params (grammar.last_param n0 n1) is h = let k0 = keep_next n0 h in let k1 = spell_after_head n1 is k0 in (k1.0, k1.1)

pub spell_params : {g : RawHead} {may : Bool} {a b : Nesting} {ts rest : List Terminal} {items : List RawItem} → ReadsParams g may a ts items rest b → is_spelled_head g ≡ true → IsPlain ts → (list_all is_spelled_item items ≡ true) × IsPlain rest
spell_params (grammar.no_params n0 n1) is h = let k0 = keep_next n0 h in let k1 = spell_after_head n1 is k0 in (k1.0, k1.1)
spell_params (grammar.void_params n0 n1 n2) is h = let k0 = keep_next n0 h in let k1 = keep_next n1 k0 in let k2 = spell_after_head n2 is k1 in (k2.0, k2.1)
spell_params (grammar.some_params n0) is h = let k0 = spell_param n0 is h in (k0.0, k0.1)

pub spell_thread_param : {x : RawName} {may : Bool} {a b : Nesting} {ts rest : List Terminal} {items : List RawItem} → ReadsThreadParam x may a ts items rest b → is_word x.text ≡ true → IsPlain ts → (list_all is_spelled_item items ≡ true) × IsPlain rest
spell_thread_param {x = x} (grammar.named_param {y = y} n0 n1 n2) is h = let k0 = keep_name n0 h in let k1 = keep_next n1 k0 in let k2 = spell_after_head n2 (param_added (head_of x Thread W32) W32 (Some y) (head_alone x Thread W32 is) (name_word n0 h)) k1 in (k2.0, k2.1)
spell_thread_param {x = x} (grammar.unnamed_param n0 n1) is h = let k0 = keep_next n0 h in let k1 = spell_after_head n1 (param_added (head_of x Thread W32) W32 None (head_alone x Thread W32 is) refl) k0 in (k1.0, k1.1)

pub spell_thread_void : {x : RawName} {may : Bool} {a b : Nesting} {ts rest : List Terminal} {items : List RawItem} → ReadsThreadVoid x may a ts items rest b → is_word x.text ≡ true → IsPlain ts → (list_all is_spelled_item items ≡ true) × IsPlain rest
spell_thread_void (grammar.thread_void n0 n1 n2) is h = let k0 = keep_next n0 h in let k1 = keep_next n1 k0 in let k2 = spell_thread_param n2 is k1 in (k2.0, k2.1)

pub spell_thread_name : {may : Bool} {a b : Nesting} {ts rest : List Terminal} {items : List RawItem} → ReadsThreadName may a ts items rest b → IsPlain ts → (list_all is_spelled_item items ≡ true) × IsPlain rest
spell_thread_name (grammar.thread_name n0 n1 n2) h = let k0 = keep_name n0 h in let k1 = keep_next n1 k0 in let k2 = spell_thread_void n2 (name_word n0 h) k1 in (k2.0, k2.1)

pub spell_voided : {may : Bool} {a b : Nesting} {ts rest : List Terminal} {items : List RawItem} → ReadsVoided may a ts items rest b → IsPlain ts → (list_all is_spelled_item items ≡ true) × IsPlain rest
spell_voided (grammar.void_function {x = x} n0 n1 n2) h = let k0 = keep_name n0 h in let k1 = keep_next n1 k0 in let k2 = spell_params n2 (head_alone x Void W32 (name_word n0 h)) k1 in (k2.0, k2.1)
spell_voided (grammar.thread_function n0 n1) h = let k0 = keep_next n0 h in let k1 = spell_thread_name n1 k0 in (k1.0, k1.1)

pub spell_named : {may : Bool} {w : Width} {x : RawName} {a b : Nesting} {ts rest : List Terminal} {items : List RawItem} → ReadsNamed may w x a ts items rest b → is_word x.text ≡ true → IsPlain ts → (list_all is_spelled_item items ≡ true) × IsPlain rest
spell_named {w = w} {x = x} (grammar.number_function n0 n1) is h = let k0 = keep_next n0 h in let k1 = spell_params n1 (head_alone x Int w is) k0 in (k1.0, k1.1)
spell_named (grammar.globals n0) is h = let k0 = spell_globals n0 is h in (k0.0, k0.1)

pub spell_typed : {may : Bool} {w : Width} {a b : Nesting} {ts rest : List Terminal} {items : List RawItem} → ReadsTyped may w a ts items rest b → IsPlain ts → (list_all is_spelled_item items ≡ true) × IsPlain rest
spell_typed (grammar.typed n0 n1) h = let k0 = keep_name n0 h in let k1 = spell_named n1 (name_word n0 h) k0 in (k1.0, k1.1)

pub spell_mutex_name : {ts rest : List Terminal} {items : List RawItem} → ReadsMutexName ts items rest → IsPlain ts → (list_all is_spelled_item items ≡ true) × IsPlain rest
spell_mutex_name (grammar.mutex_name n0 n1 n2 n3) h = let k0 = keep_name n0 h in let k1 = keep_next n1 k0 in let k2 = keep_next n2 k1 in let k3 = keep_next n3 k2 in (and_from _ _ (name_word n0 h) refl, k3)

pub spell_outer : {may : Bool} {a b : Nesting} {ts rest : List Terminal} {items : List RawItem} → ReadsOuter may a ts items rest b → IsPlain ts → (list_all is_spelled_item items ≡ true) × IsPlain rest
spell_outer (grammar.number_item n0 n1) h = let k0 = keep_type n0 h in let k1 = spell_typed n1 k0 in (k1.0, k1.1)
spell_outer (grammar.void_item n0 n1) h = let k0 = keep_next n0 h in let k1 = spell_voided n1 k0 in (k1.0, k1.1)
spell_outer (grammar.mutex_item n0 n1) h = let k0 = keep_next n0 h in let k1 = spell_mutex_name n1 k0 in (k1.0, k1.1)

pub spell_item : {a b : Nesting} {ts rest : List Terminal} {items : List RawItem} → ReadsItem a ts items rest b → IsPlain ts → (list_all is_spelled_item items ≡ true) × IsPlain rest
spell_item (grammar.static_item n0 n1) h = let k0 = keep_next n0 h in let k1 = spell_outer n1 k0 in (k1.0, k1.1)
spell_item (grammar.extern_item n0 n1) h = let k0 = keep_next n0 h in let k1 = spell_outer n1 k0 in (k1.0, k1.1)
spell_item (grammar.plain_item n0) h = let k0 = spell_outer n0 h in (k0.0, k0.1)

pub spell_unit : {a b : Nesting} {ts : List Terminal} {items : List RawItem} → ReadsUnit a ts items b → IsPlain ts → IsSpelled items
spell_unit grammar.unit_end h = refl
spell_unit (grammar.unit_item {items = xs} {more_items = ys} n0 n1) h = let k0 = spell_item n0 h in list_all-append is_spelled_item xs ys ∙ and_from _ _ k0.0 (spell_unit n1 k0.1)
