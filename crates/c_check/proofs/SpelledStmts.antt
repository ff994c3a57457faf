-- What the grammar reads as an expression or a statement is spelled so.
use Rattle.std.proofs.Common.{◌≡◌, refl, ◌∙◌, ℕ, Bool, true, List, Option}
use Rattle.std.specs.List.{list_all}
use Rattle.std.specs.Option.{option_map, option_map_or}
use Rattle.std.proofs.lemmas.Bool.{and_parts, and_from}
use Rattle.std.proofs.lemmas.List.Folds.{list_all-append}
use Rattle.gob_tree.specs.declared.expr.Width.{Width}
use Rattle.gob_tree.specs.declared.place.Place.{Place}
use Rattle.c_parse.specs.declared.terminal.Terminal.{Terminal}
use Rattle.c_parse.specs.declared.raw.expr.RawName.{RawName}
use Rattle.c_parse.specs.declared.raw.expr.RawExpr.{RawExpr}
use Rattle.c_parse.specs.declared.raw.stmt.RawReturn.{RawReturn}
use Rattle.c_parse.specs.declared.raw.stmt.RawStmt.{RawStmt}
use Rattle.c_parse.specs.declared.raw.stmt.RawPlaced.{RawPlaced}
use Rattle.c_parse.specs.Grammar as grammar
use Rattle.c_parse.specs.Grammar.{Nesting, Next, ReadsName, ReadsOperator, ReadsLevel, ReadsChain, ReadsCall, ReadsArgs, ReadsMoreArgs, ReadsWhole, ReadsCondition, ReadsInitial, ReadsLongTail, ReadsType, ReadsLocals, ReadsMoreLocals, ReadsNumbers, ReadsThreads, ReadsMoreThreads, ReadsDecl, ReadsAfterName, ReadsHandle, ReadsSimple, ReadsValue, ReadsFirst, ReadsTest, ReadsLast, ReadsDoEnd, ReadsBare, ReadsStmt, ReadsElse, ReadsItems, ReadsLiteral, ReadsGlobals, ReadsMoreGlobals, ReadsAfterHead, ReadsParam, ReadsParamName, ReadsMoreParams, ReadsParams, ReadsThreadParam, ReadsThreadVoid, ReadsThreadName, ReadsVoided, ReadsNamed, ReadsTyped, ReadsMutexName, ReadsOuter, ReadsItem, ReadsUnit, IsUnit, within}
use Rattle.c_check.specs.Bodies.{return_value}
use Rattle.c_check.specs.Spelled.{is_spelled_expr, is_spelled_or_missing, is_head_part, spelling_of, is_spelled}
use Rattle.c_check.proofs.SpelledForms.{IsPlain, keep_next, keep_name, keep_operator, number_plain, name_word, spelling, is_head, number_spelled, name_spelled, unary_spelled, binary_spelled, call_spelled, step_spelled, declared_head, thread_spelled, heads_spelled, assign_head, call_head, assert_head, create_head, join_head, lock_head, unlock_head, placed_head, placed_spelled, empty_spelled, break_spelled, continue_spelled, return_spelled, block_spelled, if_spelled, while_spelled, do_spelled, for_spelled}

mutual
  pub spell_level : {l : ℕ} {a b : Nesting} {ts rest : List Terminal} {e : RawExpr} → ReadsLevel l a ts e rest b → IsPlain ts → (is_spelled_expr e ≡ true) × IsPlain rest
  spell_level (grammar.number n0) h = let k0 = keep_next n0 h in (number_spelled _ _ (number_plain n0 h), k0)
  spell_level (grammar.name n0 n1) h = let k0 = keep_name n0 h in let k1 = spell_call n1 k0 in (k1.0, k1.1)
  spell_level (grammar.minus n0 n1) h = let k0 = keep_next n0 h in let k1 = spell_level n1 k0 in (unary_spelled _ _ k1.0, k1.1)
  spell_level (grammar.plus n0 n1) h = let k0 = keep_next n0 h in let k1 = spell_level n1 k0 in (k1.0, k1.1)
  spell_level (grammar.negation n0 n1) h = let k0 = keep_next n0 h in let k1 = spell_level n1 k0 in (unary_spelled _ _ k1.0, k1.1)
  spell_level (grammar.group n0 n1 n2) h = let k0 = keep_next n0 h in let k1 = spell_level n1 k0 in let k2 = keep_next n2 k1.1 in (k1.0, k2)
  spell_level (grammar.chain n0 n1) h = let k0 = spell_level n0 h in let k1 = spell_chain n1 k0.0 k0.1 in (k1.0, k1.1)

  pub spell_chain : {l : ℕ} {a b : Nesting} {ts rest : List Terminal} {left e : RawExpr} → ReadsChain l left a ts e rest b → is_spelled_expr left ≡ true → IsPlain ts → (is_spelled_expr e ≡ true) × IsPlain rest
  spell_chain (grammar.ends n0) s0 h = (s0, h)
  spell_chain (grammar.more n0 n1 n2) s0 h = let k0 = keep_operator n0 h in let k1 = spell_level n1 k0 in let k2 = spell_chain n2 (binary_spelled _ _ _ s0 k1.0) k1.1 in (k2.0, k2.1)

  pub spell_call : {a b : Nesting} {ts rest : List Terminal} {x : RawName} {e : RawExpr} → ReadsCall x a ts e rest b → IsPlain ts → (is_spelled_expr e ≡ true) × IsPlain rest
  spell_call (grammar.no_call n0) h = (name_spelled _, h)
  spell_call (grammar.call n0 n1) h = let k0 = keep_next n0 h in let k1 = spell_args n1 k0 in (call_spelled _ _ k1.0, k1.1)

  pub spell_args : {alone : Bool} {a b : Nesting} {ts rest : List Terminal} {es : List RawExpr} → ReadsArgs alone a ts es rest b → IsPlain ts → (list_all is_spelled_expr es ≡ true) × IsPlain rest
  spell_args (grammar.no_args n0) h = let k0 = keep_next n0 h in (refl, k0)
  spell_args (grammar.first_arg n0 n1) h = let k0 = spell_level n0 h in let k1 = spell_more_args n1 k0.1 in (and_from _ _ k0.0 k1.0, k1.1)

  pub spell_more_args : {alone : Bool} {a b : Nesting} {ts rest : List Terminal} {es : List RawExpr} → ReadsMoreArgs alone a ts es rest b → IsPlain ts → (list_all is_spelled_expr es ≡ true) × IsPlain rest
  spell_more_args (grammar.last_arg n0) h = let k0 = keep_next n0 h in (refl, k0)
  spell_more_args (grammar.next_arg n0 n1 n2) h = let k0 = keep_next n0 h in let k1 = spell_level n1 k0 in let k2 = spell_more_args n2 k1.1 in (and_from _ _ k1.0 k2.0, k2.1)

pub spell_whole : {a b : Nesting} {ts rest : List Terminal} {e : RawExpr} → ReadsWhole a ts e rest b → IsPlain ts → (is_spelled_expr e ≡ true) × IsPlain rest
spell_whole (grammar.whole n0) h = let k0 = spell_level n0 h in (k0.0, k0.1)

pub spell_condition : {a b : Nesting} {ts rest : List Terminal} {e : RawExpr} → ReadsCondition a ts e rest b → IsPlain ts → (is_spelled_expr e ≡ true) × IsPlain rest
spell_condition (grammar.condition n0 n1 n2) h = let k0 = keep_next n0 h in let k1 = spell_whole n1 k0 in let k2 = keep_next n2 k1.1 in (k1.0, k2)

pub spell_initial : {a b : Nesting} {ts rest : List Terminal} {i : Option RawExpr} → ReadsInitial a ts i rest b → IsPlain ts → (is_spelled_or_missing i ≡ true) × IsPlain rest
spell_initial (grammar.no_initial n0) h = (refl, h)
spell_initial (grammar.initial n0 n1) h = let k0 = keep_next n0 h in let k1 = spell_whole n1 k0 in (k1.0, k1.1)

pub keep_long_tail : {ts rest : List Terminal} → ReadsLongTail ts rest → IsPlain ts → IsPlain rest
keep_long_tail (grammar.long n0) h = h
keep_long_tail (grammar.long_int n0) h = let k0 = keep_next n0 h in k0

pub keep_type : {ts rest : List Terminal} {w : Width} → ReadsType ts w rest → IsPlain ts → IsPlain rest
keep_type (grammar.int_type n0) h = let k0 = keep_next n0 h in k0
keep_type (grammar.long_type n0 n1) h = let k0 = keep_next n0 h in let k1 = keep_long_tail n1 k0 in k1

mutual
  pub spell_locals : {here : Place} {w : Width} {a b : Nesting} {ts rest : List Terminal} {ps : List RawPlaced} → ReadsLocals here w a ts ps rest b → IsPlain ts → (list_all is_head ps ≡ true) × IsPlain rest
  spell_locals (grammar.locals n0 n1 n2) h = let k0 = keep_name n0 h in let k1 = spell_initial n1 k0 in let k2 = spell_more_locals n2 k1.1 in (and_from _ _ (declared_head _ _ _ _ (name_word n0 h) k1.0) k2.0, k2.1)

  pub spell_more_locals : {w : Width} {a b : Nesting} {ts rest : List Terminal} {ps : List RawPlaced} → ReadsMoreLocals w a ts ps rest b → IsPlain ts → (list_all is_head ps ≡ true) × IsPlain rest
  spell_more_locals (grammar.last_local n0) h = let k0 = keep_next n0 h in (refl, k0)
  spell_more_locals (grammar.next_local n0 n1) h = let k0 = keep_next n0 h in let k1 = spell_locals n1 k0 in (k1.0, k1.1)

pub spell_numbers : {a b : Nesting} {ts rest : List Terminal} {ps : List RawPlaced} → ReadsNumbers a ts ps rest b → IsPlain ts → (list_all is_head ps ≡ true) × IsPlain rest
spell_numbers (grammar.numbers n0 n1) h = let k0 = keep_type n0 h in let k1 = spell_locals n1 k0 in (k1.0, k1.1)

mutual
  pub spell_threads : {here : Place} {ts rest : List Terminal} {ps : List RawPlaced} → ReadsThreads here ts ps rest → IsPlain ts → (list_all is_spelled ps ≡ true) × IsPlain rest
  spell_threads (grammar.threads n0 n1) h = let k0 = keep_name n0 h in let k1 = spell_more_threads n1 k0 in (and_from _ _ (thread_spelled _ _ (name_word n0 h)) k1.0, k1.1)

  pub spell_more_threads : {ts rest : List Terminal} {ps : List RawPlaced} → ReadsMoreThreads ts ps rest → IsPlain ts → (list_all is_spelled ps ≡ true) × IsPlain rest
  spell_more_threads (grammar.last_thread n0) h = let k0 = keep_next n0 h in (refl, k0)
  spell_more_threads (grammar.next_thread n0 n1) h = let k0 = keep_next n0 h in let k1 = spell_threads n1 k0 in (k1.0, k1.1)

pub spell_decl : {a b : Nesting} {ts rest : List Terminal} {ps : List RawPlaced} → ReadsDecl a ts ps rest b → IsPlain ts → (list_all is_spelled ps ≡ true) × IsPlain rest
spell_decl (grammar.number_decl n0) h = let k0 = spell_numbers n0 h in (heads_spelled _ k0.0, k0.1)
spell_decl (grammar.thread_decl n0 n1) h = let k0 = keep_next n0 h in let k1 = spell_threads n1 k0 in (k1.0, k1.1)

pub spell_after_name : {x : RawName} {a b : Nesting} {ts rest : List Terminal} {s : RawStmt} → ReadsAfterName x a ts s rest b → IsPlain ts → (is_head_part (spelling s) ≡ true) × IsPlain rest
spell_after_name (grammar.assigned n0 n1) h = let k0 = keep_next n0 h in let k1 = spell_whole n1 k0 in (assign_head _ _ k1.0, k1.1)
spell_after_name (grammar.updated n0 n1) h = let k0 = keep_next n0 h in let k1 = spell_whole n1 k0 in (assign_head _ _ (binary_spelled _ _ _ (name_spelled _) k1.0), k1.1)
spell_after_name (grammar.stepped n0) h = let k0 = keep_next n0 h in (assign_head _ _ (step_spelled _ _), k0)
spell_after_name (grammar.called n0 n1) h = let k0 = keep_next n0 h in let k1 = spell_args n1 k0 in (call_head _ _ k1.0, k1.1)

pub keep_handle : {ts rest : List Terminal} {x : RawName} → ReadsHandle ts x rest → IsPlain ts → IsPlain rest
keep_handle (grammar.handle n0 n1 n2 n3) h = let k0 = keep_next n0 h in let k1 = keep_next n1 k0 in let k2 = keep_name n2 k1 in let k3 = keep_next n3 k2 in k3

pub spell_simple : {a b : Nesting} {ts rest : List Terminal} {s : RawStmt} → ReadsSimple a ts s rest b → IsPlain ts → (is_head_part (spelling s) ≡ true) × IsPlain rest
spell_simple (grammar.named n0 n1) h = let k0 = keep_name n0 h in let k1 = spell_after_name n1 k0 in (k1.0, k1.1)
spell_simple (grammar.step n0 n1) h = let k0 = keep_next n0 h in let k1 = keep_name n1 k0 in (assign_head _ _ (step_spelled _ _), k1)
spell_simple (grammar.asserts n0 n1) h = let k0 = keep_next n0 h in let k1 = spell_condition n1 k0 in (assert_head _ k1.0, k1.1)
spell_simple (grammar.create n0 n1 n2 n3 n4 n5 n6 n7 n8 n9 n10) h = let k0 = keep_next n0 h in let k1 = keep_next n1 k0 in let k2 = keep_next n2 k1 in let k3 = keep_name n3 k2 in let k4 = keep_next n4 k3 in let k5 = keep_next n5 k4 in let k6 = keep_next n6 k5 in let k7 = keep_name n7 k6 in let k8 = keep_next n8 k7 in let k9 = keep_next n9 k8 in let k10 = keep_next n10 k9 in (create_head _ _, k10)
spell_simple (grammar.join n0 n1 n2 n3 n4 n5) h = let k0 = keep_next n0 h in let k1 = keep_next n1 k0 in let k2 = keep_name n2 k1 in let k3 = keep_next n3 k2 in let k4 = keep_next n4 k3 in let k5 = keep_next n5 k4 in (join_head _, k5)
spell_simple (grammar.lock n0 n1) h = let k0 = keep_next n0 h in let k1 = keep_handle n1 k0 in (lock_head _, k1)
spell_simple (grammar.unlock n0 n1) h = let k0 = keep_next n0 h in let k1 = keep_handle n1 k0 in (unlock_head _, k1)

pub spell_value : {a b : Nesting} {ts rest : List Terminal} {r : RawReturn} → ReadsValue a ts r rest b → IsPlain ts → (is_spelled_or_missing (return_value r) ≡ true) × IsPlain rest
spell_value (grammar.plain n0) h = let k0 = keep_next n0 h in (refl, k0)
spell_value (grammar.null n0 n1) h = let k0 = keep_next n0 h in let k1 = keep_next n1 k0 in (refl, k1)
spell_value (grammar.value n0 n1) h = let k0 = spell_whole n0 h in let k1 = keep_next n1 k0.1 in (k0.0, k1)

pub spell_first : {a b : Nesting} {ts rest : List Terminal} {ps : List RawPlaced} → ReadsFirst a ts ps rest b → IsPlain ts → (list_all is_head ps ≡ true) × IsPlain rest
spell_first (grammar.no_first n0) h = let k0 = keep_next n0 h in (refl, k0)
spell_first (grammar.number_first n0) h = let k0 = spell_numbers n0 h in (k0.0, k0.1)
spell_first {ts = ts} (grammar.simple_first {s = s} n0 n1) h = let k0 = spell_simple n0 h in let k1 = keep_next n1 k0.1 in (and_from _ _ (placed_head ts s k0.0) refl, k1)

pub spell_test : {a b : Nesting} {ts rest : List Terminal} {i : Option RawExpr} → ReadsTest a ts i rest b → IsPlain ts → (is_spelled_or_missing i ≡ true) × IsPlain rest
spell_test (grammar.no_test n0) h = let k0 = keep_next n0 h in (refl, k0)
spell_test (grammar.test n0 n1) h = let k0 = spell_whole n0 h in let k1 = keep_next n1 k0.1 in (k0.0, k1)

pub spell_last : {a b : Nesting} {ts rest : List Terminal} {j : Option RawPlaced} → ReadsLast a ts j rest b → IsPlain ts → (option_map_or is_head_part (option_map spelling_of j) true ≡ true) × IsPlain rest
spell_last (grammar.no_last n0) h = let k0 = keep_next n0 h in (refl, k0)
spell_last {ts = ts} (grammar.last {s = s} n0 n1) h = let k0 = spell_simple n0 h in let k1 = keep_next n1 k0.1 in (placed_head ts s k0.0, k1)

pub spell_do_end : {a b : Nesting} {ts rest : List Terminal} {e : RawExpr} → ReadsDoEnd a ts e rest b → IsPlain ts → (is_spelled_expr e ≡ true) × IsPlain rest
spell_do_end (grammar.do_end n0 n1 n2) h = let k0 = keep_next n0 h in let k1 = spell_condition n1 k0 in let k2 = keep_next n2 k1.1 in (k1.0, k2)

mutual
  pub spell_bare : {d : ℕ} {a b : Nesting} {ts rest : List Terminal} {s : RawStmt} → ReadsBare d a ts s rest b → IsPlain ts → ((spelling s).spelled ≡ true) × IsPlain rest
  spell_bare (grammar.empty n0) h = let k0 = keep_next n0 h in (empty_spelled, k0)
  spell_bare (grammar.block n0 n1) h = let k0 = keep_next n0 h in let k1 = spell_items n1 k0 in (block_spelled _ k1.0, k1.1)
  spell_bare (grammar.simple n0 n1) h = let k0 = spell_simple n0 h in let k1 = keep_next n1 k0.1 in ((and_parts _ _ k0.0).1, k1)
  spell_bare (grammar.if_then n0 n1 n2 n3) h = let k0 = keep_next n0 h in let k1 = spell_condition n1 k0 in let k2 = spell_stmt n2 k1.1 in let k3 = spell_else n3 k2.1 in (if_spelled _ _ _ k1.0 k2.0 k3.0, k3.1)
  spell_bare (grammar.while n0 n1 n2) h = let k0 = keep_next n0 h in let k1 = spell_condition n1 k0 in let k2 = spell_stmt n2 k1.1 in (while_spelled _ _ k1.0 k2.0, k2.1)
  spell_bare (grammar.do_while n0 n1 n2) h = let k0 = keep_next n0 h in let k1 = spell_stmt n1 k0 in let k2 = spell_do_end n2 k1.1 in (do_spelled _ _ k1.0 k2.0, k2.1)
  spell_bare (grammar.for_loop n0 n1 n2 n3 n4 n5) h = let k0 = keep_next n0 h in let k1 = keep_next n1 k0 in let k2 = spell_first n2 k1 in let k3 = spell_test n3 k2.1 in let k4 = spell_last n4 k3.1 in let k5 = spell_stmt n5 k4.1 in (for_spelled _ _ _ _ k2.0 k3.0 k4.0 k5.0, k5.1)
  spell_bare (grammar.leave_loop n0 n1) h = let k0 = keep_next n0 h in let k1 = keep_next n1 k0 in (break_spelled, k1)
  spell_bare (grammar.next_round n0 n1) h = let k0 = keep_next n0 h in let k1 = keep_next n1 k0 in (continue_spelled, k1)
  spell_bare (grammar.leave n0 n1) h = let k0 = keep_next n0 h in let k1 = spell_value n1 k0 in (return_spelled _ k1.0, k1.1)

  pub spell_stmt : {d : ℕ} {a b : Nesting} {ts rest : List Terminal} {p : RawPlaced} → ReadsStmt d a ts p rest b → IsPlain ts → (is_spelled p ≡ true) × IsPlain rest
  spell_stmt {ts = ts} (grammar.stmt {s = s} n0) h = let k0 = spell_bare n0 h in (placed_spelled ts s k0.0, k0.1)

  pub spell_else : {d : ℕ} {a b : Nesting} {ts rest : List Terminal} {j : Option RawPlaced} → ReadsElse d a ts j rest b → IsPlain ts → (option_map_or (λ s. s.spelled) (option_map spelling_of j) true ≡ true) × IsPlain rest
  spell_else (grammar.no_else n0) h = (refl, h)
  spell_else (grammar.otherwise n0 n1) h = let k0 = keep_next n0 h in let k1 = spell_stmt n1 k0 in (k1.0, k1.1)

  pub spell_items : {d : ℕ} {a b : Nesting} {ts rest : List Terminal} {ps : List RawPlaced} {here : Place} → ReadsItems d a ts ps here rest b → IsPlain ts → (list_all is_spelled ps ≡ true) × IsPlain rest
  spell_items (grammar.close n0) h = let k0 = keep_next n0 h in (refl, k0)
  spell_items (grammar.one_decl n0 n1) h = let k0 = spell_decl n0 h in let k1 = spell_items n1 k0.1 in (list_all-append is_spelled _ _ ∙ and_from _ _ k0.0 k1.0, k1.1)
  spell_items (grammar.one_stmt n0 n1) h = let k0 = spell_stmt n0 h in let k1 = spell_items n1 k0.1 in (and_from _ _ k0.0 k1.0, k1.1)
