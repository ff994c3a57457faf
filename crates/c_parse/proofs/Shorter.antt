-- A reading takes tokens off.
use Rattle.std.proofs.Common.{◌<◌, ◌≤◌, arith, ℕ, Bool, ℤ, List, length, Option}
use Rattle.gob_tree.specs.declared.expr.Width.{Width}
use Rattle.gob_tree.specs.declared.place.Place.{Place}
use Rattle.c_parse.specs.declared.terminal.Terminal.{Terminal}
use Rattle.c_parse.specs.declared.raw.expr.RawName.{RawName}
use Rattle.c_parse.specs.declared.raw.expr.RawExpr.{RawExpr}
use Rattle.c_parse.specs.declared.raw.stmt.RawReturn.{RawReturn}
use Rattle.c_parse.specs.declared.raw.stmt.RawStmt.{RawStmt}
use Rattle.c_parse.specs.declared.raw.stmt.RawPlaced.{RawPlaced}
use Rattle.c_parse.specs.declared.raw.unit.RawHead.{RawHead}
use Rattle.c_parse.specs.declared.raw.unit.RawItem.{RawItem}
use Rattle.c_parse.specs.Grammar as grammar
use Rattle.c_parse.specs.Grammar.{Nesting, counted, entered, settled, ended, within, operator, top, begins_with, is_open_paren, is_equals, is_int, is_else, EndsChain, Next, ReadsName, ReadsOperator, ReadsLevel, ReadsChain, ReadsCall, ReadsArgs, ReadsMoreArgs, ReadsWhole, ReadsCondition, ReadsInitial, ReadsLongTail, ReadsType, ReadsLocals, ReadsMoreLocals, ReadsNumbers, ReadsThreads, ReadsMoreThreads, ReadsDecl, ReadsAfterName, ReadsHandle, ReadsSimple, ReadsValue, ReadsFirst, ReadsTest, ReadsLast, ReadsDoEnd, ReadsBare, ReadsStmt, ReadsElse, ReadsItems, ReadsLiteral, ReadsGlobals, ReadsMoreGlobals, ReadsAfterHead, ReadsParam, ReadsParamName, ReadsMoreParams, ReadsParams, ReadsThreadParam, ReadsThreadVoid, ReadsThreadName, ReadsVoided, ReadsNamed, ReadsTyped, ReadsMutexName, ReadsOuter, ReadsItem, ReadsUnit}
use Rattle.c_parse.proofs.Descent.{shorter_next, shorter_name, shorter_level, shorter_args}

pub shorter_whole : {q0 q4 : Nesting} {ts rest : List Terminal} {q2 : RawExpr} → ReadsWhole q0 ts q2 rest q4 → length rest < length ts
shorter_whole (grammar.whole n0) = let k1 = shorter_level n0 in omega (arith, k1)

pub shorter_condition : {q0 q4 : Nesting} {ts rest : List Terminal} {q2 : RawExpr} → ReadsCondition q0 ts q2 rest q4 → length rest < length ts
shorter_condition (grammar.condition n0 n1 n2) = let k1 = shorter_next n0 in let k2 = shorter_whole n1 in let k3 = shorter_next n2 in omega (arith, k1, k2, k3)

pub shorter_initial : {q0 q4 : Nesting} {ts rest : List Terminal} {q2 : Option RawExpr} → ReadsInitial q0 ts q2 rest q4 → length rest ≤ length ts
shorter_initial (grammar.no_initial n0) = omega arith
shorter_initial (grammar.initial n0 n1) = let k1 = shorter_next n0 in let k2 = shorter_whole n1 in omega (arith, k1, k2)

pub shorter_long_tail : {ts rest : List Terminal} → ReadsLongTail ts rest → length rest ≤ length ts
shorter_long_tail (grammar.long n0) = omega arith
shorter_long_tail (grammar.long_int n0) = let k1 = shorter_next n0 in omega (arith, k1)

pub shorter_type : {ts rest : List Terminal} {q1 : Width} → ReadsType ts q1 rest → length rest < length ts
shorter_type (grammar.int_type n0) = let k1 = shorter_next n0 in omega (arith, k1)
shorter_type (grammar.long_type n0 n1) = let k1 = shorter_next n0 in let k2 = shorter_long_tail n1 in omega (arith, k1, k2)

mutual
  pub shorter_locals : {q0 : Place} {q1 : Width} {q2 q6 : Nesting} {ts rest : List Terminal} {q4 : List RawPlaced} → ReadsLocals q0 q1 q2 ts q4 rest q6 → length rest < length ts
  shorter_locals (grammar.locals n0 n1 n2) = let k1 = shorter_name n0 in let k2 = shorter_initial n1 in let k3 = shorter_more_locals n2 in omega (arith, k1, k2, k3)

  pub shorter_more_locals : {q0 : Width} {q1 q5 : Nesting} {ts rest : List Terminal} {q3 : List RawPlaced} → ReadsMoreLocals q0 q1 ts q3 rest q5 → length rest < length ts
  shorter_more_locals (grammar.last_local n0) = let k1 = shorter_next n0 in omega (arith, k1)
  shorter_more_locals (grammar.next_local n0 n1) = let k1 = shorter_next n0 in let k2 = shorter_locals n1 in omega (arith, k1, k2)

pub shorter_numbers : {q0 q4 : Nesting} {ts rest : List Terminal} {q2 : List RawPlaced} → ReadsNumbers q0 ts q2 rest q4 → length rest < length ts
shorter_numbers (grammar.numbers n0 n1) = let k1 = shorter_type n0 in let k2 = shorter_locals n1 in omega (arith, k1, k2)

mutual
  pub shorter_threads : {q0 : Place} {ts rest : List Terminal} {q2 : List RawPlaced} → ReadsThreads q0 ts q2 rest → length rest < length ts
  shorter_threads (grammar.threads n0 n1) = let k1 = shorter_name n0 in let k2 = shorter_more_threads n1 in omega (arith, k1, k2)

  pub shorter_more_threads : {ts rest : List Terminal} {q1 : List RawPlaced} → ReadsMoreThreads ts q1 rest → length rest < length ts
  shorter_more_threads (grammar.last_thread n0) = let k1 = shorter_next n0 in omega (arith, k1)
  shorter_more_threads (grammar.next_thread n0 n1) = let k1 = shorter_next n0 in let k2 = shorter_threads n1 in omega (arith, k1, k2)

pub shorter_decl : {q0 q4 : Nesting} {ts rest : List Terminal} {q2 : List RawPlaced} → ReadsDecl q0 ts q2 rest q4 → length rest < length ts
shorter_decl (grammar.number_decl n0) = let k1 = shorter_numbers n0 in omega (arith, k1)
shorter_decl (grammar.thread_decl n0 n1) = let k1 = shorter_next n0 in let k2 = shorter_threads n1 in omega (arith, k1, k2)

pub shorter_after_name : {q0 : RawName} {q1 q5 : Nesting} {ts rest : List Terminal} {q3 : RawStmt} → ReadsAfterName q0 q1 ts q3 rest q5 → length rest < length ts
shorter_after_name (grammar.assigned n0 n1) = let k1 = shorter_next n0 in let k2 = shorter_whole n1 in omega (arith, k1, k2)
shorter_after_name (grammar.updated n0 n1) = let k1 = shorter_next n0 in let k2 = shorter_whole n1 in omega (arith, k1, k2)
shorter_after_name (grammar.stepped n0) = let k1 = shorter_next n0 in omega (arith, k1)
shorter_after_name (grammar.called n0 n1) = let k1 = shorter_next n0 in let k2 = shorter_args n1 in omega (arith, k1, k2)

pub shorter_handle : {ts rest : List Terminal} {q1 : RawName} → ReadsHandle ts q1 rest → length rest < length ts
shorter_handle (grammar.handle n0 n1 n2 n3) = let k1 = shorter_next n0 in let k2 = shorter_next n1 in let k3 = shorter_name n2 in let k4 = shorter_next n3 in omega (arith, k1, k2, k3, k4)

pub shorter_simple : {q0 q4 : Nesting} {ts rest : List Terminal} {q2 : RawStmt} → ReadsSimple q0 ts q2 rest q4 → length rest < length ts
shorter_simple (grammar.named n0 n1) = let k1 = shorter_name n0 in let k2 = shorter_after_name n1 in omega (arith, k1, k2)
shorter_simple (grammar.step n0 n1) = let k1 = shorter_next n0 in let k2 = shorter_name n1 in omega (arith, k1, k2)
shorter_simple (grammar.asserts n0 n1) = let k1 = shorter_next n0 in let k2 = shorter_condition n1 in omega (arith, k1, k2)
shorter_simple (grammar.create n0 n1 n2 n3 n4 n5 n6 n7 n8 n9 n10) = let k1 = shorter_next n0 in let k2 = shorter_next n1 in let k3 = shorter_next n2 in let k4 = shorter_name n3 in let k5 = shorter_next n4 in let k6 = shorter_next n5 in let k7 = shorter_next n6 in let k8 = shorter_name n7 in let k9 = shorter_next n8 in let k10 = shorter_next n9 in let k11 = shorter_next n10 in omega (arith, k1, k2, k3, k4, k5, k6, k7, k8, k9, k10, k11)
shorter_simple (grammar.join n0 n1 n2 n3 n4 n5) = let k1 = shorter_next n0 in let k2 = shorter_next n1 in let k3 = shorter_name n2 in let k4 = shorter_next n3 in let k5 = shorter_next n4 in let k6 = shorter_next n5 in omega (arith, k1, k2, k3, k4, k5, k6)
shorter_simple (grammar.lock n0 n1) = let k1 = shorter_next n0 in let k2 = shorter_handle n1 in omega (arith, k1, k2)
shorter_simple (grammar.unlock n0 n1) = let k1 = shorter_next n0 in let k2 = shorter_handle n1 in omega (arith, k1, k2)

pub shorter_value : {q0 q4 : Nesting} {ts rest : List Terminal} {q2 : RawReturn} → ReadsValue q0 ts q2 rest q4 → length rest < length ts
shorter_value (grammar.plain n0) = let k1 = shorter_next n0 in omega (arith, k1)
shorter_value (grammar.null n0 n1) = let k1 = shorter_next n0 in let k2 = shorter_next n1 in omega (arith, k1, k2)
shorter_value (grammar.value n0 n1) = let k1 = shorter_whole n0 in let k2 = shorter_next n1 in omega (arith, k1, k2)

pub shorter_first : {q0 q4 : Nesting} {ts rest : List Terminal} {q2 : List RawPlaced} → ReadsFirst q0 ts q2 rest q4 → length rest < length ts
shorter_first (grammar.no_first n0) = let k1 = shorter_next n0 in omega (arith, k1)
shorter_first (grammar.number_first n0) = let k1 = shorter_numbers n0 in omega (arith, k1)
shorter_first (grammar.simple_first n0 n1) = let k1 = shorter_simple n0 in let k2 = shorter_next n1 in omega (arith, k1, k2)

pub shorter_test : {q0 q4 : Nesting} {ts rest : List Terminal} {q2 : Option RawExpr} → ReadsTest q0 ts q2 rest q4 → length rest < length ts
shorter_test (grammar.no_test n0) = let k1 = shorter_next n0 in omega (arith, k1)
shorter_test (grammar.test n0 n1) = let k1 = shorter_whole n0 in let k2 = shorter_next n1 in omega (arith, k1, k2)

pub shorter_last : {q0 q4 : Nesting} {ts rest : List Terminal} {q2 : Option RawPlaced} → ReadsLast q0 ts q2 rest q4 → length rest < length ts
shorter_last (grammar.no_last n0) = let k1 = shorter_next n0 in omega (arith, k1)
shorter_last (grammar.last n0 n1) = let k1 = shorter_simple n0 in let k2 = shorter_next n1 in omega (arith, k1, k2)

pub shorter_do_end : {q0 q4 : Nesting} {ts rest : List Terminal} {q2 : RawExpr} → ReadsDoEnd q0 ts q2 rest q4 → length rest < length ts
shorter_do_end (grammar.do_end n0 n1 n2) = let k1 = shorter_next n0 in let k2 = shorter_condition n1 in let k3 = shorter_next n2 in omega (arith, k1, k2, k3)

mutual
  pub shorter_bare : {q0 : ℕ} {q1 q5 : Nesting} {ts rest : List Terminal} {q3 : RawStmt} → ReadsBare q0 q1 ts q3 rest q5 → length rest < length ts
  shorter_bare (grammar.empty n0) = let k1 = shorter_next n0 in omega (arith, k1)
  shorter_bare (grammar.block n0 n1) = let k1 = shorter_next n0 in let k2 = shorter_items n1 in omega (arith, k1, k2)
  shorter_bare (grammar.simple n0 n1) = let k1 = shorter_simple n0 in let k2 = shorter_next n1 in omega (arith, k1, k2)
  shorter_bare (grammar.if_then n0 n1 n2 n3) = let k1 = shorter_next n0 in let k2 = shorter_condition n1 in let k3 = shorter_stmt n2 in let k4 = shorter_else n3 in omega (arith, k1, k2, k3, k4)
  shorter_bare (grammar.while n0 n1 n2) = let k1 = shorter_next n0 in let k2 = shorter_condition n1 in let k3 = shorter_stmt n2 in omega (arith, k1, k2, k3)
  shorter_bare (grammar.do_while n0 n1 n2) = let k1 = shorter_next n0 in let k2 = shorter_stmt n1 in let k3 = shorter_do_end n2 in omega (arith, k1, k2, k3)
  shorter_bare (grammar.for_loop n0 n1 n2 n3 n4 n5) = let k1 = shorter_next n0 in let k2 = shorter_next n1 in let k3 = shorter_first n2 in let k4 = shorter_test n3 in let k5 = shorter_last n4 in let k6 = shorter_stmt n5 in omega (arith, k1, k2, k3, k4, k5, k6)
  shorter_bare (grammar.leave_loop n0 n1) = let k1 = shorter_next n0 in let k2 = shorter_next n1 in omega (arith, k1, k2)
  shorter_bare (grammar.next_round n0 n1) = let k1 = shorter_next n0 in let k2 = shorter_next n1 in omega (arith, k1, k2)
  shorter_bare (grammar.leave n0 n1) = let k1 = shorter_next n0 in let k2 = shorter_value n1 in omega (arith, k1, k2)

  pub shorter_stmt : {q0 : ℕ} {q1 q5 : Nesting} {ts rest : List Terminal} {q3 : RawPlaced} → ReadsStmt q0 q1 ts q3 rest q5 → length rest < length ts
  shorter_stmt (grammar.stmt n0) = let k1 = shorter_bare n0 in omega (arith, k1)

  pub shorter_else : {q0 : ℕ} {q1 q5 : Nesting} {ts rest : List Terminal} {q3 : Option RawPlaced} → ReadsElse q0 q1 ts q3 rest q5 → length rest ≤ length ts
  shorter_else (grammar.no_else n0) = omega arith
  shorter_else (grammar.otherwise n0 n1) = let k1 = shorter_next n0 in let k2 = shorter_stmt n1 in omega (arith, k1, k2)

  pub shorter_items : {q0 : ℕ} {q1 q6 : Nesting} {ts rest : List Terminal} {q3 : List RawPlaced} {q4 : Place} → ReadsItems q0 q1 ts q3 q4 rest q6 → length rest < length ts
  shorter_items (grammar.close n0) = let k1 = shorter_next n0 in omega (arith, k1)
  shorter_items (grammar.one_decl n0 n1) = let k1 = shorter_decl n0 in let k2 = shorter_items n1 in omega (arith, k1, k2)
  shorter_items (grammar.one_stmt n0 n1) = let k1 = shorter_stmt n0 in let k2 = shorter_items n1 in omega (arith, k1, k2)

pub shorter_literal : {ts rest : List Terminal} {q1 : ℤ} {q2 : Place} → ReadsLiteral ts q1 q2 rest → length rest < length ts
shorter_literal (grammar.literal n0) = let k1 = shorter_next n0 in omega (arith, k1)
shorter_literal (grammar.negative n0 n1) = let k1 = shorter_next n0 in let k2 = shorter_next n1 in omega (arith, k1, k2)

mutual
  pub shorter_globals : {q0 : Width} {q1 : RawName} {ts rest : List Terminal} {q3 : List RawItem} → ReadsGlobals q0 q1 ts q3 rest → length rest < length ts
  shorter_globals (grammar.given n0 n1 n2) = let k1 = shorter_next n0 in let k2 = shorter_literal n1 in let k3 = shorter_more_globals n2 in omega (arith, k1, k2, k3)
  shorter_globals (grammar.unset n0) = let k1 = shorter_more_globals n0 in omega (arith, k1)

  pub shorter_more_globals : {q0 : Width} {ts rest : List Terminal} {q2 : List RawItem} → ReadsMoreGlobals q0 ts q2 rest → length rest < length ts
  shorter_more_globals (grammar.last_global n0) = let k1 = shorter_next n0 in omega (arith, k1)
  shorter_more_globals (grammar.next_global n0 n1 n2) = let k1 = shorter_next n0 in let k2 = shorter_name n1 in let k3 = shorter_globals n2 in omega (arith, k1, k2, k3)

pub shorter_after_head : {q0 : RawHead} {q1 : Bool} {q2 q6 : Nesting} {ts rest : List Terminal} {q4 : List RawItem} → ReadsAfterHead q0 q1 q2 ts q4 rest q6 → length rest < length ts
shorter_after_head (grammar.prototype n0) = let k1 = shorter_next n0 in omega (arith, k1)
shorter_after_head (grammar.body n0 n1) = let k1 = shorter_next n0 in let k2 = shorter_items n1 in omega (arith, k1, k2)

mutual
  pub shorter_param : {q0 : RawHead} {q1 : Bool} {q2 q6 : Nesting} {ts rest : List Terminal} {q4 : List RawItem} → ReadsParam q0 q1 q2 ts q4 rest q6 → length rest < length ts
  shorter_param (grammar.param n0 n1) = let k1 = shorter_type n0 in let k2 = shorter_param_name n1 in omega (arith, k1, k2)

  pub shorter_param_name : {q0 : RawHead} {q1 : Bool} {q2 : Width} {q3 q7 : Nesting} {ts rest : List Terminal} {q5 : List RawItem} → ReadsParamName q0 q1 q2 q3 ts q5 rest q7 → length rest < length ts
  shorter_param_name (grammar.with_name n0 n1) = let k1 = shorter_name n0 in let k2 = shorter_more_params n1 in omega (arith, k1, k2)
  shorter_param_name (grammar.without_name n0) = let k1 = shorter_more_params n0 in omega (arith, k1)

  pub shorter_more_params : {q0 : RawHead} {q1 : Bool} {q2 q6 : Nesting} {ts rest : List Terminal} {q4 : List RawItem} → ReadsMoreParams q0 q1 q2 ts q4 rest q6 → length rest < length ts
  shorter_more_params (grammar.next_param n0 n1) = let k1 = shorter_next n0 in let k2 = shorter_param n1 in omega (arith, k1, k2)
  shorter_more_params (grammar.last_param n0 n1) = let k1 = shorter_next n0 in let k2 = shorter_after_head n1 in omega (arith, k1, k2)

pub shorter_params : {q0 : RawHead} {q1 : Bool} {q2 q6 : Nesting} {ts rest : List Terminal} {q4 : List RawItem} → ReadsParams q0 q1 q2 ts q4 rest q6 → length rest < length ts
shorter_params (grammar.no_params n0 n1) = let k1 = shorter_next n0 in let k2 = shorter_after_head n1 in omega (arith, k1, k2)
shorter_params (grammar.void_params n0 n1 n2) = let k1 = shorter_next n0 in let k2 = shorter_next n1 in let k3 = shorter_after_head n2 in omega (arith, k1, k2, k3)
shorter_params (grammar.some_params n0) = let k1 = shorter_param n0 in omega (arith, k1)

pub shorter_thread_param : {q0 : RawName} {q1 : Bool} {q2 q6 : Nesting} {ts rest : List Terminal} {q4 : List RawItem} → ReadsThreadParam q0 q1 q2 ts q4 rest q6 → length rest < length ts
shorter_thread_param (grammar.named_param n0 n1 n2) = let k1 = shorter_name n0 in let k2 = shorter_next n1 in let k3 = shorter_after_head n2 in omega (arith, k1, k2, k3)
shorter_thread_param (grammar.unnamed_param n0 n1) = let k1 = shorter_next n0 in let k2 = shorter_after_head n1 in omega (arith, k1, k2)

pub shorter_thread_void : {q0 : RawName} {q1 : Bool} {q2 q6 : Nesting} {ts rest : List Terminal} {q4 : List RawItem} → ReadsThreadVoid q0 q1 q2 ts q4 rest q6 → length rest < length ts
shorter_thread_void (grammar.thread_void n0 n1 n2) = let k1 = shorter_next n0 in let k2 = shorter_next n1 in let k3 = shorter_thread_param n2 in omega (arith, k1, k2, k3)

pub shorter_thread_name : {q0 : Bool} {q1 q5 : Nesting} {ts rest : List Terminal} {q3 : List RawItem} → ReadsThreadName q0 q1 ts q3 rest q5 → length rest < length ts
shorter_thread_name (grammar.thread_name n0 n1 n2) = let k1 = shorter_name n0 in let k2 = shorter_next n1 in let k3 = shorter_thread_void n2 in omega (arith, k1, k2, k3)

pub shorter_voided : {q0 : Bool} {q1 q5 : Nesting} {ts rest : List Terminal} {q3 : List RawItem} → ReadsVoided q0 q1 ts q3 rest q5 → length rest < length ts
shorter_voided (grammar.void_function n0 n1 n2) = let k1 = shorter_name n0 in let k2 = shorter_next n1 in let k3 = shorter_params n2 in omega (arith, k1, k2, k3)
shorter_voided (grammar.thread_function n0 n1) = let k1 = shorter_next n0 in let k2 = shorter_thread_name n1 in omega (arith, k1, k2)

pub shorter_named : {q0 : Bool} {q1 : Width} {q2 : RawName} {q3 q7 : Nesting} {ts rest : List Terminal} {q5 : List RawItem} → ReadsNamed q0 q1 q2 q3 ts q5 rest q7 → length rest < length ts
shorter_named (grammar.number_function n0 n1) = let k1 = shorter_next n0 in let k2 = shorter_params n1 in omega (arith, k1, k2)
shorter_named (grammar.globals n0) = let k1 = shorter_globals n0 in omega (arith, k1)

pub shorter_typed : {q0 : Bool} {q1 : Width} {q2 q6 : Nesting} {ts rest : List Terminal} {q4 : List RawItem} → ReadsTyped q0 q1 q2 ts q4 rest q6 → length rest < length ts
shorter_typed (grammar.typed n0 n1) = let k1 = shorter_name n0 in let k2 = shorter_named n1 in omega (arith, k1, k2)

pub shorter_mutex_name : {ts rest : List Terminal} {q1 : List RawItem} → ReadsMutexName ts q1 rest → length rest < length ts
shorter_mutex_name (grammar.mutex_name n0 n1 n2 n3) = let k1 = shorter_name n0 in let k2 = shorter_next n1 in let k3 = shorter_next n2 in let k4 = shorter_next n3 in omega (arith, k1, k2, k3, k4)

pub shorter_outer : {q0 : Bool} {q1 q5 : Nesting} {ts rest : List Terminal} {q3 : List RawItem} → ReadsOuter q0 q1 ts q3 rest q5 → length rest < length ts
shorter_outer (grammar.number_item n0 n1) = let k1 = shorter_type n0 in let k2 = shorter_typed n1 in omega (arith, k1, k2)
shorter_outer (grammar.void_item n0 n1) = let k1 = shorter_next n0 in let k2 = shorter_voided n1 in omega (arith, k1, k2)
shorter_outer (grammar.mutex_item n0 n1) = let k1 = shorter_next n0 in let k2 = shorter_mutex_name n1 in omega (arith, k1, k2)

pub shorter_item : {q0 q4 : Nesting} {ts rest : List Terminal} {q2 : List RawItem} → ReadsItem q0 ts q2 rest q4 → length rest < length ts
shorter_item (grammar.static_item n0 n1) = let k1 = shorter_next n0 in let k2 = shorter_outer n1 in omega (arith, k1, k2)
shorter_item (grammar.extern_item n0 n1) = let k1 = shorter_next n0 in let k2 = shorter_outer n1 in omega (arith, k1, k2)
shorter_item (grammar.plain_item n0) = let k1 = shorter_outer n0 in omega (arith, k1)
