-- What is left behind a reading has no negative number where its tokens have none.
use Rattle.std.proofs.Common.{◌≡◌, ◌≤ℤ◌, pos, subst, ℕ, Bool, ℤ, List, ◌∷◌, Option}
use Rattle.gob_tree.specs.declared.expr.Width.{Width}
use Rattle.gob_tree.specs.declared.place.Place.{Place}
use Rattle.gob_tree.specs.declared.expr.BinOp.{BinOp}
use Rattle.c_parse.specs.declared.terminal.Kind.{Kind}
use Rattle.c_parse.specs.declared.terminal.Terminal.{Terminal}
use Rattle.c_parse.specs.declared.raw.expr.RawName.{RawName}
use Rattle.c_parse.specs.declared.raw.expr.RawExpr.{RawExpr}
use Rattle.c_parse.specs.declared.raw.stmt.RawReturn.{RawReturn}
use Rattle.c_parse.specs.declared.raw.stmt.RawStmt.{RawStmt}
use Rattle.c_parse.specs.declared.raw.stmt.RawPlaced.{RawPlaced}
use Rattle.c_parse.specs.declared.raw.unit.RawHead.{RawHead}
use Rattle.c_parse.specs.declared.raw.unit.RawItem.{RawItem}
use Rattle.c_parse.specs.Grammar as grammar
use Rattle.c_parse.specs.Grammar.{Nesting, Next, ReadsName, ReadsOperator, ReadsLevel, ReadsChain, ReadsCall, ReadsArgs, ReadsMoreArgs, ReadsWhole, ReadsCondition, ReadsInitial, ReadsLongTail, ReadsType, ReadsLocals, ReadsMoreLocals, ReadsNumbers, ReadsThreads, ReadsMoreThreads, ReadsDecl, ReadsAfterName, ReadsHandle, ReadsSimple, ReadsValue, ReadsFirst, ReadsTest, ReadsLast, ReadsDoEnd, ReadsBare, ReadsStmt, ReadsElse, ReadsItems, ReadsLiteral, ReadsGlobals, ReadsMoreGlobals, ReadsAfterHead, ReadsParam, ReadsParamName, ReadsMoreParams, ReadsParams, ReadsThreadParam, ReadsThreadVoid, ReadsThreadName, ReadsVoided, ReadsNamed, ReadsTyped, ReadsMutexName, ReadsOuter, ReadsItem}
use Rattle.c_parse.specs.Literals.{ReadsNumber}
use Rattle.c_parse.specs.Unsigned.{IsUnsigned, AreUnsigned}

pub unsigned_rest : {ts us : List Terminal} {t : Terminal} → ts ≡ t ∷ us → AreUnsigned ts → AreUnsigned us
unsigned_rest {us = us} {t = t} q u = let w : AreUnsigned (t ∷ us) = subst AreUnsigned q u in w.1

unsigned_next : {k : Kind} {ts rest : List Terminal} → Next k ts rest → AreUnsigned ts → IsUnsigned k
unsigned_next (grammar.next h) u = subst IsUnsigned h u.0

pub unsigned_number : {ts rest : List Terminal} {v : ℤ} {here : Place} → AreUnsigned ts → ReadsNumber ts v here rest → pos 0 ≤ℤ v
unsigned_number u d = unsigned_next d.next u

pub kept_next : {k : Kind} {ts rest : List Terminal} → Next k ts rest → AreUnsigned ts → AreUnsigned rest
kept_next (grammar.next h) u = u.1

pub kept_name : {x : RawName} {ts rest : List Terminal} → ReadsName ts x rest → AreUnsigned ts → AreUnsigned rest
kept_name (grammar.ident h) u = u.1

kept_operator : {l : ℕ} {op : BinOp} {ts rest : List Terminal} → ReadsOperator l op ts rest → AreUnsigned ts → AreUnsigned rest
kept_operator (grammar.operates h) u = u.1

mutual
  pub kept_level : {l : ℕ} {a b : Nesting} {ts rest : List Terminal} {e : RawExpr} → ReadsLevel l a ts e rest b → AreUnsigned ts → AreUnsigned rest
  kept_level (grammar.number n) u = kept_next n u
  kept_level (grammar.name n c) u = kept_call c (kept_name n u)
  kept_level (grammar.minus n d) u = kept_level d (kept_next n u)
  kept_level (grammar.plus n d) u = kept_level d (kept_next n u)
  kept_level (grammar.negation n d) u = kept_level d (kept_next n u)
  kept_level (grammar.group n d i) u = kept_next i (kept_level d (kept_next n u))
  kept_level (grammar.chain d c) u = kept_chain c (kept_level d u)

  kept_chain : {l : ℕ} {a b : Nesting} {ts rest : List Terminal} {left e : RawExpr} → ReadsChain l left a ts e rest b → AreUnsigned ts → AreUnsigned rest
  kept_chain (grammar.ends h) u = u
  kept_chain (grammar.more h d c) u = kept_chain c (kept_level d (kept_operator h u))

  kept_call : {x : RawName} {a b : Nesting} {ts rest : List Terminal} {e : RawExpr} → ReadsCall x a ts e rest b → AreUnsigned ts → AreUnsigned rest
  kept_call (grammar.no_call h) u = u
  kept_call (grammar.call n d) u = kept_args d (kept_next n u)

  pub kept_args : {alone : Bool} {a b : Nesting} {ts rest : List Terminal} {es : List RawExpr} → ReadsArgs alone a ts es rest b → AreUnsigned ts → AreUnsigned rest
  kept_args (grammar.no_args n) u = kept_next n u
  kept_args (grammar.first_arg d m) u = kept_more_args m (kept_level d u)

  kept_more_args : {alone : Bool} {a b : Nesting} {ts rest : List Terminal} {es : List RawExpr} → ReadsMoreArgs alone a ts es rest b → AreUnsigned ts → AreUnsigned rest
  kept_more_args (grammar.last_arg n) u = kept_next n u
  kept_more_args (grammar.next_arg n d m) u = kept_more_args m (kept_level d (kept_next n u))

pub kept_whole : {q0 q4 : Nesting} {ts rest : List Terminal} {q2 : RawExpr} → ReadsWhole q0 ts q2 rest q4 → AreUnsigned ts → AreUnsigned rest
kept_whole (grammar.whole n0) u = kept_level n0 u

pub kept_condition : {q0 q4 : Nesting} {ts rest : List Terminal} {q2 : RawExpr} → ReadsCondition q0 ts q2 rest q4 → AreUnsigned ts → AreUnsigned rest
kept_condition (grammar.condition n0 n1 n2) u = kept_next n2 (kept_whole n1 (kept_next n0 u))

pub kept_initial : {q0 q4 : Nesting} {ts rest : List Terminal} {q2 : Option RawExpr} → ReadsInitial q0 ts q2 rest q4 → AreUnsigned ts → AreUnsigned rest
kept_initial (grammar.no_initial n0) u = u
kept_initial (grammar.initial n0 n1) u = kept_whole n1 (kept_next n0 u)

pub kept_long_tail : {ts rest : List Terminal} → ReadsLongTail ts rest → AreUnsigned ts → AreUnsigned rest
kept_long_tail (grammar.long n0) u = u
kept_long_tail (grammar.long_int n0) u = kept_next n0 u

pub kept_type : {ts rest : List Terminal} {q1 : Width} → ReadsType ts q1 rest → AreUnsigned ts → AreUnsigned rest
kept_type (grammar.int_type n0) u = kept_next n0 u
kept_type (grammar.long_type n0 n1) u = kept_long_tail n1 (kept_next n0 u)

mutual
  pub kept_locals : {q0 : Place} {q1 : Width} {q2 q6 : Nesting} {ts rest : List Terminal} {q4 : List RawPlaced} → ReadsLocals q0 q1 q2 ts q4 rest q6 → AreUnsigned ts → AreUnsigned rest
  kept_locals (grammar.locals n0 n1 n2) u = kept_more_locals n2 (kept_initial n1 (kept_name n0 u))

  pub kept_more_locals : {q0 : Width} {q1 q5 : Nesting} {ts rest : List Terminal} {q3 : List RawPlaced} → ReadsMoreLocals q0 q1 ts q3 rest q5 → AreUnsigned ts → AreUnsigned rest
  kept_more_locals (grammar.last_local n0) u = kept_next n0 u
  kept_more_locals (grammar.next_local n0 n1) u = kept_locals n1 (kept_next n0 u)

pub kept_numbers : {q0 q4 : Nesting} {ts rest : List Terminal} {q2 : List RawPlaced} → ReadsNumbers q0 ts q2 rest q4 → AreUnsigned ts → AreUnsigned rest
kept_numbers (grammar.numbers n0 n1) u = kept_locals n1 (kept_type n0 u)

mutual
  pub kept_threads : {q0 : Place} {ts rest : List Terminal} {q2 : List RawPlaced} → ReadsThreads q0 ts q2 rest → AreUnsigned ts → AreUnsigned rest
  kept_threads (grammar.threads n0 n1) u = kept_more_threads n1 (kept_name n0 u)

  pub kept_more_threads : {ts rest : List Terminal} {q1 : List RawPlaced} → ReadsMoreThreads ts q1 rest → AreUnsigned ts → AreUnsigned rest
  kept_more_threads (grammar.last_thread n0) u = kept_next n0 u
  kept_more_threads (grammar.next_thread n0 n1) u = kept_threads n1 (kept_next n0 u)

pub kept_decl : {q0 q4 : Nesting} {ts rest : List Terminal} {q2 : List RawPlaced} → ReadsDecl q0 ts q2 rest q4 → AreUnsigned ts → AreUnsigned rest
kept_decl (grammar.number_decl n0) u = kept_numbers n0 u
kept_decl (grammar.thread_decl n0 n1) u = kept_threads n1 (kept_next n0 u)

pub kept_after_name : {q0 : RawName} {q1 q5 : Nesting} {ts rest : List Terminal} {q3 : RawStmt} → ReadsAfterName q0 q1 ts q3 rest q5 → AreUnsigned ts → AreUnsigned rest
kept_after_name (grammar.assigned n0 n1) u = kept_whole n1 (kept_next n0 u)
kept_after_name (grammar.updated n0 n1) u = kept_whole n1 (kept_next n0 u)
kept_after_name (grammar.stepped n0) u = kept_next n0 u
kept_after_name (grammar.called n0 n1) u = kept_args n1 (kept_next n0 u)

pub kept_handle : {ts rest : List Terminal} {q1 : RawName} → ReadsHandle ts q1 rest → AreUnsigned ts → AreUnsigned rest
kept_handle (grammar.handle n0 n1 n2 n3) u = kept_next n3 (kept_name n2 (kept_next n1 (kept_next n0 u)))

pub kept_simple : {q0 q4 : Nesting} {ts rest : List Terminal} {q2 : RawStmt} → ReadsSimple q0 ts q2 rest q4 → AreUnsigned ts → AreUnsigned rest
kept_simple (grammar.named n0 n1) u = kept_after_name n1 (kept_name n0 u)
kept_simple (grammar.step n0 n1) u = kept_name n1 (kept_next n0 u)
kept_simple (grammar.asserts n0 n1) u = kept_condition n1 (kept_next n0 u)
kept_simple (grammar.create n0 n1 n2 n3 n4 n5 n6 n7 n8 n9 n10) u = kept_next n10 (kept_next n9 (kept_next n8 (kept_name n7 (kept_next n6 (kept_next n5 (kept_next n4 (kept_name n3 (kept_next n2 (kept_next n1 (kept_next n0 u))))))))))
kept_simple (grammar.join n0 n1 n2 n3 n4 n5) u = kept_next n5 (kept_next n4 (kept_next n3 (kept_name n2 (kept_next n1 (kept_next n0 u)))))
kept_simple (grammar.lock n0 n1) u = kept_handle n1 (kept_next n0 u)
kept_simple (grammar.unlock n0 n1) u = kept_handle n1 (kept_next n0 u)

pub kept_value : {q0 q4 : Nesting} {ts rest : List Terminal} {q2 : RawReturn} → ReadsValue q0 ts q2 rest q4 → AreUnsigned ts → AreUnsigned rest
kept_value (grammar.plain n0) u = kept_next n0 u
kept_value (grammar.null n0 n1) u = kept_next n1 (kept_next n0 u)
kept_value (grammar.value n0 n1) u = kept_next n1 (kept_whole n0 u)

pub kept_first : {q0 q4 : Nesting} {ts rest : List Terminal} {q2 : List RawPlaced} → ReadsFirst q0 ts q2 rest q4 → AreUnsigned ts → AreUnsigned rest
kept_first (grammar.no_first n0) u = kept_next n0 u
kept_first (grammar.number_first n0) u = kept_numbers n0 u
kept_first (grammar.simple_first n0 n1) u = kept_next n1 (kept_simple n0 u)

pub kept_test : {q0 q4 : Nesting} {ts rest : List Terminal} {q2 : Option RawExpr} → ReadsTest q0 ts q2 rest q4 → AreUnsigned ts → AreUnsigned rest
kept_test (grammar.no_test n0) u = kept_next n0 u
kept_test (grammar.test n0 n1) u = kept_next n1 (kept_whole n0 u)

pub kept_last : {q0 q4 : Nesting} {ts rest : List Terminal} {q2 : Option RawPlaced} → ReadsLast q0 ts q2 rest q4 → AreUnsigned ts → AreUnsigned rest
kept_last (grammar.no_last n0) u = kept_next n0 u
kept_last (grammar.last n0 n1) u = kept_next n1 (kept_simple n0 u)

pub kept_do_end : {q0 q4 : Nesting} {ts rest : List Terminal} {q2 : RawExpr} → ReadsDoEnd q0 ts q2 rest q4 → AreUnsigned ts → AreUnsigned rest
kept_do_end (grammar.do_end n0 n1 n2) u = kept_next n2 (kept_condition n1 (kept_next n0 u))

mutual
  pub kept_bare : {q0 : ℕ} {q1 q5 : Nesting} {ts rest : List Terminal} {q3 : RawStmt} → ReadsBare q0 q1 ts q3 rest q5 → AreUnsigned ts → AreUnsigned rest
  kept_bare (grammar.empty n0) u = kept_next n0 u
  kept_bare (grammar.block n0 n1) u = kept_items n1 (kept_next n0 u)
  kept_bare (grammar.simple n0 n1) u = kept_next n1 (kept_simple n0 u)
  kept_bare (grammar.if_then n0 n1 n2 n3) u = kept_else n3 (kept_stmt n2 (kept_condition n1 (kept_next n0 u)))
  kept_bare (grammar.while n0 n1 n2) u = kept_stmt n2 (kept_condition n1 (kept_next n0 u))
  kept_bare (grammar.do_while n0 n1 n2) u = kept_do_end n2 (kept_stmt n1 (kept_next n0 u))
  kept_bare (grammar.for_loop n0 n1 n2 n3 n4 n5) u = kept_stmt n5 (kept_last n4 (kept_test n3 (kept_first n2 (kept_next n1 (kept_next n0 u)))))
  kept_bare (grammar.leave_loop n0 n1) u = kept_next n1 (kept_next n0 u)
  kept_bare (grammar.next_round n0 n1) u = kept_next n1 (kept_next n0 u)
  kept_bare (grammar.leave n0 n1) u = kept_value n1 (kept_next n0 u)

  pub kept_stmt : {q0 : ℕ} {q1 q5 : Nesting} {ts rest : List Terminal} {q3 : RawPlaced} → ReadsStmt q0 q1 ts q3 rest q5 → AreUnsigned ts → AreUnsigned rest
  kept_stmt (grammar.stmt n0) u = kept_bare n0 u

  pub kept_else : {q0 : ℕ} {q1 q5 : Nesting} {ts rest : List Terminal} {q3 : Option RawPlaced} → ReadsElse q0 q1 ts q3 rest q5 → AreUnsigned ts → AreUnsigned rest
  kept_else (grammar.no_else n0) u = u
  kept_else (grammar.otherwise n0 n1) u = kept_stmt n1 (kept_next n0 u)

  pub kept_items : {q0 : ℕ} {q1 q6 : Nesting} {ts rest : List Terminal} {q3 : List RawPlaced} {q4 : Place} → ReadsItems q0 q1 ts q3 q4 rest q6 → AreUnsigned ts → AreUnsigned rest
  kept_items (grammar.close n0) u = kept_next n0 u
  kept_items (grammar.one_decl n0 n1) u = kept_items n1 (kept_decl n0 u)
  kept_items (grammar.one_stmt n0 n1) u = kept_items n1 (kept_stmt n0 u)

pub kept_literal : {ts rest : List Terminal} {q1 : ℤ} {q2 : Place} → ReadsLiteral ts q1 q2 rest → AreUnsigned ts → AreUnsigned rest
kept_literal (grammar.literal n0) u = kept_next n0 u
kept_literal (grammar.negative n0 n1) u = kept_next n1 (kept_next n0 u)

mutual
  pub kept_globals : {q0 : Width} {q1 : RawName} {ts rest : List Terminal} {q3 : List RawItem} → ReadsGlobals q0 q1 ts q3 rest → AreUnsigned ts → AreUnsigned rest
  kept_globals (grammar.given n0 n1 n2) u = kept_more_globals n2 (kept_literal n1 (kept_next n0 u))
  kept_globals (grammar.unset n0) u = kept_more_globals n0 u

  pub kept_more_globals : {q0 : Width} {ts rest : List Terminal} {q2 : List RawItem} → ReadsMoreGlobals q0 ts q2 rest → AreUnsigned ts → AreUnsigned rest
  kept_more_globals (grammar.last_global n0) u = kept_next n0 u
  kept_more_globals (grammar.next_global n0 n1 n2) u = kept_globals n2 (kept_name n1 (kept_next n0 u))

pub kept_after_head : {q0 : RawHead} {q1 : Bool} {q2 q6 : Nesting} {ts rest : List Terminal} {q4 : List RawItem} → ReadsAfterHead q0 q1 q2 ts q4 rest q6 → AreUnsigned ts → AreUnsigned rest
kept_after_head (grammar.prototype n0) u = kept_next n0 u
kept_after_head (grammar.body n0 n1) u = kept_items n1 (kept_next n0 u)

mutual
  pub kept_param : {q0 : RawHead} {q1 : Bool} {q2 q6 : Nesting} {ts rest : List Terminal} {q4 : List RawItem} → ReadsParam q0 q1 q2 ts q4 rest q6 → AreUnsigned ts → AreUnsigned rest
  kept_param (grammar.param n0 n1) u = kept_param_name n1 (kept_type n0 u)

  pub kept_param_name : {q0 : RawHead} {q1 : Bool} {q2 : Width} {q3 q7 : Nesting} {ts rest : List Terminal} {q5 : List RawItem} → ReadsParamName q0 q1 q2 q3 ts q5 rest q7 → AreUnsigned ts → AreUnsigned rest
  kept_param_name (grammar.with_name n0 n1) u = kept_more_params n1 (kept_name n0 u)
  kept_param_name (grammar.without_name n0) u = kept_more_params n0 u

  pub kept_more_params : {q0 : RawHead} {q1 : Bool} {q2 q6 : Nesting} {ts rest : List Terminal} {q4 : List RawItem} → ReadsMoreParams q0 q1 q2 ts q4 rest q6 → AreUnsigned ts → AreUnsigned rest
  kept_more_params (grammar.next_param n0 n1) u = kept_param n1 (kept_next n0 u)
  kept_more_params (grammar.last_param n0 n1) u = kept_after_head n1 (kept_next n0 u)

pub kept_params : {q0 : RawHead} {q1 : Bool} {q2 q6 : Nesting} {ts rest : List Terminal} {q4 : List RawItem} → ReadsParams q0 q1 q2 ts q4 rest q6 → AreUnsigned ts → AreUnsigned rest
kept_params (grammar.no_params n0 n1) u = kept_after_head n1 (kept_next n0 u)
kept_params (grammar.void_params n0 n1 n2) u = kept_after_head n2 (kept_next n1 (kept_next n0 u))
kept_params (grammar.some_params n0) u = kept_param n0 u

pub kept_thread_param : {q0 : RawName} {q1 : Bool} {q2 q6 : Nesting} {ts rest : List Terminal} {q4 : List RawItem} → ReadsThreadParam q0 q1 q2 ts q4 rest q6 → AreUnsigned ts → AreUnsigned rest
kept_thread_param (grammar.named_param n0 n1 n2) u = kept_after_head n2 (kept_next n1 (kept_name n0 u))
kept_thread_param (grammar.unnamed_param n0 n1) u = kept_after_head n1 (kept_next n0 u)

pub kept_thread_void : {q0 : RawName} {q1 : Bool} {q2 q6 : Nesting} {ts rest : List Terminal} {q4 : List RawItem} → ReadsThreadVoid q0 q1 q2 ts q4 rest q6 → AreUnsigned ts → AreUnsigned rest
kept_thread_void (grammar.thread_void n0 n1 n2) u = kept_thread_param n2 (kept_next n1 (kept_next n0 u))

pub kept_thread_name : {q0 : Bool} {q1 q5 : Nesting} {ts rest : List Terminal} {q3 : List RawItem} → ReadsThreadName q0 q1 ts q3 rest q5 → AreUnsigned ts → AreUnsigned rest
kept_thread_name (grammar.thread_name n0 n1 n2) u = kept_thread_void n2 (kept_next n1 (kept_name n0 u))

pub kept_voided : {q0 : Bool} {q1 q5 : Nesting} {ts rest : List Terminal} {q3 : List RawItem} → ReadsVoided q0 q1 ts q3 rest q5 → AreUnsigned ts → AreUnsigned rest
kept_voided (grammar.void_function n0 n1 n2) u = kept_params n2 (kept_next n1 (kept_name n0 u))
kept_voided (grammar.thread_function n0 n1) u = kept_thread_name n1 (kept_next n0 u)

pub kept_named : {q0 : Bool} {q1 : Width} {q2 : RawName} {q3 q7 : Nesting} {ts rest : List Terminal} {q5 : List RawItem} → ReadsNamed q0 q1 q2 q3 ts q5 rest q7 → AreUnsigned ts → AreUnsigned rest
kept_named (grammar.number_function n0 n1) u = kept_params n1 (kept_next n0 u)
kept_named (grammar.globals n0) u = kept_globals n0 u

pub kept_typed : {q0 : Bool} {q1 : Width} {q2 q6 : Nesting} {ts rest : List Terminal} {q4 : List RawItem} → ReadsTyped q0 q1 q2 ts q4 rest q6 → AreUnsigned ts → AreUnsigned rest
kept_typed (grammar.typed n0 n1) u = kept_named n1 (kept_name n0 u)

pub kept_mutex_name : {ts rest : List Terminal} {q1 : List RawItem} → ReadsMutexName ts q1 rest → AreUnsigned ts → AreUnsigned rest
kept_mutex_name (grammar.mutex_name n0 n1 n2 n3) u = kept_next n3 (kept_next n2 (kept_next n1 (kept_name n0 u)))

pub kept_outer : {q0 : Bool} {q1 q5 : Nesting} {ts rest : List Terminal} {q3 : List RawItem} → ReadsOuter q0 q1 ts q3 rest q5 → AreUnsigned ts → AreUnsigned rest
kept_outer (grammar.number_item n0 n1) u = kept_typed n1 (kept_type n0 u)
kept_outer (grammar.void_item n0 n1) u = kept_voided n1 (kept_next n0 u)
kept_outer (grammar.mutex_item n0 n1) u = kept_mutex_name n1 (kept_next n0 u)

pub kept_item : {q0 q4 : Nesting} {ts rest : List Terminal} {q2 : List RawItem} → ReadsItem q0 ts q2 rest q4 → AreUnsigned ts → AreUnsigned rest
kept_item (grammar.static_item n0 n1) u = kept_outer n1 (kept_next n0 u)
kept_item (grammar.extern_item n0 n1) u = kept_outer n1 (kept_next n0 u)
kept_item (grammar.plain_item n0) u = kept_outer n0 u
