-- What the grammar reads as a part, the machine passes as that part.
use Rattle.std.proofs.Common.{◌≡◌, refl, sym, ap, ◌∙◌, ℕ, zero, suc, Bool, true, false, ℤ, List, [], ◌∷◌, ◌++◌, length, Option, Some, None, append_assoc}
use Rattle.gob_tree.specs.declared.expr.Width.{Width}
use Rattle.gob_tree.specs.declared.expr.BinOp.{BinOp}
use Rattle.gob_tree.specs.declared.place.Place.{Place}
use Rattle.c_parse.specs.declared.terminal.Terminal.{Terminal}
use Rattle.c_parse.specs.declared.terminal.Kind.{Kind}
use Rattle.c_parse.specs.declared.terminal.Kind.TheVariants as kinds
use Rattle.c_parse.specs.declared.stop.Sign.{Sign}
use Rattle.c_parse.specs.declared.stop.Sign.TheVariants as signs
use Rattle.c_parse.specs.declared.stop.Trouble.TheVariants.{Bad, Deep}
use Rattle.c_parse.specs.declared.raw.expr.RawName.{RawName}
use Rattle.c_parse.specs.declared.raw.expr.RawExpr.{RawExpr}
use Rattle.c_parse.specs.declared.raw.stmt.RawReturn.{RawReturn}
use Rattle.c_parse.specs.declared.raw.stmt.RawStmt.{RawStmt}
use Rattle.c_parse.specs.declared.raw.stmt.RawPlaced.{RawPlaced}
use Rattle.c_parse.specs.declared.raw.unit.RawHead.{RawHead}
use Rattle.c_parse.specs.declared.raw.unit.RawItem.{RawItem}
use Rattle.c_parse.specs.Grammar as grammar
use Rattle.c_parse.specs.Grammar.{Nesting, counted, entered, settled, ended, within, operator, top, begins_with, is_open_paren, is_equals, is_int, is_else, EndsChain, Next, ReadsName, ReadsOperator, ReadsLevel, ReadsChain, ReadsCall, ReadsArgs, ReadsMoreArgs, ReadsWhole, ReadsCondition, ReadsInitial, ReadsLongTail, ReadsType, ReadsLocals, ReadsMoreLocals, ReadsNumbers, ReadsThreads, ReadsMoreThreads, ReadsDecl, ReadsAfterName, ReadsHandle, ReadsSimple, ReadsValue, ReadsFirst, ReadsTest, ReadsLast, ReadsDoEnd, ReadsBare, ReadsStmt, ReadsElse, ReadsItems, ReadsLiteral, ReadsGlobals, ReadsMoreGlobals, ReadsAfterHead, ReadsParam, ReadsParamName, ReadsMoreParams, ReadsParams, ReadsThreadParam, ReadsThreadVoid, ReadsThreadName, ReadsVoided, ReadsNamed, ReadsTyped, ReadsMutexName, ReadsOuter, ReadsItem, ReadsUnit}
use Rattle.c_parse.specs.Machine.{Effect, keeps, counts, ends_arg, enters, settles, effect, Part, Move, takes, skips, stops, Outcome, finished, troubled, sign, ident, settle, level, chain, call, args, more_args, whole, condition, initial, long_tail, type, locals, more_locals, numbers, threads, more_threads, decl, after_name, handle, simple, value, first, test, last, do_end, bare, stmt, otherwise, items, literal, number, globals, more_globals, after_head, param, param_name, more_params, params, thread_param, thread_void, thread_name, voided, named, typed, mutex_name, outer, unit_item, before, entering, move, moved, behind, settled_next, next, run, go_on, unless_over, is_sign, kind_of, Passes}
use Rattle.c_parse.specs.Machine.{opens_operand, opens_type, opens_decl, opens_simple, opens_stmt, is_close_paren, is_semicolon, is_close_brace, is_comma, ends_value, ends_first, ends_items, ends_params, is_name, is_word_outside, is_storage, is_thread, is_worded}
use Rattle.c_parse.specs.Machine as parts
use Rattle.c_parse.proofs.Opening.{effect_stays, run_over, taken_at, taken, taken_name, opened_level, opened_whole, opened_numbers, opened_param, opened_args, opened_value, opened_test, opened_last, opened_first, opened_bare, opened_items, opened_outer, opened_decl, opened_number_first, opened_globals, opened_params, opened_param_name, opened_named, opened_unit_item, opened_decl_item, opened_stmt_here, chain_over, call_over, initial_over, long_tail_over, otherwise_over, settle_over}

-- what a reading begins with

pub first_is : {k : Kind} {ts rest : List Terminal} (is : Kind → Bool) → Next k ts rest → begins_with is ts ≡ is k
first_is is (grammar.next h) = ap is h

pub first_name : {ts rest : List Terminal} {x : RawName} (is : Kind → Bool) (b : Bool) → ((text : List ℕ) → is (kinds.Name text) ≡ b) → ReadsName ts x rest → begins_with is ts ≡ b
first_name is b f (grammar.ident {text = text} h) = ap is h ∙ f text

pub not_first : (f g : Kind → Bool) → ((k : Kind) → f k ≡ true → g k ≡ false) → (ts : List Terminal) → begins_with f ts ≡ true → begins_with g ts ≡ false
not_first f g h [] e = refl
not_first f g h (t ∷ ts) e = h t.kind e

pub also_first : (f g : Kind → Bool) → ((k : Kind) → f k ≡ true → g k ≡ true) → (ts : List Terminal) → begins_with f ts ≡ true → begins_with g ts ≡ true
also_first f g h [] e = absurd (cc)
also_first f g h (t ∷ ts) e = h t.kind e

pub operand_is_close_paren : (k : Kind) → opens_operand k ≡ true → is_close_paren k ≡ false
operand_is_close_paren (kinds.Number v w) h = refl
operand_is_close_paren (kinds.Name x) h = refl
operand_is_close_paren kinds.Minus h = refl
operand_is_close_paren kinds.Plus h = refl
operand_is_close_paren kinds.Not h = refl
operand_is_close_paren kinds.OpenParen h = refl
operand_is_close_paren _ h = absurd (cc)

pub operand_is_semicolon : (k : Kind) → opens_operand k ≡ true → is_semicolon k ≡ false
operand_is_semicolon (kinds.Number v w) h = refl
operand_is_semicolon (kinds.Name x) h = refl
operand_is_semicolon kinds.Minus h = refl
operand_is_semicolon kinds.Plus h = refl
operand_is_semicolon kinds.Not h = refl
operand_is_semicolon kinds.OpenParen h = refl
operand_is_semicolon _ h = absurd (cc)

pub operand_ends_value : (k : Kind) → opens_operand k ≡ true → ends_value k ≡ false
operand_ends_value (kinds.Number v w) h = refl
operand_ends_value (kinds.Name x) h = refl
operand_ends_value kinds.Minus h = refl
operand_ends_value kinds.Plus h = refl
operand_ends_value kinds.Not h = refl
operand_ends_value kinds.OpenParen h = refl
operand_ends_value _ h = absurd (cc)

pub simple_is_close_paren : (k : Kind) → opens_simple k ≡ true → is_close_paren k ≡ false
simple_is_close_paren (kinds.Name x) h = refl
simple_is_close_paren (kinds.Step op) h = refl
simple_is_close_paren kinds.Assert h = refl
simple_is_close_paren kinds.Create h = refl
simple_is_close_paren kinds.Join h = refl
simple_is_close_paren kinds.Lock h = refl
simple_is_close_paren kinds.Unlock h = refl
simple_is_close_paren _ h = absurd (cc)

pub simple_ends_first : (k : Kind) → opens_simple k ≡ true → ends_first k ≡ false
simple_ends_first (kinds.Name x) h = refl
simple_ends_first (kinds.Step op) h = refl
simple_ends_first kinds.Assert h = refl
simple_ends_first kinds.Create h = refl
simple_ends_first kinds.Join h = refl
simple_ends_first kinds.Lock h = refl
simple_ends_first kinds.Unlock h = refl
simple_ends_first _ h = absurd (cc)

pub simple_is_worded : (k : Kind) → opens_simple k ≡ true → is_worded k ≡ false
simple_is_worded (kinds.Name x) h = refl
simple_is_worded (kinds.Step op) h = refl
simple_is_worded kinds.Assert h = refl
simple_is_worded kinds.Create h = refl
simple_is_worded kinds.Join h = refl
simple_is_worded kinds.Lock h = refl
simple_is_worded kinds.Unlock h = refl
simple_is_worded _ h = absurd (cc)

pub simple_stmt : (k : Kind) → opens_simple k ≡ true → opens_stmt k ≡ true
simple_stmt (kinds.Name x) h = refl
simple_stmt (kinds.Step op) h = refl
simple_stmt kinds.Assert h = refl
simple_stmt kinds.Create h = refl
simple_stmt kinds.Join h = refl
simple_stmt kinds.Lock h = refl
simple_stmt kinds.Unlock h = refl
simple_stmt _ h = absurd (cc)

pub type_is_thread : (k : Kind) → opens_type k ≡ true → is_thread k ≡ false
type_is_thread kinds.Int h = refl
type_is_thread kinds.Long h = refl
type_is_thread _ h = absurd (cc)

pub type_is_word_outside : (k : Kind) → opens_type k ≡ true → is_word_outside k ≡ false
type_is_word_outside kinds.Int h = refl
type_is_word_outside kinds.Long h = refl
type_is_word_outside _ h = absurd (cc)

pub type_ends_params : (k : Kind) → opens_type k ≡ true → ends_params k ≡ false
type_ends_params kinds.Int h = refl
type_ends_params kinds.Long h = refl
type_ends_params _ h = absurd (cc)

pub type_is_storage : (k : Kind) → opens_type k ≡ true → is_storage k ≡ false
type_is_storage kinds.Int h = refl
type_is_storage kinds.Long h = refl
type_is_storage _ h = absurd (cc)

pub type_decl : (k : Kind) → opens_type k ≡ true → opens_decl k ≡ true
type_decl kinds.Int h = refl
type_decl kinds.Long h = refl
type_decl _ h = absurd (cc)

pub stmt_ends_items : (k : Kind) → opens_stmt k ≡ true → ends_items k ≡ false
stmt_ends_items (kinds.Name x) h = refl
stmt_ends_items (kinds.Step op) h = refl
stmt_ends_items kinds.Assert h = refl
stmt_ends_items kinds.Create h = refl
stmt_ends_items kinds.Join h = refl
stmt_ends_items kinds.Lock h = refl
stmt_ends_items kinds.Unlock h = refl
stmt_ends_items kinds.Semicolon h = refl
stmt_ends_items kinds.OpenBrace h = refl
stmt_ends_items kinds.If h = refl
stmt_ends_items kinds.While h = refl
stmt_ends_items kinds.Do h = refl
stmt_ends_items kinds.For h = refl
stmt_ends_items kinds.Break h = refl
stmt_ends_items kinds.Continue h = refl
stmt_ends_items kinds.Return h = refl
stmt_ends_items _ h = absurd (cc)

pub level_begins : {l : ℕ} {a : Nesting} {ts : List Terminal} {q0 : RawExpr} {rest : List Terminal} {b : Nesting} → ReadsLevel l a ts q0 rest b → begins_with opens_operand ts ≡ true
level_begins (grammar.number n0) = first_is opens_operand n0
level_begins (grammar.name n0 n1) = first_name opens_operand true (λ text. refl) n0
level_begins (grammar.minus n0 n1) = first_is opens_operand n0
level_begins (grammar.plus n0 n1) = first_is opens_operand n0
level_begins (grammar.negation n0 n1) = first_is opens_operand n0
level_begins (grammar.group n0 n1 n2) = first_is opens_operand n0
level_begins (grammar.chain {ts = ts} n0 n1) = level_begins n0

pub whole_begins : {a : Nesting} {ts : List Terminal} {q0 : RawExpr} {rest : List Terminal} {b : Nesting} → ReadsWhole a ts q0 rest b → begins_with opens_operand ts ≡ true
whole_begins (grammar.whole {ts = ts} n0) = level_begins n0

pub simple_begins : {a : Nesting} {ts : List Terminal} {q0 : RawStmt} {rest : List Terminal} {b : Nesting} → ReadsSimple a ts q0 rest b → begins_with opens_simple ts ≡ true
simple_begins (grammar.named n0 n1) = first_name opens_simple true (λ text. refl) n0
simple_begins (grammar.step n0 n1) = first_is opens_simple n0
simple_begins (grammar.asserts n0 n1) = first_is opens_simple n0
simple_begins (grammar.create n0 n1 n2 n3 n4 n5 n6 n7 n8 n9 n10) = first_is opens_simple n0
simple_begins (grammar.join n0 n1 n2 n3 n4 n5) = first_is opens_simple n0
simple_begins (grammar.lock n0 n1) = first_is opens_simple n0
simple_begins (grammar.unlock n0 n1) = first_is opens_simple n0

pub type_begins : {ts : List Terminal} {q0 : Width} {rest : List Terminal} → ReadsType ts q0 rest → begins_with opens_type ts ≡ true
type_begins (grammar.int_type n0) = first_is opens_type n0
type_begins (grammar.long_type n0 n1) = first_is opens_type n0

pub numbers_begins : {a : Nesting} {ts : List Terminal} {q0 : List RawPlaced} {rest : List Terminal} {b : Nesting} → ReadsNumbers a ts q0 rest b → begins_with opens_type ts ≡ true
numbers_begins (grammar.numbers {ts = ts} n0 n1) = type_begins n0

pub decl_begins : {a : Nesting} {ts : List Terminal} {q0 : List RawPlaced} {rest : List Terminal} {b : Nesting} → ReadsDecl a ts q0 rest b → begins_with opens_decl ts ≡ true
decl_begins (grammar.number_decl {ts = ts} n0) = also_first opens_type opens_decl type_decl ts (numbers_begins n0)
decl_begins (grammar.thread_decl n0 n1) = first_is opens_decl n0

pub bare_begins : {d : ℕ} {a : Nesting} {ts : List Terminal} {q0 : RawStmt} {rest : List Terminal} {b : Nesting} → ReadsBare d a ts q0 rest b → begins_with opens_stmt ts ≡ true
bare_begins (grammar.empty n0) = first_is opens_stmt n0
bare_begins (grammar.block n0 n1) = first_is opens_stmt n0
bare_begins (grammar.simple {ts = ts} n0 n1) = also_first opens_simple opens_stmt simple_stmt ts (simple_begins n0)
bare_begins (grammar.if_then n0 n1 n2 n3) = first_is opens_stmt n0
bare_begins (grammar.while n0 n1 n2) = first_is opens_stmt n0
bare_begins (grammar.do_while n0 n1 n2) = first_is opens_stmt n0
bare_begins (grammar.for_loop n0 n1 n2 n3 n4 n5) = first_is opens_stmt n0
bare_begins (grammar.leave_loop n0 n1) = first_is opens_stmt n0
bare_begins (grammar.next_round n0 n1) = first_is opens_stmt n0
bare_begins (grammar.leave n0 n1) = first_is opens_stmt n0

pub stmt_begins : {d : ℕ} {a : Nesting} {ts : List Terminal} {q0 : RawPlaced} {rest : List Terminal} {b : Nesting} → ReadsStmt d a ts q0 rest b → begins_with opens_stmt ts ≡ true
stmt_begins (grammar.stmt {ts = ts} n0) = bare_begins n0

pub param_begins : {h : RawHead} {may : Bool} {a : Nesting} {ts : List Terminal} {q0 : List RawItem} {rest : List Terminal} {b : Nesting} → ReadsParam h may a ts q0 rest b → begins_with opens_type ts ≡ true
param_begins (grammar.param {ts = ts} n0 n1) = type_begins n0

pub more_globals_not_is_equals : {w : Width} {ts : List Terminal} {q0 : List RawItem} {rest : List Terminal} → ReadsMoreGlobals w ts q0 rest → begins_with is_equals ts ≡ false
more_globals_not_is_equals (grammar.last_global n0) = first_is is_equals n0
more_globals_not_is_equals (grammar.next_global n0 n1 n2) = first_is is_equals n0

pub more_globals_not_is_open_paren : {w : Width} {ts : List Terminal} {q0 : List RawItem} {rest : List Terminal} → ReadsMoreGlobals w ts q0 rest → begins_with is_open_paren ts ≡ false
more_globals_not_is_open_paren (grammar.last_global n0) = first_is is_open_paren n0
more_globals_not_is_open_paren (grammar.next_global n0 n1 n2) = first_is is_open_paren n0

pub globals_not_is_open_paren : {w : Width} {x : RawName} {ts : List Terminal} {q0 : List RawItem} {rest : List Terminal} → ReadsGlobals w x ts q0 rest → begins_with is_open_paren ts ≡ false
globals_not_is_open_paren (grammar.given n0 n1 n2) = first_is is_open_paren n0
globals_not_is_open_paren (grammar.unset {ts = ts} n0) = more_globals_not_is_open_paren n0

pub more_params_not_is_name : {h : RawHead} {may : Bool} {a : Nesting} {ts : List Terminal} {q0 : List RawItem} {rest : List Terminal} {b : Nesting} → ReadsMoreParams h may a ts q0 rest b → begins_with is_name ts ≡ false
more_params_not_is_name (grammar.next_param n0 n1) = first_is is_name n0
more_params_not_is_name (grammar.last_param n0 n1) = first_is is_name n0

pub outer_not_is_storage : {may : Bool} {a : Nesting} {ts : List Terminal} {q0 : List RawItem} {rest : List Terminal} {b : Nesting} → ReadsOuter may a ts q0 rest b → begins_with is_storage ts ≡ false
outer_not_is_storage (grammar.number_item {ts = ts} n0 n1) = not_first opens_type is_storage type_is_storage ts (type_begins n0)
outer_not_is_storage (grammar.void_item n0 n1) = first_is is_storage n0
outer_not_is_storage (grammar.mutex_item n0 n1) = first_is is_storage n0

-- the parts

sign_takes : (s : Sign) → is_sign s (kind_of s) ≡ true
sign_takes signs.OpenParen = refl
sign_takes signs.CloseParen = refl
sign_takes signs.Comma = refl
sign_takes signs.Semicolon = refl
sign_takes signs.Ampersand = refl
sign_takes signs.Equals = refl
sign_takes signs.Star = refl
sign_takes signs.Void = refl
sign_takes signs.While = refl
sign_takes signs.Null = refl
sign_takes signs.Initializer = refl

pub passes_sign : (s : Sign) {ts rest : List Terminal} (a : Nesting) → Next (kind_of s) ts rest → Passes (sign s) a ts rest a
passes_sign signs.OpenParen a n = taken a (sign signs.OpenParen) keeps [] n refl
passes_sign signs.CloseParen a n = taken a (sign signs.CloseParen) keeps [] n refl
passes_sign signs.Comma a n = taken a (sign signs.Comma) keeps [] n refl
passes_sign signs.Semicolon a n = taken a (sign signs.Semicolon) keeps [] n refl
passes_sign signs.Ampersand a n = taken a (sign signs.Ampersand) keeps [] n refl
passes_sign signs.Equals a n = taken a (sign signs.Equals) keeps [] n refl
passes_sign signs.Star a n = taken a (sign signs.Star) keeps [] n refl
passes_sign signs.Void a n = taken a (sign signs.Void) keeps [] n refl
passes_sign signs.While a n = taken a (sign signs.While) keeps [] n refl
passes_sign signs.Null a n = taken a (sign signs.Null) keeps [] n refl
passes_sign signs.Initializer a n = taken a (sign signs.Initializer) keeps [] n refl

pub passes_ident : {ts rest : List Terminal} {x : RawName} (a : Nesting) → ReadsName ts x rest → Passes ident a ts rest a
passes_ident a n = taken_name a ident keeps [] n (λ text. refl)

pub passes_number : (a : Nesting) {v : ℤ} {w : Width} {ts rest : List Terminal} → Next (kinds.Number v w) ts rest → Passes number a ts rest a
passes_number a n = taken a number keeps [] n refl

pub passes_settle : (a : Nesting) (ts : List Terminal) → Passes settle a ts ts (settled a)
passes_settle a ts below = settle_over a ts below

pub taken_operator : (a : Nesting) (l : ℕ) {op : BinOp} {ts us : List Terminal} → ReadsOperator l op ts us → (below : List Part) → run (chain l ∷ below) a ts ≡ run (level l ∷ chain l ∷ below) (counted a ts) us
taken_operator a l (grammar.operates {t = t} {rest = rest} h) below = taken_at a (chain l) counts (level l ∷ chain l ∷ []) t rest (ap (parts.chain_move l) h) below

mutual
  pub passes_level : {l : ℕ} {a : Nesting} {ts : List Terminal} {q0 : RawExpr} {rest : List Terminal} {b : Nesting} → ReadsLevel l a ts q0 rest b → Passes (level l) a ts rest b
  passes_level (grammar.number {a = a} n0) = λ below. taken a (level zero) keeps [] n0 refl below
  passes_level (grammar.name {a = a} n0 n1) = λ below. taken_name a (level zero) keeps (call ∷ []) n0 (λ text. refl) below ∙ passes_call n1 below
  passes_level (grammar.minus {a = a} n0 n1) = λ below. taken a (level zero) counts (level zero ∷ []) n0 refl below ∙ passes_level n1 below
  passes_level (grammar.plus {a = a} n0 n1) = λ below. taken a (level zero) counts (level zero ∷ []) n0 refl below ∙ passes_level n1 below
  passes_level (grammar.negation {a = a} n0 n1) = λ below. taken a (level zero) counts (level zero ∷ []) n0 refl below ∙ passes_level n1 below
  passes_level (grammar.group {a = a} n0 n1 n2) = λ below. taken a (level zero) counts (level top ∷ sign signs.CloseParen ∷ []) n0 refl below ∙ passes_level n1 (sign signs.CloseParen ∷ below) ∙ passes_sign signs.CloseParen _ n2 below
  passes_level (grammar.chain {ts = ts} {a = a} {l = l} n0 n1) = λ below. opened_level a l ts below ∙ passes_level n0 (chain l ∷ below) ∙ passes_chain n1 below

  pub passes_chain : {l : ℕ} {left : RawExpr} {a : Nesting} {ts : List Terminal} {q0 : RawExpr} {rest : List Terminal} {b : Nesting} → ReadsChain l left a ts q0 rest b → Passes (chain l) a ts rest b
  passes_chain (grammar.ends {rest = rest} {a = a} {l = l} n0) = λ below. chain_over a l rest below n0
  passes_chain (grammar.more {a = a} {l = l} n0 n1 n2) = λ below. taken_operator a l n0 below ∙ passes_level n1 (chain l ∷ below) ∙ passes_chain n2 below

  pub passes_call : {x : RawName} {a : Nesting} {ts : List Terminal} {q0 : RawExpr} {rest : List Terminal} {b : Nesting} → ReadsCall x a ts q0 rest b → Passes call a ts rest b
  passes_call (grammar.no_call {rest = rest} {a = a} n0) = λ below. call_over a rest below n0
  passes_call (grammar.call {a = a} n0 n1) = λ below. taken a call counts (args false ∷ []) n0 refl below ∙ passes_args n1 below

  pub passes_args : {alone : Bool} {a : Nesting} {ts : List Terminal} {q0 : List RawExpr} {rest : List Terminal} {b : Nesting} → ReadsArgs alone a ts q0 rest b → Passes (args alone) a ts rest b
  passes_args (grammar.no_args {a = a} {alone = alone} n0) = λ below. taken a (args alone) keeps [] n0 refl below
  passes_args (grammar.first_arg {ts = ts} {a = a} {alone = alone} n0 n1) = λ below. opened_args a alone ts below (not_first opens_operand is_close_paren operand_is_close_paren ts (level_begins n0)) ∙ passes_level n0 (more_args alone ∷ below) ∙ passes_more_args n1 below

  pub passes_more_args : {alone : Bool} {a : Nesting} {ts : List Terminal} {q0 : List RawExpr} {rest : List Terminal} {b : Nesting} → ReadsMoreArgs alone a ts q0 rest b → Passes (more_args alone) a ts rest b
  passes_more_args (grammar.last_arg {a = a} {alone = alone} n0) = λ below. taken a (more_args alone) (ends_arg alone) [] n0 refl below
  passes_more_args (grammar.next_arg {a = a} {alone = alone} n0 n1 n2) = λ below. taken a (more_args alone) (ends_arg alone) (level top ∷ more_args alone ∷ []) n0 refl below ∙ passes_level n1 (more_args alone ∷ below) ∙ passes_more_args n2 below

pub passes_whole : {a : Nesting} {ts : List Terminal} {q0 : RawExpr} {rest : List Terminal} {b : Nesting} → ReadsWhole a ts q0 rest b → Passes whole a ts rest b
passes_whole (grammar.whole {ts = ts} {rest = rest} {a = a} {b = b} n0) = λ below. opened_whole a ts below ∙ passes_level n0 (settle ∷ below) ∙ settle_over b rest below

pub passes_condition : {a : Nesting} {ts : List Terminal} {q0 : RawExpr} {rest : List Terminal} {b : Nesting} → ReadsCondition a ts q0 rest b → Passes condition a ts rest b
passes_condition (grammar.condition {a = a} n0 n1 n2) = λ below. taken a condition keeps (whole ∷ sign signs.CloseParen ∷ []) n0 refl below ∙ passes_whole n1 (sign signs.CloseParen ∷ below) ∙ passes_sign signs.CloseParen _ n2 below

pub passes_initial : {a : Nesting} {ts : List Terminal} {q0 : Option RawExpr} {rest : List Terminal} {b : Nesting} → ReadsInitial a ts q0 rest b → Passes initial a ts rest b
passes_initial (grammar.no_initial {rest = rest} {a = a} n0) = λ below. initial_over a rest below n0
passes_initial (grammar.initial {a = a} n0 n1) = λ below. taken a initial keeps (whole ∷ []) n0 refl below ∙ passes_whole n1 below

pub passes_long_tail : (a : Nesting) {ts : List Terminal} {rest : List Terminal} → ReadsLongTail ts rest → Passes long_tail a ts rest a
passes_long_tail a (grammar.long {rest = rest} n0) = λ below. long_tail_over a rest below n0
passes_long_tail a (grammar.long_int n0) = λ below. taken a long_tail keeps [] n0 refl below

pub passes_type : (a : Nesting) {ts : List Terminal} {q0 : Width} {rest : List Terminal} → ReadsType ts q0 rest → Passes type a ts rest a
passes_type a (grammar.int_type n0) = λ below. taken a type keeps [] n0 refl below
passes_type a (grammar.long_type n0 n1) = λ below. taken a type keeps (long_tail ∷ []) n0 refl below ∙ passes_long_tail _ n1 below

mutual
  pub passes_locals : {here : Place} {w : Width} {a : Nesting} {ts : List Terminal} {q0 : List RawPlaced} {rest : List Terminal} {b : Nesting} → ReadsLocals here w a ts q0 rest b → Passes locals a ts rest b
  passes_locals (grammar.locals {a = a} n0 n1 n2) = λ below. taken_name a locals keeps (initial ∷ more_locals ∷ []) n0 (λ text. refl) below ∙ passes_initial n1 (more_locals ∷ below) ∙ passes_more_locals n2 below

  pub passes_more_locals : {w : Width} {a : Nesting} {ts : List Terminal} {q0 : List RawPlaced} {rest : List Terminal} {b : Nesting} → ReadsMoreLocals w a ts q0 rest b → Passes more_locals a ts rest b
  passes_more_locals (grammar.last_local {a = a} n0) = λ below. taken a more_locals keeps [] n0 refl below
  passes_more_locals (grammar.next_local {a = a} n0 n1) = λ below. taken a more_locals keeps (locals ∷ []) n0 refl below ∙ passes_locals n1 below

pub passes_numbers : {a : Nesting} {ts : List Terminal} {q0 : List RawPlaced} {rest : List Terminal} {b : Nesting} → ReadsNumbers a ts q0 rest b → Passes numbers a ts rest b
passes_numbers (grammar.numbers {ts = ts} {a = a} n0 n1) = λ below. opened_numbers a ts below ∙ passes_type a n0 (locals ∷ below) ∙ passes_locals n1 below

mutual
  pub passes_threads : (a : Nesting) {here : Place} {ts : List Terminal} {q0 : List RawPlaced} {rest : List Terminal} → ReadsThreads here ts q0 rest → Passes threads a ts rest a
  passes_threads a (grammar.threads n0 n1) = λ below. taken_name a threads keeps (more_threads ∷ []) n0 (λ text. refl) below ∙ passes_more_threads _ n1 below

  pub passes_more_threads : (a : Nesting) {ts : List Terminal} {q0 : List RawPlaced} {rest : List Terminal} → ReadsMoreThreads ts q0 rest → Passes more_threads a ts rest a
  passes_more_threads a (grammar.last_thread n0) = λ below. taken a more_threads keeps [] n0 refl below
  passes_more_threads a (grammar.next_thread n0 n1) = λ below. taken a more_threads keeps (threads ∷ []) n0 refl below ∙ passes_threads _ n1 below

pub passes_decl : {a : Nesting} {ts : List Terminal} {q0 : List RawPlaced} {rest : List Terminal} {b : Nesting} → ReadsDecl a ts q0 rest b → Passes decl a ts rest b
passes_decl (grammar.number_decl {ts = ts} {a = a} n0) = λ below. opened_decl a ts below (not_first opens_type is_thread type_is_thread ts (numbers_begins n0)) ∙ passes_numbers n0 below
passes_decl (grammar.thread_decl {a = a} n0 n1) = λ below. taken a decl keeps (threads ∷ []) n0 refl below ∙ passes_threads _ n1 below

pub passes_after_name : {x : RawName} {a : Nesting} {ts : List Terminal} {q0 : RawStmt} {rest : List Terminal} {b : Nesting} → ReadsAfterName x a ts q0 rest b → Passes after_name a ts rest b
passes_after_name (grammar.assigned {a = a} n0 n1) = λ below. taken a after_name keeps (whole ∷ []) n0 refl below ∙ passes_whole n1 below
passes_after_name (grammar.updated {a = a} n0 n1) = λ below. taken a after_name keeps (whole ∷ []) n0 refl below ∙ passes_whole n1 below
passes_after_name (grammar.stepped {a = a} n0) = λ below. taken a after_name keeps [] n0 refl below
passes_after_name (grammar.called {a = a} n0 n1) = λ below. taken a after_name keeps (args true ∷ []) n0 refl below ∙ passes_args n1 below

pub passes_handle : (a : Nesting) {ts : List Terminal} {q0 : RawName} {rest : List Terminal} → ReadsHandle ts q0 rest → Passes handle a ts rest a
passes_handle a (grammar.handle n0 n1 n2 n3) = λ below. taken a handle keeps (sign signs.Ampersand ∷ ident ∷ sign signs.CloseParen ∷ []) n0 refl below ∙ passes_sign signs.Ampersand _ n1 (ident ∷ sign signs.CloseParen ∷ below) ∙ passes_ident _ n2 (sign signs.CloseParen ∷ below) ∙ passes_sign signs.CloseParen _ n3 below

pub passes_simple : {a : Nesting} {ts : List Terminal} {q0 : RawStmt} {rest : List Terminal} {b : Nesting} → ReadsSimple a ts q0 rest b → Passes simple a ts rest b
passes_simple (grammar.named {a = a} n0 n1) = λ below. taken_name a simple keeps (after_name ∷ []) n0 (λ text. refl) below ∙ passes_after_name n1 below
passes_simple (grammar.step {a = a} n0 n1) = λ below. taken a simple keeps (ident ∷ []) n0 refl below ∙ passes_ident _ n1 below
passes_simple (grammar.asserts {a = a} n0 n1) = λ below. taken a simple keeps (condition ∷ []) n0 refl below ∙ passes_condition n1 below
passes_simple (grammar.create {a = a} n0 n1 n2 n3 n4 n5 n6 n7 n8 n9 n10) = λ below. taken a simple keeps (sign signs.OpenParen ∷ sign signs.Ampersand ∷ ident ∷ sign signs.Comma ∷ sign signs.Null ∷ sign signs.Comma ∷ ident ∷ sign signs.Comma ∷ sign signs.Null ∷ sign signs.CloseParen ∷ []) n0 refl below ∙ passes_sign signs.OpenParen _ n1 (sign signs.Ampersand ∷ ident ∷ sign signs.Comma ∷ sign signs.Null ∷ sign signs.Comma ∷ ident ∷ sign signs.Comma ∷ sign signs.Null ∷ sign signs.CloseParen ∷ below) ∙ passes_sign signs.Ampersand _ n2 (ident ∷ sign signs.Comma ∷ sign signs.Null ∷ sign signs.Comma ∷ ident ∷ sign signs.Comma ∷ sign signs.Null ∷ sign signs.CloseParen ∷ below) ∙ passes_ident _ n3 (sign signs.Comma ∷ sign signs.Null ∷ sign signs.Comma ∷ ident ∷ sign signs.Comma ∷ sign signs.Null ∷ sign signs.CloseParen ∷ below) ∙ passes_sign signs.Comma _ n4 (sign signs.Null ∷ sign signs.Comma ∷ ident ∷ sign signs.Comma ∷ sign signs.Null ∷ sign signs.CloseParen ∷ below) ∙ passes_sign signs.Null _ n5 (sign signs.Comma ∷ ident ∷ sign signs.Comma ∷ sign signs.Null ∷ sign signs.CloseParen ∷ below) ∙ passes_sign signs.Comma _ n6 (ident ∷ sign signs.Comma ∷ sign signs.Null ∷ sign signs.CloseParen ∷ below) ∙ passes_ident _ n7 (sign signs.Comma ∷ sign signs.Null ∷ sign signs.CloseParen ∷ below) ∙ passes_sign signs.Comma _ n8 (sign signs.Null ∷ sign signs.CloseParen ∷ below) ∙ passes_sign signs.Null _ n9 (sign signs.CloseParen ∷ below) ∙ passes_sign signs.CloseParen _ n10 below
passes_simple (grammar.join {a = a} n0 n1 n2 n3 n4 n5) = λ below. taken a simple keeps (sign signs.OpenParen ∷ ident ∷ sign signs.Comma ∷ sign signs.Null ∷ sign signs.CloseParen ∷ []) n0 refl below ∙ passes_sign signs.OpenParen _ n1 (ident ∷ sign signs.Comma ∷ sign signs.Null ∷ sign signs.CloseParen ∷ below) ∙ passes_ident _ n2 (sign signs.Comma ∷ sign signs.Null ∷ sign signs.CloseParen ∷ below) ∙ passes_sign signs.Comma _ n3 (sign signs.Null ∷ sign signs.CloseParen ∷ below) ∙ passes_sign signs.Null _ n4 (sign signs.CloseParen ∷ below) ∙ passes_sign signs.CloseParen _ n5 below
passes_simple (grammar.lock {a = a} n0 n1) = λ below. taken a simple keeps (handle ∷ []) n0 refl below ∙ passes_handle _ n1 below
passes_simple (grammar.unlock {a = a} n0 n1) = λ below. taken a simple keeps (handle ∷ []) n0 refl below ∙ passes_handle _ n1 below

pub passes_value : {a : Nesting} {ts : List Terminal} {q0 : RawReturn} {rest : List Terminal} {b : Nesting} → ReadsValue a ts q0 rest b → Passes value a ts rest b
passes_value (grammar.plain {a = a} n0) = λ below. taken a value keeps [] n0 refl below
passes_value (grammar.null {a = a} n0 n1) = λ below. taken a value keeps (sign signs.Semicolon ∷ []) n0 refl below ∙ passes_sign signs.Semicolon _ n1 below
passes_value (grammar.value {ts = ts} {a = a} n0 n1) = λ below. opened_value a ts below (not_first opens_operand ends_value operand_ends_value ts (whole_begins n0)) ∙ passes_whole n0 (sign signs.Semicolon ∷ below) ∙ passes_sign signs.Semicolon _ n1 below

pub passes_first : {a : Nesting} {ts : List Terminal} {q0 : List RawPlaced} {rest : List Terminal} {b : Nesting} → ReadsFirst a ts q0 rest b → Passes first a ts rest b
passes_first (grammar.no_first {a = a} n0) = λ below. taken a first keeps [] n0 refl below
passes_first (grammar.number_first {ts = ts} {a = a} n0) = λ below. opened_number_first a ts below (numbers_begins n0) ∙ passes_numbers n0 below
passes_first (grammar.simple_first {ts = ts} {a = a} n0 n1) = λ below. opened_first a ts below (not_first opens_simple ends_first simple_ends_first ts (simple_begins n0)) ∙ passes_simple n0 (sign signs.Semicolon ∷ below) ∙ passes_sign signs.Semicolon _ n1 below

pub passes_test : {a : Nesting} {ts : List Terminal} {q0 : Option RawExpr} {rest : List Terminal} {b : Nesting} → ReadsTest a ts q0 rest b → Passes test a ts rest b
passes_test (grammar.no_test {a = a} n0) = λ below. taken a test keeps [] n0 refl below
passes_test (grammar.test {ts = ts} {a = a} n0 n1) = λ below. opened_test a ts below (not_first opens_operand is_semicolon operand_is_semicolon ts (whole_begins n0)) ∙ passes_whole n0 (sign signs.Semicolon ∷ below) ∙ passes_sign signs.Semicolon _ n1 below

pub passes_last : {a : Nesting} {ts : List Terminal} {q0 : Option RawPlaced} {rest : List Terminal} {b : Nesting} → ReadsLast a ts q0 rest b → Passes last a ts rest b
passes_last (grammar.no_last {a = a} n0) = λ below. taken a last keeps [] n0 refl below
passes_last (grammar.last {ts = ts} {a = a} n0 n1) = λ below. opened_last a ts below (not_first opens_simple is_close_paren simple_is_close_paren ts (simple_begins n0)) ∙ passes_simple n0 (sign signs.CloseParen ∷ below) ∙ passes_sign signs.CloseParen _ n1 below

pub passes_do_end : {a : Nesting} {ts : List Terminal} {q0 : RawExpr} {rest : List Terminal} {b : Nesting} → ReadsDoEnd a ts q0 rest b → Passes do_end a ts rest b
passes_do_end (grammar.do_end {a = a} n0 n1 n2) = λ below. taken a do_end keeps (condition ∷ sign signs.Semicolon ∷ []) n0 refl below ∙ passes_condition n1 (sign signs.Semicolon ∷ below) ∙ passes_sign signs.Semicolon _ n2 below

mutual
  pub passes_bare : {d : ℕ} {a : Nesting} {ts : List Terminal} {q0 : RawStmt} {rest : List Terminal} {b : Nesting} → ReadsBare d a ts q0 rest b → Passes (bare d) a ts rest b
  passes_bare (grammar.empty {a = a} {d = d} n0) = λ below. taken a (bare d) keeps [] n0 refl below
  passes_bare (grammar.block {a = a} {d = d} n0 n1) = λ below. taken a (bare d) keeps (items (suc d) ∷ []) n0 refl below ∙ passes_items n1 below
  passes_bare (grammar.simple {ts = ts} {a = a} {d = d} n0 n1) = λ below. opened_bare a d ts below (not_first opens_simple is_worded simple_is_worded ts (simple_begins n0)) ∙ passes_simple n0 (sign signs.Semicolon ∷ below) ∙ passes_sign signs.Semicolon _ n1 below
  passes_bare (grammar.if_then {a = a} {d = d} n0 n1 n2 n3) = λ below. taken a (bare d) keeps (condition ∷ stmt (suc d) ∷ otherwise (suc d) ∷ []) n0 refl below ∙ passes_condition n1 (stmt (suc d) ∷ otherwise (suc d) ∷ below) ∙ passes_stmt n2 (otherwise (suc d) ∷ below) ∙ passes_else n3 below
  passes_bare (grammar.while {a = a} {d = d} n0 n1 n2) = λ below. taken a (bare d) keeps (condition ∷ stmt (suc d) ∷ []) n0 refl below ∙ passes_condition n1 (stmt (suc d) ∷ below) ∙ passes_stmt n2 below
  passes_bare (grammar.do_while {a = a} {d = d} n0 n1 n2) = λ below. taken a (bare d) keeps (stmt (suc d) ∷ do_end ∷ []) n0 refl below ∙ passes_stmt n1 (do_end ∷ below) ∙ passes_do_end n2 below
  passes_bare (grammar.for_loop {a = a} {d = d} n0 n1 n2 n3 n4 n5) = λ below. taken a (bare d) keeps (sign signs.OpenParen ∷ first ∷ test ∷ last ∷ stmt (suc d) ∷ []) n0 refl below ∙ passes_sign signs.OpenParen _ n1 (first ∷ test ∷ last ∷ stmt (suc d) ∷ below) ∙ passes_first n2 (test ∷ last ∷ stmt (suc d) ∷ below) ∙ passes_test n3 (last ∷ stmt (suc d) ∷ below) ∙ passes_last n4 (stmt (suc d) ∷ below) ∙ passes_stmt n5 below
  passes_bare (grammar.leave_loop {a = a} {d = d} n0 n1) = λ below. taken a (bare d) keeps (sign signs.Semicolon ∷ []) n0 refl below ∙ passes_sign signs.Semicolon _ n1 below
  passes_bare (grammar.next_round {a = a} {d = d} n0 n1) = λ below. taken a (bare d) keeps (sign signs.Semicolon ∷ []) n0 refl below ∙ passes_sign signs.Semicolon _ n1 below
  passes_bare (grammar.leave {a = a} {d = d} n0 n1) = λ below. taken a (bare d) keeps (value ∷ []) n0 refl below ∙ passes_value n1 below

  pub passes_stmt : {d : ℕ} {a : Nesting} {ts : List Terminal} {q0 : RawPlaced} {rest : List Terminal} {b : Nesting} → ReadsStmt d a ts q0 rest b → Passes (stmt d) a ts rest b
  passes_stmt (grammar.stmt {ts = ts} {a = a} {d = d} n0) = λ below. opened_stmt_here d a ts below (bare_begins n0) ∙ passes_bare n0 below

  pub passes_else : {d : ℕ} {a : Nesting} {ts : List Terminal} {q0 : Option RawPlaced} {rest : List Terminal} {b : Nesting} → ReadsElse d a ts q0 rest b → Passes (otherwise d) a ts rest b
  passes_else (grammar.no_else {rest = rest} {a = a} {d = d} n0) = λ below. otherwise_over a d rest below n0
  passes_else (grammar.otherwise {a = a} {d = d} n0 n1) = λ below. taken a (otherwise d) keeps (stmt d ∷ []) n0 refl below ∙ passes_stmt n1 below

  pub passes_items : {d : ℕ} {a : Nesting} {ts : List Terminal} {q0 : List RawPlaced} {q1 : Place} {rest : List Terminal} {b : Nesting} → ReadsItems d a ts q0 q1 rest b → Passes (items d) a ts rest b
  passes_items (grammar.close {a = a} {d = d} n0) = λ below. taken a (items d) keeps [] n0 refl below
  passes_items (grammar.one_decl {ts = ts} {a = a} {d = d} n0 n1) = λ below. opened_decl_item d a ts below (decl_begins n0) ∙ passes_decl n0 (items d ∷ below) ∙ passes_items n1 below
  passes_items (grammar.one_stmt {ts = ts} {a = a} {d = d} n0 n1) = λ below. opened_items a d ts below (not_first opens_stmt ends_items stmt_ends_items ts (stmt_begins n0)) ∙ passes_stmt n0 (items d ∷ below) ∙ passes_items n1 below

pub passes_literal : (a : Nesting) {ts : List Terminal} {q0 : ℤ} {q1 : Place} {rest : List Terminal} → ReadsLiteral ts q0 q1 rest → Passes literal a ts rest a
passes_literal a (grammar.literal n0) = λ below. taken a literal keeps [] n0 refl below
passes_literal a (grammar.negative n0 n1) = λ below. taken a literal keeps (number ∷ []) n0 refl below ∙ passes_number a n1 below

mutual
  pub passes_globals : (a : Nesting) {w : Width} {x : RawName} {ts : List Terminal} {q0 : List RawItem} {rest : List Terminal} → ReadsGlobals w x ts q0 rest → Passes globals a ts rest a
  passes_globals a (grammar.given n0 n1 n2) = λ below. taken a globals keeps (literal ∷ more_globals ∷ []) n0 refl below ∙ passes_literal _ n1 (more_globals ∷ below) ∙ passes_more_globals _ n2 below
  passes_globals a (grammar.unset {ts = ts} n0) = λ below. opened_globals a ts below (more_globals_not_is_equals n0) ∙ passes_more_globals a n0 below

  pub passes_more_globals : (a : Nesting) {w : Width} {ts : List Terminal} {q0 : List RawItem} {rest : List Terminal} → ReadsMoreGlobals w ts q0 rest → Passes more_globals a ts rest a
  passes_more_globals a (grammar.last_global n0) = λ below. taken a more_globals keeps [] n0 refl below
  passes_more_globals a (grammar.next_global n0 n1 n2) = λ below. taken a more_globals keeps (ident ∷ globals ∷ []) n0 refl below ∙ passes_ident _ n1 (globals ∷ below) ∙ passes_globals _ n2 below

pub passes_after_head : {h : RawHead} {may : Bool} {a : Nesting} {ts : List Terminal} {q0 : List RawItem} {rest : List Terminal} {b : Nesting} → ReadsAfterHead h may a ts q0 rest b → Passes (after_head may) a ts rest b
passes_after_head (grammar.prototype {a = a} {may = may} n0) = λ below. taken a (after_head may) keeps [] n0 refl below
passes_after_head (grammar.body {a = a} n0 n1) = λ below. taken a (after_head true) keeps (items 1 ∷ []) n0 refl below ∙ passes_items n1 below

mutual
  pub passes_param : {h : RawHead} {may : Bool} {a : Nesting} {ts : List Terminal} {q0 : List RawItem} {rest : List Terminal} {b : Nesting} → ReadsParam h may a ts q0 rest b → Passes (param may) a ts rest b
  passes_param (grammar.param {ts = ts} {a = a} {may = may} n0 n1) = λ below. opened_param a may ts below ∙ passes_type a n0 (param_name may ∷ below) ∙ passes_param_name n1 below

  pub passes_param_name : {h : RawHead} {may : Bool} {w : Width} {a : Nesting} {ts : List Terminal} {q0 : List RawItem} {rest : List Terminal} {b : Nesting} → ReadsParamName h may w a ts q0 rest b → Passes (param_name may) a ts rest b
  passes_param_name (grammar.with_name {a = a} {may = may} n0 n1) = λ below. taken_name a (param_name may) keeps (more_params may ∷ []) n0 (λ text. refl) below ∙ passes_more_params n1 below
  passes_param_name (grammar.without_name {ts = ts} {a = a} {may = may} n0) = λ below. opened_param_name a may ts below (more_params_not_is_name n0) ∙ passes_more_params n0 below

  pub passes_more_params : {h : RawHead} {may : Bool} {a : Nesting} {ts : List Terminal} {q0 : List RawItem} {rest : List Terminal} {b : Nesting} → ReadsMoreParams h may a ts q0 rest b → Passes (more_params may) a ts rest b
  passes_more_params (grammar.next_param {a = a} {may = may} n0 n1) = λ below. taken a (more_params may) keeps (param may ∷ []) n0 refl below ∙ passes_param n1 below
  passes_more_params (grammar.last_param {a = a} {may = may} n0 n1) = λ below. taken a (more_params may) keeps (after_head may ∷ []) n0 refl below ∙ passes_after_head n1 below

pub passes_params : {h : RawHead} {may : Bool} {a : Nesting} {ts : List Terminal} {q0 : List RawItem} {rest : List Terminal} {b : Nesting} → ReadsParams h may a ts q0 rest b → Passes (params may) a ts rest b
passes_params (grammar.no_params {a = a} {may = may} n0 n1) = λ below. taken a (params may) keeps (after_head may ∷ []) n0 refl below ∙ passes_after_head n1 below
passes_params (grammar.void_params {a = a} {may = may} n0 n1 n2) = λ below. taken a (params may) keeps (sign signs.CloseParen ∷ after_head may ∷ []) n0 refl below ∙ passes_sign signs.CloseParen _ n1 (after_head may ∷ below) ∙ passes_after_head n2 below
passes_params (grammar.some_params {ts = ts} {a = a} {may = may} n0) = λ below. opened_params a may ts below (not_first opens_type ends_params type_ends_params ts (param_begins n0)) ∙ passes_param n0 below

pub passes_thread_param : {x : RawName} {may : Bool} {a : Nesting} {ts : List Terminal} {q0 : List RawItem} {rest : List Terminal} {b : Nesting} → ReadsThreadParam x may a ts q0 rest b → Passes (thread_param may) a ts rest b
passes_thread_param (grammar.named_param {a = a} {may = may} n0 n1 n2) = λ below. taken_name a (thread_param may) keeps (sign signs.CloseParen ∷ after_head may ∷ []) n0 (λ text. refl) below ∙ passes_sign signs.CloseParen _ n1 (after_head may ∷ below) ∙ passes_after_head n2 below
passes_thread_param (grammar.unnamed_param {a = a} {may = may} n0 n1) = λ below. taken a (thread_param may) keeps (after_head may ∷ []) n0 refl below ∙ passes_after_head n1 below

pub passes_thread_void : {x : RawName} {may : Bool} {a : Nesting} {ts : List Terminal} {q0 : List RawItem} {rest : List Terminal} {b : Nesting} → ReadsThreadVoid x may a ts q0 rest b → Passes (thread_void may) a ts rest b
passes_thread_void (grammar.thread_void {a = a} {may = may} n0 n1 n2) = λ below. taken a (thread_void may) keeps (sign signs.Star ∷ thread_param may ∷ []) n0 refl below ∙ passes_sign signs.Star _ n1 (thread_param may ∷ below) ∙ passes_thread_param n2 below

pub passes_thread_name : {may : Bool} {a : Nesting} {ts : List Terminal} {q0 : List RawItem} {rest : List Terminal} {b : Nesting} → ReadsThreadName may a ts q0 rest b → Passes (thread_name may) a ts rest b
passes_thread_name (grammar.thread_name {a = a} {may = may} n0 n1 n2) = λ below. taken_name a (thread_name may) keeps (sign signs.OpenParen ∷ thread_void may ∷ []) n0 (λ text. refl) below ∙ passes_sign signs.OpenParen _ n1 (thread_void may ∷ below) ∙ passes_thread_void n2 below

pub passes_voided : {may : Bool} {a : Nesting} {ts : List Terminal} {q0 : List RawItem} {rest : List Terminal} {b : Nesting} → ReadsVoided may a ts q0 rest b → Passes (voided may) a ts rest b
passes_voided (grammar.void_function {a = a} {may = may} n0 n1 n2) = λ below. taken_name a (voided may) keeps (sign signs.OpenParen ∷ params may ∷ []) n0 (λ text. refl) below ∙ passes_sign signs.OpenParen _ n1 (params may ∷ below) ∙ passes_params n2 below
passes_voided (grammar.thread_function {a = a} {may = may} n0 n1) = λ below. taken a (voided may) keeps (thread_name may ∷ []) n0 refl below ∙ passes_thread_name n1 below

pub passes_named : {may : Bool} {w : Width} {x : RawName} {a : Nesting} {ts : List Terminal} {q0 : List RawItem} {rest : List Terminal} {b : Nesting} → ReadsNamed may w x a ts q0 rest b → Passes (named may) a ts rest b
passes_named (grammar.number_function {a = a} {may = may} n0 n1) = λ below. taken a (named may) keeps (params may ∷ []) n0 refl below ∙ passes_params n1 below
passes_named (grammar.globals {ts = ts} {a = a} n0) = λ below. opened_named a ts below (globals_not_is_open_paren n0) ∙ passes_globals a n0 below

pub passes_typed : {may : Bool} {w : Width} {a : Nesting} {ts : List Terminal} {q0 : List RawItem} {rest : List Terminal} {b : Nesting} → ReadsTyped may w a ts q0 rest b → Passes (typed may) a ts rest b
passes_typed (grammar.typed {a = a} {may = may} n0 n1) = λ below. taken_name a (typed may) keeps (named may ∷ []) n0 (λ text. refl) below ∙ passes_named n1 below

pub passes_mutex_name : (a : Nesting) {ts : List Terminal} {q0 : List RawItem} {rest : List Terminal} → ReadsMutexName ts q0 rest → Passes mutex_name a ts rest a
passes_mutex_name a (grammar.mutex_name n0 n1 n2 n3) = λ below. taken_name a mutex_name keeps (sign signs.Equals ∷ sign signs.Initializer ∷ sign signs.Semicolon ∷ []) n0 (λ text. refl) below ∙ passes_sign signs.Equals _ n1 (sign signs.Initializer ∷ sign signs.Semicolon ∷ below) ∙ passes_sign signs.Initializer _ n2 (sign signs.Semicolon ∷ below) ∙ passes_sign signs.Semicolon _ n3 below

pub passes_outer : {may : Bool} {a : Nesting} {ts : List Terminal} {q0 : List RawItem} {rest : List Terminal} {b : Nesting} → ReadsOuter may a ts q0 rest b → Passes (outer may) a ts rest b
passes_outer (grammar.number_item {ts = ts} {a = a} {may = may} n0 n1) = λ below. opened_outer a may ts below (not_first opens_type is_word_outside type_is_word_outside ts (type_begins n0)) ∙ passes_type a n0 (typed may ∷ below) ∙ passes_typed n1 below
passes_outer (grammar.void_item {a = a} {may = may} n0 n1) = λ below. taken a (outer may) keeps (voided may ∷ []) n0 refl below ∙ passes_voided n1 below
passes_outer (grammar.mutex_item {a = a} n0 n1) = λ below. taken a (outer true) keeps (mutex_name ∷ []) n0 refl below ∙ passes_mutex_name _ n1 below

pub passes_item : {a : Nesting} {ts : List Terminal} {q0 : List RawItem} {rest : List Terminal} {b : Nesting} → ReadsItem a ts q0 rest b → Passes unit_item a ts rest b
passes_item (grammar.static_item {a = a} n0 n1) = λ below. taken a unit_item keeps (outer true ∷ []) n0 refl below ∙ passes_outer n1 below
passes_item (grammar.extern_item {a = a} n0 n1) = λ below. taken a unit_item keeps (outer false ∷ []) n0 refl below ∙ passes_outer n1 below
passes_item (grammar.plain_item {ts = ts} {a = a} n0) = λ below. opened_unit_item a ts below (outer_not_is_storage n0) ∙ passes_outer n0 below
