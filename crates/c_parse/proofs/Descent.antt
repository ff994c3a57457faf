-- What each exit of the descent through an expression rests on.
use Rattle.std.proofs.Common.{subst, append-nil, ◌<◌, ◌≤◌, ◌-◌, ◌+◌, arith, ◌≡◌, refl, sym, ap, ◌∙◌, ℕ, zero, suc, Bool, true, false, ℤ, List, [], ◌∷◌, ◌++◌, length, Option, Some, None, append_assoc}
use Rattle.gob_tree.specs.declared.expr.Width.{Width}
use Rattle.gob_tree.specs.declared.expr.BinOp.{BinOp}
use Rattle.gob_tree.specs.declared.place.Place.{Place}
use Rattle.c_parse.specs.declared.terminal.Terminal.{Terminal}
use Rattle.c_parse.specs.declared.terminal.Kind.{Kind}
use Rattle.c_parse.specs.declared.terminal.Kind.TheVariants as kinds
use Rattle.c_parse.specs.declared.stop.Sign.{Sign}
use Rattle.c_parse.specs.declared.stop.Sign.TheVariants as signs
use Rattle.c_parse.specs.declared.stop.Trouble.TheVariants.{Bad, Deep}
use Rattle.c_parse.specs.declared.raw.expr.RawName.{RawName}
use Rattle.c_parse.specs.declared.raw.expr.RawExpr.{RawExpr}
use Rattle.c_parse.specs.declared.raw.stmt.RawReturn.{RawReturn}
use Rattle.c_parse.specs.declared.raw.stmt.RawStmt.{RawStmt}
use Rattle.c_parse.specs.declared.raw.stmt.RawPlaced.{RawPlaced}
use Rattle.c_parse.specs.declared.raw.unit.RawHead.{RawHead}
use Rattle.c_parse.specs.declared.raw.unit.RawItem.{RawItem}
use Rattle.c_parse.specs.Grammar as grammar
use Rattle.c_parse.specs.Grammar.{Nesting, counted, entered, settled, ended, within, operator, top, begins_with, is_open_paren, is_equals, is_int, is_else, EndsChain, Next, ReadsName, ReadsOperator, ReadsLevel, ReadsChain, ReadsCall, ReadsArgs, ReadsMoreArgs, ReadsWhole, ReadsCondition, ReadsInitial, ReadsLongTail, ReadsType, ReadsLocals, ReadsMoreLocals, ReadsNumbers, ReadsThreads, ReadsMoreThreads, ReadsDecl, ReadsAfterName, ReadsHandle, ReadsSimple, ReadsValue, ReadsFirst, ReadsTest, ReadsLast, ReadsDoEnd, ReadsBare, ReadsStmt, ReadsElse, ReadsItems, ReadsLiteral, ReadsGlobals, ReadsMoreGlobals, ReadsAfterHead, ReadsParam, ReadsParamName, ReadsMoreParams, ReadsParams, ReadsThreadParam, ReadsThreadVoid, ReadsThreadName, ReadsVoided, ReadsNamed, ReadsTyped, ReadsMutexName, ReadsOuter, ReadsItem, ReadsUnit}
use Rattle.c_parse.specs.Machine.{Effect, keeps, counts, ends_arg, enters, settles, effect, Part, Move, takes, skips, stops, Outcome, finished, troubled, sign, ident, settle, level, chain, call, args, more_args, whole, condition, initial, long_tail, type, locals, more_locals, numbers, threads, more_threads, decl, after_name, handle, simple, value, first, test, last, do_end, bare, stmt, otherwise, items, literal, number, globals, more_globals, after_head, param, param_name, more_params, params, thread_param, thread_void, thread_name, voided, named, typed, mutex_name, outer, unit_item, before, entering, move, moved, behind, settled_next, next, run, go_on, unless_over, is_sign, kind_of, Passes}
use Rattle.c_parse.specs.Machine.{opens_operand, opens_type, opens_decl, opens_simple, opens_stmt, is_close_paren, is_semicolon, is_close_brace, is_comma, ends_value, ends_first, ends_items, ends_params, is_name, is_word_outside, is_storage, is_thread, is_worded}
use Rattle.c_parse.specs.Machine as parts
use Rattle.c_parse.proofs.Opening.{effect_stays, run_over, taken_at, taken, taken_name, opened_level, opened_whole, opened_numbers, opened_param, opened_args, opened_value, opened_test, opened_last, opened_first, opened_bare, opened_items, opened_outer, opened_decl, opened_number_first, opened_globals, opened_params, opened_param_name, opened_named, opened_unit_item, opened_decl_item, opened_stmt_here, chain_over, call_over, initial_over, long_tail_over, otherwise_over, settle_over}
use Rattle.c_parse.specs.declared.stop.Stop.{Stop}
use Rattle.c_parse.specs.declared.stop.Stop.TheVariants.{At, Memory}
use Rattle.gob_tree.specs.declared.expr.UnOp.TheVariants.{Neg, Not}
use Rattle.c_parse.specs.declared.raw.expr.RawExpr.TheVariants as exprs
use Rattle.c_parse.specs.Machine.{Breaks, BreaksIn, BreaksEver, BreaksUnit, IsOver, ReadsOnto, want}
use Rattle.c_parse.proofs.Passing.{passes_sign, passes_ident, passes_level, passes_chain, passes_args, passes_more_args, taken_operator}

-- the first token

pub next_is : {k : Kind} {ts rest : List Terminal} {t : Terminal} → ts ≡ t ∷ rest → t.kind ≡ k → Next k ts rest
next_is q h = rw q (grammar.next h)

pub name_is : {text : List ℕ} {ts rest : List Terminal} {t : Terminal} {x : RawName} → ts ≡ t ∷ rest → t.kind ≡ kinds.Name text → x ≡ record { text = text; place = t.place } → ReadsName ts x rest
name_is {text = text} {rest = rest} {t = t} q h n = rw q (rw n (grammar.ident h))

sign_kind : (s : Sign) (k : Kind) → is_sign s k ≡ true → k ≡ kind_of s
sign_kind signs.OpenParen kinds.OpenParen h = refl
sign_kind signs.CloseParen kinds.CloseParen h = refl
sign_kind signs.Comma kinds.Comma h = refl
sign_kind signs.Semicolon kinds.Semicolon h = refl
sign_kind signs.Ampersand kinds.Ampersand h = refl
sign_kind signs.Equals kinds.Equals h = refl
sign_kind signs.Star kinds.Star h = refl
sign_kind signs.Void kinds.Void h = refl
sign_kind signs.While kinds.While h = refl
sign_kind signs.Null kinds.Null h = refl
sign_kind signs.Initializer kinds.Initializer h = refl
sign_kind _ _ h = absurd (cc)

pub sign_is : (s : Sign) {ts rest : List Terminal} {t : Terminal} → ts ≡ t ∷ rest → is_sign s t.kind ≡ true → Next (kind_of s) ts rest
sign_is s {t = t} q h = next_is q (sign_kind s t.kind h)

pub no_sign : (s : Sign) {ts rest : List Terminal} {t : Terminal} → ts ≡ t ∷ rest → is_sign s t.kind ≡ false → BreaksEver (sign s) ts (At Bad (length ts))
no_sign s q h = record { breaks = λ n. record { breaks = λ below. rw q (rw h refl) } }

pub no_sign_at_end : (s : Sign) {ts : List Terminal} → length ts ≡ 0 → BreaksEver (sign s) ts (At Bad 0)
no_sign_at_end s {ts = []} h = record { breaks = λ n. record { breaks = λ below. refl } }
no_sign_at_end s {ts = t ∷ ts} h = absurd (omega (arith, h))

-- stops in a row of parts: in the first, or behind it

pub here : {p : Part} {ps : List Part} {a : Nesting} {ts : List Terminal} {s : Stop} → Breaks p a ts s → BreaksIn (p ∷ ps) a ts s
here {ps = ps} {s = At f left} b = record { breaks = λ below. b.breaks (ps ++ below) }
here {s = Memory} b = record { breaks = tt }

pub here_ever : {p : Part} {ps : List Part} {n : ℕ} {ts : List Terminal} {s : Stop} → BreaksEver p ts s → BreaksIn (p ∷ ps) (within n) ts s
here_ever {n = n} b = here (b.breaks n)

pub behind_it : {p : Part} {ps : List Part} {a b : Nesting} {ts mid : List Terminal} {s : Stop} → Passes p a ts mid b → BreaksIn ps b mid s → BreaksIn (p ∷ ps) a ts s
behind_it {ps = ps} {s = At f left} h b = record { breaks = λ below. h (ps ++ below) ∙ b.breaks below }
behind_it {s = Memory} h b = record { breaks = tt }

-- a part that a token opens, and a part that is others in a row

pub opens_row : {a : Nesting} {k : Kind} {ts us : List Terminal} {s : Stop} (p : Part) (e : Effect) (ps : List Part) → Next k ts us → move p k ≡ takes e ps → BreaksIn ps (effect e a ts) us s → Breaks p a ts s
opens_row {a = a} {s = At f left} p e ps n m b = record { breaks = λ below. taken a p e ps n m below ∙ b.breaks below }
opens_row {s = Memory} p e ps n m b = record { breaks = tt }

pub opens_name_row : {a : Nesting} {x : RawName} {ts us : List Terminal} {s : Stop} (p : Part) (e : Effect) (ps : List Part) → ReadsName ts x us → ((text : List ℕ) → move p (kinds.Name text) ≡ takes e ps) → BreaksIn ps (effect e a ts) us s → Breaks p a ts s
opens_name_row {a = a} {s = At f left} p e ps n m b = record { breaks = λ below. taken_name a p e ps n m below ∙ b.breaks below }
opens_name_row {s = Memory} p e ps n m b = record { breaks = tt }

pub is_row : {p : Part} {ps : List Part} {a b : Nesting} {ts : List Terminal} {s : Stop} → ((below : List Part) → run (p ∷ below) a ts ≡ run (ps ++ below) b ts) → BreaksIn ps b ts s → Breaks p a ts s
is_row {s = At f left} h b = record { breaks = λ below. h below ∙ b.breaks below }
is_row {s = Memory} h b = record { breaks = tt }

deep_row : {a : Nesting} {k : Kind} {ts us : List Terminal} (p : Part) (e : Effect) (ps : List Part) (left : ℕ) → Next k ts us → move p k ≡ takes e ps → (effect e a ts).over ≡ Some left → Breaks p a ts (At Deep left)
deep_row {a = a} {ts = ts} {us = us} p e ps left n m h = record { breaks = λ below. taken a p e ps n m below ∙ run_over (ps ++ below) (effect e a ts) us left h }

pub opens_over : {a : Nesting} {k : Kind} {ts us : List Terminal} {s : Stop} (p : Part) (e : Effect) (ps : List Part) → Next k ts us → move p k ≡ takes e ps → IsOver (effect e a ts) s → Breaks p a ts s
opens_over {a = a} {ts = ts} p e ps n m o = subst (Breaks p a ts) (sym o.is) (deep_row p e ps o.left n m o.over)

-- want of memory breaks nothing
pub wanted : {p : Part} {a : Nesting} {ts : List Terminal} {s : Stop} → s ≡ want → Breaks p a ts s
wanted {p = p} {a = a} {ts = ts} h = subst (Breaks p a ts) (sym h) (record { breaks = tt })

-- operands

module _ {ts us : List Terminal} {t : Terminal} {a : Nesting} where
  pub number_found : {v : ℤ} {w : Width} → ts ≡ t ∷ us → t.kind ≡ kinds.Number v w → ReadsLevel 0 a ts (exprs.Number v w) us a
  number_found q h = grammar.number (next_is q h)

module _ {ts us rest : List Terminal} {t : Terminal} {a b : Nesting} where
  pub name_found : {text : List ℕ} {x : RawName} {e : RawExpr} → ts ≡ t ∷ us → t.kind ≡ kinds.Name text → x ≡ record { text = text; place = t.place } → ReadsCall x a us e rest b → ReadsLevel 0 a ts e rest b
  name_found q h n c = grammar.name (name_is q h n) c

module _ {ts us rest : List Terminal} {t : Terminal} {a b m : Nesting} where
  pub minus_found : {e : RawExpr} → ts ≡ t ∷ us → t.kind ≡ kinds.Minus → counted a ts ≡ m → ReadsLevel 0 m us e rest b → ReadsLevel 0 a ts (exprs.Unary Neg e) rest b
  minus_found {e = e} q h c d = grammar.minus (next_is q h) (subst (λ (m : Nesting). ReadsLevel 0 m us e rest b) (sym c) d)

  pub plus_found : {e : RawExpr} → ts ≡ t ∷ us → t.kind ≡ kinds.Plus → counted a ts ≡ m → ReadsLevel 0 m us e rest b → ReadsLevel 0 a ts e rest b
  plus_found {e = e} q h c d = grammar.plus (next_is q h) (subst (λ (m : Nesting). ReadsLevel 0 m us e rest b) (sym c) d)

  pub negation_found : {e : RawExpr} → ts ≡ t ∷ us → t.kind ≡ kinds.Not → counted a ts ≡ m → ReadsLevel 0 m us e rest b → ReadsLevel 0 a ts (exprs.Unary Not e) rest b
  negation_found {e = e} q h c d = grammar.negation (next_is q h) (subst (λ (m : Nesting). ReadsLevel 0 m us e rest b) (sym c) d)

  pub group_found : {vs : List Terminal} {e : RawExpr} → ts ≡ t ∷ us → t.kind ≡ kinds.OpenParen → counted a ts ≡ m → ReadsLevel 6 m us e vs b → Next kinds.CloseParen vs rest → ReadsLevel 0 a ts e rest b
  group_found {vs = vs} {e = e} q h c d n = grammar.group (next_is q h) (subst (λ (m : Nesting). ReadsLevel 6 m us e vs b) (sym c) d) n

module _ {ts us : List Terminal} {t : Terminal} {a m : Nesting} {s : Stop} where
  pub minus_stop : ts ≡ t ∷ us → t.kind ≡ kinds.Minus → counted a ts ≡ m → Breaks (level 0) m us s → Breaks (level 0) a ts s
  minus_stop q h c b = opens_row (level 0) counts (level 0 ∷ []) (next_is q h) refl (here (subst (λ (m : Nesting). Breaks (level 0) m us s) (sym c) b))

  pub plus_stop : ts ≡ t ∷ us → t.kind ≡ kinds.Plus → counted a ts ≡ m → Breaks (level 0) m us s → Breaks (level 0) a ts s
  plus_stop q h c b = opens_row (level 0) counts (level 0 ∷ []) (next_is q h) refl (here (subst (λ (m : Nesting). Breaks (level 0) m us s) (sym c) b))

  pub negation_stop : ts ≡ t ∷ us → t.kind ≡ kinds.Not → counted a ts ≡ m → Breaks (level 0) m us s → Breaks (level 0) a ts s
  negation_stop q h c b = opens_row (level 0) counts (level 0 ∷ []) (next_is q h) refl (here (subst (λ (m : Nesting). Breaks (level 0) m us s) (sym c) b))

  pub group_stop : ts ≡ t ∷ us → t.kind ≡ kinds.OpenParen → counted a ts ≡ m → Breaks (level 6) m us s → Breaks (level 0) a ts s
  group_stop q h c b = opens_row (level 0) counts (level 6 ∷ sign signs.CloseParen ∷ []) (next_is q h) refl (here (subst (λ (m : Nesting). Breaks (level 6) m us s) (sym c) b))

  pub group_close_stop : {vs : List Terminal} {n : ℕ} {e : RawExpr} → ts ≡ t ∷ us → t.kind ≡ kinds.OpenParen → counted a ts ≡ m → ReadsLevel 6 m us e vs (within n) → BreaksEver (sign signs.CloseParen) vs s → Breaks (level 0) a ts s
  group_close_stop {vs = vs} {n = n} {e = e} q h c d i = opens_row (level 0) counts (level 6 ∷ sign signs.CloseParen ∷ []) (next_is q h) refl (behind_it {p = level 6} {mid = vs} (passes_level (subst (λ (m : Nesting). ReadsLevel 6 m us e vs (within n)) (sym c) d)) (here_ever {n = n} i))

module _ {ts us : List Terminal} {t : Terminal} {a : Nesting} {s : Stop} where
  pub name_stop : {text : List ℕ} → ts ≡ t ∷ us → t.kind ≡ kinds.Name text → Breaks call a us s → Breaks (level 0) a ts s
  name_stop q h b = opens_row (level 0) keeps (call ∷ []) (next_is q h) refl (here b)

  pub minus_over : ts ≡ t ∷ us → t.kind ≡ kinds.Minus → IsOver (counted a ts) s → Breaks (level 0) a ts s
  minus_over q h o = opens_over (level 0) counts (level 0 ∷ []) (next_is q h) refl o

  pub plus_over : ts ≡ t ∷ us → t.kind ≡ kinds.Plus → IsOver (counted a ts) s → Breaks (level 0) a ts s
  plus_over q h o = opens_over (level 0) counts (level 0 ∷ []) (next_is q h) refl o

  pub negation_over : ts ≡ t ∷ us → t.kind ≡ kinds.Not → IsOver (counted a ts) s → Breaks (level 0) a ts s
  negation_over q h o = opens_over (level 0) counts (level 0 ∷ []) (next_is q h) refl o

  pub group_over : ts ≡ t ∷ us → t.kind ≡ kinds.OpenParen → IsOver (counted a ts) s → Breaks (level 0) a ts s
  group_over q h o = opens_over (level 0) counts (level 6 ∷ sign signs.CloseParen ∷ []) (next_is q h) refl o

-- calls

open_paren_kind : (k : Kind) → is_open_paren k ≡ true → k ≡ kinds.OpenParen
open_paren_kind kinds.OpenParen h = refl
open_paren_kind _ h = absurd (cc)

close_paren_kind : (k : Kind) → is_close_paren k ≡ true → k ≡ kinds.CloseParen
close_paren_kind kinds.CloseParen h = refl
close_paren_kind _ h = absurd (cc)

pub close_paren_is : {ts rest : List Terminal} {t : Terminal} → ts ≡ t ∷ rest → is_close_paren t.kind ≡ true → Next kinds.CloseParen ts rest
close_paren_is {t = t} q h = next_is q (close_paren_kind t.kind h)

comma_kind : (k : Kind) → is_comma k ≡ true → k ≡ kinds.Comma
comma_kind kinds.Comma h = refl
comma_kind _ h = absurd (cc)

pub starts : {ts us : List Terminal} {t : Terminal} {b c : Bool} (is : Kind → Bool) → ts ≡ t ∷ us → b ≡ is t.kind → b ≡ c → begins_with is ts ≡ c
starts is q r h = ap (begins_with is) q ∙ (sym r ∙ h)

pub starts_not : (ts : List Terminal) (is : Kind → Bool) → length ts ≡ 0 → begins_with is ts ≡ false
starts_not [] is h = refl
starts_not (t ∷ ts) is h = absurd (omega (arith, h))

module _ {ts us rest : List Terminal} {t : Terminal} {x : RawName} {a b m : Nesting} where
  pub call_found : {es : List RawExpr} → ts ≡ t ∷ us → is_open_paren t.kind ≡ true → counted a ts ≡ m → ReadsArgs false m us es rest b → ReadsCall x a ts (exprs.Call x es) rest b
  call_found {es = es} q h c d = grammar.call (next_is q (open_paren_kind t.kind h)) (subst (λ (m : Nesting). ReadsArgs false m us es rest b) (sym c) d)

module _ {ts us : List Terminal} {t : Terminal} {a : Nesting} where
  pub call_deep : {s : Stop} → ts ≡ t ∷ us → is_open_paren t.kind ≡ true → IsOver (counted a ts) s → Breaks call a ts s
  call_deep q h o = opens_over call counts (args false ∷ []) (next_is q (open_paren_kind t.kind h)) refl o

  pub no_call_found : {x : RawName} {b : Bool} → ts ≡ t ∷ us → b ≡ is_open_paren t.kind → b ≡ false → ReadsCall x a ts (exprs.Name x) ts a
  no_call_found q r h = grammar.no_call (starts is_open_paren q r h)

  pub no_args_found : {alone : Bool} → ts ≡ t ∷ us → is_close_paren t.kind ≡ true → ReadsArgs alone a ts [] us a
  no_args_found q h = grammar.no_args (close_paren_is q h)

  pub arg_stop : {alone : Bool} {s : Stop} {b : Bool} → ts ≡ t ∷ us → b ≡ is_close_paren t.kind → b ≡ false → Breaks (level 6) a ts s → Breaks (args alone) a ts s
  arg_stop {alone = alone} q r h b = is_row {ps = level 6 ∷ more_args alone ∷ []} (λ below. opened_args a alone ts below (starts is_close_paren q r h)) (here b)

module _ {ts us : List Terminal} {t : Terminal} {a m : Nesting} where
  pub call_stop : {s : Stop} → ts ≡ t ∷ us → is_open_paren t.kind ≡ true → counted a ts ≡ m → Breaks (args false) m us s → Breaks call a ts s
  call_stop {s = s} q h c b = opens_row call counts (args false ∷ []) (next_is q (open_paren_kind t.kind h)) refl (here (subst (λ (m : Nesting). Breaks (args false) m us s) (sym c) b))

  pub more_args_stop : {alone : Bool} {mid : List Terminal} {e : RawExpr} {s : Stop} {b : Bool} → ts ≡ t ∷ us → b ≡ is_close_paren t.kind → b ≡ false → ReadsLevel 6 a ts e mid m → Breaks (more_args alone) m mid s → Breaks (args alone) a ts s
  more_args_stop {alone = alone} {mid = mid} q r h d b = is_row {ps = level 6 ∷ more_args alone ∷ []} (λ below. opened_args a alone ts below (starts is_close_paren q r h)) (behind_it {p = level 6} {mid = mid} (passes_level d) (here b))

pub no_call_at_end : {x : RawName} {a : Nesting} {ts : List Terminal} → length ts ≡ 0 → ReadsCall x a ts (exprs.Name x) ts a
no_call_at_end {ts = ts} h = grammar.no_call (starts_not ts is_open_paren h)

pub args_found : {alone : Bool} {a b c : Nesting} {ts mid rest : List Terminal} {e : RawExpr} {none first all : List RawExpr} → ReadsLevel 6 a ts e mid b → none ≡ [] → first ≡ none ++ e ∷ [] → ReadsOnto alone first b mid all rest c → ReadsArgs alone a ts all rest c
args_found {alone = alone} {a = a} {c = c} {ts = ts} {rest = rest} {e = e} {all = all} d n h o = subst (λ (l : List RawExpr). ReadsArgs alone a ts l rest c) (sym (o.1 ∙ ap (λ (l : List RawExpr). l ++ o.0) (h ∙ ap (λ (l : List RawExpr). l ++ e ∷ []) n))) (grammar.first_arg d o.2)

-- the loop over arguments: what was read so far goes on

abbrev pub GoesOn : Bool → List RawExpr → Nesting → List Terminal → List RawExpr → Nesting → List Terminal → Type 0
GoesOn alone front a ts all m us = (es : List RawExpr) (left : List Terminal) (b : Nesting) → ReadsMoreArgs alone m us es left b → ReadsOnto alone front a ts (all ++ es) left b

pub onto_closed : {alone : Bool} (front : List RawExpr) {all : List RawExpr} {a m o : Nesting} {ts us rest : List Terminal} {t : Terminal} → GoesOn alone front a ts all m us → us ≡ t ∷ rest → is_close_paren t.kind ≡ true → o ≡ ended alone m → ReadsOnto alone front a ts all rest o
onto_closed {alone = alone} front {all = all} {a = a} {m = m} {ts = ts} {rest = rest} reads q h n = subst (λ (o : Nesting). ReadsOnto alone front a ts all rest o) (sym n) (subst (λ (l : List RawExpr). ReadsOnto alone front a ts l rest (ended alone m)) (append-nil all) (reads [] rest (ended alone m) (grammar.last_arg (close_paren_is q h))))

pub onto_again : {alone : Bool} (front all now : List RawExpr) {a m o n : Nesting} {ts us vs mid : List Terminal} {t : Terminal} {e : RawExpr} → GoesOn alone front a ts all m us → now ≡ all ++ e ∷ [] → us ≡ t ∷ vs → is_comma t.kind ≡ true → o ≡ ended alone m → ReadsLevel 6 o vs e mid n → GoesOn alone front a ts now n mid
onto_again {alone = alone} front all now {a = a} {m = m} {n = n} {ts = ts} {vs = vs} {mid = mid} {t = t} {e = e} reads w q h r d es left b k = subst (λ (l : List RawExpr). ReadsOnto alone front a ts l left b) (sym (append_assoc all (e ∷ []) es) ∙ ap (λ (l : List RawExpr). l ++ es) (sym w)) (reads (e ∷ es) left b (grammar.next_arg (next_is q (comma_kind t.kind h)) (subst (λ (o : Nesting). ReadsLevel 6 o vs e mid n) r d) k))

pub record RunsOn (p : Part) (a : Nesting) (ts : List Terminal) (m : Nesting) (us : List Terminal) : Type 0 where
  pub runs : (below : List Part) → run (p ∷ below) a ts ≡ run (p ∷ below) m us

pub runs_from : {p : Part} {a : Nesting} {ts : List Terminal} → RunsOn p a ts a ts
runs_from = record { runs = λ below. refl }

pub runs_then : {p : Part} {a m n : Nesting} {ts us vs : List Terminal} → RunsOn p a ts m us → RunsOn p m us n vs → RunsOn p a ts n vs
runs_then h k = record { runs = λ below. h.runs below ∙ k.runs below }

pub more_comma_runs : {alone : Bool} {m o n : Nesting} {us vs mid : List Terminal} {t : Terminal} {e : RawExpr} → us ≡ t ∷ vs → is_comma t.kind ≡ true → o ≡ ended alone m → ReadsLevel 6 o vs e mid n → RunsOn (more_args alone) m us n mid
more_comma_runs {alone = alone} {m = m} {n = n} {vs = vs} {mid = mid} {t = t} {e = e} q h r d = record { runs = λ below. taken m (more_args alone) (ends_arg alone) (level 6 ∷ more_args alone ∷ []) (next_is q (comma_kind t.kind h)) refl below ∙ passes_level (subst (λ (o : Nesting). ReadsLevel 6 o vs e mid n) r d) (more_args alone ∷ below) }

-- a part that goes on breaks where what is left of it breaks
pub runs_stop : {p : Part} {a m : Nesting} {ts us : List Terminal} {s : Stop} → RunsOn p a ts m us → Breaks p m us s → Breaks p a ts s
runs_stop {s = At f left} runs b = record { breaks = λ below. runs.runs below ∙ b.breaks below }
runs_stop {s = Memory} runs b = record { breaks = tt }

pub more_arg_stop : {alone : Bool} {a m o : Nesting} {ts us vs : List Terminal} {t : Terminal} {s : Stop} → RunsOn (more_args alone) a ts m us → us ≡ t ∷ vs → is_comma t.kind ≡ true → o ≡ ended alone m → Breaks (level 6) o vs s → Breaks (more_args alone) a ts s
more_arg_stop {alone = alone} {vs = vs} {t = t} {s = s} runs q h r b = runs_stop runs (opens_row (more_args alone) (ends_arg alone) (level 6 ∷ more_args alone ∷ []) (next_is q (comma_kind t.kind h)) refl (here (subst (λ (o : Nesting). Breaks (level 6) o vs s) r b)))

pub stops_here : {p : Part} {m : Nesting} {us vs : List Terminal} {t : Terminal} → m.over ≡ None → us ≡ t ∷ vs → move p t.kind ≡ stops → Breaks p m us (At Bad (length us))
stops_here o q h = record { breaks = λ below. rw q (rw o (rw h refl)) }

pub more_mark_stop : {alone : Bool} {a : Nesting} {n : ℕ} {ts us vs : List Terminal} {t : Terminal} → RunsOn (more_args alone) a ts (within n) us → us ≡ t ∷ vs → is_close_paren t.kind ≡ false → is_comma t.kind ≡ false → Breaks (more_args alone) a ts (At Bad (length us))
more_mark_stop {alone = alone} {us = us} {vs = vs} {t = t} runs q h i = runs_stop runs (stops_here refl q (stopped t.kind h i))
  where
    stopped : (k : Kind) → is_close_paren k ≡ false → is_comma k ≡ false → parts.more_args_move alone k ≡ stops
    stopped kinds.CloseParen h i = absurd (cc)
    stopped kinds.Comma h i = absurd (cc)
    stopped _ h i = refl

pub more_end_stop : {alone : Bool} {a : Nesting} {n : ℕ} {ts : List Terminal} (us : List Terminal) → RunsOn (more_args alone) a ts (within n) us → length us ≡ 0 → Breaks (more_args alone) a ts (At Bad 0)
more_end_stop [] runs h = record { breaks = λ below. runs.runs below }
more_end_stop (u ∷ us) runs h = absurd (omega (arith, h))

-- levels

suc_pred : (n : ℕ) → 0 < n → n ≡ suc (n - 1)
suc_pred n h = omega (arith, h)

pub level_found : {n : ℕ} {a b c : Nesting} {ts mid rest : List Terminal} {first e : RawExpr} → 0 < n → ReadsLevel (n - 1) a ts first mid b → ReadsChain (n - 1) first b mid e rest c → ReadsLevel n a ts e rest c
level_found {n = n} {a = a} {c = c} {ts = ts} {rest = rest} {e = e} h d r = subst (λ (l : ℕ). ReadsLevel l a ts e rest c) (sym (suc_pred n h)) (grammar.chain d r)

level_stop : {n : ℕ} {a : Nesting} {ts : List Terminal} {s : Stop} → 0 < n → BreaksIn (level (n - 1) ∷ chain (n - 1) ∷ []) a ts s → Breaks (level n) a ts s
level_stop {n = n} {a = a} {ts = ts} {s = s} h b = subst (λ (l : ℕ). Breaks (level l) a ts s) (sym (suc_pred n h)) (is_row (λ below. opened_level a (n - 1) ts below) b)

pub first_stop : {n : ℕ} {a : Nesting} {ts : List Terminal} {s : Stop} → 0 < n → Breaks (level (n - 1)) a ts s → Breaks (level n) a ts s
first_stop h b = level_stop h (here b)

pub chain_stop : {n : ℕ} {a m : Nesting} {ts mid : List Terminal} {first : RawExpr} {s : Stop} → 0 < n → ReadsLevel (n - 1) a ts first mid m → Breaks (chain (n - 1)) m mid s → Breaks (level n) a ts s
chain_stop {n = n} {mid = mid} h d b = level_stop h (behind_it {p = level (n - 1)} {mid = mid} (passes_level d) (here b))

-- chains

pub ends_found : {l : ℕ} {a : Nesting} {ts us : List Terminal} {t : Terminal} {e : RawExpr} → ts ≡ t ∷ us → operator l t.kind ≡ None → ReadsChain l e a ts e ts a
ends_found {l = l} q h = grammar.ends (subst (EndsChain l) (sym q) h)

pub all_found : {l : ℕ} {a : Nesting} {ts : List Terminal} {e : RawExpr} → length ts ≡ 0 → ReadsChain l e a ts e ts a
all_found {ts = []} h = grammar.ends tt
all_found {ts = t ∷ ts} h = absurd (omega (arith, h))

operator_is : {l : ℕ} {op : BinOp} {ts us : List Terminal} {t : Terminal} → ts ≡ t ∷ us → operator l t.kind ≡ Some op → ReadsOperator l op ts us
operator_is q h = rw q (grammar.operates h)

pub more_found : {l : ℕ} {a m n b : Nesting} {ts us mid rest : List Terminal} {t : Terminal} {op : BinOp} {left right f g e : RawExpr}
    → ts ≡ t ∷ us → operator l t.kind ≡ Some op → counted a ts ≡ m → ReadsLevel l m us right mid n → f ≡ left → g ≡ right → ReadsChain l (exprs.Binary op f g) n mid e rest b → ReadsChain l left a ts e rest b
more_found {l = l} {m = m} {n = n} {b = b} {us = us} {mid = mid} {rest = rest} {op = op} {left = left} {right = right} {g = g} {e = e} q h k d x y c = grammar.more (operator_is q h) (subst (λ (m : Nesting). ReadsLevel l m us right mid n) (sym k) d) (subst (λ (f : RawExpr). ReadsChain l f n mid e rest b) (ap (λ (f : RawExpr). exprs.Binary op f g) x ∙ ap (λ (f : RawExpr). exprs.Binary op left f) y) c)

pub more_runs : {l : ℕ} {a m n : Nesting} {ts us mid : List Terminal} {t : Terminal} {op : BinOp} {right : RawExpr}
    → ts ≡ t ∷ us → operator l t.kind ≡ Some op → counted a ts ≡ m → ReadsLevel l m us right mid n → RunsOn (chain l) a ts n mid
more_runs {l = l} {a = a} {n = n} {us = us} {mid = mid} {right = right} q h k d = record { runs = λ below. taken_operator a l (operator_is q h) below ∙ passes_level (subst (λ (m : Nesting). ReadsLevel l m us right mid n) (sym k) d) (chain l ∷ below) }

-- a chain breaks where it breaks after what was read of it
chain_row : {l : ℕ} {a : Nesting} {ts us : List Terminal} {op : BinOp} {s : Stop} → ReadsOperator l op ts us → BreaksIn (level l ∷ chain l ∷ []) (counted a ts) us s → Breaks (chain l) a ts s
chain_row {l = l} {a = a} {s = At f left} n b = record { breaks = λ below. taken_operator a l n below ∙ b.breaks below }
chain_row {s = Memory} n b = record { breaks = tt }

pub chain_right_stop : {l : ℕ} {a m n : Nesting} {ts us vs : List Terminal} {t : Terminal} {op : BinOp} {s : Stop}
    → RunsOn (chain l) a ts m us → us ≡ t ∷ vs → operator l t.kind ≡ Some op → counted m us ≡ n → Breaks (level l) n vs s → Breaks (chain l) a ts s
chain_right_stop {l = l} {vs = vs} {s = s} runs q h k b = runs_stop runs (chain_row (operator_is q h) (here (subst (λ (n : Nesting). Breaks (level l) n vs s) (sym k) b)))

over_row : {l : ℕ} {a : Nesting} {ts us : List Terminal} {op : BinOp} (left : ℕ) → ReadsOperator l op ts us → (counted a ts).over ≡ Some left → Breaks (chain l) a ts (At Deep left)
over_row {l = l} {a = a} {ts = ts} {us = us} left n h = record { breaks = λ below. taken_operator a l n below ∙ run_over (level l ∷ chain l ∷ below) (counted a ts) us left h }

pub chain_over_stop : {l : ℕ} {a m : Nesting} {ts us vs : List Terminal} {t : Terminal} {op : BinOp} {s : Stop}
    → RunsOn (chain l) a ts m us → us ≡ t ∷ vs → operator l t.kind ≡ Some op → IsOver (counted m us) s → Breaks (chain l) a ts s
chain_over_stop {l = l} {m = m} {us = us} {s = s} runs q h o = runs_stop runs (subst (Breaks (chain l) m us) (sym o.is) (over_row o.left (operator_is q h) o.over))

-- a reading takes tokens off

pub shorter_next : {k : Kind} {ts rest : List Terminal} → Next k ts rest → length rest < length ts
shorter_next (grammar.next h) = omega arith

pub shorter_name : {x : RawName} {ts rest : List Terminal} → ReadsName ts x rest → length rest < length ts
shorter_name (grammar.ident h) = omega arith

shorter_operator : {l : ℕ} {op : BinOp} {ts rest : List Terminal} → ReadsOperator l op ts rest → length rest < length ts
shorter_operator (grammar.operates h) = omega arith

mutual
  pub shorter_level : {l : ℕ} {a b : Nesting} {ts rest : List Terminal} {e : RawExpr} → ReadsLevel l a ts e rest b → length rest < length ts
  shorter_level (grammar.number n) = shorter_next n
  shorter_level (grammar.name n c) = let k = shorter_name n in let m = shorter_call c in omega (arith, k, m)
  shorter_level (grammar.minus n d) = let k = shorter_level d in let m = shorter_next n in omega (arith, k, m)
  shorter_level (grammar.plus n d) = let k = shorter_level d in let m = shorter_next n in omega (arith, k, m)
  shorter_level (grammar.negation n d) = let k = shorter_level d in let m = shorter_next n in omega (arith, k, m)
  shorter_level (grammar.group n d i) = let k = shorter_level d in let m = shorter_next n in let o = shorter_next i in omega (arith, k, m, o)
  shorter_level (grammar.chain d c) = let k = shorter_level d in let m = shorter_chain c in omega (arith, k, m)

  pub shorter_chain : {l : ℕ} {a b : Nesting} {ts rest : List Terminal} {left e : RawExpr} → ReadsChain l left a ts e rest b → length rest ≤ length ts
  shorter_chain (grammar.ends h) = omega arith
  shorter_chain (grammar.more h d c) = let k = shorter_level d in let m = shorter_chain c in let o = shorter_operator h in omega (arith, k, m, o)

  pub shorter_call : {x : RawName} {a b : Nesting} {ts rest : List Terminal} {e : RawExpr} → ReadsCall x a ts e rest b → length rest ≤ length ts
  shorter_call (grammar.no_call h) = omega arith
  shorter_call (grammar.call n d) = let k = shorter_next n in let m = shorter_args d in omega (arith, k, m)

  pub shorter_args : {alone : Bool} {a b : Nesting} {ts rest : List Terminal} {es : List RawExpr} → ReadsArgs alone a ts es rest b → length rest < length ts
  shorter_args (grammar.no_args n) = shorter_next n
  shorter_args (grammar.first_arg d m) = let k = shorter_level d in let o = shorter_more_args m in omega (arith, k, o)

  pub shorter_more_args : {alone : Bool} {a b : Nesting} {ts rest : List Terminal} {es : List RawExpr} → ReadsMoreArgs alone a ts es rest b → length rest < length ts
  shorter_more_args (grammar.last_arg n) = shorter_next n
  shorter_more_args (grammar.next_arg n d m) = let k = shorter_next n in let o = shorter_level d in let r = shorter_more_args m in omega (arith, k, o, r)
