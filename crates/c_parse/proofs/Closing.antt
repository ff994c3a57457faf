-- Whatever may still come of a unit can be completed: tokens that close each part, and stacks in which what
-- closes a part doesn't go on with the part above it.
use Rattle.std.proofs.Common.{◌≡◌, refl, ℕ, zero, suc, Bool, true, false, pos, List, [], ◌∷◌, None}
use Rattle.gob_tree.specs.declared.expr.Width.{Width}
use Rattle.gob_tree.specs.declared.expr.Width.TheVariants.{W32, W64}
use Rattle.gob_tree.specs.declared.unit.FuncKind.TheVariants.{Int, Void}
use Rattle.gob_tree.specs.declared.place.Place.{Place}
use Rattle.gob_tree.specs.declared.expr.BinOp.TheVariants as ops
use Rattle.c_parse.specs.declared.terminal.Terminal.{Terminal}
use Rattle.c_parse.specs.declared.terminal.Kind.{Kind}
use Rattle.c_parse.specs.declared.terminal.Kind.TheVariants as kinds
use Rattle.c_parse.specs.declared.stop.Sign.{Sign}
use Rattle.c_parse.specs.declared.stop.Sign.TheVariants as signs
use Rattle.c_parse.specs.declared.raw.expr.RawExpr.TheVariants as exprs
use Rattle.c_parse.specs.Grammar as grammar
use Rattle.c_parse.specs.Grammar.{Nesting, entered, settled, ended, operator, top, begins_with, is_open_paren, is_equals, is_int, is_else, EndsChain, ReadsName, ReadsLevel, ReadsAfterHead, ReadsNamed, ReadsParams, ReadsUnit}
use Rattle.c_parse.specs.declared.raw.expr.RawName.{RawName}
use Rattle.c_parse.specs.declared.raw.unit.RawHead.{RawHead}
use Rattle.c_parse.specs.declared.raw.unit.RawItem.TheVariants as tops
use Rattle.c_parse.specs.Machine.{Part, sign, ident, settle, level, chain, call, args, more_args, whole, condition, initial, long_tail, type, locals, more_locals, numbers, threads, more_threads, decl, after_name, handle, simple, value, first, test, last, do_end, bare, stmt, otherwise, items, literal, number, globals, more_globals, after_head, param, param_name, more_params, params, thread_param, thread_void, thread_name, voided, named, typed, mutex_name, outer, unit_item, kind_of}
use Rattle.c_parse.proofs.Steps.{ReadsPart}
use Rattle.c_parse.proofs.Quiet.{is_quiet_sign, is_quiet_part}

abbrev token : Kind → Terminal
token k = record { kind = k; place = record { line = 0; column = 0 } }

-- what ends no part that may be empty, since it doesn't go on with any
pub record Calm (ts : List Terminal) : Type 0 where
  pub chains : (l : ℕ) → EndsChain l ts
  pub calls : begins_with is_open_paren ts ≡ false
  pub initials : begins_with is_equals ts ≡ false
  pub longs : begins_with is_int ts ≡ false
  pub branches : begins_with is_else ts ≡ false

abbrev is_quiet : Kind → Bool
is_quiet kinds.Plus = false
is_quiet kinds.Minus = false
is_quiet kinds.Star = false
is_quiet (kinds.Operator op) = false
is_quiet kinds.OpenParen = false
is_quiet kinds.Equals = false
is_quiet kinds.Int = false
is_quiet kinds.Else = false
is_quiet _ = true

no_operator : (k : Kind) (l : ℕ) → is_quiet k ≡ true → operator l k ≡ None
no_operator kinds.Plus l h = absurd (cc)
no_operator kinds.Minus l h = absurd (cc)
no_operator kinds.Star l h = absurd (cc)
no_operator (kinds.Operator op) l h = absurd (cc)
no_operator _ l h = refl

no_paren : (k : Kind) → is_quiet k ≡ true → is_open_paren k ≡ false
no_paren kinds.OpenParen h = absurd (cc)
no_paren _ h = refl

no_equals : (k : Kind) → is_quiet k ≡ true → is_equals k ≡ false
no_equals kinds.Equals h = absurd (cc)
no_equals _ h = refl

no_int : (k : Kind) → is_quiet k ≡ true → is_int k ≡ false
no_int kinds.Int h = absurd (cc)
no_int _ h = refl

no_else : (k : Kind) → is_quiet k ≡ true → is_else k ≡ false
no_else kinds.Else h = absurd (cc)
no_else _ h = refl

calm : (k : Kind) (ts : List Terminal) → is_quiet k ≡ true → Calm (token k ∷ ts)
calm k ts h = record { chains = λ l. no_operator k l h; calls = no_paren k h; initials = no_equals k h; longs = no_int k h; branches = no_else k h }

pub calm_end : Calm []
calm_end = record { chains = λ l. tt; calls = refl; initials = refl; longs = refl; branches = refl }

-- the tokens that close a part, before others

abbrev zero_kind : Kind
zero_kind = kinds.Number (pos 0) W32

abbrev name_kind : Kind
name_kind = kinds.Name []

abbrev name_here : RawName
name_here = record { text = []; place = record { line = 0; column = 0 } }

abbrev head_end : List Terminal → List Terminal
head_end ts = token kinds.CloseParen ∷ token kinds.Semicolon ∷ ts

abbrev params_end : List Terminal → List Terminal
params_end ts = token kinds.OpenParen ∷ head_end ts

abbrev thread_end : List Terminal → List Terminal
thread_end ts = token kinds.Void ∷ token kinds.Star ∷ head_end ts

abbrev in_parens : List Terminal → List Terminal
in_parens ts = token kinds.OpenParen ∷ token zero_kind ∷ token kinds.CloseParen ∷ ts

abbrev pub closing : Part → List Terminal → List Terminal
closing (sign s) ts = token (kind_of s) ∷ ts
closing ident ts = token name_kind ∷ ts
closing settle ts = ts
closing (level l) ts = token zero_kind ∷ ts
closing (chain l) ts = ts
closing call ts = ts
closing (args alone) ts = token kinds.CloseParen ∷ ts
closing (more_args alone) ts = token kinds.CloseParen ∷ ts
closing whole ts = token zero_kind ∷ ts
closing condition ts = in_parens ts
closing initial ts = ts
closing long_tail ts = ts
closing type ts = token kinds.Long ∷ ts
closing locals ts = token name_kind ∷ token kinds.Semicolon ∷ ts
closing more_locals ts = token kinds.Semicolon ∷ ts
closing numbers ts = token kinds.Long ∷ token name_kind ∷ token kinds.Semicolon ∷ ts
closing threads ts = token name_kind ∷ token kinds.Semicolon ∷ ts
closing more_threads ts = token kinds.Semicolon ∷ ts
closing decl ts = token kinds.Thread ∷ token name_kind ∷ token kinds.Semicolon ∷ ts
closing after_name ts = token (kinds.Step ops.Add) ∷ ts
closing handle ts = token kinds.OpenParen ∷ token kinds.Ampersand ∷ token name_kind ∷ token kinds.CloseParen ∷ ts
closing simple ts = token (kinds.Step ops.Add) ∷ token name_kind ∷ ts
closing value ts = token kinds.Semicolon ∷ ts
closing first ts = token kinds.Semicolon ∷ ts
closing test ts = token kinds.Semicolon ∷ ts
closing last ts = token kinds.CloseParen ∷ ts
closing do_end ts = token kinds.While ∷ in_parens (token kinds.Semicolon ∷ ts)
closing (bare d) ts = token kinds.Semicolon ∷ ts
closing (stmt d) ts = token kinds.Semicolon ∷ ts
closing (otherwise d) ts = ts
closing (items d) ts = token kinds.CloseBrace ∷ ts
closing literal ts = token zero_kind ∷ ts
closing number ts = token zero_kind ∷ ts
closing globals ts = token kinds.Semicolon ∷ ts
closing more_globals ts = token kinds.Semicolon ∷ ts
closing (after_head may) ts = token kinds.Semicolon ∷ ts
closing (param may) ts = token kinds.Long ∷ head_end ts
closing (param_name may) ts = head_end ts
closing (more_params may) ts = head_end ts
closing (params may) ts = head_end ts
closing (thread_param may) ts = head_end ts
closing (thread_void may) ts = thread_end ts
closing (thread_name may) ts = token name_kind ∷ token kinds.OpenParen ∷ thread_end ts
closing (voided may) ts = token name_kind ∷ params_end ts
closing (named may) ts = params_end ts
closing (typed may) ts = token name_kind ∷ params_end ts
closing mutex_name ts = token name_kind ∷ token kinds.Equals ∷ token kinds.Initializer ∷ token kinds.Semicolon ∷ ts
closing (outer may) ts = token kinds.Void ∷ token name_kind ∷ params_end ts
closing unit_item ts = token kinds.Void ∷ token name_kind ∷ params_end ts

-- they are a reading of the part

named_here : (ts : List Terminal) → ReadsName (token name_kind ∷ ts) name_here ts
named_here ts = grammar.ident refl

level_closed : (l : ℕ) (a : Nesting) (ts : List Terminal) → Calm ts → ReadsLevel l a (token zero_kind ∷ ts) (exprs.Number (pos 0) W32) ts a
level_closed zero a ts h = grammar.number (grammar.next refl)
level_closed (suc l) a ts h = grammar.chain (level_closed l a ts h) (grammar.ends (h.chains l))

zero_closed : (k : Kind) (a : Nesting) (ts : List Terminal) → is_quiet k ≡ true → ReadsLevel top a (token zero_kind ∷ token k ∷ ts) (exprs.Number (pos 0) W32) (token k ∷ ts) a
zero_closed k a ts h = level_closed top a (token k ∷ ts) (calm k ts h)

condition_closed : (a : Nesting) (ts : List Terminal) → grammar.ReadsCondition a (in_parens ts) (exprs.Number (pos 0) W32) ts (settled a)
condition_closed a ts = grammar.condition (grammar.next refl) (grammar.whole (zero_closed kinds.CloseParen a ts refl)) (grammar.next refl)

head_closed : (h : RawHead) (may : Bool) (a : Nesting) (ts : List Terminal) → ReadsAfterHead h may a (token kinds.Semicolon ∷ ts) (tops.Prototype h ∷ []) ts a
head_closed h may a ts = grammar.prototype (grammar.next refl)

params_closed : (h : RawHead) (may : Bool) (a : Nesting) (ts : List Terminal) → ReadsParams h may a (head_end ts) (tops.Prototype h ∷ []) ts a
params_closed h may a ts = grammar.no_params (grammar.next refl) (head_closed h may a ts)

more_params_closed : (h : RawHead) (may : Bool) (a : Nesting) (ts : List Terminal) → grammar.ReadsMoreParams h may a (head_end ts) (tops.Prototype h ∷ []) ts a
more_params_closed h may a ts = grammar.last_param (grammar.next refl) (head_closed h may a ts)

param_name_closed : (h : RawHead) (may : Bool) (w : Width) (a : Nesting) (ts : List Terminal) → grammar.ReadsParamName h may w a (head_end ts) (tops.Prototype (grammar.with_param h w None) ∷ []) ts a
param_name_closed h may w a ts = grammar.without_name (more_params_closed (grammar.with_param h w None) false a ts)

-- a part, read up to the rest
pub record Read (p : Part) (a : Nesting) (ts rest : List Terminal) : Type 0 where
  pub end : Nesting
  pub reads : ReadsPart p a ts rest end

same_end : {p : Part} {a : Nesting} {ts rest : List Terminal} → ReadsPart p a ts rest a → Read p a ts rest
same_end {a = a} r = record { end = a; reads = r }

sign_closed : (s : Sign) (a : Nesting) (ts : List Terminal) → ReadsPart (sign s) a (token (kind_of s) ∷ ts) ts a
sign_closed s a ts = (grammar.next refl, refl)

void_closed : (may : Bool) (a : Nesting) (ts : List Terminal) → grammar.ReadsVoided may a (token name_kind ∷ params_end ts) (tops.Prototype (grammar.head_of name_here Void W32) ∷ []) ts a
void_closed may a ts = grammar.void_function (named_here (params_end ts)) (grammar.next refl) (params_closed (grammar.head_of name_here Void W32) may a ts)

outer_closed : (may : Bool) (a : Nesting) (ts : List Terminal) → grammar.ReadsOuter may a (token kinds.Void ∷ token name_kind ∷ params_end ts) (tops.Prototype (grammar.head_of name_here Void W32) ∷ []) ts a
outer_closed may a ts = grammar.void_item (grammar.next refl) (void_closed may a ts)

named_closed : (may : Bool) (w : Width) (x : RawName) (a : Nesting) (ts : List Terminal) → ReadsNamed may w x a (params_end ts) (tops.Prototype (grammar.head_of x Int w) ∷ []) ts a
named_closed may w x a ts = grammar.number_function (grammar.next refl) (params_closed (grammar.head_of x Int w) may a ts)

thread_param_closed : (x : RawName) (may : Bool) (a : Nesting) (ts : List Terminal) → grammar.ReadsThreadParam x may a (head_end ts) (tops.Prototype (grammar.thread_head x None) ∷ []) ts a
thread_param_closed x may a ts = grammar.unnamed_param (grammar.next refl) (head_closed (grammar.thread_head x None) may a ts)

thread_void_closed : (x : RawName) (may : Bool) (a : Nesting) (ts : List Terminal) → grammar.ReadsThreadVoid x may a (thread_end ts) (tops.Prototype (grammar.thread_head x None) ∷ []) ts a
thread_void_closed x may a ts = grammar.thread_void (grammar.next refl) (grammar.next refl) (thread_param_closed x may a ts)

locals_closed : (here : Place) (w : Width) (a : Nesting) (ts : List Terminal) → grammar.ReadsLocals here w a (token name_kind ∷ token kinds.Semicolon ∷ ts) (grammar.declared here w name_here None ∷ []) ts a
locals_closed here w a ts = grammar.locals (named_here (token kinds.Semicolon ∷ ts)) (grammar.no_initial refl) (grammar.last_local (grammar.next refl))

threads_closed : (here : Place) (ts : List Terminal) → grammar.ReadsThreads here (token name_kind ∷ token kinds.Semicolon ∷ ts) (grammar.thread here name_here ∷ []) ts
threads_closed here ts = grammar.threads (named_here (token kinds.Semicolon ∷ ts)) (grammar.last_thread (grammar.next refl))

long_closed : (k : Kind) (ts : List Terminal) → is_int k ≡ false → grammar.ReadsType (token kinds.Long ∷ token k ∷ ts) W64 (token k ∷ ts)
long_closed k ts h = grammar.long_type (grammar.next refl) (grammar.long h)

pub closed : (p : Part) (a : Nesting) (ts : List Terminal) → Calm ts → Read p a (closing p ts) ts
closed (sign s) a ts h = same_end (sign_closed s a ts)
closed ident a ts h = same_end ((name_here, named_here ts), refl)
closed settle a ts h = record { end = settled a; reads = (refl, refl) }
closed (level l) a ts h = same_end (_, level_closed l a ts h)
closed (chain l) a ts h = same_end (λ left. (left, grammar.ends (h.chains l)))
closed call a ts h = same_end (λ x. (exprs.Name x, grammar.no_call h.calls))
closed (args alone) a ts h = same_end ([], grammar.no_args (grammar.next refl))
closed (more_args alone) a ts h = record { end = ended alone a; reads = ([], grammar.last_arg (grammar.next refl)) }
closed whole a ts h = record { end = settled a; reads = (_, grammar.whole (level_closed top a ts h)) }
closed condition a ts h = record { end = settled a; reads = (_, condition_closed a ts) }
closed initial a ts h = same_end (None, grammar.no_initial h.initials)
closed long_tail a ts h = same_end (grammar.long h.longs, refl)
closed type a ts h = same_end ((W64, grammar.long_type (grammar.next refl) (grammar.long h.longs)), refl)
closed locals a ts h = same_end (λ here w. (_, locals_closed here w a ts))
closed more_locals a ts h = same_end (λ w. ([], grammar.last_local (grammar.next refl)))
closed numbers a ts h = same_end (_, grammar.numbers (long_closed name_kind (token kinds.Semicolon ∷ ts) refl) (locals_closed _ W64 a ts))
closed threads a ts h = same_end ((λ here. (_, threads_closed here ts)), refl)
closed more_threads a ts h = same_end (([], grammar.last_thread (grammar.next refl)), refl)
closed decl a ts h = same_end (_, grammar.thread_decl (grammar.next refl) (threads_closed _ ts))
closed after_name a ts h = same_end (λ x. (_, grammar.stepped (grammar.next refl)))
closed handle a ts h = same_end ((name_here, grammar.handle (grammar.next refl) (grammar.next refl) (named_here (token kinds.CloseParen ∷ ts)) (grammar.next refl)), refl)
closed simple a ts h = same_end (_, grammar.step (grammar.next refl) (named_here ts))
closed value a ts h = same_end (_, grammar.plain (grammar.next refl))
closed first a ts h = same_end ([], grammar.no_first (grammar.next refl))
closed test a ts h = same_end (None, grammar.no_test (grammar.next refl))
closed last a ts h = same_end (None, grammar.no_last (grammar.next refl))
closed do_end a ts h = record { end = settled a; reads = (_, grammar.do_end (grammar.next refl) (condition_closed a (token kinds.Semicolon ∷ ts)) (grammar.next refl)) }
closed (bare d) a ts h = same_end (_, grammar.empty (grammar.next refl))
closed (stmt d) a ts h = record { end = entered d a (token kinds.Semicolon ∷ ts); reads = (_, grammar.stmt (grammar.empty (grammar.next refl))) }
closed (otherwise d) a ts h = same_end (None, grammar.no_else h.branches)
closed (items d) a ts h = same_end ([], _, grammar.close (grammar.next refl))
closed literal a ts h = same_end ((_, _, grammar.literal (grammar.next refl)), refl)
closed number a ts h = same_end ((_, _, grammar.next refl), refl)
closed globals a ts h = same_end ((λ w x. (_, grammar.unset (grammar.last_global (grammar.next refl)))), refl)
closed more_globals a ts h = same_end ((λ w. ([], grammar.last_global (grammar.next refl))), refl)
closed (after_head may) a ts h = same_end (λ hd. (_, head_closed hd may a ts))
closed (param may) a ts h = same_end (λ hd. (_, grammar.param (long_closed kinds.CloseParen (token kinds.Semicolon ∷ ts) refl) (param_name_closed hd may W64 a ts)))
closed (param_name may) a ts h = same_end (λ hd w. (_, param_name_closed hd may w a ts))
closed (more_params may) a ts h = same_end (λ hd. (_, more_params_closed hd may a ts))
closed (params may) a ts h = same_end (λ hd. (_, params_closed hd may a ts))
closed (thread_param may) a ts h = same_end (λ x. (_, thread_param_closed x may a ts))
closed (thread_void may) a ts h = same_end (λ x. (_, thread_void_closed x may a ts))
closed (thread_name may) a ts h = same_end (_, grammar.thread_name (named_here (token kinds.OpenParen ∷ thread_end ts)) (grammar.next refl) (thread_void_closed name_here may a ts))
closed (voided may) a ts h = same_end (_, void_closed may a ts)
closed (named may) a ts h = same_end (λ w x. (_, named_closed may w x a ts))
closed (typed may) a ts h = same_end (λ w. (_, grammar.typed (named_here (params_end ts)) (named_closed may w name_here a ts)))
closed mutex_name a ts h = same_end ((_, grammar.mutex_name (named_here (token kinds.Equals ∷ token kinds.Initializer ∷ token kinds.Semicolon ∷ ts)) (grammar.next refl) (grammar.next refl) (grammar.next refl)), refl)
closed (outer may) a ts h = same_end (_, outer_closed may a ts)
closed unit_item a ts h = same_end (_, grammar.plain_item (outer_closed true a ts))

-- what closes a quiet part is calm

sign_calm : (s : Sign) (ts : List Terminal) → is_quiet_sign s ≡ true → Calm (token (kind_of s) ∷ ts)
sign_calm signs.OpenParen ts h = absurd (cc)
sign_calm signs.Equals ts h = absurd (cc)
sign_calm signs.Star ts h = absurd (cc)
sign_calm signs.CloseParen ts h = calm kinds.CloseParen ts refl
sign_calm signs.Comma ts h = calm kinds.Comma ts refl
sign_calm signs.Semicolon ts h = calm kinds.Semicolon ts refl
sign_calm signs.Ampersand ts h = calm kinds.Ampersand ts refl
sign_calm signs.Void ts h = calm kinds.Void ts refl
sign_calm signs.While ts h = calm kinds.While ts refl
sign_calm signs.Null ts h = calm kinds.Null ts refl
sign_calm signs.Initializer ts h = calm kinds.Initializer ts refl

pub closing_calm : (p : Part) (ts : List Terminal) → is_quiet_part p ≡ true → Calm ts → Calm (closing p ts)
closing_calm (sign s) ts q h = sign_calm s ts q
closing_calm settle ts q h = h
closing_calm (chain l) ts q h = h
closing_calm call ts q h = h
closing_calm condition ts q h = absurd (cc)
closing_calm initial ts q h = h
closing_calm long_tail ts q h = h
closing_calm handle ts q h = absurd (cc)
closing_calm (otherwise d) ts q h = h
closing_calm (named may) ts q h = absurd (cc)
closing_calm ident ts q h = calm name_kind _ refl
closing_calm (level l) ts q h = calm zero_kind _ refl
closing_calm (args alone) ts q h = calm kinds.CloseParen _ refl
closing_calm (more_args alone) ts q h = calm kinds.CloseParen _ refl
closing_calm whole ts q h = calm zero_kind _ refl
closing_calm type ts q h = calm kinds.Long _ refl
closing_calm locals ts q h = calm name_kind _ refl
closing_calm more_locals ts q h = calm kinds.Semicolon _ refl
closing_calm numbers ts q h = calm kinds.Long _ refl
closing_calm threads ts q h = calm name_kind _ refl
closing_calm more_threads ts q h = calm kinds.Semicolon _ refl
closing_calm decl ts q h = calm kinds.Thread _ refl
closing_calm after_name ts q h = calm (kinds.Step ops.Add) _ refl
closing_calm simple ts q h = calm (kinds.Step ops.Add) _ refl
closing_calm value ts q h = calm kinds.Semicolon _ refl
closing_calm first ts q h = calm kinds.Semicolon _ refl
closing_calm test ts q h = calm kinds.Semicolon _ refl
closing_calm last ts q h = calm kinds.CloseParen _ refl
closing_calm do_end ts q h = calm kinds.While _ refl
closing_calm (bare d) ts q h = calm kinds.Semicolon _ refl
closing_calm (stmt d) ts q h = calm kinds.Semicolon _ refl
closing_calm (items d) ts q h = calm kinds.CloseBrace _ refl
closing_calm literal ts q h = calm zero_kind _ refl
closing_calm number ts q h = calm zero_kind _ refl
closing_calm globals ts q h = calm kinds.Semicolon _ refl
closing_calm more_globals ts q h = calm kinds.Semicolon _ refl
closing_calm (after_head may) ts q h = calm kinds.Semicolon _ refl
closing_calm (param may) ts q h = calm kinds.Long _ refl
closing_calm (param_name may) ts q h = calm kinds.CloseParen _ refl
closing_calm (more_params may) ts q h = calm kinds.CloseParen _ refl
closing_calm (params may) ts q h = calm kinds.CloseParen _ refl
closing_calm (thread_param may) ts q h = calm kinds.CloseParen _ refl
closing_calm (thread_void may) ts q h = calm kinds.Void _ refl
closing_calm (thread_name may) ts q h = calm name_kind _ refl
closing_calm (voided may) ts q h = calm name_kind _ refl
closing_calm (typed may) ts q h = calm name_kind _ refl
closing_calm mutex_name ts q h = calm name_kind _ refl
closing_calm (outer may) ts q h = calm kinds.Void _ refl
closing_calm unit_item ts q h = calm kinds.Void _ refl
