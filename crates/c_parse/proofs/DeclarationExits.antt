-- What each exit of the descent through a declaration rests on.
use Rattle.std.proofs.Common.{subst, append-nil, ◌<◌, arith, ◌≡◌, refl, sym, ap, ◌∙◌, false, List, [], ◌∷◌, ◌++◌, length, Option, Some, None, append_assoc}
use Rattle.gob_tree.specs.declared.expr.Width.{Width}
use Rattle.gob_tree.specs.declared.place.Place.{Place}
use Rattle.c_parse.specs.declared.terminal.Terminal.{Terminal}
use Rattle.c_parse.specs.declared.terminal.Kind.{Kind}
use Rattle.c_parse.specs.declared.terminal.Kind.TheVariants as kinds
use Rattle.c_parse.specs.declared.stop.Trouble.TheVariants.{Bad}
use Rattle.c_parse.specs.declared.raw.expr.RawName.{RawName}
use Rattle.c_parse.specs.declared.raw.expr.RawExpr.{RawExpr}
use Rattle.c_parse.specs.declared.raw.stmt.RawPlaced.{RawPlaced}
use Rattle.c_parse.specs.Grammar as grammar
use Rattle.c_parse.specs.Grammar.{Nesting, counted, entered, settled, ended, within, operator, top, begins_with, is_open_paren, is_equals, is_int, is_else, EndsChain, Next, ReadsName, ReadsOperator, ReadsLevel, ReadsChain, ReadsCall, ReadsArgs, ReadsMoreArgs, ReadsWhole, ReadsCondition, ReadsInitial, ReadsLongTail, ReadsType, ReadsLocals, ReadsMoreLocals, ReadsNumbers, ReadsThreads, ReadsMoreThreads, ReadsDecl, ReadsAfterName, ReadsHandle, ReadsSimple, ReadsValue, ReadsFirst, ReadsTest, ReadsLast, ReadsDoEnd, ReadsBare, ReadsStmt, ReadsElse, ReadsItems, ReadsLiteral, ReadsGlobals, ReadsMoreGlobals, ReadsAfterHead, ReadsParam, ReadsParamName, ReadsMoreParams, ReadsParams, ReadsThreadParam, ReadsThreadVoid, ReadsThreadName, ReadsVoided, ReadsNamed, ReadsTyped, ReadsMutexName, ReadsOuter, ReadsItem, ReadsUnit}
use Rattle.c_parse.specs.Machine.{Effect, keeps, counts, ends_arg, enters, settles, effect, Part, Move, takes, skips, stops, Outcome, finished, troubled, sign, ident, settle, level, chain, call, args, more_args, whole, condition, initial, long_tail, type, locals, more_locals, numbers, threads, more_threads, decl, after_name, handle, simple, value, first, test, last, do_end, bare, stmt, otherwise, items, literal, number, globals, more_globals, after_head, param, param_name, more_params, params, thread_param, thread_void, thread_name, voided, named, typed, mutex_name, outer, unit_item, before, entering, move, moved, behind, settled_next, next, run, go_on, unless_over, is_sign, kind_of, Passes}
use Rattle.c_parse.specs.Machine.{opens_operand, opens_type, opens_decl, opens_simple, opens_stmt, is_close_paren, is_semicolon, is_close_brace, is_comma, ends_value, ends_first, ends_items, ends_params, is_name, is_word_outside, is_storage, is_thread, is_worded}
use Rattle.c_parse.specs.Machine as parts
use Rattle.c_parse.proofs.Opening.{taken, opened_numbers, opened_decl}
use Rattle.c_parse.specs.declared.stop.Stop.{Stop}
use Rattle.c_parse.specs.declared.stop.Stop.TheVariants.{At}
use Rattle.c_parse.specs.Machine.{Breaks, BreaksIn, BreaksEver, BreaksUnit, IsOver, ReadsOnto, want}
use Rattle.c_parse.proofs.Passing.{passes_ident, passes_initial, passes_type}
use Rattle.c_parse.proofs.Descent.{next_is, here, behind_it, opens_row, is_row, starts_not, RunsOn, runs_stop, shorter_name}
use Rattle.c_parse.proofs.Shorter.{shorter_initial}
use Rattle.c_parse.proofs.Rows.{by_row, named_row, behind_ident, stops_flat, stops_end}
use Rattle.c_parse.specs.Descent.{ReadsLocal, MoreLocalsOnto, NumbersOnto, MoreThreadsOnto, ThreadsOnto, DeclOnto}
use Rattle.gob_tree.specs.declared.expr.Width.TheVariants.{W32, W64}

-- types

pub long_int_found : {ts us : List Terminal} {t : Terminal} → ts ≡ t ∷ us → t.kind ≡ kinds.Int → ReadsLongTail ts us
long_int_found q h = grammar.long_int (next_is q h)

not_int : (k : Kind) → (k ≡ kinds.Int → ⊥) → is_int k ≡ false
not_int kinds.Int h = absurd (h refl)
not_int _ h = refl

pub no_long_int_found : {ts us : List Terminal} {t : Terminal} → ts ≡ t ∷ us → (t.kind ≡ kinds.Int → ⊥) → ReadsLongTail ts ts
no_long_int_found {t = t} q h = grammar.long (ap (begins_with is_int) q ∙ not_int t.kind h)

pub no_long_int_at_end : {ts : List Terminal} → length ts ≡ 0 → ReadsLongTail ts ts
no_long_int_at_end {ts = ts} h = grammar.long (starts_not ts is_int h)

pub int_found : {ts us : List Terminal} {t : Terminal} → ts ≡ t ∷ us → t.kind ≡ kinds.Int → ReadsType ts W32 us
int_found q h = grammar.int_type (next_is q h)

pub long_found : {ts us rest : List Terminal} {t : Terminal} → ts ≡ t ∷ us → t.kind ≡ kinds.Long → ReadsLongTail us rest → ReadsType ts W64 rest
long_found q h d = grammar.long_type (next_is q h) d

-- one name of a declaration of numbers

pub initial_found : {ts us rest : List Terminal} {t : Terminal} {e : RawExpr} → ts ≡ t ∷ us → t.kind ≡ kinds.Equals → ReadsWhole (within 0) us e rest (within 0) → ReadsInitial (within 0) ts (Some e) rest (within 0)
initial_found q h d = grammar.initial (next_is q h) d

not_equals : (k : Kind) → (k ≡ kinds.Equals → ⊥) → is_equals k ≡ false
not_equals kinds.Equals h = absurd (h refl)
not_equals _ h = refl

pub no_initial_found : {ts us : List Terminal} {t : Terminal} → ts ≡ t ∷ us → (t.kind ≡ kinds.Equals → ⊥) → ReadsInitial (within 0) ts None ts (within 0)
no_initial_found {t = t} q h = grammar.no_initial (ap (begins_with is_equals) q ∙ not_equals t.kind h)

pub no_initial_at_end : {ts : List Terminal} → length ts ≡ 0 → ReadsInitial (within 0) ts None ts (within 0)
no_initial_at_end {ts = ts} h = grammar.no_initial (starts_not ts is_equals h)

pub initial_stop : {ts v0 : List Terminal} {t : Terminal} {s : Stop} → ts ≡ t ∷ v0 → t.kind ≡ kinds.Equals → Breaks whole (within 0) v0 s → Breaks initial (within 0) ts s
initial_stop q h b = opens_row initial keeps (whole ∷ []) (next_is q h) refl (here b)

locals_by : (k : Kind) → move locals k ≡ by_row (is_name k) (initial ∷ more_locals ∷ [])
locals_by (kinds.Name x) = refl
locals_by _ = refl

locals_row : (ts : List Terminal) (below : List Part) → run (locals ∷ below) (within 0) ts ≡ run (ident ∷ initial ∷ more_locals ∷ below) (within 0) ts
locals_row ts below = named_row locals (initial ∷ more_locals ∷ []) refl locals_by ts below

pub local_0_stop : {v0 : List Terminal} {s : Stop} → Breaks ident (within 0) v0 s → Breaks locals (within 0) v0 s
local_0_stop {v0 = v0} b = is_row {ps = ident ∷ initial ∷ more_locals ∷ []} (locals_row v0) (here b)

pub local_1_stop : {v0 v1 : List Terminal} {x : RawName} {s : Stop} → ReadsName v0 x v1 → Breaks initial (within 0) v1 s → Breaks locals (within 0) v0 s
local_1_stop {v0 = v0} n0 b = is_row {ps = ident ∷ initial ∷ more_locals ∷ []} (locals_row v0) (behind_ident n0 (here b))

pub local_found : {ts mid rest : List Terminal} {here : Place} {w : Width} {x : RawName} {i : Option RawExpr} → ReadsName ts x mid → ReadsInitial (within 0) mid i rest (within 0) → ReadsLocal here w ts (grammar.declared here w x i) rest
local_found {mid = mid} {x = x} {i = i} n d = record { mid = mid; x = x; i = i; name = n; initial = d; is = refl }

-- a part breaks behind a name that was read of it
pub behind_local : {here : Place} {w : Width} {p : RawPlaced} {ts mid : List Terminal} {s : Stop} → ReadsLocal here w ts p mid → Breaks more_locals (within 0) mid s → Breaks locals (within 0) ts s
behind_local {ts = ts} {mid = mid} d b = is_row {ps = ident ∷ initial ∷ more_locals ∷ []} (locals_row ts) (behind_ident d.name (behind_it {p = initial} {mid = mid} (passes_initial d.initial) (here b)))

passes_local : {here : Place} {w : Width} {p : RawPlaced} {ts mid : List Terminal} → ReadsLocal here w ts p mid → (below : List Part) → run (locals ∷ below) (within 0) ts ≡ run (more_locals ∷ below) (within 0) mid
passes_local {ts = ts} d below = locals_row ts below ∙ passes_ident (within 0) d.name (initial ∷ more_locals ∷ below) ∙ passes_initial d.initial (more_locals ∷ below)

reads_local : {here : Place} {w : Width} {p : RawPlaced} {ts mid rest : List Terminal} {ps : List RawPlaced} → ReadsLocal here w ts p mid → ReadsMoreLocals w (within 0) mid ps rest (within 0) → ReadsLocals here w (within 0) ts (p ∷ ps) rest (within 0)
reads_local {here = here} {w = w} {ts = ts} {rest = rest} {ps = ps} d m = rw d.is (grammar.locals d.name d.initial m)

pub shorter_local : {here : Place} {w : Width} {p : RawPlaced} {ts mid : List Terminal} → ReadsLocal here w ts p mid → length mid < length ts
shorter_local d = let k = shorter_name d.name in let m = shorter_initial d.initial in omega (arith, k, m)

-- lists of names of a declaration of numbers

abbrev pub LocalsGoOn : Width → List RawPlaced → List Terminal → List RawPlaced → List Terminal → Type 0
LocalsGoOn w front ts list us = (some : List RawPlaced) (left : List Terminal) → ReadsMoreLocals w (within 0) us some left (within 0) → MoreLocalsOnto w front ts (list ++ some) left

pub locals_begun : {w : Width} {front : List RawPlaced} {ts : List Terminal} → LocalsGoOn w front ts front ts
locals_begun some left d = record { some = some; is = refl; reads = d }

pub locals_closed : {w : Width} (front : List RawPlaced) {list : List RawPlaced} {ts us rest : List Terminal} {t : Terminal} → LocalsGoOn w front ts list us → us ≡ t ∷ rest → t.kind ≡ kinds.Semicolon → MoreLocalsOnto w front ts list rest
locals_closed {w = w} front {list = list} {ts = ts} {rest = rest} reads q h = subst (λ (l : List RawPlaced). MoreLocalsOnto w front ts l rest) (append-nil list) (reads [] rest (grammar.last_local (next_is q h)))

pub locals_again : {w : Width} (front list now : List RawPlaced) {ts us vs mid : List Terminal} {t : Terminal} {here : Place} {p : RawPlaced} → LocalsGoOn w front ts list us → now ≡ list ++ p ∷ [] → us ≡ t ∷ vs → t.kind ≡ kinds.Comma → here ≡ grammar.place_at vs → ReadsLocal here w vs p mid → LocalsGoOn w front ts now mid
locals_again {w = w} front list now {ts = ts} {vs = vs} {mid = mid} {p = p} reads e q h o d some left m = subst (λ (l : List RawPlaced). MoreLocalsOnto w front ts l left) (sym (append_assoc list (p ∷ []) some) ∙ ap (λ (l : List RawPlaced). l ++ some) (sym e)) (reads (p ∷ some) left (grammar.next_local (next_is q h) (subst (λ (here : Place). ReadsLocals here w (within 0) vs (p ∷ some) left (within 0)) o (reads_local d m))))

pub locals_run : {here : Place} {w : Width} {us vs mid : List Terminal} {t : Terminal} {p : RawPlaced} → us ≡ t ∷ vs → t.kind ≡ kinds.Comma → ReadsLocal here w vs p mid → RunsOn more_locals (within 0) us (within 0) mid
locals_run q h d = record { runs = λ below. taken (within 0) more_locals keeps (locals ∷ []) (next_is q h) refl below ∙ passes_local d below }

pub next_local_stop : {ts us vs : List Terminal} {t : Terminal} {s : Stop} → RunsOn more_locals (within 0) ts (within 0) us → us ≡ t ∷ vs → t.kind ≡ kinds.Comma → Breaks locals (within 0) vs s → Breaks more_locals (within 0) ts s
next_local_stop runs q h b = runs_stop runs (opens_row more_locals keeps (locals ∷ []) (next_is q h) refl (here b))

pub more_locals_mark : {ts us vs : List Terminal} {t : Terminal} → RunsOn more_locals (within 0) ts (within 0) us → us ≡ t ∷ vs → parts.more_locals_move t.kind ≡ stops → Breaks more_locals (within 0) ts (At Bad (length us))
more_locals_mark runs q h = runs_stop runs (stops_flat q h)

pub more_locals_end : {ts : List Terminal} (us : List Terminal) → RunsOn more_locals (within 0) ts (within 0) us → length us ≡ 0 → Breaks more_locals (within 0) ts (At Bad 0)
more_locals_end us runs h = runs_stop runs (stops_end h refl)

-- declarations of numbers

pub numbers_type_stop : {ts : List Terminal} {s : Stop} → Breaks type (within 0) ts s → Breaks numbers (within 0) ts s
numbers_type_stop {ts = ts} b = is_row {ps = type ∷ locals ∷ []} (opened_numbers (within 0) ts) (here b)

pub numbers_local_stop : {ts us : List Terminal} {w : Width} {s : Stop} → ReadsType ts w us → Breaks locals (within 0) us s → Breaks numbers (within 0) ts s
numbers_local_stop {ts = ts} {us = us} n b = is_row {ps = type ∷ locals ∷ []} (opened_numbers (within 0) ts) (behind_it {p = type} {mid = us} (passes_type (within 0) n) (here b))

pub numbers_more_stop : {ts us mid : List Terminal} {w : Width} {here : Place} {p : RawPlaced} {s : Stop} → ReadsType ts w us → ReadsLocal here w us p mid → Breaks more_locals (within 0) mid s → Breaks numbers (within 0) ts s
numbers_more_stop n d b = numbers_local_stop n (behind_local d b)

pub numbers_found : {front list all : List RawPlaced} {ts us mid rest : List Terminal} {w : Width} {here : Place} {p : RawPlaced} → ReadsType ts w us → here ≡ grammar.place_at ts → ReadsLocal here w us p mid → list ≡ front ++ p ∷ [] → MoreLocalsOnto w list mid all rest → NumbersOnto front ts all rest
numbers_found {front = front} {ts = ts} {us = us} {rest = rest} {w = w} {p = p} n o d e m = record {
  some = p ∷ m.some;
  is = m.is ∙ ap (λ (l : List RawPlaced). l ++ m.some) e ∙ append_assoc front (p ∷ []) m.some;
  reads = grammar.numbers n (subst (λ (here : Place). ReadsLocals here w (within 0) us (p ∷ m.some) rest (within 0)) o (reads_local d m.reads));
}

-- thread variables

threads_by : (k : Kind) → move threads k ≡ by_row (is_name k) (more_threads ∷ [])
threads_by (kinds.Name x) = refl
threads_by _ = refl

threads_row : (ts : List Terminal) (below : List Part) → run (threads ∷ below) (within 0) ts ≡ run (ident ∷ more_threads ∷ below) (within 0) ts
threads_row ts below = named_row threads (more_threads ∷ []) refl threads_by ts below

pub threads_0_stop : {ts : List Terminal} {s : Stop} → Breaks ident (within 0) ts s → Breaks threads (within 0) ts s
threads_0_stop {ts = ts} b = is_row {ps = ident ∷ more_threads ∷ []} (threads_row ts) (here b)

pub threads_1_stop : {ts mid : List Terminal} {x : RawName} {s : Stop} → ReadsName ts x mid → Breaks more_threads (within 0) mid s → Breaks threads (within 0) ts s
threads_1_stop {ts = ts} n b = is_row {ps = ident ∷ more_threads ∷ []} (threads_row ts) (behind_ident n (here b))

name_place : {ts rest : List Terminal} {x : RawName} → ReadsName ts x rest → x.place ≡ grammar.place_at ts
name_place (grammar.ident h) = refl

abbrev pub ThreadsGoOn : List RawPlaced → List Terminal → List RawPlaced → List Terminal → Type 0
ThreadsGoOn front ts list us = (some : List RawPlaced) (left : List Terminal) → ReadsMoreThreads us some left → MoreThreadsOnto front ts (list ++ some) left

pub threads_begun : {front : List RawPlaced} {ts : List Terminal} → ThreadsGoOn front ts front ts
threads_begun some left d = record { some = some; is = refl; reads = d }

pub threads_closed : (front : List RawPlaced) {list : List RawPlaced} {ts us rest : List Terminal} {t : Terminal} → ThreadsGoOn front ts list us → us ≡ t ∷ rest → t.kind ≡ kinds.Semicolon → MoreThreadsOnto front ts list rest
threads_closed front {list = list} {ts = ts} {rest = rest} reads q h = subst (λ (l : List RawPlaced). MoreThreadsOnto front ts l rest) (append-nil list) (reads [] rest (grammar.last_thread (next_is q h)))

pub threads_again : (front list now : List RawPlaced) {ts us vs mid : List Terminal} {t : Terminal} {x : RawName} → ThreadsGoOn front ts list us → now ≡ list ++ grammar.thread x.place x ∷ [] → us ≡ t ∷ vs → t.kind ≡ kinds.Comma → ReadsName vs x mid → ThreadsGoOn front ts now mid
threads_again front list now {ts = ts} {vs = vs} {mid = mid} {x = x} reads e q h n some left m = subst (λ (l : List RawPlaced). MoreThreadsOnto front ts l left) (sym (append_assoc list (grammar.thread x.place x ∷ []) some) ∙ ap (λ (l : List RawPlaced). l ++ some) (sym e)) (reads (grammar.thread x.place x ∷ some) left (grammar.next_thread (next_is q h) (subst (λ (here : Place). ReadsThreads here vs (grammar.thread x.place x ∷ some) left) (name_place n) (grammar.threads n m))))

pub threads_run : {us vs mid : List Terminal} {t : Terminal} {x : RawName} → us ≡ t ∷ vs → t.kind ≡ kinds.Comma → ReadsName vs x mid → RunsOn more_threads (within 0) us (within 0) mid
threads_run {vs = vs} q h n = record { runs = λ below. taken (within 0) more_threads keeps (threads ∷ []) (next_is q h) refl below ∙ threads_row vs below ∙ passes_ident (within 0) n (more_threads ∷ below) }

pub next_thread_stop : {ts us vs : List Terminal} {t : Terminal} {s : Stop} → RunsOn more_threads (within 0) ts (within 0) us → us ≡ t ∷ vs → t.kind ≡ kinds.Comma → Breaks ident (within 0) vs s → Breaks more_threads (within 0) ts s
next_thread_stop runs q h b = runs_stop runs (opens_row more_threads keeps (threads ∷ []) (next_is q h) refl (here (threads_0_stop b)))

pub more_threads_mark : {ts us vs : List Terminal} {t : Terminal} → RunsOn more_threads (within 0) ts (within 0) us → us ≡ t ∷ vs → parts.more_threads_move t.kind ≡ stops → Breaks more_threads (within 0) ts (At Bad (length us))
more_threads_mark runs q h = runs_stop runs (stops_flat q h)

pub more_threads_end : {ts : List Terminal} (us : List Terminal) → RunsOn more_threads (within 0) ts (within 0) us → length us ≡ 0 → Breaks more_threads (within 0) ts (At Bad 0)
more_threads_end us runs h = runs_stop runs (stops_end h refl)

pub threads_found : {front list all : List RawPlaced} {ts mid rest : List Terminal} {here : Place} {x : RawName} → ReadsName ts x mid → list ≡ front ++ grammar.thread here x ∷ [] → MoreThreadsOnto list mid all rest → ThreadsOnto here front ts all rest
threads_found {front = front} {here = here} {x = x} n e m = record {
  some = grammar.thread here x ∷ m.some;
  is = m.is ∙ ap (λ (l : List RawPlaced). l ++ m.some) e ∙ append_assoc front (grammar.thread here x ∷ []) m.some;
  reads = grammar.threads n m.reads;
}

-- declarations

pub thread_decl_found : {front all : List RawPlaced} {ts us rest : List Terminal} {t : Terminal} → ts ≡ t ∷ us → t.kind ≡ kinds.Thread → ThreadsOnto t.place front us all rest → DeclOnto front ts all rest
thread_decl_found {us = us} {rest = rest} q h o = record { some = o.some; is = o.is; reads = grammar.thread_decl (next_is q h) (subst (λ (here : Place). ReadsThreads here us o.some rest) (sym (ap grammar.place_at q)) o.reads) }

pub thread_decl_stop : {ts us : List Terminal} {t : Terminal} {s : Stop} → ts ≡ t ∷ us → t.kind ≡ kinds.Thread → Breaks threads (within 0) us s → Breaks decl (within 0) ts s
thread_decl_stop q h b = opens_row decl keeps (threads ∷ []) (next_is q h) refl (here b)

pub number_decl_found : {front all : List RawPlaced} {ts rest : List Terminal} → NumbersOnto front ts all rest → DeclOnto front ts all rest
number_decl_found o = record { some = o.some; is = o.is; reads = grammar.number_decl o.reads }

not_thread : (k : Kind) → (k ≡ kinds.Thread → ⊥) → is_thread k ≡ false
not_thread kinds.Thread h = absurd (h refl)
not_thread _ h = refl

pub number_decl_stop : {ts us : List Terminal} {t : Terminal} {s : Stop} → ts ≡ t ∷ us → (t.kind ≡ kinds.Thread → ⊥) → Breaks numbers (within 0) ts s → Breaks decl (within 0) ts s
number_decl_stop {ts = ts} {t = t} q h b = is_row {ps = numbers ∷ []} (λ below. opened_decl (within 0) ts below (ap (begins_with is_thread) q ∙ not_thread t.kind h)) (here b)
