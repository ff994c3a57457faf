-- All parts of a stack but the first are quiet: what closes them doesn't go on with a part above them. So
-- each stack that is reached can be completed.
use Rattle.std.proofs.Common.{◌≡◌, refl, ℕ, zero, suc, Bool, true, false, ◌&&◌, List, [], ◌∷◌, ◌++◌, Option, Some, None}
use Rattle.gob_tree.specs.declared.expr.BinOp.{BinOp}
use Rattle.c_parse.specs.declared.terminal.Kind.{Kind}
use Rattle.c_parse.specs.declared.terminal.Kind.TheVariants as kinds
use Rattle.c_parse.specs.declared.stop.Sign.{Sign}
use Rattle.c_parse.specs.declared.stop.Sign.TheVariants as signs
use Rattle.c_parse.specs.Grammar.{operator, top}
use Rattle.c_parse.specs.Machine.{Effect, Part, Move, takes, skips, stops, sign, ident, settle, level, chain, call, args, more_args, whole, condition, initial, long_tail, type, locals, more_locals, numbers, threads, more_threads, decl, after_name, handle, simple, value, first, test, last, do_end, bare, stmt, otherwise, items, literal, number, globals, more_globals, after_head, param, param_name, more_params, params, thread_param, thread_void, thread_name, voided, named, typed, mutex_name, outer, unit_item, before, entering, move, is_sign, kind_of}
use Rattle.c_parse.specs.Machine as parts

abbrev pub is_quiet_sign : Sign → Bool
is_quiet_sign signs.OpenParen = false
is_quiet_sign signs.Equals = false
is_quiet_sign signs.Star = false
is_quiet_sign _ = true

abbrev pub is_quiet_part : Part → Bool
is_quiet_part (sign s) = is_quiet_sign s
is_quiet_part condition = false
is_quiet_part handle = false
is_quiet_part (named may) = false
is_quiet_part _ = true

abbrev pub are_quiet : List Part → Bool
are_quiet [] = true
are_quiet (p ∷ ps) = is_quiet_part p && are_quiet ps

abbrev pub behind_first : List Part → List Part
behind_first [] = []
behind_first (p ∷ ps) = ps

pub both : (a b : Bool) → (a && b) ≡ true → (a ≡ true) × (b ≡ true)
both true b h = (refl, h)
both false b h = absurd (cc)

pub quiet_rest : (ps : List Part) → are_quiet ps ≡ true → are_quiet (behind_first ps) ≡ true
quiet_rest [] h = refl
quiet_rest (p ∷ ps) h = (both (is_quiet_part p) (are_quiet ps) h).1

quiet_join : (ps qs : List Part) → are_quiet ps ≡ true → are_quiet qs ≡ true → are_quiet (ps ++ qs) ≡ true
quiet_join [] qs h k = k
quiet_join (p ∷ ps) qs h k = let b = both (is_quiet_part p) (are_quiet ps) h in rw b.0 (quiet_join ps qs b.1 k)

pub joined_quiet : (rs ps : List Part) → are_quiet (behind_first rs) ≡ true → are_quiet ps ≡ true → are_quiet (behind_first (rs ++ ps)) ≡ true
joined_quiet [] ps h k = quiet_rest ps k
joined_quiet (r ∷ rs) ps h k = quiet_join rs ps h k

-- the rows of the moves

abbrev pub is_quiet_row : Move → Bool
is_quiet_row (takes e ps) = are_quiet (behind_first ps)
is_quiet_row skips = true
is_quiet_row stops = true

before_quiet : (m : Move) (p : Part) → is_quiet_part p ≡ true → is_quiet_row m ≡ true → is_quiet_row (before m p) ≡ true
before_quiet (takes e []) p h k = refl
before_quiet (takes e (q ∷ qs)) p h k = quiet_join qs (p ∷ []) k (rw h refl)
before_quiet skips p h k = refl
before_quiet stops p h k = refl

entering_quiet : (d : ℕ) (m : Move) → is_quiet_row m ≡ true → is_quiet_row (entering d m) ≡ true
entering_quiet d (takes e ps) h = h
entering_quiet d skips h = refl
entering_quiet d stops h = refl

sign_quiet : (b : Bool) → is_quiet_row (parts.by_sign b) ≡ true
sign_quiet true = refl
sign_quiet false = refl

ident_quiet : (k : Kind) → is_quiet_row (parts.ident_move k) ≡ true
ident_quiet (kinds.Name x) = refl
ident_quiet _ = refl

operand_quiet : (k : Kind) → is_quiet_row (parts.operand k) ≡ true
operand_quiet (kinds.Number v w) = refl
operand_quiet (kinds.Name x) = refl
operand_quiet kinds.Minus = refl
operand_quiet kinds.Plus = refl
operand_quiet kinds.Not = refl
operand_quiet kinds.OpenParen = refl
operand_quiet _ = refl

level_quiet : (l : ℕ) (k : Kind) → is_quiet_row (parts.level_move l k) ≡ true
level_quiet zero k = operand_quiet k
level_quiet (suc l) k = before_quiet (parts.level_move l k) (chain l) refl (level_quiet l k)

chain_quiet : (l : ℕ) (o : Option BinOp) → is_quiet_row (parts.chain_move l o) ≡ true
chain_quiet l None = refl
chain_quiet l (Some op) = refl

call_quiet : (k : Kind) → is_quiet_row (parts.call_move k) ≡ true
call_quiet kinds.OpenParen = refl
call_quiet _ = refl

args_quiet : (alone : Bool) (k : Kind) → is_quiet_row (parts.args_move alone k) ≡ true
args_quiet alone kinds.CloseParen = refl
args_quiet alone k = before_quiet (parts.level_move top k) (more_args alone) refl (level_quiet top k)

more_args_quiet : (alone : Bool) (k : Kind) → is_quiet_row (parts.more_args_move alone k) ≡ true
more_args_quiet alone kinds.CloseParen = refl
more_args_quiet alone kinds.Comma = refl
more_args_quiet alone _ = refl

whole_quiet : (k : Kind) → is_quiet_row (parts.whole_move k) ≡ true
whole_quiet k = before_quiet (parts.level_move top k) settle refl (level_quiet top k)

condition_quiet : (k : Kind) → is_quiet_row (parts.condition_move k) ≡ true
condition_quiet kinds.OpenParen = refl
condition_quiet _ = refl

initial_quiet : (k : Kind) → is_quiet_row (parts.initial_move k) ≡ true
initial_quiet kinds.Equals = refl
initial_quiet _ = refl

long_tail_quiet : (k : Kind) → is_quiet_row (parts.long_tail_move k) ≡ true
long_tail_quiet kinds.Int = refl
long_tail_quiet _ = refl

type_quiet : (k : Kind) → is_quiet_row (parts.type_move k) ≡ true
type_quiet kinds.Int = refl
type_quiet kinds.Long = refl
type_quiet _ = refl

locals_quiet : (k : Kind) → is_quiet_row (parts.locals_move k) ≡ true
locals_quiet (kinds.Name x) = refl
locals_quiet _ = refl

more_locals_quiet : (k : Kind) → is_quiet_row (parts.more_locals_move k) ≡ true
more_locals_quiet kinds.Semicolon = refl
more_locals_quiet kinds.Comma = refl
more_locals_quiet _ = refl

numbers_quiet : (k : Kind) → is_quiet_row (parts.numbers_move k) ≡ true
numbers_quiet k = before_quiet (parts.type_move k) locals refl (type_quiet k)

threads_quiet : (k : Kind) → is_quiet_row (parts.threads_move k) ≡ true
threads_quiet (kinds.Name x) = refl
threads_quiet _ = refl

more_threads_quiet : (k : Kind) → is_quiet_row (parts.more_threads_move k) ≡ true
more_threads_quiet kinds.Semicolon = refl
more_threads_quiet kinds.Comma = refl
more_threads_quiet _ = refl

decl_quiet : (k : Kind) → is_quiet_row (parts.decl_move k) ≡ true
decl_quiet kinds.Thread = refl
decl_quiet k = numbers_quiet k

after_name_quiet : (k : Kind) → is_quiet_row (parts.after_name_move k) ≡ true
after_name_quiet kinds.Equals = refl
after_name_quiet (kinds.Update op) = refl
after_name_quiet (kinds.Step op) = refl
after_name_quiet kinds.OpenParen = refl
after_name_quiet _ = refl

handle_quiet : (k : Kind) → is_quiet_row (parts.handle_move k) ≡ true
handle_quiet kinds.OpenParen = refl
handle_quiet _ = refl

simple_quiet : (k : Kind) → is_quiet_row (parts.simple_move k) ≡ true
simple_quiet (kinds.Name x) = refl
simple_quiet (kinds.Step op) = refl
simple_quiet kinds.Assert = refl
simple_quiet kinds.Create = refl
simple_quiet kinds.Join = refl
simple_quiet kinds.Lock = refl
simple_quiet kinds.Unlock = refl
simple_quiet _ = refl

value_quiet : (k : Kind) → is_quiet_row (parts.value_move k) ≡ true
value_quiet kinds.Semicolon = refl
value_quiet kinds.Null = refl
value_quiet k = before_quiet (parts.whole_move k) (sign signs.Semicolon) refl (whole_quiet k)

first_quiet : (k : Kind) → is_quiet_row (parts.first_move k) ≡ true
first_quiet kinds.Semicolon = refl
first_quiet kinds.Int = refl
first_quiet kinds.Long = refl
first_quiet k = before_quiet (parts.simple_move k) (sign signs.Semicolon) refl (simple_quiet k)

test_quiet : (k : Kind) → is_quiet_row (parts.test_move k) ≡ true
test_quiet kinds.Semicolon = refl
test_quiet k = before_quiet (parts.whole_move k) (sign signs.Semicolon) refl (whole_quiet k)

last_quiet : (k : Kind) → is_quiet_row (parts.last_move k) ≡ true
last_quiet kinds.CloseParen = refl
last_quiet k = before_quiet (parts.simple_move k) (sign signs.CloseParen) refl (simple_quiet k)

do_end_quiet : (k : Kind) → is_quiet_row (parts.do_end_move k) ≡ true
do_end_quiet kinds.While = refl
do_end_quiet _ = refl

bare_quiet : (d : ℕ) (k : Kind) → is_quiet_row (parts.bare_move d k) ≡ true
bare_quiet d kinds.Semicolon = refl
bare_quiet d kinds.OpenBrace = refl
bare_quiet d kinds.If = refl
bare_quiet d kinds.While = refl
bare_quiet d kinds.Do = refl
bare_quiet d kinds.For = refl
bare_quiet d kinds.Break = refl
bare_quiet d kinds.Continue = refl
bare_quiet d kinds.Return = refl
bare_quiet d k = before_quiet (parts.simple_move k) (sign signs.Semicolon) refl (simple_quiet k)

stmt_quiet : (d : ℕ) (k : Kind) → is_quiet_row (parts.stmt_move d k) ≡ true
stmt_quiet d k = entering_quiet d (parts.bare_move d k) (bare_quiet d k)

otherwise_quiet : (d : ℕ) (k : Kind) → is_quiet_row (parts.otherwise_move d k) ≡ true
otherwise_quiet d kinds.Else = refl
otherwise_quiet d _ = refl

items_quiet : (d : ℕ) (k : Kind) → is_quiet_row (parts.items_move d k) ≡ true
items_quiet d kinds.CloseBrace = refl
items_quiet d kinds.Int = refl
items_quiet d kinds.Long = refl
items_quiet d kinds.Thread = refl
items_quiet d k = before_quiet (parts.stmt_move d k) (items d) refl (stmt_quiet d k)

number_quiet : (k : Kind) → is_quiet_row (parts.number_move k) ≡ true
number_quiet (kinds.Number v w) = refl
number_quiet _ = refl

literal_quiet : (k : Kind) → is_quiet_row (parts.literal_move k) ≡ true
literal_quiet (kinds.Number v w) = refl
literal_quiet kinds.Minus = refl
literal_quiet _ = refl

more_globals_quiet : (k : Kind) → is_quiet_row (parts.more_globals_move k) ≡ true
more_globals_quiet kinds.Semicolon = refl
more_globals_quiet kinds.Comma = refl
more_globals_quiet _ = refl

globals_quiet : (k : Kind) → is_quiet_row (parts.globals_move k) ≡ true
globals_quiet kinds.Equals = refl
globals_quiet k = more_globals_quiet k

after_head_quiet : (may : Bool) (k : Kind) → is_quiet_row (parts.after_head_move may k) ≡ true
after_head_quiet true kinds.Semicolon = refl
after_head_quiet false kinds.Semicolon = refl
after_head_quiet true kinds.OpenBrace = refl
after_head_quiet true _ = refl
after_head_quiet false _ = refl

param_quiet : (may : Bool) (k : Kind) → is_quiet_row (parts.param_move may k) ≡ true
param_quiet may k = before_quiet (parts.type_move k) (param_name may) refl (type_quiet k)

more_params_quiet : (may : Bool) (k : Kind) → is_quiet_row (parts.more_params_move may k) ≡ true
more_params_quiet may kinds.Comma = refl
more_params_quiet may kinds.CloseParen = refl
more_params_quiet may _ = refl

param_name_quiet : (may : Bool) (k : Kind) → is_quiet_row (parts.param_name_move may k) ≡ true
param_name_quiet may (kinds.Name x) = refl
param_name_quiet may k = more_params_quiet false k

params_quiet : (may : Bool) (k : Kind) → is_quiet_row (parts.params_move may k) ≡ true
params_quiet may kinds.CloseParen = refl
params_quiet may kinds.Void = refl
params_quiet may k = param_quiet may k

thread_param_quiet : (may : Bool) (k : Kind) → is_quiet_row (parts.thread_param_move may k) ≡ true
thread_param_quiet may (kinds.Name x) = refl
thread_param_quiet may kinds.CloseParen = refl
thread_param_quiet may _ = refl

thread_void_quiet : (may : Bool) (k : Kind) → is_quiet_row (parts.thread_void_move may k) ≡ true
thread_void_quiet may kinds.Void = refl
thread_void_quiet may _ = refl

thread_name_quiet : (may : Bool) (k : Kind) → is_quiet_row (parts.thread_name_move may k) ≡ true
thread_name_quiet may (kinds.Name x) = refl
thread_name_quiet may _ = refl

voided_quiet : (may : Bool) (k : Kind) → is_quiet_row (parts.voided_move may k) ≡ true
voided_quiet may (kinds.Name x) = refl
voided_quiet may kinds.Star = refl
voided_quiet may _ = refl

named_quiet : (may : Bool) (k : Kind) → is_quiet_row (parts.named_move may k) ≡ true
named_quiet true kinds.OpenParen = refl
named_quiet false kinds.OpenParen = refl
named_quiet true k = globals_quiet k
named_quiet false _ = refl

typed_quiet : (may : Bool) (k : Kind) → is_quiet_row (parts.typed_move may k) ≡ true
typed_quiet may (kinds.Name x) = refl
typed_quiet may _ = refl

mutex_name_quiet : (k : Kind) → is_quiet_row (parts.mutex_name_move k) ≡ true
mutex_name_quiet (kinds.Name x) = refl
mutex_name_quiet _ = refl

outer_quiet : (may : Bool) (k : Kind) → is_quiet_row (parts.outer_move may k) ≡ true
outer_quiet true kinds.Void = refl
outer_quiet false kinds.Void = refl
outer_quiet true kinds.Mutex = refl
outer_quiet false kinds.Mutex = refl
outer_quiet true k = before_quiet (parts.type_move k) (typed true) refl (type_quiet k)
outer_quiet false k = before_quiet (parts.type_move k) (typed false) refl (type_quiet k)

pub item_quiet : (k : Kind) → is_quiet_row (parts.item_move k) ≡ true
item_quiet kinds.Static = refl
item_quiet kinds.Extern = refl
item_quiet k = outer_quiet true k

pub row_quiet : (p : Part) (k : Kind) → is_quiet_row (move p k) ≡ true
row_quiet (sign s) k = sign_quiet (is_sign s k)
row_quiet ident k = ident_quiet k
row_quiet settle k = refl
row_quiet (level l) k = level_quiet l k
row_quiet (chain l) k = chain_quiet l (operator l k)
row_quiet call k = call_quiet k
row_quiet (args alone) k = args_quiet alone k
row_quiet (more_args alone) k = more_args_quiet alone k
row_quiet whole k = whole_quiet k
row_quiet condition k = condition_quiet k
row_quiet initial k = initial_quiet k
row_quiet long_tail k = long_tail_quiet k
row_quiet type k = type_quiet k
row_quiet locals k = locals_quiet k
row_quiet more_locals k = more_locals_quiet k
row_quiet numbers k = numbers_quiet k
row_quiet threads k = threads_quiet k
row_quiet more_threads k = more_threads_quiet k
row_quiet decl k = decl_quiet k
row_quiet after_name k = after_name_quiet k
row_quiet handle k = handle_quiet k
row_quiet simple k = simple_quiet k
row_quiet value k = value_quiet k
row_quiet first k = first_quiet k
row_quiet test k = test_quiet k
row_quiet last k = last_quiet k
row_quiet do_end k = do_end_quiet k
row_quiet (bare d) k = bare_quiet d k
row_quiet (stmt d) k = stmt_quiet d k
row_quiet (otherwise d) k = otherwise_quiet d k
row_quiet (items d) k = items_quiet d k
row_quiet literal k = literal_quiet k
row_quiet number k = number_quiet k
row_quiet globals k = globals_quiet k
row_quiet more_globals k = more_globals_quiet k
row_quiet (after_head may) k = after_head_quiet may k
row_quiet (param may) k = param_quiet may k
row_quiet (param_name may) k = param_name_quiet may k
row_quiet (more_params may) k = more_params_quiet may k
row_quiet (params may) k = params_quiet may k
row_quiet (thread_param may) k = thread_param_quiet may k
row_quiet (thread_void may) k = thread_void_quiet may k
row_quiet (thread_name may) k = thread_name_quiet may k
row_quiet (voided may) k = voided_quiet may k
row_quiet (named may) k = named_quiet may k
row_quiet (typed may) k = typed_quiet may k
row_quiet mutex_name k = mutex_name_quiet k
row_quiet (outer may) k = outer_quiet may k
row_quiet unit_item k = item_quiet k
