-- What may still come while a unit is read from left to right: a stack of parts, of which a token takes
-- off or opens the first. The empty stack stands for the items of the unit. The laws of proofs/ tie it to
-- the grammar, so no public promise speaks of it.
use Rattle.std.specs.Prelude.{◌≡◌, ℕ, zero, suc, Bool, true, false, ◌&&◌, List, [], ◌∷◌, ◌++◌, length, Option, Some, None}
use Rattle.c_parse.specs.declared.terminal.Terminal.{Terminal}
use Rattle.c_parse.specs.declared.terminal.Kind.{Kind}
use Rattle.c_parse.specs.declared.terminal.Kind.TheVariants as kinds
use Rattle.c_parse.specs.declared.stop.Sign.{Sign}
use Rattle.c_parse.specs.declared.stop.Sign.TheVariants as signs
use Rattle.c_parse.specs.declared.stop.Stop.{Stop}
use Rattle.c_parse.specs.declared.stop.Stop.TheVariants.{At, Memory}
use Rattle.c_parse.specs.declared.stop.Trouble.{Trouble}
use Rattle.c_parse.specs.declared.stop.Trouble.TheVariants.{Bad, Deep}
use Rattle.gob_tree.specs.declared.expr.BinOp.{BinOp}
use Rattle.c_parse.specs.declared.raw.expr.RawExpr.{RawExpr}
use Rattle.c_parse.specs.Grammar.{Nesting, counted, entered, settled, ended, within, operator, top, ReadsMoreArgs}

abbrev pub kind_of : Sign → Kind
kind_of signs.OpenParen = kinds.OpenParen
kind_of signs.CloseParen = kinds.CloseParen
kind_of signs.Comma = kinds.Comma
kind_of signs.Semicolon = kinds.Semicolon
kind_of signs.Ampersand = kinds.Ampersand
kind_of signs.Equals = kinds.Equals
kind_of signs.Star = kinds.Star
kind_of signs.Void = kinds.Void
kind_of signs.While = kinds.While
kind_of signs.Null = kinds.Null
kind_of signs.Initializer = kinds.Initializer

abbrev pub is_sign : Sign → Kind → Bool
is_sign signs.OpenParen kinds.OpenParen = true
is_sign signs.CloseParen kinds.CloseParen = true
is_sign signs.Comma kinds.Comma = true
is_sign signs.Semicolon kinds.Semicolon = true
is_sign signs.Ampersand kinds.Ampersand = true
is_sign signs.Equals kinds.Equals = true
is_sign signs.Star kinds.Star = true
is_sign signs.Void kinds.Void = true
is_sign signs.While kinds.While = true
is_sign signs.Null kinds.Null = true
is_sign signs.Initializer kinds.Initializer = true
is_sign _ _ = false

-- what a token does to the nesting: nothing; it is an operator; an argument ended before it; it begins a
-- declaration or statement of a depth; or a whole expression ended before it
pub data Effect : Type 0 where
  keeps counts : Effect
  ends_arg : Bool → Effect
  enters : ℕ → Effect → Effect
  settles : Effect → Effect

abbrev pub effect : Effect → Nesting → List Terminal → Nesting
effect keeps a ts = a
effect counts a ts = counted a ts
effect (ends_arg alone) a ts = ended alone a
effect (enters d e) a ts = effect e (entered d a ts) ts
effect (settles e) a ts = effect e (settled a) ts

-- the nonterminals of the grammar, and tokens within productions
pub data Part : Type 0 where
  sign : Sign → Part
  ident settle : Part
  level chain : ℕ → Part
  call : Part
  args more_args : Bool → Part
  whole condition initial long_tail type locals more_locals numbers threads more_threads decl : Part
  after_name handle simple value first test last do_end : Part
  bare stmt otherwise items : ℕ → Part
  literal number globals more_globals : Part
  after_head param param_name more_params params thread_param thread_void thread_name voided named typed : Bool → Part
  mutex_name : Part
  outer : Bool → Part
  unit_item : Part

-- what a token does with the first part: it takes it, and these come in its place; the part is empty and
-- the next is asked; or the token can't come here
pub data Move : Type 0 where
  takes : Effect → List Part → Move
  skips stops : Move

abbrev pub before : Move → Part → Move
before (takes e parts) p = takes e (parts ++ p ∷ [])
before skips p = stops
before stops p = stops

abbrev pub entering : ℕ → Move → Move
entering d (takes e parts) = takes (enters d e) parts
entering d skips = stops
entering d stops = stops

abbrev pub by_sign : Bool → Move
by_sign true = takes keeps []
by_sign false = stops

abbrev pub ident_move : Kind → Move
ident_move (kinds.Name x) = takes keeps []
ident_move _ = stops

abbrev pub operand : Kind → Move
operand (kinds.Number v w) = takes keeps []
operand (kinds.Name x) = takes keeps (call ∷ [])
operand kinds.Minus = takes counts (level zero ∷ [])
operand kinds.Plus = takes counts (level zero ∷ [])
operand kinds.Not = takes counts (level zero ∷ [])
operand kinds.OpenParen = takes counts (level top ∷ sign signs.CloseParen ∷ [])
operand _ = stops

abbrev pub level_move : ℕ → Kind → Move
level_move zero k = operand k
level_move (suc l) k = before (level_move l k) (chain l)

abbrev pub chain_move : ℕ → Option BinOp → Move
chain_move l None = skips
chain_move l (Some op) = takes counts (level l ∷ chain l ∷ [])

abbrev pub call_move : Kind → Move
call_move kinds.OpenParen = takes counts (args false ∷ [])
call_move _ = skips

abbrev pub args_move : Bool → Kind → Move
args_move alone kinds.CloseParen = takes keeps []
args_move alone k = before (level_move top k) (more_args alone)

abbrev pub more_args_move : Bool → Kind → Move
more_args_move alone kinds.CloseParen = takes (ends_arg alone) []
more_args_move alone kinds.Comma = takes (ends_arg alone) (level top ∷ more_args alone ∷ [])
more_args_move alone _ = stops

abbrev pub whole_move : Kind → Move
whole_move k = before (level_move top k) settle

abbrev pub condition_move : Kind → Move
condition_move kinds.OpenParen = takes keeps (whole ∷ sign signs.CloseParen ∷ [])
condition_move _ = stops

abbrev pub initial_move : Kind → Move
initial_move kinds.Equals = takes keeps (whole ∷ [])
initial_move _ = skips

abbrev pub long_tail_move : Kind → Move
long_tail_move kinds.Int = takes keeps []
long_tail_move _ = skips

abbrev pub type_move : Kind → Move
type_move kinds.Int = takes keeps []
type_move kinds.Long = takes keeps (long_tail ∷ [])
type_move _ = stops

abbrev pub locals_move : Kind → Move
locals_move (kinds.Name x) = takes keeps (initial ∷ more_locals ∷ [])
locals_move _ = stops

abbrev pub more_locals_move : Kind → Move
more_locals_move kinds.Semicolon = takes keeps []
more_locals_move kinds.Comma = takes keeps (locals ∷ [])
more_locals_move _ = stops

abbrev pub numbers_move : Kind → Move
numbers_move k = before (type_move k) locals

abbrev pub threads_move : Kind → Move
threads_move (kinds.Name x) = takes keeps (more_threads ∷ [])
threads_move _ = stops

abbrev pub more_threads_move : Kind → Move
more_threads_move kinds.Semicolon = takes keeps []
more_threads_move kinds.Comma = takes keeps (threads ∷ [])
more_threads_move _ = stops

abbrev pub decl_move : Kind → Move
decl_move kinds.Thread = takes keeps (threads ∷ [])
decl_move k = numbers_move k

abbrev pub after_name_move : Kind → Move
after_name_move kinds.Equals = takes keeps (whole ∷ [])
after_name_move (kinds.Update op) = takes keeps (whole ∷ [])
after_name_move (kinds.Step op) = takes keeps []
after_name_move kinds.OpenParen = takes keeps (args true ∷ [])
after_name_move _ = stops

abbrev pub handle_move : Kind → Move
handle_move kinds.OpenParen = takes keeps (sign signs.Ampersand ∷ ident ∷ sign signs.CloseParen ∷ [])
handle_move _ = stops

abbrev pub simple_move : Kind → Move
simple_move (kinds.Name x) = takes keeps (after_name ∷ [])
simple_move (kinds.Step op) = takes keeps (ident ∷ [])
simple_move kinds.Assert = takes keeps (condition ∷ [])
simple_move kinds.Create = takes keeps (sign signs.OpenParen ∷ sign signs.Ampersand ∷ ident ∷ sign signs.Comma ∷ sign signs.Null ∷ sign signs.Comma ∷ ident ∷ sign signs.Comma ∷ sign signs.Null ∷ sign signs.CloseParen ∷ [])
simple_move kinds.Join = takes keeps (sign signs.OpenParen ∷ ident ∷ sign signs.Comma ∷ sign signs.Null ∷ sign signs.CloseParen ∷ [])
simple_move kinds.Lock = takes keeps (handle ∷ [])
simple_move kinds.Unlock = takes keeps (handle ∷ [])
simple_move _ = stops

abbrev pub value_move : Kind → Move
value_move kinds.Semicolon = takes keeps []
value_move kinds.Null = takes keeps (sign signs.Semicolon ∷ [])
value_move k = before (whole_move k) (sign signs.Semicolon)

abbrev pub first_move : Kind → Move
first_move kinds.Semicolon = takes keeps []
first_move kinds.Int = numbers_move kinds.Int
first_move kinds.Long = numbers_move kinds.Long
first_move k = before (simple_move k) (sign signs.Semicolon)

abbrev pub test_move : Kind → Move
test_move kinds.Semicolon = takes keeps []
test_move k = before (whole_move k) (sign signs.Semicolon)

abbrev pub last_move : Kind → Move
last_move kinds.CloseParen = takes keeps []
last_move k = before (simple_move k) (sign signs.CloseParen)

abbrev pub do_end_move : Kind → Move
do_end_move kinds.While = takes keeps (condition ∷ sign signs.Semicolon ∷ [])
do_end_move _ = stops

abbrev pub bare_move : ℕ → Kind → Move
bare_move d kinds.Semicolon = takes keeps []
bare_move d kinds.OpenBrace = takes keeps (items (suc d) ∷ [])
bare_move d kinds.If = takes keeps (condition ∷ stmt (suc d) ∷ otherwise (suc d) ∷ [])
bare_move d kinds.While = takes keeps (condition ∷ stmt (suc d) ∷ [])
bare_move d kinds.Do = takes keeps (stmt (suc d) ∷ do_end ∷ [])
bare_move d kinds.For = takes keeps (sign signs.OpenParen ∷ first ∷ test ∷ last ∷ stmt (suc d) ∷ [])
bare_move d kinds.Break = takes keeps (sign signs.Semicolon ∷ [])
bare_move d kinds.Continue = takes keeps (sign signs.Semicolon ∷ [])
bare_move d kinds.Return = takes keeps (value ∷ [])
bare_move d k = before (simple_move k) (sign signs.Semicolon)

abbrev pub stmt_move : ℕ → Kind → Move
stmt_move d k = entering d (bare_move d k)

abbrev pub otherwise_move : ℕ → Kind → Move
otherwise_move d kinds.Else = takes keeps (stmt d ∷ [])
otherwise_move d _ = skips

abbrev pub items_move : ℕ → Kind → Move
items_move d kinds.CloseBrace = takes keeps []
items_move d kinds.Int = before (entering d (decl_move kinds.Int)) (items d)
items_move d kinds.Long = before (entering d (decl_move kinds.Long)) (items d)
items_move d kinds.Thread = before (entering d (decl_move kinds.Thread)) (items d)
items_move d k = before (stmt_move d k) (items d)

abbrev pub number_move : Kind → Move
number_move (kinds.Number v w) = takes keeps []
number_move _ = stops

abbrev pub literal_move : Kind → Move
literal_move (kinds.Number v w) = takes keeps []
literal_move kinds.Minus = takes keeps (number ∷ [])
literal_move _ = stops

abbrev pub more_globals_move : Kind → Move
more_globals_move kinds.Semicolon = takes keeps []
more_globals_move kinds.Comma = takes keeps (ident ∷ globals ∷ [])
more_globals_move _ = stops

abbrev pub globals_move : Kind → Move
globals_move kinds.Equals = takes keeps (literal ∷ more_globals ∷ [])
globals_move k = more_globals_move k

abbrev pub after_head_move : Bool → Kind → Move
after_head_move may kinds.Semicolon = takes keeps []
after_head_move true kinds.OpenBrace = takes keeps (items 1 ∷ [])
after_head_move may _ = stops

abbrev pub param_move : Bool → Kind → Move
param_move may k = before (type_move k) (param_name may)

abbrev pub more_params_move : Bool → Kind → Move
more_params_move may kinds.Comma = takes keeps (param may ∷ [])
more_params_move may kinds.CloseParen = takes keeps (after_head may ∷ [])
more_params_move may _ = stops

abbrev pub param_name_move : Bool → Kind → Move
param_name_move may (kinds.Name x) = takes keeps (more_params may ∷ [])
param_name_move may k = more_params_move false k

abbrev pub params_move : Bool → Kind → Move
params_move may kinds.CloseParen = takes keeps (after_head may ∷ [])
params_move may kinds.Void = takes keeps (sign signs.CloseParen ∷ after_head may ∷ [])
params_move may k = param_move may k

abbrev pub thread_param_move : Bool → Kind → Move
thread_param_move may (kinds.Name x) = takes keeps (sign signs.CloseParen ∷ after_head may ∷ [])
thread_param_move may kinds.CloseParen = takes keeps (after_head may ∷ [])
thread_param_move may _ = stops

abbrev pub thread_void_move : Bool → Kind → Move
thread_void_move may kinds.Void = takes keeps (sign signs.Star ∷ thread_param may ∷ [])
thread_void_move may _ = stops

abbrev pub thread_name_move : Bool → Kind → Move
thread_name_move may (kinds.Name x) = takes keeps (sign signs.OpenParen ∷ thread_void may ∷ [])
thread_name_move may _ = stops

abbrev pub voided_move : Bool → Kind → Move
voided_move may (kinds.Name x) = takes keeps (sign signs.OpenParen ∷ params may ∷ [])
voided_move may kinds.Star = takes keeps (thread_name may ∷ [])
voided_move may _ = stops

abbrev pub named_move : Bool → Kind → Move
named_move may kinds.OpenParen = takes keeps (params may ∷ [])
named_move true k = globals_move k
named_move false k = stops

abbrev pub typed_move : Bool → Kind → Move
typed_move may (kinds.Name x) = takes keeps (named may ∷ [])
typed_move may _ = stops

abbrev pub mutex_name_move : Kind → Move
mutex_name_move (kinds.Name x) = takes keeps (sign signs.Equals ∷ sign signs.Initializer ∷ sign signs.Semicolon ∷ [])
mutex_name_move _ = stops

abbrev pub outer_move : Bool → Kind → Move
outer_move may kinds.Void = takes keeps (voided may ∷ [])
outer_move true kinds.Mutex = takes keeps (mutex_name ∷ [])
outer_move may k = before (type_move k) (typed may)

abbrev pub item_move : Kind → Move
item_move kinds.Static = takes keeps (outer true ∷ [])
item_move kinds.Extern = takes keeps (outer false ∷ [])
item_move k = outer_move true k

abbrev pub move : Part → Kind → Move
move (sign s) k = by_sign (is_sign s k)
move ident k = ident_move k
move settle k = skips
move (level l) k = level_move l k
move (chain l) k = chain_move l (operator l k)
move call k = call_move k
move (args alone) k = args_move alone k
move (more_args alone) k = more_args_move alone k
move whole k = whole_move k
move condition k = condition_move k
move initial k = initial_move k
move long_tail k = long_tail_move k
move type k = type_move k
move locals k = locals_move k
move more_locals k = more_locals_move k
move numbers k = numbers_move k
move threads k = threads_move k
move more_threads k = more_threads_move k
move decl k = decl_move k
move after_name k = after_name_move k
move handle k = handle_move k
move simple k = simple_move k
move value k = value_move k
move first k = first_move k
move test k = test_move k
move last k = last_move k
move do_end k = do_end_move k
move (bare d) k = bare_move d k
move (stmt d) k = stmt_move d k
move (otherwise d) k = otherwise_move d k
move (items d) k = items_move d k
move literal k = literal_move k
move number k = number_move k
move globals k = globals_move k
move more_globals k = more_globals_move k
move (after_head may) k = after_head_move may k
move (param may) k = param_move may k
move (param_name may) k = param_name_move may k
move (more_params may) k = more_params_move may k
move (params may) k = params_move may k
move (thread_param may) k = thread_param_move may k
move (thread_void may) k = thread_void_move may k
move (thread_name may) k = thread_name_move may k
move (voided may) k = voided_move may k
move (named may) k = named_move may k
move (typed may) k = typed_move may k
move mutex_name k = mutex_name_move k
move (outer may) k = outer_move may k
move unit_item k = item_move k

-- where a part is passed over whose end settles the nesting
abbrev pub settled_next : Option (Effect × List Part) → Option (Effect × List Part)
settled_next None = None
settled_next (Some n) = Some (settles n.0, n.1)

abbrev pub behind : Part → Option (Effect × List Part) → Option (Effect × List Part)
behind settle o = settled_next o
behind _ o = o

-- the effect and the stack after a move of its first part, where the parts below it come to this at the
-- same token
abbrev pub moved : Move → List Part → Option (Effect × List Part) → Option (Effect × List Part)
moved (takes e parts) below later = Some (e, parts ++ below)
moved skips below later = later
moved stops below later = None

-- the effect of one token, and the stack after it
abbrev pub next : List Part → Kind → Option (Effect × List Part)
next [] k = moved (item_move k) [] None
next (p ∷ ps) k = moved (move p k) ps (behind p (next ps k))

-- what may be left at the end
abbrev pub may_end : Part → Bool
may_end settle = true
may_end (chain l) = true
may_end call = true
may_end initial = true
may_end long_tail = true
may_end (otherwise d) = true
may_end _ = false

abbrev pub all_may_end : List Part → Bool
all_may_end [] = true
all_may_end (p ∷ ps) = may_end p && all_may_end ps

-- all tokens are read and nothing is missing, or so many tokens are left from the first one that is wrong
pub data Outcome : Type 0 where
  finished : Outcome
  troubled : Trouble → ℕ → Outcome

abbrev pub unless_over : Option ℕ → Outcome → Outcome
unless_over None o = o
unless_over (Some left) o = troubled Deep left

abbrev pub at_end : Bool → Outcome
at_end true = finished
at_end false = troubled Bad 0

abbrev pub go_on : Option (Effect × List Part) → (Effect → List Part → Outcome) → ℕ → Outcome
go_on None later left = troubled Bad left
go_on (Some n) later left = later n.0 n.1

abbrev pub run : List Part → Nesting → List Terminal → Outcome
run ps a [] = unless_over a.over (at_end (all_may_end ps))
run ps a (t ∷ ts) = unless_over a.over (go_on (next ps t.kind) (λ e qs. run qs (effect e a (t ∷ ts)) ts) (length (t ∷ ts)))

abbrev pub want : Stop
want = Memory

-- the part is what stands before the rest
abbrev pub Passes : Part → Nesting → List Terminal → List Terminal → Nesting → Type 0
Passes p a ts rest b = (below : List Part) → run (p ∷ below) a ts ≡ run below b rest

-- whatever is to come after these parts in a row, the first wrong token stands where their reading stopped
abbrev pub BreaksAt : List Part → Nesting → List Terminal → Stop → Type 0
BreaksAt ps a ts (At trouble left) = (below : List Part) → run (ps ++ below) a ts ≡ troubled trouble left
BreaksAt ps a ts Memory = Unit {0}

pub record BreaksIn (ps : List Part) (a : Nesting) (ts : List Terminal) (s : Stop) : Type 0 where
  pub breaks : BreaksAt ps a ts s

-- the same of one part
pub record Breaks (p : Part) (a : Nesting) (ts : List Terminal) (s : Stop) : Type 0 where
  pub breaks : BreaksAt (p ∷ []) a ts s

-- the first wrong token of a unit has so many tokens from it on
abbrev pub BreaksUnit : List Terminal → Stop → Type 0
BreaksUnit ts (At trouble left) = run [] (within 0) ts ≡ troubled trouble left
BreaksUnit ts Memory = Unit {0}

-- the same however many operators were read
pub record BreaksEver (p : Part) (ts : List Terminal) (s : Stop) : Type 0 where
  pub breaks : (n : ℕ) → Breaks p (within n) ts s

-- the reading stops at a token that is over a limit
pub record IsOver (a : Nesting) (s : Stop) : Type 0 where
  pub left : ℕ
  pub is : s ≡ At Deep left
  pub over : a.over ≡ Some left

-- the list goes on from the first part by the arguments that follow
abbrev pub ReadsOnto : Bool → List RawExpr → Nesting → List Terminal → List RawExpr → List Terminal → Nesting → Type 0
ReadsOnto alone front a ts all rest b = (es : List RawExpr) × (all ≡ front ++ es) × ReadsMoreArgs alone a ts es rest b

-- tests of a token

abbrev pub opens_operand : Kind → Bool
opens_operand (kinds.Number v w) = true
opens_operand (kinds.Name x) = true
opens_operand kinds.Minus = true
opens_operand kinds.Plus = true
opens_operand kinds.Not = true
opens_operand kinds.OpenParen = true
opens_operand _ = false

abbrev pub opens_type : Kind → Bool
opens_type kinds.Int = true
opens_type kinds.Long = true
opens_type _ = false

abbrev pub opens_decl : Kind → Bool
opens_decl kinds.Int = true
opens_decl kinds.Long = true
opens_decl kinds.Thread = true
opens_decl _ = false

abbrev pub opens_simple : Kind → Bool
opens_simple (kinds.Name x) = true
opens_simple (kinds.Step op) = true
opens_simple kinds.Assert = true
opens_simple kinds.Create = true
opens_simple kinds.Join = true
opens_simple kinds.Lock = true
opens_simple kinds.Unlock = true
opens_simple _ = false

abbrev pub opens_stmt : Kind → Bool
opens_stmt (kinds.Name x) = true
opens_stmt (kinds.Step op) = true
opens_stmt kinds.Assert = true
opens_stmt kinds.Create = true
opens_stmt kinds.Join = true
opens_stmt kinds.Lock = true
opens_stmt kinds.Unlock = true
opens_stmt kinds.Semicolon = true
opens_stmt kinds.OpenBrace = true
opens_stmt kinds.If = true
opens_stmt kinds.While = true
opens_stmt kinds.Do = true
opens_stmt kinds.For = true
opens_stmt kinds.Break = true
opens_stmt kinds.Continue = true
opens_stmt kinds.Return = true
opens_stmt _ = false

abbrev pub is_close_paren : Kind → Bool
is_close_paren kinds.CloseParen = true
is_close_paren _ = false

abbrev pub is_semicolon : Kind → Bool
is_semicolon kinds.Semicolon = true
is_semicolon _ = false

abbrev pub is_close_brace : Kind → Bool
is_close_brace kinds.CloseBrace = true
is_close_brace _ = false

abbrev pub is_comma : Kind → Bool
is_comma kinds.Comma = true
is_comma _ = false

abbrev pub ends_value : Kind → Bool
ends_value kinds.Semicolon = true
ends_value kinds.Null = true
ends_value _ = false

abbrev pub ends_first : Kind → Bool
ends_first kinds.Semicolon = true
ends_first kinds.Int = true
ends_first kinds.Long = true
ends_first _ = false

abbrev pub ends_items : Kind → Bool
ends_items kinds.CloseBrace = true
ends_items kinds.Int = true
ends_items kinds.Long = true
ends_items kinds.Thread = true
ends_items _ = false

abbrev pub ends_params : Kind → Bool
ends_params kinds.CloseParen = true
ends_params kinds.Void = true
ends_params _ = false

abbrev pub is_name : Kind → Bool
is_name (kinds.Name x) = true
is_name _ = false

abbrev pub is_word_outside : Kind → Bool
is_word_outside kinds.Void = true
is_word_outside kinds.Mutex = true
is_word_outside _ = false

abbrev pub is_storage : Kind → Bool
is_storage kinds.Static = true
is_storage kinds.Extern = true
is_storage _ = false

abbrev pub is_thread : Kind → Bool
is_thread kinds.Thread = true
is_thread _ = false

abbrev pub is_worded : Kind → Bool
is_worded kinds.Semicolon = true
is_worded kinds.OpenBrace = true
is_worded kinds.If = true
is_worded kinds.While = true
is_worded kinds.Do = true
is_worded kinds.For = true
is_worded kinds.Break = true
is_worded kinds.Continue = true
is_worded kinds.Return = true
is_worded _ = false
