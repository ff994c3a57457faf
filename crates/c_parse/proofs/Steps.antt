-- A token in front of a row that is read makes a part that is read. The law of the first bad token, which the
-- faults of a parser of units will rest on, begins here.
use Rattle.std.proofs.Common.{◌≡◌, refl, sym, ap, ◌∙◌, ℕ, zero, suc, Bool, true, false, ℤ, subst, ◌&&◌, List, [], ◌∷◌, ◌++◌, length, Option, Some, None, append_assoc}
use Rattle.gob_tree.specs.declared.expr.Width.{Width}
use Rattle.gob_tree.specs.declared.expr.BinOp.{BinOp}
use Rattle.gob_tree.specs.declared.expr.BinOp.TheVariants as ops
use Rattle.c_parse.specs.declared.raw.expr.RawExpr.TheVariants as exprs
use Rattle.gob_tree.specs.declared.place.Place.{Place}
use Rattle.c_parse.specs.declared.terminal.Terminal.{Terminal}
use Rattle.c_parse.specs.declared.terminal.Kind.{Kind}
use Rattle.c_parse.specs.declared.terminal.Kind.TheVariants as kinds
use Rattle.c_parse.specs.declared.stop.Sign.{Sign}
use Rattle.c_parse.specs.declared.stop.Sign.TheVariants as signs
use Rattle.c_parse.specs.declared.stop.Trouble.TheVariants.{Bad, Deep}
use Rattle.c_parse.specs.declared.raw.expr.RawName.{RawName}
use Rattle.c_parse.specs.declared.raw.expr.RawExpr.{RawExpr}
use Rattle.c_parse.specs.declared.raw.stmt.RawReturn.{RawReturn}
use Rattle.c_parse.specs.declared.raw.stmt.RawStmt.{RawStmt}
use Rattle.c_parse.specs.declared.raw.stmt.RawPlaced.{RawPlaced}
use Rattle.c_parse.specs.declared.raw.unit.RawHead.{RawHead}
use Rattle.c_parse.specs.declared.raw.unit.RawItem.{RawItem}
use Rattle.c_parse.specs.Grammar as grammar
use Rattle.c_parse.specs.Grammar.{Nesting, counted, entered, settled, ended, within, operator, top, begins_with, is_open_paren, is_equals, is_int, is_else, EndsChain, Next, ReadsName, ReadsOperator, ReadsLevel, ReadsChain, ReadsCall, ReadsArgs, ReadsMoreArgs, ReadsWhole, ReadsCondition, ReadsInitial, ReadsLongTail, ReadsType, ReadsLocals, ReadsMoreLocals, ReadsNumbers, ReadsThreads, ReadsMoreThreads, ReadsDecl, ReadsAfterName, ReadsHandle, ReadsSimple, ReadsValue, ReadsFirst, ReadsTest, ReadsLast, ReadsDoEnd, ReadsBare, ReadsStmt, ReadsElse, ReadsItems, ReadsLiteral, ReadsGlobals, ReadsMoreGlobals, ReadsAfterHead, ReadsParam, ReadsParamName, ReadsMoreParams, ReadsParams, ReadsThreadParam, ReadsThreadVoid, ReadsThreadName, ReadsVoided, ReadsNamed, ReadsTyped, ReadsMutexName, ReadsOuter, ReadsItem, ReadsUnit}
use Rattle.c_parse.specs.Machine.{Effect, keeps, counts, ends_arg, enters, settles, effect, Part, Move, takes, skips, stops, Outcome, finished, troubled, sign, ident, settle, level, chain, call, args, more_args, whole, condition, initial, long_tail, type, locals, more_locals, numbers, threads, more_threads, decl, after_name, handle, simple, value, first, test, last, do_end, bare, stmt, otherwise, items, literal, number, globals, more_globals, after_head, param, param_name, more_params, params, thread_param, thread_void, thread_name, voided, named, typed, mutex_name, outer, unit_item, before, entering, move, moved, behind, settled_next, next, run, go_on, unless_over, is_sign, kind_of, Passes}
use Rattle.c_parse.specs.Machine as parts
use Rattle.c_parse.specs.declared.raw.stmt.RawReturn.TheVariants as returns
use Rattle.gob_tree.specs.declared.unit.FuncKind.TheVariants.{Int, Void}
use Rattle.gob_tree.specs.declared.expr.Width.TheVariants.{W32}
use Rattle.c_parse.proofs.Opening.{is_skip, before_no_skip, more_globals_no_skip, globals_no_skip, more_params_no_skip, outer_no_skip}

abbrev is_flat : Part → Bool
is_flat (sign s) = true
is_flat ident = true
is_flat number = true
is_flat long_tail = true
is_flat type = true
is_flat threads = true
is_flat more_threads = true
is_flat handle = true
is_flat literal = true
is_flat globals = true
is_flat more_globals = true
is_flat mutex_name = true
is_flat _ = false

-- the part is what stands before the rest, as some tree; what a part doesn't tell of its tree is given
abbrev FlatPart : Part → List Terminal → List Terminal → Type 0
FlatPart (sign s) ts rest = Next (kind_of s) ts rest
FlatPart ident ts rest = (x : RawName) × ReadsName ts x rest
FlatPart number ts rest = (v : ℤ) × (w : Width) × Next (kinds.Number v w) ts rest
FlatPart long_tail ts rest = ReadsLongTail ts rest
FlatPart type ts rest = (q0 : Width) × ReadsType ts q0 rest
FlatPart threads ts rest = (here : Place) → (q0 : List RawPlaced) × ReadsThreads here ts q0 rest
FlatPart more_threads ts rest = (q0 : List RawPlaced) × ReadsMoreThreads ts q0 rest
FlatPart handle ts rest = (q0 : RawName) × ReadsHandle ts q0 rest
FlatPart literal ts rest = (q0 : ℤ) × (q1 : Place) × ReadsLiteral ts q0 q1 rest
FlatPart globals ts rest = (w : Width) → (x : RawName) → (q0 : List RawItem) × ReadsGlobals w x ts q0 rest
FlatPart more_globals ts rest = (w : Width) → (q0 : List RawItem) × ReadsMoreGlobals w ts q0 rest
FlatPart mutex_name ts rest = (q0 : List RawItem) × ReadsMutexName ts q0 rest
FlatPart _ ts rest = ⊥

abbrev NestedPart : Part → Nesting → List Terminal → List Terminal → Nesting → Type 0
NestedPart settle a ts rest b = (ts ≡ rest) × (settled a ≡ b)
NestedPart (level l) a ts rest b = (q0 : RawExpr) × ReadsLevel l a ts q0 rest b
NestedPart (chain l) a ts rest b = (left : RawExpr) → (q0 : RawExpr) × ReadsChain l left a ts q0 rest b
NestedPart call a ts rest b = (x : RawName) → (q0 : RawExpr) × ReadsCall x a ts q0 rest b
NestedPart (args alone) a ts rest b = (q0 : List RawExpr) × ReadsArgs alone a ts q0 rest b
NestedPart (more_args alone) a ts rest b = (q0 : List RawExpr) × ReadsMoreArgs alone a ts q0 rest b
NestedPart whole a ts rest b = (q0 : RawExpr) × ReadsWhole a ts q0 rest b
NestedPart condition a ts rest b = (q0 : RawExpr) × ReadsCondition a ts q0 rest b
NestedPart initial a ts rest b = (q0 : Option RawExpr) × ReadsInitial a ts q0 rest b
NestedPart locals a ts rest b = (here : Place) → (w : Width) → (q0 : List RawPlaced) × ReadsLocals here w a ts q0 rest b
NestedPart more_locals a ts rest b = (w : Width) → (q0 : List RawPlaced) × ReadsMoreLocals w a ts q0 rest b
NestedPart numbers a ts rest b = (q0 : List RawPlaced) × ReadsNumbers a ts q0 rest b
NestedPart decl a ts rest b = (q0 : List RawPlaced) × ReadsDecl a ts q0 rest b
NestedPart after_name a ts rest b = (x : RawName) → (q0 : RawStmt) × ReadsAfterName x a ts q0 rest b
NestedPart simple a ts rest b = (q0 : RawStmt) × ReadsSimple a ts q0 rest b
NestedPart value a ts rest b = (q0 : RawReturn) × ReadsValue a ts q0 rest b
NestedPart first a ts rest b = (q0 : List RawPlaced) × ReadsFirst a ts q0 rest b
NestedPart test a ts rest b = (q0 : Option RawExpr) × ReadsTest a ts q0 rest b
NestedPart last a ts rest b = (q0 : Option RawPlaced) × ReadsLast a ts q0 rest b
NestedPart do_end a ts rest b = (q0 : RawExpr) × ReadsDoEnd a ts q0 rest b
NestedPart (bare d) a ts rest b = (q0 : RawStmt) × ReadsBare d a ts q0 rest b
NestedPart (stmt d) a ts rest b = (q0 : RawPlaced) × ReadsStmt d a ts q0 rest b
NestedPart (otherwise d) a ts rest b = (q0 : Option RawPlaced) × ReadsElse d a ts q0 rest b
NestedPart (items d) a ts rest b = (q0 : List RawPlaced) × (q1 : Place) × ReadsItems d a ts q0 q1 rest b
NestedPart (after_head may) a ts rest b = (h : RawHead) → (q0 : List RawItem) × ReadsAfterHead h may a ts q0 rest b
NestedPart (param may) a ts rest b = (h : RawHead) → (q0 : List RawItem) × ReadsParam h may a ts q0 rest b
NestedPart (param_name may) a ts rest b = (h : RawHead) → (w : Width) → (q0 : List RawItem) × ReadsParamName h may w a ts q0 rest b
NestedPart (more_params may) a ts rest b = (h : RawHead) → (q0 : List RawItem) × ReadsMoreParams h may a ts q0 rest b
NestedPart (params may) a ts rest b = (h : RawHead) → (q0 : List RawItem) × ReadsParams h may a ts q0 rest b
NestedPart (thread_param may) a ts rest b = (x : RawName) → (q0 : List RawItem) × ReadsThreadParam x may a ts q0 rest b
NestedPart (thread_void may) a ts rest b = (x : RawName) → (q0 : List RawItem) × ReadsThreadVoid x may a ts q0 rest b
NestedPart (thread_name may) a ts rest b = (q0 : List RawItem) × ReadsThreadName may a ts q0 rest b
NestedPart (voided may) a ts rest b = (q0 : List RawItem) × ReadsVoided may a ts q0 rest b
NestedPart (named may) a ts rest b = (w : Width) → (x : RawName) → (q0 : List RawItem) × ReadsNamed may w x a ts q0 rest b
NestedPart (typed may) a ts rest b = (w : Width) → (q0 : List RawItem) × ReadsTyped may w a ts q0 rest b
NestedPart (outer may) a ts rest b = (q0 : List RawItem) × ReadsOuter may a ts q0 rest b
NestedPart unit_item a ts rest b = (q0 : List RawItem) × ReadsItem a ts q0 rest b
NestedPart _ a ts rest b = ⊥

abbrev ReadBy : Bool → Part → Nesting → List Terminal → List Terminal → Nesting → Type 0
ReadBy true p a ts rest b = FlatPart p ts rest × (a ≡ b)
ReadBy false p a ts rest b = NestedPart p a ts rest b

abbrev pub ReadsPart : Part → Nesting → List Terminal → List Terminal → Nesting → Type 0
ReadsPart p a ts rest b = ReadBy (is_flat p) p a ts rest b

-- parts in a row; the last one reads up to the rest
abbrev pub ReadsParts : List Part → Nesting → List Terminal → List Terminal → Nesting → Type 0
ReadsParts [] a ts rest b = (ts ≡ rest) × (a ≡ b)
ReadsParts (p ∷ ps) a ts rest b = (mid : List Terminal) × (m : Nesting) × ReadsPart p a ts mid m × ReadsParts ps m mid rest b

pub apart : (ps qs : List Part) (a : Nesting) (ts rest : List Terminal) (b : Nesting) → ReadsParts (ps ++ qs) a ts rest b → (mid : List Terminal) × (m : Nesting) × ReadsParts ps a ts mid m × ReadsParts qs m mid rest b
apart [] qs a ts rest b r = (ts, a, (refl, refl), r)
apart (p ∷ ps) qs a ts rest b r = let k = apart ps qs r.1 r.0 rest b r.3 in (k.0, k.1, (r.0, r.1, r.2, k.2), k.3)

abbrev TakesPart : Bool → Part → Nesting → List Terminal → (Nesting → List Terminal → Type 0) → Type 0
TakesPart true p a ts g = (us : List Terminal) → FlatPart p ts us → g a us
TakesPart false p a ts g = (us : List Terminal) (b : Nesting) → NestedPart p a ts us b → g b us

abbrev Behind : List Part → Nesting → List Terminal → (Nesting → List Terminal → Type 0) → Type 0
Behind [] a ts g = g a ts
Behind (p ∷ ps) a ts g = TakesPart (is_flat p) p a ts (λ b us. Behind ps b us g)

taking : (f : Bool) (p : Part) (a m : Nesting) (ts mid : List Terminal) (g : Nesting → List Terminal → Type 0) → TakesPart f p a ts g → ReadBy f p a ts mid m → g m mid
taking true p a m ts mid g c r = subst (λ (n : Nesting). g n mid) r.1 (c mid r.0)
taking false p a m ts mid g c r = c mid m r

fill : (ps : List Part) (a b : Nesting) (ts rest : List Terminal) (g : Nesting → List Terminal → Type 0) → Behind ps a ts g → ReadsParts ps a ts rest b → g b rest
fill [] a b ts rest g c r = subst (λ (n : Nesting). g n rest) r.1 (subst (λ (l : List Terminal). g a l) r.0 c)
fill (p ∷ ps) a b ts rest g c r = fill ps r.1 b r.0 rest g (taking (is_flat p) p a r.1 ts r.0 (λ n us. Behind ps n us g) c r.2) r.3

-- the nesting behind a part that is passed over
abbrev pub passed_over : Part → Nesting → Nesting
passed_over settle a = settled a
passed_over _ a = a

-- a part that a token takes is read with the token where the parts in its place are read
abbrev pub Steps : Part → Terminal → Move → Type 0
Steps p t (takes e ps) = (a b : Nesting) (ts rest : List Terminal) → ReadsParts ps (effect e a (t ∷ ts)) ts rest b → ReadsPart p a (t ∷ ts) rest b
Steps p t skips = (a : Nesting) (ts : List Terminal) → ReadsPart p a (t ∷ ts) (t ∷ ts) (passed_over p a)
Steps p t stops = Unit {0}

row : (p : Part) (t : Terminal) (e : Effect) (ps : List Part) → ((a : Nesting) (ts : List Terminal) → Behind ps (effect e a (t ∷ ts)) ts (λ b rest. ReadsPart p a (t ∷ ts) rest b)) → Steps p t (takes e ps)
row p t e ps f = λ a b ts rest r. fill ps (effect e a (t ∷ ts)) b ts rest (λ n us. ReadsPart p a (t ∷ ts) us n) (f a ts) r

before_steps : (w p q : Part) (t : Terminal) (m : Move) → ((a n b : Nesting) (ts mid rest : List Terminal) → ReadsPart p a ts mid n → ReadsPart q n mid rest b → ReadsPart w a ts rest b) → Steps p t m → Steps w t (before m q)
before_steps w p q t (takes e ps) join s = λ a b ts rest r.
    let k = apart ps (q ∷ []) (effect e a (t ∷ ts)) ts rest b r in
    subst (λ (n : Nesting). ReadsPart w a (t ∷ ts) rest n) k.3.3.1 (subst (λ (l : List Terminal). ReadsPart w a (t ∷ ts) l k.3.1) k.3.3.0 (join a k.1 k.3.1 (t ∷ ts) k.0 k.3.0 (s a k.1 ts k.0 k.2) k.3.2))
before_steps w p q t skips join s = tt
before_steps w p q t stops join s = tt

-- a part that is another one of the same first token
as_steps : (w p : Part) (t : Terminal) (m : Move) → is_skip m ≡ false → ((a b : Nesting) (ts rest : List Terminal) → ReadsPart p a ts rest b → ReadsPart w a ts rest b) → Steps p t m → Steps w t m
as_steps w p t (takes e ps) n join s = λ a b ts rest r. join a b (t ∷ ts) rest (s a b ts rest r)
as_steps w p t skips n join s = absurd (cc)
as_steps w p t stops n join s = tt

entering_steps : (d : ℕ) (w p : Part) (t : Terminal) (m : Move) → ((a b : Nesting) (ts rest : List Terminal) → ReadsPart p (entered d a ts) ts rest b → ReadsPart w a ts rest b) → Steps p t m → Steps w t (entering d m)
entering_steps d w p t (takes e ps) join s = λ a b ts rest r. join a b (t ∷ ts) rest (s (entered d a (t ∷ ts)) b ts rest r)
entering_steps d w p t skips join s = tt
entering_steps d w p t stops join s = tt

operand_steps : (t : Terminal) (k : Kind) → t.kind ≡ k → Steps (level zero) t (parts.operand k)
operand_steps t (kinds.Number v w) h = row (level zero) t keeps [] (λ a ts. (exprs.Number v w, grammar.number (grammar.next h)))
operand_steps t (kinds.Name z) h = row (level zero) t keeps (call ∷ []) (λ a ts us b c. let d = c (record { text = z; place = t.place }) in (d.0, grammar.name (grammar.ident h) d.1))
operand_steps t kinds.Minus h = row (level zero) t counts (level zero ∷ []) (λ a ts us b d. (_, grammar.minus (grammar.next h) d.1))
operand_steps t kinds.Plus h = row (level zero) t counts (level zero ∷ []) (λ a ts us b d. (_, grammar.plus (grammar.next h) d.1))
operand_steps t kinds.Not h = row (level zero) t counts (level zero ∷ []) (λ a ts us b d. (_, grammar.negation (grammar.next h) d.1))
operand_steps t kinds.OpenParen h = row (level zero) t counts (level top ∷ sign signs.CloseParen ∷ []) (λ a ts us b d vs n. (_, grammar.group (grammar.next h) d.1 n))
operand_steps t _ h = tt

level_steps : (l : ℕ) (t : Terminal) → Steps (level l) t (parts.level_move l t.kind)
level_steps zero t = operand_steps t t.kind refl
level_steps (suc l) t = before_steps (level (suc l)) (level l) (chain l) t (parts.level_move l t.kind) (λ a n b ts mid rest d c. let r = c d.0 in (r.0, grammar.chain d.1 r.1)) (level_steps l t)

chain_steps : (l : ℕ) (t : Terminal) (o : Option BinOp) → operator l t.kind ≡ o → Steps (chain l) t (parts.chain_move l o)
chain_steps l t None h = λ a ts left. (left, grammar.ends h)
chain_steps l t (Some op) h = row (chain l) t counts (level l ∷ chain l ∷ []) (λ a ts us b d vs c k left. let r = k (exprs.Binary op left d.0) in (r.0, grammar.more (grammar.operates h) d.1 r.1))

sign_steps : (s : Sign) (t : Terminal) (k : Kind) → t.kind ≡ k → Steps (sign s) t (parts.by_sign (is_sign s k))
sign_steps signs.OpenParen t kinds.OpenParen h = row (sign signs.OpenParen) t keeps [] (λ a ts. (grammar.next h, refl))
sign_steps signs.CloseParen t kinds.CloseParen h = row (sign signs.CloseParen) t keeps [] (λ a ts. (grammar.next h, refl))
sign_steps signs.Comma t kinds.Comma h = row (sign signs.Comma) t keeps [] (λ a ts. (grammar.next h, refl))
sign_steps signs.Semicolon t kinds.Semicolon h = row (sign signs.Semicolon) t keeps [] (λ a ts. (grammar.next h, refl))
sign_steps signs.Ampersand t kinds.Ampersand h = row (sign signs.Ampersand) t keeps [] (λ a ts. (grammar.next h, refl))
sign_steps signs.Equals t kinds.Equals h = row (sign signs.Equals) t keeps [] (λ a ts. (grammar.next h, refl))
sign_steps signs.Star t kinds.Star h = row (sign signs.Star) t keeps [] (λ a ts. (grammar.next h, refl))
sign_steps signs.Void t kinds.Void h = row (sign signs.Void) t keeps [] (λ a ts. (grammar.next h, refl))
sign_steps signs.While t kinds.While h = row (sign signs.While) t keeps [] (λ a ts. (grammar.next h, refl))
sign_steps signs.Null t kinds.Null h = row (sign signs.Null) t keeps [] (λ a ts. (grammar.next h, refl))
sign_steps signs.Initializer t kinds.Initializer h = row (sign signs.Initializer) t keeps [] (λ a ts. (grammar.next h, refl))
sign_steps _ t _ h = tt

ident_steps : (t : Terminal) (k : Kind) → t.kind ≡ k → Steps ident t (parts.ident_move k)
ident_steps t (kinds.Name z) h = row ident t keeps [] (λ a ts. ((record { text = z; place = t.place }, grammar.ident h), refl))
ident_steps t _ h = tt

call_steps : (t : Terminal) (k : Kind) → t.kind ≡ k → Steps call t (parts.call_move k)
call_steps t kinds.OpenParen h = row call t counts (args false ∷ []) (λ a ts us b d x. (_, grammar.call (grammar.next h) d.1))
call_steps t _ h = λ a ts x. (exprs.Name x, grammar.no_call (ap is_open_paren h))

args_steps : (alone : Bool) (t : Terminal) (k : Kind) → t.kind ≡ k → Steps (args alone) t (parts.args_move alone k)
args_steps alone t kinds.CloseParen h = row (args alone) t keeps [] (λ a ts. (_, grammar.no_args (grammar.next h)))
args_steps alone t k h = subst (λ (k : Kind). Steps (args alone) t (before (parts.level_move top k) (more_args alone))) h (before_steps (args alone) (level top) (more_args alone) t (parts.level_move top t.kind) (λ a n b ts mid rest d m. (_, grammar.first_arg d.1 m.1)) (level_steps top t))

more_args_steps : (alone : Bool) (t : Terminal) (k : Kind) → t.kind ≡ k → Steps (more_args alone) t (parts.more_args_move alone k)
more_args_steps alone t kinds.CloseParen h = row (more_args alone) t (ends_arg alone) [] (λ a ts. (_, grammar.last_arg (grammar.next h)))
more_args_steps alone t kinds.Comma h = row (more_args alone) t (ends_arg alone) (level top ∷ more_args alone ∷ []) (λ a ts us b d vs c m. (_, grammar.next_arg (grammar.next h) d.1 m.1))
more_args_steps alone t _ h = tt

whole_steps : (t : Terminal) → Steps whole t (parts.whole_move t.kind)
whole_steps t = before_steps whole (level top) settle t (parts.level_move top t.kind) (λ a n b ts mid rest d r. (d.0, subst (λ (l : List Terminal). ReadsWhole a ts d.0 l b) r.0 (subst (λ (m : Nesting). ReadsWhole a ts d.0 mid m) r.1 (grammar.whole d.1)))) (level_steps top t)

condition_steps : (t : Terminal) (k : Kind) → t.kind ≡ k → Steps condition t (parts.condition_move k)
condition_steps t kinds.OpenParen h = row condition t keeps (whole ∷ sign signs.CloseParen ∷ []) (λ a ts us b d vs n. (_, grammar.condition (grammar.next h) d.1 n))
condition_steps t _ h = tt

initial_steps : (t : Terminal) (k : Kind) → t.kind ≡ k → Steps initial t (parts.initial_move k)
initial_steps t kinds.Equals h = row initial t keeps (whole ∷ []) (λ a ts us b d. (_, grammar.initial (grammar.next h) d.1))
initial_steps t _ h = λ a ts. (None, grammar.no_initial (ap is_equals h))

long_tail_steps : (t : Terminal) (k : Kind) → t.kind ≡ k → Steps long_tail t (parts.long_tail_move k)
long_tail_steps t kinds.Int h = row long_tail t keeps [] (λ a ts. (grammar.long_int (grammar.next h), refl))
long_tail_steps t _ h = λ a ts. (grammar.long (ap is_int h), refl)

type_steps : (t : Terminal) (k : Kind) → t.kind ≡ k → Steps type t (parts.type_move k)
type_steps t kinds.Int h = row type t keeps [] (λ a ts. ((_, grammar.int_type (grammar.next h)), refl))
type_steps t kinds.Long h = row type t keeps (long_tail ∷ []) (λ a ts us r. ((_, grammar.long_type (grammar.next h) r), refl))
type_steps t _ h = tt

locals_steps : (t : Terminal) (k : Kind) → t.kind ≡ k → Steps locals t (parts.locals_move k)
locals_steps t (kinds.Name z) h = row locals t keeps (initial ∷ more_locals ∷ []) (λ a ts us b i vs c m here w. let r = m w in (_, grammar.locals (grammar.ident h) i.1 r.1))
locals_steps t _ h = tt

more_locals_steps : (t : Terminal) (k : Kind) → t.kind ≡ k → Steps more_locals t (parts.more_locals_move k)
more_locals_steps t kinds.Semicolon h = row more_locals t keeps [] (λ a ts w. (_, grammar.last_local (grammar.next h)))
more_locals_steps t kinds.Comma h = row more_locals t keeps (locals ∷ []) (λ a ts us b d w. let r = d (grammar.place_at ts) w in (_, grammar.next_local (grammar.next h) r.1))
more_locals_steps t _ h = tt

numbers_steps : (t : Terminal) → Steps numbers t (parts.numbers_move t.kind)
numbers_steps t = before_steps numbers type locals t (parts.type_move t.kind) (λ a n b ts mid rest d l. let r = l (grammar.place_at ts) d.0.0 in (r.0, grammar.numbers d.0.1 (subst (λ (m : Nesting). ReadsLocals (grammar.place_at ts) d.0.0 m mid r.0 rest b) (sym d.1) r.1))) (type_steps t t.kind refl)

threads_steps : (t : Terminal) (k : Kind) → t.kind ≡ k → Steps threads t (parts.threads_move k)
threads_steps t (kinds.Name z) h = row threads t keeps (more_threads ∷ []) (λ a ts us m. ((λ here. (_, grammar.threads (grammar.ident h) m.1)), refl))
threads_steps t _ h = tt

more_threads_steps : (t : Terminal) (k : Kind) → t.kind ≡ k → Steps more_threads t (parts.more_threads_move k)
more_threads_steps t kinds.Semicolon h = row more_threads t keeps [] (λ a ts. ((_, grammar.last_thread (grammar.next h)), refl))
more_threads_steps t kinds.Comma h = row more_threads t keeps (threads ∷ []) (λ a ts us d. let r = d (grammar.place_at ts) in ((_, grammar.next_thread (grammar.next h) r.1), refl))
more_threads_steps t _ h = tt

decl_steps : (t : Terminal) (k : Kind) → t.kind ≡ k → Steps decl t (parts.decl_move k)
decl_steps t kinds.Thread h = row decl t keeps (threads ∷ []) (λ a ts us d. let r = d (grammar.place_at (t ∷ ts)) in (_, grammar.thread_decl (grammar.next h) r.1))
decl_steps t k h = subst (λ (k : Kind). Steps decl t (parts.numbers_move k)) h (as_steps decl numbers t (parts.numbers_move t.kind) (before_no_skip (parts.type_move t.kind) locals) (λ a b ts rest d. (d.0, grammar.number_decl d.1)) (numbers_steps t))

after_name_steps : (t : Terminal) (k : Kind) → t.kind ≡ k → Steps after_name t (parts.after_name_move k)
after_name_steps t kinds.Equals h = row after_name t keeps (whole ∷ []) (λ a ts us b d x. (_, grammar.assigned (grammar.next h) d.1))
after_name_steps t (kinds.Update op) h = row after_name t keeps (whole ∷ []) (λ a ts us b d x. (_, grammar.updated (grammar.next h) d.1))
after_name_steps t (kinds.Step op) h = row after_name t keeps [] (λ a ts x. (_, grammar.stepped (grammar.next h)))
after_name_steps t kinds.OpenParen h = row after_name t keeps (args true ∷ []) (λ a ts us b d x. (_, grammar.called (grammar.next h) d.1))
after_name_steps t _ h = tt

handle_steps : (t : Terminal) (k : Kind) → t.kind ≡ k → Steps handle t (parts.handle_move k)
handle_steps t kinds.OpenParen h = row handle t keeps (sign signs.Ampersand ∷ ident ∷ sign signs.CloseParen ∷ []) (λ a ts us m vs x ws n. ((_, grammar.handle (grammar.next h) m x.1 n), refl))
handle_steps t _ h = tt

simple_steps : (t : Terminal) (k : Kind) → t.kind ≡ k → Steps simple t (parts.simple_move k)
simple_steps t (kinds.Name z) h = row simple t keeps (after_name ∷ []) (λ a ts us b d. let r = d (record { text = z; place = t.place }) in (_, grammar.named (grammar.ident h) r.1))
simple_steps t (kinds.Step op) h = row simple t keeps (ident ∷ []) (λ a ts us x. (_, grammar.step (grammar.next h) x.1))
simple_steps t kinds.Assert h = row simple t keeps (condition ∷ []) (λ a ts us b d. (_, grammar.asserts (grammar.next h) d.1))
simple_steps t kinds.Create h = row simple t keeps (sign signs.OpenParen ∷ sign signs.Ampersand ∷ ident ∷ sign signs.Comma ∷ sign signs.Null ∷ sign signs.Comma ∷ ident ∷ sign signs.Comma ∷ sign signs.Null ∷ sign signs.CloseParen ∷ []) (λ a ts u1 n1 u2 n2 u3 x u4 n4 u5 n5 u6 n6 u7 y u8 n8 u9 n9 u10 n10. (_, grammar.create (grammar.next h) n1 n2 x.1 n4 n5 n6 y.1 n8 n9 n10))
simple_steps t kinds.Join h = row simple t keeps (sign signs.OpenParen ∷ ident ∷ sign signs.Comma ∷ sign signs.Null ∷ sign signs.CloseParen ∷ []) (λ a ts u1 n1 u2 x u3 n3 u4 n4 u5 n5. (_, grammar.join (grammar.next h) n1 x.1 n3 n4 n5))
simple_steps t kinds.Lock h = row simple t keeps (handle ∷ []) (λ a ts us d. (_, grammar.lock (grammar.next h) d.1))
simple_steps t kinds.Unlock h = row simple t keeps (handle ∷ []) (λ a ts us d. (_, grammar.unlock (grammar.next h) d.1))
simple_steps t _ h = tt

value_steps : (t : Terminal) (k : Kind) → t.kind ≡ k → Steps value t (parts.value_move k)
value_steps t kinds.Semicolon h = row value t keeps [] (λ a ts. (_, grammar.plain (grammar.next h)))
value_steps t kinds.Null h = row value t keeps (sign signs.Semicolon ∷ []) (λ a ts us n. (_, grammar.null (grammar.next h) n))
value_steps t k h = subst (λ (k : Kind). Steps value t (before (parts.whole_move k) (sign signs.Semicolon))) h (before_steps value whole (sign signs.Semicolon) t (parts.whole_move t.kind) (λ a n b ts mid rest d m. (returns.Value d.0, subst (λ (o : Nesting). ReadsValue a ts (returns.Value d.0) rest o) m.1 (grammar.value d.1 m.0))) (whole_steps t))

opens_type_steps : (t : Terminal) (k : Kind) → t.kind ≡ k → Steps numbers t (parts.numbers_move k)
opens_type_steps t k h = subst (λ (k : Kind). Steps numbers t (parts.numbers_move k)) h (numbers_steps t)

first_steps : (t : Terminal) (k : Kind) → t.kind ≡ k → Steps first t (parts.first_move k)
first_steps t kinds.Semicolon h = row first t keeps [] (λ a ts. (_, grammar.no_first (grammar.next h)))
first_steps t kinds.Int h = as_steps first numbers t (parts.numbers_move kinds.Int) refl (λ a b ts rest d. (d.0, grammar.number_first d.1)) (opens_type_steps t kinds.Int h)
first_steps t kinds.Long h = as_steps first numbers t (parts.numbers_move kinds.Long) refl (λ a b ts rest d. (d.0, grammar.number_first d.1)) (opens_type_steps t kinds.Long h)
first_steps t k h = before_steps first simple (sign signs.Semicolon) t (parts.simple_move k) (λ a n b ts mid rest d m. (grammar.placed ts d.0 ∷ [], subst (λ (o : Nesting). ReadsFirst a ts (grammar.placed ts d.0 ∷ []) rest o) m.1 (grammar.simple_first d.1 m.0))) (simple_steps t k h)

test_steps : (t : Terminal) (k : Kind) → t.kind ≡ k → Steps test t (parts.test_move k)
test_steps t kinds.Semicolon h = row test t keeps [] (λ a ts. (_, grammar.no_test (grammar.next h)))
test_steps t k h = subst (λ (k : Kind). Steps test t (before (parts.whole_move k) (sign signs.Semicolon))) h (before_steps test whole (sign signs.Semicolon) t (parts.whole_move t.kind) (λ a n b ts mid rest d m. (Some d.0, subst (λ (o : Nesting). ReadsTest a ts (Some d.0) rest o) m.1 (grammar.test d.1 m.0))) (whole_steps t))

last_steps : (t : Terminal) (k : Kind) → t.kind ≡ k → Steps last t (parts.last_move k)
last_steps t kinds.CloseParen h = row last t keeps [] (λ a ts. (_, grammar.no_last (grammar.next h)))
last_steps t k h = before_steps last simple (sign signs.CloseParen) t (parts.simple_move k) (λ a n b ts mid rest d m. (Some (grammar.placed ts d.0), subst (λ (o : Nesting). ReadsLast a ts (Some (grammar.placed ts d.0)) rest o) m.1 (grammar.last d.1 m.0))) (simple_steps t k h)

do_end_steps : (t : Terminal) (k : Kind) → t.kind ≡ k → Steps do_end t (parts.do_end_move k)
do_end_steps t kinds.While h = row do_end t keeps (condition ∷ sign signs.Semicolon ∷ []) (λ a ts us b d vs n. (_, grammar.do_end (grammar.next h) d.1 n))
do_end_steps t _ h = tt

bare_steps : (d : ℕ) (t : Terminal) (k : Kind) → t.kind ≡ k → Steps (bare d) t (parts.bare_move d k)
bare_steps d t kinds.Semicolon h = row (bare d) t keeps [] (λ a ts. (_, grammar.empty (grammar.next h)))
bare_steps d t kinds.OpenBrace h = row (bare d) t keeps (items (suc d) ∷ []) (λ a ts us b r. (_, grammar.block (grammar.next h) r.2))
bare_steps d t kinds.If h = row (bare d) t keeps (condition ∷ stmt (suc d) ∷ otherwise (suc d) ∷ []) (λ a ts us b r vs c p ws o j. (_, grammar.if_then (grammar.next h) r.1 p.1 j.1))
bare_steps d t kinds.While h = row (bare d) t keeps (condition ∷ stmt (suc d) ∷ []) (λ a ts us b r vs c p. (_, grammar.while (grammar.next h) r.1 p.1))
bare_steps d t kinds.Do h = row (bare d) t keeps (stmt (suc d) ∷ do_end ∷ []) (λ a ts us b p vs c r. (_, grammar.do_while (grammar.next h) p.1 r.1))
bare_steps d t kinds.For h = row (bare d) t keeps (sign signs.OpenParen ∷ first ∷ test ∷ last ∷ stmt (suc d) ∷ []) (λ a ts us n vs b f ws c i xs o j ys m p. (_, grammar.for_loop (grammar.next h) n f.1 i.1 j.1 p.1))
bare_steps d t kinds.Break h = row (bare d) t keeps (sign signs.Semicolon ∷ []) (λ a ts us n. (_, grammar.leave_loop (grammar.next h) n))
bare_steps d t kinds.Continue h = row (bare d) t keeps (sign signs.Semicolon ∷ []) (λ a ts us n. (_, grammar.next_round (grammar.next h) n))
bare_steps d t kinds.Return h = row (bare d) t keeps (value ∷ []) (λ a ts us b r. (_, grammar.leave (grammar.next h) r.1))
bare_steps d t k h = before_steps (bare d) simple (sign signs.Semicolon) t (parts.simple_move k) (λ a n b ts mid rest r m. (r.0, subst (λ (o : Nesting). ReadsBare d a ts r.0 rest o) m.1 (grammar.simple r.1 m.0))) (simple_steps t k h)

stmt_steps : (d : ℕ) (t : Terminal) (k : Kind) → t.kind ≡ k → Steps (stmt d) t (parts.stmt_move d k)
stmt_steps d t k h = entering_steps d (stmt d) (bare d) t (parts.bare_move d k) (λ a b ts rest r. (_, grammar.stmt r.1)) (bare_steps d t k h)

otherwise_steps : (d : ℕ) (t : Terminal) (k : Kind) → t.kind ≡ k → Steps (otherwise d) t (parts.otherwise_move d k)
otherwise_steps d t kinds.Else h = row (otherwise d) t keeps (stmt d ∷ []) (λ a ts us b p. (_, grammar.otherwise (grammar.next h) p.1))
otherwise_steps d t _ h = λ a ts. (None, grammar.no_else (ap is_else h))

-- a declaration before other items of a block
decl_item_steps : (d : ℕ) (t : Terminal) (k : Kind) → t.kind ≡ k → Steps (items d) t (before (entering d (parts.decl_move k)) (items d))
decl_item_steps d t k h = go (parts.decl_move k) (decl_steps t k h)
  where
    go : (m : Move) → Steps decl t m → Steps (items d) t (before (entering d m) (items d))
    go (takes e ps) s = λ a b ts rest r.
        let k = apart ps (items d ∷ []) (effect e (entered d a (t ∷ ts)) (t ∷ ts)) ts rest b r in
        let p = s (entered d a (t ∷ ts)) k.1 ts k.0 k.2 in
        let i = k.3.2 in
        subst (λ (n : Nesting). ReadsPart (items d) a (t ∷ ts) rest n) k.3.3.1 (subst (λ (l : List Terminal). ReadsPart (items d) a (t ∷ ts) l k.3.1) k.3.3.0 (_, i.1, grammar.one_decl p.1 i.2))
    go skips s = tt
    go stops s = tt

items_steps : (d : ℕ) (t : Terminal) (k : Kind) → t.kind ≡ k → Steps (items d) t (parts.items_move d k)
items_steps d t kinds.CloseBrace h = row (items d) t keeps [] (λ a ts. (_, _, grammar.close (grammar.next h)))
items_steps d t kinds.Int h = decl_item_steps d t kinds.Int h
items_steps d t kinds.Long h = decl_item_steps d t kinds.Long h
items_steps d t kinds.Thread h = decl_item_steps d t kinds.Thread h
items_steps d t k h = before_steps (items d) (stmt d) (items d) t (parts.stmt_move d k) (λ a n b ts mid rest p i. (_, i.1, grammar.one_stmt p.1 i.2)) (stmt_steps d t k h)

number_steps : (t : Terminal) (k : Kind) → t.kind ≡ k → Steps number t (parts.number_move k)
number_steps t (kinds.Number v w) h = row number t keeps [] (λ a ts. ((v, w, grammar.next h), refl))
number_steps t _ h = tt

literal_steps : (t : Terminal) (k : Kind) → t.kind ≡ k → Steps literal t (parts.literal_move k)
literal_steps t (kinds.Number v w) h = row literal t keeps [] (λ a ts. ((_, _, grammar.literal (grammar.next h)), refl))
literal_steps t kinds.Minus h = row literal t keeps (number ∷ []) (λ a ts us n. ((_, _, grammar.negative (grammar.next h) n.2), refl))
literal_steps t _ h = tt

more_globals_steps : (t : Terminal) (k : Kind) → t.kind ≡ k → Steps more_globals t (parts.more_globals_move k)
more_globals_steps t kinds.Semicolon h = row more_globals t keeps [] (λ a ts. ((λ w. (_, grammar.last_global (grammar.next h))), refl))
more_globals_steps t kinds.Comma h = row more_globals t keeps (ident ∷ globals ∷ []) (λ a ts us x vs g. ((λ w. let r = g w x.0 in (_, grammar.next_global (grammar.next h) x.1 r.1)), refl))
more_globals_steps t _ h = tt

globals_steps : (t : Terminal) (k : Kind) → t.kind ≡ k → Steps globals t (parts.globals_move k)
globals_steps t kinds.Equals h = row globals t keeps (literal ∷ more_globals ∷ []) (λ a ts us v vs m. ((λ w x. let r = m w in (_, grammar.given (grammar.next h) v.2 r.1)), refl))
globals_steps t k h = as_steps globals more_globals t (parts.more_globals_move k) (more_globals_no_skip k) (λ a b ts rest m. ((λ w x. let r = m.0 w in (_, grammar.unset r.1)), m.1)) (more_globals_steps t k h)

after_head_steps : (may : Bool) (t : Terminal) (k : Kind) → t.kind ≡ k → Steps (after_head may) t (parts.after_head_move may k)
after_head_steps true t kinds.Semicolon h = row (after_head true) t keeps [] (λ a ts hd. (_, grammar.prototype (grammar.next h)))
after_head_steps false t kinds.Semicolon h = row (after_head false) t keeps [] (λ a ts hd. (_, grammar.prototype (grammar.next h)))
after_head_steps true t kinds.OpenBrace h = row (after_head true) t keeps (items 1 ∷ []) (λ a ts us b r hd. (_, grammar.body (grammar.next h) r.2))
after_head_steps false t kinds.OpenBrace h = tt
after_head_steps true t _ h = tt
after_head_steps false t _ h = tt

param_steps : (may : Bool) (t : Terminal) → Steps (param may) t (parts.param_move may t.kind)
param_steps may t = before_steps (param may) type (param_name may) t (parts.type_move t.kind) (λ a n b ts mid rest d p hd. let r = p hd d.0.0 in (_, grammar.param d.0.1 (subst (λ (m : Nesting). ReadsParamName hd may d.0.0 m mid r.0 rest b) (sym d.1) r.1))) (type_steps t t.kind refl)

more_params_steps : (may : Bool) (t : Terminal) (k : Kind) → t.kind ≡ k → Steps (more_params may) t (parts.more_params_move may k)
more_params_steps may t kinds.Comma h = row (more_params may) t keeps (param may ∷ []) (λ a ts us b p hd. let r = p hd in (_, grammar.next_param (grammar.next h) r.1))
more_params_steps may t kinds.CloseParen h = row (more_params may) t keeps (after_head may ∷ []) (λ a ts us b p hd. let r = p hd in (_, grammar.last_param (grammar.next h) r.1))
more_params_steps may t _ h = tt

param_name_steps : (may : Bool) (t : Terminal) (k : Kind) → t.kind ≡ k → Steps (param_name may) t (parts.param_name_move may k)
param_name_steps may t (kinds.Name z) h = row (param_name may) t keeps (more_params may ∷ []) (λ a ts us b p hd w. let r = p (grammar.with_param hd w (Some (record { text = z; place = t.place }))) in (_, grammar.with_name (grammar.ident h) r.1))
param_name_steps may t k h = as_steps (param_name may) (more_params false) t (parts.more_params_move false k) (more_params_no_skip false k) (λ a b ts rest p hd w. let r = p (grammar.with_param hd w None) in (_, grammar.without_name r.1)) (more_params_steps false t k h)

param_steps_at : (may : Bool) (t : Terminal) (k : Kind) → t.kind ≡ k → Steps (param may) t (parts.param_move may k)
param_steps_at may t k h = subst (λ (k : Kind). Steps (param may) t (parts.param_move may k)) h (param_steps may t)

params_steps : (may : Bool) (t : Terminal) (k : Kind) → t.kind ≡ k → Steps (params may) t (parts.params_move may k)
params_steps may t kinds.CloseParen h = row (params may) t keeps (after_head may ∷ []) (λ a ts us b p hd. let r = p hd in (_, grammar.no_params (grammar.next h) r.1))
params_steps may t kinds.Void h = row (params may) t keeps (sign signs.CloseParen ∷ after_head may ∷ []) (λ a ts us n vs b p hd. let r = p hd in (_, grammar.void_params (grammar.next h) n r.1))
params_steps may t k h = as_steps (params may) (param may) t (parts.param_move may k) (before_no_skip (parts.type_move k) (param_name may)) (λ a b ts rest p hd. let r = p hd in (_, grammar.some_params r.1)) (param_steps_at may t k h)

thread_param_steps : (may : Bool) (t : Terminal) (k : Kind) → t.kind ≡ k → Steps (thread_param may) t (parts.thread_param_move may k)
thread_param_steps may t (kinds.Name z) h = row (thread_param may) t keeps (sign signs.CloseParen ∷ after_head may ∷ []) (λ a ts us n vs b p x. let r = p (grammar.thread_head x (Some (record { text = z; place = t.place }))) in (_, grammar.named_param (grammar.ident h) n r.1))
thread_param_steps may t kinds.CloseParen h = row (thread_param may) t keeps (after_head may ∷ []) (λ a ts us b p x. let r = p (grammar.thread_head x None) in (_, grammar.unnamed_param (grammar.next h) r.1))
thread_param_steps may t _ h = tt

thread_void_steps : (may : Bool) (t : Terminal) (k : Kind) → t.kind ≡ k → Steps (thread_void may) t (parts.thread_void_move may k)
thread_void_steps may t kinds.Void h = row (thread_void may) t keeps (sign signs.Star ∷ thread_param may ∷ []) (λ a ts us n vs b p x. let r = p x in (_, grammar.thread_void (grammar.next h) n r.1))
thread_void_steps may t _ h = tt

thread_name_steps : (may : Bool) (t : Terminal) (k : Kind) → t.kind ≡ k → Steps (thread_name may) t (parts.thread_name_move may k)
thread_name_steps may t (kinds.Name z) h = row (thread_name may) t keeps (sign signs.OpenParen ∷ thread_void may ∷ []) (λ a ts us n vs b p. let r = p (record { text = z; place = t.place }) in (_, grammar.thread_name (grammar.ident h) n r.1))
thread_name_steps may t _ h = tt

voided_steps : (may : Bool) (t : Terminal) (k : Kind) → t.kind ≡ k → Steps (voided may) t (parts.voided_move may k)
voided_steps may t (kinds.Name z) h = row (voided may) t keeps (sign signs.OpenParen ∷ params may ∷ []) (λ a ts us n vs b p. let r = p (grammar.head_of (record { text = z; place = t.place }) Void W32) in (_, grammar.void_function (grammar.ident h) n r.1))
voided_steps may t kinds.Star h = row (voided may) t keeps (thread_name may ∷ []) (λ a ts us b p. (_, grammar.thread_function (grammar.next h) p.1))
voided_steps may t _ h = tt

named_steps : (may : Bool) (t : Terminal) (k : Kind) → t.kind ≡ k → Steps (named may) t (parts.named_move may k)
named_steps true t kinds.OpenParen h = row (named true) t keeps (params true ∷ []) (λ a ts us b p w x. let r = p (grammar.head_of x Int w) in (_, grammar.number_function (grammar.next h) r.1))
named_steps false t kinds.OpenParen h = row (named false) t keeps (params false ∷ []) (λ a ts us b p w x. let r = p (grammar.head_of x Int w) in (_, grammar.number_function (grammar.next h) r.1))
named_steps true t k h = as_steps (named true) globals t (parts.globals_move k) (globals_no_skip k) (λ a b ts rest g w x. let r = g.0 w x in (r.0, subst (λ (n : Nesting). ReadsNamed true w x a ts r.0 rest n) g.1 (grammar.globals r.1))) (globals_steps t k h)
named_steps false t _ h = tt

typed_steps : (may : Bool) (t : Terminal) (k : Kind) → t.kind ≡ k → Steps (typed may) t (parts.typed_move may k)
typed_steps may t (kinds.Name z) h = row (typed may) t keeps (named may ∷ []) (λ a ts us b p w. let r = p w (record { text = z; place = t.place }) in (_, grammar.typed (grammar.ident h) r.1))
typed_steps may t _ h = tt

mutex_name_steps : (t : Terminal) (k : Kind) → t.kind ≡ k → Steps mutex_name t (parts.mutex_name_move k)
mutex_name_steps t (kinds.Name z) h = row mutex_name t keeps (sign signs.Equals ∷ sign signs.Initializer ∷ sign signs.Semicolon ∷ []) (λ a ts us n vs m ws o. ((_, grammar.mutex_name (grammar.ident h) n m o), refl))
mutex_name_steps t _ h = tt

type_steps_outer : (may : Bool) (t : Terminal) (k : Kind) → t.kind ≡ k → Steps (outer may) t (before (parts.type_move k) (typed may))
type_steps_outer may t k h = before_steps (outer may) type (typed may) t (parts.type_move k) (λ a n b ts mid rest d p. let r = p d.0.0 in (_, grammar.number_item d.0.1 (subst (λ (m : Nesting). ReadsTyped may d.0.0 m mid r.0 rest b) (sym d.1) r.1))) (type_steps t k h)

outer_steps : (may : Bool) (t : Terminal) (k : Kind) → t.kind ≡ k → Steps (outer may) t (parts.outer_move may k)
outer_steps true t kinds.Void h = row (outer true) t keeps (voided true ∷ []) (λ a ts us b p. (_, grammar.void_item (grammar.next h) p.1))
outer_steps false t kinds.Void h = row (outer false) t keeps (voided false ∷ []) (λ a ts us b p. (_, grammar.void_item (grammar.next h) p.1))
outer_steps true t kinds.Mutex h = row (outer true) t keeps (mutex_name ∷ []) (λ a ts us p. (_, grammar.mutex_item (grammar.next h) p.1))
outer_steps false t kinds.Mutex h = tt
outer_steps true t k h = type_steps_outer true t k h
outer_steps false t k h = type_steps_outer false t k h

unit_item_steps : (t : Terminal) (k : Kind) → t.kind ≡ k → Steps unit_item t (parts.item_move k)
unit_item_steps t kinds.Static h = row unit_item t keeps (outer true ∷ []) (λ a ts us b p. (_, grammar.static_item (grammar.next h) p.1))
unit_item_steps t kinds.Extern h = row unit_item t keeps (outer false ∷ []) (λ a ts us b p. (_, grammar.extern_item (grammar.next h) p.1))
unit_item_steps t k h = as_steps unit_item (outer true) t (parts.outer_move true k) (outer_no_skip k) (λ a b ts rest p. (_, grammar.plain_item p.1)) (outer_steps true t k h)

pub steps : (p : Part) (t : Terminal) → Steps p t (move p t.kind)
steps (sign s) t = sign_steps s t t.kind refl
steps ident t = ident_steps t t.kind refl
steps settle t = λ a ts. (refl, refl)
steps (level l) t = level_steps l t
steps (chain l) t = chain_steps l t (operator l t.kind) refl
steps call t = call_steps t t.kind refl
steps (args alone) t = args_steps alone t t.kind refl
steps (more_args alone) t = more_args_steps alone t t.kind refl
steps whole t = whole_steps t
steps condition t = condition_steps t t.kind refl
steps initial t = initial_steps t t.kind refl
steps long_tail t = long_tail_steps t t.kind refl
steps type t = type_steps t t.kind refl
steps locals t = locals_steps t t.kind refl
steps more_locals t = more_locals_steps t t.kind refl
steps numbers t = numbers_steps t
steps threads t = threads_steps t t.kind refl
steps more_threads t = more_threads_steps t t.kind refl
steps decl t = decl_steps t t.kind refl
steps after_name t = after_name_steps t t.kind refl
steps handle t = handle_steps t t.kind refl
steps simple t = simple_steps t t.kind refl
steps value t = value_steps t t.kind refl
steps first t = first_steps t t.kind refl
steps test t = test_steps t t.kind refl
steps last t = last_steps t t.kind refl
steps do_end t = do_end_steps t t.kind refl
steps (bare d) t = bare_steps d t t.kind refl
steps (stmt d) t = stmt_steps d t t.kind refl
steps (otherwise d) t = otherwise_steps d t t.kind refl
steps (items d) t = items_steps d t t.kind refl
steps literal t = literal_steps t t.kind refl
steps number t = number_steps t t.kind refl
steps globals t = globals_steps t t.kind refl
steps more_globals t = more_globals_steps t t.kind refl
steps (after_head may) t = after_head_steps may t t.kind refl
steps (param may) t = param_steps may t
steps (param_name may) t = param_name_steps may t t.kind refl
steps (more_params may) t = more_params_steps may t t.kind refl
steps (params may) t = params_steps may t t.kind refl
steps (thread_param may) t = thread_param_steps may t t.kind refl
steps (thread_void may) t = thread_void_steps may t t.kind refl
steps (thread_name may) t = thread_name_steps may t t.kind refl
steps (voided may) t = voided_steps may t t.kind refl
steps (named may) t = named_steps may t t.kind refl
steps (typed may) t = typed_steps may t t.kind refl
steps mutex_name t = mutex_name_steps t t.kind refl
steps (outer may) t = outer_steps may t t.kind refl
steps unit_item t = unit_item_steps t t.kind refl
