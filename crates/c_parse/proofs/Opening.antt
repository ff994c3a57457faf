-- What the grammar reads as a part, the machine passes as that part.
use Rattle.std.proofs.Common.{◌≡◌, refl, sym, ap, ◌∙◌, ℕ, zero, suc, Bool, true, false, List, [], ◌∷◌, ◌++◌, length, Option, Some, None, append_assoc}
use Rattle.gob_tree.specs.declared.expr.Width.{Width}
use Rattle.gob_tree.specs.declared.place.Place.{Place}
use Rattle.c_parse.specs.declared.terminal.Terminal.{Terminal}
use Rattle.c_parse.specs.declared.terminal.Kind.{Kind}
use Rattle.c_parse.specs.declared.terminal.Kind.TheVariants as kinds
use Rattle.c_parse.specs.declared.stop.Sign.{Sign}
use Rattle.c_parse.specs.declared.stop.Sign.TheVariants as signs
use Rattle.c_parse.specs.declared.stop.Trouble.TheVariants.{Bad, Deep}
use Rattle.c_parse.specs.declared.raw.expr.RawName.{RawName}
use Rattle.c_parse.specs.declared.raw.expr.RawExpr.{RawExpr}
use Rattle.c_parse.specs.declared.raw.stmt.RawReturn.{RawReturn}
use Rattle.c_parse.specs.declared.raw.stmt.RawStmt.{RawStmt}
use Rattle.c_parse.specs.declared.raw.stmt.RawPlaced.{RawPlaced}
use Rattle.c_parse.specs.declared.raw.unit.RawHead.{RawHead}
use Rattle.c_parse.specs.declared.raw.unit.RawItem.{RawItem}
use Rattle.c_parse.specs.Grammar as grammar
use Rattle.c_parse.specs.Grammar.{Nesting, counted, entered, settled, ended, within, operator, top, begins_with, is_open_paren, is_equals, is_int, is_else, EndsChain, Next, ReadsName, ReadsOperator, ReadsLevel, ReadsChain, ReadsCall, ReadsArgs, ReadsMoreArgs, ReadsWhole, ReadsCondition, ReadsInitial, ReadsLongTail, ReadsType, ReadsLocals, ReadsMoreLocals, ReadsNumbers, ReadsThreads, ReadsMoreThreads, ReadsDecl, ReadsAfterName, ReadsHandle, ReadsSimple, ReadsValue, ReadsFirst, ReadsTest, ReadsLast, ReadsDoEnd, ReadsBare, ReadsStmt, ReadsElse, ReadsItems, ReadsLiteral, ReadsGlobals, ReadsMoreGlobals, ReadsAfterHead, ReadsParam, ReadsParamName, ReadsMoreParams, ReadsParams, ReadsThreadParam, ReadsThreadVoid, ReadsThreadName, ReadsVoided, ReadsNamed, ReadsTyped, ReadsMutexName, ReadsOuter, ReadsItem, ReadsUnit}
use Rattle.c_parse.specs.Machine.{Effect, keeps, counts, ends_arg, enters, settles, effect, Part, Move, takes, skips, stops, Outcome, finished, troubled, sign, ident, settle, level, chain, call, args, more_args, whole, condition, initial, long_tail, type, locals, more_locals, numbers, threads, more_threads, decl, after_name, handle, simple, value, first, test, last, do_end, bare, stmt, otherwise, items, literal, number, globals, more_globals, after_head, param, param_name, more_params, params, thread_param, thread_void, thread_name, voided, named, typed, mutex_name, outer, unit_item, before, entering, move, moved, behind, settled_next, next, run, go_on, unless_over, is_sign, kind_of, Passes}
use Rattle.c_parse.specs.Machine.{opens_operand, opens_type, opens_decl, opens_simple, opens_stmt, is_close_paren, is_semicolon, is_close_brace, is_comma, ends_value, ends_first, ends_items, ends_params, is_name, is_word_outside, is_storage, is_thread, is_worded}
use Rattle.c_parse.specs.Machine as parts

-- what is over a limit stays so

pub effect_stays : (e : Effect) (a : Nesting) (ts : List Terminal) (left : ℕ) → a.over ≡ Some left → (effect e a ts).over ≡ Some left
effect_stays keeps a ts left h = h
effect_stays counts a ts left h = rw h refl
effect_stays (ends_arg true) a ts left h = h
effect_stays (ends_arg false) a ts left h = h
effect_stays (enters d e) a ts left h = effect_stays e (entered d a ts) ts left (rw h refl)
effect_stays (settles e) a ts left h = effect_stays e (settled a) ts left h

pub run_over : (ps : List Part) (a : Nesting) (ts : List Terminal) (left : ℕ) → a.over ≡ Some left → run ps a ts ≡ troubled Deep left
run_over ps a [] left h = rw h refl
run_over ps a (t ∷ ts) left h = rw h refl

-- a token that opens a row of parts

pub taken_at : (a : Nesting) (p : Part) (e : Effect) (ps : List Part) (t : Terminal) (rest : List Terminal) → move p t.kind ≡ takes e ps → (below : List Part) → run (p ∷ below) a (t ∷ rest) ≡ run (ps ++ below) (effect e a (t ∷ rest)) rest
taken_at a p e ps t rest m below = go a.over refl
  where
    go : (o : Option ℕ) → a.over ≡ o → run (p ∷ below) a (t ∷ rest) ≡ run (ps ++ below) (effect e a (t ∷ rest)) rest
    go None h = ap (λ (o : Option ℕ). unless_over o (go_on (next (p ∷ below) t.kind) (λ e qs. run qs (effect e a (t ∷ rest)) rest) (length (t ∷ rest)))) h ∙ rw m refl
    go (Some left) h = run_over (p ∷ below) a (t ∷ rest) left h ∙ sym (run_over (ps ++ below) (effect e a (t ∷ rest)) rest left (effect_stays e a (t ∷ rest) left h))

pub taken : {k : Kind} {ts rest : List Terminal} (a : Nesting) (p : Part) (e : Effect) (ps : List Part) → Next k ts rest → move p k ≡ takes e ps → (below : List Part) → run (p ∷ below) a ts ≡ run (ps ++ below) (effect e a ts) rest
taken a p e ps (grammar.next {t = t} {rest = rest} h) m below = taken_at a p e ps t rest (rw h m) below

pub taken_name : {ts rest : List Terminal} {x : RawName} (a : Nesting) (p : Part) (e : Effect) (ps : List Part) → ReadsName ts x rest → ((text : List ℕ) → move p (kinds.Name text) ≡ takes e ps) → (below : List Part) → run (p ∷ below) a ts ≡ run (ps ++ below) (effect e a ts) rest
taken_name a p e ps (grammar.ident {text = text} {t = t} {rest = rest} h) m below = taken_at a p e ps t rest (rw h (m text)) below

-- a part that stands before another takes the other along

abbrev pub is_skip : Move → Bool
is_skip (takes e ps) = false
is_skip skips = true
is_skip stops = false

with_next : (p : Part) (m : Move) (ps : List Part) (later other : Option (Effect × List Part)) → is_skip m ≡ false → moved (before m p) ps later ≡ moved m (p ∷ ps) other
with_next p (takes e qs) ps later other h = ap (λ (l : List Part). Some (e, l)) (append_assoc qs (p ∷ []) ps)
with_next p skips ps later other h = absurd (cc)
with_next p stops ps later other h = refl

pub before_no_skip : (m : Move) (p : Part) → is_skip (before m p) ≡ false
before_no_skip (takes e qs) p = refl
before_no_skip skips p = refl
before_no_skip stops p = refl

pub entering_no_skip : (d : ℕ) (m : Move) → is_skip (entering d m) ≡ false
entering_no_skip d (takes e qs) = refl
entering_no_skip d skips = refl
entering_no_skip d stops = refl

operand_no_skip : (k : Kind) → is_skip (parts.operand k) ≡ false
operand_no_skip (kinds.Number v w) = refl
operand_no_skip (kinds.Name x) = refl
operand_no_skip kinds.Minus = refl
operand_no_skip kinds.Plus = refl
operand_no_skip kinds.Not = refl
operand_no_skip kinds.OpenParen = refl
operand_no_skip _ = refl

pub level_no_skip : (l : ℕ) (k : Kind) → is_skip (parts.level_move l k) ≡ false
level_no_skip zero k = operand_no_skip k
level_no_skip (suc l) k = before_no_skip (parts.level_move l k) (chain l)

pub type_no_skip : (k : Kind) → is_skip (parts.type_move k) ≡ false
type_no_skip kinds.Int = refl
type_no_skip kinds.Long = refl
type_no_skip _ = refl

pub simple_no_skip : (k : Kind) → is_skip (parts.simple_move k) ≡ false
simple_no_skip (kinds.Name x) = refl
simple_no_skip (kinds.Step op) = refl
simple_no_skip kinds.Assert = refl
simple_no_skip kinds.Create = refl
simple_no_skip kinds.Join = refl
simple_no_skip kinds.Lock = refl
simple_no_skip kinds.Unlock = refl
simple_no_skip _ = refl

-- a part that a token opens as another part and a third
pub opens : (p q r : Part) (a : Nesting) (t : Terminal) (ts : List Terminal) (below : List Part) → move p t.kind ≡ before (move q t.kind) r → is_skip (move q t.kind) ≡ false → run (p ∷ below) a (t ∷ ts) ≡ run (q ∷ r ∷ below) a (t ∷ ts)
opens p q r a t ts below h n = ap (λ (o : Option (Effect × List Part)). unless_over a.over (go_on o (λ e qs. run qs (effect e a (t ∷ ts)) ts) (length (t ∷ ts)))) (ap (λ (m : Move). moved m below (behind p (next below t.kind))) h ∙ with_next r (move q t.kind) below (behind p (next below t.kind)) (behind q (next (r ∷ below) t.kind)) n)

-- a part that a token opens as another part alone
pub opens_as : (p q : Part) (a : Nesting) (t : Terminal) (ts : List Terminal) (below : List Part) → move p t.kind ≡ move q t.kind → is_skip (move q t.kind) ≡ false → run (p ∷ below) a (t ∷ ts) ≡ run (q ∷ below) a (t ∷ ts)
opens_as p q a t ts below h n = ap (λ (o : Option (Effect × List Part)). unless_over a.over (go_on o (λ e qs. run qs (effect e a (t ∷ ts)) ts) (length (t ∷ ts)))) (ap (λ (m : Move). moved m below (behind p (next below t.kind))) h ∙ unskipped (move q t.kind) n)
  where
    unskipped : (m : Move) → is_skip m ≡ false → moved m below (behind p (next below t.kind)) ≡ moved m below (behind q (next below t.kind))
    unskipped (takes e qs) n = refl
    unskipped skips n = absurd (cc)
    unskipped stops n = refl

-- the first token is of a kind that the part takes
pub record Takes (p : Part) (ts : List Terminal) : Type 0 where
  pub t : Terminal
  pub us : List Terminal
  pub e : Effect
  pub ps : List Part
  pub cut : ts ≡ t ∷ us
  pub moves : move p t.kind ≡ takes e ps

-- a part that begins a statement of a depth
abbrev within_depth : Part → Part → Part → ℕ → Kind → Type 0
within_depth p q r d k = move p k ≡ before (entering d (move q k)) r

pub opens_in_at : (p q r : Part) (d : ℕ) (a : Nesting) (e : Effect) (qs : List Part) (t : Terminal) (us : List Terminal) (below : List Part) → move q t.kind ≡ takes e qs → within_depth p q r d t.kind → run (p ∷ below) a (t ∷ us) ≡ run (q ∷ r ∷ below) (entered d a (t ∷ us)) (t ∷ us)
opens_in_at p q r d a e qs t us below h w =
    taken_at a p (enters d e) (qs ++ r ∷ []) t us (w ∙ ap (λ (m : Move). before (entering d m) r) h) below
    ∙ ap (λ (l : List Part). run l (effect e (entered d a (t ∷ us)) (t ∷ us)) us) (append_assoc qs (r ∷ []) below)
    ∙ sym (taken_at (entered d a (t ∷ us)) q e qs t us h (r ∷ below))

opens_stmt_at : (d : ℕ) (a : Nesting) (e : Effect) (qs : List Part) (t : Terminal) (us : List Terminal) (below : List Part) → parts.bare_move d t.kind ≡ takes e qs → run (stmt d ∷ below) a (t ∷ us) ≡ run (bare d ∷ below) (entered d a (t ∷ us)) (t ∷ us)
opens_stmt_at d a e qs t us below h = taken_at a (stmt d) (enters d e) qs t us (ap (λ (m : Move). entering d m) h) below ∙ sym (taken_at (entered d a (t ∷ us)) (bare d) e qs t us h below)

pub opened_stmt : (d : ℕ) (a : Nesting) {ts : List Terminal} (below : List Part) → Takes (bare d) ts → run (stmt d ∷ below) a ts ≡ run (bare d ∷ below) (entered d a ts) ts
opened_stmt d a below k = rw k.cut (opens_stmt_at d a k.e k.ps k.t k.us below k.moves)

-- a level is one operand and the rest of its chain
pub opened_level : (a : Nesting) (l : ℕ) (ts : List Terminal) (below : List Part) → run (level (suc l) ∷ below) a ts ≡ run (level l ∷ chain l ∷ below) a ts
opened_level a l [] below = refl
opened_level a l (t ∷ ts) below = opens (level (suc l)) (level l) (chain l) a t ts below refl (level_no_skip l t.kind)

pub opened_whole : (a : Nesting) (ts : List Terminal) (below : List Part) → run (whole ∷ below) a ts ≡ run (level top ∷ settle ∷ below) a ts
opened_whole a [] below = refl
opened_whole a (t ∷ ts) below = opens whole (level top) settle a t ts below refl (level_no_skip top t.kind)

pub opened_numbers : (a : Nesting) (ts : List Terminal) (below : List Part) → run (numbers ∷ below) a ts ≡ run (type ∷ locals ∷ below) a ts
opened_numbers a [] below = refl
opened_numbers a (t ∷ ts) below = opens numbers type locals a t ts below refl (type_no_skip t.kind)

pub opened_param : (a : Nesting) (may : Bool) (ts : List Terminal) (below : List Part) → run (param may ∷ below) a ts ≡ run (type ∷ param_name may ∷ below) a ts
opened_param a may [] below = refl
opened_param a may (t ∷ ts) below = opens (param may) type (param_name may) a t ts below refl (type_no_skip t.kind)

-- tests of the first token

-- Parts that are others in a row where the first token is of a kind. Each is told by a test of that kind.

some_args : (alone : Bool) (k : Kind) → is_close_paren k ≡ false → move (args alone) k ≡ before (move (level top) k) (more_args alone)
some_args alone kinds.CloseParen h = absurd (cc)
some_args alone _ h = refl

pub opened_args : (a : Nesting) (alone : Bool) (ts : List Terminal) (below : List Part) → begins_with is_close_paren ts ≡ false → run (args alone ∷ below) a ts ≡ run (level top ∷ more_args alone ∷ below) a ts
opened_args a alone [] below h = refl
opened_args a alone (t ∷ ts) below h = opens (args alone) (level top) (more_args alone) a t ts below (some_args alone t.kind h) (level_no_skip top t.kind)

some_value : (k : Kind) → ends_value k ≡ false → move value k ≡ before (move whole k) (sign signs.Semicolon)
some_value kinds.Semicolon h = absurd (cc)
some_value kinds.Null h = absurd (cc)
some_value _ h = refl

pub opened_value : (a : Nesting) (ts : List Terminal) (below : List Part) → begins_with ends_value ts ≡ false → run (value ∷ below) a ts ≡ run (whole ∷ sign signs.Semicolon ∷ below) a ts
opened_value a [] below h = refl
opened_value a (t ∷ ts) below h = opens value whole (sign signs.Semicolon) a t ts below (some_value t.kind h) (before_no_skip (parts.level_move top t.kind) settle)

some_test : (k : Kind) → is_semicolon k ≡ false → move test k ≡ before (move whole k) (sign signs.Semicolon)
some_test kinds.Semicolon h = absurd (cc)
some_test _ h = refl

pub opened_test : (a : Nesting) (ts : List Terminal) (below : List Part) → begins_with is_semicolon ts ≡ false → run (test ∷ below) a ts ≡ run (whole ∷ sign signs.Semicolon ∷ below) a ts
opened_test a [] below h = refl
opened_test a (t ∷ ts) below h = opens test whole (sign signs.Semicolon) a t ts below (some_test t.kind h) (before_no_skip (parts.level_move top t.kind) settle)

some_last : (k : Kind) → is_close_paren k ≡ false → move last k ≡ before (move simple k) (sign signs.CloseParen)
some_last kinds.CloseParen h = absurd (cc)
some_last _ h = refl

pub opened_last : (a : Nesting) (ts : List Terminal) (below : List Part) → begins_with is_close_paren ts ≡ false → run (last ∷ below) a ts ≡ run (simple ∷ sign signs.CloseParen ∷ below) a ts
opened_last a [] below h = refl
opened_last a (t ∷ ts) below h = opens last simple (sign signs.CloseParen) a t ts below (some_last t.kind h) (simple_no_skip t.kind)

some_first : (k : Kind) → ends_first k ≡ false → move first k ≡ before (move simple k) (sign signs.Semicolon)
some_first kinds.Semicolon h = absurd (cc)
some_first kinds.Int h = absurd (cc)
some_first kinds.Long h = absurd (cc)
some_first _ h = refl

pub opened_first : (a : Nesting) (ts : List Terminal) (below : List Part) → begins_with ends_first ts ≡ false → run (first ∷ below) a ts ≡ run (simple ∷ sign signs.Semicolon ∷ below) a ts
opened_first a [] below h = refl
opened_first a (t ∷ ts) below h = opens first simple (sign signs.Semicolon) a t ts below (some_first t.kind h) (simple_no_skip t.kind)

some_bare : (d : ℕ) (k : Kind) → is_worded k ≡ false → move (bare d) k ≡ before (move simple k) (sign signs.Semicolon)
some_bare d kinds.Semicolon h = absurd (cc)
some_bare d kinds.OpenBrace h = absurd (cc)
some_bare d kinds.If h = absurd (cc)
some_bare d kinds.While h = absurd (cc)
some_bare d kinds.Do h = absurd (cc)
some_bare d kinds.For h = absurd (cc)
some_bare d kinds.Break h = absurd (cc)
some_bare d kinds.Continue h = absurd (cc)
some_bare d kinds.Return h = absurd (cc)
some_bare d _ h = refl

pub opened_bare : (a : Nesting) (d : ℕ) (ts : List Terminal) (below : List Part) → begins_with is_worded ts ≡ false → run (bare d ∷ below) a ts ≡ run (simple ∷ sign signs.Semicolon ∷ below) a ts
opened_bare a d [] below h = refl
opened_bare a d (t ∷ ts) below h = opens (bare d) simple (sign signs.Semicolon) a t ts below (some_bare d t.kind h) (simple_no_skip t.kind)

some_items : (d : ℕ) (k : Kind) → ends_items k ≡ false → move (items d) k ≡ before (move (stmt d) k) (items d)
some_items d kinds.CloseBrace h = absurd (cc)
some_items d kinds.Int h = absurd (cc)
some_items d kinds.Long h = absurd (cc)
some_items d kinds.Thread h = absurd (cc)
some_items d _ h = refl

pub opened_items : (a : Nesting) (d : ℕ) (ts : List Terminal) (below : List Part) → begins_with ends_items ts ≡ false → run (items d ∷ below) a ts ≡ run (stmt d ∷ items d ∷ below) a ts
opened_items a d [] below h = refl
opened_items a d (t ∷ ts) below h = opens (items d) (stmt d) (items d) a t ts below (some_items d t.kind h) (entering_no_skip d (parts.bare_move d t.kind))

some_outer : (may : Bool) (k : Kind) → is_word_outside k ≡ false → move (outer may) k ≡ before (move type k) (typed may)
some_outer true kinds.Void h = absurd (cc)
some_outer false kinds.Void h = absurd (cc)
some_outer true kinds.Mutex h = absurd (cc)
some_outer false kinds.Mutex h = absurd (cc)
some_outer true _ h = refl
some_outer false _ h = refl

pub opened_outer : (a : Nesting) (may : Bool) (ts : List Terminal) (below : List Part) → begins_with is_word_outside ts ≡ false → run (outer may ∷ below) a ts ≡ run (type ∷ typed may ∷ below) a ts
opened_outer a may [] below h = refl
opened_outer a may (t ∷ ts) below h = opens (outer may) type (typed may) a t ts below (some_outer may t.kind h) (type_no_skip t.kind)

pub more_globals_no_skip : (k : Kind) → is_skip (parts.more_globals_move k) ≡ false
more_globals_no_skip kinds.Semicolon = refl
more_globals_no_skip kinds.Comma = refl
more_globals_no_skip _ = refl

pub globals_no_skip : (k : Kind) → is_skip (parts.globals_move k) ≡ false
globals_no_skip kinds.Equals = refl
globals_no_skip kinds.Semicolon = refl
globals_no_skip kinds.Comma = refl
globals_no_skip _ = refl

pub more_params_no_skip : (may : Bool) (k : Kind) → is_skip (parts.more_params_move may k) ≡ false
more_params_no_skip may kinds.Comma = refl
more_params_no_skip may kinds.CloseParen = refl
more_params_no_skip may _ = refl

pub outer_no_skip : (k : Kind) → is_skip (parts.outer_move true k) ≡ false
outer_no_skip kinds.Void = refl
outer_no_skip kinds.Mutex = refl
outer_no_skip kinds.Int = refl
outer_no_skip kinds.Long = refl
outer_no_skip _ = refl

as_decl : (k : Kind) → is_thread k ≡ false → move decl k ≡ move numbers k
as_decl kinds.Thread h = absurd (cc)
as_decl _ h = refl

pub opened_decl : (a : Nesting) (ts : List Terminal) (below : List Part) → begins_with is_thread ts ≡ false → run (decl ∷ below) a ts ≡ run (numbers ∷ below) a ts
opened_decl a [] below h = refl
opened_decl a (t ∷ ts) below h = opens_as decl numbers a t ts below (as_decl t.kind h) (before_no_skip (parts.type_move t.kind) locals)

as_number_first : (k : Kind) → opens_type k ≡ true → move first k ≡ move numbers k
as_number_first kinds.Int h = refl
as_number_first kinds.Long h = refl
as_number_first _ h = absurd (cc)

pub opened_number_first : (a : Nesting) (ts : List Terminal) (below : List Part) → begins_with opens_type ts ≡ true → run (first ∷ below) a ts ≡ run (numbers ∷ below) a ts
opened_number_first a [] below h = absurd (cc)
opened_number_first a (t ∷ ts) below h = opens_as first numbers a t ts below (as_number_first t.kind h) (before_no_skip (parts.type_move t.kind) locals)

as_globals : (k : Kind) → is_equals k ≡ false → move globals k ≡ move more_globals k
as_globals kinds.Equals h = absurd (cc)
as_globals _ h = refl

pub opened_globals : (a : Nesting) (ts : List Terminal) (below : List Part) → begins_with is_equals ts ≡ false → run (globals ∷ below) a ts ≡ run (more_globals ∷ below) a ts
opened_globals a [] below h = refl
opened_globals a (t ∷ ts) below h = opens_as globals more_globals a t ts below (as_globals t.kind h) (more_globals_no_skip t.kind)

as_params : (may : Bool) (k : Kind) → ends_params k ≡ false → move (params may) k ≡ move (param may) k
as_params may kinds.CloseParen h = absurd (cc)
as_params may kinds.Void h = absurd (cc)
as_params may _ h = refl

pub opened_params : (a : Nesting) (may : Bool) (ts : List Terminal) (below : List Part) → begins_with ends_params ts ≡ false → run (params may ∷ below) a ts ≡ run (param may ∷ below) a ts
opened_params a may [] below h = refl
opened_params a may (t ∷ ts) below h = opens_as (params may) (param may) a t ts below (as_params may t.kind h) (before_no_skip (parts.type_move t.kind) (param_name may))

as_param_name : (may : Bool) (k : Kind) → is_name k ≡ false → move (param_name may) k ≡ move (more_params false) k
as_param_name may (kinds.Name x) h = absurd (cc)
as_param_name may _ h = refl

pub opened_param_name : (a : Nesting) (may : Bool) (ts : List Terminal) (below : List Part) → begins_with is_name ts ≡ false → run (param_name may ∷ below) a ts ≡ run (more_params false ∷ below) a ts
opened_param_name a may [] below h = refl
opened_param_name a may (t ∷ ts) below h = opens_as (param_name may) (more_params false) a t ts below (as_param_name may t.kind h) (more_params_no_skip false t.kind)

as_named : (k : Kind) → is_open_paren k ≡ false → move (named true) k ≡ move globals k
as_named kinds.OpenParen h = absurd (cc)
as_named _ h = refl

pub opened_named : (a : Nesting) (ts : List Terminal) (below : List Part) → begins_with is_open_paren ts ≡ false → run (named true ∷ below) a ts ≡ run (globals ∷ below) a ts
opened_named a [] below h = refl
opened_named a (t ∷ ts) below h = opens_as (named true) globals a t ts below (as_named t.kind h) (globals_no_skip t.kind)

as_unit_item : (k : Kind) → is_storage k ≡ false → move unit_item k ≡ move (outer true) k
as_unit_item kinds.Static h = absurd (cc)
as_unit_item kinds.Extern h = absurd (cc)
as_unit_item _ h = refl

pub opened_unit_item : (a : Nesting) (ts : List Terminal) (below : List Part) → begins_with is_storage ts ≡ false → run (unit_item ∷ below) a ts ≡ run (outer true ∷ below) a ts
opened_unit_item a [] below h = refl
opened_unit_item a (t ∷ ts) below h = opens_as unit_item (outer true) a t ts below (as_unit_item t.kind h) (outer_no_skip t.kind)

within_items : (d : ℕ) (k : Kind) → opens_decl k ≡ true → move (items d) k ≡ before (entering d (move decl k)) (items d)
within_items d kinds.Int h = refl
within_items d kinds.Long h = refl
within_items d kinds.Thread h = refl
within_items d _ h = absurd (cc)

pub opened_decl_item : (d : ℕ) (a : Nesting) (ts : List Terminal) (below : List Part) → begins_with opens_decl ts ≡ true → run (items d ∷ below) a ts ≡ run (decl ∷ items d ∷ below) (entered d a ts) ts
opened_decl_item d a [] below h = absurd (cc)
opened_decl_item d a (t ∷ ts) below h = let k = taking t.kind h in opens_in_at (items d) decl (items d) d a k.0 k.1 t ts below k.2 (within_items d t.kind h)
  where
    taking : (k : Kind) → opens_decl k ≡ true → (e : Effect) × (qs : List Part) × (move decl k ≡ takes e qs)
    taking kinds.Int h = (keeps, locals ∷ [], refl)
    taking kinds.Long h = (keeps, long_tail ∷ locals ∷ [], refl)
    taking kinds.Thread h = (keeps, threads ∷ [], refl)
    taking _ h = absurd (cc)

pub opened_stmt_here : (d : ℕ) (a : Nesting) (ts : List Terminal) (below : List Part) → begins_with opens_stmt ts ≡ true → run (stmt d ∷ below) a ts ≡ run (bare d ∷ below) (entered d a ts) ts
opened_stmt_here d a [] below h = absurd (cc)
opened_stmt_here d a (t ∷ ts) below h = let k = taking t.kind h in opens_stmt_at d a k.0 k.1 t ts below k.2
  where
    taking : (k : Kind) → opens_stmt k ≡ true → (e : Effect) × (qs : List Part) × (parts.bare_move d k ≡ takes e qs)
    taking (kinds.Name x) h = (_, _, refl)
    taking (kinds.Step op) h = (_, _, refl)
    taking kinds.Assert h = (_, _, refl)
    taking kinds.Create h = (_, _, refl)
    taking kinds.Join h = (_, _, refl)
    taking kinds.Lock h = (_, _, refl)
    taking kinds.Unlock h = (_, _, refl)
    taking kinds.Semicolon h = (_, _, refl)
    taking kinds.OpenBrace h = (_, _, refl)
    taking kinds.If h = (_, _, refl)
    taking kinds.While h = (_, _, refl)
    taking kinds.Do h = (_, _, refl)
    taking kinds.For h = (_, _, refl)
    taking kinds.Break h = (_, _, refl)
    taking kinds.Continue h = (_, _, refl)
    taking kinds.Return h = (_, _, refl)
    taking _ h = absurd (cc)

-- empty parts

pub chain_over : (a : Nesting) (l : ℕ) (ts : List Terminal) (below : List Part) → EndsChain l ts → run (chain l ∷ below) a ts ≡ run below a ts
chain_over a l [] below h = refl
chain_over a l (t ∷ ts) below h = rw h refl

pub call_over : (a : Nesting) (ts : List Terminal) (below : List Part) → begins_with is_open_paren ts ≡ false → run (call ∷ below) a ts ≡ run below a ts
call_over a [] below h = refl
call_over a (t ∷ ts) below h = rw (skipped t.kind h) refl
  where
    skipped : (k : Kind) → is_open_paren k ≡ false → parts.call_move k ≡ skips
    skipped kinds.OpenParen h = absurd (cc)
    skipped _ h = refl

pub initial_over : (a : Nesting) (ts : List Terminal) (below : List Part) → begins_with is_equals ts ≡ false → run (initial ∷ below) a ts ≡ run below a ts
initial_over a [] below h = refl
initial_over a (t ∷ ts) below h = rw (skipped t.kind h) refl
  where
    skipped : (k : Kind) → is_equals k ≡ false → parts.initial_move k ≡ skips
    skipped kinds.Equals h = absurd (cc)
    skipped _ h = refl

pub long_tail_over : (a : Nesting) (ts : List Terminal) (below : List Part) → begins_with is_int ts ≡ false → run (long_tail ∷ below) a ts ≡ run below a ts
long_tail_over a [] below h = refl
long_tail_over a (t ∷ ts) below h = rw (skipped t.kind h) refl
  where
    skipped : (k : Kind) → is_int k ≡ false → parts.long_tail_move k ≡ skips
    skipped kinds.Int h = absurd (cc)
    skipped _ h = refl

pub otherwise_over : (a : Nesting) (d : ℕ) (ts : List Terminal) (below : List Part) → begins_with is_else ts ≡ false → run (otherwise d ∷ below) a ts ≡ run below a ts
otherwise_over a d [] below h = refl
otherwise_over a d (t ∷ ts) below h = rw (skipped t.kind h) refl
  where
    skipped : (k : Kind) → is_else k ≡ false → parts.otherwise_move d k ≡ skips
    skipped kinds.Else h = absurd (cc)
    skipped _ h = refl

pub settle_over : (a : Nesting) (ts : List Terminal) (below : List Part) → run (settle ∷ below) a ts ≡ run below (settled a) ts
settle_over a [] below = refl
settle_over a (t ∷ ts) below = ap (unless_over a.over) (go (next below t.kind))
  where
    go : (o : Option (Effect × List Part)) → go_on (settled_next o) (λ e qs. run qs (effect e a (t ∷ ts)) ts) (length (t ∷ ts)) ≡ go_on o (λ e qs. run qs (effect e (settled a) (t ∷ ts)) ts) (length (t ∷ ts))
    go None = refl
    go (Some n) = refl
