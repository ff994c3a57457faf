-- What each exit of the descent through a part of a statement rests on.
use Rattle.std.proofs.Common.{subst, ◌≡◌, refl, sym, ap, ◌∙◌, false, List, [], ◌∷◌, ◌++◌, Some, None}
use Rattle.gob_tree.specs.declared.place.Place.{Place}
use Rattle.c_parse.specs.declared.terminal.Terminal.{Terminal}
use Rattle.c_parse.specs.declared.terminal.Kind.{Kind}
use Rattle.c_parse.specs.declared.terminal.Kind.TheVariants as kinds
use Rattle.c_parse.specs.declared.stop.Sign.TheVariants as signs
use Rattle.c_parse.specs.declared.raw.expr.RawExpr.{RawExpr}
use Rattle.c_parse.specs.declared.raw.stmt.RawStmt.{RawStmt}
use Rattle.c_parse.specs.declared.raw.stmt.RawPlaced.{RawPlaced}
use Rattle.c_parse.specs.Grammar as grammar
use Rattle.c_parse.specs.Grammar.{Nesting, counted, entered, settled, ended, within, operator, top, begins_with, is_open_paren, is_equals, is_int, is_else, EndsChain, Next, ReadsName, ReadsOperator, ReadsLevel, ReadsChain, ReadsCall, ReadsArgs, ReadsMoreArgs, ReadsWhole, ReadsCondition, ReadsInitial, ReadsLongTail, ReadsType, ReadsLocals, ReadsMoreLocals, ReadsNumbers, ReadsThreads, ReadsMoreThreads, ReadsDecl, ReadsAfterName, ReadsHandle, ReadsSimple, ReadsValue, ReadsFirst, ReadsTest, ReadsLast, ReadsDoEnd, ReadsBare, ReadsStmt, ReadsElse, ReadsItems, ReadsLiteral, ReadsGlobals, ReadsMoreGlobals, ReadsAfterHead, ReadsParam, ReadsParamName, ReadsMoreParams, ReadsParams, ReadsThreadParam, ReadsThreadVoid, ReadsThreadName, ReadsVoided, ReadsNamed, ReadsTyped, ReadsMutexName, ReadsOuter, ReadsItem, ReadsUnit}
use Rattle.c_parse.specs.Machine.{keeps, Part, sign, whole, condition, numbers, simple, value, first, test, last, do_end, move, run, is_sign}
use Rattle.c_parse.specs.Machine.{opens_type, is_close_paren, is_semicolon, ends_value, ends_first}
use Rattle.c_parse.proofs.Opening.{opened_value, opened_test, opened_last, opened_first, opened_number_first}
use Rattle.c_parse.specs.declared.stop.Stop.{Stop}
use Rattle.c_parse.specs.Machine.{Breaks, BreaksEver}
use Rattle.c_parse.proofs.Passing.{passes_whole, passes_condition, passes_simple}
use Rattle.c_parse.proofs.Descent.{next_is, here, here_ever, behind_it, opens_row, is_row}
use Rattle.c_parse.proofs.Rows.{by_row, signed_row, behind_sign}
use Rattle.c_parse.specs.Descent.{NumbersOnto}
use Rattle.c_parse.specs.declared.raw.stmt.RawReturn.TheVariants.{Plain, Null}

-- what follows `return`

pub plain_found : {ts us : List Terminal} {t : Terminal} → ts ≡ t ∷ us → t.kind ≡ kinds.Semicolon → ReadsValue (within 0) ts Plain us (within 0)
plain_found q h = grammar.plain (next_is q h)

pub null_found : {ts us rest : List Terminal} {t : Terminal} → ts ≡ t ∷ us → t.kind ≡ kinds.Null → Next kinds.Semicolon us rest → ReadsValue (within 0) ts Null rest (within 0)
null_found q h n = grammar.null (next_is q h) n

pub null_stop : {ts v0 : List Terminal} {t : Terminal} {s : Stop} → ts ≡ t ∷ v0 → t.kind ≡ kinds.Null → BreaksEver (sign signs.Semicolon) v0 s → Breaks value (within 0) ts s
null_stop q h b = opens_row value keeps (sign signs.Semicolon ∷ []) (next_is q h) refl (here_ever b)

not_value : (k : Kind) → (k ≡ kinds.Semicolon → ⊥) → (k ≡ kinds.Null → ⊥) → ends_value k ≡ false
not_value kinds.Semicolon h0 h1 = absurd (h0 refl)
not_value kinds.Null h0 h1 = absurd (h1 refl)
not_value _ h0 h1 = refl

pub value_whole_stop : {ts us : List Terminal} {t : Terminal} {s : Stop} → ts ≡ t ∷ us → (t.kind ≡ kinds.Semicolon → ⊥) → (t.kind ≡ kinds.Null → ⊥) → Breaks whole (within 0) ts s → Breaks value (within 0) ts s
value_whole_stop {ts = ts} {t = t} q h0 h1 b = is_row {ps = whole ∷ sign signs.Semicolon ∷ []} (λ below. opened_value (within 0) ts below (ap (begins_with ends_value) q ∙ not_value t.kind h0 h1)) (here b)

pub value_end_stop : {ts us mid : List Terminal} {t : Terminal} {e : RawExpr} {s : Stop} → ts ≡ t ∷ us → (t.kind ≡ kinds.Semicolon → ⊥) → (t.kind ≡ kinds.Null → ⊥) → ReadsWhole (within 0) ts e mid (within 0) → BreaksEver (sign signs.Semicolon) mid s → Breaks value (within 0) ts s
value_end_stop {ts = ts} {mid = mid} {t = t} q h0 h1 d b = is_row {ps = whole ∷ sign signs.Semicolon ∷ []} (λ below. opened_value (within 0) ts below (ap (begins_with ends_value) q ∙ not_value t.kind h0 h1)) (behind_it {p = whole} {mid = mid} (passes_whole d) (here_ever b))

-- the first part of a `for`

pub no_first_found : {ts us : List Terminal} {t : Terminal} {none : List RawPlaced} → ts ≡ t ∷ us → t.kind ≡ kinds.Semicolon → none ≡ [] → ReadsFirst (within 0) ts none us (within 0)
no_first_found q h e = rw e (grammar.no_first (next_is q h))

pub number_first_found : {ts rest : List Terminal} {none all : List RawPlaced} → none ≡ [] → NumbersOnto none ts all rest → ReadsFirst (within 0) ts all rest (within 0)
number_first_found e o = rw (o.is ∙ ap (λ (l : List RawPlaced). l ++ o.some) e) (grammar.number_first o.reads)

pub int_first_stop : {ts us : List Terminal} {t : Terminal} {s : Stop} → ts ≡ t ∷ us → t.kind ≡ kinds.Int → Breaks numbers (within 0) ts s → Breaks first (within 0) ts s
int_first_stop {ts = ts} q h b = is_row {ps = numbers ∷ []} (λ below. opened_number_first (within 0) ts below (ap (begins_with opens_type) q ∙ ap opens_type h)) (here b)

pub long_first_stop : {ts us : List Terminal} {t : Terminal} {s : Stop} → ts ≡ t ∷ us → t.kind ≡ kinds.Long → Breaks numbers (within 0) ts s → Breaks first (within 0) ts s
long_first_stop {ts = ts} q h b = is_row {ps = numbers ∷ []} (λ below. opened_number_first (within 0) ts below (ap (begins_with opens_type) q ∙ ap opens_type h)) (here b)

pub simple_first_found : {ts us mid rest : List Terminal} {t : Terminal} {r : RawStmt} {none all : List RawPlaced} → ts ≡ t ∷ us → ReadsSimple (within 0) ts r mid (within 0) → Next kinds.Semicolon mid rest → none ≡ [] → all ≡ none ++ record { place = t.place; stmt = r } ∷ [] → ReadsFirst (within 0) ts all rest (within 0)
simple_first_found {ts = ts} {rest = rest} {t = t} {r = r} q d n e i = subst (λ (l : List RawPlaced). ReadsFirst (within 0) ts l rest (within 0)) (ap (λ (here : Place). record { place = here; stmt = r } ∷ []) (ap grammar.place_at q) ∙ sym (i ∙ ap (λ (l : List RawPlaced). l ++ record { place = t.place; stmt = r } ∷ []) e)) (grammar.simple_first d n)

not_first : (k : Kind) → (k ≡ kinds.Semicolon → ⊥) → (k ≡ kinds.Int → ⊥) → (k ≡ kinds.Long → ⊥) → ends_first k ≡ false
not_first kinds.Semicolon h0 h1 h2 = absurd (h0 refl)
not_first kinds.Int h0 h1 h2 = absurd (h1 refl)
not_first kinds.Long h0 h1 h2 = absurd (h2 refl)
not_first _ h0 h1 h2 = refl

pub first_simple_stop : {ts us : List Terminal} {t : Terminal} {s : Stop} → ts ≡ t ∷ us → (t.kind ≡ kinds.Semicolon → ⊥) → (t.kind ≡ kinds.Int → ⊥) → (t.kind ≡ kinds.Long → ⊥) → Breaks simple (within 0) ts s → Breaks first (within 0) ts s
first_simple_stop {ts = ts} {t = t} q h0 h1 h2 b = is_row {ps = simple ∷ sign signs.Semicolon ∷ []} (λ below. opened_first (within 0) ts below (ap (begins_with ends_first) q ∙ not_first t.kind h0 h1 h2)) (here b)

pub first_end_stop : {ts us mid : List Terminal} {t : Terminal} {r : RawStmt} {s : Stop} → ts ≡ t ∷ us → (t.kind ≡ kinds.Semicolon → ⊥) → (t.kind ≡ kinds.Int → ⊥) → (t.kind ≡ kinds.Long → ⊥) → ReadsSimple (within 0) ts r mid (within 0) → BreaksEver (sign signs.Semicolon) mid s → Breaks first (within 0) ts s
first_end_stop {ts = ts} {mid = mid} {t = t} q h0 h1 h2 d b = is_row {ps = simple ∷ sign signs.Semicolon ∷ []} (λ below. opened_first (within 0) ts below (ap (begins_with ends_first) q ∙ not_first t.kind h0 h1 h2)) (behind_it {p = simple} {mid = mid} (passes_simple d) (here_ever b))

-- the condition of a `for`

pub no_test_found : {ts us : List Terminal} {t : Terminal} → ts ≡ t ∷ us → t.kind ≡ kinds.Semicolon → ReadsTest (within 0) ts None us (within 0)
no_test_found q h = grammar.no_test (next_is q h)

pub test_found : {ts us rest : List Terminal} {b : Nesting} {e : RawExpr} → ReadsWhole (within 0) ts e us b → Next kinds.Semicolon us rest → ReadsTest (within 0) ts (Some e) rest b
test_found d n = grammar.test d n

not_test : (k : Kind) → (k ≡ kinds.Semicolon → ⊥) → is_semicolon k ≡ false
not_test kinds.Semicolon h0 = absurd (h0 refl)
not_test _ h0 = refl

pub test_whole_stop : {ts us : List Terminal} {t : Terminal} {s : Stop} → ts ≡ t ∷ us → (t.kind ≡ kinds.Semicolon → ⊥) → Breaks whole (within 0) ts s → Breaks test (within 0) ts s
test_whole_stop {ts = ts} {t = t} q h0 b = is_row {ps = whole ∷ sign signs.Semicolon ∷ []} (λ below. opened_test (within 0) ts below (ap (begins_with is_semicolon) q ∙ not_test t.kind h0)) (here b)

pub test_end_stop : {ts us mid : List Terminal} {t : Terminal} {e : RawExpr} {s : Stop} → ts ≡ t ∷ us → (t.kind ≡ kinds.Semicolon → ⊥) → ReadsWhole (within 0) ts e mid (within 0) → BreaksEver (sign signs.Semicolon) mid s → Breaks test (within 0) ts s
test_end_stop {ts = ts} {mid = mid} {t = t} q h0 d b = is_row {ps = whole ∷ sign signs.Semicolon ∷ []} (λ below. opened_test (within 0) ts below (ap (begins_with is_semicolon) q ∙ not_test t.kind h0)) (behind_it {p = whole} {mid = mid} (passes_whole d) (here_ever b))

-- the last part of a `for`

pub no_last_found : {ts us : List Terminal} {t : Terminal} → ts ≡ t ∷ us → t.kind ≡ kinds.CloseParen → ReadsLast (within 0) ts None us (within 0)
no_last_found q h = grammar.no_last (next_is q h)

pub last_found : {ts us mid rest : List Terminal} {t : Terminal} {r : RawStmt} {p : RawPlaced} → ts ≡ t ∷ us → ReadsSimple (within 0) ts r mid (within 0) → Next kinds.CloseParen mid rest → p ≡ record { place = t.place; stmt = r } → ReadsLast (within 0) ts (Some p) rest (within 0)
last_found {ts = ts} {rest = rest} {r = r} q d n e = subst (λ (p : RawPlaced). ReadsLast (within 0) ts (Some p) rest (within 0)) (ap (λ (here : Place). record { place = here; stmt = r }) (ap grammar.place_at q) ∙ sym e) (grammar.last d n)

not_last : (k : Kind) → (k ≡ kinds.CloseParen → ⊥) → is_close_paren k ≡ false
not_last kinds.CloseParen h0 = absurd (h0 refl)
not_last _ h0 = refl

pub last_simple_stop : {ts us : List Terminal} {t : Terminal} {s : Stop} → ts ≡ t ∷ us → (t.kind ≡ kinds.CloseParen → ⊥) → Breaks simple (within 0) ts s → Breaks last (within 0) ts s
last_simple_stop {ts = ts} {t = t} q h0 b = is_row {ps = simple ∷ sign signs.CloseParen ∷ []} (λ below. opened_last (within 0) ts below (ap (begins_with is_close_paren) q ∙ not_last t.kind h0)) (here b)

pub last_end_stop : {ts us mid : List Terminal} {t : Terminal} {r : RawStmt} {s : Stop} → ts ≡ t ∷ us → (t.kind ≡ kinds.CloseParen → ⊥) → ReadsSimple (within 0) ts r mid (within 0) → BreaksEver (sign signs.CloseParen) mid s → Breaks last (within 0) ts s
last_end_stop {ts = ts} {mid = mid} {t = t} q h0 d b = is_row {ps = simple ∷ sign signs.CloseParen ∷ []} (λ below. opened_last (within 0) ts below (ap (begins_with is_close_paren) q ∙ not_last t.kind h0)) (behind_it {p = simple} {mid = mid} (passes_simple d) (here_ever b))

-- what follows the body of a `do`

do_end_by : (k : Kind) → move do_end k ≡ by_row (is_sign signs.While k) (condition ∷ sign signs.Semicolon ∷ [])
do_end_by kinds.While = refl
do_end_by _ = refl

do_end_row : (ts : List Terminal) (below : List Part) → run (do_end ∷ below) (within 0) ts ≡ run (sign signs.While ∷ condition ∷ sign signs.Semicolon ∷ below) (within 0) ts
do_end_row ts below = signed_row do_end signs.While (condition ∷ sign signs.Semicolon ∷ []) refl do_end_by ts below

pub do_end_0_stop : {v0 : List Terminal} {s : Stop} → BreaksEver (sign signs.While) v0 s → Breaks do_end (within 0) v0 s
do_end_0_stop {v0 = v0} b = is_row {ps = sign signs.While ∷ condition ∷ sign signs.Semicolon ∷ []} (do_end_row v0) (here_ever b)

pub do_end_1_stop : {v0 v1 : List Terminal} {s : Stop} → Next kinds.While v0 v1 → Breaks condition (within 0) v1 s → Breaks do_end (within 0) v0 s
do_end_1_stop {v0 = v0} n0 b = is_row {ps = sign signs.While ∷ condition ∷ sign signs.Semicolon ∷ []} (do_end_row v0) (behind_sign signs.While n0 (here b))

pub do_end_2_stop : {v0 v1 v2 : List Terminal} {e : RawExpr} {s : Stop} → Next kinds.While v0 v1 → ReadsCondition (within 0) v1 e v2 (within 0) → BreaksEver (sign signs.Semicolon) v2 s → Breaks do_end (within 0) v0 s
do_end_2_stop {v0 = v0} {v2 = v2} n0 n1 b = is_row {ps = sign signs.While ∷ condition ∷ sign signs.Semicolon ∷ []} (do_end_row v0) (behind_sign signs.While n0 (behind_it {p = condition} {mid = v2} (passes_condition n1) (here_ever b)))
