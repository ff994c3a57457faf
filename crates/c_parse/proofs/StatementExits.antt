-- What each exit of the descent through a statement rests on.
use Rattle.std.proofs.Common.{subst, append-nil, ◌+◌, ◌≡◌, refl, sym, ap, ◌∙◌, ℕ, suc, Bool, true, false, List, [], ◌∷◌, ◌++◌, length, Option, Some, None, append_assoc}
use Rattle.gob_tree.specs.declared.place.Place.{Place}
use Rattle.c_parse.specs.declared.terminal.Terminal.{Terminal}
use Rattle.c_parse.specs.declared.terminal.Kind.{Kind}
use Rattle.c_parse.specs.declared.terminal.Kind.TheVariants as kinds
use Rattle.c_parse.specs.declared.stop.Sign.TheVariants as signs
use Rattle.c_parse.specs.declared.stop.Trouble.TheVariants.{Bad}
use Rattle.c_parse.specs.declared.raw.expr.RawExpr.{RawExpr}
use Rattle.c_parse.specs.declared.raw.stmt.RawReturn.{RawReturn}
use Rattle.c_parse.specs.declared.raw.stmt.RawStmt.{RawStmt}
use Rattle.c_parse.specs.declared.raw.stmt.RawPlaced.{RawPlaced}
use Rattle.c_parse.specs.Grammar as grammar
use Rattle.c_parse.specs.Grammar.{Nesting, counted, entered, settled, ended, within, operator, top, begins_with, is_open_paren, is_equals, is_int, is_else, EndsChain, Next, ReadsName, ReadsOperator, ReadsLevel, ReadsChain, ReadsCall, ReadsArgs, ReadsMoreArgs, ReadsWhole, ReadsCondition, ReadsInitial, ReadsLongTail, ReadsType, ReadsLocals, ReadsMoreLocals, ReadsNumbers, ReadsThreads, ReadsMoreThreads, ReadsDecl, ReadsAfterName, ReadsHandle, ReadsSimple, ReadsValue, ReadsFirst, ReadsTest, ReadsLast, ReadsDoEnd, ReadsBare, ReadsStmt, ReadsElse, ReadsItems, ReadsLiteral, ReadsGlobals, ReadsMoreGlobals, ReadsAfterHead, ReadsParam, ReadsParamName, ReadsMoreParams, ReadsParams, ReadsThreadParam, ReadsThreadVoid, ReadsThreadName, ReadsVoided, ReadsNamed, ReadsTyped, ReadsMutexName, ReadsOuter, ReadsItem, ReadsUnit}
use Rattle.c_parse.specs.Machine.{keeps, Part, stops, sign, condition, decl, simple, value, first, test, last, do_end, bare, stmt, otherwise, items, move, run}
use Rattle.c_parse.specs.Machine.{opens_decl, opens_stmt, is_close_brace, ends_items, is_worded}
use Rattle.c_parse.proofs.Opening.{run_over, opened_bare, opened_items, opened_decl_item, opened_stmt_here}
use Rattle.c_parse.specs.declared.stop.Stop.{Stop}
use Rattle.c_parse.specs.declared.stop.Stop.TheVariants.{At}
use Rattle.c_parse.specs.Machine.{Breaks, BreaksIn, BreaksEver, IsOver}
use Rattle.c_parse.proofs.Passing.{passes_condition, passes_simple, passes_decl, passes_first, passes_test, passes_last, passes_stmt}
use Rattle.std.proofs.Math.Numerals.{add-one}
use Rattle.c_parse.proofs.Descent.{next_is, here, here_ever, behind_it, opens_row, is_row, starts_not, RunsOn, runs_stop}
use Rattle.c_parse.proofs.Rows.{behind_sign, stops_flat, stops_end}
use Rattle.c_parse.specs.Descent.{BareAfter, ReadsEnded, if_row, while_row, do_row, for_row, DeclOnto}
use Rattle.c_parse.specs.declared.raw.stmt.RawStmt.TheVariants as stmts

-- one level deeper

deeper_stmt : {d : ℕ} {a b : Nesting} {ts rest : List Terminal} {p : RawPlaced} → ReadsStmt (d + 1) a ts p rest b → ReadsStmt (suc d) a ts p rest b
deeper_stmt {d = d} {a = a} {b = b} {ts = ts} {rest = rest} {p = p} r = subst (λ (m : ℕ). ReadsStmt m a ts p rest b) (add-one d) r

deeper_else : {d : ℕ} {a b : Nesting} {ts rest : List Terminal} {j : Option RawPlaced} → ReadsElse (d + 1) a ts j rest b → ReadsElse (suc d) a ts j rest b
deeper_else {d = d} {a = a} {b = b} {ts = ts} {rest = rest} {j = j} r = subst (λ (m : ℕ). ReadsElse m a ts j rest b) (add-one d) r

deeper_items : {d : ℕ} {a b : Nesting} {ts rest : List Terminal} {ps : List RawPlaced} {place : Place} → ReadsItems (d + 1) a ts ps place rest b → ReadsItems (suc d) a ts ps place rest b
deeper_items {d = d} {a = a} {b = b} {ts = ts} {rest = rest} {ps = ps} {place = place} r = subst (λ (m : ℕ). ReadsItems m a ts ps place rest b) (add-one d) r

here_stmt : {d : ℕ} {ps : List Part} {ts : List Terminal} {s : Stop} → Breaks (stmt (d + 1)) (within 0) ts s → BreaksIn (stmt (suc d) ∷ ps) (within 0) ts s
here_stmt {d = d} {ts = ts} {s = s} b = here (subst (λ (m : ℕ). Breaks (stmt m) (within 0) ts s) (add-one d) b)

here_else : {d : ℕ} {ps : List Part} {ts : List Terminal} {s : Stop} → Breaks (otherwise (d + 1)) (within 0) ts s → BreaksIn (otherwise (suc d) ∷ ps) (within 0) ts s
here_else {d = d} {ts = ts} {s = s} b = here (subst (λ (m : ℕ). Breaks (otherwise m) (within 0) ts s) (add-one d) b)

here_items : {d : ℕ} {ps : List Part} {ts : List Terminal} {s : Stop} → Breaks (items (d + 1)) (within 0) ts s → BreaksIn (items (suc d) ∷ ps) (within 0) ts s
here_items {d = d} {ts = ts} {s = s} b = here (subst (λ (m : ℕ). Breaks (items m) (within 0) ts s) (add-one d) b)

-- `if`

pub if_found : {v0 v1 v2 rest : List Terminal} {e : RawExpr} {d : ℕ} {p : RawPlaced} {j : Option RawPlaced} → ReadsCondition (within 0) v0 e v1 (within 0) → ReadsStmt (d + 1) (within 0) v1 p v2 (within 0) → ReadsElse (d + 1) (within 0) v2 j rest (within 0) → BareAfter d kinds.If v0 (stmts.If e p j) rest
if_found n0 n1 n2 = record { reads = λ front n. grammar.if_then n n0 (deeper_stmt n1) (deeper_else n2) }

pub if_0_stop : {v0 : List Terminal} {d : ℕ} {s : Stop} → Breaks condition (within 0) v0 s → BreaksIn (condition ∷ stmt (suc d) ∷ otherwise (suc d) ∷ []) (within 0) v0 s
if_0_stop b = here b

pub if_1_stop : {v0 v1 : List Terminal} {e : RawExpr} {d : ℕ} {s : Stop} → ReadsCondition (within 0) v0 e v1 (within 0) → Breaks (stmt (d + 1)) (within 0) v1 s → BreaksIn (condition ∷ stmt (suc d) ∷ otherwise (suc d) ∷ []) (within 0) v0 s
if_1_stop {v1 = v1} n0 b = behind_it {p = condition} {mid = v1} (passes_condition n0) (here_stmt b)

pub if_2_stop : {v0 v1 v2 : List Terminal} {e : RawExpr} {d : ℕ} {p : RawPlaced} {s : Stop} → ReadsCondition (within 0) v0 e v1 (within 0) → ReadsStmt (d + 1) (within 0) v1 p v2 (within 0) → Breaks (otherwise (d + 1)) (within 0) v2 s → BreaksIn (condition ∷ stmt (suc d) ∷ otherwise (suc d) ∷ []) (within 0) v0 s
if_2_stop {v1 = v1} {v2 = v2} {d = d} {p = p} n0 n1 b = behind_it {p = condition} {mid = v1} (passes_condition n0) (behind_it {p = stmt (suc d)} {mid = v2} (passes_stmt (deeper_stmt n1)) (here_else b))

pub if_stop : {d : ℕ} {ts us : List Terminal} {t : Terminal} {s : Stop} → ts ≡ t ∷ us → t.kind ≡ kinds.If → BreaksIn (if_row d) (within 0) us s → Breaks (bare d) (within 0) ts s
if_stop {d = d} q h b = opens_row (bare d) keeps (if_row d) (next_is q h) refl b

-- `while`

pub while_found : {v0 v1 rest : List Terminal} {e : RawExpr} {d : ℕ} {p : RawPlaced} → ReadsCondition (within 0) v0 e v1 (within 0) → ReadsStmt (d + 1) (within 0) v1 p rest (within 0) → BareAfter d kinds.While v0 (stmts.While e p) rest
while_found n0 n1 = record { reads = λ front n. grammar.while n n0 (deeper_stmt n1) }

pub while_0_stop : {v0 : List Terminal} {d : ℕ} {s : Stop} → Breaks condition (within 0) v0 s → BreaksIn (condition ∷ stmt (suc d) ∷ []) (within 0) v0 s
while_0_stop b = here b

pub while_1_stop : {v0 v1 : List Terminal} {e : RawExpr} {d : ℕ} {s : Stop} → ReadsCondition (within 0) v0 e v1 (within 0) → Breaks (stmt (d + 1)) (within 0) v1 s → BreaksIn (condition ∷ stmt (suc d) ∷ []) (within 0) v0 s
while_1_stop {v1 = v1} n0 b = behind_it {p = condition} {mid = v1} (passes_condition n0) (here_stmt b)

pub while_stop : {d : ℕ} {ts us : List Terminal} {t : Terminal} {s : Stop} → ts ≡ t ∷ us → t.kind ≡ kinds.While → BreaksIn (while_row d) (within 0) us s → Breaks (bare d) (within 0) ts s
while_stop {d = d} q h b = opens_row (bare d) keeps (while_row d) (next_is q h) refl b

-- `do`

pub do_found : {v0 v1 rest : List Terminal} {d : ℕ} {p : RawPlaced} {e : RawExpr} → ReadsStmt (d + 1) (within 0) v0 p v1 (within 0) → ReadsDoEnd (within 0) v1 e rest (within 0) → BareAfter d kinds.Do v0 (stmts.DoWhile p e) rest
do_found n0 n1 = record { reads = λ front n. grammar.do_while n (deeper_stmt n0) n1 }

pub do_0_stop : {v0 : List Terminal} {d : ℕ} {s : Stop} → Breaks (stmt (d + 1)) (within 0) v0 s → BreaksIn (stmt (suc d) ∷ do_end ∷ []) (within 0) v0 s
do_0_stop b = here_stmt b

pub do_1_stop : {v0 v1 : List Terminal} {d : ℕ} {p : RawPlaced} {s : Stop} → ReadsStmt (d + 1) (within 0) v0 p v1 (within 0) → Breaks do_end (within 0) v1 s → BreaksIn (stmt (suc d) ∷ do_end ∷ []) (within 0) v0 s
do_1_stop {v1 = v1} {d = d} {p = p} n0 b = behind_it {p = stmt (suc d)} {mid = v1} (passes_stmt (deeper_stmt n0)) (here b)

pub do_stop : {d : ℕ} {ts us : List Terminal} {t : Terminal} {s : Stop} → ts ≡ t ∷ us → t.kind ≡ kinds.Do → BreaksIn (do_row d) (within 0) us s → Breaks (bare d) (within 0) ts s
do_stop {d = d} q h b = opens_row (bare d) keeps (do_row d) (next_is q h) refl b

-- `for`

pub for_found : {v0 v1 v2 v3 v4 rest : List Terminal} {ps : List RawPlaced} {i : Option RawExpr} {j : Option RawPlaced} {d : ℕ} {p : RawPlaced} → Next kinds.OpenParen v0 v1 → ReadsFirst (within 0) v1 ps v2 (within 0) → ReadsTest (within 0) v2 i v3 (within 0) → ReadsLast (within 0) v3 j v4 (within 0) → ReadsStmt (d + 1) (within 0) v4 p rest (within 0) → BareAfter d kinds.For v0 (stmts.For ps i j p) rest
for_found n0 n1 n2 n3 n4 = record { reads = λ front n. grammar.for_loop n n0 n1 n2 n3 (deeper_stmt n4) }

pub for_0_stop : {v0 : List Terminal} {d : ℕ} {s : Stop} → BreaksEver (sign signs.OpenParen) v0 s → BreaksIn (sign signs.OpenParen ∷ first ∷ test ∷ last ∷ stmt (suc d) ∷ []) (within 0) v0 s
for_0_stop b = here_ever b

pub for_1_stop : {v0 v1 : List Terminal} {d : ℕ} {s : Stop} → Next kinds.OpenParen v0 v1 → Breaks first (within 0) v1 s → BreaksIn (sign signs.OpenParen ∷ first ∷ test ∷ last ∷ stmt (suc d) ∷ []) (within 0) v0 s
for_1_stop n0 b = behind_sign signs.OpenParen n0 (here b)

pub for_2_stop : {v0 v1 v2 : List Terminal} {ps : List RawPlaced} {d : ℕ} {s : Stop} → Next kinds.OpenParen v0 v1 → ReadsFirst (within 0) v1 ps v2 (within 0) → Breaks test (within 0) v2 s → BreaksIn (sign signs.OpenParen ∷ first ∷ test ∷ last ∷ stmt (suc d) ∷ []) (within 0) v0 s
for_2_stop {v2 = v2} n0 n1 b = behind_sign signs.OpenParen n0 (behind_it {p = first} {mid = v2} (passes_first n1) (here b))

pub for_3_stop : {v0 v1 v2 v3 : List Terminal} {ps : List RawPlaced} {i : Option RawExpr} {d : ℕ} {s : Stop} → Next kinds.OpenParen v0 v1 → ReadsFirst (within 0) v1 ps v2 (within 0) → ReadsTest (within 0) v2 i v3 (within 0) → Breaks last (within 0) v3 s → BreaksIn (sign signs.OpenParen ∷ first ∷ test ∷ last ∷ stmt (suc d) ∷ []) (within 0) v0 s
for_3_stop {v2 = v2} {v3 = v3} n0 n1 n2 b = behind_sign signs.OpenParen n0 (behind_it {p = first} {mid = v2} (passes_first n1) (behind_it {p = test} {mid = v3} (passes_test n2) (here b)))

pub for_4_stop : {v0 v1 v2 v3 v4 : List Terminal} {ps : List RawPlaced} {i : Option RawExpr} {j : Option RawPlaced} {d : ℕ} {s : Stop} → Next kinds.OpenParen v0 v1 → ReadsFirst (within 0) v1 ps v2 (within 0) → ReadsTest (within 0) v2 i v3 (within 0) → ReadsLast (within 0) v3 j v4 (within 0) → Breaks (stmt (d + 1)) (within 0) v4 s → BreaksIn (sign signs.OpenParen ∷ first ∷ test ∷ last ∷ stmt (suc d) ∷ []) (within 0) v0 s
for_4_stop {v2 = v2} {v3 = v3} {v4 = v4} n0 n1 n2 n3 b = behind_sign signs.OpenParen n0 (behind_it {p = first} {mid = v2} (passes_first n1) (behind_it {p = test} {mid = v3} (passes_test n2) (behind_it {p = last} {mid = v4} (passes_last n3) (here_stmt b))))

pub for_stop : {d : ℕ} {ts us : List Terminal} {t : Terminal} {s : Stop} → ts ≡ t ∷ us → t.kind ≡ kinds.For → BreaksIn (for_row d) (within 0) us s → Breaks (bare d) (within 0) ts s
for_stop {d = d} q h b = opens_row (bare d) keeps (for_row d) (next_is q h) refl b

-- a statement of a depth

pub empty_found : {d : ℕ} {ts us : List Terminal} {t : Terminal} → ts ≡ t ∷ us → t.kind ≡ kinds.Semicolon → ReadsBare d (within 0) ts stmts.Empty us (within 0)
empty_found q h = grammar.empty (next_is q h)

pub block_found : {d : ℕ} {ts us rest : List Terminal} {t : Terminal} {place : Place} {ps : List RawPlaced} → ts ≡ t ∷ us → t.kind ≡ kinds.OpenBrace → ReadsItems (d + 1) (within 0) us ps place rest (within 0) → ReadsBare d (within 0) ts (stmts.Block ps) rest (within 0)
block_found q h d = grammar.block (next_is q h) (deeper_items d)

pub block_stop : {d : ℕ} {ts us : List Terminal} {t : Terminal} {s : Stop} → ts ≡ t ∷ us → t.kind ≡ kinds.OpenBrace → Breaks (items (d + 1)) (within 0) us s → Breaks (bare d) (within 0) ts s
block_stop {d = d} q h b = opens_row (bare d) keeps (items (suc d) ∷ []) (next_is q h) refl (here_items b)

pub after_word_found : {d : ℕ} {k : Kind} {ts us rest : List Terminal} {t : Terminal} {r : RawStmt} → ts ≡ t ∷ us → t.kind ≡ k → BareAfter d k us r rest → ReadsBare d (within 0) ts r rest (within 0)
after_word_found {ts = ts} q h d = d.reads ts (next_is q h)

pub break_found : {d : ℕ} {ts us rest : List Terminal} {t : Terminal} → ts ≡ t ∷ us → t.kind ≡ kinds.Break → Next kinds.Semicolon us rest → ReadsBare d (within 0) ts stmts.Break rest (within 0)
break_found q h n = grammar.leave_loop (next_is q h) n

pub continue_found : {d : ℕ} {ts us rest : List Terminal} {t : Terminal} → ts ≡ t ∷ us → t.kind ≡ kinds.Continue → Next kinds.Semicolon us rest → ReadsBare d (within 0) ts stmts.Continue rest (within 0)
continue_found q h n = grammar.next_round (next_is q h) n

pub return_found : {d : ℕ} {ts us rest : List Terminal} {t : Terminal} {r : RawReturn} → ts ≡ t ∷ us → t.kind ≡ kinds.Return → ReadsValue (within 0) us r rest (within 0) → ReadsBare d (within 0) ts (stmts.Return r) rest (within 0)
return_found q h n = grammar.leave (next_is q h) n

pub break_stop : {ts v0 : List Terminal} {t : Terminal} {d : ℕ} {s : Stop} → ts ≡ t ∷ v0 → t.kind ≡ kinds.Break → BreaksEver (sign signs.Semicolon) v0 s → Breaks (bare d) (within 0) ts s
break_stop {d = d} q h b = opens_row (bare d) keeps (sign signs.Semicolon ∷ []) (next_is q h) refl (here_ever b)

pub continue_stop : {ts v0 : List Terminal} {t : Terminal} {d : ℕ} {s : Stop} → ts ≡ t ∷ v0 → t.kind ≡ kinds.Continue → BreaksEver (sign signs.Semicolon) v0 s → Breaks (bare d) (within 0) ts s
continue_stop {d = d} q h b = opens_row (bare d) keeps (sign signs.Semicolon ∷ []) (next_is q h) refl (here_ever b)

pub return_stop : {ts v0 : List Terminal} {t : Terminal} {d : ℕ} {s : Stop} → ts ≡ t ∷ v0 → t.kind ≡ kinds.Return → Breaks value (within 0) v0 s → Breaks (bare d) (within 0) ts s
return_stop {d = d} q h b = opens_row (bare d) keeps (value ∷ []) (next_is q h) refl (here b)

pub unworded : (k : Kind) → (k ≡ kinds.Semicolon → ⊥) → (k ≡ kinds.OpenBrace → ⊥) → (k ≡ kinds.If → ⊥) → (k ≡ kinds.While → ⊥) → (k ≡ kinds.Do → ⊥) → (k ≡ kinds.For → ⊥) → (k ≡ kinds.Break → ⊥) → (k ≡ kinds.Continue → ⊥) → (k ≡ kinds.Return → ⊥) → is_worded k ≡ false
unworded kinds.Semicolon h0 h1 h2 h3 h4 h5 h6 h7 h8 = absurd (h0 refl)
unworded kinds.OpenBrace h0 h1 h2 h3 h4 h5 h6 h7 h8 = absurd (h1 refl)
unworded kinds.If h0 h1 h2 h3 h4 h5 h6 h7 h8 = absurd (h2 refl)
unworded kinds.While h0 h1 h2 h3 h4 h5 h6 h7 h8 = absurd (h3 refl)
unworded kinds.Do h0 h1 h2 h3 h4 h5 h6 h7 h8 = absurd (h4 refl)
unworded kinds.For h0 h1 h2 h3 h4 h5 h6 h7 h8 = absurd (h5 refl)
unworded kinds.Break h0 h1 h2 h3 h4 h5 h6 h7 h8 = absurd (h6 refl)
unworded kinds.Continue h0 h1 h2 h3 h4 h5 h6 h7 h8 = absurd (h7 refl)
unworded kinds.Return h0 h1 h2 h3 h4 h5 h6 h7 h8 = absurd (h8 refl)
unworded _ h0 h1 h2 h3 h4 h5 h6 h7 h8 = refl

simple_row : {ts us : List Terminal} {t : Terminal} (d : ℕ) → ts ≡ t ∷ us → is_worded t.kind ≡ false → (below : List Part) → run (bare d ∷ below) (within 0) ts ≡ run (simple ∷ sign signs.Semicolon ∷ below) (within 0) ts
simple_row {ts = ts} d q h below = opened_bare (within 0) d ts below (ap (begins_with is_worded) q ∙ h)

pub ended_found : {ts mid rest : List Terminal} {r : RawStmt} → ReadsSimple (within 0) ts r mid (within 0) → Next kinds.Semicolon mid rest → ReadsEnded ts r rest
ended_found {mid = mid} d n = record { mid = mid; reads = d; next = n }

pub ended_0_stop : {ts : List Terminal} {s : Stop} → Breaks simple (within 0) ts s → BreaksIn (simple ∷ sign signs.Semicolon ∷ []) (within 0) ts s
ended_0_stop b = here b

pub ended_1_stop : {ts mid : List Terminal} {r : RawStmt} {s : Stop} → ReadsSimple (within 0) ts r mid (within 0) → BreaksEver (sign signs.Semicolon) mid s → BreaksIn (simple ∷ sign signs.Semicolon ∷ []) (within 0) ts s
ended_1_stop {mid = mid} d b = behind_it {p = simple} {mid = mid} (passes_simple d) (here_ever b)

pub simple_found : {d : ℕ} {ts rest : List Terminal} {r : RawStmt} → ReadsEnded ts r rest → ReadsBare d (within 0) ts r rest (within 0)
simple_found d = grammar.simple d.reads d.next

pub simple_stop : {d : ℕ} {ts us : List Terminal} {t : Terminal} {s : Stop} → ts ≡ t ∷ us → is_worded t.kind ≡ false → BreaksIn (simple ∷ sign signs.Semicolon ∷ []) (within 0) ts s → Breaks (bare d) (within 0) ts s
simple_stop {d = d} q h b = is_row {ps = simple ∷ sign signs.Semicolon ∷ []} (simple_row d q h) b

-- the same with its place

stmt_stops : (d : ℕ) (k : Kind) → opens_stmt k ≡ false → move (stmt d) k ≡ stops
stmt_stops d (kinds.Name x) h = absurd (cc)
stmt_stops d (kinds.Step op) h = absurd (cc)
stmt_stops d kinds.Assert h = absurd (cc)
stmt_stops d kinds.Create h = absurd (cc)
stmt_stops d kinds.Join h = absurd (cc)
stmt_stops d kinds.Lock h = absurd (cc)
stmt_stops d kinds.Unlock h = absurd (cc)
stmt_stops d kinds.Semicolon h = absurd (cc)
stmt_stops d kinds.OpenBrace h = absurd (cc)
stmt_stops d kinds.If h = absurd (cc)
stmt_stops d kinds.While h = absurd (cc)
stmt_stops d kinds.Do h = absurd (cc)
stmt_stops d kinds.For h = absurd (cc)
stmt_stops d kinds.Break h = absurd (cc)
stmt_stops d kinds.Continue h = absurd (cc)
stmt_stops d kinds.Return h = absurd (cc)
stmt_stops d _ h = refl

pub stmt_mark : {d : ℕ} {ts us : List Terminal} {t : Terminal} {b : Bool} → ts ≡ t ∷ us → b ≡ opens_stmt t.kind → b ≡ false → Breaks (stmt d) (within 0) ts (At Bad (length ts))
stmt_mark {d = d} {t = t} q r h = stops_flat q (stmt_stops d t.kind (sym r ∙ h))

pub stmt_found : {d : ℕ} {ts us rest : List Terminal} {t : Terminal} {r : RawStmt} → ts ≡ t ∷ us → entered d (within 0) ts ≡ within 0 → ReadsBare d (within 0) ts r rest (within 0) → ReadsStmt d (within 0) ts (record { place = t.place; stmt = r }) rest (within 0)
stmt_found {d = d} {ts = ts} {rest = rest} {r = r} q e n = subst (λ (place : Place). ReadsStmt d (within 0) ts (record { place = place; stmt = r }) rest (within 0)) (ap grammar.place_at q) (grammar.stmt (subst (λ (a : Nesting). ReadsBare d a ts r rest (within 0)) (sym e) n))

bare_row : {ts us : List Terminal} {t : Terminal} (d : ℕ) → ts ≡ t ∷ us → opens_stmt t.kind ≡ true → (below : List Part) → run (stmt d ∷ below) (within 0) ts ≡ run (bare d ∷ below) (entered d (within 0) ts) ts
bare_row {ts = ts} d q h below = opened_stmt_here d (within 0) ts below (ap (begins_with opens_stmt) q ∙ h)

pub stmt_stop : {d : ℕ} {ts us : List Terminal} {t : Terminal} {b : Bool} {s : Stop} → ts ≡ t ∷ us → b ≡ opens_stmt t.kind → b ≡ true → entered d (within 0) ts ≡ within 0 → Breaks (bare d) (within 0) ts s → Breaks (stmt d) (within 0) ts s
stmt_stop {d = d} {ts = ts} {s = s} q r h e k = is_row {ps = bare d ∷ []} (bare_row d q (sym r ∙ h)) (here (subst (λ (a : Nesting). Breaks (bare d) a ts s) (sym e) k))

over_there : (ps : List Part) {p : Part} {a : Nesting} {ts : List Terminal} {s : Stop} → ((below : List Part) → run (p ∷ below) (within 0) ts ≡ run (ps ++ below) a ts) → IsOver a s → Breaks p (within 0) ts s
over_there ps {p = p} {a = a} {ts = ts} h o = subst (Breaks p (within 0) ts) (sym o.is) (record { breaks = λ below. h below ∙ run_over (ps ++ below) a ts o.left o.over })

pub stmt_deep : {d : ℕ} {ts us : List Terminal} {t : Terminal} {b : Bool} {s : Stop} → ts ≡ t ∷ us → b ≡ opens_stmt t.kind → b ≡ true → IsOver (entered d (within 0) ts) s → Breaks (stmt d) (within 0) ts s
stmt_deep {d = d} q r h o = over_there (bare d ∷ []) (bare_row d q (sym r ∙ h)) o

-- what follows a branch

pub else_found : {d : ℕ} {ts us rest : List Terminal} {t : Terminal} {p : RawPlaced} → ts ≡ t ∷ us → t.kind ≡ kinds.Else → ReadsStmt d (within 0) us p rest (within 0) → ReadsElse d (within 0) ts (Some p) rest (within 0)
else_found q h n = grammar.otherwise (next_is q h) n

pub else_stop : {d : ℕ} {ts us : List Terminal} {t : Terminal} {s : Stop} → ts ≡ t ∷ us → t.kind ≡ kinds.Else → Breaks (stmt d) (within 0) us s → Breaks (otherwise d) (within 0) ts s
else_stop {d = d} q h b = opens_row (otherwise d) keeps (stmt d ∷ []) (next_is q h) refl (here b)

not_else : (k : Kind) → (k ≡ kinds.Else → ⊥) → is_else k ≡ false
not_else kinds.Else h = absurd (h refl)
not_else _ h = refl

pub no_else_found : {d : ℕ} {ts us : List Terminal} {t : Terminal} → ts ≡ t ∷ us → (t.kind ≡ kinds.Else → ⊥) → ReadsElse d (within 0) ts None ts (within 0)
no_else_found {t = t} q h = grammar.no_else (ap (begins_with is_else) q ∙ not_else t.kind h)

pub no_else_at_end : {d : ℕ} {ts : List Terminal} → length ts ≡ 0 → ReadsElse d (within 0) ts None ts (within 0)
no_else_at_end {ts = ts} h = grammar.no_else (starts_not ts is_else h)

-- the items of a block

abbrev pub ItemsGoOn : ℕ → List Terminal → List RawPlaced → List Terminal → Type 0
ItemsGoOn d ts list us = (some : List RawPlaced) (place : Place) (left : List Terminal) → ReadsItems d (within 0) us some place left (within 0) → ReadsItems d (within 0) ts (list ++ some) place left (within 0)

brace_kind : (k : Kind) → is_close_brace k ≡ true → k ≡ kinds.CloseBrace
brace_kind kinds.CloseBrace h = refl
brace_kind _ h = absurd (cc)

pub items_closed : {d : ℕ} {list : List RawPlaced} {ts us rest : List Terminal} {t : Terminal} → ItemsGoOn d ts list us → us ≡ t ∷ rest → is_close_brace t.kind ≡ true → ReadsItems d (within 0) ts list t.place rest (within 0)
items_closed {d = d} {list = list} {ts = ts} {us = us} {rest = rest} {t = t} reads q h = subst (λ (place : Place). ReadsItems d (within 0) ts list place rest (within 0)) (ap grammar.place_at q) (subst (λ (l : List RawPlaced). ReadsItems d (within 0) ts l (grammar.place_at us) rest (within 0)) (append-nil list) (reads [] (grammar.place_at us) rest (grammar.close (next_is q (brace_kind t.kind h)))))

decl_row : {us vs : List Terminal} {t : Terminal} (d : ℕ) → us ≡ t ∷ vs → opens_decl t.kind ≡ true → (below : List Part) → run (items d ∷ below) (within 0) us ≡ run (decl ∷ items d ∷ below) (entered d (within 0) us) us
decl_row {us = us} d q h below = opened_decl_item d (within 0) us below (ap (begins_with opens_decl) q ∙ h)

pub items_decl_deep : {d : ℕ} {ts us vs : List Terminal} {t : Terminal} {s : Stop} → RunsOn (items d) (within 0) ts (within 0) us → us ≡ t ∷ vs → opens_decl t.kind ≡ true → IsOver (entered d (within 0) us) s → Breaks (items d) (within 0) ts s
items_decl_deep {d = d} runs q h o = runs_stop runs (over_there (decl ∷ items d ∷ []) (decl_row d q h) o)

pub items_decl_stop : {d : ℕ} {ts us vs : List Terminal} {t : Terminal} {s : Stop} → RunsOn (items d) (within 0) ts (within 0) us → us ≡ t ∷ vs → opens_decl t.kind ≡ true → entered d (within 0) us ≡ within 0 → Breaks decl (within 0) us s → Breaks (items d) (within 0) ts s
items_decl_stop {d = d} {us = us} {s = s} runs q h e b = runs_stop runs (is_row {ps = decl ∷ items d ∷ []} (decl_row d q h) (here (subst (λ (a : Nesting). Breaks decl a us s) (sym e) b)))

pub items_decl_run : {d : ℕ} {us vs mid : List Terminal} {t : Terminal} {front all : List RawPlaced} → us ≡ t ∷ vs → opens_decl t.kind ≡ true → entered d (within 0) us ≡ within 0 → DeclOnto front us all mid → RunsOn (items d) (within 0) us (within 0) mid
items_decl_run {d = d} {us = us} {mid = mid} q h e o = record { runs = λ below. decl_row d q h below ∙ ap (λ (a : Nesting). run (decl ∷ items d ∷ below) a us) e ∙ passes_decl o.reads (items d ∷ below) }

pub items_decl_again : {d : ℕ} (list all : List RawPlaced) {ts us mid : List Terminal} → ItemsGoOn d ts list us → entered d (within 0) us ≡ within 0 → DeclOnto list us all mid → ItemsGoOn d ts all mid
items_decl_again {d = d} list all {ts = ts} {us = us} {mid = mid} reads e o some place left m = subst (λ (l : List RawPlaced). ReadsItems d (within 0) ts l place left (within 0)) (sym (append_assoc list o.some some) ∙ ap (λ (l : List RawPlaced). l ++ some) (sym o.is)) (reads (o.some ++ some) place left (grammar.one_decl (subst (λ (a : Nesting). ReadsDecl a us o.some mid (within 0)) (sym e) o.reads) m))

no_item_end : (k : Kind) → is_close_brace k ≡ false → opens_decl k ≡ false → ends_items k ≡ false
no_item_end kinds.CloseBrace h i = absurd (cc)
no_item_end kinds.Int h i = absurd (cc)
no_item_end kinds.Long h i = absurd (cc)
no_item_end kinds.Thread h i = absurd (cc)
no_item_end _ h i = refl

stmt_row : {us vs : List Terminal} {t : Terminal} (d : ℕ) → us ≡ t ∷ vs → is_close_brace t.kind ≡ false → opens_decl t.kind ≡ false → (below : List Part) → run (items d ∷ below) (within 0) us ≡ run (stmt d ∷ items d ∷ below) (within 0) us
stmt_row {us = us} {t = t} d q h i below = opened_items (within 0) d us below (ap (begins_with ends_items) q ∙ no_item_end t.kind h i)

pub items_stmt_stop : {d : ℕ} {ts us vs : List Terminal} {t : Terminal} {s : Stop} → RunsOn (items d) (within 0) ts (within 0) us → us ≡ t ∷ vs → is_close_brace t.kind ≡ false → opens_decl t.kind ≡ false → Breaks (stmt d) (within 0) us s → Breaks (items d) (within 0) ts s
items_stmt_stop {d = d} runs q h i b = runs_stop runs (is_row {ps = stmt d ∷ items d ∷ []} (stmt_row d q h i) (here b))

pub items_stmt_run : {d : ℕ} {us vs mid : List Terminal} {t : Terminal} {p : RawPlaced} → us ≡ t ∷ vs → is_close_brace t.kind ≡ false → opens_decl t.kind ≡ false → ReadsStmt d (within 0) us p mid (within 0) → RunsOn (items d) (within 0) us (within 0) mid
items_stmt_run {d = d} q h i n = record { runs = λ below. stmt_row d q h i below ∙ passes_stmt n (items d ∷ below) }

pub items_stmt_again : {d : ℕ} (list now : List RawPlaced) {ts us mid : List Terminal} {p : RawPlaced} → ItemsGoOn d ts list us → now ≡ list ++ p ∷ [] → ReadsStmt d (within 0) us p mid (within 0) → ItemsGoOn d ts now mid
items_stmt_again {d = d} list now {ts = ts} {p = p} reads e n some place left m = subst (λ (l : List RawPlaced). ReadsItems d (within 0) ts l place left (within 0)) (sym (append_assoc list (p ∷ []) some) ∙ ap (λ (l : List RawPlaced). l ++ some) (sym e)) (reads (p ∷ some) place left (grammar.one_stmt n m))

pub items_end : {d : ℕ} {ts : List Terminal} (us : List Terminal) → RunsOn (items d) (within 0) ts (within 0) us → length us ≡ 0 → Breaks (items d) (within 0) ts (At Bad 0)
items_end us runs h = runs_stop runs (stops_end h refl)
