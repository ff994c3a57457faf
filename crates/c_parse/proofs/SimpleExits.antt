-- What each exit of the descent through a simple statement rests on.
use Rattle.std.proofs.Common.{subst, ◌≡◌, refl, ℕ, true, List, [], ◌∷◌}
use Rattle.gob_tree.specs.declared.expr.BinOp.{BinOp}
use Rattle.c_parse.specs.declared.terminal.Terminal.{Terminal}
use Rattle.c_parse.specs.declared.terminal.Kind.{Kind}
use Rattle.c_parse.specs.declared.terminal.Kind.TheVariants as kinds
use Rattle.c_parse.specs.declared.stop.Sign.TheVariants as signs
use Rattle.c_parse.specs.declared.raw.expr.RawName.{RawName}
use Rattle.c_parse.specs.declared.raw.expr.RawExpr.{RawExpr}
use Rattle.c_parse.specs.declared.raw.stmt.RawStmt.{RawStmt}
use Rattle.c_parse.specs.Grammar as grammar
use Rattle.c_parse.specs.Grammar.{Nesting, counted, entered, settled, ended, within, operator, top, begins_with, is_open_paren, is_equals, is_int, is_else, EndsChain, Next, ReadsName, ReadsOperator, ReadsLevel, ReadsChain, ReadsCall, ReadsArgs, ReadsMoreArgs, ReadsWhole, ReadsCondition, ReadsInitial, ReadsLongTail, ReadsType, ReadsLocals, ReadsMoreLocals, ReadsNumbers, ReadsThreads, ReadsMoreThreads, ReadsDecl, ReadsAfterName, ReadsHandle, ReadsSimple, ReadsValue, ReadsFirst, ReadsTest, ReadsLast, ReadsDoEnd, ReadsBare, ReadsStmt, ReadsElse, ReadsItems, ReadsLiteral, ReadsGlobals, ReadsMoreGlobals, ReadsAfterHead, ReadsParam, ReadsParamName, ReadsMoreParams, ReadsParams, ReadsThreadParam, ReadsThreadVoid, ReadsThreadName, ReadsVoided, ReadsNamed, ReadsTyped, ReadsMutexName, ReadsOuter, ReadsItem, ReadsUnit}
use Rattle.c_parse.specs.Machine.{keeps, Part, sign, ident, settle, level, args, whole, condition, after_name, handle, simple, move, run, is_sign}
use Rattle.c_parse.proofs.Opening.{opened_whole}
use Rattle.c_parse.specs.declared.stop.Stop.{Stop}
use Rattle.c_parse.specs.declared.raw.expr.RawExpr.TheVariants as exprs
use Rattle.c_parse.specs.Machine.{Breaks, BreaksIn, BreaksEver}
use Rattle.c_parse.proofs.Passing.{passes_whole}
use Rattle.c_parse.proofs.Descent.{next_is, name_is, here, here_ever, behind_it, opens_row, is_row}
use Rattle.c_parse.proofs.Rows.{by_row, signed_row, behind_sign, behind_ident}
use Rattle.c_parse.specs.Descent.{SimpleAfter, create_row, join_row}
use Rattle.c_parse.specs.declared.raw.stmt.RawStmt.TheVariants as stmts

-- whole expressions and conditions

pub whole_found : {n : ℕ} {ts rest : List Terminal} {e : RawExpr} → ReadsLevel 6 (within 0) ts e rest (within n) → ReadsWhole (within 0) ts e rest (within 0)
whole_found d = grammar.whole d

pub whole_stop : {ts : List Terminal} {s : Stop} → Breaks (level 6) (within 0) ts s → Breaks whole (within 0) ts s
whole_stop {ts = ts} b = is_row {ps = level 6 ∷ settle ∷ []} (λ below. opened_whole (within 0) ts below) (here b)

condition_by : (k : Kind) → move condition k ≡ by_row (is_sign signs.OpenParen k) (whole ∷ sign signs.CloseParen ∷ [])
condition_by kinds.OpenParen = refl
condition_by _ = refl

condition_row : (ts : List Terminal) (below : List Part) → run (condition ∷ below) (within 0) ts ≡ run (sign signs.OpenParen ∷ whole ∷ sign signs.CloseParen ∷ below) (within 0) ts
condition_row ts below = signed_row condition signs.OpenParen (whole ∷ sign signs.CloseParen ∷ []) refl condition_by ts below

pub condition_0_stop : {v0 : List Terminal} {s : Stop} → BreaksEver (sign signs.OpenParen) v0 s → Breaks condition (within 0) v0 s
condition_0_stop {v0 = v0} b = is_row {ps = sign signs.OpenParen ∷ whole ∷ sign signs.CloseParen ∷ []} (condition_row v0) (here_ever b)

pub condition_1_stop : {v0 v1 : List Terminal} {s : Stop} → Next kinds.OpenParen v0 v1 → Breaks whole (within 0) v1 s → Breaks condition (within 0) v0 s
condition_1_stop {v0 = v0} n0 b = is_row {ps = sign signs.OpenParen ∷ whole ∷ sign signs.CloseParen ∷ []} (condition_row v0) (behind_sign signs.OpenParen n0 (here b))

pub condition_2_stop : {v0 v1 v2 : List Terminal} {e : RawExpr} {s : Stop} → Next kinds.OpenParen v0 v1 → ReadsWhole (within 0) v1 e v2 (within 0) → BreaksEver (sign signs.CloseParen) v2 s → Breaks condition (within 0) v0 s
condition_2_stop {v0 = v0} {v2 = v2} n0 n1 b = is_row {ps = sign signs.OpenParen ∷ whole ∷ sign signs.CloseParen ∷ []} (condition_row v0) (behind_sign signs.OpenParen n0 (behind_it {p = whole} {mid = v2} (passes_whole n1) (here_ever b)))

handle_by : (k : Kind) → move handle k ≡ by_row (is_sign signs.OpenParen k) (sign signs.Ampersand ∷ ident ∷ sign signs.CloseParen ∷ [])
handle_by kinds.OpenParen = refl
handle_by _ = refl

handle_row : (ts : List Terminal) (below : List Part) → run (handle ∷ below) (within 0) ts ≡ run (sign signs.OpenParen ∷ sign signs.Ampersand ∷ ident ∷ sign signs.CloseParen ∷ below) (within 0) ts
handle_row ts below = signed_row handle signs.OpenParen (sign signs.Ampersand ∷ ident ∷ sign signs.CloseParen ∷ []) refl handle_by ts below

pub handle_0_stop : {v0 : List Terminal} {s : Stop} → BreaksEver (sign signs.OpenParen) v0 s → Breaks handle (within 0) v0 s
handle_0_stop {v0 = v0} b = is_row {ps = sign signs.OpenParen ∷ sign signs.Ampersand ∷ ident ∷ sign signs.CloseParen ∷ []} (handle_row v0) (here_ever b)

pub handle_1_stop : {v0 v1 : List Terminal} {s : Stop} → Next kinds.OpenParen v0 v1 → BreaksEver (sign signs.Ampersand) v1 s → Breaks handle (within 0) v0 s
handle_1_stop {v0 = v0} n0 b = is_row {ps = sign signs.OpenParen ∷ sign signs.Ampersand ∷ ident ∷ sign signs.CloseParen ∷ []} (handle_row v0) (behind_sign signs.OpenParen n0 (here_ever b))

pub handle_2_stop : {v0 v1 v2 : List Terminal} {s : Stop} → Next kinds.OpenParen v0 v1 → Next kinds.Ampersand v1 v2 → Breaks ident (within 0) v2 s → Breaks handle (within 0) v0 s
handle_2_stop {v0 = v0} n0 n1 b = is_row {ps = sign signs.OpenParen ∷ sign signs.Ampersand ∷ ident ∷ sign signs.CloseParen ∷ []} (handle_row v0) (behind_sign signs.OpenParen n0 (behind_sign signs.Ampersand n1 (here b)))

pub handle_3_stop : {v0 v1 v2 v3 : List Terminal} {x : RawName} {s : Stop} → Next kinds.OpenParen v0 v1 → Next kinds.Ampersand v1 v2 → ReadsName v2 x v3 → BreaksEver (sign signs.CloseParen) v3 s → Breaks handle (within 0) v0 s
handle_3_stop {v0 = v0} n0 n1 n2 b = is_row {ps = sign signs.OpenParen ∷ sign signs.Ampersand ∷ ident ∷ sign signs.CloseParen ∷ []} (handle_row v0) (behind_sign signs.OpenParen n0 (behind_sign signs.Ampersand n1 (behind_ident n2 (here_ever b))))

-- what follows a name

pub assigned_found : {ts us rest : List Terminal} {t : Terminal} {x : RawName} {e : RawExpr} → ts ≡ t ∷ us → t.kind ≡ kinds.Equals → ReadsWhole (within 0) us e rest (within 0) → ReadsAfterName x (within 0) ts (stmts.Assign x e) rest (within 0)
assigned_found q h d = grammar.assigned (next_is q h) d

pub updated_found : {ts us rest : List Terminal} {t : Terminal} {x : RawName} {op : BinOp} {e : RawExpr} {r : RawStmt} → ts ≡ t ∷ us → t.kind ≡ kinds.Update op → ReadsWhole (within 0) us e rest (within 0) → r ≡ stmts.Assign x (exprs.Binary op (exprs.Name x) e) → ReadsAfterName x (within 0) ts r rest (within 0)
updated_found q h d i = rw i (grammar.updated (next_is q h) d)

pub stepped_found : {ts us : List Terminal} {t : Terminal} {x : RawName} {op : BinOp} {r : RawStmt} → ts ≡ t ∷ us → t.kind ≡ kinds.Step op → r ≡ stmts.Assign x (grammar.step_of op x) → ReadsAfterName x (within 0) ts r us (within 0)
stepped_found q h i = rw i (grammar.stepped (next_is q h))

more_args_end : {a b : Nesting} {ts rest : List Terminal} {es : List RawExpr} → ReadsMoreArgs true a ts es rest b → b.operators ≡ 0
more_args_end (grammar.last_arg n) = refl
more_args_end (grammar.next_arg n d m) = more_args_end m

args_end : {n : ℕ} {ts rest : List Terminal} {es : List RawExpr} → ReadsArgs true (within 0) ts es rest (within n) → n ≡ 0
args_end (grammar.no_args n) = refl
args_end (grammar.first_arg d m) = more_args_end m

pub called_found : {ts us rest : List Terminal} {t : Terminal} {x : RawName} {n : ℕ} {es : List RawExpr} → ts ≡ t ∷ us → t.kind ≡ kinds.OpenParen → ReadsArgs true (within 0) us es rest (within n) → ReadsAfterName x (within 0) ts (stmts.CallOnly x es) rest (within 0)
called_found {us = us} {rest = rest} {es = es} q h d = grammar.called (next_is q h) (subst (λ (n : ℕ). ReadsArgs true (within 0) us es rest (within n)) (args_end d) d)

pub assigned_stop : {ts v0 : List Terminal} {t : Terminal} {s : Stop} → ts ≡ t ∷ v0 → t.kind ≡ kinds.Equals → Breaks whole (within 0) v0 s → Breaks after_name (within 0) ts s
assigned_stop q h b = opens_row after_name keeps (whole ∷ []) (next_is q h) refl (here b)

pub updated_stop : {ts v0 : List Terminal} {t : Terminal} {op : BinOp} {s : Stop} → ts ≡ t ∷ v0 → t.kind ≡ kinds.Update op → Breaks whole (within 0) v0 s → Breaks after_name (within 0) ts s
updated_stop q h b = opens_row after_name keeps (whole ∷ []) (next_is q h) refl (here b)

pub called_stop : {ts v0 : List Terminal} {t : Terminal} {s : Stop} → ts ≡ t ∷ v0 → t.kind ≡ kinds.OpenParen → Breaks (args true) (within 0) v0 s → Breaks after_name (within 0) ts s
called_stop q h b = opens_row after_name keeps (args true ∷ []) (next_is q h) refl (here b)

-- calls of the thread library

pub create_found : {v0 v1 v2 v3 v4 v5 v6 v7 v8 v9 rest : List Terminal} {x y : RawName} → Next kinds.OpenParen v0 v1 → Next kinds.Ampersand v1 v2 → ReadsName v2 x v3 → Next kinds.Comma v3 v4 → Next kinds.Null v4 v5 → Next kinds.Comma v5 v6 → ReadsName v6 y v7 → Next kinds.Comma v7 v8 → Next kinds.Null v8 v9 → Next kinds.CloseParen v9 rest → SimpleAfter kinds.Create v0 (stmts.Create x y) rest
create_found n0 n1 n2 n3 n4 n5 n6 n7 n8 n9 = record { reads = λ front n. grammar.create n n0 n1 n2 n3 n4 n5 n6 n7 n8 n9 }

pub create_0_stop : {v0 : List Terminal} {s : Stop} → BreaksEver (sign signs.OpenParen) v0 s → BreaksIn (sign signs.OpenParen ∷ sign signs.Ampersand ∷ ident ∷ sign signs.Comma ∷ sign signs.Null ∷ sign signs.Comma ∷ ident ∷ sign signs.Comma ∷ sign signs.Null ∷ sign signs.CloseParen ∷ []) (within 0) v0 s
create_0_stop b = here_ever b

pub create_1_stop : {v0 v1 : List Terminal} {s : Stop} → Next kinds.OpenParen v0 v1 → BreaksEver (sign signs.Ampersand) v1 s → BreaksIn (sign signs.OpenParen ∷ sign signs.Ampersand ∷ ident ∷ sign signs.Comma ∷ sign signs.Null ∷ sign signs.Comma ∷ ident ∷ sign signs.Comma ∷ sign signs.Null ∷ sign signs.CloseParen ∷ []) (within 0) v0 s
create_1_stop n0 b = behind_sign signs.OpenParen n0 (here_ever b)

pub create_2_stop : {v0 v1 v2 : List Terminal} {s : Stop} → Next kinds.OpenParen v0 v1 → Next kinds.Ampersand v1 v2 → Breaks ident (within 0) v2 s → BreaksIn (sign signs.OpenParen ∷ sign signs.Ampersand ∷ ident ∷ sign signs.Comma ∷ sign signs.Null ∷ sign signs.Comma ∷ ident ∷ sign signs.Comma ∷ sign signs.Null ∷ sign signs.CloseParen ∷ []) (within 0) v0 s
create_2_stop n0 n1 b = behind_sign signs.OpenParen n0 (behind_sign signs.Ampersand n1 (here b))

pub create_3_stop : {v0 v1 v2 v3 : List Terminal} {x : RawName} {s : Stop} → Next kinds.OpenParen v0 v1 → Next kinds.Ampersand v1 v2 → ReadsName v2 x v3 → BreaksEver (sign signs.Comma) v3 s → BreaksIn (sign signs.OpenParen ∷ sign signs.Ampersand ∷ ident ∷ sign signs.Comma ∷ sign signs.Null ∷ sign signs.Comma ∷ ident ∷ sign signs.Comma ∷ sign signs.Null ∷ sign signs.CloseParen ∷ []) (within 0) v0 s
create_3_stop n0 n1 n2 b = behind_sign signs.OpenParen n0 (behind_sign signs.Ampersand n1 (behind_ident n2 (here_ever b)))

pub create_4_stop : {v0 v1 v2 v3 v4 : List Terminal} {x : RawName} {s : Stop} → Next kinds.OpenParen v0 v1 → Next kinds.Ampersand v1 v2 → ReadsName v2 x v3 → Next kinds.Comma v3 v4 → BreaksEver (sign signs.Null) v4 s → BreaksIn (sign signs.OpenParen ∷ sign signs.Ampersand ∷ ident ∷ sign signs.Comma ∷ sign signs.Null ∷ sign signs.Comma ∷ ident ∷ sign signs.Comma ∷ sign signs.Null ∷ sign signs.CloseParen ∷ []) (within 0) v0 s
create_4_stop n0 n1 n2 n3 b = behind_sign signs.OpenParen n0 (behind_sign signs.Ampersand n1 (behind_ident n2 (behind_sign signs.Comma n3 (here_ever b))))

pub create_5_stop : {v0 v1 v2 v3 v4 v5 : List Terminal} {x : RawName} {s : Stop} → Next kinds.OpenParen v0 v1 → Next kinds.Ampersand v1 v2 → ReadsName v2 x v3 → Next kinds.Comma v3 v4 → Next kinds.Null v4 v5 → BreaksEver (sign signs.Comma) v5 s → BreaksIn (sign signs.OpenParen ∷ sign signs.Ampersand ∷ ident ∷ sign signs.Comma ∷ sign signs.Null ∷ sign signs.Comma ∷ ident ∷ sign signs.Comma ∷ sign signs.Null ∷ sign signs.CloseParen ∷ []) (within 0) v0 s
create_5_stop n0 n1 n2 n3 n4 b = behind_sign signs.OpenParen n0 (behind_sign signs.Ampersand n1 (behind_ident n2 (behind_sign signs.Comma n3 (behind_sign signs.Null n4 (here_ever b)))))

pub create_6_stop : {v0 v1 v2 v3 v4 v5 v6 : List Terminal} {x : RawName} {s : Stop} → Next kinds.OpenParen v0 v1 → Next kinds.Ampersand v1 v2 → ReadsName v2 x v3 → Next kinds.Comma v3 v4 → Next kinds.Null v4 v5 → Next kinds.Comma v5 v6 → Breaks ident (within 0) v6 s → BreaksIn (sign signs.OpenParen ∷ sign signs.Ampersand ∷ ident ∷ sign signs.Comma ∷ sign signs.Null ∷ sign signs.Comma ∷ ident ∷ sign signs.Comma ∷ sign signs.Null ∷ sign signs.CloseParen ∷ []) (within 0) v0 s
create_6_stop n0 n1 n2 n3 n4 n5 b = behind_sign signs.OpenParen n0 (behind_sign signs.Ampersand n1 (behind_ident n2 (behind_sign signs.Comma n3 (behind_sign signs.Null n4 (behind_sign signs.Comma n5 (here b))))))

pub create_7_stop : {v0 v1 v2 v3 v4 v5 v6 v7 : List Terminal} {x y : RawName} {s : Stop} → Next kinds.OpenParen v0 v1 → Next kinds.Ampersand v1 v2 → ReadsName v2 x v3 → Next kinds.Comma v3 v4 → Next kinds.Null v4 v5 → Next kinds.Comma v5 v6 → ReadsName v6 y v7 → BreaksEver (sign signs.Comma) v7 s → BreaksIn (sign signs.OpenParen ∷ sign signs.Ampersand ∷ ident ∷ sign signs.Comma ∷ sign signs.Null ∷ sign signs.Comma ∷ ident ∷ sign signs.Comma ∷ sign signs.Null ∷ sign signs.CloseParen ∷ []) (within 0) v0 s
create_7_stop n0 n1 n2 n3 n4 n5 n6 b = behind_sign signs.OpenParen n0 (behind_sign signs.Ampersand n1 (behind_ident n2 (behind_sign signs.Comma n3 (behind_sign signs.Null n4 (behind_sign signs.Comma n5 (behind_ident n6 (here_ever b)))))))

pub create_8_stop : {v0 v1 v2 v3 v4 v5 v6 v7 v8 : List Terminal} {x y : RawName} {s : Stop} → Next kinds.OpenParen v0 v1 → Next kinds.Ampersand v1 v2 → ReadsName v2 x v3 → Next kinds.Comma v3 v4 → Next kinds.Null v4 v5 → Next kinds.Comma v5 v6 → ReadsName v6 y v7 → Next kinds.Comma v7 v8 → BreaksEver (sign signs.Null) v8 s → BreaksIn (sign signs.OpenParen ∷ sign signs.Ampersand ∷ ident ∷ sign signs.Comma ∷ sign signs.Null ∷ sign signs.Comma ∷ ident ∷ sign signs.Comma ∷ sign signs.Null ∷ sign signs.CloseParen ∷ []) (within 0) v0 s
create_8_stop n0 n1 n2 n3 n4 n5 n6 n7 b = behind_sign signs.OpenParen n0 (behind_sign signs.Ampersand n1 (behind_ident n2 (behind_sign signs.Comma n3 (behind_sign signs.Null n4 (behind_sign signs.Comma n5 (behind_ident n6 (behind_sign signs.Comma n7 (here_ever b))))))))

pub create_9_stop : {v0 v1 v2 v3 v4 v5 v6 v7 v8 v9 : List Terminal} {x y : RawName} {s : Stop} → Next kinds.OpenParen v0 v1 → Next kinds.Ampersand v1 v2 → ReadsName v2 x v3 → Next kinds.Comma v3 v4 → Next kinds.Null v4 v5 → Next kinds.Comma v5 v6 → ReadsName v6 y v7 → Next kinds.Comma v7 v8 → Next kinds.Null v8 v9 → BreaksEver (sign signs.CloseParen) v9 s → BreaksIn (sign signs.OpenParen ∷ sign signs.Ampersand ∷ ident ∷ sign signs.Comma ∷ sign signs.Null ∷ sign signs.Comma ∷ ident ∷ sign signs.Comma ∷ sign signs.Null ∷ sign signs.CloseParen ∷ []) (within 0) v0 s
create_9_stop n0 n1 n2 n3 n4 n5 n6 n7 n8 b = behind_sign signs.OpenParen n0 (behind_sign signs.Ampersand n1 (behind_ident n2 (behind_sign signs.Comma n3 (behind_sign signs.Null n4 (behind_sign signs.Comma n5 (behind_ident n6 (behind_sign signs.Comma n7 (behind_sign signs.Null n8 (here_ever b)))))))))

pub join_found : {v0 v1 v2 v3 v4 rest : List Terminal} {x : RawName} → Next kinds.OpenParen v0 v1 → ReadsName v1 x v2 → Next kinds.Comma v2 v3 → Next kinds.Null v3 v4 → Next kinds.CloseParen v4 rest → SimpleAfter kinds.Join v0 (stmts.Join x) rest
join_found n0 n1 n2 n3 n4 = record { reads = λ front n. grammar.join n n0 n1 n2 n3 n4 }

pub join_0_stop : {v0 : List Terminal} {s : Stop} → BreaksEver (sign signs.OpenParen) v0 s → BreaksIn (sign signs.OpenParen ∷ ident ∷ sign signs.Comma ∷ sign signs.Null ∷ sign signs.CloseParen ∷ []) (within 0) v0 s
join_0_stop b = here_ever b

pub join_1_stop : {v0 v1 : List Terminal} {s : Stop} → Next kinds.OpenParen v0 v1 → Breaks ident (within 0) v1 s → BreaksIn (sign signs.OpenParen ∷ ident ∷ sign signs.Comma ∷ sign signs.Null ∷ sign signs.CloseParen ∷ []) (within 0) v0 s
join_1_stop n0 b = behind_sign signs.OpenParen n0 (here b)

pub join_2_stop : {v0 v1 v2 : List Terminal} {x : RawName} {s : Stop} → Next kinds.OpenParen v0 v1 → ReadsName v1 x v2 → BreaksEver (sign signs.Comma) v2 s → BreaksIn (sign signs.OpenParen ∷ ident ∷ sign signs.Comma ∷ sign signs.Null ∷ sign signs.CloseParen ∷ []) (within 0) v0 s
join_2_stop n0 n1 b = behind_sign signs.OpenParen n0 (behind_ident n1 (here_ever b))

pub join_3_stop : {v0 v1 v2 v3 : List Terminal} {x : RawName} {s : Stop} → Next kinds.OpenParen v0 v1 → ReadsName v1 x v2 → Next kinds.Comma v2 v3 → BreaksEver (sign signs.Null) v3 s → BreaksIn (sign signs.OpenParen ∷ ident ∷ sign signs.Comma ∷ sign signs.Null ∷ sign signs.CloseParen ∷ []) (within 0) v0 s
join_3_stop n0 n1 n2 b = behind_sign signs.OpenParen n0 (behind_ident n1 (behind_sign signs.Comma n2 (here_ever b)))

pub join_4_stop : {v0 v1 v2 v3 v4 : List Terminal} {x : RawName} {s : Stop} → Next kinds.OpenParen v0 v1 → ReadsName v1 x v2 → Next kinds.Comma v2 v3 → Next kinds.Null v3 v4 → BreaksEver (sign signs.CloseParen) v4 s → BreaksIn (sign signs.OpenParen ∷ ident ∷ sign signs.Comma ∷ sign signs.Null ∷ sign signs.CloseParen ∷ []) (within 0) v0 s
join_4_stop n0 n1 n2 n3 b = behind_sign signs.OpenParen n0 (behind_ident n1 (behind_sign signs.Comma n2 (behind_sign signs.Null n3 (here_ever b))))

-- simple statements

pub named_found : {ts us rest : List Terminal} {t : Terminal} {x : RawName} {text : List ℕ} {r : RawStmt} → ts ≡ t ∷ us → t.kind ≡ kinds.Name text → x ≡ record { text = text; place = t.place } → ReadsAfterName x (within 0) us r rest (within 0) → ReadsSimple (within 0) ts r rest (within 0)
named_found q h n d = grammar.named (name_is q h n) d

pub step_found : {ts us rest : List Terminal} {t : Terminal} {x : RawName} {op : BinOp} {r : RawStmt} → ts ≡ t ∷ us → t.kind ≡ kinds.Step op → ReadsName us x rest → r ≡ stmts.Assign x (grammar.step_of op x) → ReadsSimple (within 0) ts r rest (within 0)
step_found q h n i = rw i (grammar.step (next_is q h) n)

pub asserts_found : {ts us rest : List Terminal} {t : Terminal} {e : RawExpr} → ts ≡ t ∷ us → t.kind ≡ kinds.Assert → ReadsCondition (within 0) us e rest (within 0) → ReadsSimple (within 0) ts (stmts.Assert e) rest (within 0)
asserts_found q h d = grammar.asserts (next_is q h) d

pub after_found : {k : Kind} {ts us rest : List Terminal} {t : Terminal} {r : RawStmt} → ts ≡ t ∷ us → t.kind ≡ k → SimpleAfter k us r rest → ReadsSimple (within 0) ts r rest (within 0)
after_found {ts = ts} q h d = d.reads ts (next_is q h)

pub lock_found : {ts us rest : List Terminal} {t : Terminal} {x : RawName} → ts ≡ t ∷ us → t.kind ≡ kinds.Lock → ReadsHandle us x rest → ReadsSimple (within 0) ts (stmts.Lock x) rest (within 0)
lock_found q h d = grammar.lock (next_is q h) d

pub unlock_found : {ts us rest : List Terminal} {t : Terminal} {x : RawName} → ts ≡ t ∷ us → t.kind ≡ kinds.Unlock → ReadsHandle us x rest → ReadsSimple (within 0) ts (stmts.Unlock x) rest (within 0)
unlock_found q h d = grammar.unlock (next_is q h) d

pub named_stop : {ts v0 : List Terminal} {t : Terminal} {text : List ℕ} {s : Stop} → ts ≡ t ∷ v0 → t.kind ≡ kinds.Name text → Breaks after_name (within 0) v0 s → Breaks simple (within 0) ts s
named_stop q h b = opens_row simple keeps (after_name ∷ []) (next_is q h) refl (here b)

pub step_stop : {ts v0 : List Terminal} {t : Terminal} {op : BinOp} {s : Stop} → ts ≡ t ∷ v0 → t.kind ≡ kinds.Step op → Breaks ident (within 0) v0 s → Breaks simple (within 0) ts s
step_stop q h b = opens_row simple keeps (ident ∷ []) (next_is q h) refl (here b)

pub asserts_stop : {ts v0 : List Terminal} {t : Terminal} {s : Stop} → ts ≡ t ∷ v0 → t.kind ≡ kinds.Assert → Breaks condition (within 0) v0 s → Breaks simple (within 0) ts s
asserts_stop q h b = opens_row simple keeps (condition ∷ []) (next_is q h) refl (here b)

pub lock_stop : {ts v0 : List Terminal} {t : Terminal} {s : Stop} → ts ≡ t ∷ v0 → t.kind ≡ kinds.Lock → Breaks handle (within 0) v0 s → Breaks simple (within 0) ts s
lock_stop q h b = opens_row simple keeps (handle ∷ []) (next_is q h) refl (here b)

pub unlock_stop : {ts v0 : List Terminal} {t : Terminal} {s : Stop} → ts ≡ t ∷ v0 → t.kind ≡ kinds.Unlock → Breaks handle (within 0) v0 s → Breaks simple (within 0) ts s
unlock_stop q h b = opens_row simple keeps (handle ∷ []) (next_is q h) refl (here b)

pub create_stop : {ts us : List Terminal} {t : Terminal} {s : Stop} → ts ≡ t ∷ us → t.kind ≡ kinds.Create → BreaksIn create_row (within 0) us s → Breaks simple (within 0) ts s
create_stop q h b = opens_row simple keeps create_row (next_is q h) refl b

pub join_stop : {ts us : List Terminal} {t : Terminal} {s : Stop} → ts ≡ t ∷ us → t.kind ≡ kinds.Join → BreaksIn join_row (within 0) us s → Breaks simple (within 0) ts s
join_stop q h b = opens_row simple keeps join_row (next_is q h) refl b
