-- The faults of a statement stand along the tokens that it is read from.
use Rattle.std.proofs.Common.{◌≡◌, refl, sym, ap, ◌∙◌, ℕ, Bool, true, not, List, [], ◌∷◌, ◌++◌, length, map, Option, append_assoc, arith}
use Rattle.std.specs.Option.{option_map}
use Rattle.gob_tree.specs.declared.expr.Width.{Width}
use Rattle.gob_tree.specs.declared.place.Place.{Place}
use Rattle.c_parse.specs.declared.terminal.Terminal.{Terminal}
use Rattle.c_parse.specs.declared.raw.expr.RawName.{RawName}
use Rattle.c_parse.specs.declared.raw.expr.RawExpr.{RawExpr}
use Rattle.c_parse.specs.declared.raw.expr.RawExpr.TheVariants as exprs
use Rattle.c_parse.specs.declared.raw.stmt.RawReturn.{RawReturn}
use Rattle.c_parse.specs.declared.raw.stmt.RawStmt.{RawStmt}
use Rattle.c_parse.specs.declared.raw.stmt.RawStmt.TheVariants as stmts
use Rattle.c_parse.specs.declared.raw.stmt.RawPlaced.{RawPlaced}
use Rattle.c_parse.specs.Grammar as grammar
use Rattle.c_parse.specs.Grammar.{Nesting, Next, ReadsName, ReadsLongTail, ReadsType, ReadsLocals, ReadsMoreLocals, ReadsNumbers, ReadsThreads, ReadsMoreThreads, ReadsDecl, ReadsAfterName, ReadsHandle, ReadsSimple, ReadsValue, ReadsFirst, ReadsTest, ReadsLast, ReadsDoEnd, ReadsBare, ReadsStmt, ReadsElse, ReadsItems, place_at, placed, declared, thread, step_of}
use Rattle.c_check.specs.declared.fault.FrontFault.{FrontFault}
use Rattle.c_check.specs.declared.fault.FrontKind.TheVariants.{Redeclared, WrongKind}
use Rattle.c_check.specs.Names.{FileNames, BodyNames, meaning, is_declared_here, with_local, opened}
use Rattle.c_check.specs.Rules.{is_thread_variable, is_mutex, is_thread_function, is_callable, number_faults, thread_faults, mutex_faults, started_faults, plain_call_faults, local_faults, fits_return, return_faults, jump_faults}
use Rattle.c_check.specs.Bodies.{Reading, expr_faults, optional_faults, sequence_faults, sequence_after, part_faults, for_head, for_body, return_value, reading_step, placed_step, reading_at, reading_of}
use Rattle.c_check.proofs.RawLevels.{fold-struct, fold-Declare, fold-DeclareThread, fold-Assign, fold-CallOnly, fold-If, fold-While, fold-DoWhile, fold-For, fold-Block, fold-Break, fold-Continue, fold-Return, fold-Create, fold-Join, fold-Lock, fold-Unlock, fold-Assert, fold-Empty}
use Rattle.places_law.proofs.Along.{Told, full, asks_told, once_told, call_told, Along, none, is, join, behind, past, tell, tell_only, name, name_only}
use Rattle.places_law.proofs.AlongExprs.{number_told, numbers_told, along_args, along_whole, along_condition, along_initial, update_faults, step_faults}

abbrev Faults : Type 0
Faults = List FrontFault

pub past_type : {w : Width} {ts us rest : List Terminal} {fs : Faults} → ReadsType ts w us → Along us fs rest → Along ts fs rest
past_type (grammar.int_type n0) a = past n0 a
past_type (grammar.long_type n0 (grammar.long n1)) a = past n0 a
past_type (grammar.long_type n0 (grammar.long_int n1)) a = past n0 (past n1 a)

pub local_told : (body : BodyNames) (x : RawName) → Told x.place 0 (local_faults body x) 5
local_told body x = full x.place 2 2 (local_faults body x) (omega arith) (asks_told (not (is_declared_here body x.text)) Redeclared x.place)

module _ (file : FileNames) where
  abbrev reading_is : RawStmt → Place → Reading
  reading_is s here = reading_at file s here

  abbrev stmt_faults : RawStmt → Place → Bool → BodyNames → Faults
  stmt_faults s here l body = (reading_at file s here).faults l body

  abbrev placed_faults : RawPlaced → Bool → BodyNames → Faults
  placed_faults p l body = (reading_of file p).faults l body

  abbrev pub all_faults : List RawPlaced → Bool → BodyNames → Faults
  all_faults ps l body = sequence_faults (map (reading_of file) ps) l body

  -- a statement of this form
  form : (ts rest : List Terminal) (s : RawStmt) (here : Place) (r : Reading) (l : Bool) (body : BodyNames) → reading_at file s here ≡ r → Along ts (r.faults l body) rest → Along ts (stmt_faults s here l body) rest
  form ts rest s here r l body e a = is ts rest (stmt_faults s here l body) (r.faults l body) (ap (λ (x : Reading). x.faults l body) e) a

  -- a statement at its place
  at_place : (ts rest : List Terminal) (here : Place) (s : RawStmt) (l : Bool) (body : BodyNames) → Along ts (stmt_faults s here l body) rest → Along ts (placed_faults (record { place = here; stmt = s }) l body) rest
  at_place ts rest here s l body a =
      is ts rest (placed_faults (record { place = here; stmt = s }) l body) (stmt_faults s here l body)
      (ap (λ (x : Reading). x.faults l body) (fold-struct Place Reading (reading_step file) placed_step here s)) a

  all-append : (ps qs : List RawPlaced) (l : Bool) (body : BodyNames) → all_faults (ps ++ qs) l body ≡ all_faults ps l body ++ all_faults qs l (sequence_after (map (reading_of file) ps) body)
  all-append [] qs l body = refl
  all-append (p ∷ ps) qs l body =
      ap (λ (fs : Faults). placed_faults p l body ++ fs) (all-append ps qs l ((reading_of file p).after body))
      ∙ sym (append_assoc (placed_faults p l body) (all_faults ps l ((reading_of file p).after body)) (all_faults qs l (sequence_after (map (reading_of file) (p ∷ ps)) body)))

  one : (ts rest : List Terminal) (p : RawPlaced) (l : Bool) (body : BodyNames) → Along ts (placed_faults p l body) rest → Along ts (all_faults (p ∷ []) l body) rest
  one ts rest p l body a = join ts rest rest (placed_faults p l body) [] a none

  -- ---- declarations

  mutual
    along_locals : {here : Place} {w : Width} {a b : Nesting} {ts rest : List Terminal} {ps : List RawPlaced} (l : Bool) (body : BodyNames) → ReadsLocals here w a ts ps rest b → Along ts (all_faults ps l body) rest
    along_locals {ts = ts} {rest = rest} l body (grammar.locals {vs = vs} {w = w} {here = here} {x = x} {i = i} {ps = ps} n0 n1 n2) =
        let s : RawStmt = stmts.Declare w x i in
        let p : RawPlaced = declared here w x i in
        let first : Along ts (placed_faults p l body) vs =
        at_place ts vs here s l body (form ts vs s here _ l body (fold-Declare Place Reading (reading_step file) placed_step w x i here)
        (name (local_faults body x) n0 (local_told body x) (along_initial file (with_local x.text w body) n1))) in
        join ts vs rest (placed_faults p l body) (all_faults ps l ((reading_of file p).after body)) first (along_more_locals l ((reading_of file p).after body) n2)

    along_more_locals : {w : Width} {a b : Nesting} {ts rest : List Terminal} {ps : List RawPlaced} (l : Bool) (body : BodyNames) → ReadsMoreLocals w a ts ps rest b → Along ts (all_faults ps l body) rest
    along_more_locals l body (grammar.last_local n0) = past n0 none
    along_more_locals l body (grammar.next_local n0 n1) = past n0 (along_locals l body n1)

  along_numbers : {a b : Nesting} {ts rest : List Terminal} {ps : List RawPlaced} (l : Bool) (body : BodyNames) → ReadsNumbers a ts ps rest b → Along ts (all_faults ps l body) rest
  along_numbers l body (grammar.numbers n0 n1) = past_type n0 (along_locals l body n1)

  mutual
    along_threads : {here : Place} {ts rest : List Terminal} {ps : List RawPlaced} (l : Bool) (body : BodyNames) → ReadsThreads here ts ps rest → Along ts (all_faults ps l body) rest
    along_threads {ts = ts} {rest = rest} l body (grammar.threads {us = us} {here = here} {x = x} {ps = ps} n0 n1) =
        let s : RawStmt = stmts.DeclareThread x in
        let p : RawPlaced = thread here x in
        let first : Along ts (placed_faults p l body) us =
        at_place ts us here s l body (form ts us s here _ l body (fold-DeclareThread Place Reading (reading_step file) placed_step x here) (name_only (local_faults body x) n0 (local_told body x))) in
        join ts us rest (placed_faults p l body) (all_faults ps l ((reading_of file p).after body)) first (along_more_threads l ((reading_of file p).after body) n1)

    along_more_threads : {ts rest : List Terminal} {ps : List RawPlaced} (l : Bool) (body : BodyNames) → ReadsMoreThreads ts ps rest → Along ts (all_faults ps l body) rest
    along_more_threads l body (grammar.last_thread n0) = past n0 none
    along_more_threads l body (grammar.next_thread n0 n1) = past n0 (along_threads l body n1)

  along_decl : {a b : Nesting} {ts rest : List Terminal} {ps : List RawPlaced} (l : Bool) (body : BodyNames) → ReadsDecl a ts ps rest b → Along ts (all_faults ps l body) rest
  along_decl l body (grammar.number_decl n0) = along_numbers l body n0
  along_decl l body (grammar.thread_decl n0 n1) = past n0 (along_threads l body n1)

  -- ---- simple statements

  along_after_name : {x : RawName} {a b : Nesting} {us ts rest : List Terminal} {s : RawStmt} (here : Place) (l : Bool) (body : BodyNames) → ReadsName us x ts → ReadsAfterName x a ts s rest b → Along us (stmt_faults s here l body) rest
  along_after_name {us = us} {rest = rest} here l body n0 (grammar.assigned {x = x} {e = e} n1 n2) =
      form us rest (stmts.Assign x e) here _ l body (fold-Assign Place Reading (reading_step file) placed_step x e here)
      (name (number_faults file body x) n0 (number_told file body x) (past n1 (along_whole file body n2)))
  along_after_name {us = us} {rest = rest} here l body n0 (grammar.updated {op = op} {x = x} {e = e} n1 n2) =
      let value : RawExpr = exprs.Binary op (exprs.Name x) e in
      form us rest (stmts.Assign x value) here _ l body (fold-Assign Place Reading (reading_step file) placed_step x value here)
      (is us rest (number_faults file body x ++ expr_faults file body value) ((number_faults file body x ++ number_faults file body x) ++ expr_faults file body e) (update_faults file body op x e)
      (name (number_faults file body x ++ number_faults file body x) n0 (numbers_told file body x) (past n1 (along_whole file body n2))))
  along_after_name {us = us} {rest = rest} here l body n0 (grammar.stepped {op = op} {x = x} n1) =
      form us rest (stmts.Assign x (step_of op x)) here _ l body (fold-Assign Place Reading (reading_step file) placed_step x (step_of op x) here)
      (is us rest (number_faults file body x ++ expr_faults file body (step_of op x)) ((number_faults file body x ++ number_faults file body x) ++ []) (step_faults file body op x)
      (name (number_faults file body x ++ number_faults file body x) n0 (numbers_told file body x) (past n1 none)))
  along_after_name {us = us} {rest = rest} here l body n0 (grammar.called {x = x} {es = es} n1 n2) =
      form us rest (stmts.CallOnly x es) here _ l body (fold-CallOnly Place Reading (reading_step file) placed_step x es here)
      (name (plain_call_faults file body x (length es)) n0 (call_told (is_callable x.text) (length es) x.place (meaning file body x.text)) (past n1 (along_args file body n2)))

  along_handle : {ts rest : List Terminal} {x : RawName} (fs : Faults) → ReadsHandle ts x rest → Told x.place 0 fs 5 → Along ts fs rest
  along_handle fs (grammar.handle {vs = vs} {ws = ws} {rest = rest} n0 n1 n2 n3) told = past n0 (past n1 (behind vs ws rest fs (name_only fs n2 told) (past n3 none)))

  along_simple : {a b : Nesting} {ts rest : List Terminal} {s : RawStmt} (here : Place) (l : Bool) (body : BodyNames) → ReadsSimple a ts s rest b → Along ts (stmt_faults s here l body) rest
  along_simple here l body (grammar.named n0 n1) = along_after_name here l body n0 n1
  along_simple {ts = ts} {rest = rest} here l body (grammar.step {us = us} {op = op} {x = x} n0 n1) =
      form ts rest (stmts.Assign x (step_of op x)) here _ l body (fold-Assign Place Reading (reading_step file) placed_step x (step_of op x) here)
      (is ts rest (number_faults file body x ++ expr_faults file body (step_of op x)) ((number_faults file body x ++ number_faults file body x) ++ []) (step_faults file body op x)
      (past n0 (name (number_faults file body x ++ number_faults file body x) n1 (numbers_told file body x) none)))
  along_simple {ts = ts} {rest = rest} here l body (grammar.asserts {e = e} n0 n1) =
      form ts rest (stmts.Assert e) here _ l body (fold-Assert Place Reading (reading_step file) placed_step e here) (past n0 (along_condition file body n1))
  along_simple {ts = ts} {rest = rest} here l body (grammar.create {t7 = t7} {t8 = t8} {x = x} {y = y} n0 n1 n2 n3 n4 n5 n6 n7 n8 n9 n10) =
      form ts rest (stmts.Create x y) here _ l body (fold-Create Place Reading (reading_step file) placed_step x y here)
      (past n0 (past n1 (past n2 (name (thread_faults file body x) n3 (once_told is_thread_variable x.place (meaning file body x.text))
      (past n4 (past n5 (past n6
      (behind t7 t8 rest (started_faults file body y) (name_only (started_faults file body y) n7 (once_told is_thread_function y.place (meaning file body y.text))) (past n8 (past n9 (past n10 none)))))))))))
  along_simple {ts = ts} {rest = rest} here l body (grammar.join {vs = vs} {ws = ws} {x = x} n0 n1 n2 n3 n4 n5) =
      form ts rest (stmts.Join x) here _ l body (fold-Join Place Reading (reading_step file) placed_step x here)
      (past n0 (past n1 (behind vs ws rest (thread_faults file body x) (name_only (thread_faults file body x) n2 (once_told is_thread_variable x.place (meaning file body x.text))) (past n3 (past n4 (past n5 none))))))
  along_simple {ts = ts} {rest = rest} here l body (grammar.lock {x = x} n0 n1) =
      form ts rest (stmts.Lock x) here _ l body (fold-Lock Place Reading (reading_step file) placed_step x here)
      (past n0 (along_handle (mutex_faults file body x) n1 (once_told is_mutex x.place (meaning file body x.text))))
  along_simple {ts = ts} {rest = rest} here l body (grammar.unlock {x = x} n0 n1) =
      form ts rest (stmts.Unlock x) here _ l body (fold-Unlock Place Reading (reading_step file) placed_step x here)
      (past n0 (along_handle (mutex_faults file body x) n1 (once_told is_mutex x.place (meaning file body x.text))))

  -- ---- parts of statements

  along_value : {a b : Nesting} {ts rest : List Terminal} {r : RawReturn} (body : BodyNames) → ReadsValue a ts r rest b → Along ts (optional_faults file body (return_value r)) rest
  along_value body (grammar.plain n0) = past n0 none
  along_value body (grammar.null n0 n1) = past n0 (past n1 none)
  along_value {ts = ts} {rest = rest} body (grammar.value {us = us} {e = e} n0 n1) = behind ts us rest (expr_faults file body e) (along_whole file body n0) (past n1 none)

  along_first : {a b : Nesting} {ts rest : List Terminal} {ps : List RawPlaced} (l : Bool) (body : BodyNames) → ReadsFirst a ts ps rest b → Along ts (all_faults ps l body) rest
  along_first l body (grammar.no_first n0) = past n0 none
  along_first l body (grammar.number_first n0) = along_numbers l body n0
  along_first {ts = ts} {rest = rest} l body (grammar.simple_first {us = us} {s = s} n0 n1) =
      one ts rest (placed ts s) l body
      (behind ts us rest (placed_faults (placed ts s) l body) (at_place ts us (place_at ts) s l body (along_simple (place_at ts) l body n0)) (past n1 none))

  along_test : {a b : Nesting} {ts rest : List Terminal} {i : Option RawExpr} (body : BodyNames) → ReadsTest a ts i rest b → Along ts (optional_faults file body i) rest
  along_test body (grammar.no_test n0) = past n0 none
  along_test {ts = ts} {rest = rest} body (grammar.test {us = us} {e = e} n0 n1) = behind ts us rest (expr_faults file body e) (along_whole file body n0) (past n1 none)

  along_last : {a b : Nesting} {ts rest : List Terminal} {j : Option RawPlaced} (l : Bool) (body : BodyNames) → ReadsLast a ts j rest b → Along ts (part_faults (option_map (reading_of file) j) l body) rest
  along_last l body (grammar.no_last n0) = past n0 none
  along_last {ts = ts} {rest = rest} l body (grammar.last {us = us} {s = s} n0 n1) =
      behind ts us rest (placed_faults (placed ts s) l body) (at_place ts us (place_at ts) s l body (along_simple (place_at ts) l body n0)) (past n1 none)

  along_do_end : {a b : Nesting} {ts rest : List Terminal} {e : RawExpr} (body : BodyNames) → ReadsDoEnd a ts e rest b → Along ts (expr_faults file body e) rest
  along_do_end {rest = rest} body (grammar.do_end {us = us} {vs = vs} {e = e} n0 n1 n2) = past n0 (behind us vs rest (expr_faults file body e) (along_condition file body n1) (past n2 none))

  jump_told : (l : Bool) (here : Place) → Told here 0 (jump_faults l here) 5
  jump_told l here = full here 3 3 (jump_faults l here) (omega arith) (asks_told l WrongKind here)

  -- ---- statements

  mutual
    along_bare : {d : ℕ} {a b : Nesting} {ts rest : List Terminal} {s : RawStmt} (l : Bool) (body : BodyNames) → ReadsBare d a ts s rest b → Along ts (stmt_faults s (place_at ts) l body) rest
    along_bare {ts = ts} {rest = rest} l body (grammar.empty n0) =
        form ts rest stmts.Empty (place_at ts) _ l body (fold-Empty Place Reading (reading_step file) placed_step (place_at ts)) (past n0 none)
    along_bare {ts = ts} {rest = rest} l body (grammar.block {ps = ps} n0 n1) =
        form ts rest (stmts.Block ps) (place_at ts) _ l body (fold-Block Place Reading (reading_step file) placed_step ps (place_at ts)) (past n0 (along_items l (opened body) n1))
    along_bare {ts = ts} {rest = rest} l body (grammar.simple {us = us} {s = s} n0 n1) =
        behind ts us rest (stmt_faults s (place_at ts) l body) (along_simple (place_at ts) l body n0) (past n1 none)
    along_bare {ts = ts} {rest = rest} l body (grammar.if_then {us = us} {vs = vs} {ws = ws} {e = e} {p = p} {j = j} n0 n1 n2 n3) =
        let after : BodyNames = (reading_of file p).after body in
        let else_faults : Faults = part_faults (option_map (reading_of file) j) l after in
        form ts rest (stmts.If e p j) (place_at ts) _ l body (fold-If Place Reading (reading_step file) placed_step e p j (place_at ts))
        (past n0 (join us vs rest (expr_faults file body e) (placed_faults p l body ++ else_faults) (along_condition file body n1)
        (join vs ws rest (placed_faults p l body) else_faults (along_stmt l body n2) (along_else l after n3))))
    along_bare {ts = ts} {rest = rest} l body (grammar.while {us = us} {vs = vs} {e = e} {p = p} n0 n1 n2) =
        form ts rest (stmts.While e p) (place_at ts) _ l body (fold-While Place Reading (reading_step file) placed_step e p (place_at ts))
        (past n0 (join us vs rest (expr_faults file body e) (placed_faults p true body) (along_condition file body n1) (along_stmt true body n2)))
    along_bare {ts = ts} {rest = rest} l body (grammar.do_while {us = us} {vs = vs} {e = e} {p = p} n0 n1 n2) =
        let after : BodyNames = (reading_of file p).after body in
        form ts rest (stmts.DoWhile p e) (place_at ts) _ l body (fold-DoWhile Place Reading (reading_step file) placed_step p e (place_at ts))
        (past n0 (join us vs rest (placed_faults p true body) (expr_faults file after e) (along_stmt true body n1) (along_do_end after n2)))
    along_bare {ts = ts} {rest = rest} l body (grammar.for_loop {vs = vs} {ws = ws} {xs = xs} {ys = ys} {i = i} {p = p} {j = j} {ps = ps} n0 n1 n2 n3 n4 n5) =
        let first : List Reading = map (reading_of file) ps in
        let last : Option Reading = option_map (reading_of file) j in
        let head : BodyNames = for_head first body in
        let inner : Faults = placed_faults p true (for_body first last body) in
        form ts rest (stmts.For ps i j p) (place_at ts) _ l body (fold-For Place Reading (reading_step file) placed_step ps i j p (place_at ts))
        (past n0 (past n1
        (join vs ws rest (all_faults ps l (opened body)) (optional_faults file head i ++ (part_faults last l head ++ inner)) (along_first l (opened body) n2)
        (join ws xs rest (optional_faults file head i) (part_faults last l head ++ inner) (along_test head n3)
        (join xs ys rest (part_faults last l head) inner (along_last l head n4) (along_stmt true (for_body first last body) n5))))))
    along_bare {ts = ts} {rest = rest} l body (grammar.leave_loop n0 n1) =
        form ts rest stmts.Break (place_at ts) _ l body (fold-Break Place Reading (reading_step file) placed_step (place_at ts))
        (behind ts _ rest (jump_faults l (place_at ts)) (tell_only (jump_faults l (place_at ts)) n0 (jump_told l (place_at ts))) (past n1 none))
    along_bare {ts = ts} {rest = rest} l body (grammar.next_round n0 n1) =
        form ts rest stmts.Continue (place_at ts) _ l body (fold-Continue Place Reading (reading_step file) placed_step (place_at ts))
        (behind ts _ rest (jump_faults l (place_at ts)) (tell_only (jump_faults l (place_at ts)) n0 (jump_told l (place_at ts))) (past n1 none))
    along_bare {ts = ts} {rest = rest} l body (grammar.leave {r = r} n0 n1) =
        form ts rest (stmts.Return r) (place_at ts) _ l body (fold-Return Place Reading (reading_step file) placed_step r (place_at ts))
        (tell (return_faults body.kind r (place_at ts)) n0
        (full (place_at ts) 3 3 (return_faults body.kind r (place_at ts)) (omega arith) (asks_told (fits_return body.kind r) WrongKind (place_at ts))) (along_value body n1))

    along_stmt : {d : ℕ} {a b : Nesting} {ts rest : List Terminal} {p : RawPlaced} (l : Bool) (body : BodyNames) → ReadsStmt d a ts p rest b → Along ts (placed_faults p l body) rest
    along_stmt {ts = ts} {rest = rest} l body (grammar.stmt {s = s} n0) = at_place ts rest (place_at ts) s l body (along_bare l body n0)

    along_else : {d : ℕ} {a b : Nesting} {ts rest : List Terminal} {j : Option RawPlaced} (l : Bool) (body : BodyNames) → ReadsElse d a ts j rest b → Along ts (part_faults (option_map (reading_of file) j) l body) rest
    along_else l body (grammar.no_else n0) = none
    along_else l body (grammar.otherwise n0 n1) = past n0 (along_stmt l body n1)

    pub along_items : {d : ℕ} {a b : Nesting} {ts rest : List Terminal} {ps : List RawPlaced} {here : Place} (l : Bool) (body : BodyNames) → ReadsItems d a ts ps here rest b → Along ts (all_faults ps l body) rest
    along_items l body (grammar.close n0) = past n0 none
    along_items {ts = ts} {rest = rest} l body (grammar.one_decl {us = us} {ps = ps} {qs = qs} n0 n1) =
        let after : BodyNames = sequence_after (map (reading_of file) ps) body in
        is ts rest (all_faults (ps ++ qs) l body) (all_faults ps l body ++ all_faults qs l after) (all-append ps qs l body)
        (join ts us rest (all_faults ps l body) (all_faults qs l after) (along_decl l body n0) (along_items l after n1))
    along_items {ts = ts} {rest = rest} l body (grammar.one_stmt {us = us} {p = p} {ps = ps} n0 n1) =
        let after : BodyNames = (reading_of file p).after body in
        join ts us rest (placed_faults p l body) (all_faults ps l after) (along_stmt l body n0) (along_items l after n1)
