-- The examples, worked out. A body is spelled once more as plain data, over which its readings compute; that they
-- are the readings of the body as it is written is shown for every such body.
use Rattle.std.proofs.Common.{◌≡◌, refl, sym, ap, ap₂, ◌∙◌, ℕ, pos, Bool, true, false, not, List, [], ◌∷◌, ◌++◌, length, map, Option, None, Some}
use Rattle.std.proofs.Math.Path.{fun_ext}
use Rattle.std.specs.List.{position_or_len}
use Rattle.gob_tree.specs.declared.expr.BinOp.TheVariants.{Add}
use Rattle.gob_tree.specs.declared.expr.Expr.{Expr}
use Rattle.gob_tree.specs.declared.expr.Expr.TheVariants as exprs
use Rattle.gob_tree.specs.declared.expr.Width.{Width}
use Rattle.gob_tree.specs.declared.expr.Width.TheVariants.{W32, W64}
use Rattle.gob_tree.specs.declared.place.Place.{Place}
use Rattle.gob_tree.specs.declared.stmt.Placed.{Placed}
use Rattle.gob_tree.specs.declared.stmt.Stmt as written
use Rattle.gob_tree.specs.declared.stmt.Stmt.{Stmt}
use Rattle.gob_tree.specs.declared.stmt.Stmt.TheVariants as stmts
use Rattle.gob_tree.specs.declared.unit.Function.{Function}
use Rattle.gob_tree.specs.declared.unit.Unit.{Unit as TranslationUnit}
use Rattle.gob_tree.specs.declared.unit.FuncKind.TheVariants.{Int, Thread, Void}
use Rattle.c_parse.specs.declared.raw.expr.RawExpr.{RawExpr}
use Rattle.c_parse.specs.declared.raw.expr.RawExpr.TheVariants.{Number, Name, Binary, Call}
use Rattle.c_parse.specs.declared.raw.stmt.RawReturn.TheVariants.{Plain, Null, Value}
use Rattle.c_parse.specs.declared.raw.stmt.RawStmt.{RawStmt}
use Rattle.c_parse.specs.declared.raw.stmt.RawStmt.TheOpen.{RawStmt-F}
use Rattle.c_parse.specs.declared.raw.stmt.RawStmt.TheVariants.{Declare, DeclareThread, Assign, CallOnly, If, While, For, Block, Break, Continue, Return, Create, Join, Lock, Assert}
use Rattle.c_parse.specs.declared.raw.stmt.RawPlaced.{RawPlaced}
use Rattle.c_parse.specs.declared.raw.unit.RawHead.{RawHead}
use Rattle.c_parse.specs.declared.raw.unit.RawItem.{RawItem}
use Rattle.c_parse.specs.declared.raw.unit.RawItem.TheVariants as items
use Rattle.c_parse.specs.declared.raw.unit.RawUnit.{RawUnit}
use Rattle.c_check.specs.declared.fault.FrontFault.{FrontFault}
use Rattle.c_check.specs.declared.fault.FrontKind.TheVariants.{Redeclared}
use Rattle.c_check.specs.Faults.{asks}
use Rattle.c_check.specs.Names.{FileNames, BodyNames, meaning, with_local, with_thread, opened, closed}
use Rattle.c_check.specs.Rules.{number_faults, value_call_faults, plain_call_faults, local_faults, thread_faults, started_faults, mutex_faults, return_faults, jump_faults}
use Rattle.c_check.specs.Bodies.{Reading, expr_faults, expr_faults_step, expr_of, expr_of_step, variable_of, call_of, target_of, thread_number, function_number, mutex_number, sequence_faults, sequence_becomes, sequence_after, reading_step, placed_step, reading_of}
use Rattle.c_check.specs.Units.{Made, is_defined, main_faults, params_faults, head_names, body_names, param_count, with_return, item_faults, after_item, items_faults, after_items, nothing_made, no_main_faults, limit_faults, is_main_function, unit_faults, unit_of}
use Rattle.c_check.specs.Examples as example
use Rattle.c_check.specs.Examples.{at, x_at, stmt_at}
use Rattle.c_check.proofs.RawFolds.{fold-Number, fold-Name, fold-Binary, fold-Call}
use Rattle.c_check.proofs.RawLevels.{fold-struct, fold-Declare, fold-DeclareThread, fold-Assign, fold-CallOnly, fold-If, fold-While, fold-For, fold-Block, fold-Break, fold-Continue, fold-Return, fold-Create, fold-Join, fold-Lock, fold-Assert}

-- ---- expressions, with a name and its column

data E : Type 0 where
  number : ℕ → E
  name : List ℕ → ℕ → E
  sum : E → E → E
  call : List ℕ → ℕ → E
  call_with : List ℕ → ℕ → E → E
  call_with_two : List ℕ → ℕ → E → E → E

abbrev raw_e : E → RawExpr
raw_e (number n) = Number (pos n) W32
raw_e (name x c) = Name (x_at x c)
raw_e (sum p q) = Binary Add (raw_e p) (raw_e q)
raw_e (call x c) = Call (x_at x c) []
raw_e (call_with x c p) = Call (x_at x c) (raw_e p ∷ [])
raw_e (call_with_two x c p q) = Call (x_at x c) (raw_e p ∷ raw_e q ∷ [])

abbrev faults_e : FileNames → E → BodyNames → List FrontFault
faults_e file (number n) b = []
faults_e file (name x c) b = number_faults file b (x_at x c)
faults_e file (sum p q) b = faults_e file p b ++ faults_e file q b
faults_e file (call x c) b = value_call_faults file b (x_at x c) 0 ++ []
faults_e file (call_with x c p) b = value_call_faults file b (x_at x c) 1 ++ (faults_e file p b ++ [])
faults_e file (call_with_two x c p q) b = value_call_faults file b (x_at x c) 2 ++ (faults_e file p b ++ (faults_e file q b ++ []))

abbrev value_e : FileNames → E → BodyNames → Expr
value_e file (number n) b = exprs.Number (pos n) W32
value_e file (name x c) b = variable_of (meaning file b x)
value_e file (sum p q) b = exprs.Binary Add (value_e file p b) (value_e file q b)
value_e file (call x c) b = call_of (meaning file b x) []
value_e file (call_with x c p) b = call_of (meaning file b x) (value_e file p b ∷ [])
value_e file (call_with_two x c p q) b = call_of (meaning file b x) (value_e file p b ∷ value_e file q b ∷ [])

module _ (file : FileNames) (b : BodyNames) where
  abbrev F : Type 0
  F = List FrontFault

  e_faults : (e : E) → expr_faults file b (raw_e e) ≡ faults_e file e b
  e_faults (number n) = fold-Number F (expr_faults_step file b) (pos n) W32
  e_faults (name x c) = fold-Name F (expr_faults_step file b) (x_at x c)
  e_faults (sum p q) = fold-Binary F (expr_faults_step file b) Add (raw_e p) (raw_e q) ∙ ap₂ (λ (x y : F). x ++ y) (e_faults p) (e_faults q)
  e_faults (call x c) = fold-Call F (expr_faults_step file b) (x_at x c) []
  e_faults (call_with x c p) =
      fold-Call F (expr_faults_step file b) (x_at x c) (raw_e p ∷ []) ∙ ap (λ (y : F). value_call_faults file b (x_at x c) 1 ++ (y ++ [])) (e_faults p)
  e_faults (call_with_two x c p q) =
      fold-Call F (expr_faults_step file b) (x_at x c) (raw_e p ∷ raw_e q ∷ [])
      ∙ ap₂ (λ (y z : F). value_call_faults file b (x_at x c) 2 ++ (y ++ (z ++ []))) (e_faults p) (e_faults q)

  e_value : (e : E) → expr_of file b (raw_e e) ≡ value_e file e b
  e_value (number n) = fold-Number Expr (expr_of_step file b) (pos n) W32
  e_value (name x c) = fold-Name Expr (expr_of_step file b) (x_at x c)
  e_value (sum p q) = fold-Binary Expr (expr_of_step file b) Add (raw_e p) (raw_e q) ∙ ap₂ (λ (x y : Expr). exprs.Binary Add x y) (e_value p) (e_value q)
  e_value (call x c) = fold-Call Expr (expr_of_step file b) (x_at x c) []
  e_value (call_with x c p) = fold-Call Expr (expr_of_step file b) (x_at x c) (raw_e p ∷ []) ∙ ap (λ (y : Expr). call_of (meaning file b x) (y ∷ [])) (e_value p)
  e_value (call_with_two x c p q) =
      fold-Call Expr (expr_of_step file b) (x_at x c) (raw_e p ∷ raw_e q ∷ []) ∙ ap₂ (λ (y z : Expr). call_of (meaning file b x) (y ∷ z ∷ [])) (e_value p) (e_value q)

-- ---- statements, each with its column

data S : Type 0 where
  declare : ℕ → Width → List ℕ → ℕ → S
  declare_as : ℕ → Width → List ℕ → ℕ → E → S
  declare_thread : ℕ → List ℕ → ℕ → S
  assign : ℕ → List ℕ → ℕ → E → S
  call_alone : ℕ → List ℕ → ℕ → S
  call_alone_with : ℕ → List ℕ → ℕ → E → S
  if_then : ℕ → E → S → S
  while_do : ℕ → E → S → S
  for_in : ℕ → S → S → S
  block : ℕ → S → S
  block_of_two : ℕ → S → S → S
  break_at : ℕ → S
  continue_at : ℕ → S
  return_plain : ℕ → S
  return_null : ℕ → S
  return_of : ℕ → E → S
  create : ℕ → List ℕ → ℕ → List ℕ → ℕ → S
  join : ℕ → List ℕ → ℕ → S
  lock : ℕ → List ℕ → ℕ → S
  assert : ℕ → E → S

abbrev raw_s : S → RawPlaced
raw_s (declare c w x d) = stmt_at c (Declare w (x_at x d) None)
raw_s (declare_as c w x d e) = stmt_at c (Declare w (x_at x d) (Some (raw_e e)))
raw_s (declare_thread c x d) = stmt_at c (DeclareThread (x_at x d))
raw_s (assign c x d e) = stmt_at c (Assign (x_at x d) (raw_e e))
raw_s (call_alone c x d) = stmt_at c (CallOnly (x_at x d) [])
raw_s (call_alone_with c x d e) = stmt_at c (CallOnly (x_at x d) (raw_e e ∷ []))
raw_s (if_then c e s) = stmt_at c (If (raw_e e) (raw_s s) None)
raw_s (while_do c e s) = stmt_at c (While (raw_e e) (raw_s s))
raw_s (for_in c s t) = stmt_at c (For (raw_s s ∷ []) None None (raw_s t))
raw_s (block c s) = stmt_at c (Block (raw_s s ∷ []))
raw_s (block_of_two c s t) = stmt_at c (Block (raw_s s ∷ raw_s t ∷ []))
raw_s (break_at c) = stmt_at c Break
raw_s (continue_at c) = stmt_at c Continue
raw_s (return_plain c) = stmt_at c (Return Plain)
raw_s (return_null c) = stmt_at c (Return Null)
raw_s (return_of c e) = stmt_at c (Return (Value (raw_e e)))
raw_s (create c x d f g) = stmt_at c (Create (x_at x d) (x_at f g))
raw_s (join c x d) = stmt_at c (Join (x_at x d))
raw_s (lock c x d) = stmt_at c (Lock (x_at x d))
raw_s (assert c e) = stmt_at c (Assert (raw_e e))

abbrev told : ℕ → (Bool → BodyNames → List FrontFault) → (BodyNames → Stmt) → (BodyNames → BodyNames) → Reading
told c faults becomes after = record { faults = faults; becomes = λ body. record { place = at c; stmt = becomes body }; after = after }

-- a statement around an expression of these faults and this value, or around these statements
abbrev Around : Type 0
Around = (BodyNames → List FrontFault) → (BodyNames → Expr) → Reading

abbrev declare_with : ℕ → Width → List ℕ → ℕ → Around
declare_with c w x d f v = told c (λ l b. local_faults b (x_at x d) ++ f (with_local x w b)) (λ b. stmts.Declare (length b.slots) (Some (v (with_local x w b)))) (with_local x w)

abbrev assign_with : FileNames → ℕ → List ℕ → ℕ → Around
assign_with file c x d f v = told c (λ l b. number_faults file b (x_at x d) ++ f b) (λ b. stmts.Assign (target_of (meaning file b x)) (v b)) (λ b. b)

abbrev call_with_one : FileNames → ℕ → List ℕ → ℕ → Around
call_with_one file c x d f v = told c (λ l b. plain_call_faults file b (x_at x d) 1 ++ (f b ++ [])) (λ b. stmts.CallOnly (function_number (meaning file b x)) (v b ∷ [])) (λ b. b)

abbrev if_with : ℕ → Reading → Around
if_with c r f v = told c (λ l b. f b ++ (r.faults l b ++ [])) (λ b. stmts.If (v b) (r.becomes b) None) r.after

abbrev while_with : ℕ → Reading → Around
while_with c r f v = told c (λ l b. f b ++ r.faults true b) (λ b. stmts.While (v b) (r.becomes b)) r.after

abbrev return_with : ℕ → E → Around
return_with c e f v = told c (λ l b. return_faults b.kind (Value (raw_e e)) (at c) ++ f b) (λ b. stmts.Return (Some (v b))) (λ b. b)

abbrev assert_with : ℕ → Around
assert_with c f v = told c (λ l b. f b) (λ b. stmts.Assert (v b)) (λ b. b)

abbrev block_with : ℕ → List Reading → Reading
block_with c rs = told c (λ l b. sequence_faults rs l (opened b)) (λ b. stmts.Block (sequence_becomes rs (opened b))) (λ b. closed (sequence_after rs (opened b)))

abbrev for_with : ℕ → Reading → Reading → Reading
for_with c r q =
    told c (λ l b. sequence_faults (r ∷ []) l (opened b) ++ ([] ++ ([] ++ q.faults true (r.after (opened b)))))
    (λ b. stmts.For (sequence_becomes (r ∷ []) (opened b)) None None (q.becomes (r.after (opened b)))) (λ b. closed (q.after (r.after (opened b))))

abbrev reading_s : FileNames → S → Reading
reading_s file (declare c w x d) = told c (λ l b. local_faults b (x_at x d) ++ []) (λ b. stmts.Declare (length b.slots) None) (with_local x w)
reading_s file (declare_as c w x d e) = declare_with c w x d (faults_e file e) (value_e file e)
reading_s file (declare_thread c x d) = told c (λ l b. local_faults b (x_at x d)) (λ b. stmts.DeclareThread (length b.threads)) (with_thread x)
reading_s file (assign c x d e) = assign_with file c x d (faults_e file e) (value_e file e)
reading_s file (call_alone c x d) = told c (λ l b. plain_call_faults file b (x_at x d) 0 ++ []) (λ b. stmts.CallOnly (function_number (meaning file b x)) []) (λ b. b)
reading_s file (call_alone_with c x d e) = call_with_one file c x d (faults_e file e) (value_e file e)
reading_s file (if_then c e s) = if_with c (reading_s file s) (faults_e file e) (value_e file e)
reading_s file (while_do c e s) = while_with c (reading_s file s) (faults_e file e) (value_e file e)
reading_s file (for_in c s t) = for_with c (reading_s file s) (reading_s file t)
reading_s file (block c s) = block_with c (reading_s file s ∷ [])
reading_s file (block_of_two c s t) = block_with c (reading_s file s ∷ reading_s file t ∷ [])
reading_s file (break_at c) = told c (λ l b. jump_faults l (at c)) (λ b. stmts.Break) (λ b. b)
reading_s file (continue_at c) = told c (λ l b. jump_faults l (at c)) (λ b. stmts.Continue) (λ b. b)
reading_s file (return_plain c) = told c (λ l b. return_faults b.kind Plain (at c) ++ []) (λ b. stmts.Return None) (λ b. b)
reading_s file (return_null c) = told c (λ l b. return_faults b.kind Null (at c) ++ []) (λ b. stmts.Return None) (λ b. b)
reading_s file (return_of c e) = return_with c e (faults_e file e) (value_e file e)
reading_s file (create c x d f g) =
    told c (λ l b. thread_faults file b (x_at x d) ++ started_faults file b (x_at f g))
    (λ b. stmts.Create (thread_number (meaning file b x)) (function_number (meaning file b f))) (λ b. b)
reading_s file (join c x d) = told c (λ l b. thread_faults file b (x_at x d)) (λ b. stmts.Join (thread_number (meaning file b x))) (λ b. b)
reading_s file (lock c x d) = told c (λ l b. mutex_faults file b (x_at x d)) (λ b. stmts.Lock (mutex_number (meaning file b x))) (λ b. b)
reading_s file (assert c e) = assert_with c (faults_e file e) (value_e file e)

module _ (file : FileNames) where
  around : (e : E) (k : Around) → k (λ b. expr_faults file b (raw_e e)) (λ b. expr_of file b (raw_e e)) ≡ k (faults_e file e) (value_e file e)
  around e k = ap₂ k (fun_ext (λ b. e_faults file b e)) (fun_ext (λ b. e_value file b e))

  abbrev step : RawStmt-F (Place → Reading) Reading → Place → Reading
  step = reading_step file

  s_reads : (s : S) → reading_of file (raw_s s) ≡ reading_s file s
  s_reads (declare c w x d) = fold-struct Place Reading step placed_step (at c) (Declare w (x_at x d) None) ∙ fold-Declare Place Reading step placed_step w (x_at x d) None (at c)
  s_reads (declare_as c w x d e) =
      fold-struct Place Reading step placed_step (at c) (Declare w (x_at x d) (Some (raw_e e)))
      ∙ fold-Declare Place Reading step placed_step w (x_at x d) (Some (raw_e e)) (at c) ∙ around e (declare_with c w x d)
  s_reads (declare_thread c x d) = fold-struct Place Reading step placed_step (at c) (DeclareThread (x_at x d)) ∙ fold-DeclareThread Place Reading step placed_step (x_at x d) (at c)
  s_reads (assign c x d e) =
      fold-struct Place Reading step placed_step (at c) (Assign (x_at x d) (raw_e e)) ∙ fold-Assign Place Reading step placed_step (x_at x d) (raw_e e) (at c)
      ∙ around e (assign_with file c x d)
  s_reads (call_alone c x d) = fold-struct Place Reading step placed_step (at c) (CallOnly (x_at x d) []) ∙ fold-CallOnly Place Reading step placed_step (x_at x d) [] (at c)
  s_reads (call_alone_with c x d e) =
      fold-struct Place Reading step placed_step (at c) (CallOnly (x_at x d) (raw_e e ∷ []))
      ∙ fold-CallOnly Place Reading step placed_step (x_at x d) (raw_e e ∷ []) (at c) ∙ around e (call_with_one file c x d)
  s_reads (if_then c e s) =
      fold-struct Place Reading step placed_step (at c) (If (raw_e e) (raw_s s) None) ∙ fold-If Place Reading step placed_step (raw_e e) (raw_s s) None (at c)
      ∙ around e (if_with c (reading_of file (raw_s s))) ∙ ap (λ (r : Reading). if_with c r (faults_e file e) (value_e file e)) (s_reads s)
  s_reads (while_do c e s) =
      fold-struct Place Reading step placed_step (at c) (While (raw_e e) (raw_s s)) ∙ fold-While Place Reading step placed_step (raw_e e) (raw_s s) (at c)
      ∙ around e (while_with c (reading_of file (raw_s s))) ∙ ap (λ (r : Reading). while_with c r (faults_e file e) (value_e file e)) (s_reads s)
  s_reads (for_in c s t) =
      fold-struct Place Reading step placed_step (at c) (For (raw_s s ∷ []) None None (raw_s t))
      ∙ fold-For Place Reading step placed_step (raw_s s ∷ []) None None (raw_s t) (at c) ∙ ap₂ (λ (r q : Reading). for_with c r q) (s_reads s) (s_reads t)
  s_reads (block c s) =
      fold-struct Place Reading step placed_step (at c) (Block (raw_s s ∷ [])) ∙ fold-Block Place Reading step placed_step (raw_s s ∷ []) (at c)
      ∙ ap (λ (r : Reading). block_with c (r ∷ [])) (s_reads s)
  s_reads (block_of_two c s t) =
      fold-struct Place Reading step placed_step (at c) (Block (raw_s s ∷ raw_s t ∷ [])) ∙ fold-Block Place Reading step placed_step (raw_s s ∷ raw_s t ∷ []) (at c)
      ∙ ap₂ (λ (r q : Reading). block_with c (r ∷ q ∷ [])) (s_reads s) (s_reads t)
  s_reads (break_at c) = fold-struct Place Reading step placed_step (at c) Break ∙ fold-Break Place Reading step placed_step (at c)
  s_reads (continue_at c) = fold-struct Place Reading step placed_step (at c) Continue ∙ fold-Continue Place Reading step placed_step (at c)
  s_reads (return_plain c) = fold-struct Place Reading step placed_step (at c) (Return Plain) ∙ fold-Return Place Reading step placed_step Plain (at c)
  s_reads (return_null c) = fold-struct Place Reading step placed_step (at c) (Return Null) ∙ fold-Return Place Reading step placed_step Null (at c)
  s_reads (return_of c e) =
      fold-struct Place Reading step placed_step (at c) (Return (Value (raw_e e))) ∙ fold-Return Place Reading step placed_step (Value (raw_e e)) (at c) ∙ around e (return_with c e)
  s_reads (create c x d f g) = fold-struct Place Reading step placed_step (at c) (Create (x_at x d) (x_at f g)) ∙ fold-Create Place Reading step placed_step (x_at x d) (x_at f g) (at c)
  s_reads (join c x d) = fold-struct Place Reading step placed_step (at c) (Join (x_at x d)) ∙ fold-Join Place Reading step placed_step (x_at x d) (at c)
  s_reads (lock c x d) = fold-struct Place Reading step placed_step (at c) (Lock (x_at x d)) ∙ fold-Lock Place Reading step placed_step (x_at x d) (at c)
  s_reads (assert c e) = fold-struct Place Reading step placed_step (at c) (Assert (raw_e e)) ∙ fold-Assert Place Reading step placed_step (raw_e e) (at c) ∙ around e (assert_with c)

  ss_read : (ss : List S) → map (reading_of file) (map raw_s ss) ≡ map (reading_s file) ss
  ss_read [] = refl
  ss_read (s ∷ ss) = ap₂ (λ (r : Reading) (rs : List Reading). r ∷ rs) (s_reads s) (ss_read ss)

-- ---- items

data I : Type 0 where
  given : RawItem → I
  function : RawHead → List S → I

abbrev raw_i : I → RawItem
raw_i (given item) = item
raw_i (function h ss) = items.Function h (at 99) (map raw_s ss)

abbrev faults_with : FileNames → RawHead → List Reading → List FrontFault
faults_with file h rs =
    asks (not (is_defined file h.name.text)) Redeclared h.name.place
    ++ (main_faults h
    ++ (params_faults h.params (head_names h)
    ++ sequence_faults rs false (body_names h)))

abbrev function_with : RawHead → List Reading → Function
function_with h rs =
    let names = sequence_after rs (body_names h) in
    record {
      name = h.name.text;
      place = h.name.place;
      end = at 99;
      kind = h.kind;
      params = param_count h;
      slots = names.slots;
      threads = names.threads;
      body = with_return h (at 99) (sequence_becomes rs (body_names h));
    }

abbrev made_with : RawHead → List Reading → Made → Made
made_with h rs made = record made {
  names = record made.names { defined = made.names.defined ++ h.name.text ∷ [] };
  funcs = made.funcs ++ function_with h rs ∷ [];
}

abbrev faults_i : FileNames → I → List FrontFault
faults_i file (given item) = item_faults file item
faults_i file (function h ss) = faults_with file h (map (reading_s file) ss)

abbrev after_i : I → Made → Made
after_i (given item) made = after_item item made
after_i (function h ss) made = made_with h (map (reading_s made.names) ss) made

i_faults : (file : FileNames) (i : I) → item_faults file (raw_i i) ≡ faults_i file i
i_faults file (given item) = refl
i_faults file (function h ss) = ap (λ (rs : List Reading). faults_with file h rs) (ss_read file ss)

i_after : (i : I) (made : Made) → after_item (raw_i i) made ≡ after_i i made
i_after (given item) made = refl
i_after (function h ss) made = ap (λ (rs : List Reading). made_with h rs made) (ss_read made.names ss)

abbrev faults_of : List I → Made → List FrontFault
faults_of [] made = []
faults_of (i ∷ is) made = faults_i made.names i ++ faults_of is (after_i i made)

abbrev after_of : List I → Made → Made
after_of [] made = made
after_of (i ∷ is) made = after_of is (after_i i made)

is_faults : (is : List I) (made : Made) → items_faults (map raw_i is) made ≡ faults_of is made
is_faults [] made = refl
is_faults (i ∷ is) made =
    ap₂ (λ (x y : List FrontFault). x ++ y) (i_faults made.names i) (ap (λ (m : Made). items_faults (map raw_i is) m) (i_after i made) ∙ is_faults is (after_i i made))

is_after : (is : List I) (made : Made) → after_items (map raw_i is) made ≡ after_of is made
is_after [] made = refl
is_after (i ∷ is) made = ap (λ (m : Made). after_items (map raw_i is) m) (i_after i made) ∙ is_after is (after_i i made)

abbrev raw_unit : List I → RawUnit
raw_unit is = record { items = map raw_i is }

abbrev unit_faults_of : List I → List FrontFault
unit_faults_of is =
    let start = nothing_made (map raw_i is) in
    faults_of is start ++ (no_main_faults (after_of is start).funcs ++ limit_faults (map raw_i is))

unit_told : (is : List I) → unit_faults (raw_unit is) ≡ unit_faults_of is
unit_told is =
    ap₂ (λ (x : List FrontFault) (m : Made). x ++ (no_main_faults m.funcs ++ limit_faults (map raw_i is))) (is_faults is (nothing_made (map raw_i is))) (is_after is (nothing_made (map raw_i is)))

units_told : (all : List (List I)) → map (λ is. unit_faults (raw_unit is)) all ≡ map unit_faults_of all
units_told [] = refl
units_told (is ∷ all) = ap₂ (λ (x : List FrontFault) (xs : List (List FrontFault)). x ∷ xs) (unit_told is) (units_told all)

-- ---- the bodies

abbrev main_of : List S → I
main_of ss = function (example.head example.main 60 Int W32 []) ss

abbrev bare : I
bare = main_of []

abbrev long_f : I
long_f = function (example.head example.f 20 Int W64 (example.int_param example.x 25 ∷ [])) (return_of 30 (name example.g 37) ∷ [])

abbrev thread_w : I
thread_w = function (example.head example.w 40 Thread W32 (example.int_param example.x 45 ∷ [])) (return_null 50 ∷ [])

abbrev unit_around : List S → List I
unit_around ss = given example.int_g ∷ given example.mutex_m ∷ long_f ∷ thread_w ∷ main_of ss ∷ []

abbrev good : List S
good =
    declare 61 W32 example.x 62
    ∷ block 63 (declare_as 64 W64 example.x 65 (name example.x 66))
    ∷ declare_thread 67 example.t 68
    ∷ create 69 example.t 70 example.w 71
    ∷ assign 72 example.x 72 (sum (call_with example.f 73 (name example.x 74)) (name example.g 75))
    ∷ []

abbrev behind_x : S → List S
behind_x s = declare 61 W32 example.x 62 ∷ s ∷ []

abbrev bodies_spelled : List (List S)
bodies_spelled =
    good
    ∷ (assert 70 (name example.x 71) ∷ [])
    ∷ (block_of_two 61 (declare 61 W32 example.x 62) (assert 70 (name example.x 71)) ∷ assert 72 (name example.x 73) ∷ [])
    ∷ behind_x (declare 70 W64 example.x 71)
    ∷ behind_x (declare_thread 70 example.x 71)
    ∷ behind_x (block_of_two 70 (declare_thread 71 example.x 72) (join 73 example.x 74))
    ∷ behind_x (for_in 70 (declare 71 W32 example.x 72) (block 73 (declare 74 W32 example.x 75)))
    ∷ (declare_thread 61 example.t 62 ∷ assert 70 (name example.t 71) ∷ [])
    ∷ (assert 70 (name example.m 71) ∷ [])
    ∷ (assert 70 (name example.f 71) ∷ [])
    ∷ (assign 70 example.w 70 (number 1) ∷ [])
    ∷ behind_x (join 70 example.x 71)
    ∷ behind_x (lock 70 example.x 71)
    ∷ behind_x (create 70 example.x 71 example.f 72)
    ∷ behind_x (call_alone 70 example.x 71)
    ∷ (call_alone_with 70 example.f 70 (number 1) ∷ [])
    ∷ (call_alone 70 example.f 70 ∷ [])
    ∷ (assert 70 (call_with_two example.f 71 (number 1) (number 2)) ∷ [])
    ∷ (call_alone_with 70 example.w 70 (number 1) ∷ [])
    ∷ (assert 70 (call example.main 71) ∷ [])
    ∷ (call_alone 70 example.main 70 ∷ [])
    ∷ (call_alone 70 example.nondet 70 ∷ [])
    ∷ (assert 70 (call example.nondet 71) ∷ [])
    ∷ (assert 70 (call_with example.nondet 71 (number 1)) ∷ [])
    ∷ (assert 70 (name example.nondet 71) ∷ [])
    ∷ (declare 61 W32 example.nondet 62 ∷ assert 70 (name example.nondet 71) ∷ [])
    ∷ (break_at 70 ∷ [])
    ∷ (if_then 70 (number 1) (continue_at 71) ∷ [])
    ∷ (while_do 70 (number 1) (block 71 (break_at 72)) ∷ [])
    ∷ (return_plain 70 ∷ [])
    ∷ (return_null 70 ∷ [])
    ∷ (return_of 70 (number 0) ∷ [])
    ∷ []

pub bodies : map (λ row. unit_faults (example.unit_with row.0)) example.body_rows ≡ map (λ row. row.1) example.body_rows
bodies = units_told (map unit_around bodies_spelled)

-- ---- lists of items

abbrev int_of : List ℕ → ℕ → S → I
int_of x c s = function (example.head x c Int W32 []) (s ∷ [])

abbrev void_of : List ℕ → ℕ → S → I
void_of x c s = function (example.head x c Void W32 []) (s ∷ [])

abbrev zero_at : ℕ → S
zero_at c = return_of c (number 0)

abbrev items_spelled : List (List I)
items_spelled =
    (bare ∷ [])
    ∷ []
    ∷ (given (example.prototype example.main 60 Int W32 []) ∷ [])
    ∷ (int_of example.f 20 (return_of 21 (name example.g 30)) ∷ given example.int_g ∷ bare ∷ [])
    ∷ (int_of example.f 20 (return_of 21 (call example.w 30)) ∷ int_of example.w 40 (zero_at 41) ∷ bare ∷ [])
    ∷ (int_of example.f 20 (return_plain 21) ∷ bare ∷ [])
    ∷ (void_of example.f 20 (zero_at 21) ∷ bare ∷ [])
    ∷ (void_of example.f 20 (return_plain 21) ∷ bare ∷ [])
    ∷ (given example.int_g ∷ given (items.Global (x_at example.g 20) W64 (pos 0) (at 20)) ∷ bare ∷ [])
    ∷ (given example.int_g ∷ given (items.Mutex (x_at example.g 20)) ∷ bare ∷ [])
    ∷ (given example.int_g ∷ int_of example.g 20 (zero_at 21) ∷ bare ∷ [])
    ∷ (int_of example.f 20 (zero_at 21) ∷ int_of example.f 30 (zero_at 31) ∷ bare ∷ [])
    ∷ (given (example.prototype example.f 10 Int W32 []) ∷ given (items.Mutex (x_at example.f 15)) ∷ int_of example.f 20 (zero_at 21) ∷ bare ∷ [])
    ∷ (given (items.Global (x_at example.g 5) W32 (pos 2147483648) (at 9)) ∷ bare ∷ [])
    ∷ (given (items.Global (x_at example.g 5) W64 (pos 2147483648) (at 9)) ∷ bare ∷ [])
    ∷ (given (example.prototype example.f 10 Int W32 []) ∷ bare ∷ [])
    ∷ (int_of example.w 20 (return_of 21 (call example.f 30)) ∷ given (example.prototype example.f 40 Int W32 []) ∷ bare ∷ [])
    ∷ (long_f ∷ given (example.prototype example.f 45 Int W64 (record { width = W32; name = None } ∷ [])) ∷ bare ∷ [])
    ∷ (given example.int_g ∷ long_f ∷ given (example.prototype example.f 45 Int W32 (example.int_param example.x 46 ∷ [])) ∷ bare ∷ [])
    ∷ (given example.int_g ∷ long_f ∷ given (example.prototype example.f 45 Int W64 []) ∷ bare ∷ [])
    ∷ (given example.int_g ∷ long_f ∷ given (example.prototype example.f 45 Int W64 (record { width = W64; name = None } ∷ [])) ∷ bare ∷ [])
    ∷ (given example.int_g ∷ given (example.prototype example.g 45 Int W32 []) ∷ bare ∷ [])
    ∷ (given (example.prototype example.nondet 45 Void W64 []) ∷ bare ∷ [])
    ∷ (given (example.prototype example.nondet 45 Int W32 (example.int_param example.x 46 ∷ [])) ∷ bare ∷ [])
    ∷ (given (items.Mutex (x_at example.nondet 45)) ∷ bare ∷ [])
    ∷ (given (items.Mutex (x_at example.main 45)) ∷ bare ∷ [])
    ∷ (function (example.head example.main 60 Int W64 []) [] ∷ [])
    ∷ (function (example.head example.main 60 Int W32 (example.int_param example.x 61 ∷ [])) [] ∷ [])
    ∷ (function (example.head example.f 20 Int W32 (example.int_param example.x 21 ∷ example.int_param example.x 22 ∷ [])) [] ∷ bare ∷ [])
    ∷ (function (example.head example.f 20 Int W32 (example.int_param example.x 21 ∷ [])) (declare 30 W32 example.x 31 ∷ []) ∷ bare ∷ [])
    ∷ (function (example.head example.w 20 Thread W32 (example.int_param example.x 21 ∷ [])) (assert 30 (name example.x 31) ∷ []) ∷ bare ∷ [])
    ∷ []

abbrev by_items : List RawItem → List FrontFault
by_items all = unit_faults (record { items = all })

fused : {A B C : Type 0} (f : B → C) (g : A → B) (xs : List A) → map (λ (x : A). f (g x)) xs ≡ map f (map g xs)
fused f g [] = refl
fused f g (x ∷ xs) = ap (λ (ys : List _). f (g x) ∷ ys) (fused f g xs)

rows : map (λ (row : example.ItemRow). row.0) example.item_rows ≡ map (λ (is : List I). map raw_i is) items_spelled
rows = refl

told_of : map unit_faults_of items_spelled ≡ map (λ (row : example.ItemRow). row.1) example.item_rows
told_of = refl

pub lists : map (λ row. unit_faults (record { items = row.0 })) example.item_rows ≡ map (λ row. row.1) example.item_rows
lists =
    fused by_items (λ row. row.0) example.item_rows ∙ ap (map by_items) rows ∙ sym (fused by_items (λ is. map raw_i is) items_spelled) ∙ units_told items_spelled ∙ told_of

-- ---- what the good body becomes

abbrev unit_made : Made → TranslationUnit
unit_made made = record { funcs = made.funcs; globals = made.globals; mutexes = made.mutexes; main = position_or_len is_main_function made.funcs }

unit_becomes : (is : List I) → unit_of (raw_unit is) ≡ unit_made (after_of is (nothing_made (map raw_i is)))
unit_becomes is = ap unit_made (is_after is (nothing_made (map raw_i is)))

is_good : unit_made (after_of (unit_around good) (nothing_made (map raw_i (unit_around good)))) ≡ example.good_unit
unfolding written.out-Stmt denote.Hole.Carrier.out
is_good = refl

same_raw : example.unit_with example.good_body ≡ raw_unit (unit_around good)
same_raw = refl

pub becomes : unit_of (example.unit_with example.good_body) ≡ example.good_unit
becomes = ap unit_of same_raw ∙ unit_becomes (unit_around good) ∙ is_good
