-- Expressions and statements: the faults of each, in the order of the text, and what it becomes.
--
-- A reader should check, form by form: which rules it can break and in which order, which names each part sees,
-- and the tree with numbers for names. Where a name doesn't mean what it is asked to be there is a fault, and the
-- tree doesn't matter.
use Rattle.std.specs.Prelude.{ℕ, pos, Bool, true, false, List, [], ◌∷◌, ◌++◌, length, map, Option, None, Some}
use Rattle.std.specs.List.{flat_map}
use Rattle.std.specs.Option.{option_map, option_map_or}
use Rattle.gob_tree.specs.declared.place.Place.{Place}
use Rattle.gob_tree.specs.declared.expr.Width.TheVariants.{W32}
use Rattle.gob_tree.specs.declared.expr.Expr.{Expr}
use Rattle.gob_tree.specs.declared.expr.Expr.TheVariants as exprs
use Rattle.gob_tree.specs.declared.stmt.Target.{Target}
use Rattle.gob_tree.specs.declared.stmt.Target.TheVariants as targets
use Rattle.gob_tree.specs.declared.stmt.Stmt.{Stmt}
use Rattle.gob_tree.specs.declared.stmt.Stmt.TheVariants as stmts
use Rattle.gob_tree.specs.declared.stmt.Placed.{Placed}
use Rattle.c_parse.specs.declared.raw.expr.RawExpr.{RawExpr}
use Rattle.c_parse.specs.declared.raw.expr.RawExpr.TheOpen.{RawExpr-F}
use Rattle.c_parse.specs.declared.raw.expr.RawExpr.TheFolds.{fold-RawExpr}
use Rattle.c_parse.specs.declared.raw.stmt.RawReturn.{RawReturn}
use Rattle.c_parse.specs.declared.raw.stmt.RawReturn.TheVariants.{Plain, Null, Value}
use Rattle.c_parse.specs.declared.raw.stmt.RawStmt.{RawStmt, fold-RawStmt, out-RawStmt}
use Rattle.c_parse.specs.declared.raw.stmt.RawStmt.TheOpen.{RawStmt-F, RawPlaced-F}
use Rattle.c_parse.specs.declared.raw.stmt.RawPlaced.{RawPlaced, fold-RawPlaced}
use Rattle.c_check.specs.declared.fault.FrontFault.{FrontFault}
use Rattle.c_check.specs.declared.meaning.Meaning.{Meaning}
use Rattle.c_check.specs.declared.meaning.Meaning.TheVariants as meanings
use Rattle.c_check.specs.Names.{FileNames, BodyNames, meaning, with_local, with_thread, opened, closed}
use Rattle.c_check.specs.Rules.{number_faults, thread_faults, mutex_faults, started_faults, value_call_faults, plain_call_faults, local_faults, return_faults, jump_faults}

-- ---- expressions

-- The faults of one node, with those of each child in its place: a call's name comes before its arguments.
abbrev pub expr_faults_step : FileNames → BodyNames → RawExpr-F (List FrontFault) → List FrontFault
expr_faults_step file body (RawExpr-F.Number n w) = []
expr_faults_step file body (RawExpr-F.Name x) = number_faults file body x
expr_faults_step file body (RawExpr-F.Unary op a) = a
expr_faults_step file body (RawExpr-F.Binary op a b) = a ++ b
expr_faults_step file body (RawExpr-F.Call f args) = value_call_faults file body f (length args) ++ flat_map (λ faults. faults) args

abbrev pub expr_faults : FileNames → BodyNames → RawExpr → List FrontFault
expr_faults file body = fold-RawExpr (List FrontFault) (expr_faults_step file body)

abbrev pub args_faults : FileNames → BodyNames → List RawExpr → List FrontFault
args_faults file body es = flat_map (expr_faults file body) es

abbrev pub optional_faults : FileNames → BodyNames → Option RawExpr → List FrontFault
optional_faults file body e = option_map_or (expr_faults file body) e []

-- in place of what has a fault
abbrev pub no_value : Expr
no_value = exprs.Number (pos 0) W32

abbrev pub variable_of : Option Meaning → Expr
variable_of (Some (meanings.Local x)) = exprs.Local x
variable_of (Some (meanings.Global g w)) = exprs.Global g w
variable_of other = no_value

-- a call of a function, or the arbitrary number that the name stands for
abbrev pub call_of : Option Meaning → List Expr → Expr
call_of (Some (meanings.Function f)) args = exprs.Call f.number f.width args
call_of (Some (meanings.Arbitrary w)) args = exprs.Nondet w
call_of other args = no_value

abbrev pub expr_of_step : FileNames → BodyNames → RawExpr-F Expr → Expr
expr_of_step file body (RawExpr-F.Number n w) = exprs.Number n w
expr_of_step file body (RawExpr-F.Name x) = variable_of (meaning file body x.text)
expr_of_step file body (RawExpr-F.Unary op a) = exprs.Unary op a
expr_of_step file body (RawExpr-F.Binary op a b) = exprs.Binary op a b
expr_of_step file body (RawExpr-F.Call f args) = call_of (meaning file body f.text) args

abbrev pub expr_of : FileNames → BodyNames → RawExpr → Expr
expr_of file body = fold-RawExpr Expr (expr_of_step file body)

-- ---- statements

-- What a statement means where it stands: its faults in a loop or outside of one, what it becomes, and the names
-- after it, each by the names before it.
pub record Reading : Type 0 where
  pub faults : Bool → BodyNames → List FrontFault
  pub becomes : BodyNames → Placed
  pub after : BodyNames → BodyNames

-- one after the other
abbrev pub sequence_faults : List Reading → Bool → BodyNames → List FrontFault
sequence_faults [] in_loop body = []
sequence_faults (s ∷ ss) in_loop body = s.faults in_loop body ++ sequence_faults ss in_loop (s.after body)

abbrev pub sequence_becomes : List Reading → BodyNames → List Placed
sequence_becomes [] body = []
sequence_becomes (s ∷ ss) body = s.becomes body ∷ sequence_becomes ss (s.after body)

abbrev pub sequence_after : List Reading → BodyNames → BodyNames
sequence_after [] body = body
sequence_after (s ∷ ss) body = sequence_after ss (s.after body)

-- a part that may be missing
abbrev pub part_faults : Option Reading → Bool → BodyNames → List FrontFault
part_faults s in_loop body = option_map_or (λ s. s.faults in_loop body) s []

abbrev pub part_becomes : Option Reading → BodyNames → Option Placed
part_becomes s body = option_map (λ s. s.becomes body) s

abbrev pub part_after : Option Reading → BodyNames → BodyNames
part_after s body = option_map_or (λ s. s.after body) s body

-- The names of a `for`: its first part declares in a block of its own, which holds the condition, the last part
-- and the body.
abbrev pub for_head : List Reading → BodyNames → BodyNames
for_head first body = sequence_after first (opened body)

abbrev pub for_body : List Reading → Option Reading → BodyNames → BodyNames
for_body first last body = part_after last (for_head first body)

abbrev pub return_value : RawReturn → Option RawExpr
return_value Plain = None
return_value Null = None
return_value (Value e) = Some e

-- A name is seen from the end of its declarator on, so also in its own initial value.
abbrev pub faults_step : FileNames → RawStmt-F (Place → Reading) Reading → Place → Bool → BodyNames → List FrontFault
faults_step file (RawStmt-F.Declare w x e) place in_loop body = local_faults body x ++ optional_faults file (with_local x.text w body) e
faults_step file (RawStmt-F.DeclareThread x) place in_loop body = local_faults body x
faults_step file (RawStmt-F.Assign x e) place in_loop body = number_faults file body x ++ expr_faults file body e
faults_step file (RawStmt-F.CallOnly f args) place in_loop body = plain_call_faults file body f (length args) ++ args_faults file body args
faults_step file (RawStmt-F.If e a b) place in_loop body =
    expr_faults file body e ++ (a.faults in_loop body ++ part_faults b in_loop (a.after body))
faults_step file (RawStmt-F.While e s) place in_loop body = expr_faults file body e ++ s.faults true body
faults_step file (RawStmt-F.DoWhile s e) place in_loop body = s.faults true body ++ expr_faults file (s.after body) e
faults_step file (RawStmt-F.For first test last s) place in_loop body =
    sequence_faults first in_loop (opened body)
    ++ (optional_faults file (for_head first body) test
    ++ (part_faults last in_loop (for_head first body) ++ s.faults true (for_body first last body)))
faults_step file (RawStmt-F.Block all) place in_loop body = sequence_faults all in_loop (opened body)
faults_step file RawStmt-F.Break place in_loop body = jump_faults in_loop place
faults_step file RawStmt-F.Continue place in_loop body = jump_faults in_loop place
faults_step file (RawStmt-F.Return r) place in_loop body = return_faults body.kind r place ++ optional_faults file body (return_value r)
faults_step file (RawStmt-F.Create t f) place in_loop body = thread_faults file body t ++ started_faults file body f
faults_step file (RawStmt-F.Join t) place in_loop body = thread_faults file body t
faults_step file (RawStmt-F.Lock m) place in_loop body = mutex_faults file body m
faults_step file (RawStmt-F.Unlock m) place in_loop body = mutex_faults file body m
faults_step file (RawStmt-F.Assert e) place in_loop body = expr_faults file body e
faults_step file RawStmt-F.Empty place in_loop body = []

abbrev pub target_of : Option Meaning → Target
target_of (Some (meanings.Local x)) = targets.Local x
target_of (Some (meanings.Global g w)) = targets.Global g
target_of other = targets.Local 0

abbrev pub function_number : Option Meaning → ℕ
function_number (Some (meanings.Function f)) = f.number
function_number other = 0

abbrev pub thread_number : Option Meaning → ℕ
thread_number (Some (meanings.Thread t)) = t
thread_number other = 0

abbrev pub mutex_number : Option Meaning → ℕ
mutex_number (Some (meanings.Mutex m)) = m
mutex_number other = 0

abbrev pub optional_of : FileNames → BodyNames → Option RawExpr → Option Expr
optional_of file body e = option_map (expr_of file body) e

-- A declared number is the next slot of its function, and a declared thread variable the next of those.
abbrev pub stmt_step : FileNames → RawStmt-F (Place → Reading) Reading → BodyNames → Stmt
stmt_step file (RawStmt-F.Declare w x e) body = stmts.Declare (length body.slots) (optional_of file (with_local x.text w body) e)
stmt_step file (RawStmt-F.DeclareThread x) body = stmts.DeclareThread (length body.threads)
stmt_step file (RawStmt-F.Assign x e) body = stmts.Assign (target_of (meaning file body x.text)) (expr_of file body e)
stmt_step file (RawStmt-F.CallOnly f args) body =
    stmts.CallOnly (function_number (meaning file body f.text)) (map (expr_of file body) args)
stmt_step file (RawStmt-F.If e a b) body = stmts.If (expr_of file body e) (a.becomes body) (part_becomes b (a.after body))
stmt_step file (RawStmt-F.While e s) body = stmts.While (expr_of file body e) (s.becomes body)
stmt_step file (RawStmt-F.DoWhile s e) body = stmts.DoWhile (s.becomes body) (expr_of file (s.after body) e)
stmt_step file (RawStmt-F.For first test last s) body =
    stmts.For (sequence_becomes first (opened body)) (optional_of file (for_head first body) test)
    (part_becomes last (for_head first body)) (s.becomes (for_body first last body))
stmt_step file (RawStmt-F.Block all) body = stmts.Block (sequence_becomes all (opened body))
stmt_step file RawStmt-F.Break body = stmts.Break
stmt_step file RawStmt-F.Continue body = stmts.Continue
stmt_step file (RawStmt-F.Return r) body = stmts.Return (optional_of file body (return_value r))
stmt_step file (RawStmt-F.Create t f) body =
    stmts.Create (thread_number (meaning file body t.text)) (function_number (meaning file body f.text))
stmt_step file (RawStmt-F.Join t) body = stmts.Join (thread_number (meaning file body t.text))
stmt_step file (RawStmt-F.Lock m) body = stmts.Lock (mutex_number (meaning file body m.text))
stmt_step file (RawStmt-F.Unlock m) body = stmts.Unlock (mutex_number (meaning file body m.text))
stmt_step file (RawStmt-F.Assert e) body = stmts.Assert (expr_of file body e)
stmt_step file RawStmt-F.Empty body = stmts.Empty

-- What a block declares is seen no more behind it.
abbrev pub after_step : RawStmt-F (Place → Reading) Reading → BodyNames → BodyNames
after_step (RawStmt-F.Declare w x e) body = with_local x.text w body
after_step (RawStmt-F.DeclareThread x) body = with_thread x.text body
after_step (RawStmt-F.If e a b) body = part_after b (a.after body)
after_step (RawStmt-F.While e s) body = s.after body
after_step (RawStmt-F.DoWhile s e) body = s.after body
after_step (RawStmt-F.For first test last s) body = closed (s.after (for_body first last body))
after_step (RawStmt-F.Block all) body = closed (sequence_after all (opened body))
after_step other body = body

abbrev pub reading_step : FileNames → RawStmt-F (Place → Reading) Reading → Place → Reading
reading_step file s place = record {
  faults = faults_step file s place;
  becomes = λ body. record { place = place; stmt = stmt_step file s body };
  after = after_step s;
}

abbrev pub placed_step : RawPlaced-F (Place → Reading) Reading → Reading
placed_step p = p.stmt p.place

-- a statement that has no statements in it
abbrev pub is_simple_step : {A B : Type 0} → RawStmt-F A B → Bool
is_simple_step (RawStmt-F.If e a b) = false
is_simple_step (RawStmt-F.While e s) = false
is_simple_step (RawStmt-F.DoWhile s e) = false
is_simple_step (RawStmt-F.For first test last s) = false
is_simple_step (RawStmt-F.Block all) = false
is_simple_step other = true

abbrev pub is_simple : RawStmt → Bool
is_simple s = is_simple_step (out-RawStmt s)

-- a statement at a place
abbrev pub reading_at : FileNames → RawStmt → Place → Reading
reading_at file = fold-RawStmt (Place → Reading) Reading (reading_step file) placed_step

abbrev pub reading_of : FileNames → RawPlaced → Reading
reading_of file = fold-RawPlaced (Place → Reading) Reading (reading_step file) placed_step
