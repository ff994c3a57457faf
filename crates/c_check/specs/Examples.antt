-- Units by hand, with their faults, and what the good ones become. In each, a name stands at a column of its own.
use Rattle.std.specs.Prelude.{ℕ, ◌+◌, pos, List, [], ◌∷◌, ◌++◌, codes, replicate, None, Some}
use Rattle.gob_tree.specs.declared.place.Place.{Place}
use Rattle.gob_tree.specs.declared.expr.Width.{Width}
use Rattle.gob_tree.specs.declared.expr.Width.TheVariants.{W32, W64}
use Rattle.gob_tree.specs.declared.expr.BinOp.TheVariants.{Add}
use Rattle.gob_tree.specs.declared.expr.Expr.TheVariants as exprs
use Rattle.gob_tree.specs.declared.stmt.Stmt.{Stmt}
use Rattle.gob_tree.specs.declared.stmt.Stmt.TheVariants as stmts
use Rattle.gob_tree.specs.declared.stmt.Target.TheVariants as targets
use Rattle.gob_tree.specs.declared.stmt.Placed.{Placed}
use Rattle.gob_tree.specs.declared.text.Text.{Text}
use Rattle.gob_tree.specs.declared.unit.FuncKind.{FuncKind}
use Rattle.gob_tree.specs.declared.unit.FuncKind.TheVariants.{Int, Void, Thread}
use Rattle.gob_tree.specs.declared.unit.Function.{Function}
use Rattle.gob_tree.specs.declared.unit.Slot.{Slot}
use Rattle.gob_tree.specs.declared.unit.Unit.{Unit as TranslationUnit}
use Rattle.c_parse.specs.declared.raw.expr.RawName.{RawName}
use Rattle.c_parse.specs.declared.raw.expr.RawExpr.{RawExpr}
use Rattle.c_parse.specs.declared.raw.expr.RawExpr.TheVariants.{Number, Name, Binary, Call}
use Rattle.c_parse.specs.declared.raw.stmt.RawReturn.TheVariants.{Plain, Null, Value}
use Rattle.c_parse.specs.declared.raw.stmt.RawStmt.{RawStmt}
use Rattle.c_parse.specs.declared.raw.stmt.RawStmt.TheVariants.{Declare, DeclareThread, Assign, CallOnly, If, While, For, Block, Break, Continue, Return, Create, Join, Lock, Assert}
use Rattle.c_parse.specs.declared.raw.stmt.RawPlaced.{RawPlaced}
use Rattle.c_parse.specs.declared.raw.unit.RawHead.{RawHead}
use Rattle.c_parse.specs.declared.raw.unit.RawItem.{RawItem}
use Rattle.c_parse.specs.declared.raw.unit.RawItem.TheVariants as items
use Rattle.c_parse.specs.declared.raw.unit.RawParam.{RawParam}
use Rattle.c_parse.specs.declared.raw.unit.RawUnit.{RawUnit}
use Rattle.c_check.specs.declared.fault.FrontFault.{FrontFault}
use Rattle.c_check.specs.declared.fault.FrontKind.{FrontKind}
use Rattle.c_check.specs.declared.fault.FrontKind.TheVariants.{BadLiteral, Undeclared, Redeclared, WrongKind, WrongArity, NoMain, Limit}
use Rattle.c_check.specs.Faults.{fault_at, whole_text}

abbrev pub at : ℕ → Place
at column = record { line = 1; column = column }

abbrev pub x_at : Text → ℕ → RawName
x_at text column = record { text = text; place = at column }

abbrev pub stmt_at : ℕ → RawStmt → RawPlaced
stmt_at column s = record { place = at column; stmt = s }

abbrev pub num : ℕ → RawExpr
num n = Number (pos n) W32

abbrev pub var : Text → ℕ → RawExpr
var text column = Name (x_at text column)

abbrev pub f : Text
f = codes "f"

abbrev pub g : Text
g = codes "g"

abbrev pub m : Text
m = codes "m"

abbrev pub t : Text
t = codes "t"

abbrev pub w : Text
w = codes "w"

abbrev pub x : Text
x = codes "x"

abbrev pub main : Text
main = codes "main"

abbrev pub nondet : Text
nondet = codes "__VERIFIER_nondet_int"

abbrev pub int_param : Text → ℕ → RawParam
int_param text column = record { width = W32; name = Some (x_at text column) }

abbrev pub head : Text → ℕ → FuncKind → Width → List RawParam → RawHead
head text column kind width params = record { name = x_at text column; kind = kind; width = width; params = params }

abbrev pub function : RawHead → List RawPlaced → RawItem
function h body = items.Function h (at 99) body

-- ---- items

-- int g = 7;
abbrev pub int_g : RawItem
int_g = items.Global (x_at g 5) W32 (pos 7) (at 9)

-- pthread_mutex_t m = PTHREAD_MUTEX_INITIALIZER;
abbrev pub mutex_m : RawItem
mutex_m = items.Mutex (x_at m 10)

-- long f(int x) { return g; }
abbrev pub long_f : RawItem
long_f = function (head f 20 Int W64 (int_param x 25 ∷ [])) (stmt_at 30 (Return (Value (var g 37))) ∷ [])

-- void *w(void *x) { return NULL; }
abbrev pub thread_w : RawItem
thread_w = function (head w 40 Thread W32 (int_param x 45 ∷ [])) (stmt_at 50 (Return Null) ∷ [])

-- int main(void) { .. }
abbrev pub main_with : List RawPlaced → RawItem
main_with body = function (head main 60 Int W32 []) body

abbrev pub unit_with : List RawPlaced → RawUnit
unit_with body = record { items = int_g ∷ mutex_m ∷ long_f ∷ thread_w ∷ main_with body ∷ [] }

-- ---- a unit without a fault, and what it becomes

-- int x; { long x = x; } pthread_t t; pthread_create(&t, NULL, w, NULL); x = f(x) + g;
abbrev pub good_body : List RawPlaced
good_body =
    stmt_at 61 (Declare W32 (x_at x 62) None)
    ∷ stmt_at 63 (Block (stmt_at 64 (Declare W64 (x_at x 65) (Some (var x 66))) ∷ []))
    ∷ stmt_at 67 (DeclareThread (x_at t 68))
    ∷ stmt_at 69 (Create (x_at t 70) (x_at w 71))
    ∷ stmt_at 72 (Assign (x_at x 72) (Binary Add (Call (x_at f 73) (var x 74 ∷ [])) (var g 75)))
    ∷ []

abbrev pub placed_at : ℕ → Stmt → Placed
placed_at column s = record { place = at column; stmt = s }

abbrev pub slot : Text → Width → Slot
slot name width = record { name = name; width = width }

abbrev pub good_main : Function
good_main = record {
  name = main;
  place = at 60;
  end = at 99;
  kind = Int;
  params = 0;
  slots = slot [] W32 ∷ slot x W32 ∷ slot x W64 ∷ [];
  threads = t ∷ [];
  body =
      placed_at 61 (stmts.Declare 1 None)
      ∷ placed_at 63 (stmts.Block (placed_at 64 (stmts.Declare 2 (Some (exprs.Local 2))) ∷ []))
      ∷ placed_at 67 (stmts.DeclareThread 0)
      ∷ placed_at 69 (stmts.Create 0 1)
      ∷ placed_at 72 (stmts.Assign (targets.Local 1) (exprs.Binary Add (exprs.Call 0 W64 (exprs.Local 1 ∷ [])) (exprs.Global 0 W32)))
      ∷ placed_at 99 (stmts.Return (Some (exprs.Number (pos 0) W32)))
      ∷ [];
}

abbrev pub good_unit : TranslationUnit
good_unit = record {
  funcs =
      record {
        name = f;
        place = at 20;
        end = at 99;
        kind = Int;
        params = 1;
        slots = slot [] W64 ∷ slot x W32 ∷ [];
        threads = [];
        body = placed_at 30 (stmts.Return (Some (exprs.Global 0 W32))) ∷ [];
      }
      ∷ record {
        name = w;
        place = at 40;
        end = at 99;
        kind = Thread;
        params = 0;
        slots = slot [] W32 ∷ [];
        threads = [];
        body = placed_at 50 (stmts.Return None) ∷ [];
      }
      ∷ good_main
      ∷ [];
  globals = record { name = g; width = W32; initial = pos 7 } ∷ [];
  mutexes = m ∷ [];
  main = 2;
}

-- ---- bodies of `main`, each with its faults

abbrev pub BodyRow : Type 0
BodyRow = List RawPlaced × List FrontFault

-- a body of one statement
abbrev pub one : RawStmt → FrontKind → ℕ → BodyRow
one s kind column = (stmt_at 70 s ∷ [], fault_at kind (at column) ∷ [])

abbrev pub fine : List RawPlaced → BodyRow
fine body = (body, [])

-- int x; .. behind it
abbrev pub with_x : RawStmt → List RawPlaced
with_x s = stmt_at 61 (Declare W32 (x_at x 62) None) ∷ stmt_at 70 s ∷ []

-- A name that isn't declared; the same in a block that has ended; a second declaration in a block, and one in an
-- inner block; what is used as what it isn't; calls; jumps and returns; the two names of an arbitrary number.
abbrev pub body_rows : List BodyRow
body_rows =
    fine good_body
    ∷ one (Assert (var x 71)) Undeclared 71
    ∷ (stmt_at 61 (Block (with_x (Assert (var x 71)))) ∷ stmt_at 72 (Assert (var x 73)) ∷ [], fault_at Undeclared (at 73) ∷ [])
    ∷ (with_x (Declare W64 (x_at x 71) None), fault_at Redeclared (at 71) ∷ [])
    ∷ (with_x (DeclareThread (x_at x 71)), fault_at Redeclared (at 71) ∷ [])
    ∷ fine (with_x (Block (stmt_at 71 (DeclareThread (x_at x 72)) ∷ stmt_at 73 (Join (x_at x 74)) ∷ [])))
    ∷ fine (with_x (For (stmt_at 71 (Declare W32 (x_at x 72) None) ∷ []) None None (stmt_at 73 (Block (stmt_at 74 (Declare W32 (x_at x 75) None) ∷ [])))))
    ∷ (stmt_at 61 (DeclareThread (x_at t 62)) ∷ stmt_at 70 (Assert (var t 71)) ∷ [], fault_at WrongKind (at 71) ∷ [])
    ∷ one (Assert (var m 71)) WrongKind 71
    ∷ one (Assert (var f 71)) WrongKind 71
    ∷ one (Assign (x_at w 70) (num 1)) WrongKind 70
    ∷ (with_x (Join (x_at x 71)), fault_at WrongKind (at 71) ∷ [])
    ∷ (with_x (Lock (x_at x 71)), fault_at WrongKind (at 71) ∷ [])
    ∷ (with_x (Create (x_at x 71) (x_at f 72)), fault_at WrongKind (at 71) ∷ fault_at WrongKind (at 72) ∷ [])
    ∷ (with_x (CallOnly (x_at x 71) []), fault_at WrongKind (at 71) ∷ [])
    ∷ fine (stmt_at 70 (CallOnly (x_at f 70) (num 1 ∷ [])) ∷ [])
    ∷ one (CallOnly (x_at f 70) []) WrongArity 70
    ∷ one (Assert (Call (x_at f 71) (num 1 ∷ num 2 ∷ []))) WrongArity 71
    ∷ one (CallOnly (x_at w 70) (num 1 ∷ [])) WrongKind 70
    ∷ one (Assert (Call (x_at main 71) [])) WrongKind 71
    ∷ one (CallOnly (x_at main 70) []) WrongKind 70
    ∷ one (CallOnly (x_at nondet 70) []) WrongKind 70
    ∷ fine (stmt_at 70 (Assert (Call (x_at nondet 71) [])) ∷ [])
    ∷ one (Assert (Call (x_at nondet 71) (num 1 ∷ []))) WrongArity 71
    ∷ one (Assert (var nondet 71)) WrongKind 71
    ∷ (stmt_at 61 (Declare W32 (x_at nondet 62) None) ∷ stmt_at 70 (Assert (var nondet 71)) ∷ [], [])
    ∷ one Break WrongKind 70
    ∷ one (If (num 1) (stmt_at 71 Continue) None) WrongKind 71
    ∷ fine (stmt_at 70 (While (num 1) (stmt_at 71 (Block (stmt_at 72 Break ∷ [])))) ∷ [])
    ∷ one (Return Plain) WrongKind 70
    ∷ one (Return Null) WrongKind 70
    ∷ fine (stmt_at 70 (Return (Value (num 0))) ∷ [])
    ∷ []

-- ---- items, each list with its faults

abbrev pub ItemRow : Type 0
ItemRow = List RawItem × List FrontFault

abbrev pub bare_main : RawItem
bare_main = main_with []

abbrev pub prototype : Text → ℕ → FuncKind → Width → List RawParam → RawItem
prototype text column kind width params = items.Prototype (head text column kind width params)

-- an int function without parameters, and a void one, whose bodies are one statement
abbrev pub int_function : Text → ℕ → RawStmt → RawItem
int_function text column s = function (head text column Int W32 []) (stmt_at (column + 1) s ∷ [])

abbrev pub void_function : Text → ℕ → RawStmt → RawItem
void_function text column s = function (head text column Void W32 []) (stmt_at (column + 1) s ∷ [])

abbrev pub many : ℕ → RawItem → List RawItem
many n item = replicate n item

-- A use of a global above it, and of a function; a global and a function of one name; two definitions; a literal
-- of another type; prototypes; `main`; parameters; the limits.
abbrev pub item_rows : List ItemRow
item_rows =
    (bare_main ∷ [], [])
    ∷ ([], fault_at NoMain whole_text ∷ [])
    ∷ (prototype main 60 Int W32 [] ∷ [], fault_at Undeclared (at 60) ∷ fault_at NoMain whole_text ∷ [])
    ∷ (int_function f 20 (Return (Value (var g 30))) ∷ int_g ∷ bare_main ∷ [], fault_at Undeclared (at 30) ∷ [])
    ∷ (int_function f 20 (Return (Value (Call (x_at w 30) []))) ∷ int_function w 40 (Return (Value (num 0))) ∷ bare_main ∷ [], [])
    ∷ (int_function f 20 (Return Plain) ∷ bare_main ∷ [], fault_at WrongKind (at 21) ∷ [])
    ∷ (void_function f 20 (Return (Value (num 0))) ∷ bare_main ∷ [], fault_at WrongKind (at 21) ∷ [])
    ∷ (void_function f 20 (Return Plain) ∷ bare_main ∷ [], [])
    ∷ (int_g ∷ items.Global (x_at g 20) W64 (pos 0) (at 20) ∷ bare_main ∷ [], fault_at Redeclared (at 20) ∷ [])
    ∷ (int_g ∷ items.Mutex (x_at g 20) ∷ bare_main ∷ [], fault_at Redeclared (at 20) ∷ [])
    ∷ (int_g ∷ int_function g 20 (Return (Value (num 0))) ∷ bare_main ∷ [], fault_at Redeclared (at 20) ∷ [])
    ∷ (int_function f 20 (Return (Value (num 0))) ∷ int_function f 30 (Return (Value (num 0))) ∷ bare_main ∷ [], fault_at Redeclared (at 30) ∷ [])
    ∷ (
      prototype f 10 Int W32 [] ∷ items.Mutex (x_at f 15) ∷ int_function f 20 (Return (Value (num 0))) ∷ bare_main ∷ [],
      fault_at Redeclared (at 15) ∷ fault_at Redeclared (at 20) ∷ [],
    )
    ∷ (items.Global (x_at g 5) W32 (pos 2147483648) (at 9) ∷ bare_main ∷ [], fault_at BadLiteral (at 9) ∷ [])
    ∷ (items.Global (x_at g 5) W64 (pos 2147483648) (at 9) ∷ bare_main ∷ [], [])
    ∷ (prototype f 10 Int W32 [] ∷ bare_main ∷ [], fault_at Undeclared (at 10) ∷ [])
    ∷ (int_function w 20 (Return (Value (Call (x_at f 30) []))) ∷ prototype f 40 Int W32 [] ∷ bare_main ∷ [], fault_at Undeclared (at 40) ∷ [])
    ∷ (long_f ∷ prototype f 45 Int W64 (record { width = W32; name = None } ∷ []) ∷ bare_main ∷ [], fault_at Undeclared (at 37) ∷ [])
    ∷ (int_g ∷ long_f ∷ prototype f 45 Int W32 (int_param x 46 ∷ []) ∷ bare_main ∷ [], fault_at WrongKind (at 45) ∷ [])
    ∷ (int_g ∷ long_f ∷ prototype f 45 Int W64 [] ∷ bare_main ∷ [], fault_at WrongKind (at 45) ∷ [])
    ∷ (int_g ∷ long_f ∷ prototype f 45 Int W64 (record { width = W64; name = None } ∷ []) ∷ bare_main ∷ [], fault_at WrongKind (at 45) ∷ [])
    ∷ (int_g ∷ prototype g 45 Int W32 [] ∷ bare_main ∷ [], fault_at Undeclared (at 45) ∷ fault_at Redeclared (at 45) ∷ [])
    ∷ (prototype nondet 45 Void W64 [] ∷ bare_main ∷ [], [])
    ∷ (prototype nondet 45 Int W32 (int_param x 46 ∷ []) ∷ bare_main ∷ [], fault_at Undeclared (at 45) ∷ fault_at Redeclared (at 45) ∷ [])
    ∷ (items.Mutex (x_at nondet 45) ∷ bare_main ∷ [], fault_at Redeclared (at 45) ∷ [])
    ∷ (items.Mutex (x_at main 45) ∷ bare_main ∷ [], fault_at WrongKind (at 45) ∷ fault_at Redeclared (at 60) ∷ [])
    ∷ (function (head main 60 Int W64 []) [] ∷ [], fault_at WrongKind (at 60) ∷ [])
    ∷ (function (head main 60 Int W32 (int_param x 61 ∷ [])) [] ∷ [], fault_at WrongKind (at 60) ∷ [])
    ∷ (function (head f 20 Int W32 (int_param x 21 ∷ int_param x 22 ∷ [])) [] ∷ bare_main ∷ [], fault_at Redeclared (at 22) ∷ [])
    ∷ (function (head f 20 Int W32 (int_param x 21 ∷ [])) (stmt_at 30 (Declare W32 (x_at x 31) None) ∷ []) ∷ bare_main ∷ [], fault_at Redeclared (at 31) ∷ [])
    ∷ (function (head w 20 Thread W32 (int_param x 21 ∷ [])) (stmt_at 30 (Assert (var x 31)) ∷ []) ∷ bare_main ∷ [], fault_at WrongKind (at 31) ∷ [])
    ∷ []

-- ---- limits: the items alone, as if each had a name of its own

abbrev pub limit_rows : List ItemRow
limit_rows =
    (many 128 bare_main, [])
    ∷ (many 129 bare_main, fault_at Limit (at 60) ∷ [])
    ∷ (function (head f 20 Int W32 (replicate 8 (int_param x 21))) [] ∷ [], [])
    ∷ (function (head f 20 Int W32 (replicate 8 (int_param x 21) ++ int_param x 22 ∷ [])) [] ∷ [], fault_at Limit (at 22) ∷ [])
    ∷ (many 64 int_g, [])
    ∷ (many 65 int_g, fault_at Limit (at 5) ∷ [])
    ∷ (many 8 mutex_m, [])
    ∷ (many 9 mutex_m, fault_at Limit (at 10) ∷ [])
    ∷ []
