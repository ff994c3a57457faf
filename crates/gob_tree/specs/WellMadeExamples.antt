-- A well-made unit, and for each kind of statement and expression one that may stand in it and one
-- that may not; a program that is formed, and one that isn't.
use Rattle.std.specs.Prelude.{ℕ, pos, negsuc, List, [], ◌∷◌, None, Some}
use Rattle.gob_tree.specs.declared.place.Place.{Place}
use Rattle.gob_tree.specs.declared.expr.Width.{Width}
use Rattle.gob_tree.specs.declared.expr.Width.TheVariants.{W32, W64}
use Rattle.gob_tree.specs.declared.expr.UnOp.TheVariants.{Neg}
use Rattle.gob_tree.specs.declared.expr.BinOp.TheVariants.{Add}
use Rattle.gob_tree.specs.declared.expr.Expr.{Expr, Number, Local, Global, Nondet, Unary, Binary, Call}
use Rattle.gob_tree.specs.declared.stmt.Target as Target
use Rattle.gob_tree.specs.declared.stmt.Stmt.{Stmt, Declare, DeclareThread, Assign, CallOnly, If, While, DoWhile, For, Block, Break, Continue, Return, Create, Join, Lock, Unlock, Assert, Empty}
use Rattle.gob_tree.specs.declared.stmt.Placed.{Placed}
use Rattle.gob_tree.specs.declared.graph.Action.TheVariants.{Assign as AssignEdge}
use Rattle.gob_tree.specs.declared.graph.Program.{Program}
use Rattle.gob_tree.specs.declared.text.Text.{Text}
use Rattle.gob_tree.specs.declared.unit.FuncKind.{FuncKind}
use Rattle.gob_tree.specs.declared.unit.FuncKind.TheVariants.{Int, Void, Thread}
use Rattle.gob_tree.specs.declared.unit.Slot.{Slot}
use Rattle.gob_tree.specs.declared.unit.Function.{Function}
use Rattle.gob_tree.specs.declared.unit.Unit.{Unit as TranslationUnit}

abbrev pub somewhere : Place
somewhere = record { line = 1; column = 1 }

abbrev pub placed : Stmt → Placed
placed s = record { place = somewhere; stmt = s }

abbrev pub int : ℕ → Expr
int n = Number (pos n) W32

abbrev pub int_slot : Slot
int_slot = record { name = []; width = W32 }

abbrev pub function : List ℕ → FuncKind → ℕ → List Slot → List Text → List Placed → Function
function name kind params slots threads body =
    record { name = name; place = somewhere; end = somewhere; kind = kind; params = params; slots = slots; threads = threads; body = body }

-- ---- a unit

-- long f(int n) { return g; }, whose name is its number
abbrev pub long_function : Function
long_function = function (1 ∷ []) Int 1 (record { name = []; width = W64 } ∷ int_slot ∷ []) [] (placed (Return (Some (Global 0 W32))) ∷ [])

-- void *w(void *a) { return NULL; }
abbrev pub thread_function : Function
thread_function = function (2 ∷ []) Thread 0 (int_slot ∷ []) [] (placed (Return None) ∷ [])

-- void p(void) { return; }
abbrev pub void_function : Function
void_function = function (3 ∷ []) Void 0 (int_slot ∷ []) [] (placed (Return None) ∷ [])

-- int main(void) { pthread_t t; int x; .. return x; }
abbrev pub main_function : List Placed → Function
main_function body = function (4 ∷ []) Int 0 (int_slot ∷ int_slot ∷ []) ([] ∷ []) body

abbrev pub main_body : List Placed
main_body =
    placed (DeclareThread 0)
    ∷ placed (Declare 1 (Some (Nondet W32)))
    ∷ placed (Create 0 1)
    ∷ placed (While (Local 1) (placed (If (Local 1) (placed Break) (Some (placed Continue)))))
    ∷ placed (Return (Some (Local 1)))
    ∷ []

-- functions 0 to 3, one int global and one mutex
abbrev pub unit_with : List Placed → TranslationUnit
unit_with body = record {
  funcs = long_function ∷ thread_function ∷ void_function ∷ main_function body ∷ [];
  globals = record { name = 5 ∷ []; width = W32; initial = pos 7 } ∷ [];
  mutexes = (6 ∷ []) ∷ [];
  main = 3;
}

abbrev pub good_unit : TranslationUnit
good_unit = unit_with main_body

-- the same unit with another `main`
abbrev pub sample : Function
sample = main_function main_body

-- ---- expressions

abbrev pub good_exprs : List Expr
good_exprs =
    int 2147483647
    ∷ Number (pos 2147483648) W64
    ∷ Local 1
    ∷ Global 0 W32
    ∷ Nondet W64
    ∷ Unary Neg (Local 1)
    ∷ Binary Add (Local 1) (Global 0 W32)
    ∷ Call 0 W64 (int 1 ∷ [])
    ∷ []

-- a literal above its width, one with a sign, slot 0, a local too far, a global of another width,
-- one that isn't there, a wrong operand; calls with an argument less, of another width, of a thread
-- function, of a void one, of `main`, and with a wrong argument
abbrev pub bad_exprs : List Expr
bad_exprs =
    int 2147483648
    ∷ Number (negsuc 0) W32
    ∷ Local 0
    ∷ Local 2
    ∷ Global 0 W64
    ∷ Global 1 W32
    ∷ Unary Neg (Local 2)
    ∷ Binary Add (Local 1) (Local 2)
    ∷ Call 0 W64 []
    ∷ Call 0 W32 (int 1 ∷ [])
    ∷ Call 1 W32 []
    ∷ Call 2 W32 []
    ∷ Call 3 W32 []
    ∷ Call 0 W64 (Local 2 ∷ [])
    ∷ []

-- ---- statements

abbrev pub increment : Placed
increment = placed (Assign (Target.TheVariants.Local 1) (Binary Add (Local 1) (int 1)))

abbrev pub good_stmts : List Placed
good_stmts =
    placed (Declare 1 None)
    ∷ placed (DeclareThread 0)
    ∷ increment
    ∷ placed (Assign (Target.TheVariants.Global 0) (int 1))
    ∷ placed (CallOnly 2 [])
    ∷ placed (CallOnly 0 (int 1 ∷ []))
    ∷ placed (If (Local 1) (placed Empty) None)
    ∷ placed (DoWhile (placed Break) (Local 1))
    ∷ placed (For (placed (Declare 1 None) ∷ []) None (Some increment) (placed (Block (placed Continue ∷ []))))
    ∷ placed (Return (Some (int 0)))
    ∷ placed (Create 0 1)
    ∷ placed (Join 0)
    ∷ placed (Lock 0)
    ∷ placed (Unlock 0)
    ∷ placed (Assert (Local 1))
    ∷ []

-- numbers out of range; calls of a thread function and of `main`; a wrong condition, a jump in a
-- branch outside of a loop; a `for` with a block as its first part, with a wrong condition, with a
-- `break` as its last part; jumps outside of loops; a return without a value; a start of a function
-- that is none for a thread; numbers out of range again; a wrong assertion
abbrev pub bad_stmts : List Placed
bad_stmts =
    placed (Declare 2 None)
    ∷ placed (DeclareThread 1)
    ∷ placed (Assign (Target.TheVariants.Local 0) (int 1))
    ∷ placed (Assign (Target.TheVariants.Global 1) (int 1))
    ∷ placed (CallOnly 1 [])
    ∷ placed (CallOnly 3 [])
    ∷ placed (If (Local 2) (placed Empty) None)
    ∷ placed (If (Local 1) (placed Empty) (Some (placed Break)))
    ∷ placed (While (Local 2) (placed Empty))
    ∷ placed (DoWhile (placed Empty) (Local 2))
    ∷ placed (For (placed (Block []) ∷ []) None None (placed Empty))
    ∷ placed (For [] (Some (Local 2)) None (placed Empty))
    ∷ placed (For [] None (Some (placed Break)) (placed Empty))
    ∷ placed (Block (placed Empty ∷ placed Continue ∷ []))
    ∷ placed Break
    ∷ placed (Return None)
    ∷ placed (Create 0 0)
    ∷ placed (Create 1 1)
    ∷ placed (Join 1)
    ∷ placed (Lock 1)
    ∷ placed (Unlock 1)
    ∷ placed (Assert (Local 2))
    ∷ []

-- ---- programs

-- a program of `main` alone, with a returned value of this width
abbrev pub program_returning : Width → Program
program_returning w = record {
  funcs = record {
    name = [];
    kind = Int;
    params = 0;
    slots = record { name = []; width = w } ∷ [];
    threads = [];
    nodes = somewhere ∷ somewhere ∷ [];
    edges = record { from = 0; act = AssignEdge 0 (Number (pos 0) w); to = 1 } ∷ [];
  } ∷ [];
  globals = [];
  mutexes = [];
  main = 0;
}
