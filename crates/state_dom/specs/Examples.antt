-- Expressions, evaluated and guarded by hand.
use Rattle.std.specs.Prelude.{ℤ, pos, true, List, [], ◌∷◌, map, None}
use Rattle.gob_tree.specs.declared.expr.Width.{Width}
use Rattle.gob_tree.specs.declared.expr.Width.TheVariants.{W32, W64}
use Rattle.gob_tree.specs.declared.expr.BinOp.{BinOp}
use Rattle.gob_tree.specs.declared.expr.BinOp.TheVariants.{Add, Div, Lt, Gt, Eq, And, Or}
use Rattle.gob_tree.specs.declared.expr.Expr.{Expr, Number, Local, Binary}
use Rattle.gob_tree.specs.declared.graph.Action.{Action}
use Rattle.gob_tree.specs.declared.graph.Action.TheVariants.{Guard, Assert, Call, Read}
use Rattle.gob_tree.specs.declared.graph.Edge.{Edge}
use Rattle.gob_tree.specs.declared.graph.FuncGraph.{FuncGraph}
use Rattle.gob_tree.specs.declared.graph.Program.{Program}
use Rattle.gob_tree.specs.declared.unit.FuncKind.TheVariants.{Void}
use Rattle.gob_tree.specs.declared.unit.GlobalDecl.{GlobalDecl}
use Rattle.gob_tree.specs.declared.unit.Slot.{Slot}
use Rattle.interval_dom.specs.Bounds.{Bounds, between}
use Rattle.state_dom.specs.StateValue.{StateValue, Reached}

abbrev pub int_slot : Slot
int_slot = record { name = []; width = W32 }

abbrev pub long_slot : Slot
long_slot = record { name = []; width = W64 }

-- x in slot 0 and y in slot 1
abbrev pub two_ints : List Slot
two_ints = int_slot ∷ int_slot ∷ []

abbrev pub two_longs : List Slot
two_longs = long_slot ∷ long_slot ∷ []

-- both with their intervals, and no mutex held
abbrev pub both : Bounds → Bounds → StateValue
both x y = Reached (x ∷ y ∷ []) 0

abbrev pub to_ten : Bounds
to_ten = between (pos 0) (pos 10)

abbrev pub five_to_eight : Bounds
five_to_eight = between (pos 5) (pos 8)

abbrev pub just : ℤ → Bounds
just n = between n n

abbrev pub x_with : BinOp → ℤ → Expr
x_with op n = Binary op (Local 0) (Number n W32)

-- x < y
abbrev pub less : Expr
less = Binary Lt (Local 0) (Local 1)

-- x < x
abbrev pub less_than_itself : Expr
less_than_itself = Binary Lt (Local 0) (Local 0)

-- x == y
abbrev pub equal : Expr
equal = Binary Eq (Local 0) (Local 1)

-- x < 3 || x > 7, and x < 3 && x > 0
abbrev pub either_side : Expr
either_side = Binary Or (x_with Lt (pos 3)) (x_with Gt (pos 7))

abbrev pub inside : Expr
inside = Binary And (x_with Lt (pos 3)) (x_with Gt (pos 0))

-- 1 / 0
abbrev pub no_value : Expr
no_value = Binary Div (Number (pos 1) W32) (Number (pos 0) W32)

-- x + 1
abbrev pub one_more : Expr
one_more = x_with Add (pos 1)

-- ---- thresholds

abbrev edge : Action → Edge
edge act = record { from = 0; act = act; to = 1 }

abbrev function_with : List Slot → List Action → FuncGraph
function_with slots acts = record { name = []; kind = Void; params = 0; slots = slots; threads = []; nodes = []; edges = map edge acts }

abbrev program_with : List Slot → List Action → List GlobalDecl → Program
program_with slots acts globals = record { funcs = function_with slots acts ∷ []; globals = globals; mutexes = []; main = 0 }

abbrev global_with : Width → ℤ → GlobalDecl
global_with w n = record { name = []; width = w; initial = n }

-- a guard x < 10, an assertion x < 3, a call of 7, a read, and a global that begins with 20
abbrev pub small_program : Program
small_program = program_with two_ints (Guard (x_with Lt (pos 10)) true ∷ Assert (x_with Lt (pos 3)) ∷ Call None 0 (Number (pos 7) W32 ∷ []) ∷ Read 0 0 ∷ []) (global_with W32 (pos 20) ∷ [])

-- two globals that begin with the greatest int, of which one is a long
abbrev pub wide_program : Program
wide_program = program_with two_ints [] (global_with W32 (pos 2147483647) ∷ global_with W64 (pos 2147483647) ∷ [])

abbrev pub int_program : Program
int_program = program_with two_ints [] (global_with W32 (pos 2147483647) ∷ [])
