-- The analysis' reading of an expression: its interval in a state, and what a state becomes where
-- the expression is to be true or false. Both are one fold, since a guard evaluates parts in the
-- states that come in there.
--
-- A reader should check: that each level of a guard is Bottom where its own evaluation in the state
-- that comes in has no value or surely the other truth; that the right operand of a comparison is
-- refined by the left one's new interval; and which two states `&&` and `||` join.
use Rattle.std.specs.Prelude.{ℕ, Bool, true, false, not, List, Option, Some, None, slice_get, slice_set, option_map, option_and_then, if◌then◌else◌}
use Rattle.gob_tree.specs.declared.expr.BinOp.{BinOp}
use Rattle.gob_tree.specs.declared.expr.BinOp.TheVariants.{Lt, Le, Gt, Ge, Eq, Ne, And, Or}
use Rattle.gob_tree.specs.declared.expr.UnOp.TheVariants.{Not}
use Rattle.gob_tree.specs.declared.expr.Expr.{Expr}
use Rattle.gob_tree.specs.declared.expr.Expr.TheOpen.{Expr-F}
use Rattle.gob_tree.specs.declared.expr.Expr.TheFolds.{fold-Expr}
use Rattle.gob_tree.specs.declared.expr.Width.{Width}
use Rattle.gob_tree.specs.declared.unit.Slot.{Slot}
use Rattle.interval_dom.specs.declared.cmp.Cmp.{Cmp}
use Rattle.interval_dom.specs.declared.cmp.Cmp.TheVariants.{Lt as Less, Le as AtMost, Gt as Greater, Ge as AtLeast, Eq as Equal, Ne as Unequal}
use Rattle.interval_dom.specs.Bounds.{Bounds, between}
use Rattle.interval_dom.specs.Comparisons.{opposite_of, turned_of, refined}
use Rattle.c_meaning.specs.Demand.{slot_width, unary_width, binary_width, wider}
use Rattle.state_dom.specs.Operators.{zero_alone, may_be, unary_interval, binary_interval}
use Rattle.state_dom.specs.StateValue.{StateValue, Bottom, Reached, room_of, slots_of, locks_of, join_of}

-- Of an expression among a function's slots: the local that it is, if it is one; its width; its
-- interval by those of the slots, where it has a value; and the state in which it has a truth.
pub record Reading : Type 0 where
  pub local : Option ℕ
  pub width : Width
  pub interval : List Bounds → Option Bounds
  pub guarded : Bool → StateValue → StateValue

-- ---- evaluation

abbrev pub local_step : Expr-F Reading → Option ℕ
local_step (Expr-F.Local x) = Some x
local_step other = None

abbrev pub width_step : List Slot → Expr-F Reading → Width
width_step slots (Expr-F.Number n w) = w
width_step slots (Expr-F.Local x) = slot_width slots x
width_step slots (Expr-F.Global g w) = w
width_step slots (Expr-F.Nondet w) = w
width_step slots (Expr-F.Unary op a) = unary_width op a.width
width_step slots (Expr-F.Binary op a b) = binary_width op a.width b.width
width_step slots (Expr-F.Call f w args) = w

-- globals, arbitrary numbers and calls stand in no expression of an edge, and have no value here
abbrev pub interval_step : Expr-F Reading → List Bounds → Option Bounds
interval_step (Expr-F.Number n w) xs = Some (between n n)
interval_step (Expr-F.Local x) xs = slice_get xs x
interval_step (Expr-F.Global g w) xs = None
interval_step (Expr-F.Nondet w) xs = None
interval_step (Expr-F.Unary op a) xs = option_map (unary_interval op a.width) (a.interval xs)
interval_step (Expr-F.Binary op a b) xs = binary_interval op (wider a.width b.width) (a.interval xs) (b.interval xs)
interval_step (Expr-F.Call f w args) xs = None

-- ---- guards

-- an expression's interval in a state; from Bottom there is none
abbrev pub value_in : (List Bounds → Option Bounds) → StateValue → Option Bounds
value_in interval (Bottom room) = None
value_in interval (Reached xs locks) = interval xs

-- what is left of a slot's interval goes back into the slot
abbrev pub with_left : StateValue → ℕ → Option Bounds → StateValue
with_left s x None = Bottom (room_of s)
with_left s x (Some v) = Reached (slice_set (slots_of s) x v) (locks_of s)

-- an operand that is a local, where it stands in the comparison with a number of the other one
abbrev pub refined_by : Cmp → Option ℕ → Option Bounds → StateValue → StateValue
refined_by op None other s = s
refined_by op (Some x) other s =
    with_left s x (option_and_then (λ v. option_and_then (refined op v) other) (slice_get (slots_of s) x))

-- the left operand by the right one's interval, then the right one by the left one's new interval
abbrev pub compared : Cmp → Reading → Reading → StateValue → StateValue
compared op a b s =
    let first = refined_by op a.local (value_in b.interval s) s in
    refined_by (turned_of op) b.local (value_in a.interval first) first

-- the comparison, or where it is unwanted its opposite
abbrev pub as_wanted : Bool → Cmp → Cmp
as_wanted true op = op
as_wanted false op = opposite_of op

abbrev pub compared_by : BinOp → Reading → Reading → Bool → StateValue → StateValue
compared_by Lt a b wanted s = compared (as_wanted wanted Less) a b s
compared_by Le a b wanted s = compared (as_wanted wanted AtMost) a b s
compared_by Gt a b wanted s = compared (as_wanted wanted Greater) a b s
compared_by Ge a b wanted s = compared (as_wanted wanted AtLeast) a b s
compared_by Eq a b wanted s = compared (as_wanted wanted Equal) a b s
compared_by Ne a b wanted s = compared (as_wanted wanted Unequal) a b s
compared_by op a b wanted s = s

abbrev pub guarded_binary : BinOp → Reading → Reading → Bool → StateValue → StateValue
guarded_binary And a b true s = b.guarded true (a.guarded true s)
guarded_binary And a b false s = join_of (a.guarded false s) (b.guarded false (a.guarded true s))
guarded_binary Or a b true s = join_of (a.guarded true s) (b.guarded true (a.guarded false s))
guarded_binary Or a b false s = b.guarded false (a.guarded false s)
guarded_binary op a b wanted s = compared_by op a b wanted s

-- by the form of the expression
abbrev pub guarded_form : Expr-F Reading → Bool → StateValue → StateValue
guarded_form (Expr-F.Local x) wanted s = refined_by (as_wanted wanted Unequal) (Some x) (Some zero_alone) s
guarded_form (Expr-F.Unary Not a) wanted s = a.guarded (not wanted) s
guarded_form (Expr-F.Binary op a b) wanted s = guarded_binary op a b wanted s
guarded_form other wanted s = s

-- a state at which the expression may have the wanted truth, refined by its form; else Bottom
abbrev pub guarded_step : Expr-F Reading → Bool → StateValue → StateValue
guarded_step e wanted s =
    if may_be wanted (value_in (interval_step e) s) then guarded_form e wanted s else Bottom (room_of s)

-- ---- expressions

abbrev pub reading_step : List Slot → Expr-F Reading → Reading
reading_step slots e = record {
  local = local_step e;
  width = width_step slots e;
  interval = interval_step e;
  guarded = guarded_step e;
}

abbrev pub reading_of : List Slot → Expr → Reading
reading_of slots = fold-Expr Reading (reading_step slots)

-- the interval of an expression by those of the slots, where it has a value
abbrev pub interval_of : List Slot → List Bounds → Expr → Option Bounds
interval_of slots xs e = (reading_of slots e).interval xs

-- what a state becomes where the expression has the wanted truth
abbrev pub guarded_by : List Slot → Expr → Bool → StateValue → StateValue
guarded_by slots e wanted s = (reading_of slots e).guarded wanted s
