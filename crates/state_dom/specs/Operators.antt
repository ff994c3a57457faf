-- What the operators of the language make of intervals, each at its width. Where an operand or
-- the result has no value there is no interval.
--
-- A reader should check: that sums, differences, products, quotients and a changed sign go to the
-- operator's width, that comparisons take the numbers as they are, and what `&&` and `||` give
-- where the left operand decides alone.
use Rattle.std.specs.Prelude.{pos, Bool, true, false, not, Option, Some, None, option_map, option_and_then, if◌then◌else◌}
use Rattle.gob_tree.specs.declared.expr.UnOp.{UnOp}
use Rattle.gob_tree.specs.declared.expr.UnOp.TheVariants.{Neg, Not}
use Rattle.gob_tree.specs.declared.expr.BinOp.{BinOp}
use Rattle.gob_tree.specs.declared.expr.BinOp.TheVariants.{Add, Sub, Mul, Div, Rem, Lt, Le, Gt, Ge, Eq, Ne, And, Or}
use Rattle.gob_tree.specs.declared.expr.Width.{Width}
use Rattle.gob_tree.specs.declared.expr.Width.TheVariants.{W32, W64}
use Rattle.interval_dom.specs.declared.cmp.Cmp.TheVariants.{Lt as Less, Le as AtMost, Gt as Greater, Ge as AtLeast, Eq as Equal, Ne as Unequal}
use Rattle.interval_dom.specs.declared.width.Width.{Width as IntervalWidth}
use Rattle.interval_dom.specs.declared.width.Width.TheVariants.{W32 as Bits32, W64 as Bits64}
use Rattle.interval_dom.specs.Bounds.{Bounds, between, hull}
use Rattle.interval_dom.specs.Comparisons.{surely, comparison}
use Rattle.interval_dom.specs.Quotients.{quotients, remainders}
use Rattle.interval_dom.specs.Ranges.{full, fitted, sums, differences, products, opposites}

-- ---- widths

abbrev pub interval_width_of : Width → IntervalWidth
interval_width_of W32 = Bits32
interval_width_of W64 = Bits64

-- an interval as it goes to a place of this width: itself where it lies in the width's range, else
-- the whole range
abbrev pub converted_to : Width → Bounds → Bounds
converted_to w v = fitted (interval_width_of w) v

-- all numbers of a width
abbrev pub full_of : Width → Bounds
full_of w = full (interval_width_of w)

-- ---- truth

abbrev pub zero_alone : Bounds
zero_alone = between (pos 0) (pos 0)

abbrev pub one_alone : Bounds
one_alone = between (pos 1) (pos 1)

abbrev pub is_surely_zero : Bounds → Bool
is_surely_zero v = surely Equal v zero_alone

abbrev pub lacks_zero : Bounds → Bool
lacks_zero v = surely Unequal v zero_alone

-- [0,0] where it is surely 0, [1,1] where 0 is not in it, else [0,1]
abbrev pub truth_of : Bounds → Bounds
truth_of v = comparison Unequal v zero_alone

-- some number of the interval has the wanted truth, where there is an interval
abbrev pub may_be : Bool → Option Bounds → Bool
may_be wanted None = false
may_be true (Some v) = not (is_surely_zero v)
may_be false (Some v) = not (lacks_zero v)

-- ---- operators

abbrev pub unary_interval : UnOp → Width → Bounds → Bounds
unary_interval Neg w v = converted_to w (opposites v)
unary_interval Not w v = comparison Equal v zero_alone

-- an operation on two intervals, where both are there
abbrev pub on_both : (Bounds → Bounds → Option Bounds) → Option Bounds → Option Bounds → Option Bounds
on_both f None b = None
on_both f (Some x) None = None
on_both f (Some x) (Some y) = f x y

-- what the left operand decides alone, and the right one's truth beside it where it has a value
abbrev pub joined_truth : Bounds → Option Bounds → Bounds
joined_truth decided None = decided
joined_truth decided (Some r) = hull decided (truth_of r)

-- `l && r` for a left operand with a value: 0 where l is surely 0; r's truth where l lacks 0; else
-- 0 joined with r's truth
abbrev pub conjunction : Bounds → Option Bounds → Option Bounds
conjunction l r =
    if is_surely_zero l
    then Some zero_alone
    else (if lacks_zero l then option_map truth_of r else Some (joined_truth zero_alone r))

-- `l || r` likewise: 1 where l lacks 0; r's truth where l is surely 0; else 1 joined with r's truth
abbrev pub disjunction : Bounds → Option Bounds → Option Bounds
disjunction l r =
    if lacks_zero l
    then Some one_alone
    else (if is_surely_zero l then option_map truth_of r else Some (joined_truth one_alone r))

-- an operator at the wider of its operands' widths
abbrev pub binary_interval : BinOp → Width → Option Bounds → Option Bounds → Option Bounds
binary_interval Add w l r = on_both (λ x y. Some (converted_to w (sums x y))) l r
binary_interval Sub w l r = on_both (λ x y. Some (converted_to w (differences x y))) l r
binary_interval Mul w l r = on_both (λ x y. Some (converted_to w (products x y))) l r
binary_interval Div w l r = on_both (λ x y. option_map (converted_to w) (quotients x y)) l r
binary_interval Rem w l r = on_both remainders l r
binary_interval Lt w l r = on_both (λ x y. Some (comparison Less x y)) l r
binary_interval Le w l r = on_both (λ x y. Some (comparison AtMost x y)) l r
binary_interval Gt w l r = on_both (λ x y. Some (comparison Greater x y)) l r
binary_interval Ge w l r = on_both (λ x y. Some (comparison AtLeast x y)) l r
binary_interval Eq w l r = on_both (λ x y. Some (comparison Equal x y)) l r
binary_interval Ne w l r = on_both (λ x y. Some (comparison Unequal x y)) l r
binary_interval And w l r = option_and_then (λ x. conjunction x r) l
binary_interval Or w l r = option_and_then (λ x. disjunction x r) l
