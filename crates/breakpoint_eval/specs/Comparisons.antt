-- Conditions that compare one local with one number.
use Rattle.std.specs.Prelude.{◌≡◌, ◌≤ℤ◌, true, List, Option, None, Some, slice_get}
use Rattle.gob_tree.specs.declared.expr.BinOp.{BinOp}
use Rattle.gob_tree.specs.declared.expr.BinOp.TheVariants.{Lt, Le, Gt, Ge, Eq, Ne}
use Rattle.gob_tree.specs.declared.expr.Expr.{Expr}
use Rattle.gob_tree.specs.declared.unit.Slot.{Slot}
use Rattle.interval_dom.specs.Bounds.{Bounds}
use Rattle.lane_bounds.specs.declared.cmp.Cmp.{Cmp}
use Rattle.lane_bounds.specs.declared.cmp.Cmp.TheVariants.{Lt as Less, Le as AtMost, Gt as Greater, Ge as AtLeast, Eq as Equal, Ne as Unequal}
use Rattle.lane_bounds.specs.Comparisons.{holds_for_some}
use Rattle.state_dom.specs.Evaluation.{interval_of}
use Rattle.state_dom.specs.Operators.{may_be}
use Rattle.breakpoint_eval.specs.declared.comparison.Compared.{Compared}

abbrev pub comparison_of : BinOp → Option Cmp
comparison_of Lt = Some Less
comparison_of Le = Some AtMost
comparison_of Gt = Some Greater
comparison_of Ge = Some AtLeast
comparison_of Eq = Some Equal
comparison_of Ne = Some Unequal
comparison_of op = None

-- the comparison with its operands exchanged
abbrev pub turned_of : Cmp → Cmp
turned_of Less = Greater
turned_of AtMost = AtLeast
turned_of Greater = Less
turned_of AtLeast = AtMost
turned_of Equal = Equal
turned_of Unequal = Unequal

-- An expression over places may be other than 0 exactly where a comparison holds for some number of a
-- slot's interval, whatever the intervals.
abbrev pub IsComparison : Expr → Compared → Type 0
IsComparison x by =
    (slots : List Slot) (xs : List Bounds) (v : Bounds) → slice_get xs by.slot ≡ Some v → v.lo ≤ℤ v.hi
    → may_be true (interval_of slots xs x) ≡ holds_for_some by.op by.number v.lo v.hi
