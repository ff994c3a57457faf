-- The value of an operator is in the interval of the operator, for values in the operands' intervals.
use Rattle.std.proofs.Common.{◌≡◌, ◌∙◌, refl, sym, subst, ℤ, pos, ◌≤ℤ◌, ◌<ℤ◌, neg_ℤ, Bool, true, false, cond, IsTrue, Option, Some, None, Result, Ok, Err, IsSomeAnd, arith}
use Rattle.std.specs.Prelude.{int_le, int_lt, int_div, int_rem, not, option_map}
use Rattle.std.specs.Ordering.{int_eq}
use Rattle.std.proofs.lemmas.Bool.{and_parts, cond_both}
use Rattle.std.proofs.lemmas.Int.{ints, clamps}
use Rattle.gob_tree.specs.Widths.{fits, lowest, greatest}
use Rattle.gob_tree.specs.declared.expr.UnOp.{UnOp}
use Rattle.gob_tree.specs.declared.expr.UnOp.TheVariants.{Neg, Not}
use Rattle.gob_tree.specs.declared.expr.BinOp.{BinOp}
use Rattle.gob_tree.specs.declared.expr.BinOp.TheVariants.{Add, Sub, Mul, Div, Rem, Lt, Le, Gt, Ge, Eq, Ne, And, Or}
use Rattle.gob_tree.specs.declared.expr.Width.{Width}
use Rattle.gob_tree.specs.declared.expr.Width.TheVariants.{W32, W64}
use Rattle.c_meaning.specs.declared.demand.Demand.{Demand}
use Rattle.c_meaning.specs.declared.demand.Demand.TheVariants.{Fault}
use Rattle.c_meaning.specs.Demand.{conversion, wider, truth, is_zero, unary_value, binary_value, unary_width, binary_width}
use Rattle.interval_dom.specs.declared.cmp.Cmp.{Cmp}
use Rattle.interval_dom.specs.declared.cmp.Cmp.TheVariants.{Lt as Less, Le as AtMost, Gt as Greater, Ge as AtLeast, Eq as Equal, Ne as Unequal}
use Rattle.interval_dom.specs.Bounds.{Bounds, between, Describes, hull}
use Rattle.interval_dom.specs.Comparisons.{Relates, comparison}
use Rattle.interval_dom.specs.Quotients.{quotients, remainders}
use Rattle.interval_dom.specs.Ranges.{IsOfWidth, wrapped, sums, differences, products, opposites}
use Rattle.interval_dom.proofs.Comparing.{Relates-surely, comparison-holds, comparison-fails}
use Rattle.interval_dom.proofs.Corners.{Describes-products}
use Rattle.interval_dom.proofs.Dividing.{IsSomeAnd-fitted_quotients, IsSomeAnd-remainders, wrapped-int_rem}
use Rattle.interval_dom.proofs.Fitting.{IsOfWidth-wrapped, Describes-fitted, Describes-sums, Describes-differences, Describes-opposites}
use Rattle.state_dom.specs.Operators.{interval_width_of, converted_to, zero_alone, one_alone, is_surely_zero, lacks_zero, truth_of, joined_truth, conjunction, disjunction, unary_interval, binary_interval}

test_passes : (x y : ℤ) → x ≤ℤ y → int_le x y ≡ true
test_passes x y h = grind (arith, ints)

test_means : (x y : ℤ) → int_le x y ≡ true → x ≤ℤ y
test_means x y h = grind (arith, ints)

-- ---- widths

lowest_is : (w : Width) (n : ℤ) → IsTrue (fits w n) → IsOfWidth (interval_width_of w) n
lowest_is W32 n fit = let ends = and_parts (int_le (lowest W32) n) (int_le n (greatest W32)) fit in (test_means (lowest W32) n ends.0, test_means n (greatest W32) ends.1)
lowest_is W64 n fit = let ends = and_parts (int_le (lowest W64) n) (int_le n (greatest W64)) fit in (test_means (lowest W64) n ends.0, test_means n (greatest W64) ends.1)

-- a number of a width, in the words of trees and of intervals
pub IsOfWidth-fits : (w : Width) (n : ℤ) → IsTrue (fits w n) → IsOfWidth (interval_width_of w) n
IsOfWidth-fits w n fit = lowest_is w n fit

pub fits-IsOfWidth : (w : Width) (n : ℤ) → IsOfWidth (interval_width_of w) n → IsTrue (fits w n)
fits-IsOfWidth W32 n (low, high) = rw (test_passes (lowest W32) n low, test_passes n (greatest W32) high) refl
fits-IsOfWidth W64 n (low, high) = rw (test_passes (lowest W64) n low, test_passes n (greatest W64) high) refl

-- a conversion, in the words of trees and of intervals
pub conversion-wrapped : (w : Width) (n : ℤ) → conversion w n ≡ wrapped (interval_width_of w) n
conversion-wrapped W32 n = refl
conversion-wrapped W64 n = refl

pub fits-conversion : (w : Width) (n : ℤ) → IsTrue (fits w (conversion w n))
fits-conversion W32 n = fits-IsOfWidth W32 (conversion W32 n) (IsOfWidth-wrapped (interval_width_of W32) n)
fits-conversion W64 n = fits-IsOfWidth W64 (conversion W64 n) (IsOfWidth-wrapped (interval_width_of W64) n)

-- what is stored goes with the interval that is stored
pub Describes-conversion : (w : Width) (v : Bounds) (n : ℤ) → Describes v n → Describes (converted_to w v) (conversion w n)
Describes-conversion W32 v n within = Describes-fitted (interval_width_of W32) v n within
Describes-conversion W64 v n within = Describes-fitted (interval_width_of W64) v n within

fits_wide : (n : ℤ) → IsTrue (fits W32 n) → IsTrue (fits W64 n)
fits_wide n fit = let within = IsOfWidth-fits W32 n fit in fits-IsOfWidth W64 n (omega (arith, ints), omega (arith, ints))

fits_wider_left : (v w : Width) (n : ℤ) → IsTrue (fits v n) → IsTrue (fits (wider v w) n)
fits_wider_left W32 W32 n fit = fit
fits_wider_left W32 W64 n fit = fits_wide n fit
fits_wider_left W64 w n fit = fit

-- ---- values

-- a value of the width that is in the interval, or no value
abbrev pub IsSoundValue : Width → Option Bounds → Result ℤ Demand → Type 0
IsSoundValue w v (Ok n) = IsTrue (fits w n) × IsSomeAnd v (λ b. Describes b n)
IsSoundValue w v (Err demand) = Unit {0}

fits_truth : (b : Bool) → IsTrue (fits W32 (truth b))
fits_truth true = refl
fits_truth false = refl

-- a comparison's value, by a test that decides it
compared_value : (op : Cmp) (x y : Bounds) (n m : ℤ) (b : Bool) → (b ≡ true → Relates op n m) → (b ≡ false → Relates op n m → ⊥) → Describes x n → Describes y m → Describes (comparison op x y) (truth b)
compared_value op x y n m true holds fails left right = comparison-holds op x y n m left right (holds refl)
compared_value op x y n m false holds fails left right = comparison-fails op x y n m left right (fails refl)

pub less : (n m : ℤ) → int_lt n m ≡ true → n <ℤ m
less n m e = grind (arith, ints)

pub not_less : (n m : ℤ) → int_lt n m ≡ false → n <ℤ m → ⊥
not_less n m e below = grind (arith, ints)

pub at_most : (n m : ℤ) → int_le n m ≡ true → n ≤ℤ m
at_most n m e = grind (arith, ints)

pub not_at_most : (n m : ℤ) → int_le n m ≡ false → n ≤ℤ m → ⊥
not_at_most n m e below = grind (arith, ints)

pub equal : (n m : ℤ) → int_eq n m ≡ true → n ≡ m
equal n m e = grind (arith, ints)

pub not_equal : (n m : ℤ) → int_eq n m ≡ false → n ≡ m → ⊥
not_equal n m e same = grind (arith, ints)

pub not_true : (b : Bool) → not b ≡ true → b ≡ false
not_true true e = sym e
not_true false e = refl

pub not_false : (b : Bool) → not b ≡ false → b ≡ true
not_false true e = refl
not_false false e = sym e

-- the truth of a number is in the truth of its interval
pub Describes-truth : (y : Bounds) (m : ℤ) → Describes y m → Describes (truth_of y) (truth (not (is_zero m)))
Describes-truth y m within =
    compared_value Unequal y zero_alone m (pos 0) (not (is_zero m))
    (λ e same. not_equal m (pos 0) (not_true (is_zero m) e) same)
    (λ e other. other (equal m (pos 0) (not_false (is_zero m) e)))
    within (omega (arith, ints), omega (arith, ints))

unary_sound : (op : UnOp) (w : Width) (v : Bounds) (n : ℤ) → Describes v n → IsTrue (fits (unary_width op w) (unary_value op w n)) × Describes (unary_interval op w v) (unary_value op w n)
unary_sound Neg w v n within = (fits-conversion w (neg_ℤ n), Describes-conversion w (opposites v) (neg_ℤ n) (Describes-opposites v n within))
unary_sound Not w v n within = (
  fits_truth (is_zero n),
  compared_value Equal v zero_alone n (pos 0) (is_zero n) (equal n (pos 0)) (not_equal n (pos 0)) within (omega (arith, ints), omega (arith, ints)),
)

pub IsSoundValue-unary : (op : UnOp) (w : Width) (v : Option Bounds) (n : ℤ) → IsSoundValue w v (Ok n) → IsSoundValue (unary_width op w) (option_map (unary_interval op w) v) (Ok (unary_value op w n))
IsSoundValue-unary op w None n sound = absurd sound.1
IsSoundValue-unary op w (Some v) n sound = unary_sound op w v n sound.1

divided : (w : Width) (x y : Bounds) (n m : ℤ) (z : Bool) → int_eq m (pos 0) ≡ z → Describes x n → Describes y m → IsSoundValue w (option_map (converted_to w) (quotients x y)) (cond z (Err Fault) (Ok (conversion w (int_div n m))))
divided w x y n m true e left right = tt
divided W32 x y n m false e left right = (fits-conversion W32 (int_div n m), IsSomeAnd-fitted_quotients (interval_width_of W32) x y n m left right (not_equal m (pos 0) e))
divided W64 x y n m false e left right = (fits-conversion W64 (int_div n m), IsSomeAnd-fitted_quotients (interval_width_of W64) x y n m left right (not_equal m (pos 0) e))

remainder_is : (w : Width) (n m : ℤ) → IsTrue (fits w n) → conversion w (int_rem n m) ≡ int_rem n m
remainder_is w n m fit = conversion-wrapped w (int_rem n m) ∙ wrapped-int_rem (interval_width_of w) n m (IsOfWidth-fits w n fit)

remained : (w : Width) (x y : Bounds) (n m : ℤ) (z : Bool) → int_eq m (pos 0) ≡ z → IsTrue (fits w n) → Describes x n → Describes y m → IsSoundValue w (remainders x y) (cond z (Err Fault) (Ok (conversion w (int_rem n m))))
remained w x y n m true e fit left right = tt
remained w x y n m false e fit left right = (
  fits-conversion w (int_rem n m),
  subst (λ (r : ℤ). IsSomeAnd (remainders x y) (λ b. Describes b r)) (sym (remainder_is w n m fit)) (IsSomeAnd-remainders x y n m left right (not_equal m (pos 0) e)),
)

-- the operators on numbers, but for `&&` and `||`
numbers_sound : (op : BinOp) (v w : Width) (x y : Bounds) (n m : ℤ) → (op ≡ And → ⊥) → (op ≡ Or → ⊥) → IsTrue (fits v n) → Describes x n → Describes y m → IsSoundValue (binary_width op v w) (binary_interval op (wider v w) (Some x) (Some y)) (binary_value op (wider v w) n m)
numbers_sound Add v w x y n m first second fit left right = (fits-conversion (wider v w) _, Describes-conversion (wider v w) (sums x y) _ (Describes-sums x y n m left right))
numbers_sound Sub v w x y n m first second fit left right = (fits-conversion (wider v w) _, Describes-conversion (wider v w) (differences x y) _ (Describes-differences x y n m left right))
numbers_sound Mul v w x y n m first second fit left right = (fits-conversion (wider v w) _, Describes-conversion (wider v w) (products x y) _ (Describes-products x y n m left right))
numbers_sound Div v w x y n m first second fit left right = divided (wider v w) x y n m (int_eq m (pos 0)) refl left right
numbers_sound Rem v w x y n m first second fit left right = remained (wider v w) x y n m (int_eq m (pos 0)) refl (fits_wider_left v w n fit) left right
numbers_sound Lt v w x y n m first second fit left right = (fits_truth _, compared_value Less x y n m (int_lt n m) (less n m) (not_less n m) left right)
numbers_sound Le v w x y n m first second fit left right = (fits_truth _, compared_value AtMost x y n m (int_le n m) (at_most n m) (not_at_most n m) left right)
numbers_sound Gt v w x y n m first second fit left right = (fits_truth _, compared_value Greater x y n m (int_lt m n) (less m n) (not_less m n) left right)
numbers_sound Ge v w x y n m first second fit left right = (fits_truth _, compared_value AtLeast x y n m (int_le m n) (at_most m n) (not_at_most m n) left right)
numbers_sound Eq v w x y n m first second fit left right = (fits_truth _, compared_value Equal x y n m (int_eq n m) (equal n m) (not_equal n m) left right)
numbers_sound Ne v w x y n m first second fit left right =
    (fits_truth _, compared_value Unequal x y n m (not (int_eq n m)) (λ e. not_equal n m (not_true (int_eq n m) e)) (λ e other. other (equal n m (not_false (int_eq n m) e))) left right)
numbers_sound And v w x y n m first second fit left right = absurd (first refl)
numbers_sound Or v w x y n m first second fit left right = absurd (second refl)

pub IsSoundValue-numbers : (op : BinOp) (v w : Width) (x y : Option Bounds) (n m : ℤ) → (op ≡ And → ⊥) → (op ≡ Or → ⊥) → IsSoundValue v x (Ok n) → IsSoundValue w y (Ok m) → IsSoundValue (binary_width op v w) (binary_interval op (wider v w) x y) (binary_value op (wider v w) n m)
IsSoundValue-numbers op v w None y n m first second left right = absurd left.1
IsSoundValue-numbers op v w (Some x) None n m first second left right = absurd right.1
IsSoundValue-numbers op v w (Some x) (Some y) n m first second left right = numbers_sound op v w x y n m first second left.0 left.1 right.1

-- ---- `&&` and `||`

-- an interval that is surely 0 has no other number, and one that lacks 0 hasn't 0
pub surely_zero_is : (x : Bounds) (n : ℤ) → Describes x n → is_surely_zero x ≡ true → n ≡ pos 0
surely_zero_is x n within sure = Relates-surely Equal x zero_alone sure n (pos 0) within (omega (arith, ints), omega (arith, ints))

pub lacks_zero_is : (x : Bounds) (n : ℤ) → Describes x n → lacks_zero x ≡ true → n ≡ pos 0 → ⊥
lacks_zero_is x n within sure = Relates-surely Unequal x zero_alone sure n (pos 0) within (omega (arith, ints), omega (arith, ints))

hull_left : (a b : Bounds) (n : ℤ) → Describes a n → Describes (hull a b) n
hull_left a b n within = (omega (arith, ints, clamps), omega (arith, ints, clamps))

hull_right : (a b : Bounds) (n : ℤ) → Describes b n → Describes (hull a b) n
hull_right a b n within = (omega (arith, ints, clamps), omega (arith, ints, clamps))

decided_within : (d : ℤ) (r : Option Bounds) → Describes (joined_truth (between d d) r) d
decided_within d None = (omega (arith, ints), omega (arith, ints))
decided_within d (Some y) = hull_left (between d d) (truth_of y) d (omega (arith, ints), omega (arith, ints))

-- the value where the left operand decides alone
pub conjunction-early : (x : Bounds) (r : Option Bounds) (n : ℤ) → Describes x n → n ≡ pos 0 → IsSomeAnd (conjunction x r) (λ b. Describes b (pos 0))
conjunction-early x r n within zero =
    cond_both (is_surely_zero x) (Some zero_alone) (cond (lacks_zero x) (option_map truth_of r) (Some (joined_truth zero_alone r))) (λ o. IsSomeAnd o (λ b. Describes b (pos 0)))
    (λ sure. (omega (arith, ints), omega (arith, ints)))
    (λ unsure. cond_both (lacks_zero x) (option_map truth_of r) (Some (joined_truth zero_alone r)) (λ o. IsSomeAnd o (λ b. Describes b (pos 0)))
    (λ lacks. absurd (lacks_zero_is x n within lacks zero))
    (λ has. decided_within (pos 0) r))

pub disjunction-early : (x : Bounds) (r : Option Bounds) (n : ℤ) → Describes x n → (n ≡ pos 0 → ⊥) → IsSomeAnd (disjunction x r) (λ b. Describes b (pos 1))
disjunction-early x r n within other =
    cond_both (lacks_zero x) (Some one_alone) (cond (is_surely_zero x) (option_map truth_of r) (Some (joined_truth one_alone r))) (λ o. IsSomeAnd o (λ b. Describes b (pos 1)))
    (λ sure. (omega (arith, ints), omega (arith, ints)))
    (λ unsure. cond_both (is_surely_zero x) (option_map truth_of r) (Some (joined_truth one_alone r)) (λ o. IsSomeAnd o (λ b. Describes b (pos 1)))
    (λ zero. absurd (other (surely_zero_is x n within zero)))
    (λ has. decided_within (pos 1) r))

-- the right operand's truth where the left one doesn't decide
pub conjunction-late : (x y : Bounds) (n m : ℤ) → Describes x n → (n ≡ pos 0 → ⊥) → Describes y m → IsSomeAnd (conjunction x (Some y)) (λ b. Describes b (truth (not (is_zero m))))
conjunction-late x y n m within other right =
    cond_both (is_surely_zero x) (Some zero_alone) (cond (lacks_zero x) (Some (truth_of y)) (Some (hull zero_alone (truth_of y)))) (λ o. IsSomeAnd o (λ b. Describes b (truth (not (is_zero m)))))
    (λ zero. absurd (other (surely_zero_is x n within zero)))
    (λ unsure. cond_both (lacks_zero x) (Some (truth_of y)) (Some (hull zero_alone (truth_of y))) (λ o. IsSomeAnd o (λ b. Describes b (truth (not (is_zero m)))))
    (λ lacks. Describes-truth y m right)
    (λ has. hull_right zero_alone (truth_of y) (truth (not (is_zero m))) (Describes-truth y m right)))

pub disjunction-late : (x y : Bounds) (n m : ℤ) → Describes x n → n ≡ pos 0 → Describes y m → IsSomeAnd (disjunction x (Some y)) (λ b. Describes b (truth (not (is_zero m))))
disjunction-late x y n m within zero right =
    cond_both (lacks_zero x) (Some one_alone) (cond (is_surely_zero x) (Some (truth_of y)) (Some (hull one_alone (truth_of y)))) (λ o. IsSomeAnd o (λ b. Describes b (truth (not (is_zero m)))))
    (λ lacks. absurd (lacks_zero_is x n within lacks zero))
    (λ has. cond_both (is_surely_zero x) (Some (truth_of y)) (Some (hull one_alone (truth_of y))) (λ o. IsSomeAnd o (λ b. Describes b (truth (not (is_zero m)))))
    (λ sure. Describes-truth y m right)
    (λ unsure. hull_right one_alone (truth_of y) (truth (not (is_zero m))) (Describes-truth y m right)))
