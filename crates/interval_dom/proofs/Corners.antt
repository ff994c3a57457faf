-- Where the results of an operation lie that rises or falls along each of its operands.
use Rattle.std.proofs.Common.{ℕ, suc, ◌+◌, ◌≤◌, ℤ, pos, negsuc, ◌≤ℤ◌, ◌*ℤ◌, neg_ℤ, arith}
use Rattle.std.specs.Int.{int_min, int_max}
use Rattle.std.proofs.lemmas.Int.{ints, clamps}
use Rattle.std.proofs.Math.Nat.{mul-le-mul_right}
use Rattle.std.proofs.Math.IntN.{*ℤ_comm}
use borrow.Author.Differences.{up, down, product_is}
use lib.IntN.{*ℤ-negsuc}
use Rattle.interval_dom.specs.Bounds.{Bounds, Describes}
use Rattle.interval_dom.specs.Ranges.{extremes, products}

-- q lies between p and r, whichever of the two is less
pub record IsBetween (p q r : ℤ) : Type 0 where
  pub low : int_min p r ≤ℤ q
  pub high : q ≤ℤ int_max p r

pub IsBetween-rising : (p q r : ℤ) → p ≤ℤ q → q ≤ℤ r → IsBetween p q r
IsBetween-rising p q r low high = record { low = omega (arith, ints, clamps); high = omega (arith, ints, clamps) }

pub IsBetween-falling : (p q r : ℤ) → r ≤ℤ q → q ≤ℤ p → IsBetween p q r
IsBetween-falling p q r low high = record { low = omega (arith, ints, clamps); high = omega (arith, ints, clamps) }

pub IsBetween-neg_ℤ : (p q r : ℤ) → IsBetween p q r → IsBetween (neg_ℤ r) (neg_ℤ q) (neg_ℤ p)
IsBetween-neg_ℤ p q r between = record { low = omega (arith, ints, clamps); high = omega (arith, ints, clamps) }

-- between two numbers, each of which lies between two of the four
pub Describes-extremes : (p q r s u v z : ℤ) → IsBetween p u q → IsBetween r v s → IsBetween u z v → Describes (extremes p q r s) z
Describes-extremes p q r s u v z first second both = (omega (arith, ints, clamps), omega (arith, ints, clamps))

product_rises : (x y : ℤ) (n : ℕ) → x ≤ℤ y → (x *ℤ pos n) ≤ℤ (y *ℤ pos n)
product_rises x y n below =
    let order : up x + down y ≤ up y + down x = omega (arith, ints) in
    omega (arith, ints, product_is x (pos n), product_is y (pos n), mul-le-mul_right n order)

pub IsBetween-*ℤ : (low x high y : ℤ) → low ≤ℤ x → x ≤ℤ high → IsBetween (low *ℤ y) (x *ℤ y) (high *ℤ y)
IsBetween-*ℤ low x high (pos n) first last = IsBetween-rising _ _ _ (product_rises low x n first) (product_rises x high n last)
IsBetween-*ℤ low x high (negsuc n) first last =
    IsBetween-falling _ _ _
    (omega (arith, ints, *ℤ-negsuc x n, *ℤ-negsuc high n, product_rises x high (suc n) last))
    (omega (arith, ints, *ℤ-negsuc x n, *ℤ-negsuc low n, product_rises low x (suc n) first))

pub Describes-products : (a b : Bounds) (x y : ℤ) → Describes a x → Describes b y → Describes (products a b) (x *ℤ y)
Describes-products a b x y (low, high) (low', high') =
    Describes-extremes _ _ _ _ (a.lo *ℤ y) (a.hi *ℤ y) (x *ℤ y) (along a.lo) (along a.hi) (IsBetween-*ℤ a.lo x a.hi y low high)
  where
    along : (z : ℤ) → IsBetween (z *ℤ b.lo) (z *ℤ y) (z *ℤ b.hi)
    along z = rw (*ℤ_comm z b.lo, *ℤ_comm z y, *ℤ_comm z b.hi) (IsBetween-*ℤ b.lo y b.hi z low' high')
