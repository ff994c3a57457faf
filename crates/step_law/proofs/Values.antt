-- Numbers of a width, and the values of slots.
use Rattle.std.proofs.Common.{◌≡◌, refl, ap, ℕ, zero, suc, ◌<◌, ℤ, pos, ◌≤ℤ◌, true, List, [], ◌∷◌, length, take, IsTrue, FitsSigned, arith}
use Rattle.std.specs.Prelude.{int_le, slice_index_or, slice_set}
use Rattle.std.proofs.lemmas.Int.{ints, int_wrap_fits, SFits-int_wrap}
use Rattle.std.proofs.lemmas.List.{get_or-set_other, get_or-set_same}
use Rattle.gob_tree.specs.Widths.{fits, greatest, lowest}
use Rattle.gob_tree.specs.declared.expr.Width.{Width}
use Rattle.gob_tree.specs.declared.expr.Width.TheVariants.{W32, W64}
use Rattle.gob_tree.specs.declared.unit.GlobalDecl.{GlobalDecl}
use Rattle.c_meaning.specs.Config.{global_width}
use Rattle.c_meaning.specs.Demand.{bits_of, conversion, value_at}
use Rattle.graph_law.specs.Fitting.{FitEach}
use Rattle.graph_law.proofs.Decoding.{both_true}

passes : (a b : ℤ) → int_le a b ≡ true → a ≤ℤ b
passes a b h = grind (arith, ints, h)

in_bits : (w : Width) (n : ℤ) → lowest w ≤ℤ n → n ≤ℤ greatest w → FitsSigned (bits_of w) n
in_bits W32 n low high = omega (arith, ints, low, high)
in_bits W64 n low high = omega (arith, ints, low, high)

-- a number of the width stays as it is
pub conversion_same : (w : Width) (n : ℤ) → IsTrue (fits w n) → conversion w n ≡ n
conversion_same w n h =
    let b = both_true (int_le (lowest w) n) (int_le n (greatest w)) h in
    int_wrap_fits (bits_of w) n (in_bits w n (passes (lowest w) n b.0) (passes n (greatest w) b.1))

pub conversion_twice : (w : Width) (n : ℤ) → conversion w (conversion w n) ≡ conversion w n
conversion_twice w n = int_wrap_fits (bits_of w) (conversion w n) (SFits-int_wrap (bits_of w) n)

pub conversion_zero : (w : Width) → conversion w (pos 0) ≡ pos 0
conversion_zero W32 = conversion_same W32 (pos 0) refl
conversion_zero W64 = conversion_same W64 (pos 0) refl

pub global_fits : (gs : List GlobalDecl) (ns : List ℤ) (g : ℕ) → FitEach gs ns → IsTrue (fits (global_width gs g) (slice_index_or ns g (pos 0)))
global_fits [] [] g fit = refl
global_fits [] (n ∷ ns) g fit = absurd fit
global_fits (d ∷ gs) [] g fit = absurd fit
global_fits (d ∷ gs) (n ∷ ns) zero fit = fit.0
global_fits (d ∷ gs) (n ∷ ns) (suc g) fit = global_fits gs ns g fit.1

-- ---- slots

pub take_set_in : (n : ℕ) (xs : List ℤ) (x : ℕ) (v : ℤ) → x < n → take n (slice_set xs x v) ≡ slice_set (take n xs) x v
take_set_in zero xs x v h = absurd (omega (arith, h))
take_set_in (suc n) [] x v h = refl
take_set_in (suc n) (y ∷ xs) zero v h = refl
take_set_in (suc n) (y ∷ xs) (suc x) v h = ap (λ (l : List ℤ). y ∷ l) (take_set_in n xs x v (omega (arith, h)))

pub set_behind : (xs : List ℤ) (x : ℕ) (v : ℤ) → 0 < x → value_at (slice_set xs x v) 0 ≡ value_at xs 0
set_behind xs x v h = get_or-set_other xs x 0 v (pos 0) (λ same. absurd (omega (arith, same, h)))

pub set_first : (xs : List ℤ) (v : ℤ) → 0 < length xs → value_at (slice_set xs 0 v) 0 ≡ v
set_first xs v h = get_or-set_same xs 0 v (pos 0) h

pub value_first : (n : ℕ) (xs : List ℤ) → 0 < n → value_at (take n xs) 0 ≡ value_at xs 0
value_first zero xs h = absurd (omega (arith, h))
value_first (suc n) [] h = refl
value_first (suc n) (x ∷ xs) h = refl
