-- An end of an interval that a raise moves comes to rest on a threshold.
use Rattle.std.proofs.Common.{◌≡◌, ◌⊎◌, inl, inr, refl, ℤ, List, [], ◌∷◌, arith}
use Rattle.std.specs.Prelude.{Contains, int_lt}
use Rattle.std.proofs.lemmas.Bool.{cond_both}
use Rattle.std.proofs.lemmas.Int.{ints}
use Rattle.gob_tree.specs.Widths.{lowest, greatest}
use Rattle.gob_tree.specs.declared.expr.Width.{Width}
use Rattle.gob_tree.specs.declared.expr.Width.TheVariants.{W32, W64}
use Rattle.gob_tree.specs.declared.unit.Slot.{Slot}
use Rattle.interval_dom.specs.Bounds.{Bounds, Covers}
use Rattle.interval_dom.specs.Marks.{mark_below, mark_above, widened, HasMarkBelow, HasMarkAbove}
use Rattle.interval_dom.proofs.Resting.{Contains-mark_below, Contains-mark_above}
use Rattle.state_dom.specs.Laws.{RaiseRests, HasEndsOfEach, RestsEach, Rests}
use Rattle.state_dom.specs.Operators.{full_of}
use Rattle.state_dom.specs.StateValue.{FitsEach, on_each}

mark_there_below : (w : Width) (marks : List ℤ) (y : Bounds) → Contains marks (lowest w) → Covers (full_of w) y → HasMarkBelow marks y.lo
mark_there_below W32 marks y one within = (lowest W32, one, (omega (arith, ints), within.0))
mark_there_below W64 marks y one within = (lowest W64, one, (omega (arith, ints), within.0))

mark_there_above : (w : Width) (marks : List ℤ) (y : Bounds) → Contains marks (greatest w) → Covers (full_of w) y → HasMarkAbove marks y.hi
mark_there_above W32 marks y one within = (greatest W32, one, (within.1, omega (arith, ints)))
mark_there_above W64 marks y one within = (greatest W64, one, (within.1, omega (arith, ints)))

widened_rests : (w : Width) (marks : List ℤ) (x y : Bounds) → Contains marks (lowest w) × Contains marks (greatest w) → Covers (full_of w) y → Rests marks x (widened x y marks)
widened_rests w marks x y ends within = (
  cond_both (int_lt y.lo x.lo) (mark_below marks y.lo) x.lo (λ r. (r ≡ x.lo) ⊎ Contains marks r) (λ moves. inr (Contains-mark_below marks y.lo (mark_there_below w marks y ends.0 within))) (λ stays. inl refl),
  cond_both (int_lt x.hi y.hi) (mark_above marks y.hi) x.hi (λ r. (r ≡ x.hi) ⊎ Contains marks r) (λ moves. inr (Contains-mark_above marks y.hi (mark_there_above w marks y ends.1 within))) (λ stays. inl refl),
)

each_rests : (marks : List ℤ) (slots : List Slot) (xs ys : List Bounds) → HasEndsOfEach marks slots → FitsEach slots xs → FitsEach slots ys → RestsEach marks xs (on_each (λ x y. widened x y marks) xs ys)
each_rests marks [] [] ys ends left right = refl
each_rests marks [] (x ∷ xs) ys ends left right = absurd left
each_rests marks (slot ∷ slots) [] ys ends left right = absurd left
each_rests marks (slot ∷ slots) (x ∷ xs) [] ends left right = absurd right
each_rests marks (slot ∷ slots) (x ∷ xs) (y ∷ ys) ends left right =
    (widened_rests slot.width marks x y ends.0 right.0, each_rests marks slots xs ys ends.1 left.1 right.1)

pub raise_rests : RaiseRests
raise_rests slots marks xs ys locks others ends left right = each_rests marks slots xs ys ends left right
