-- The slots of a start.
use Rattle.std.proofs.Common.{pos, List, [], ◌∷◌, arith}
use Rattle.std.specs.Prelude.{length, replicate}
use Rattle.std.proofs.lemmas.Int.{ints}
use Rattle.gob_tree.specs.declared.expr.Width.{Width}
use Rattle.gob_tree.specs.declared.expr.Width.TheVariants.{W32, W64}
use Rattle.gob_tree.specs.declared.unit.Slot.{Slot}
use Rattle.interval_dom.specs.Bounds.{between, Covers}
use Rattle.interval_dom.specs.Ranges.{full}
use Rattle.state_dom.specs.Operators.{interval_width_of}
use Rattle.state_dom.specs.StateValue.{FitsEach}

-- [0,0] fits each width
pub zero_fits : (w : Width) → Covers (full (interval_width_of w)) (between (pos 0) (pos 0))
zero_fits W32 = (omega (arith, ints), omega (arith, ints))
zero_fits W64 = (omega (arith, ints), omega (arith, ints))

pub start_fits : (slots : List Slot) → FitsEach slots (replicate (length slots) (between (pos 0) (pos 0)))
start_fits [] = tt
start_fits (slot ∷ slots) = (zero_fits slot.width, start_fits slots)
