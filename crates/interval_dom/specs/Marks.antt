-- Where an end of an interval comes to rest once it moves.
use Rattle.std.specs.Prelude.{ℤ, List, Contains, filter, fold, int_le, int_lt, if◌then◌else◌}
use Rattle.std.specs.Int.{int_min, int_max}
use Rattle.interval_dom.specs.declared.width.Width.TheVariants.{W64}
use Rattle.interval_dom.specs.Bounds.{Bounds, between, Describes}
use Rattle.interval_dom.specs.Ranges.{least, greatest}

-- the greatest mark that is at most n, or the least number of all where there is none
abbrev pub mark_below : List ℤ → ℤ → ℤ
mark_below marks n = fold int_max (least W64) (filter (λ m. int_le m n) marks)

-- the least mark that is at least n, or the greatest number of all where there is none
abbrev pub mark_above : List ℤ → ℤ → ℤ
mark_above marks n = fold int_min (greatest W64) (filter (λ m. int_le n m) marks)

-- the old interval, where an end that the new one moves outwards goes on to a mark
abbrev pub widened : Bounds → Bounds → List ℤ → Bounds
widened old new marks =
    between
    (if int_lt new.lo old.lo then mark_below marks new.lo else old.lo)
    (if int_lt old.hi new.hi then mark_above marks new.hi else old.hi)

-- some mark of 64 bits is at most n, or at least n
abbrev pub HasMarkBelow : List ℤ → ℤ → Type 0
HasMarkBelow marks n = (m : ℤ) × Contains marks m × Describes (between (least W64) n) m

abbrev pub HasMarkAbove : List ℤ → ℤ → Type 0
HasMarkAbove marks n = (m : ℤ) × Contains marks m × Describes (between n (greatest W64)) m
