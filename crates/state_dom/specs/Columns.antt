-- Intervals as two columns of numbers: the low ends, and the high ends.
use Rattle.std.specs.Prelude.{ℤ, ◌≤ℤ◌, List, [], ◌∷◌, FitsSigned}
use Rattle.std.specs.Int.{w64}
use Rattle.interval_dom.specs.Bounds.{Bounds, between}

-- the interval of each place
abbrev pub of_columns : List ℤ → List ℤ → List Bounds
of_columns [] his = []
of_columns (lo ∷ los) [] = []
of_columns (lo ∷ los) (hi ∷ his) = between lo hi ∷ of_columns los his

-- two numbers of 64 bits, the first not above the second
abbrev pub AreEnds : ℤ → ℤ → Type 0
AreEnds lo hi = FitsSigned w64 lo × FitsSigned w64 hi × (lo ≤ℤ hi)

-- the columns are equally long, and have the ends of an interval at each place
abbrev pub AreColumns : List ℤ → List ℤ → Type 0
AreColumns [] [] = Unit {0}
AreColumns [] (hi ∷ his) = ⊥
AreColumns (lo ∷ los) [] = ⊥
AreColumns (lo ∷ los) (hi ∷ his) = AreEnds lo hi × AreColumns los his
