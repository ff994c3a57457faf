-- The order in which faults are told: by place, and at one place by kind.
--
-- A reader should check: when a place comes before another, and the order of the kinds at one place.
use Rattle.std.specs.Prelude.{◌≡◌, ◌<◌, ◌≤◌, ◌⊎◌, ℕ, List, [], ◌∷◌, ⊤}
use Rattle.std.specs.List.{All, AllByRecursion, Contains}
use Rattle.gob_tree.specs.declared.place.Place.{Place}
use Rattle.c_check.specs.declared.fault.FrontFault.{FrontFault}
use Rattle.c_check.specs.declared.fault.FrontKind.{FrontKind}
use Rattle.c_check.specs.declared.fault.FrontKind.TheVariants.{BadLiteral, Undeclared, Redeclared, WrongKind, WrongArity}

-- on an earlier line, or on the same one further to the left
abbrev pub IsBefore : Place → Place → Type 0
IsBefore a b = (a.line < b.line) ⊎ ((a.line ≡ b.line) × (a.column < b.column))

-- the order of kinds at one place; the other kinds are none of the checks of names and kinds
abbrev pub rank : FrontKind → ℕ
rank BadLiteral = 0
rank Undeclared = 1
rank Redeclared = 2
rank WrongKind = 3
rank WrongArity = 4
rank other = 5

-- f comes no later than g: its place is before, or it is the same place and the kind no later one
abbrev pub IsNoLater : FrontFault → FrontFault → Type 0
IsNoLater f g = IsBefore f.place g.place ⊎ ((f.place ≡ g.place) × (rank f.kind ≤ rank g.kind))

-- each fault of the list comes no later than those behind it
abbrev pub Ascend : List FrontFault → Type 0
Ascend [] = ⊤
Ascend (f ∷ fs) = AllByRecursion (IsNoLater f) fs × Ascend fs

-- the fault is one of these, and comes no later than any of them
pub record IsLeast (fault : FrontFault) (faults : List FrontFault) : Type 0 where
  pub among : Contains faults fault
  pub least : All (IsNoLater fault) faults
