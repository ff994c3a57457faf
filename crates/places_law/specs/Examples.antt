-- Faults in order, and out of it.
use Rattle.std.specs.Prelude.{ℕ, List, [], ◌∷◌}
use Rattle.gob_tree.specs.declared.place.Place.{Place}
use Rattle.c_check.specs.declared.fault.FrontFault.{FrontFault}
use Rattle.c_check.specs.declared.fault.FrontKind.{FrontKind}
use Rattle.c_check.specs.declared.fault.FrontKind.TheVariants.{BadLiteral, Undeclared, Redeclared, WrongKind, WrongArity}
use Rattle.c_check.specs.Faults.{fault_at}

abbrev pub at : ℕ → ℕ → Place
at line column = record { line = line; column = column }

abbrev pub told : FrontKind → ℕ → ℕ → FrontFault
told kind line column = fault_at kind (at line column)

-- all kinds at one place, then a further column, then a lower one on the next line
abbrev pub in_order : List FrontFault
in_order =
    told BadLiteral 1 5 ∷ told Undeclared 1 5 ∷ told Redeclared 1 5 ∷ told WrongKind 1 5 ∷ told WrongArity 1 5
    ∷ told Undeclared 1 9 ∷ told Undeclared 2 3 ∷ told Undeclared 2 3 ∷ []

-- a later line first; a later column first; at one place the later kind first
abbrev pub late_line : List FrontFault
late_line = told Undeclared 2 3 ∷ told Undeclared 1 9 ∷ []

abbrev pub late_column : List FrontFault
late_column = told Undeclared 1 9 ∷ told Undeclared 1 5 ∷ []

abbrev pub late_kind : List FrontFault
late_kind = told WrongKind 1 5 ∷ told Redeclared 1 5 ∷ []
