-- Faults, and the first one of several.
--
-- The faults of a unit are listed in the order of the text, and those at one place in the order BadLiteral,
-- Undeclared, Redeclared, WrongKind, WrongArity. So the first one of the list is the one that is told.
use Rattle.std.specs.Prelude.{◌≡◌, Bool, true, false, List, [], ◌∷◌, Result, MatchResult}
use Rattle.gob_tree.specs.declared.place.Place.{Place}
use Rattle.c_check.specs.declared.fault.FrontFault.{FrontFault}
use Rattle.c_check.specs.declared.fault.FrontKind.{FrontKind}
use Rattle.c_check.specs.declared.fault.FrontKind.TheVariants.{Memory}

abbrev pub fault_at : FrontKind → Place → FrontFault
fault_at kind place = record { kind = kind; place = place }

-- a rule that asks something of a place: one fault there where it is broken
abbrev pub asks : Bool → FrontKind → Place → List FrontFault
asks true kind place = []
asks false kind place = fault_at kind place ∷ []

-- the first line and the first byte, for what concerns the text as a whole
abbrev pub whole_text : Place
whole_text = record { line = 1; column = 1 }

abbrev pub want_of_memory : FrontFault
want_of_memory = fault_at Memory whole_text

-- The fault is the first of these. Want of memory may be told of any text, and tells nothing.
pub data IsFirst (fault : FrontFault) : List FrontFault → Type 0 where
  first : {others : List FrontFault} → IsFirst fault (fault ∷ others)
  no_memory : {faults : List FrontFault} → fault ≡ want_of_memory → IsFirst fault faults

-- The answer of a check: without a fault the value, and else the first fault.
abbrev pub Checks : {A : Type 0} → Result A FrontFault → List FrontFault → A → Type 0
Checks r faults value = MatchResult r (λ v. (faults ≡ []) × (v ≡ value)) (λ fault. IsFirst fault faults)

-- the same of a check that gives nothing
abbrev pub Passes : {A : Type 0} → Result A FrontFault → List FrontFault → Type 0
Passes r faults = MatchResult r (λ _. faults ≡ []) (λ fault. IsFirst fault faults)

-- the same of a check that also changes what is known: `new` is what is known then
abbrev pub Reads : {A S : Type 0} → Result A FrontFault → List FrontFault → A → S → S → Type 0
Reads r faults value new after = MatchResult r (λ v. (faults ≡ []) × (v ≡ value) × (new ≡ after)) (λ fault. IsFirst fault faults)
